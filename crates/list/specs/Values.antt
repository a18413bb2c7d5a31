-- values are numbers: 0 unit, 1 false, 2 true, and n from 3 on the number n - 3
use Rattle.std.specs.Prelude.{ℕ, decimal, List, ◌+◌, ◌-◌, ◌^◌, min, Bool, true, false, cond, ◌&&◌, Some, None, Option, ◌==◌, nat_le}
use Rattle.host.specs.Meaning.{most_whole}
use Rattle.list.specs.declared.value.ListValue.{ListValue}

abbrev pub valued : ℕ → ListValue
valued n = record { 0 = n }

abbrev pub of_truth : Bool → ListValue
of_truth true = valued 2
of_truth false = valued 1

-- the value of a number; a number that no value of 32 bits stands for is the largest value
abbrev pub of_whole : ℕ → ListValue
of_whole n = valued (min (n + 3) (2 ^ 32 - 1))

abbrev pub unit_is : ListValue → Bool
unit_is v = v.0 == 0

abbrev pub truth_in : ListValue → Option Bool
truth_in v = cond (v.0 == 1) (Some false) (cond (v.0 == 2) (Some true) None)

abbrev pub path_in : ListValue → Option ℕ
path_in v = cond (nat_le 3 v.0) (Some (v.0 - 3)) None

-- the same, but of numbers up to 1,000,000,000 only
abbrev pub whole_in : ListValue → Option ℕ
whole_in v = cond (nat_le 3 v.0 && nat_le (v.0 - 3) most_whole) (Some (v.0 - 3)) None

-- a value is told by its number
abbrev pub shown : ListValue → List ℕ
shown v = decimal v.0
