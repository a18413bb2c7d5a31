-- the values of the scripted host, and what is read of them
use Rattle.std.specs.Prelude.{ℕ, ◌++◌, codes, decimal, List, ◌-◌, ◌^◌, min, Bool, true, false, ℤ, pos, Some, None, Option}
use Rattle.std.specs.Fmt.{signed_decimal}
use Rattle.host.specs.Numbers as numbers
use Rattle.script.specs.declared.value.ScriptValue.{ScriptValue}
use Rattle.script.specs.declared.value.ScriptValue.TheVariants.{Unit as TheUnit, Truth, Number, Range, Seq}

-- a count as a value; one past the largest number stands as the largest
abbrev pub count_of : ℕ → ScriptValue
count_of n = Number (pos (min n (2 ^ 63 - 1)))

abbrev pub unit_is : ScriptValue → Bool
unit_is TheUnit = true
unit_is (Truth b) = false
unit_is (Number n) = false
unit_is (Range a b) = false
unit_is (Seq k) = false

abbrev pub truth_in : ScriptValue → Option Bool
truth_in (Truth b) = Some b
truth_in TheUnit = None
truth_in (Number n) = None
truth_in (Range a b) = None
truth_in (Seq k) = None

-- a whole number, if it is at most as large as said
abbrev pub at_most : ℕ → ℤ → Option ℕ
at_most = numbers.number_up_to

-- the number in a value, if it is one from 0 up to most
abbrev pub number_up_to : ℕ → ScriptValue → Option ℕ
number_up_to most (Number n) = at_most most n
number_up_to most TheUnit = None
number_up_to most (Truth b) = None
number_up_to most (Range a b) = None
number_up_to most (Seq k) = None

-- a value in words
abbrev pub shown : ScriptValue → List ℕ
shown TheUnit = codes "unit"
shown (Truth true) = codes "true"
shown (Truth false) = codes "false"
shown (Number n) = signed_decimal n
shown (Range a b) = signed_decimal a ++ codes ".." ++ signed_decimal b
shown (Seq k) = codes "seq " ++ decimal k
