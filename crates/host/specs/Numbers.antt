-- numbers as hosts read and count them
use Rattle.std.specs.Prelude.{ℕ, cond, ℤ, pos, negsuc, ◌+ℤ◌, Some, None, Option, int_lt, nat_le}

-- a number from 0 to most; negsuc n is below 0
abbrev pub number_up_to : ℕ → ℤ → Option ℕ
number_up_to most (pos n) = cond (nat_le n most) (Some n) None
number_up_to most (negsuc n) = None

-- number i of those from a up to b, which is left out
abbrev pub number_in : ℤ → ℤ → ℕ → Option ℤ
number_in a b i = cond (int_lt (a +ℤ pos i) b) (Some (a +ℤ pos i)) None
