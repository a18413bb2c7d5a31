-- the operators of the site host on two values
use Rattle.std.specs.Prelude.{◌^◌, Bool, true, false, cond, not, ◌&&◌, ℤ, pos, negsuc, ◌+ℤ◌, ◌-ℤ◌, Ok, Err, Result, ◌==◌, int_lt}
use Rattle.site.specs.declared.expr.Operator.{Operator}
use Rattle.site.specs.declared.expr.Operator.TheVariants as operator
use Rattle.site.specs.declared.value.Failure.{Failure}
use Rattle.site.specs.declared.value.Failure.TheVariants.{Overflow, WrongKind}
use Rattle.site.specs.declared.value.SiteValue.{SiteValue}
use Rattle.site.specs.declared.value.SiteValue.TheVariants as value

-- a value, or why there is none
abbrev pub Outcome : Type 0
Outcome = Result SiteValue Failure

-- an operator on numbers, which wants a number on either side
abbrev pub on_number : (ℤ → Outcome) → SiteValue → Outcome
on_number f value.Unit = Err WrongKind
on_number f (value.Truth b) = Err WrongKind
on_number f (value.Number y) = f y
on_number f (value.Range a b) = Err WrongKind

abbrev pub on_numbers : (ℤ → ℤ → Outcome) → SiteValue → SiteValue → Outcome
on_numbers f value.Unit right = Err WrongKind
on_numbers f (value.Truth b) right = Err WrongKind
on_numbers f (value.Number x) right = on_number (f x) right
on_numbers f (value.Range a b) right = Err WrongKind

-- from -2^63 to 2^63 - 1; negsuc n is -(n + 1)
abbrev pub fits64 : ℤ → Bool
fits64 z = int_lt z (pos (2 ^ 63)) && int_lt (negsuc (2 ^ 63)) z

-- the number z, if 64 bits hold it
abbrev pub number64 : ℤ → Outcome
number64 z = cond (fits64 z) (Ok (value.Number z)) (Err Overflow)

abbrev pub plus : SiteValue → SiteValue → Outcome
plus = on_numbers (λ x y. number64 (x +ℤ y))

abbrev pub minus : SiteValue → SiteValue → Outcome
minus = on_numbers (λ x y. number64 (x -ℤ y))

abbrev pub less : SiteValue → SiteValue → Outcome
less = on_numbers (λ x y. Ok (value.Truth (int_lt x y)))

abbrev pub range : SiteValue → SiteValue → Outcome
range = on_numbers (λ x y. Ok (value.Range x y))

-- equality wants two values of one kind
abbrev pub same_truth : Bool → Bool → Bool
same_truth true b = b
same_truth false b = not b

abbrev pub same_number : ℤ → ℤ → Bool
same_number (pos a) (pos b) = a == b
same_number (pos a) (negsuc b) = false
same_number (negsuc a) (pos b) = false
same_number (negsuc a) (negsuc b) = a == b

abbrev pub equal_unit : SiteValue → Outcome
equal_unit value.Unit = Ok (value.Truth true)
equal_unit (value.Truth b) = Err WrongKind
equal_unit (value.Number n) = Err WrongKind
equal_unit (value.Range a b) = Err WrongKind

abbrev pub equal_truth : Bool → SiteValue → Outcome
equal_truth t value.Unit = Err WrongKind
equal_truth t (value.Truth b) = Ok (value.Truth (same_truth t b))
equal_truth t (value.Number n) = Err WrongKind
equal_truth t (value.Range a b) = Err WrongKind

abbrev pub equal_number : ℤ → SiteValue → Outcome
equal_number n value.Unit = Err WrongKind
equal_number n (value.Truth b) = Err WrongKind
equal_number n (value.Number m) = Ok (value.Truth (same_number n m))
equal_number n (value.Range a b) = Err WrongKind

-- ranges are equal when both ends are
abbrev pub equal_range : ℤ → ℤ → SiteValue → Outcome
equal_range a b value.Unit = Err WrongKind
equal_range a b (value.Truth t) = Err WrongKind
equal_range a b (value.Number n) = Err WrongKind
equal_range a b (value.Range c d) = Ok (value.Truth (same_number a c && same_number b d))

abbrev pub equal : SiteValue → SiteValue → Outcome
equal value.Unit right = equal_unit right
equal (value.Truth t) right = equal_truth t right
equal (value.Number n) right = equal_number n right
equal (value.Range a b) right = equal_range a b right

abbrev pub operator_of : Operator → SiteValue → SiteValue → Outcome
operator_of operator.Add = plus
operator_of operator.Subtract = minus
operator_of operator.Less = less
operator_of operator.Equal = equal
operator_of operator.Range = range

-- an operand that has no value comes before the operator asks for kinds, and the left operand before the right one
abbrev pub on_right : (SiteValue → Outcome) → Outcome → Outcome
on_right f (Ok y) = f y
on_right f (Err e) = Err e

abbrev pub on_both : (SiteValue → SiteValue → Outcome) → Outcome → Outcome → Outcome
on_both f (Ok x) right = on_right (f x) right
on_both f (Err e) right = Err e
