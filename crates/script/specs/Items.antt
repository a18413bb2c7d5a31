-- the items of ranges and of short sequences
use Rattle.std.specs.Prelude.{ℕ, ◌*◌, ◌/◌, ◌%◌, true, false, cond, ◌&&◌, ℤ, pos, Some, None, Ok, Err, ◌==◌, nat_le, nat_lt}
use Rattle.std.specs.Option.{option_map}
use Rattle.host.specs.declared.answers.Fault.{Fault}
use Rattle.host.specs.Answers.{Item}
use Rattle.host.specs.Numbers.{number_in}
use Rattle.host.specs.declared.answers.NoItem.TheVariants.{Fault as Failed, NotIterable}
use Rattle.script.specs.declared.value.ScriptValue.{ScriptValue}
use Rattle.script.specs.declared.value.ScriptValue.TheVariants.{Unit as TheUnit, Truth, Number, Range, Seq}
use Rattle.script.specs.Operators.{fault_at}

-- a + i while that is below b
abbrev pub range_item : ℤ → ℤ → ℕ → Item ScriptValue
range_item a b i = Ok (option_map Number (number_in a b i))

abbrev pub fault_of_kind : ℕ → Fault
fault_of_kind kind = cond (kind == 1) (fault_at 61 0 0 true) (cond (kind == 2) (fault_at 62 90 91 true) (fault_at 63 0 0 false))

-- item i of a sequence that is long as said, with a faulty item at one index if its kind is not 0
abbrev pub seq_at : (long faulty kind i : ℕ) → Item ScriptValue
seq_at long faulty kind i =
    cond (nat_le long i) (Ok None) (cond (nat_lt 0 kind && i == faulty) (Err (Failed (fault_of_kind kind))) (Ok (Some (Number (pos (i * 10))))))

-- k is three digits: the kind of the fault, its index, the length
abbrev pub seq_item : ℕ → ℕ → Item ScriptValue
seq_item k i = cond (nat_lt k 1000) (seq_at (k % 10) (k / 10 % 10) (k / 100 % 10) i) (Err NotIterable)

abbrev pub item_of : ScriptValue → ℕ → Item ScriptValue
item_of (Range a b) i = range_item a b i
item_of (Seq k) i = seq_item k i
item_of TheUnit i = Err NotIterable
item_of (Truth b) i = Err NotIterable
item_of (Number n) i = Err NotIterable
