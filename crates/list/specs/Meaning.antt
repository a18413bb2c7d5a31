-- the meaning of the list host
use Rattle.std.specs.Prelude.{ℕ, ◌+◌, Bool, true, false, cond, List, length, None, Ok, Err, nat_lt, slice_index_or}
use Rattle.host.specs.declared.answers.Halt.TheVariants as halt
use Rattle.host.specs.declared.answers.Fault.{Fault}
use Rattle.host.specs.declared.answers.NoItem.TheVariants.{NotIterable}
use Rattle.host.specs.Answers.{Allowed, Evaluated, number}
use Rattle.host.specs.Meaning.{HostMeaning}
use Rattle.list.specs.declared.list_host.ListEntry.{ListEntry}
use Rattle.list.specs.declared.list_host.ListEntry.TheVariants.{Value, Exit}
use Rattle.list.specs.declared.list_host.ListHost.{ListHost}
use Rattle.list.specs.declared.value.ListValue.{ListValue}
use Rattle.list.specs.Values.{valued, unit_is, of_truth, of_whole, truth_in, path_in, whole_in}

abbrev pub entry_answer : ListEntry → Evaluated ListValue
entry_answer (Value v) = Ok (valued v)
entry_answer (Exit v) = Err (halt.Exit (valued v))

-- the list is used up: fault 1, not catchable, no position
abbrev pub used_up : Fault
used_up = record { code = 1; at = record { line = 0; column = 0 }; catchable = false }

-- what the next evaluation answers
abbrev pub next_answer : List ListEntry → ℕ → Evaluated ListValue
next_answer entries next = cond (nat_lt next (length entries)) (entry_answer (slice_index_or entries next (Value 0))) (Err (halt.Fault used_up))

-- one entry on; past the last it stays
abbrev pub onward : List ListEntry → ℕ → ℕ
onward entries next = cond (nat_lt next (length entries)) (next + 1) next

-- no, if the name is there already
abbrev pub unless_present : Bool → Allowed
unless_present true = Ok false
unless_present false = Ok true

-- evaluate takes an entry, and no call changes a variable
abbrev pub list_meaning : HostMeaning ListHost ListValue
list_meaning = record {
  evaluate = λ s code seen. record {
    state = record { entries = s.entries; next = onward s.entries.now s.next };
    rows = seen.rows;
    answer = next_answer s.entries.now s.next;
  };
  allow = λ s declaration seen. record { state = s; rows = seen.rows; answer = unless_present declaration.present };
  apply = λ op left right. Ok None;
  binary = λ op left right. Ok None;
  unit = valued 0;
  make_truth = of_truth;
  make_whole = of_whole;
  is_unit = unit_is;
  truth = truth_in;
  whole = whole_in;
  path = path_in;
  item = λ v i. Err NotIterable;
  caught = λ fault. of_whole (number fault);
}
