-- the meaning of the scripted host
use Rattle.std.specs.Prelude.{ℕ, ◌+◌, ◌-◌, ◌%◌, ◌^◌, cond, List, length, pos, None, ◌==◌, slice_index_or}
use Rattle.host.specs.declared.view.Declaration.{Declaration}
use Rattle.host.specs.Answers.{Allowed, Evaluated, number}
use Rattle.host.specs.Meaning.{HostMeaning, Seen, Step, most_whole}
use Rattle.script.specs.declared.answer.AllowAnswer.{AllowAnswer}
use Rattle.script.specs.declared.answer.AllowAnswer.TheVariants.{Yes}
use Rattle.script.specs.declared.answer.EvalAnswer.{EvalAnswer}
use Rattle.script.specs.declared.answer.EvalAnswer.TheVariants.{Value}
use Rattle.script.specs.declared.entry.Entry.{Entry}
use Rattle.script.specs.declared.script_host.ScriptHost.{ScriptHost}
use Rattle.script.specs.declared.value.ScriptValue.{ScriptValue}
use Rattle.script.specs.declared.value.ScriptValue.TheVariants.{Unit as TheUnit, Truth, Number}
use Rattle.script.specs.Answers.{eval_answer, allow_answer}
use Rattle.script.specs.Effects.{both_done}
use Rattle.script.specs.Items.{item_of}
use Rattle.script.specs.Operators.{changing, joining}
use Rattle.script.specs.Values.{unit_is, truth_in, number_up_to}

-- an entry for either call, as the source's aliases have them
abbrev pub EvalEntry : Type 0
EvalEntry = Entry EvalAnswer

abbrev pub AllowEntry : Type 0
AllowEntry = Entry AllowAnswer

-- with no entries, nothing is done, and the answer is unit, or yes
abbrev pub no_eval : EvalEntry
no_eval = record { first = None; second = None; answer = Value TheUnit }

abbrev pub no_allow : AllowEntry
no_allow = record { first = None; second = None; answer = Yes }

-- the entry that is due, by how many came before, modulo how many there are; another where there are none
abbrev pub entry_at : {A : Type 0} → List (Entry A) → ℕ → Entry A → Entry A
entry_at entries count other = cond (length entries == 0) other (slice_index_or entries (count % length entries) other)

abbrev pub eval_entry : List EvalEntry → ℕ → EvalEntry
eval_entry evals count = entry_at evals count no_eval

abbrev pub allow_entry : List AllowEntry → ℕ → AllowEntry
allow_entry allows count = entry_at allows count no_allow

-- one more, counted modulo n
abbrev pub turned : ℕ → ℕ → ℕ
turned count n = cond (n == 0) count ((count % n + 1) % n)

-- an evaluation by an entry: its two effects, then its answer
abbrev pub evaluated : ScriptHost → ℕ → Seen ScriptValue → EvalEntry → Step ScriptHost ScriptValue (Evaluated ScriptValue)
evaluated s code seen entry = record {
  state = record { evals = s.evals; allows = s.allows; evaluations = turned s.evaluations (length s.evals.now); declarations = s.declarations };
  rows = both_done seen.limit seen.rows entry.first entry.second;
  answer = eval_answer code seen.mark (both_done seen.limit seen.rows entry.first entry.second) entry.answer;
}

-- a declaration by an entry
abbrev pub declared : ScriptHost → Declaration → Seen ScriptValue → AllowEntry → Step ScriptHost ScriptValue Allowed
declared s d seen entry = record {
  state = record { evals = s.evals; allows = s.allows; evaluations = s.evaluations; declarations = turned s.declarations (length s.allows.now) };
  rows = both_done seen.limit seen.rows entry.first entry.second;
  answer = allow_answer d entry.answer;
}

abbrev pub script_meaning : HostMeaning ScriptHost ScriptValue
script_meaning = record {
  evaluate = λ s code seen. evaluated s code seen (eval_entry s.evals.now s.evaluations);
  allow = λ s d seen. declared s d seen (allow_entry s.allows.now s.declarations);
  apply = changing;
  binary = joining;
  unit = TheUnit;
  make_truth = Truth;
  make_whole = λ n. Number (pos n);
  is_unit = unit_is;
  truth = truth_in;
  whole = number_up_to most_whole;
  path = number_up_to (2 ^ 32 - 1);
  item = item_of;
  caught = λ fault. Number (pos (number fault));
}
