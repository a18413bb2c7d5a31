-- what the entries of a script answer
use Rattle.std.specs.Prelude.{ℕ, Bool, true, false, List, length, pos, Ok, Err, ◌==◌}
use Rattle.rows.specs.declared.variable.Access.{Access}
use Rattle.rows.specs.declared.variable.Access.TheVariants as access
use Rattle.host.specs.declared.answers.Halt.TheVariants as halt
use Rattle.host.specs.Answers.{Allowed, Evaluated}
use Rattle.host.specs.declared.view.Declaration.{Declaration}
use Rattle.script.specs.declared.answer.AllowAnswer.{AllowAnswer}
use Rattle.script.specs.declared.answer.AllowAnswer.TheVariants.{Yes, No, Fault as Refused, Present, Constant, Level}
use Rattle.script.specs.declared.answer.EvalAnswer.{EvalAnswer}
use Rattle.script.specs.declared.answer.EvalAnswer.TheVariants.{Value, Fault as Failed, Exit, Code, Mark, Names, Row as RowBack}
use Rattle.script.specs.declared.value.ScriptValue.{ScriptValue}
use Rattle.script.specs.declared.value.ScriptValue.TheVariants.{Number, Truth}
use Rattle.script.specs.Effects.{Row, back_of, value_in}
use Rattle.script.specs.Values.{count_of}

-- the answer of an evaluation for a code, under a mark, where so many names are in use of these rows
abbrev pub answer_in : ℕ → Bool → List Row → ℕ → EvalAnswer → Evaluated ScriptValue
answer_in code mark rows names (Value v) = Ok v
answer_in code mark rows names (Failed f) = Err (halt.Fault f)
answer_in code mark rows names (Exit v) = Err (halt.Exit v)
answer_in code mark rows names Code = Ok (Number (pos code))
answer_in code mark rows names Mark = Ok (Truth mark)
answer_in code mark rows names Names = Ok (count_of names)
answer_in code mark rows names (RowBack k) = Ok (value_in rows (back_of names k))

-- the same where all of the rows are in use
abbrev pub eval_answer : ℕ → Bool → List Row → EvalAnswer → Evaluated ScriptValue
eval_answer code mark rows answer = answer_in code mark rows (length rows) answer

abbrev pub yes_if : Bool → Allowed
yes_if true = Ok true
yes_if false = Ok false

abbrev pub constant_is : Access → Bool
constant_is access.ReadWrite = false
constant_is access.Constant = true

-- the answer to a declaration
abbrev pub allow_answer : Declaration → AllowAnswer → Allowed
allow_answer d Yes = Ok true
allow_answer d No = Ok false
allow_answer d (Refused f) = Err f
allow_answer d Present = yes_if d.present
allow_answer d Constant = yes_if (constant_is d.access)
allow_answer d (Level n) = yes_if (d.level == n)
