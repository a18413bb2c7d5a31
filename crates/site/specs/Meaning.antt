-- the site host's answers to every call
use Rattle.std.specs.Prelude.{ℕ, true, cond, List, pos, Some, None, Ok, Err, ◌==◌}
use Rattle.host.specs.declared.answers.Halt.TheVariants as halt
use Rattle.host.specs.Answers.{Allowed, Applied, Evaluated}
use Rattle.host.specs.declared.answers.Caught.{Caught}
use Rattle.host.specs.declared.answers.Fault.{Fault}
use Rattle.host.specs.declared.view.Declaration.{Declaration}
use Rattle.host.specs.Answers.{number}
use Rattle.host.specs.Meaning.{HostMeaning, Seen, Step}
use Rattle.site.specs.declared.calls.TableHost.{TableHost}
use Rattle.site.specs.declared.expr.SiteExpr.{SiteExpr}
use Rattle.site.specs.declared.value.Failure.{Failure}
use Rattle.site.specs.declared.value.Failure.TheVariants.{Overflow, UnknownVariable, WrongKind, UnknownCode}
use Rattle.site.specs.declared.value.SiteValue.{SiteValue}
use Rattle.site.specs.declared.value.SiteValue.TheVariants as value
use Rattle.site.specs.Expressions.{answer_of}
use Rattle.site.specs.Operators.{Outcome, plus, minus}
use Rattle.site.specs.Tables.{expr_at}
use Rattle.site.specs.Questions.{is_unit, truth_of, whole_of, path_of, item_of}

abbrev pub code_of : Failure → ℕ
code_of Overflow = 1
code_of UnknownVariable = 2
code_of WrongKind = 3
code_of UnknownCode = 4

-- every fault can be caught and has no position
abbrev pub fault_of : Failure → Fault
fault_of f = record { code = code_of f; at = record { line = 0; column = 0 }; catchable = true }

-- evaluate answers a value or a fault, and never exit
abbrev pub evaluated_of : Outcome → Evaluated SiteValue
evaluated_of (Ok x) = Ok x
evaluated_of (Err f) = Err (halt.Fault (fault_of f))

abbrev pub applied_of : Outcome → Applied SiteValue
applied_of (Ok x) = Ok (Some x)
applied_of (Err f) = Err (fault_of f)

-- apply knows 1, which is +
abbrev pub applies : ℕ → SiteValue → SiteValue → Applied SiteValue
applies op a b = cond (op == 1) (applied_of (plus a b)) (Ok None)

-- binary knows 1, which is +, and 2, which is -
abbrev pub combines : ℕ → SiteValue → SiteValue → Applied SiteValue
combines op a b = cond (op == 1) (applied_of (plus a b)) (cond (op == 2) (applied_of (minus a b)) (Ok None))

-- a caught fault is its number
abbrev pub caught_as : Caught → SiteValue
caught_as f = value.Number (pos (number f))

-- exprs gives the expressions that a table of kind T has; neither state nor variables change
abbrev pub site_evaluate : {T : Type 0} → (T → List SiteExpr) → TableHost T → ℕ → Seen SiteValue → Step (TableHost T) SiteValue (Evaluated SiteValue)
site_evaluate exprs s code v = record { state = s; rows = v.rows; answer = evaluated_of (answer_of (expr_at (exprs s.table) code) v) }

-- every name may be declared
abbrev pub site_allow : {T : Type 0} → TableHost T → Declaration → Seen SiteValue → Step (TableHost T) SiteValue Allowed
site_allow s d v = record { state = s; rows = v.rows; answer = Ok true }

-- the meaning of the site host over a table of any kind T
abbrev pub site_meaning : {T : Type 0} → (T → List SiteExpr) → HostMeaning (TableHost T) SiteValue
site_meaning exprs = record {
  evaluate = site_evaluate exprs;
  allow = site_allow;
  apply = applies;
  binary = combines;
  unit = value.Unit;
  make_truth = value.Truth;
  make_whole = λ n. value.Number (pos n);
  is_unit = is_unit;
  truth = truth_of;
  whole = whole_of;
  path = path_of;
  item = item_of;
  caught = caught_as;
}
