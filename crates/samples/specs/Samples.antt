-- samples: a rule image, a host and a list of calls, and what they answer
use Rattle.std.specs.Prelude.{◌≡◌, ℕ, ◌-◌, Bool, true, false, cond, List, [], ◌∷◌, map, length, replicate, pos, negsuc, Some, None, Ok, Err, Option, Result, ◌==◌}
use Rattle.image.specs.declared.refusal.Refusal.{Refusal}
use Rattle.image.specs.Refusals.{number}
use Rattle.rule.specs.Checked.{checked}
use Rattle.rows.specs.declared.import.ImportRow.{ImportRow}
use Rattle.rows.specs.declared.place.Place.{Place}
use Rattle.rows.specs.declared.place.Source.{Source}
use Rattle.rows.specs.declared.variable.VarRow.{VarRow}
use Rattle.rows.specs.Rows.{in_use, variable, blank_variable, blank_import}
use Rattle.host.specs.declared.answers.Fault.{Fault}
use Rattle.host.specs.Meaning.{HostMeaning}
use Rattle.resolve.specs.Answers.{Resolved}
use Rattle.resolve.specs.declared.table.PathRow.{PathRow}
use Rattle.resolve.specs.Pair.{unless_found}
use Rattle.resolve.specs.Table.{first_of}
use Rattle.outcome.specs.declared.SessionRefusal.{SessionRefusal}
use Rattle.outcome.specs.Faults.{Data, nothing, name, operator, path, code, value, Told, told as told_of, refusal_number}
use Rattle.list.specs.declared.list_host.ListEntry.{ListEntry}
use Rattle.list.specs.declared.value.ListValue.{ListValue}
use Rattle.list.specs.Meaning.{list_meaning, next_answer, onward, unless_present}
use Rattle.list.specs.Values.{valued, of_truth, of_whole}
use Rattle.site.specs.declared.calls.TableHost.{TableHost}
use Rattle.site.specs.declared.expr.SiteExpr.{SiteExpr}
use Rattle.site.specs.declared.value.SiteValue.{SiteValue}
use Rattle.site.specs.declared.value.SiteValue.TheVariants as w
use Rattle.site.specs.Meaning.{site_meaning}
use Rattle.script.specs.declared.answer.AllowAnswer.{AllowAnswer}
use Rattle.script.specs.declared.answer.EvalAnswer.{EvalAnswer}
use Rattle.script.specs.declared.effect.Effect.{Effect}
use Rattle.script.specs.declared.value.ScriptValue.{ScriptValue}
use Rattle.script.specs.declared.value.ScriptValue.TheVariants as v
use Rattle.script.specs.Answers.{eval_answer, allow_answer}
use Rattle.script.specs.Effects.{both_done}
use Rattle.script.specs.Meaning.{EvalEntry, AllowEntry, script_meaning, eval_entry, allow_entry, turned}
use Rattle.run.specs.Session.{Lent, Call, put, read, rewind, run, Answer, refused as refused_call, made as made_call, got as got_call, ran as ran_call, Terms, Entry, calls, opened, open_refusal}

abbrev pub place : Source → ℕ → ℕ → Place
place s o n = record { source = s; offset = o; length = n }

abbrev pub fault : ℕ → ℕ → ℕ → Bool → Fault
fault c line column t = record { code = c; at = record { line = line; column = column }; catchable = t }

abbrev pub row : ℕ → Resolved → PathRow
row p r = record { path = p; answer = r }

abbrev pub lend : ℕ → ℕ → ℕ → Lent
lend a b c = record { vars = a; imports = b; working = c }

abbrev pub evaluation : Option Effect → Option Effect → EvalAnswer → EvalEntry
evaluation a b x = record { first = a; second = b; answer = x }

abbrev pub declaration : Option Effect → Option Effect → AllowAnswer → AllowEntry
declaration a b x = record { first = a; second = b; answer = x }

-- what the check says: a quote or none, or a refusal
pub data Verdict : Type 0 where
  passes : Option ℕ → Verdict
  fails : ℕ → Verdict

abbrev pub verdict : Result (Option ℕ) Refusal → Verdict
verdict (Ok q) = passes q
verdict (Err r) = fails (number r)

-- what a call says; a run also shows the names and the imports in use
pub data Shown : Type 0 where
  refused : ℕ → Shown
  made : Shown
  got : Option ScriptValue → Shown
  ran : Told ScriptValue → ℕ → List (VarRow ScriptValue) → List ImportRow → Shown

abbrev pub told : ℕ → Data ScriptValue → ℕ → ℕ → Told ScriptValue
told n d line column = record { number = n; holds = d; at = record { line = line; column = column } }

pub data HostOf : Type 0 where
  site : List SiteExpr → HostOf
  scripted : List EvalEntry → List AllowEntry → HostOf
  listed : List ListEntry → HostOf

pub record Sample : Type 0 where
  pub image : List ℕ
  pub text : List ℕ
  pub operations : ℕ
  pub names : ℕ
  pub modules : ℕ
  pub host : HostOf
  pub first : List PathRow
  pub second : List PathRow
  pub opening : Lent
  pub calls : List (Lent × Call ScriptValue)
  pub check : Verdict
  pub answers : List Shown

-- values of the site host among those of the scripted one
abbrev pub to_site : ScriptValue → SiteValue
to_site v.Unit = w.Unit
to_site (v.Truth b) = w.Truth b
to_site (v.Number n) = w.Number n
to_site (v.Range a b) = w.Range a b
to_site (v.Seq k) = w.Unit

abbrev pub from_site : SiteValue → ScriptValue
from_site w.Unit = v.Unit
from_site (w.Truth b) = v.Truth b
from_site (w.Number n) = v.Number n
from_site (w.Range a b) = v.Range a b

-- values of the list host among those of the scripted one
abbrev pub to_list : ScriptValue → ListValue
to_list v.Unit = valued 0
to_list (v.Truth b) = of_truth b
to_list (v.Number (pos n)) = of_whole n
to_list (v.Number (negsuc n)) = valued 0
to_list (v.Range a b) = valued 0
to_list (v.Seq k) = valued 0

abbrev pub from_list : ListValue → ScriptValue
from_list x = cond (x.0 == 0) v.Unit (cond (x.0 == 1) (v.Truth false) (cond (x.0 == 2) (v.Truth true) (v.Number (pos (x.0 - 3)))))

abbrev pub same : ScriptValue → ScriptValue
same x = x

-- the scripted host over plain lists
pub record Script : Type 0 where
  pub evals : List EvalEntry
  pub allows : List AllowEntry
  pub evaluations : ℕ
  pub declarations : ℕ

abbrev pub plain_script : HostMeaning Script ScriptValue
plain_script = record {
  evaluate = λ s c seen.
      let x = eval_entry s.evals s.evaluations in
      let rows = both_done seen.limit seen.rows x.first x.second in
      record {
        state = record { evals = s.evals; allows = s.allows; evaluations = turned s.evaluations (length s.evals); declarations = s.declarations };
        rows = rows;
        answer = eval_answer c seen.mark rows x.answer;
      };
  allow = λ s d seen.
      let x = allow_entry s.allows s.declarations in
      record {
        state = record { evals = s.evals; allows = s.allows; evaluations = s.evaluations; declarations = turned s.declarations (length s.allows) };
        rows = both_done seen.limit seen.rows x.first x.second;
        answer = allow_answer d x.answer;
      };
  apply = script_meaning.apply;
  binary = script_meaning.binary;
  unit = script_meaning.unit;
  make_truth = script_meaning.make_truth;
  make_whole = script_meaning.make_whole;
  is_unit = script_meaning.is_unit;
  truth = script_meaning.truth;
  whole = script_meaning.whole;
  path = script_meaning.path;
  item = script_meaning.item;
  caught = script_meaning.caught;
}

-- the list host over a plain list
pub record Listing : Type 0 where
  pub entries : List ListEntry
  pub next : ℕ

abbrev pub plain_list : HostMeaning Listing ListValue
plain_list = record {
  evaluate = λ s c seen. record {
    state = record { entries = s.entries; next = onward s.entries s.next };
    rows = seen.rows;
    answer = next_answer s.entries s.next;
  };
  allow = λ s d seen. record { state = s; rows = seen.rows; answer = unless_present d.present };
  apply = list_meaning.apply;
  binary = list_meaning.binary;
  unit = list_meaning.unit;
  make_truth = list_meaning.make_truth;
  make_whole = list_meaning.make_whole;
  is_unit = list_meaning.is_unit;
  truth = list_meaning.truth;
  whole = list_meaning.whole;
  path = list_meaning.path;
  item = list_meaning.item;
  caught = list_meaning.caught;
}

abbrev pub plain_site : HostMeaning (TableHost (List SiteExpr)) SiteValue
plain_site = site_meaning (λ x. x)

abbrev pub resolver : Sample → ℕ → Resolved
resolver s p = unless_found (first_of s.first p) (first_of s.second p)

abbrev pub terms : Sample → Terms
terms s = record { rule = s.image; site = s.text; operations = s.operations; names = s.names; modules = s.modules }

abbrev pub numbered : Option SessionRefusal → Option ℕ
numbered None = None
numbered (Some r) = Some (refusal_number r)

module _ {S V : Type 0} (m : HostMeaning S V) (to : ScriptValue → V) (from : V → ScriptValue) where
  abbrev pub given : Call ScriptValue → Call V
  given (put o n x) = put o n (to x)
  given (read o n) = read o n
  given (rewind n) = rewind n
  given (run e) = run e

  abbrev pub given_all : List (Lent × Call ScriptValue) → List (Lent × Call V)
  given_all [] = []
  given_all (c ∷ cs) = (c.0, given c.1) ∷ given_all cs

  abbrev pub data_of : Data V → Data ScriptValue
  data_of nothing = nothing
  data_of (name p) = name p
  data_of (operator n) = operator n
  data_of (path n) = path n
  data_of (code n) = code n
  data_of (value x) = value (from x)

  abbrev pub gotten : Option V → Option ScriptValue
  gotten None = None
  gotten (Some x) = Some (from x)

  abbrev pub shown : Entry S V (Unit {0}) → Answer V → Shown
  shown e (refused_call r) = refused (refusal_number r)
  shown e made_call = made
  shown e (got_call x) = got (gotten x)
  shown e (ran_call o n) =
      ran (record { number = (told_of o).number; holds = data_of (told_of o).holds; at = (told_of o).at }) n
      (map (λ r. variable r.place r.access (from r.value)) (in_use e.now.vars e.now.names)) (in_use e.now.imports e.now.bound)

  abbrev pub shown_all : List (Entry S V (Unit {0})) → List Shown
  shown_all [] = []
  shown_all (e ∷ es) = shown e e.answer ∷ shown_all es

  -- tables of 128, 16 and 64 rows
  abbrev pub vars : List (VarRow V)
  vars = replicate 128 (blank_variable m.unit)

  abbrev pub imports : List ImportRow
  imports = replicate 16 blank_import

  abbrev pub working : List (Unit {0})
  working = replicate 64 tt

  abbrev pub session : Option ℕ → S → Sample → List Shown
  session (Some n) host s = refused n ∷ []
  session None host s =
      shown_all (calls m tt (resolver s) (terms s) s.operations (given_all s.calls) (opened m tt (resolver s) (terms s) s.opening host vars imports working))

  abbrev pub refusal : S → Sample → Option ℕ
  refusal host s = numbered (open_refusal m tt (resolver s) (terms s) s.opening host vars imports working)

abbrev pub site_over : List SiteExpr → TableHost (List SiteExpr)
site_over exprs = record { table = exprs }

abbrev pub script_over : List EvalEntry → List AllowEntry → Script
script_over evals allows = record { evals = evals; allows = allows; evaluations = 0; declarations = 0 }

abbrev pub list_over : List ListEntry → Listing
list_over entries = record { entries = entries; next = 0 }

abbrev pub played_by : {S V : Type 0} → HostMeaning S V → (ScriptValue → V) → (V → ScriptValue) → S → Sample → List Shown
played_by m to from host s = session m to from (refusal m to from host s) host s

abbrev pub played : HostOf → Sample → List Shown
played (site exprs) s = played_by plain_site to_site from_site (site_over exprs) s
played (scripted evals allows) s = played_by plain_script same same (script_over evals allows) s
played (listed entries) s = played_by plain_list to_list from_list (list_over entries) s

-- every sample comes out as its row says
abbrev pub Stands : List Sample → Type 0
Stands table =
    (map (λ s. verdict (checked s.image)) table ≡ map (λ s. s.check) table)
    × (map (λ s. played s.host s) table ≡ map (λ s. s.answers) table)
