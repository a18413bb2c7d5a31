-- what a session promises, for every host and resolver and every list of calls
use Rattle.std.specs.Prelude.{◌≡◌, ℕ, ◌<◌, ◌≤◌, Bool, true, false, ◌⊎◌, List, [], ◌∷◌, ◌++◌, map, Some, None, Ok, ◌==◌}
use Rattle.rule.specs.Checked.{Lawful, checked}
use Rattle.rows.specs.declared.import.ImportRow.{ImportRow}
use Rattle.rows.specs.declared.place.Place.{Place}
use Rattle.rows.specs.declared.variable.VarRow.{VarRow}
use Rattle.rows.specs.Rows.{in_use}
use Rattle.host.specs.Meaning.{HostMeaning, place_of}
use Rattle.resolve.specs.Answers.{Resolved}
use Rattle.outcome.specs.Faults.{Outcome, outcome_number}
use Rattle.run.specs.Says.{After, appended_at, BlocksKeep}
use Rattle.run.specs.Session.{many_rounds, Lent, Call, Answer, refused, made, got, ran, count_of, Terms, World, Entry, calls, opened, open_refusal}
use Rattle.run.specs.Statements.{whole}
use Rattle.run.specs.Walk.{Event, Setting, State, walk}

-- the names of a session: the places of the variables in use
abbrev pub names_of : {S V W : Type 0} → World S V W → List Place
names_of u = map place_of (in_use u.vars u.names)

-- stopped for operations: number 12
abbrev pub stopped_run : {V : Type 0} → Outcome V → Bool
stopped_run o = outcome_number o == 12

abbrev pub stops : {V : Type 0} → Answer V → Bool
stops (refused r) = false
stops made = false
stops (got v) = false
stops (ran o n) = stopped_run o

-- what holds of the count of a call
pub record Within (rule : List ℕ) (limit : ℕ) (stop : Bool) (count : ℕ) : Type 0 where
  -- stopped for operations it counted exactly the limit plus one, else at most the limit
  pub counted : After limit stop count
  -- no more than the quote that the check gave
  pub quoted : (q : ℕ) → checked rule ≡ Ok (Some q) → count ≤ q

-- what holds of the names and the inner blocks of a run
pub record Ran (limit : ℕ) (before after : List Place) (log : List Event) (used : ℕ) : Type 0 where
  -- the names are those before, then in order exactly those that a let or the host appended at level 0
  pub appended : after ≡ before ++ appended_at 0 log
  -- every inner block ended with the names, imports, level and mark of its start
  pub blocks : BlocksKeep log
  -- names never pass their limit
  pub few : used ≤ limit

module _ {S V W : Type 0} where
  -- by a call's answer: a run as above; what is refused changes nothing, and neither does a read
  abbrev pub Holds : Terms → Entry S V W → Answer V → Type 0
  Holds t e (refused r) = e.now ≡ e.was
  Holds t e made = Unit {0}
  Holds t e (got v) = e.now ≡ e.was
  Holds t e (ran o n) = Ran t.names (names_of e.was) (names_of e.now) e.log e.now.names

  -- of each call
  abbrev pub Each : Terms → ℕ → List (Entry S V W) → Type 0
  Each t limit [] = Unit {0}
  Each t limit (e ∷ es) = Within t.rule limit (stops e.answer) (count_of e.answer) × Holds t e e.answer × Each t limit es

  -- the same calls, answers, tables and events, until a run of the first stops for operations
  abbrev pub Agree : List (Entry S V W) → List (Entry S V W) → Type 0
  Agree [] [] = Unit {0}
  Agree [] (f ∷ fs) = ⊥
  Agree (e ∷ es) [] = ⊥
  Agree (e ∷ es) (f ∷ fs) = (stops e.answer ≡ true) ⊎ ((e ≡ f) × Agree es fs)

-- Over every host and resolver: from a just opened session of a rule that passed the check, after every list of calls, good
-- and bad, what holds of runs holds of each; and a second session, alike in everything but a limit of operations that is not
-- lower, agrees with the first until that stops for operations.
abbrev pub Promise : {S V : Type 0} (W : Type 0) → HostMeaning S V → (ℕ → Resolved) → Type 0
Promise {S} {V} W m resolver =
    (idle : W) (t : Terms) (l : Lent) (host : S) (vars : List (VarRow V)) (imports : List ImportRow) (working : List W) →
    Lawful t.rule → open_refusal m idle resolver t l host vars imports working ≡ None →
    (high : ℕ) → t.operations ≤ high → (cs : List (Lent × Call V)) →
    let u = opened m idle resolver t l host vars imports working in
    let es = calls m idle resolver t t.operations cs u in
    Each t t.operations es × Agree es (calls m idle resolver t high cs u)

-- Every run ends: under any limit that a session may have, it is the same run however many rounds past that limit its loops
-- are looked at for.
abbrev pub EveryRunEnds : {S V : Type 0} → HostMeaning S V → (ℕ → Resolved) → Type 0
EveryRunEnds {S} {V} m resolver =
    (rule : List ℕ) (w : Setting) (limit rounds : ℕ) (s : State S V) → limit < many_rounds → limit < rounds → s.count ≤ limit →
    walk m w limit rounds (whole m resolver rule) s ≡ walk m w limit many_rounds (whole m resolver rule) s
