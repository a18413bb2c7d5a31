-- a session: its calls, good and bad, and what each leaves
use Rattle.std.specs.Prelude.{ℕ, ◌+◌, Bool, true, false, cond, ◌&&◌, ◌||◌, List, [], ◌∷◌, ◌++◌, length, take, drop, replicate, Some, None, Option, Ok, Err, ◌==◌, nat_le, nat_lt, slice_index_or, slice_set}
use Rattle.image.specs.Rows.{text_of as rule_text}
use Rattle.rows.specs.declared.import.ImportRow.{ImportRow}
use Rattle.rows.specs.declared.place.Place.{Place}
use Rattle.rows.specs.declared.place.Source.TheVariants.{Site}
use Rattle.rows.specs.declared.variable.Access.TheVariants.{ReadWrite}
use Rattle.rows.specs.declared.variable.VarRow.{VarRow}
use Rattle.rows.specs.Places.{text_of}
use Rattle.rows.specs.Rows.{in_use, variable, blank_variable, blank_import}
use Rattle.names.specs.Lists.{last_named, name_in, rewound, shortened}
use Rattle.host.specs.Meaning.{HostMeaning, place_of}
use Rattle.resolve.specs.Answers.{Resolved}
use Rattle.outcome.specs.declared.Ending.TheVariants as ending
use Rattle.outcome.specs.declared.SessionRefusal.{SessionRefusal}
use Rattle.outcome.specs.declared.SessionRefusal.TheVariants.{Limits, Rows, Name, Full}
use Rattle.outcome.specs.Faults.{Outcome}
use Rattle.run.specs.Acts.{value, failed, broke, again, returned, exited}
use Rattle.run.specs.Statements.{whole}
use Rattle.run.specs.Walk.{Event, End, stopped, ended, Setting, State, Done, walk}

-- more rounds than any limit of operations allows
abbrev pub many_rounds : ℕ
many_rounds = 1000000001

-- how many rows of each table a call is lent, from the first on
pub record Lent : Type 0 where
  pub vars : ℕ
  pub imports : ℕ
  pub working : ℕ

pub data Call (V : Type 0) : Type 0 where
  -- a name of the site's text, by offset and length
  put : ℕ → ℕ → V → Call V
  read : ℕ → ℕ → Call V
  rewind : ℕ → Call V
  -- whether an exit counts as a value
  run : Bool → Call V

pub data Answer (V : Type 0) : Type 0 where
  refused : SessionRefusal → Answer V
  made : Answer V
  got : Option V → Answer V
  -- with the count
  ran : Outcome V → ℕ → Answer V

-- what a call counts: a run its operations; a refused run, and every other call, 0
abbrev pub count_of : {V : Type 0} → Answer V → ℕ
count_of (refused r) = 0
count_of made = 0
count_of (got v) = 0
count_of (ran o n) = n

-- what a session is opened with: the rule's image, the site's text and the limits
pub record Terms : Type 0 where
  pub rule : List ℕ
  pub site : List ℕ
  pub operations : ℕ
  pub names : ℕ
  pub modules : ℕ

-- limits that a session may have
abbrev pub limited : Terms → Bool
limited t = (nat_le 1 t.operations && nat_le t.operations 1000000000) && ((nat_le 1 t.names && nat_le t.names 126) && nat_le t.modules 16)

-- the end of a run as its outcome; no rule that passes the check ends by a break or continue
abbrev pub outcome_of : {V : Type 0} → V → Bool → End V → Outcome V
outcome_of unit exit (stopped p) = Err (ending.Stopped p)
outcome_of unit exit (ended (value v)) = Ok v
outcome_of unit exit (ended (failed f)) = Err (ending.Failed f)
outcome_of unit exit (ended (broke v)) = Ok v
outcome_of unit exit (ended again) = Ok unit
outcome_of unit exit (ended (returned v)) = Ok v
outcome_of unit true (ended (exited p v)) = Ok v
outcome_of unit false (ended (exited p v)) = Err (ending.Exited v p)

module _ (S V W : Type 0) where
  -- the session's numbers, the host, and the caller's tables
  pub record World : Type 0 where
    pub names : ℕ
    pub bound : ℕ
    pub host : S
    pub vars : List (VarRow V)
    pub imports : List ImportRow
    pub working : List W

  -- a call with what was before and after it, and what it noted
  pub record Entry : Type 0 where
    pub was : World
    pub answer : Answer V
    pub log : List Event
    pub now : World

module _ {S V W : Type 0} (m : HostMeaning S V) (idle : W) (resolver : ℕ → Resolved) (t : Terms) where
  -- rows laid over the first ones of a table
  abbrev pub laid : {A : Type 0} → ℕ → List A → List A → List A
  laid n rows table = rows ++ drop n table

  -- fewer rows lent than a session needs
  abbrev pub short : Lent → World S V W → Bool
  short l u =
      nat_lt (length (take l.vars u.vars)) (t.names + 2)
      || (nat_lt (length (take l.imports u.imports)) 16 || nat_lt (length (take l.working u.working)) 64)

  -- a name that is empty, or outside the site's text
  abbrev pub nameless : ℕ → ℕ → Bool
  nameless offset size = size == 0 || nat_lt (length t.site) (offset + size)

  abbrev pub site_name : ℕ → ℕ → Place
  site_name offset size = record { source = Site; offset = offset; length = size }

  abbrev pub setting : Setting
  setting = record { rule = rule_text t.rule; site = t.site; names = t.names; modules = t.modules }

  abbrev pub same : World S V W → Answer V → Entry S V W
  same u a = record { was = u; answer = a; log = []; now = u }

  -- the names, and the rows lent for them, anew
  abbrev pub renamed : World S V W → ℕ → List (VarRow V) → ℕ → Entry S V W
  renamed u lent rows n = record {
    was = u;
    answer = made;
    log = [];
    now = record { names = n; bound = u.bound; host = u.host; vars = laid lent rows u.vars; imports = u.imports; working = u.working };
  }

  -- a run begins with count 0, no imports, no modules loaded, level 0 and the mark off; names remain
  abbrev pub start : Lent → World S V W → State S V
  start l u = record {
    host = u.host;
    vars = take l.vars u.vars;
    names = u.names;
    imports = rewound blank_import (take l.imports u.imports) u.bound 0;
    bound = 0;
    loaded = 0;
    level = 0;
    mark = false;
    count = 0;
  }

  abbrev pub ended' : Lent → Bool → World S V W → Done S V (End V) → Entry S V W
  ended' l exit u d = record {
    was = u;
    answer = ran (outcome_of m.unit exit d.out) d.state.count;
    log = d.log;
    now = record {
      names = d.state.names;
      bound = d.state.bound;
      host = d.state.host;
      vars = laid l.vars d.state.vars u.vars;
      imports = laid l.imports d.state.imports u.imports;
      working = laid l.working (replicate (length (take l.working u.working)) idle) u.working;
    };
  }

  abbrev pub runs : ℕ → Lent → Bool → World S V W → Entry S V W
  runs limit l exit u = ended' l exit u (walk m setting limit many_rounds (whole m resolver t.rule) (start l u))

  -- a test that refuses; a refused call changes nothing
  abbrev pub refusing : Bool → SessionRefusal → World S V W → Entry S V W → Entry S V W
  refusing true r u e = same u (refused r)
  refusing false r u e = e

  abbrev pub value_at : List (VarRow V) → Option ℕ → Option V
  value_at rows None = None
  value_at rows (Some i) = Some (slice_index_or rows i (blank_variable m.unit)).value

  -- the last value of a name
  abbrev pub last_value : Lent → World S V W → Place → Option V
  last_value l u p =
      value_at (take l.vars u.vars)
      (last_named (name_in place_of (rule_text t.rule) t.site) (text_of p (rule_text t.rule) t.site) (in_use (take l.vars u.vars) u.names))

  -- one name more, by a put
  abbrev pub putting : Lent → ℕ → ℕ → V → World S V W → Entry S V W
  putting l offset size v u = renamed u l.vars (slice_set (take l.vars u.vars) u.names (variable (site_name offset size) ReadWrite v)) (u.names + 1)

  abbrev pub rewinding : Lent → ℕ → World S V W → Entry S V W
  rewinding l n u =
      renamed u l.vars (rewound (blank_variable m.unit) (take l.vars u.vars) u.names n) (shortened (take l.vars u.vars) u.names n)

  -- the tests of each call in their order, and what it does
  abbrev pub call : ℕ → Lent → Call V → World S V W → Entry S V W
  call limit l (put offset size v) u =
      refusing (short l u) Rows u (refusing (nameless offset size) Name u (refusing (nat_le t.names u.names) Full u (putting l offset size v u)))
  call limit l (read offset size) u =
      refusing (short l u) Rows u (refusing (nameless offset size) Name u (same u (got (last_value l u (site_name offset size)))))
  call limit l (rewind n) u = refusing (short l u) Rows u (rewinding l n u)
  call limit l (run exit) u = refusing (short l u) Rows u (runs limit l exit u)

  -- a list of calls, one after another
  unfoldable pub calls : ℕ → List (Lent × Call V) → World S V W → List (Entry S V W)
  calls limit [] u = []
  calls limit (c ∷ cs) u = let e = call limit c.0 c.1 u in e ∷ calls limit cs e.now

  -- opening blanks all rows that are lent
  abbrev pub opened : Lent → S → List (VarRow V) → List ImportRow → List W → World S V W
  opened l host vars imports working = record {
    names = 0;
    bound = 0;
    host = host;
    vars = laid l.vars (replicate (length (take l.vars vars)) (blank_variable m.unit)) vars;
    imports = laid l.imports (replicate (length (take l.imports imports)) blank_import) imports;
    working = laid l.working (replicate (length (take l.working working)) idle) working;
  }

  -- why opening is refused, if it is: a limit out of its range, or too few rows
  abbrev pub open_refusal : Lent → S → List (VarRow V) → List ImportRow → List W → Option SessionRefusal
  open_refusal l host vars imports working =
      cond (limited t)
      (cond (short l (record { names = 0; bound = 0; host = host; vars = vars; imports = imports; working = working })) (Some Rows) None)
      (Some Limits)
