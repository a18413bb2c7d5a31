-- what a tree does to the state of a run
use Rattle.std.specs.Prelude.{ℕ, zero, suc, ◌+◌, ◌-◌, min, Bool, true, false, cond, ◌||◌, List, [], ◌∷◌, ◌++◌, map, length, drop, is_some, Some, None, Option, nat_le, nat_lt, slice_index_or, slice_set}
use Rattle.image.specs.declared.rows.Position.{Position}
use Rattle.rows.specs.declared.import.ImportRow.{ImportRow}
use Rattle.rows.specs.declared.place.Place.{Place}
use Rattle.rows.specs.declared.variable.Access.TheVariants.{ReadWrite}
use Rattle.rows.specs.declared.variable.VarRow.{VarRow}
use Rattle.rows.specs.Places.{text_of}
use Rattle.rows.specs.Rows.{in_use, revalued, redeclared, blank_variable, import, blank_import}
use Rattle.names.specs.Lists.{appended, last_named, name_in, rewound, shortened}
use Rattle.host.specs.Meaning.{HostMeaning, Seen, Step, over, place_of}
use Rattle.run.specs.Acts.{Out, value, failed, broke, again, returned, exited, By, letting, evaluating, allowing, looping, catching, Found, found, missing, beyond, Act, ask, permit, room, declare, find, store, redeclare, another, load, Reply, Turn, over as is_over, sets, Tree, done, charge, act, seq, inner, binding, rounds, items}

-- the names, imports, level and search mark: what an inner block puts back
pub record Frame : Type 0 where
  pub names : List Place
  pub imports : List ImportRow
  pub level : ℕ
  pub mark : Bool

-- what is noted at its step: a name appended, at a level and by whom; an inner block's start and end
pub data Event : Type 0 where
  added : ℕ → By → Place → Event
  block : Frame → Frame → Event

-- stopped for operations at a position, or ended
pub data End (V : Type 0) : Type 0 where
  stopped : Position → End V
  ended : Out V → End V

-- what does not change in a run: both texts, and the limits of variables and modules
pub record Setting : Type 0 where
  pub rule : List ℕ
  pub site : List ℕ
  pub names : ℕ
  pub modules : ℕ

module _ (S V : Type 0) where
  -- the tables that are lent, whole, with the numbers of rows in use, and what else a run has
  pub record State : Type 0 where
    pub host : S
    pub vars : List (VarRow V)
    pub names : ℕ
    pub imports : List ImportRow
    pub bound : ℕ
    pub loaded : ℕ
    pub level : ℕ
    pub mark : Bool
    pub count : ℕ

  pub record Done (A : Type 0) : Type 0 where
    pub out : A
    pub state : State
    pub log : List Event

module _ {S V : Type 0} (m : HostMeaning S V) (set' : Setting) where
  abbrev Now : Type 0
  Now = State S V

  abbrev pub frame : State S V → Frame
  frame s = record { names = map place_of (in_use s.vars s.names); imports = in_use s.imports s.bound; level = s.level; mark = s.mark }

  -- events before those of what follows
  abbrev pub noting : {A : Type 0} → List Event → Done S V A → Done S V A
  noting log d = record { out = d.out; state = d.state; log = log ++ d.log }

  abbrev pub charged : State S V → State S V
  charged s = record { host = s.host; vars = s.vars; names = s.names; imports = s.imports; bound = s.bound; loaded = s.loaded; level = s.level; mark = s.mark; count = suc s.count }

  abbrev pub with_rows : List (VarRow V) → ℕ → State S V → State S V
  with_rows vars n s = record { host = s.host; vars = vars; names = n; imports = s.imports; bound = s.bound; loaded = s.loaded; level = s.level; mark = s.mark; count = s.count }

  -- how many names there may be: as many as the limit says, and as there are rows
  abbrev pub most : State S V → ℕ
  most s = min set'.names (length s.vars)

  -- what a host sees
  abbrev pub sees : State S V → Seen V
  sees s = record { rows = in_use s.vars s.names; rule = set'.rule; site = set'.site; mark = s.mark; limit = most s }

  -- a step of the host: names that it added put the mark on
  abbrev pub hosted : {A : Type 0} → By → State S V → Step S V A → Done S V A
  hosted by s e = record {
    out = e.answer;
    state = record {
      host = e.state;
      vars = over e.rows s.vars;
      names = length e.rows;
      imports = s.imports;
      bound = s.bound;
      loaded = s.loaded;
      level = s.level;
      mark = s.mark || nat_lt s.names (length e.rows);
      count = s.count;
    };
    log = map (λ r. added s.level by (place_of r)) (drop s.names e.rows);
  }

  -- the row of a name, the last one with its bytes
  abbrev pub named : State S V → Place → Option ℕ
  named s p = last_named (name_in place_of set'.rule set'.site) (text_of p set'.rule set'.site) (in_use s.vars s.names)

  abbrev pub row_at : State S V → ℕ → Found V
  row_at s i = found i (slice_index_or s.vars i (blank_variable m.unit))

  abbrev pub by_name : State S V → Option ℕ → Found V
  by_name s None = missing
  by_name s (Some i) = row_at s i

  -- an index counts back from the last name, which is 1
  abbrev pub by_index : State S V → ℕ → Found V
  by_index s r = cond (nat_le r s.names) (row_at s (s.names - r)) beyond

  -- by index, if there is one and the mark is off; else by name
  abbrev pub sought : State S V → Place → Option ℕ → Found V
  sought s p None = by_name s (named s p)
  sought s p (Some r) = cond s.mark (by_name s (named s p)) (by_index s r)

  abbrev pub changed : State S V → ℕ → (VarRow V → VarRow V) → State S V
  changed s i f = with_rows (slice_set s.vars i (f (slice_index_or s.vars i (blank_variable m.unit)))) s.names s

  -- one name more, if there may be one
  abbrev pub pushed : Bool → By → VarRow V → State S V → Done S V (Unit {0})
  pushed true by r s = record { out = tt; state = with_rows (slice_set s.vars s.names r) (s.names + 1) s; log = added s.level by (place_of r) ∷ [] }
  pushed false by r s = record { out = tt; state = s; log = [] }

  abbrev pub push : By → VarRow V → State S V → Done S V (Unit {0})
  push by r s = pushed (nat_lt s.names (most s)) by r s

  -- one module more, if there may be one
  abbrev pub loaded : Bool → Place → ℕ → State S V → State S V
  loaded true p m' s = record {
    host = s.host;
    vars = s.vars;
    names = s.names;
    imports = appended s.imports s.bound (import p m');
    bound = cond (nat_lt s.bound (length s.imports)) (s.bound + 1) s.bound;
    loaded = s.loaded + 1;
    level = s.level;
    mark = s.mark;
    count = s.count;
  }
  loaded false p m' s = s

  abbrev pub loading : Place → ℕ → State S V → State S V
  loading p m' s = loaded (nat_lt s.loaded set'.modules) p m' s

  abbrev pub silent : {A : Type 0} → A → State S V → Done S V A
  silent a s = record { out = a; state = s; log = [] }

  abbrev pub perform : (a : Act V) → State S V → Done S V (Reply a)
  perform (ask c) s = hosted evaluating s (m.evaluate s.host c (sees s))
  perform (permit p a) s =
      hosted allowing s (m.allow s.host (record { name = p; access = a; level = s.level; present = is_some (named s p) }) (sees s))
  perform (room k) s = silent (nat_le (s.names + k) (most s)) s
  perform (declare r) s = push letting r s
  perform (find p i) s = silent (sought s p i) s
  perform (store i v) s = silent tt (changed s i (λ r. revalued r v))
  perform (redeclare i a v) s = silent tt (changed s i (λ r. redeclared r a v))
  perform another s = silent (nat_lt s.loaded set'.modules) s
  perform (load p m') s = silent tt (loading p m' s)

  -- the names down to n, the others given up
  abbrev pub cut_names : ℕ → State S V → State S V
  cut_names n s = with_rows (rewound (blank_variable m.unit) s.vars s.names n) (shortened s.vars s.names n) s

  abbrev pub enter : State S V → State S V
  enter s = record { host = s.host; vars = s.vars; names = s.names; imports = s.imports; bound = s.bound; loaded = s.loaded; level = suc s.level; mark = s.mark; count = s.count }

  -- names, imports, level and mark as they were
  abbrev pub leave : State S V → State S V → State S V
  leave was s = record {
    host = s.host;
    vars = rewound (blank_variable m.unit) s.vars s.names was.names;
    names = shortened s.vars s.names was.names;
    imports = rewound blank_import s.imports s.bound was.bound;
    bound = shortened s.imports s.bound was.bound;
    loaded = s.loaded;
    level = was.level;
    mark = was.mark;
    count = s.count;
  }

  abbrev pub ends_with : Out V → State S V → Done S V (End V)
  ends_with o s = record { out = ended o; state = s; log = [] }

  -- stopped for operations, or on with the outcome
  abbrev pub go_on : End V → State S V → List Event → (Out V → State S V → Done S V (End V)) → Done S V (End V)
  go_on (stopped p) s log k = record { out = stopped p; state = s; log = log }
  go_on (ended o) s log k = noting log (k o s)

  -- after a round: the next one, or the end of the loop
  abbrev pub after_round : (State S V → Done S V (End V)) → Out V → State S V → Done S V (End V)
  after_round next (value v) s = next s
  after_round next again s = next s
  after_round next (broke v) s = ends_with (value v) s
  after_round next (failed f) s = ends_with (failed f) s
  after_round next (returned v) s = ends_with (returned v) s
  after_round next (exited p v) s = ends_with (exited p v) s

  -- rounds from number i on, at most n; that there may be so many never shows
  unfoldable pub turns : ℕ → (ℕ → State S V → Done S V (End V)) → ℕ → State S V → Done S V (End V)
  turns zero f i s = ends_with (value m.unit) s
  turns (suc n) f i s = let d = f i s in go_on d.out d.state d.log (after_round (turns n f (suc i)))

  -- several names more
  abbrev pub push_all : By → List (VarRow V) → State S V → Done S V (Unit {0})
  push_all by [] s = silent tt s
  push_all by (r ∷ rs) s = let d = push by r s in noting d.log (push_all by rs d.state)

  -- new values for names, which become read-write, from row i on
  abbrev pub set_all : ℕ → List V → State S V → State S V
  set_all i [] s = s
  set_all i (v ∷ vs) s = set_all (suc i) vs (changed s i (λ r. redeclared r ReadWrite v))

  -- the end of an inner block
  abbrev pub leaving : State S V → Done S V (End V) → Done S V (End V)
  leaving was d = let now = leave was d.state in record { out = d.out; state = now; log = d.log ++ (block (frame was) (frame now) ∷ []) }

  -- the end of names down to n
  abbrev pub dropping : ℕ → Done S V (End V) → Done S V (End V)
  dropping n d = record { out = d.out; state = cut_names n d.state; log = d.log }

  -- over names of its own
  abbrev pub owning : By → List (VarRow V) → State S V → (State S V → Done S V (End V)) → Done S V (End V)
  owning by rows s f = let d = push_all by rows s in dropping s.names (noting d.log (f d.state))

  -- a charge within the limit, or past it
  abbrev pub pay : Bool → Position → State S V → (State S V → Done S V (End V)) → Done S V (End V)
  pay true p s next = next (charged s)
  pay false p s next = record { out = stopped p; state = charged s; log = [] }

  module _ (limit many : ℕ) where
    abbrev pub paid : Position → State S V → (State S V → Done S V (End V)) → Done S V (End V)
    paid p s next = pay (nat_lt s.count limit) p s next

    -- the body of a loop over items: a charge where it is empty, else an inner block
    abbrev pub bodied : Bool → Position → (State S V → Done S V (End V)) → State S V → Done S V (End V)
    bodied true p f s = paid p s (ends_with (value m.unit))
    bodied false p f s = leaving s (f (enter s))

    -- a round over items: its end, or the values for the names from row `first` on, and the body
    abbrev pub turned : ℕ → Bool → Position → (State S V → Done S V (End V)) → Turn V → State S V → Done S V (End V)
    turned first empty p f (is_over o) s = ends_with o s
    turned first empty p f (sets vs) s = bodied empty p f (set_all first vs s)

    -- loops are looked at for `many` rounds
    unfoldable pub walk : Tree V → State S V → Done S V (End V)
    walk (done o) s = ends_with o s
    walk (charge p t) s = paid p s (walk t)
    walk (act a k) s = let d = perform a s in noting d.log (walk (k d.out) d.state)
    walk (seq t k) s = let d = walk t s in go_on d.out d.state d.log (λ o. walk (k o))
    walk (inner t) s = leaving s (walk t (enter s))
    walk (binding r t) s = owning catching (r ∷ []) s (λ q. leaving q (walk t (enter q)))
    walk (rounds t) s = turns many (λ i. walk t) 0 s
    walk (items rows f empty p t) s = owning looping rows s (turns many (λ i. turned s.names empty p (walk t) (f i)) 0)
