-- a run as a tree of acts: what comes after what
use Rattle.std.specs.Prelude.{ℕ, Bool, List, Option}
use Rattle.image.specs.declared.rows.Position.{Position}
use Rattle.rows.specs.declared.place.Place.{Place}
use Rattle.rows.specs.declared.variable.Access.{Access}
use Rattle.rows.specs.declared.variable.VarRow.{VarRow}
use Rattle.host.specs.Answers.{Allowed, Evaluated}
use Rattle.outcome.specs.declared.Failure.{Failure}

-- how a statement ends
pub data Out (V : Type 0) : Type 0 where
  value : V → Out V
  failed : Failure V → Out V
  -- a loop is to end with this value, or to go on with its next round
  broke : V → Out V
  again : Out V
  -- the run is to end with this value
  returned : V → Out V
  -- the host asked for an exit, at the position of the expression
  exited : Position → V → Out V

-- by whom a name was appended
pub data By : Type 0 where
  letting evaluating allowing looping catching : By

-- what a search for a variable comes to: a row, or none of that name, or an index beyond the names
pub data Found (V : Type 0) : Type 0 where
  found : ℕ → VarRow V → Found V
  missing beyond : Found V

-- what a run does to its state
pub data Act (V : Type 0) : Type 0 where
  -- ask the host for the value under a code, or for leave to declare a name
  ask : ℕ → Act V
  permit : Place → Access → Act V
  -- whether there may be so many names more
  room : ℕ → Act V
  -- append a variable, for a let
  declare : VarRow V → Act V
  -- the row of a variable, by its index or by its name
  find : Place → Option ℕ → Act V
  -- another value for a row, or another access and value
  store : ℕ → V → Act V
  redeclare : ℕ → Access → V → Act V
  -- whether there may be another module; load one under a name
  another : Act V
  load : Place → ℕ → Act V

abbrev pub Reply : {V : Type 0} → Act V → Type 0
Reply {V} (ask c) = Evaluated V
Reply (permit p a) = Allowed
Reply (room k) = Bool
Reply (declare r) = Unit {0}
Reply {V} (find p i) = Found V
Reply (store i v) = Unit {0}
Reply (redeclare i a v) = Unit {0}
Reply another = Bool
Reply (load p m) = Unit {0}

-- what a round of a loop over items begins with: the end of the loop, or values for the loop's own names
pub data Turn (V : Type 0) : Type 0 where
  over : Out V → Turn V
  sets : List V → Turn V

pub data Tree (V : Type 0) : Type 0 where
  done : Out V → Tree V
  -- one operation, at a position
  charge : Position → Tree V → Tree V
  act : (a : Act V) → (Reply a → Tree V) → Tree V
  -- one, and then what its outcome asks for
  seq : Tree V → (Out V → Tree V) → Tree V
  -- an inner block
  inner : Tree V → Tree V
  -- an inner block over a name of its own, which goes on every end
  binding : VarRow V → Tree V → Tree V
  -- rounds, until one ends with other than a value or `again`
  rounds : Tree V → Tree V
  -- rounds over names of their own, which go on every end: by its number each round is over, or sets these names and then
  -- runs an inner block, or charges one where the block is empty
  items : List (VarRow V) → (ℕ → Turn V) → Bool → Position → Tree V → Tree V
