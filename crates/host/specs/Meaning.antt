-- the meaning of a host, and the rules that every meaning keeps
use Rattle.std.specs.Prelude.{◌≡◌, ℕ, ◌<◌, ◌≤◌, min, max, Bool, true, List, ◌++◌, map, length, take, drop, Some, Option, Err, slice_index_or}
use Rattle.rows.specs.declared.place.Place.{Place}
use Rattle.rows.specs.declared.variable.Access.{Access}
use Rattle.rows.specs.declared.variable.Access.TheVariants.{ReadWrite}
use Rattle.rows.specs.declared.variable.VarRow.{VarRow}
use Rattle.rows.specs.Rows.{in_use}
use Rattle.host.specs.declared.answers.Caught.{Caught}
use Rattle.host.specs.declared.answers.NoItem.TheVariants.{NotIterable}
use Rattle.host.specs.Answers.{Evaluated, Allowed, Applied, Item}
use Rattle.host.specs.declared.view.Declaration.{Declaration}
use Rattle.host.specs.declared.view.View.{View}

-- what evaluate and allow see besides their own arguments: the variables in use, both texts, the search mark and the
-- limit of variables
pub record Seen (V : Type 0) : Type 0 where
  pub rows : List (VarRow V)
  pub rule : List ℕ
  pub site : List ℕ
  pub mark : Bool
  pub limit : ℕ

-- the same of a call that is lent these rows; no more names are allowed than there are rows
abbrev pub seen : {V : Type 0} → List (VarRow V) → ℕ → View → Seen V
seen vars used v = record {
  rows = in_use vars used;
  rule = v.texts.rule.now;
  site = v.texts.site.now;
  mark = v.mark;
  limit = min v.limit (length vars);
}

-- what a step comes to: the next state, the variables in use after it, and the answer
pub record Step (S V A : Type 0) : Type 0 where
  pub state : S
  pub rows : List (VarRow V)
  pub answer : A

-- a step for each of the two calls that may change something, and a function for each other call
pub record HostMeaning (S V : Type 0) : Type 0 where
  pub evaluate : S → ℕ → Seen V → Step S V (Evaluated V)
  pub allow : S → Declaration → Seen V → Step S V Allowed
  pub apply : ℕ → V → V → Applied V
  pub binary : ℕ → V → V → Applied V
  pub unit : V
  pub make_truth : Bool → V
  pub make_whole : ℕ → V
  pub is_unit : V → Bool
  pub truth : V → Option Bool
  pub whole : V → Option ℕ
  pub path : V → Option ℕ
  pub item : V → ℕ → Item V
  pub caught : Caught → V

abbrev pub place_of : {V : Type 0} → VarRow V → Place
place_of r = r.place

abbrev pub access_of : {V : Type 0} → VarRow V → Access
access_of r = r.access

-- what a step may do to the variables: change values, and append read-write ones while there are fewer than the limit
pub record Grown {V : Type 0} (limit : ℕ) (old new : List (VarRow V)) : Type 0 where
  pub longer : length old ≤ length new
  pub limited : length new ≤ max (length old) limit
  pub places : map place_of (take (length old) new) ≡ map place_of old
  pub accesses : map access_of (take (length old) new) ≡ map access_of old
  pub added : (i : ℕ) → length old ≤ i → i < length new → (d : VarRow V) → (slice_index_or new i d).access ≡ ReadWrite

-- the largest whole number that a host is asked to make
abbrev pub most_whole : ℕ
most_whole = 1000000000

pub record HostLaws {S V : Type 0} (m : HostMeaning S V) : Type 0 where
  pub evaluates : (s : S) (code : ℕ) (v : Seen V) → Grown v.limit v.rows (m.evaluate s code v).rows
  pub allows : (s : S) (d : Declaration) (v : Seen V) → Grown v.limit v.rows (m.allow s d v).rows
  -- made values read back as made
  pub units : m.is_unit m.unit ≡ true
  pub truths : (b : Bool) → m.truth (m.make_truth b) ≡ Some b
  pub wholes : (n : ℕ) → n ≤ most_whole → m.whole (m.make_whole n) ≡ Some n
  -- what is not iterable at one index is so at every other
  pub iterable : (v : V) (i j : ℕ) → m.item v i ≡ Err NotIterable → m.item v j ≡ Err NotIterable

-- rows at the front of a table
abbrev pub over : {R : Type 0} → List R → List R → List R
over front all = front ++ drop (length front) all

-- what a call leaves, if its meaning is the step e: the state, how many rows are in use, all rows, the answer
pub record Leaves {S V A : Type 0} (e : Step S V A) (vars : List (VarRow V)) (state' : S) (vars' : List (VarRow V)) (used' : ℕ) (answer' : A) : Type 0 where
  pub state : state' ≡ e.state
  pub used : used' ≡ length e.rows
  pub rows : vars' ≡ over e.rows vars
  pub answer : answer' ≡ e.answer
