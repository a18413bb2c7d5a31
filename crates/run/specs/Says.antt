-- what is said of a run by its count and by what it noted
use Rattle.std.specs.Prelude.{◌≡◌, ℕ, suc, ◌≤◌, Bool, true, false, cond, ◌&&◌, List, [], ◌∷◌, ◌++◌, ◌==◌}
use Rattle.rows.specs.declared.place.Place.{Place}
use Rattle.run.specs.Acts.{By, letting, evaluating, allowing, looping, catching}
use Rattle.run.specs.Walk.{Event, added, block, End, stopped, ended}

-- stopped for operations
abbrev pub cut : {V : Type 0} → End V → Bool
cut (stopped p) = true
cut (ended o) = false

-- the count of a run: one more than the limit if it was stopped for operations, else at most the limit
abbrev pub After : ℕ → Bool → ℕ → Type 0
After limit true n = n ≡ suc limit
After limit false n = n ≤ limit

-- appended by a let or by the host
abbrev pub lasting : By → Bool
lasting letting = true
lasting evaluating = true
lasting allowing = true
lasting looping = false
lasting catching = false

-- the names that a let or the host appended at a level, in order
abbrev pub appended_at : ℕ → List Event → List Place
appended_at level [] = []
appended_at level (added k by p ∷ log) = cond (k == level && lasting by) (p ∷ []) [] ++ appended_at level log
appended_at level (block start end ∷ log) = appended_at level log

-- every inner block ended with the names, imports, level and mark of its start
abbrev pub BlocksKeep : List Event → Type 0
BlocksKeep [] = Unit {0}
BlocksKeep (added k by p ∷ log) = BlocksKeep log
BlocksKeep (block start end ∷ log) = (end ≡ start) × BlocksKeep log
