-- what is noted, one after another
use Rattle.std.proofs.Common.{◌≡◌, ℕ, suc, ◌≤◌, true, false, cond, ◌&&◌, eqb, List, [], ◌∷◌, ◌++◌, map, sym, refl, ap, ◌∙◌, arith}
use Rattle.std.proofs.lemmas.List.{append_assoc}
use Rattle.std.proofs.lemmas.Bool.{and_left, and_right, and_from, eq-eqb, ne_eqb}
use Rattle.rows.specs.declared.place.Place.{Place}
use Rattle.run.specs.Acts.{By}
use Rattle.run.specs.Says.{lasting, appended_at, BlocksKeep}
use Rattle.run.specs.Walk.{Event, added, block}

-- every name was appended at this level or deeper
abbrev pub Deep : ℕ → List Event → Type 0
Deep level [] = Unit {0}
Deep level (added k by p ∷ log) = (level ≤ k) × Deep level log
Deep level (block start end ∷ log) = Deep level log

pub deep_join : (level : ℕ) (l n : List Event) → Deep level l → Deep level n → Deep level (l ++ n)
deep_join level [] n a b = b
deep_join level (added k by p ∷ l) n a b = (a.0, deep_join level l n a.1 b)
deep_join level (block u v ∷ l) n a b = deep_join level l n a b

pub deep-less : (level : ℕ) (l : List Event) → Deep (suc level) l → Deep level l
deep-less level [] a = tt
deep-less level (added k by p ∷ l) a = (omega (arith, a.0), deep-less level l a.1)
deep-less level (block u v ∷ l) a = deep-less level l a

pub appended_join : (level : ℕ) (l n : List Event) → appended_at level (l ++ n) ≡ appended_at level l ++ appended_at level n
appended_join level [] n = refl
appended_join level (added k by p ∷ l) n =
    ap (λ x. cond (eqb k level && lasting by) (p ∷ []) [] ++ x) (appended_join level l n)
    ∙ sym (append_assoc (cond (eqb k level && lasting by) (p ∷ []) []) (appended_at level l) (appended_at level n))
appended_join level (block u v ∷ l) n = appended_join level l n

-- what was appended deeper does not count
pub appended_deeper : (level : ℕ) (l : List Event) → Deep (suc level) l → appended_at level l ≡ []
appended_deeper level [] a = refl
appended_deeper level (added k by p ∷ l) a =
    ap (λ t. cond t (p ∷ []) [] ++ appended_at level l) (and_left (eqb k level) (lasting by) (ne_eqb k level (λ e. omega (arith, a.0))))
    ∙ appended_deeper level l a.1
appended_deeper level (block u v ∷ l) a = appended_deeper level l a

pub blocks_join : (l n : List Event) → BlocksKeep l → BlocksKeep n → BlocksKeep (l ++ n)
blocks_join [] n a b = b
blocks_join (added k by p ∷ l) n a b = blocks_join l n a b
blocks_join (block u v ∷ l) n a b = (a.0, blocks_join l n a.1 b)

-- names of one call
module _ {A : Type 0} (level : ℕ) (by : By) (place : A → Place) where
  pub called-deep : (xs : List A) → Deep level (map (λ x. added level by (place x)) xs)
  called-deep [] = tt
  called-deep (x ∷ xs) = (omega arith, called-deep xs)

  pub called-blocks : (xs : List A) → BlocksKeep (map (λ x. added level by (place x)) xs)
  called-blocks [] = tt
  called-blocks (x ∷ xs) = called-blocks xs

  pub called-appended : lasting by ≡ true → (xs : List A) → appended_at level (map (λ x. added level by (place x)) xs) ≡ map place xs
  called-appended last [] = refl
  called-appended last (x ∷ xs) =
      ap (λ t. cond t (place x ∷ []) [] ++ appended_at level (map (λ x. added level by (place x)) xs)) (and_from (eqb level level) (lasting by) (eq-eqb level level refl) last)
      ∙ ap (λ ys. place x ∷ ys) (called-appended last xs)

pub not_lasting : (level k : ℕ) (by : By) (p : Place) → lasting by ≡ false → appended_at level (added k by p ∷ []) ≡ []
not_lasting level k by p e = ap (λ t. cond t (p ∷ []) [] ++ []) (and_right (eqb k level) (lasting by) e)
