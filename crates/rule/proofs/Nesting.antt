-- no block lies deeper than the deepest level
use Rattle.std.proofs.Common.{◌≡◌, ℕ, zero, suc, ◌+◌, ◌-◌, ◌<◌, true, ◌&&◌, List, Some, subst, arith}
use Rattle.std.proofs.lemmas.Bool.{false≢true, and_parts}
use Rattle.image.specs.Rows.{block, parts}
use Rattle.image.proofs.Below.{all_at}
use Rattle.rule.specs.Tree.{deepest, stmt_in, named, within}
use Rattle.rule.specs.Laws.{Place, body, branch, refers_to, AtLevel, outermost, inner, NestsNoDeeper}
use Rattle.rule.proofs.Verdicts.{Rules}

module _ (s : List ℕ) where
  some_level : (d b : ℕ) → within s d b ≡ true → 0 < d
  unfolding within
  some_level zero b w = absurd (false≢true w)
  some_level (suc d) b w = omega arith

  named-within : (d b k : ℕ) (p : Place) → within s (suc d) b ≡ true → k < (block s b).count → named true (within s d) (refers_to s ((block s b).first + k) p) ≡ true
  unfolding within
  named-within d b k body w lt =
      (and_parts _ _ (all_at (λ k. named true (within s d) (parts (stmt_in s b k)).body && named true (within s d) (parts (stmt_in s b k)).branch) (block s b).count k lt w)).0
  named-within d b k branch w lt =
      (and_parts _ _ (all_at (λ k. named true (within s d) (parts (stmt_in s b k)).body && named true (within s d) (parts (stmt_in s b k)).branch) (block s b).count k lt w)).1

  -- one level less is left to a block that is named
  one_less : (d b c k : ℕ) (p : Place) → within s d b ≡ true → k < (block s b).count → refers_to s ((block s b).first + k) p ≡ Some c → within s (d - 1) c ≡ true
  one_less zero b c k p w lt e = absurd (omega (arith, some_level zero b w))
  one_less (suc d) b c k p w lt e =
      let less : d ≡ suc d - 1 = omega arith in
      subst (λ m. within s m c ≡ true) less (subst (λ o. named true (within s d) o ≡ true) e (named-within d b k p w lt))

  levels-left : within s deepest 0 ≡ true → {b n : ℕ} → AtLevel s b n → within s (33 - n) b ≡ true
  levels-left w outermost = w
  levels-left w (inner {b = b} {n = n} c k p l lt e) =
      let less : 33 - n - 1 ≡ 33 - suc n = omega arith in
      subst (λ m. within s m c ≡ true) less (one_less (33 - n) b c k p (levels-left w l) lt e)

  pub nests_no_deeper : Rules s → NestsNoDeeper s
  nests_no_deeper kept b n l = omega (arith, some_level (33 - n) b (levels-left kept.nesting l))
