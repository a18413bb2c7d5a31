-- tests and sums over the numbers below n
use Rattle.std.proofs.Common.{◌≡◌, ℕ, zero, suc, ◌+◌, ◌<◌, Bool, true, false, sym, refl, ap, ◌∙◌, inl, inr, add-one, arith}
use Rattle.std.proofs.lemmas.Bool.{cases_eq, and_left, and_right, and_parts}
use Rattle.image.specs.Bytes.{all_below, sum_below}

-- one that fails is enough
pub all_fails : (p : ℕ → Bool) (n k : ℕ) → k < n → p k ≡ false → all_below p n ≡ false
all_fails p zero k h e = absurd (omega arith)
all_fails p (suc n) k h e =
    elim (cases_eq k n) [
      | inl same ↦ and_left (p n) (all_below p n) (ap p (sym same) ∙ e)
      | inr other ↦ let lt : k < n = omega arith in and_right (p n) (all_below p n) (all_fails p n k lt e)
    ]

-- what holds of all holds of each
pub all_at : (p : ℕ → Bool) (n k : ℕ) → k < n → all_below p n ≡ true → p k ≡ true
all_at p zero k h e = absurd (omega arith)
all_at p (suc n) k h e =
    elim (cases_eq k n) [
      | inl same ↦ ap p same ∙ (and_parts (p n) (all_below p n) e).0
      | inr other ↦ let lt : k < n = omega arith in all_at p n k lt (and_parts (p n) (all_below p n) e).1
    ]

pub sum_more : (f : ℕ → ℕ) (n : ℕ) → sum_below f (n + 1) ≡ sum_below f n + f n
sum_more f n = rw add-one refl
