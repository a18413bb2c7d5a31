-- each block is named exactly once, and by a lower one
use Rattle.std.proofs.Common.{◌≡◌, ℕ, zero, suc, ◌+◌, ◌-◌, ◌<◌, true, cond, eqb, List, Some, None, Option, sym, refl, ap, ◌∙◌, subst, inl, inr, arith}
use Rattle.std.proofs.lemmas.Bool.{and_parts, cases_eq, cases_Bool, eqb-true, eq-eqb, ltb-true, cond-true}
use Rattle.image.specs.Bytes.{sum_below}
use Rattle.image.specs.Layouts.{layout_of}
use Rattle.image.specs.Rows.{block, stmt, parts}
use Rattle.image.proofs.Below.{all_at}
use Rattle.checks.specs.Rules.{above, names_above, names, hits}
use Rattle.rule.specs.Tree.{stmt_in}
use Rattle.rule.specs.Laws.{Place, body, branch, refers_to, StandsIn, EachNamedOnce}
use Rattle.rule.proofs.Levels.{above_each}
use Rattle.rule.proofs.Rooms.{once}
use Rattle.rule.proofs.Sums.{part}
use Rattle.rule.proofs.Verdicts.{Rules}

-- a sum of 1 has one number that is 1, and no other
pub record OneOf (f : ℕ → ℕ) (n : ℕ) : Type 0 where
  pub at : ℕ
  pub below : at < n
  pub one : f at ≡ 1
  pub others : (j : ℕ) → j < n → 0 < f j → j ≡ at

pub one_of : (f : ℕ → ℕ) (n : ℕ) → sum_below f n ≡ 1 → OneOf f n
one_of f zero h = absurd (omega arith)
one_of f (suc n) h =
    elim (cases_eq (f n) 0) [
      | inl none ↦
          let found = one_of f n (omega arith) in
          record {
            at = found.at;
            below = omega (arith, found.below);
            one = found.one;
            others = λ j lt pos. elim (cases_eq j n) [
              | inl same ↦ absurd (omega (arith, ap f same))
              | inr other ↦ found.others j (omega arith) pos
            ];
          }
      | inr some ↦
          record {
            at = n;
            below = omega arith;
            one = omega arith;
            others = λ j lt pos. elim (cases_eq j n) [
              | inl same ↦ same
              | inr other ↦ absurd (omega (arith, part f n j (omega arith)))
            ];
          }
    ]

named_is : (o : Option ℕ) (n : ℕ) → 0 < names o n → o ≡ Some n
named_is None n pos = absurd (omega arith)
named_is (Some m) n pos =
    elim (cases_Bool (eqb m n)) [
      | inl same ↦ ap (λ k. Some k) (eqb-true m n same)
      | inr other ↦ absurd (omega (arith, ap {B = ℕ} (λ t. cond t 1 0) other))
    ]

is_named : (o : Option ℕ) (n : ℕ) → o ≡ Some n → names o n ≡ 1
is_named o n e = ap (λ x. names x n) e ∙ cond-true (eqb n n) 1 0 (eq-eqb n n refl)

module _ (s : List ℕ) (kept : Rules s) where
  -- a statement that names a block counts as a naming
  counts : (n j : ℕ) (p : Place) → refers_to s j p ≡ Some n → 0 < hits (parts (stmt s j)) n
  counts n j body e = omega (arith, is_named (parts (stmt s j)).body n e)
  counts n j branch e = omega (arith, is_named (parts (stmt s j)).branch n e)

  -- and in which place, if it counts once
  placed : (n j : ℕ) → hits (parts (stmt s j)) n ≡ 1 →
      (p : Place) × (refers_to s j p ≡ Some n) × ((q : Place) → refers_to s j q ≡ Some n → q ≡ p)
  placed n j h =
      elim (cases_eq (names (parts (stmt s j)).body n) 0) [
        | inl none ↦ (
          branch,
          named_is (parts (stmt s j)).branch n (omega arith),
          elim [ body ↦ λ e. absurd (omega (arith, is_named (parts (stmt s j)).body n e)) | branch ↦ λ e. refl ],
        )
        | inr some ↦ (
          body,
          named_is (parts (stmt s j)).body n (omega arith),
          elim [ body ↦ λ e. refl | branch ↦ λ e. absurd (omega (arith, is_named (parts (stmt s j)).branch n e)) ],
        )
      ]

  higher : (b k : ℕ) (p : Place) → k < (block s b).count → above b (refers_to s ((block s b).first + k) p) ≡ true
  higher b k body lt =
      (and_parts (above b (parts (stmt_in s b k)).body) _ (all_at (λ k. names_above b (parts (stmt_in s b k))) (block s b).count k lt (above_each s kept.naming b))).0
  higher b k branch lt =
      (and_parts (above b (parts (stmt_in s b k)).body) _ (all_at (λ k. names_above b (parts (stmt_in s b k))) (block s b).count k lt (above_each s kept.naming b))).1

  -- a statement of block b names only higher blocks
  pub lower : (b j n : ℕ) (p : Place) → StandsIn s j b → refers_to s j p ≡ Some n → b < n
  lower b j n p in' e =
      let k = j - (block s b).first in
      let at : (block s b).first + k ≡ j = omega (arith, in'.from) in
      let up = higher b k p (omega (arith, in'.from, in'.to)) in
      ltb-true b n (subst (λ o. above b o ≡ true) (ap (λ i. refers_to s i p) at ∙ e) up)

  pub each_named_once : EachNamedOnce s
  each_named_once n pos lt =
      let found = one_of (λ j. hits (parts (stmt s j)) n) (layout_of s).statements (once s kept.order kept.rows kept.naming n pos lt) in
      let place = placed n found.at found.one in
      record {
        namer = found.at;
        place = place.0;
        there = found.below;
        names = place.1;
        only = λ j p in' e.
            let same = found.others j in' (counts n j p e) in
            (same, place.2 p (ap (λ i. refers_to s i p) (sym same) ∙ e));
        lower = λ b in'. lower b found.at n place.0 in' place.1;
      }
