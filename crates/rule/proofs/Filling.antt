-- a table that is filled from the last block down
use Rattle.std.proofs.Common.{◌≡◌, ℕ, ◌-◌, ◌<◌, ◌≤◌, true, List, length, set, replicate, sym, ap, ◌∙◌, inl, inr, arith}
use Rattle.std.proofs.lemmas.Bool.{cases_eq, cases_lt}
use Rattle.std.proofs.lemmas.List.{get_or-set_same, get_or-set_other, get_or-replicate, get_or_past, length-replicate, length-set}
use Rattle.image.specs.Layouts.{layout_of, counted}
use Rattle.image.proofs.Sizes.{few-blocks, few-statements}
use Rattle.checks.specs.Rules.{in_order, all_sound, named_once}
use Rattle.rule.specs.declared.summary.Summary.{Summary}
use Rattle.rule.specs.Summaries.{empty, entry, of_row, of_block, joined_below, summary, Room}
use Rattle.rule.proofs.Levels.{past, above_each, block_same, costs-same, fixed, low}
use Rattle.rule.proofs.Rooms.{costs}

pub blank : (m n : ℕ) → entry (replicate m empty) n ≡ empty
blank m n =
    elim (cases_lt n m) [
      | inl lt ↦ get_or-replicate m n empty empty lt
      | inr le ↦ get_or_past (replicate m empty) n empty (omega (arith, length-replicate m empty))
    ]

-- what the table holds from block b on
pub record Filled (s : List ℕ) (t : List Summary) (b : ℕ) : Type 0 where
  pub done : (n : ℕ) → b ≤ n → entry t n ≡ summary s n
  pub heights : (n : ℕ) → (entry t n).height ≤ 257
  pub long : length t ≡ 256

module _ (s : List ℕ) (naming : named_once s ≡ true) where
  pub filled_none : (b : ℕ) → b ≡ (layout_of s).blocks → Filled s (replicate 256 empty) b
  filled_none b e = record {
    done = λ n le. blank 256 n ∙ sym (fixed s naming n ∙ ap (λ k. joined_below (of_row s (summary s) n) k) (past s n (omega arith)));
    heights = λ n. omega (arith, ap (λ (x : Summary). x.height) (blank 256 n));
    long = length-replicate 256 empty;
  }

  module _ (sized : counted s ≡ true) (order : in_order s ≡ true) (rows : all_sound s ≡ true) (t : List Summary) (b : ℕ) (pos : 0 < b)
      (few : b ≤ (layout_of s).blocks) (filled : Filled s t b) where
    agree : (n : ℕ) → b - 1 < n → entry t n ≡ summary s n
    agree n lt = filled.done n (omega arith)

    pub room : Room s (entry t) (b - 1)
    room = record {
      heights = filled.heights;
      costs = omega (
        arith,
        costs-same (b - 1) (entry t) (summary s) agree s (above_each s naming (b - 1)),
        costs s order rows naming (b - 1) (omega arith),
        few-statements s sized,
      );
    }

    pub filled_more : (x : Summary) → x ≡ of_block s (entry t) (b - 1) → Filled s (set t (b - 1) x) (b - 1)
    filled_more x e =
        let same : x ≡ summary s (b - 1) =
        e ∙ block_same (b - 1) (entry t) (summary s) agree s (above_each s naming (b - 1)) ∙ sym (fixed s naming (b - 1)) in
        let at : b - 1 < length t = omega (arith, filled.long, few-blocks s sized) in
        let here : entry (set t (b - 1) x) (b - 1) ≡ x = get_or-set_same t (b - 1) x empty at in
        record {
          done = λ n le. elim (cases_eq n (b - 1)) [
            | inl this ↦ ap (λ k. entry (set t (b - 1) x) k) this ∙ here ∙ same ∙ ap (λ k. summary s k) (sym this)
            | inr other ↦ get_or-set_other t (b - 1) n x empty other ∙ filled.done n (omega arith)
          ];
          heights = λ n. elim (cases_eq n (b - 1)) [
            | inl this ↦ omega (
              arith,
              ap (λ k. (entry (set t (b - 1) x) k).height) this,
              ap (λ (y : Summary). y.height) (here ∙ same),
              low s (layout_of s).blocks (b - 1),
              few-blocks s sized,
            )
            | inr other ↦ omega (arith, ap (λ (y : Summary). y.height) (get_or-set_other t (b - 1) n x empty other), filled.heights n)
          ];
          long = length-set t (b - 1) x ∙ filled.long;
        }
