-- the summary of a block is made of the summaries of the blocks that it names
use Rattle.std.proofs.Common.{◌≡◌, ℕ, zero, suc, ◌+◌, ◌<◌, ◌≤◌, true, ltb, List, Some, None, Option, sym, refl, ap, ◌∙◌, inl, inr, arith}
use Rattle.std.proofs.lemmas.Bool.{and_parts, cases_lt, cond-false, le-ltb, ltb-true}
use Rattle.image.specs.declared.rows.Block.{Block}
use Rattle.image.specs.Bytes.{all_below, sum_below}
use Rattle.image.specs.Layouts.{layout_of}
use Rattle.image.specs.Rows.{block, block_from, parts}
use Rattle.image.proofs.Below.{all_at}
use Rattle.checks.specs.Rules.{above, names_above, block_above, once_each, named_once}
use Rattle.rule.specs.declared.summary.Summary.{Summary}
use Rattle.rule.specs.Tree.{stmt_in, named}
use Rattle.rule.specs.Summaries.{absent, empty, of_stmt, of_row, of_block, joined_below, looked, summary, cost, value}
use Rattle.rule.proofs.Costs.{joined_same, joined_height}
use Rattle.rule.proofs.Sums.{sum_same}

-- a block past the table has no statements
pub past : (s : List ℕ) (b : ℕ) → (layout_of s).blocks ≤ b → (block s b).count ≡ 0
unfolding block
past s b le =
    ap (λ (x : Block). x.count)
    (cond-false (ltb b (layout_of s).blocks) (block_from s _) (record { first = 0; count = 0 }) (le-ltb b (layout_of s).blocks le))

-- every block names only higher ones
pub above_each : (s : List ℕ) → named_once s ≡ true → (b : ℕ) → block_above s b ≡ true
above_each s h b =
    elim (cases_lt b (layout_of s).blocks) [
      | inl lt ↦ all_at (block_above s) (layout_of s).blocks b lt (and_parts (all_below (block_above s) (layout_of s).blocks) (once_each s) h).0
      | inr le ↦ ap (λ n. all_below (λ k. names_above b (parts (stmt_in s b k))) n) (past s b le)
    ]

module _ (b : ℕ) (f g : ℕ → Summary) (same : (n : ℕ) → b < n → f n ≡ g n) where
  named-same : (o : Option ℕ) → above b o ≡ true → named absent f o ≡ named absent g o
  named-same None h = refl
  named-same (Some n) h = same n (ltb-true b n h)

  module _ (s : List ℕ) (higher : block_above s b ≡ true) where
    body_same : (k : ℕ) → k < (block s b).count → named absent f (parts (stmt_in s b k)).body ≡ named absent g (parts (stmt_in s b k)).body
    body_same k lt =
        named-same (parts (stmt_in s b k)).body
        (and_parts (above b (parts (stmt_in s b k)).body) (above b (parts (stmt_in s b k)).branch)
        (all_at (λ k. names_above b (parts (stmt_in s b k))) (block s b).count k lt higher)).0

    branch_same : (k : ℕ) → k < (block s b).count → named absent f (parts (stmt_in s b k)).branch ≡ named absent g (parts (stmt_in s b k)).branch
    branch_same k lt =
        named-same (parts (stmt_in s b k)).branch
        (and_parts (above b (parts (stmt_in s b k)).body) (above b (parts (stmt_in s b k)).branch)
        (all_at (λ k. names_above b (parts (stmt_in s b k))) (block s b).count k lt higher)).1

    -- a block by two functions that agree above it
    pub block_same : of_block s f b ≡ of_block s g b
    block_same =
        joined_same (of_row s f b) (of_row s g b) (block s b).count
        (λ k lt. ap (λ (x : Summary). of_stmt (stmt_in s b k) x (named absent f (parts (stmt_in s b k)).branch)) (body_same k lt)
        ∙ ap (λ (x : Summary). of_stmt (stmt_in s b k) (named absent g (parts (stmt_in s b k)).body) x) (branch_same k lt))

    pub costs-same : sum_below (cost s f b) (block s b).count ≡ sum_below (cost s g b) (block s b).count
    costs-same =
        sum_same (cost s f b) (cost s g b) (block s b).count
        (λ k lt. ap (λ (x : Summary). 3 + value x.quote + value (named absent f (parts (stmt_in s b k)).branch).quote) (body_same k lt)
        ∙ ap (λ (x : Summary). 3 + value (named absent g (parts (stmt_in s b k)).body).quote + value x.quote) (branch_same k lt))

module _ (s : List ℕ) (naming : named_once s ≡ true) where
  empty-past : (f : ℕ → Summary) (b : ℕ) → (layout_of s).blocks ≤ b → of_block s f b ≡ empty
  empty-past f b le = ap (λ n. joined_below (of_row s f b) n) (past s b le)

  -- a block looked at deep enough
  stable : (d e b : ℕ) → (layout_of s).blocks ≤ d + b → (layout_of s).blocks ≤ e + b → looked s d b ≡ looked s e b
  unfolding looked
  stable zero zero b m n = refl
  stable zero (suc e) b m n = sym (empty-past (looked s e) b (omega arith))
  stable (suc d) zero b m n = empty-past (looked s d) b (omega arith)
  stable (suc d) (suc e) b m n =
      block_same b (looked s d) (looked s e) (λ c lt. stable d e c (omega arith) (omega arith)) s (above_each s naming b)

  pub fixed : (b : ℕ) → summary s b ≡ of_block s (summary s) b
  unfolding looked
  fixed b = stable (layout_of s).blocks (suc (layout_of s).blocks) b (omega arith) (omega arith)

low-named : (d : ℕ) (f : ℕ → Summary) (o : Option ℕ) → ((n : ℕ) → (f n).height ≤ d) → (named absent f o).height ≤ d
low-named d f None h = omega arith
low-named d f (Some n) h = h n

-- a block looked at d levels deep is not much higher
pub low : (s : List ℕ) (d b : ℕ) → (looked s d b).height ≤ d + 1
unfolding looked
low s zero b = omega arith
low s (suc d) b =
    joined_height (of_row s (looked s d) b) (block s b).count (suc d + 1) (omega arith)
    (λ k. omega (arith, low-named (d + 1) (looked s d) (parts (stmt_in s b k)).body (low s d), low-named (d + 1) (looked s d) (parts (stmt_in s b k)).branch (low s d)))
