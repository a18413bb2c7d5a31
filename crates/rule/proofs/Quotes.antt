-- which rules have a quote, and how large it is
use Rattle.std.proofs.Common.{◌≡◌, ℕ, zero, suc, ◌+◌, ◌-◌, ◌<◌, ◌≤◌, Bool, true, false, not, ltb, List, is_some, Some, None, Option, sym, refl, ap, ◌∙◌, subst, inl, inr, arith}
use Rattle.std.proofs.lemmas.Bool.{false≢true, true≢false, and_cases, cases_lt, cases_eq, cond-false, le-ltb, not-true, not-false}
use Rattle.image.specs.Bytes.{all_below, sum_below}
use Rattle.image.specs.Layouts.{layout_of}
use Rattle.image.specs.Rows.{block, stmt_at, stmt, done, stmt_from, fields_from, parts}
use Rattle.image.specs.declared.rows.Stmt.{Stmt}
use Rattle.image.specs.declared.rows.Stmt.TheVariants.{Noop, Expr, Block, Assignment, Var, If, While, Do, For, BreakLoop, TryCatch, Return, Import}
use Rattle.image.proofs.Below.{all_at}
use Rattle.image.proofs.Sizes.{some_block}
use Rattle.rule.specs.declared.summary.Summary.{Summary}
use Rattle.rule.specs.Laws.{Place, body, branch, refers_to, StandsIn, is_loop, QuotedIfNoLoop, AtMostThrice}
use Rattle.rule.specs.Summaries.{absent, of_row, looked, summary, value}
use Rattle.rule.specs.Tree.{deepest, stmt_in, named, plus, larger, stmt_quote, plus_below}
use Rattle.rule.proofs.Depths.{quote-summary, joined-quote}
use Rattle.rule.proofs.Levels.{fixed}
use Rattle.rule.proofs.Naming.{each_named_once}
use Rattle.rule.proofs.Rooms.{begins, statements_in, costs, worth-cost}
use Rattle.rule.proofs.Verdicts.{Rules}

plus-some : (p q : Option ℕ) → is_some p ≡ true → is_some q ≡ true → is_some (plus p q) ≡ true
plus-some None q a b = a
plus-some (Some m) None a b = b
plus-some (Some m) (Some n) a b = refl

larger-some : (p q : Option ℕ) → is_some p ≡ true → is_some q ≡ true → is_some (larger p q) ≡ true
larger-some None q a b = a
larger-some (Some m) None a b = b
larger-some (Some m) (Some n) a b = refl

plus_none : (p : Option ℕ) → plus p None ≡ None
plus_none None = refl
plus_none (Some m) = refl

larger-none : (p : Option ℕ) → larger p None ≡ None
larger-none None = refl
larger-none (Some m) = refl

-- no statement but a loop takes a quote away
quote-some : (x : Stmt) (p q : Option ℕ) → is_loop x ≡ false → is_some p ≡ true → is_some q ≡ true → is_some (stmt_quote x p q) ≡ true
quote-some Noop p q l a b = refl
quote-some (Expr e) p q l a b = refl
quote-some (Block c) p q l a b = plus-some (Some 1) p refl a
quote-some (Assignment n e o i) p q l a b = refl
quote-some (Var n e i c) p q l a b = refl
quote-some (If e c d) p q l a b = plus-some (Some 2) (larger p q) refl (larger-some p q a b)
quote-some (While e c) p q l a b = absurd (true≢false l)
quote-some (Do e c n) p q l a b = absurd (true≢false l)
quote-some (For n c e d) p q l a b = absurd (true≢false l)
quote-some (BreakLoop e c) p q l a b = refl
quote-some (TryCatch c d n) p q l a b = plus-some (Some 1) (plus p q) refl (plus-some p q a b)
quote-some (Return e t) p q l a b = refl
quote-some (Import e n) p q l a b = refl

-- a loop has no quote
loop_none : (x : Stmt) (p q : Option ℕ) → is_loop x ≡ true → stmt_quote x p q ≡ None
loop_none Noop p q l = absurd (false≢true l)
loop_none (Expr e) p q l = absurd (false≢true l)
loop_none (Block c) p q l = absurd (false≢true l)
loop_none (Assignment n e o i) p q l = absurd (false≢true l)
loop_none (Var n e i c) p q l = absurd (false≢true l)
loop_none (If e c d) p q l = absurd (false≢true l)
loop_none (While e c) p q l = refl
loop_none (Do e c n) p q l = refl
loop_none (For n c e d) p q l = refl
loop_none (BreakLoop e c) p q l = absurd (false≢true l)
loop_none (TryCatch c d n) p q l = absurd (false≢true l)
loop_none (Return e t) p q l = absurd (false≢true l)
loop_none (Import e n) p q l = absurd (false≢true l)

absent-block : (n : ℕ) {A : Type 0} → ◌≡◌ {A = Option ℕ} None (Some n) → A
absent-block n e = absurd (let z : ◌≡◌ {A = ℕ} 0 1 = cc in omega arith)

-- nor has a statement that names a block without one
body-none : (x : Stmt) (n : ℕ) (q : Option ℕ) → (parts x).body ≡ Some n → stmt_quote x None q ≡ None
body-none Noop n q e = absent-block n e
body-none (Expr f) n q e = absent-block n e
body-none (Block c) n q e = refl
body-none (Assignment m f o i) n q e = absent-block n e
body-none (Var m f i c) n q e = absent-block n e
body-none (If f c d) n q e = refl
body-none (While f c) n q e = refl
body-none (Do f c m) n q e = refl
body-none (For m c f d) n q e = refl
body-none (BreakLoop f c) n q e = absent-block n e
body-none (TryCatch c d m) n q e = refl
body-none (Return f t) n q e = absent-block n e
body-none (Import f m) n q e = absent-block n e

branch-none : (x : Stmt) (n : ℕ) (p : Option ℕ) → (parts x).branch ≡ Some n → stmt_quote x p None ≡ None
branch-none Noop n p e = absent-block n e
branch-none (Expr f) n p e = absent-block n e
branch-none (Block c) n p e = absent-block n e
branch-none (Assignment m f o i) n p e = absent-block n e
branch-none (Var m f i c) n p e = absent-block n e
branch-none (If f c d) n p e = ap (λ x. plus (Some 2) x) (larger-none p)
branch-none (While f c) n p e = refl
branch-none (Do f c m) n p e = refl
branch-none (For m c f d) n p e = refl
branch-none (BreakLoop f c) n p e = absent-block n e
branch-none (TryCatch c d m) n p e = ap (λ x. plus (Some 1) x) (plus_none p)
branch-none (Return f t) n p e = absent-block n e
branch-none (Import f m) n p e = absent-block n e

some_below : (f : ℕ → Option ℕ) (n : ℕ) → ((k : ℕ) → is_some (f k) ≡ true) → is_some (plus_below f n) ≡ true
some_below f zero h = refl
some_below f (suc n) h = plus-some (plus_below f n) (f n) (some_below f n h) (h n)

none_below : (f : ℕ → Option ℕ) (n k : ℕ) → k < n → f k ≡ None → plus_below f n ≡ None
none_below f zero k lt e = absurd (omega arith)
none_below f (suc n) k lt e =
    elim (cases_eq k n) [
      | inl same ↦ ap (λ x. plus (plus_below f n) x) (ap f (sym same) ∙ e) ∙ plus_none (plus_below f n)
      | inr other ↦ ap (λ x. plus x (f n)) (none_below f n k (omega arith) e)
    ]

-- which block a row stands in
locate : (count : ℕ → ℕ) (n j : ℕ) → j < sum_below count n → (b : ℕ) × (b < n) × (sum_below count b ≤ j) × (j < sum_below count b + count b)
locate count zero j lt = absurd (omega arith)
locate count (suc n) j lt =
    elim (cases_lt j (sum_below count n)) [
      | inl low ↦ let found = locate count n j low in (found.0, omega (arith, found.1), found.2, found.3)
      | inr high ↦ (n, omega arith, high, lt)
    ]

some-fails : (p : ℕ → Bool) (n : ℕ) → all_below p n ≡ false → (k : ℕ) × (k < n) × (p k ≡ false)
some-fails p zero h = absurd (true≢false h)
some-fails p (suc n) h =
    elim (and_cases (p n) (all_below p n) h) [
      | inl here ↦ (n, omega arith, here)
      | inr below ↦ let found = some-fails p n below in (found.0, omega (arith, found.1), found.2)
    ]

-- past the table there is no loop
past_loop : (s : List ℕ) (j : ℕ) → (layout_of s).statements ≤ j → is_loop (stmt s j) ≡ false
unfolding stmt_at
past_loop s j le =
    ap (λ o. is_loop (done o)) (cond-false (ltb j (layout_of s).statements) (stmt_from (fields_from s _)) None (le-ltb j (layout_of s).statements le))

module _ (s : List ℕ) (free : (j : ℕ) → is_loop (stmt s j) ≡ false) where
  named_some : (f : ℕ → Summary) → ((n : ℕ) → is_some (f n).quote ≡ true) → (o : Option ℕ) → is_some (named absent f o).quote ≡ true
  named_some f h None = refl
  named_some f h (Some n) = h n

  -- where there is no loop, each block has a quote
  each_quoted : (d b : ℕ) → is_some (looked s d b).quote ≡ true
  unfolding looked
  each_quoted zero b = refl
  each_quoted (suc d) b =
      ap is_some (joined-quote (of_row s (looked s d) b) (block s b).count)
      ∙ some_below (λ k. (of_row s (looked s d) b k).quote) (block s b).count
      (λ k. quote-some (stmt_in s b k) (named absent (looked s d) (parts (stmt_in s b k)).body).quote (named absent (looked s d) (parts (stmt_in s b k)).branch).quote
      (free ((block s b).first + k)) (named_some (looked s d) (each_quoted d) (parts (stmt_in s b k)).body) (named_some (looked s d) (each_quoted d) (parts (stmt_in s b k)).branch))

module _ (s : List ℕ) (kept : Rules s) where
  -- a statement without a quote takes its block's away
  spoils : (b k : ℕ) → k < (block s b).count → (of_row s (summary s) b k).quote ≡ None → (summary s b).quote ≡ None
  spoils b k lt e =
      ap (λ (x : Summary). x.quote) (fixed s kept.naming b)
      ∙ joined-quote (of_row s (summary s) b) (block s b).count
      ∙ none_below (λ k. (of_row s (summary s) b k).quote) (block s b).count k lt e

  names-none : (b k n : ℕ) (p : Place) → refers_to s ((block s b).first + k) p ≡ Some n → (summary s n).quote ≡ None → (of_row s (summary s) b k).quote ≡ None
  names-none b k n body e q =
      ap (λ o. stmt_quote (stmt_in s b k) o (named absent (summary s) (parts (stmt_in s b k)).branch).quote) (ap (λ o. (named absent (summary s) o).quote) e ∙ q)
      ∙ body-none (stmt_in s b k) n (named absent (summary s) (parts (stmt_in s b k)).branch).quote e
  names-none b k n branch e q =
      ap (λ o. stmt_quote (stmt_in s b k) (named absent (summary s) (parts (stmt_in s b k)).body).quote o) (ap (λ o. (named absent (summary s) o).quote) e ∙ q)
      ∙ branch-none (stmt_in s b k) n (named absent (summary s) (parts (stmt_in s b k)).body).quote e

  -- the block of a row, and its place there
  holder : (j : ℕ) → j < (layout_of s).statements → (b : ℕ) × (k : ℕ) × StandsIn s j b × (k < (block s b).count) × ((block s b).first + k ≡ j)
  holder j lt =
      let all = statements_in s kept.order in
      let found = locate (λ c. (block s c).count) (layout_of s).blocks j (omega arith) in
      let b = found.0 in
      let first = begins s kept.order kept.rows kept.naming b found.1 in (
        b,
        j - (block s b).first,
        record { row = found.1; from = omega (arith, found.2); to = omega (arith, found.3) },
        omega (arith, found.2, found.3),
        omega (arith, found.2),
      )

  -- a block without a quote leaves the rule without one
  rises : (m b : ℕ) → b ≤ m → b < (layout_of s).blocks → (summary s b).quote ≡ None → (summary s 0).quote ≡ None
  rises zero b le lt e = let none : b ≡ 0 = omega arith in subst (λ n. (summary s n).quote ≡ None) none e
  rises (suc m) b le lt e =
      elim (cases_eq b 0) [
        | inl none ↦ subst (λ n. (summary s n).quote ≡ None) none e
        | inr some ↦
            let one = each_named_once s kept b (omega arith) lt in
            let held = holder one.namer one.there in
            let up = one.lower held.0 held.2 in
            rises m held.0 (omega arith) (omega arith)
            (spoils held.0 held.1 held.3 (names-none held.0 held.1 b one.place (ap (λ j. refers_to s j one.place) held.4 ∙ one.names) e))
      ]

  pub quoted_if_no_loop : QuotedIfNoLoop s
  quoted_if_no_loop =
      ap is_some (quote-summary s kept.naming deepest 0 kept.nesting)
      ∙ decide (all_below (λ j. not (is_loop (stmt s j))) (layout_of s).statements) refl
    where
      decide : (t : Bool) → all_below (λ j. not (is_loop (stmt s j))) (layout_of s).statements ≡ t → is_some (summary s 0).quote ≡ t
      decide true e =
          each_quoted s
          (λ j. elim (cases_lt j (layout_of s).statements) [
            | inl lt ↦ not-true (is_loop (stmt s j)) (all_at (λ j. not (is_loop (stmt s j))) (layout_of s).statements j lt e)
            | inr le ↦ past_loop s j le
          ])
          (layout_of s).blocks 0
      decide false e =
          let found = some-fails (λ j. not (is_loop (stmt s j))) (layout_of s).statements e in
          let held = holder found.0 found.1 in
          let loop = ap (λ j. is_loop (stmt s j)) held.4 ∙ not-false (is_loop (stmt s found.0)) found.2 in
          ap is_some (rises held.0 held.0 (omega arith) held.2.row
          (spoils held.0 held.1 held.3
          (loop_none (stmt_in s held.0 held.1) (named absent (summary s) (parts (stmt_in s held.0 held.1)).body).quote
          (named absent (summary s) (parts (stmt_in s held.0 held.1)).branch).quote loop)))

  pub at_most_thrice : AtMostThrice s
  at_most_thrice q e =
      let found = sym (quote-summary s kept.naming deepest 0 kept.nesting) ∙ e in
      omega (
        arith,
        ap value found,
        worth-cost s kept.order kept.rows kept.naming 0,
        costs s kept.order kept.rows kept.naming 0 (some_block s kept.counts),
      )
