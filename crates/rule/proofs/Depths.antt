-- nesting, breaks and quotes by the tree are those of the summaries
use Rattle.std.proofs.Common.{◌≡◌, ℕ, zero, suc, ◌+◌, ◌<◌, ◌≤◌, max, Bool, true, false, ◌&&◌, leb, List, Some, None, Option, sym, refl, ap, ◌∙◌, inl, inr, arith}
use Rattle.std.proofs.lemmas.Bool.{false≢true, and_parts, and_cases, leb-true, leb-false, le-leb, lt-leb}
use Rattle.image.specs.Bytes.{all_below}
use Rattle.image.specs.Rows.{block, parts}
use Rattle.image.proofs.Below.{all_at}
use Rattle.checks.specs.Rules.{named_once}
use Rattle.rule.specs.declared.summary.Summary.{Summary}
use Rattle.rule.specs.Tree.{stmt_in, named, within, contained, block_quote, holds_breaks, stmt_quote, plus, plus_below}
use Rattle.rule.specs.Summaries.{absent, of_row, joined_below, summary}
use Rattle.rule.proofs.Levels.{fixed}

-- a test that says whether a ≤ c
leb_is : (a c : ℕ) (t : Bool) → (t ≡ true → a ≤ c) → (t ≡ false → c < a) → leb a c ≡ t
leb_is a c true yes' no' = le-leb a c (yes' refl)
leb_is a c false yes' no' = lt-leb a c (no' refl)

-- a joined height is within c exactly if both are
leb-joined : (a h p q c : ℕ) → h ≡ 1 + max p q → leb (max a h) (suc c) ≡ (leb p c && leb q c) && leb a (suc c)
leb-joined a h p q c e =
    leb_is (max a h) (suc c) ((leb p c && leb q c) && leb a (suc c))
    (λ t. let all = and_parts (leb p c && leb q c) (leb a (suc c)) t in
    let two = and_parts (leb p c) (leb q c) all.0 in
    omega (arith, leb-true p c two.0, leb-true q c two.1, leb-true a (suc c) all.1))
    (λ t. elim (and_cases (leb p c && leb q c) (leb a (suc c)) t) [
      | inl f ↦ elim (and_cases (leb p c) (leb q c) f) [
        | inl x ↦ omega (arith, leb-false p c x)
        | inr x ↦ omega (arith, leb-false q c x)
      ]
      | inr f ↦ omega (arith, leb-false a (suc c) f)
    ])

all_same : (p q : ℕ → Bool) (n : ℕ) → ((k : ℕ) → k < n → p k ≡ q k) → all_below p n ≡ all_below q n
all_same p q zero h = refl
all_same p q (suc n) h =
    ap (λ x. x && all_below p n) (h n (omega arith)) ∙ ap (λ x. q n && x) (all_same p q n (λ k lt. h k (omega arith)))

plus-same : (f g : ℕ → Option ℕ) (n : ℕ) → ((k : ℕ) → k < n → f k ≡ g k) → plus_below f n ≡ plus_below g n
plus-same f g zero h = refl
plus-same f g (suc n) h =
    ap (λ x. plus x (f n)) (plus-same f g n (λ k lt. h k (omega arith))) ∙ ap (λ x. plus (plus_below g n) x) (h n (omega arith))

-- the parts of joined summaries
pub joined-quote : (f : ℕ → Summary) (n : ℕ) → (joined_below f n).quote ≡ plus_below (λ k. (f k).quote) n
joined-quote f zero = refl
joined-quote f (suc n) = ap (λ x. plus x (f n).quote) (joined-quote f n)

joined-contained : (f : ℕ → Summary) (n : ℕ) → (joined_below f n).contained ≡ all_below (λ k. (f k).contained) n
joined-contained f zero = refl
joined-contained f (suc n) = ap (λ x. (f n).contained && x) (joined-contained f n)

joined-within : (f : ℕ → Summary) (p q : ℕ → ℕ) (c n : ℕ) → ((k : ℕ) → (f k).height ≡ 1 + max (p k) (q k)) →
    leb (joined_below f n).height (suc c) ≡ all_below (λ k. leb (p k) c && leb (q k) c) n
joined-within f p q c zero h = le-leb 1 (suc c) (omega arith)
joined-within f p q c (suc n) h =
    leb-joined (joined_below f n).height (f n).height (p n) (q n) c (h n)
    ∙ ap (λ x. (leb (p n) c && leb (q n) c) && x) (joined-within f p q c n h)

joined-level : (f : ℕ → Summary) (n : ℕ) → 1 ≤ (joined_below f n).height
joined-level f zero = omega arith
joined-level f (suc n) = omega (arith, joined-level f n)

module _ (s : List ℕ) (naming : named_once s ≡ true) where
  level : (b : ℕ) → 1 ≤ (summary s b).height
  level b = omega (arith, joined-level (of_row s (summary s) b) (block s b).count, ap (λ (x : Summary). x.height) (fixed s naming b))

  named-within : (d : ℕ) → ((b : ℕ) → within s d b ≡ leb (summary s b).height d) → (o : Option ℕ) →
      named true (within s d) o ≡ leb (named absent (summary s) o).height d
  named-within d h None = sym (le-leb 0 d (omega arith))
  named-within d h (Some n) = h n

  -- the blocks below b nest as deep as its summary says
  pub within_height : (d b : ℕ) → within s d b ≡ leb (summary s b).height d
  unfolding within
  within_height zero b = sym (lt-leb (summary s b).height 0 (level b))
  within_height (suc d) b =
      let body : ℕ → Option ℕ = λ k. (parts (stmt_in s b k)).body in
      let branch : ℕ → Option ℕ = λ k. (parts (stmt_in s b k)).branch in
      all_same (λ k. named true (within s d) (body k) && named true (within s d) (branch k))
      (λ k. leb (named absent (summary s) (body k)).height d && leb (named absent (summary s) (branch k)).height d) (block s b).count
      (λ k lt. ap (λ x. x && named true (within s d) (branch k)) (named-within d (within_height d) (body k))
      ∙ ap (λ x. leb (named absent (summary s) (body k)).height d && x) (named-within d (within_height d) (branch k)))
      ∙ sym (ap (λ (x : Summary). leb x.height (suc d)) (fixed s naming b)
      ∙ joined-within (of_row s (summary s) b) (λ k. (named absent (summary s) (body k)).height) (λ k. (named absent (summary s) (branch k)).height) d
      (block s b).count (λ k. refl))

  -- what a view of the summaries says of a named block, if it does so within d levels
  named_agrees : {A : Type 0} (x : A) (f : ℕ → A) (view : Summary → A) (d : ℕ) → x ≡ view absent →
      ((b : ℕ) → within s d b ≡ true → f b ≡ view (summary s b)) → (o : Option ℕ) → named true (within s d) o ≡ true → named x f o ≡ view (named absent (summary s) o)
  named_agrees x f view d e h None w = e
  named_agrees x f view d e h (Some n) w = h n w

  -- the blocks that a statement names are within one level less
  parts_within : (d b k : ℕ) → within s (suc d) b ≡ true → k < (block s b).count →
      (named true (within s d) (parts (stmt_in s b k)).body ≡ true) × (named true (within s d) (parts (stmt_in s b k)).branch ≡ true)
  unfolding within
  parts_within d b k w lt =
      and_parts (named true (within s d) (parts (stmt_in s b k)).body) (named true (within s d) (parts (stmt_in s b k)).branch)
      (all_at (λ k. named true (within s d) (parts (stmt_in s b k)).body && named true (within s d) (parts (stmt_in s b k)).branch) (block s b).count k lt w)

  -- within the levels that are looked at, the quote is the summary's
  pub quote-summary : (d b : ℕ) → within s d b ≡ true → block_quote s d b ≡ (summary s b).quote
  unfolding within block_quote
  quote-summary zero b w = absurd (false≢true w)
  quote-summary (suc d) b w =
      let body : ℕ → Option ℕ = λ k. (parts (stmt_in s b k)).body in
      let branch : ℕ → Option ℕ = λ k. (parts (stmt_in s b k)).branch in
      let agrees = named_agrees (Some 0) (block_quote s d) (λ x. x.quote) d refl (quote-summary d) in
      plus-same (λ k. stmt_quote (stmt_in s b k) (named (Some 0) (block_quote s d) (body k)) (named (Some 0) (block_quote s d) (branch k)))
      (λ k. (of_row s (summary s) b k).quote) (block s b).count
      (λ k lt. ap (λ x. stmt_quote (stmt_in s b k) x (named (Some 0) (block_quote s d) (branch k))) (agrees (body k) (parts_within d b k w lt).0)
      ∙ ap (λ x. stmt_quote (stmt_in s b k) (named absent (summary s) (body k)).quote x) (agrees (branch k) (parts_within d b k w lt).1))
      ∙ sym (ap (λ (x : Summary). x.quote) (fixed s naming b) ∙ joined-quote (of_row s (summary s) b) (block s b).count)

  pub contained-summary : (d b : ℕ) → within s d b ≡ true → contained s d b ≡ (summary s b).contained
  unfolding within contained
  contained-summary zero b w = absurd (false≢true w)
  contained-summary (suc d) b w =
      let body : ℕ → Option ℕ = λ k. (parts (stmt_in s b k)).body in
      let branch : ℕ → Option ℕ = λ k. (parts (stmt_in s b k)).branch in
      let agrees = named_agrees true (contained s d) (λ x. x.contained) d refl (contained-summary d) in
      all_same (λ k. holds_breaks (stmt_in s b k) (named true (contained s d) (body k)) (named true (contained s d) (branch k)))
      (λ k. (of_row s (summary s) b k).contained) (block s b).count
      (λ k lt. ap (λ x. holds_breaks (stmt_in s b k) x (named true (contained s d) (branch k))) (agrees (body k) (parts_within d b k w lt).0)
      ∙ ap (λ x. holds_breaks (stmt_in s b k) (named absent (summary s) (body k)).contained x) (agrees (branch k) (parts_within d b k w lt).1))
      ∙ sym (ap (λ (x : Summary). x.contained) (fixed s naming b) ∙ joined-contained (of_row s (summary s) b) (block s b).count)
