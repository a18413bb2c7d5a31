-- what a statement adds to a quote is at most its cost
use Rattle.std.proofs.Common.{◌≡◌, ℕ, zero, suc, ◌+◌, ◌<◌, ◌≤◌, List, Some, None, Option, refl, ap, ◌∙◌, add-one, arith}
use Rattle.image.specs.declared.rows.Stmt.{Stmt}
use Rattle.image.specs.declared.rows.Stmt.TheVariants.{Noop, Expr, Block, Assignment, Var, If, While, Do, For, BreakLoop, TryCatch, Return, Import}
use Rattle.image.specs.Bytes.{sum_below}
use Rattle.rule.specs.declared.summary.Summary.{Summary}
use Rattle.rule.specs.Tree.{plus, larger, expr_charges, stmt_quote, stmt_in, named}
use Rattle.image.specs.Rows.{parts}
use Rattle.rule.specs.Summaries.{absent, value, joined, joined_below, of_row, cost}

pub plus-value : (x y : Option ℕ) → value (plus x y) ≤ value x + value y
plus-value None y = omega arith
plus-value (Some a) None = omega arith
plus-value (Some a) (Some b) = omega arith

larger-value : (x y : Option ℕ) → value (larger x y) ≤ value x + value y
larger-value None y = omega arith
larger-value (Some a) None = omega arith
larger-value (Some a) (Some b) = omega arith

charges-value : (e : Option ℕ) → expr_charges e ≤ 1
charges-value None = omega arith
charges-value (Some e) = omega arith

pub quote-cost : (x : Stmt) (p q : Option ℕ) → value (stmt_quote x p q) ≤ 3 + value p + value q
quote-cost Noop p q = omega arith
quote-cost (Expr e) p q = omega arith
quote-cost (Block b) p q = omega (arith, plus-value (Some 1) p)
quote-cost (Assignment n e o i) p q = omega arith
quote-cost (Var n e i c) p q = omega arith
quote-cost (If e b c) p q = omega (arith, plus-value (Some 2) (larger p q), larger-value p q)
quote-cost (While e b) p q = omega arith
quote-cost (Do e b n) p q = omega arith
quote-cost (For n c e b) p q = omega arith
quote-cost (BreakLoop e b) p q = omega (arith, charges-value e)
quote-cost (TryCatch b c n) p q = omega (arith, plus-value (Some 1) (plus p q), plus-value p q)
quote-cost (Return e t) p q = omega (arith, charges-value e)
quote-cost (Import e n) p q = omega arith

-- one statement more
pub joined-more : (f : ℕ → Summary) (k : ℕ) (sum row : Summary) → sum ≡ joined_below f k → row ≡ f k → joined sum row ≡ joined_below f (k + 1)
joined-more f k sum row e h = rw add-one (ap (λ (x : Summary). joined x row) e ∙ ap (λ (x : Summary). joined (joined_below f k) x) h)

pub joined-cost : (f : ℕ → Summary) (c : ℕ → ℕ) (n : ℕ) → ((k : ℕ) → value (f k).quote ≤ c k) → value (joined_below f n).quote ≤ sum_below c n
joined-cost f c zero h = omega arith
joined-cost f c (suc n) h = omega (arith, joined-cost f c n h, plus-value (joined_below f n).quote (f n).quote, h n)

pub joined_same : (f g : ℕ → Summary) (n : ℕ) → ((k : ℕ) → k < n → f k ≡ g k) → joined_below f n ≡ joined_below g n
joined_same f g zero h = refl
joined_same f g (suc n) h =
    ap (λ (x : Summary). joined x (f n)) (joined_same f g n (λ k lt. h k (omega arith))) ∙ ap (λ (x : Summary). joined (joined_below g n) x) (h n (omega arith))

pub joined_height : (f : ℕ → Summary) (n m : ℕ) → 1 ≤ m → ((k : ℕ) → (f k).height ≤ m) → (joined_below f n).height ≤ m
joined_height f zero m le h = le
joined_height f (suc n) m le h = omega (arith, joined_height f n m le h, h n)

pub row-cost : (s : List ℕ) (f : ℕ → Summary) (b k : ℕ) → value (of_row s f b k).quote ≤ cost s f b k
row-cost s f b k =
    quote-cost (stmt_in s b k) (named absent f (parts (stmt_in s b k)).body).quote (named absent f (parts (stmt_in s b k)).branch).quote
