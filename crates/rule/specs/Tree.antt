-- what is said of a block by the tree of the blocks that it names; d bounds how many levels are looked at
use Rattle.std.specs.Prelude.{ℕ, zero, suc, ◌+◌, max, Bool, true, false, ◌&&◌, List, Some, None, Option}
use Rattle.image.specs.declared.rows.Stmt.{Stmt}
use Rattle.image.specs.declared.rows.Stmt.TheVariants.{Noop, Expr, Block, Assignment, Var, If, While, Do, For, BreakLoop, TryCatch, Return, Import}
use Rattle.image.specs.Bytes.{all_below}
use Rattle.image.specs.Rows.{block, stmt, parts}

-- the most levels that blocks may nest, block 0 being the first
abbrev pub deepest : ℕ
deepest = 32

-- statement k of block b
abbrev pub stmt_in : List ℕ → ℕ → ℕ → Stmt
stmt_in s b k = stmt s ((block s b).first + k)

-- what is said of a named block, and x of an empty one
abbrev pub named : {A : Type 0} → A → (ℕ → A) → Option ℕ → A
named x f None = x
named x f (Some n) = f n

-- block b and the blocks below it are at most d levels
unfoldable pub within : List ℕ → ℕ → ℕ → Bool
within s zero b = false
within s (suc d) b =
    all_below (λ k. named true (within s d) (parts (stmt_in s b k)).body && named true (within s d) (parts (stmt_in s b k)).branch) (block s b).count

-- whether each break of a statement is inside a loop body, if that is said of its body and of its branch
abbrev pub holds_breaks : Stmt → Bool → Bool → Bool
holds_breaks Noop p q = true
holds_breaks (Expr e) p q = true
holds_breaks (Block b) p q = p
holds_breaks (Assignment n e o i) p q = true
holds_breaks (Var n e i c) p q = true
holds_breaks (If e b c) p q = p && q
holds_breaks (While e b) p q = true
holds_breaks (Do e b n) p q = true
holds_breaks (For n c e b) p q = true
holds_breaks (BreakLoop e b) p q = false
holds_breaks (TryCatch b c n) p q = p && q
holds_breaks (Return e t) p q = true
holds_breaks (Import e n) p q = true

-- each BreakLoop of block b and of the blocks below it is inside the body of a loop that is there too
unfoldable pub contained : List ℕ → ℕ → ℕ → Bool
contained s zero b = true
contained s (suc d) b =
    all_below (λ k. holds_breaks (stmt_in s b k) (named true (contained s d) (parts (stmt_in s b k)).body) (named true (contained s d) (parts (stmt_in s b k)).branch))
    (block s b).count

-- a sum of quotes, absent where a part is
abbrev pub plus : Option ℕ → Option ℕ → Option ℕ
plus None o = None
plus (Some a) None = None
plus (Some a) (Some b) = Some (a + b)

-- the larger of two quotes, absent where one is
abbrev pub larger : Option ℕ → Option ℕ → Option ℕ
larger None o = None
larger (Some a) None = None
larger (Some a) (Some b) = Some (max a b)

-- what one evaluation of an expression counts
abbrev pub expr_charge : ℕ → ℕ
expr_charge e = 1

-- the same of an optional expression
abbrev pub expr_charges : Option ℕ → ℕ
expr_charges None = 0
expr_charges (Some e) = expr_charge e

-- the quote of a statement from those of its body and its branch: its own charge, its expression's, and what its blocks add.
-- A rule with a quote has no loop, and so no BreakLoop
abbrev pub stmt_quote : Stmt → Option ℕ → Option ℕ → Option ℕ
stmt_quote Noop p q = Some 1
stmt_quote (Expr e) p q = Some (1 + expr_charge e)
stmt_quote (Block b) p q = plus (Some 1) p
stmt_quote (Assignment n e o i) p q = Some (2 + expr_charge e)
stmt_quote (Var n e i c) p q = Some (1 + expr_charge e)
stmt_quote (If e b c) p q = plus (Some (1 + expr_charge e)) (larger p q)
stmt_quote (While e b) p q = None
stmt_quote (Do e b n) p q = None
stmt_quote (For n c e b) p q = None
stmt_quote (BreakLoop e b) p q = Some (1 + expr_charges e)
stmt_quote (TryCatch b c n) p q = plus (Some 1) (plus p q)
stmt_quote (Return e t) p q = Some (1 + expr_charges e)
stmt_quote (Import e n) p q = Some (1 + expr_charge e)

-- f 0, f 1, .. together, n of them
abbrev pub plus_below : (ℕ → Option ℕ) → ℕ → Option ℕ
plus_below f zero = Some 0
plus_below f (suc n) = plus (plus_below f n) (f n)

-- the quotes of the statements of block b together
unfoldable pub block_quote : List ℕ → ℕ → ℕ → Option ℕ
block_quote s zero b = None
block_quote s (suc d) b =
    plus_below (λ k. stmt_quote (stmt_in s b k) (named (Some 0) (block_quote s d) (parts (stmt_in s b k)).body) (named (Some 0) (block_quote s d) (parts (stmt_in s b k)).branch))
    (block s b).count
