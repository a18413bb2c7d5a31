-- what holds of every checked rule, in words of its blocks and statements
use Rattle.std.specs.Prelude.{◌≡◌, ℕ, suc, ◌+◌, ◌*◌, ◌<◌, ◌≤◌, Bool, true, false, not, List, is_some, Some, Option}
use Rattle.image.specs.Bytes.{all_below}
use Rattle.image.specs.Layouts.{layout_of}
use Rattle.image.specs.Rows.{block, stmt, parts}
use Rattle.image.specs.declared.rows.Stmt.{Stmt}
use Rattle.image.specs.declared.rows.Stmt.TheVariants.{Noop, Expr, Block, Assignment, Var, If, While, Do, For, BreakLoop, TryCatch, Return, Import}
use Rattle.rule.specs.Checked.{quote}
use Rattle.rule.specs.Tree.{deepest}

-- the two places in which a statement names a block
pub data Place : Type 0 where
  body : Place
  branch : Place

-- the block that statement j names in a place
abbrev pub refers_to : List ℕ → ℕ → Place → Option ℕ
refers_to s j body = (parts (stmt s j)).body
refers_to s j branch = (parts (stmt s j)).branch

-- statement j stands in block b
pub record StandsIn (s : List ℕ) (j b : ℕ) : Type 0 where
  pub row : b < (layout_of s).blocks
  pub from : (block s b).first ≤ j
  pub to : j < (block s b).first + (block s b).count

-- block n is named by one statement, in one place, and that statement stands in a lower block
pub record NamedByOne (s : List ℕ) (n : ℕ) : Type 0 where
  pub namer : ℕ
  pub place : Place
  pub there : namer < (layout_of s).statements
  pub names : refers_to s namer place ≡ Some n
  pub only : (j : ℕ) (p : Place) → j < (layout_of s).statements → refers_to s j p ≡ Some n → (j ≡ namer) × (p ≡ place)
  pub lower : (b : ℕ) → StandsIn s namer b → b < n

-- each block above 0 is named exactly once, and by a lower one
abbrev pub EachNamedOnce : List ℕ → Type 0
EachNamedOnce s = (n : ℕ) → 0 < n → n < (layout_of s).blocks → NamedByOne s n

-- block b lies at level n: block 0 at level 1, and what a statement of a block names one level below that block
pub data AtLevel (s : List ℕ) : ℕ → ℕ → Type 0 where
  outermost : AtLevel s 0 1
  inner : {b n : ℕ} (c k : ℕ) (p : Place) → AtLevel s b n → k < (block s b).count → refers_to s ((block s b).first + k) p ≡ Some c → AtLevel s c (suc n)

-- no block lies deeper than the deepest level
abbrev pub NestsNoDeeper : List ℕ → Type 0
NestsNoDeeper s = (b n : ℕ) → AtLevel s b n → n ≤ deepest

abbrev pub is_loop : Stmt → Bool
is_loop Noop = false
is_loop (Expr e) = false
is_loop (Block b) = false
is_loop (Assignment n e o i) = false
is_loop (Var n e i c) = false
is_loop (If e b c) = false
is_loop (While e b) = true
is_loop (Do e b n) = true
is_loop (For n c e b) = true
is_loop (BreakLoop e b) = false
is_loop (TryCatch b c n) = false
is_loop (Return e t) = false
is_loop (Import e n) = false

-- a rule with no loop has a quote, and one with a loop has none
abbrev pub QuotedIfNoLoop : List ℕ → Type 0
QuotedIfNoLoop s = is_some (quote s) ≡ all_below (λ j. not (is_loop (stmt s j))) (layout_of s).statements

-- a quote is at most three for each statement
abbrev pub AtMostThrice : List ℕ → Type 0
AtMostThrice s = (q : ℕ) → quote s ≡ Some q → q ≤ 3 * (layout_of s).statements
