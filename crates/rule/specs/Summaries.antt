-- the table by which a program finds nesting, stray breaks and quotes of all blocks at once
use Rattle.std.specs.Prelude.{ℕ, zero, suc, ◌+◌, ◌^◌, ◌<◌, ◌≤◌, max, true, ◌&&◌, List, Some, None, Ok, Option, Result, nat_le, slice_index_or}
use Rattle.image.specs.declared.refusal.Refusal.{Refusal}
use Rattle.image.specs.declared.refusal.Refusal.TheVariants.{Nesting, StrayBreak}
use Rattle.image.specs.declared.rows.Stmt.{Stmt}
use Rattle.image.specs.Bytes.{sum_below}
use Rattle.image.specs.Layouts.{layout_of}
use Rattle.image.specs.Rows.{block, parts}
use Rattle.rule.specs.declared.summary.Summary.{Summary}
use Rattle.rule.specs.Checked.{unless}
use Rattle.rule.specs.Tree.{deepest, stmt_in, named, holds_breaks, stmt_quote, plus}

-- of an empty reference, which is no level
abbrev pub absent : Summary
absent = record { height = 0; contained = true; quote = Some 0 }

-- of a block of no statements
abbrev pub empty : Summary
empty = record { height = 1; contained = true; quote = Some 0 }

-- of a statement, from those of its body and its branch
abbrev pub of_stmt : Stmt → Summary → Summary → Summary
of_stmt x p q = record {
  height = 1 + max p.height q.height;
  contained = holds_breaks x p.contained q.contained;
  quote = stmt_quote x p.quote q.quote;
}

abbrev pub joined : Summary → Summary → Summary
joined a b = record { height = max a.height b.height; contained = b.contained && a.contained; quote = plus a.quote b.quote }

-- of a statement, from those of what it may name
abbrev pub summary_of : Stmt → (Option ℕ → Summary) → Summary
summary_of x f = of_stmt x (f (parts x).body) (f (parts x).branch)

-- of statement k of block b, from those of all blocks
abbrev pub of_row : List ℕ → (ℕ → Summary) → ℕ → ℕ → Summary
of_row s f b k = summary_of (stmt_in s b k) (named absent f)

abbrev pub joined_below : (ℕ → Summary) → ℕ → Summary
joined_below f zero = empty
joined_below f (suc n) = joined (joined_below f n) (f n)

abbrev pub of_block : List ℕ → (ℕ → Summary) → ℕ → Summary
of_block s f b = joined_below (of_row s f b) (block s b).count

-- block b, looked at d levels deep
unfoldable pub looked : List ℕ → ℕ → ℕ → Summary
looked s zero b = empty
looked s (suc d) b = of_block s (looked s d) b

-- block b with all below it: named blocks are higher, so there are no more levels than blocks
abbrev pub summary : List ℕ → ℕ → Summary
summary s b = looked s (layout_of s).blocks b

-- a table of summaries as a function; what is past it is empty
abbrev pub entry : List Summary → ℕ → Summary
entry t n = slice_index_or t n empty

-- the number in a quote, 0 where there is none
abbrev pub value : Option ℕ → ℕ
value None = 0
value (Some n) = n

-- at least what a statement adds to a quote
abbrev pub cost_of : Stmt → (Option ℕ → Summary) → ℕ
cost_of x f = 3 + value (f (parts x).body).quote + value (f (parts x).branch).quote

-- at least what statement k of block b adds to the quote of the block
abbrev pub cost : List ℕ → (ℕ → Summary) → ℕ → ℕ → ℕ
cost s f b k = cost_of (stmt_in s b k) (named absent f)

-- the sums over block b stay within their types
pub record Room (s : List ℕ) (f : ℕ → Summary) (b : ℕ) : Type 0 where
  pub heights : (n : ℕ) → (f n).height ≤ 257
  pub costs : sum_below (cost s f b) (block s b).count < 2 ^ 32

-- the answer for a rule by the summary of its block 0
abbrev pub settled : Summary → Result (Option ℕ) Refusal
settled x = unless (nat_le x.height deepest) Nesting (unless x.contained StrayBreak (Ok x.quote))
