-- three rules that a lawful image keeps, each over whole tables
use Rattle.std.specs.Prelude.{ℕ, ◌+◌, Bool, true, false, cond, ◌&&◌, ◌||◌, List, is_some, Some, None, Option, ◌==◌, nat_eq, nat_le, nat_lt}
use Rattle.image.specs.declared.rows.Name.{Name}
use Rattle.image.specs.declared.rows.Parts.{Parts}
use Rattle.image.specs.declared.rows.StmtRow.{StmtRow}
use Rattle.image.specs.Bytes.{all_below, sum_below}
use Rattle.image.specs.Layouts.{layout_of}
use Rattle.image.specs.Rows.{block, stmt_at, stmt, expr_at, parts}

-- how many statements the blocks before b have
abbrev pub before : List ℕ → ℕ → ℕ
before s b = sum_below (λ c. (block s c).count) b

-- the blocks use up the statements in order: each begins where those before it end, and the last ends the table
abbrev pub in_order : List ℕ → Bool
in_order s =
    all_below (λ b. nat_eq (block s b).first (before s b)) (layout_of s).blocks
    && before s (layout_of s).blocks == (layout_of s).statements

-- a reference to one of n rows, or none
abbrev pub refers : ℕ → Option ℕ → Bool
refers n None = true
refers n (Some i) = nat_lt i n

-- a name within a text of n bytes, or none
abbrev pub lies : ℕ → Option Name → Bool
lies n None = true
lies n (Some x) = nat_le (x.offset + x.length) n

-- every reference is inside its table
abbrev pub fits : List ℕ → Parts → Bool
fits s p =
    refers (layout_of s).expressions p.expr
    && ((refers (layout_of s).blocks p.body && refers (layout_of s).blocks p.branch)
    && (lies (layout_of s).text p.name && lies (layout_of s).text p.counter))

abbrev pub sound_row : List ℕ → Option StmtRow → Bool
sound_row s None = false
sound_row s (Some x) = fits s (parts x.stmt)

-- statement row i has a known kind, small flags and every required part, and refers to what is there
abbrev pub sound : List ℕ → ℕ → Bool
sound s i = sound_row s (stmt_at s i)

-- so do all statement rows, and every expression row has a known kind
abbrev pub all_sound : List ℕ → Bool
all_sound s = all_below (sound s) (layout_of s).statements && all_below (λ i. is_some (expr_at s i)) (layout_of s).expressions

-- a block that is named is higher than b
abbrev pub above : ℕ → Option ℕ → Bool
above b None = true
above b (Some n) = nat_lt b n

abbrev pub names_above : ℕ → Parts → Bool
names_above b p = above b p.body && above b p.branch

-- the statements of block b name only higher blocks
abbrev pub block_above : List ℕ → ℕ → Bool
block_above s b = all_below (λ k. names_above b (parts (stmt s ((block s b).first + k)))) (block s b).count

abbrev pub names : Option ℕ → ℕ → ℕ
names None n = 0
names (Some m) n = cond (m == n) 1 0

-- how often a statement names block n
abbrev pub hits : Parts → ℕ → ℕ
hits p n = names p.body n + names p.branch n

-- how often block n is named
abbrev pub namings : List ℕ → ℕ → ℕ
namings s n = sum_below (λ j. hits (parts (stmt s j)) n) (layout_of s).statements

-- each block but block 0 is named exactly once
abbrev pub once_each : List ℕ → Bool
once_each s = all_below (λ n. (n == 0) || namings s n == 1) (layout_of s).blocks

-- a named block is higher than the namer's, and each above 0 is named exactly once
abbrev pub named_once : List ℕ → Bool
named_once s = all_below (block_above s) (layout_of s).blocks && once_each s
