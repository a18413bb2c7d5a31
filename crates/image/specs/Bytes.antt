-- fields of an image, and tests and sums over the rows of a table
use Rattle.std.specs.Prelude.{ℕ, zero, suc, ◌+◌, ◌*◌, Bool, true, ◌&&◌, List, slice_index}

-- a field of 16 bits, little-endian; bytes past the end are 0
abbrev pub word : List ℕ → ℕ → ℕ
word s i = slice_index s i + 256 * slice_index s (i + 1)

-- p holds of each number below n
abbrev pub all_below : (ℕ → Bool) → ℕ → Bool
all_below p zero = true
all_below p (suc n) = p n && all_below p n

-- f 0 + f 1 + .. , n of them
abbrev pub sum_below : (ℕ → ℕ) → ℕ → ℕ
sum_below f zero = 0
sum_below f (suc n) = sum_below f n + f n
