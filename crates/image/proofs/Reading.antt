-- a row that is cut out of an image reads as it does in the image
use Rattle.std.proofs.Common.{◌≡◌, ℕ, ◌+◌, ◌*◌, ◌-◌, ◌<◌, ◌≤◌, length, slice_index, take, drop, List, Option, Bor, Some, None, MatchOption, ap, ◌∙◌, arith, rules}
use Rattle.std.proofs.Math.Nat.{add_assoc, add-zero, mul-le-mul_left}
use Rattle.std.proofs.lemmas.List.{get_or-take, get_or-drop, length-drop, take_all}
use Rattle.std.specs.Array.{IsFirstChunk}
use Rattle.image.specs.Rows.{block_from, expr_from, fields_from}

byte_cut : (s : List ℕ) (a n k : ℕ) → k < n → slice_index (take n (drop a s)) k ≡ slice_index s (a + k)
byte_cut s a n k lt = get_or-take n (drop a s) k 0 lt ∙ get_or-drop a s k 0

pub block_cut : (s : List ℕ) (a : ℕ) → block_from (take 4 (drop a s)) 0 ≡ block_from s a
block_cut s a = search (rules, byte_cut, add_assoc, add-zero)

pub expr_cut : (s : List ℕ) (a : ℕ) → expr_from (take 8 (drop a s)) 0 ≡ expr_from s a
expr_cut s a = search (rules, byte_cut, add_assoc, add-zero)

pub fields_cut : (s : List ℕ) (a : ℕ) → fields_from (take 20 (drop a s)) 0 ≡ fields_from s a
fields_cut s a = search (rules, byte_cut, add_assoc, add-zero)

-- the first row of what an image has from row i on
pub first_row : (s : List ℕ) (at n rows i : ℕ) (o : Option (Bor (List ℕ))) → at + n * rows ≤ length s → i < rows →
    MatchOption o (length (take (length s - (at + n * i)) (drop (at + n * i) s)) < n) (λ y. IsFirstChunk (take (length s - (at + n * i)) (drop (at + n * i) s)) y.now n) →
    MatchOption o (rows ≤ i) (λ row. (i < rows) × (row.now ≡ take n (drop (at + n * i) s)))
first_row s at n rows i None room lt short =
    let rest = drop (at + n * i) s in
    let whole = ap length (take_all (length s - (at + n * i)) rest (omega (arith, length-drop (at + n * i) s))) in
    absurd (omega (arith, whole, short, room, length-drop (at + n * i) s, mul-le-mul_left {m = i + 1} {n = rows} n (omega arith)))
first_row s at n rows i (Some row) room lt first =
    (lt, first.same ∙ ap (take n) (take_all (length s - (at + n * i)) (drop (at + n * i) s) (omega (arith, length-drop (at + n * i) s))))
