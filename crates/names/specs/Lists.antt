-- a list of named rows on a lent table: all rows of the table, and how many of them are in use
use Rattle.std.specs.Prelude.{◌≡◌, ℕ, ◌+◌, ◌-◌, ◌<◌, min, cond, List, [], ◌∷◌, ◌++◌, length, take, drop, replicate, Some, None, Option, nat_le, nat_lt, slice_index_or, slice_set}
use Rattle.std.specs.Str.{bytes_eq}
use Rattle.rows.specs.declared.place.Place.{Place}
use Rattle.rows.specs.Places.{text_of}

-- one row more, behind those in use, where there is room
abbrev pub appended : {R : Type 0} → List R → ℕ → R → List R
appended rows used row = cond (nat_lt used (length rows)) (slice_set rows used row) rows

abbrev pub lengthened : {R : Type 0} → List R → ℕ → Option ℕ
lengthened rows used = cond (nat_lt used (length rows)) (Some (used + 1)) None

-- the bytes of a row's name
abbrev pub name_in : {R : Type 0} → (R → Place) → List ℕ → List ℕ → R → List ℕ
name_in place rule site row = text_of (place row) rule site

-- the number of the last row with a name, and b where there is none; the first row here has number i
abbrev pub last_from : {R : Type 0} → (R → List ℕ) → List ℕ → ℕ → Option ℕ → List R → Option ℕ
last_from f name i b [] = b
last_from f name i b (x ∷ xs) = last_from f name (i + 1) (cond (bytes_eq (f x) name) (Some i) b) xs

abbrev pub last_named : {R : Type 0} → (R → List ℕ) → List ℕ → List R → Option ℕ
last_named f name rows = last_from f name 0 None rows

-- row i has the name
abbrev pub HasName : {R : Type 0} → (R → List ℕ) → List ℕ → List R → ℕ → Type 0
HasName f name rows i = (i < length rows) × ((d : _) → f (slice_index_or rows i d) ≡ name)

-- r is the last row with the name, and none exactly if no row has it
abbrev pub LastNamed : {R : Type 0} → (R → List ℕ) → List ℕ → List R → Option ℕ → Type 0
LastNamed f name rows None = (i : ℕ) → HasName f name rows i → ⊥
LastNamed f name rows (Some i) = HasName f name rows i × ((j : ℕ) → i < j → HasName f name rows j → ⊥)

-- the rows from n up to m are blank
abbrev pub wiped : {R : Type 0} → R → List R → ℕ → ℕ → List R
wiped blank rows n m = take n rows ++ (replicate (m - n) blank ++ drop m rows)

-- the rows from n up to the number in use are given up
abbrev pub rewound : {R : Type 0} → R → List R → ℕ → ℕ → List R
rewound blank rows used n = cond (nat_lt (length rows) used) rows (cond (nat_le used n) rows (wiped blank rows n used))

abbrev pub shortened : {R : Type 0} → List R → ℕ → ℕ → ℕ
shortened rows used n = cond (nat_lt (length rows) used) used (min used n)
