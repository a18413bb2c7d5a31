-- the header of an image, and where its tables lie
use Rattle.std.specs.Prelude.{ℕ, ◌+◌, ◌*◌, Bool, cond, ◌&&◌, List, [], ◌∷◌, length, Ok, Err, Result, ◌==◌, nat_le, slice_index}
use Rattle.image.specs.declared.layout.Layout.{Layout}
use Rattle.image.specs.declared.refusal.Refusal.{Refusal}
use Rattle.image.specs.declared.refusal.Refusal.TheVariants.{Header, Counts}
use Rattle.image.specs.Bytes.{word}

-- a header's worth of bytes with the mark RHS, version 1 and the zero byte
abbrev pub headed : List ℕ → Bool
headed s =
    nat_le 14 (length s)
    && ((slice_index s 0 == 82 && (slice_index s 1 == 72 && slice_index s 2 == 83))
    && (word s 3 == 1 && slice_index s 5 == 0))

-- the counts of the header, and each table behind the one before
abbrev pub layout_of : List ℕ → Layout
layout_of s = record {
  blocks = word s 6;
  statements = word s 8;
  expressions = word s 10;
  text = word s 12;
  blocks_at = 14;
  statements_at = 14 + 4 * word s 6;
  expressions_at = 14 + 4 * word s 6 + 20 * word s 8;
  text_at = 14 + 4 * word s 6 + 20 * word s 8 + 8 * word s 10;
}

-- each count in its range, and the tables end where the image does
abbrev pub counted : List ℕ → Bool
counted s =
    (nat_le 1 (layout_of s).blocks && nat_le (layout_of s).blocks 256)
    && (nat_le (layout_of s).statements 1024 && (nat_le (layout_of s).expressions 1024 && (nat_le (layout_of s).text 2048
    && length s == (layout_of s).text_at + (layout_of s).text)))

-- the layout, or the refusal of the header
abbrev pub laid_out : List ℕ → Result Layout Refusal
laid_out s = cond (headed s) (cond (counted s) (Ok (layout_of s)) (Err Counts)) (Err Header)

-- the empty rule: one block of no statements
abbrev pub empty_image : List ℕ
empty_image = 82 ∷ 72 ∷ 83 ∷ 1 ∷ 0 ∷ 0 ∷ 1 ∷ 0 ∷ 0 ∷ 0 ∷ 0 ∷ 0 ∷ 0 ∷ 0 ∷ 0 ∷ 0 ∷ 0 ∷ 0 ∷ []
