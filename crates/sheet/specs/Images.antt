-- the image that is written of rows
use Rattle.std.specs.Prelude.{◌≡◌, ℕ, true, false, List, ◌++◌, length, slice_index_or}
use Rattle.std.specs.List.{slice_get, flat_map}
use Rattle.std.specs.Option.{option_map}
use Rattle.image.specs.Rows.{Rows, rows_of, text_of}
use Rattle.sheet.specs.declared.sheet.ExprEntry.{ExprEntry}
use Rattle.sheet.specs.declared.sheet.Sheet.{Sheet}
use Rattle.sheet.specs.declared.sheet.StmtEntry.{StmtEntry}
use Rattle.sheet.specs.declared.writer.Unwritten.{Unwritten}
use Rattle.sheet.specs.declared.writer.Unwritten.TheVariants.{Range, Memory}
use Rattle.sheet.specs.Ranges.{in_range}
use Rattle.sheet.specs.Encoding.{header_bytes, block_bytes, stmt_bytes, expr_bytes}

-- the tables, one behind the other
abbrev pub tables : Sheet → List ℕ
tables x =
    flat_map block_bytes x.blocks.now
    ++ (flat_map stmt_bytes x.statements.now ++ (flat_map expr_bytes x.expressions.now ++ x.text.now))

abbrev pub written : Sheet → List ℕ
written x =
    header_bytes (length x.blocks.now) (length x.statements.now) (length x.expressions.now) (length x.text.now)
    ++ tables x

-- the rows of a sheet by their numbers, with nothing past the end of a table
abbrev pub rows_in : Sheet → Rows
rows_in x = record {
  blocks = length x.blocks.now;
  statements = length x.statements.now;
  expressions = length x.expressions.now;
  text = length x.text.now;
  block = λ i. slice_index_or x.blocks.now i (record { first = 0; count = 0 });
  statement = λ i. option_map (λ (y : StmtEntry). y.row) (slice_get x.statements.now i);
  expression = λ i. option_map (λ (y : ExprEntry). y.row) (slice_get x.expressions.now i);
}

-- what is read of an image is what stands in the sheet
pub record ReadsAs (s : List ℕ) (x : Sheet) : Type 0 where
  pub rows : rows_of s ≡ rows_in x
  pub text : text_of s ≡ x.text.now

-- when there is no image: the sheet is out of range, or it is in range and memory was short
abbrev pub Fails : Sheet → Unwritten → Type 0
Fails x Range = in_range x ≡ false
Fails x Memory = in_range x ≡ true
