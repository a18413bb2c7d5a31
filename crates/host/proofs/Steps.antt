-- steps that leave the variables as they are
use Rattle.std.proofs.Common.{◌≡◌, ℕ, min, List, ◌++◌, map, length, drop, sym, ap, ◌∙◌, arith, take-append-drop}
use Rattle.std.proofs.lemmas.List.{length-take-le}
use Rattle.std.proofs.Math.Seq.{take-length}
use Rattle.rows.specs.declared.variable.VarRow.{VarRow}
use Rattle.rows.specs.Rows.{in_use}
use Rattle.host.specs.Meaning.{Grown, over, place_of, access_of}

-- how many rows are in use
pub length_in_use : {R : Type 0} (rows : List R) (used : ℕ) → length (in_use rows used) ≡ min used (length rows)
length_in_use rows used = length-take-le (min used (length rows)) rows (omega arith)

-- the rows in use, laid over their table, leave it as it is
pub over_none : {R : Type 0} (rows : List R) (used : ℕ) → rows ≡ over (in_use rows used) rows
over_none rows used =
    sym (ap (λ k. in_use rows used ++ drop k rows) (length_in_use rows used) ∙ take-append-drop (min used (length rows)) rows)

pub grown_none : {V : Type 0} (limit : ℕ) (rows : List (VarRow V)) → Grown limit rows rows
grown_none limit rows = record {
  longer = omega arith;
  limited = omega arith;
  places = ap (map place_of) (take-length rows);
  accesses = ap (map access_of) (take-length rows);
  added = λ i le lt d. absurd (omega arith);
}
