-- the answer of the first row with a path, by the library's search
use Rattle.std.proofs.Common.{◌≡◌, ℕ, Bool, true, false, cond, List, [], ◌∷◌, Some, None, Option, Ok, refl, eqb}
use Rattle.std.specs.List.{find}
use Rattle.std.specs.Option.{option_map_or}
use Rattle.resolve.specs.declared.table.PathRow.{PathRow}
use Rattle.resolve.specs.Answers.{Resolved}
use Rattle.resolve.specs.Table.{first_of}

abbrev pub answer_of : Option PathRow → Resolved
answer_of found = option_map_or (λ (row : PathRow). row.answer) found (Ok None)

in_row : (t : Bool) (row : PathRow) (rest : Option PathRow) (other : Resolved) → answer_of rest ≡ other → answer_of (cond t (Some row) rest) ≡ cond t row.answer other
in_row true row rest other e = refl
in_row false row rest other e = e

pub first_found : (rows : List PathRow) (path : ℕ) → answer_of (find (λ (row : PathRow). eqb row.path path) rows) ≡ first_of rows path
first_found [] path = refl
first_found (row ∷ rows) path = in_row (eqb row.path path) row _ _ (first_found rows path)
