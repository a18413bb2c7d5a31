-- the answer of a table
use Rattle.std.specs.Prelude.{ℕ, cond, List, [], ◌∷◌, None, Ok, ◌==◌}
use Rattle.resolve.specs.declared.table.PathRow.{PathRow}
use Rattle.resolve.specs.Answers.{Resolved}

-- the answer of the first row with the path, also where that row says not found; not found where there is none
abbrev pub first_of : List PathRow → ℕ → Resolved
first_of [] path = Ok None
first_of (row ∷ rows) path = cond (row.path == path) row.answer (first_of rows path)
