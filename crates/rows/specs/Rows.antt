-- rows, made and changed by a few operations only
use Rattle.std.specs.Prelude.{List, ℕ, min, length, take}
use Rattle.rows.specs.declared.place.Place.{Place}
use Rattle.rows.specs.declared.variable.Access.{Access}
use Rattle.rows.specs.declared.variable.Access.TheVariants.{ReadWrite}
use Rattle.rows.specs.declared.import.ImportRow.{ImportRow}
use Rattle.rows.specs.declared.variable.VarRow.{VarRow}
use Rattle.rows.specs.Places.{no_place}

abbrev pub variable : {V : Type 0} → Place → Access → V → VarRow V
variable p a v = record { place = p; access = a; value = v }

-- the same variable with another value
abbrev pub revalued : {V : Type 0} → VarRow V → V → VarRow V
revalued x v = variable x.place x.access v

-- the same name, declared anew
abbrev pub redeclared : {V : Type 0} → VarRow V → Access → V → VarRow V
redeclared x a v = variable x.place a v

-- no name, read-write, unit
abbrev pub blank_variable : {V : Type 0} → V → VarRow V
blank_variable unit = variable no_place ReadWrite unit

abbrev pub import : Place → ℕ → ImportRow
import p m = record { place = p; «module» = m }

-- no name, module 0
abbrev pub blank_import : ImportRow
blank_import = import no_place 0

-- the rows in use; a number past the rows counts as all of them
abbrev pub in_use : {R : Type 0} → List R → ℕ → List R
in_use rows used = take (min used (length rows)) rows
