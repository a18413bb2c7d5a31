-- what the effects of a script do to the variables
use Rattle.std.specs.Prelude.{ℕ, ◌+◌, ◌-◌, min, Bool, cond, ◌&&◌, List, [], ◌∷◌, ◌++◌, length, get_or, Some, None, Option, nat_le, nat_lt, slice_index_or, slice_set}
use Rattle.rows.specs.declared.variable.Access.TheVariants.{ReadWrite}
use Rattle.rows.specs.declared.variable.VarRow.{VarRow}
use Rattle.rows.specs.Rows.{variable, revalued, blank_variable}
use Rattle.script.specs.declared.effect.Effect.{Effect}
use Rattle.script.specs.declared.effect.Effect.TheVariants.{Append, Set}
use Rattle.script.specs.declared.value.ScriptValue.{ScriptValue}
use Rattle.script.specs.declared.value.ScriptValue.TheVariants.{Unit as TheUnit}

abbrev pub Row : Type 0
Row = VarRow ScriptValue

-- the row that counts k back from the last of so many; 1 is the last
abbrev pub back_of : ℕ → ℕ → Option ℕ
back_of many k = cond (nat_lt 0 k && nat_le k many) (Some (many - k)) None

-- what stands past the end of the rows, to name an element of them
abbrev pub no_row : Row
no_row = blank_variable TheUnit

-- another value for a row, if there is such a row; its name and access stay
abbrev pub changed : List Row → Option ℕ → ScriptValue → List Row
changed rows None v = rows
changed rows (Some i) v = cond (nat_lt i (length rows)) (slice_set rows i (revalued (slice_index_or rows i no_row) v)) rows

-- the value of a row, and unit where there is none
abbrev pub value_in : List Row → Option ℕ → ScriptValue
value_in rows None = TheUnit
value_in rows (Some i) = cond (nat_lt i (length rows)) (get_or rows i no_row).value TheUnit

-- the rows in use after an effect: append while there are fewer than the limit, set k back from the last
abbrev pub done : ℕ → List Row → Option Effect → List Row
done limit rows None = rows
done limit rows (Some (Append p v)) = cond (nat_lt (length rows) limit) (rows ++ (variable p ReadWrite v ∷ [])) rows
done limit rows (Some (Set k v)) = changed rows (back_of (length rows) k) v

-- two effects in order
abbrev pub both_done : ℕ → List Row → Option Effect → Option Effect → List Row
both_done limit rows first second = done limit (done limit rows first) second

-- the same on a table of which so many rows are in use: whether there is room for one more, how many are in use after
-- an effect, and the table after it
abbrev pub room_for : ℕ → List Row → ℕ → Bool
room_for limit vars used = nat_lt used (min limit (length vars))

abbrev pub used_after : ℕ → List Row → ℕ → Option Effect → ℕ
used_after limit vars used None = used
used_after limit vars used (Some (Append p v)) = cond (room_for limit vars used) (used + 1) used
used_after limit vars used (Some (Set k v)) = used

abbrev pub table_after : ℕ → List Row → ℕ → Option Effect → List Row
table_after limit vars used None = vars
table_after limit vars used (Some (Append p v)) = cond (room_for limit vars used) (slice_set vars used (variable p ReadWrite v)) vars
table_after limit vars used (Some (Set k v)) = changed vars (back_of used k) v
