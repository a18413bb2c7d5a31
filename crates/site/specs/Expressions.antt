-- what an expression comes to
use Rattle.std.specs.Prelude.{ℕ, List, Some, None, Ok, Err, Option, slice_index_or}
use Rattle.rows.specs.declared.place.Place.{Place}
use Rattle.rows.specs.declared.variable.VarRow.{VarRow}
use Rattle.rows.specs.Places.{text_of}
use Rattle.rows.specs.Rows.{blank_variable}
use Rattle.names.specs.Lists.{last_named, name_in}
use Rattle.host.specs.Meaning.{Seen, place_of}
use Rattle.site.specs.declared.expr.Operand.{Operand}
use Rattle.site.specs.declared.expr.Operand.TheVariants.{Constant, Variable}
use Rattle.site.specs.declared.expr.SiteExpr.{SiteExpr}
use Rattle.site.specs.declared.expr.SiteExpr.TheVariants as expr
use Rattle.site.specs.declared.value.Failure.TheVariants.{UnknownVariable, UnknownCode}
use Rattle.site.specs.declared.value.SiteValue.{SiteValue}
use Rattle.site.specs.declared.value.SiteValue.TheVariants as value
use Rattle.site.specs.Operators.{Outcome, operator_of, on_both}

-- the value of the row that was found
abbrev pub value_at : List (VarRow SiteValue) → Option ℕ → Outcome
value_at rows None = Err UnknownVariable
value_at rows (Some i) = Ok (slice_index_or rows i (blank_variable value.Unit)).value

-- the value of the last variable in use whose name has the bytes of this one
abbrev pub looked : Seen SiteValue → Place → Outcome
looked v p = value_at v.rows (last_named (name_in place_of v.rule v.site) (text_of p v.rule v.site) v.rows)

abbrev pub operand_of : Seen SiteValue → Operand → Outcome
operand_of v (Constant x) = Ok x
operand_of v (Variable p) = looked v p

-- both operands are looked up, and then the operator is asked
abbrev pub value_of : Seen SiteValue → SiteExpr → Outcome
value_of v (expr.Operand o) = operand_of v o
value_of v (expr.Binary op l r) = on_both (operator_of op) (operand_of v l) (operand_of v r)

-- a code past the table has no value
abbrev pub answer_of : Option SiteExpr → Seen SiteValue → Outcome
answer_of None v = Err UnknownCode
answer_of (Some e) v = value_of v e
