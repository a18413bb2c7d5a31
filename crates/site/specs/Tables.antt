-- the expressions of a table, by code
use Rattle.std.specs.Prelude.{ℕ, cond, List, length, Some, None, Option, nat_lt, slice_index_or}
use Rattle.site.specs.declared.expr.Operand.TheVariants.{Constant}
use Rattle.site.specs.declared.expr.SiteExpr.{SiteExpr}
use Rattle.site.specs.declared.expr.SiteExpr.TheVariants as expr
use Rattle.site.specs.declared.value.SiteValue.TheVariants as value

-- the expression under a code; what get_or gives past the table's end is not used
abbrev pub expr_at : List SiteExpr → ℕ → Option SiteExpr
expr_at table code = cond (nat_lt code (length table)) (Some (slice_index_or table code (expr.Operand (Constant value.Unit)))) None
