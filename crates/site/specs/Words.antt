-- values and operators in words
use Rattle.std.specs.Prelude.{ℕ, true, false, List, ◌++◌, codes}
use Rattle.std.specs.Fmt.{signed_decimal}
use Rattle.site.specs.declared.expr.Operator.{Operator}
use Rattle.site.specs.declared.expr.Operator.TheVariants as operator
use Rattle.site.specs.declared.value.SiteValue.{SiteValue}
use Rattle.site.specs.declared.value.SiteValue.TheVariants as value

abbrev pub shown : SiteValue → List ℕ
shown value.Unit = codes "unit"
shown (value.Truth true) = codes "true"
shown (value.Truth false) = codes "false"
shown (value.Number n) = signed_decimal n
shown (value.Range a b) = signed_decimal a ++ codes ".." ++ signed_decimal b

abbrev pub sign : Operator → List ℕ
sign operator.Add = codes "+"
sign operator.Subtract = codes "-"
sign operator.Less = codes "<"
sign operator.Equal = codes "="
sign operator.Range = codes ".."
