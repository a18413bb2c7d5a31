use Rattle.std.proofs.Common.{sym, subst}
use Rattle.rule.specs.Checked.{Lawful}
use Rattle.rule.proofs.Verdicts.{empty_lawful}
use Rattle.rule.proofs.checked.CheckedRule.empty.Goals as goal

pub invariant_of-result : goal.invariant_of-result
invariant_of-result c = record { lawful = subst Lawful (sym c.empty.ensures) empty_lawful }
