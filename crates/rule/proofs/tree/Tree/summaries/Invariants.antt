use Rattle.rule.proofs.Filling.{Filled}
use Rattle.rule.proofs.tree.Tree.summaries.Given as goal

abbrev pub invariant-loop-b : goal.invariant-loop-b
invariant-loop-b l = Filled l.self.tables.image.now l.table.0 l.b
