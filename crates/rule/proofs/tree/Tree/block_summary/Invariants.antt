use Rattle.std.proofs.Common.{◌≡◌, ◌+◌, ◌-◌, ◌≤◌}
use Rattle.image.specs.Bytes.{sum_below}
use Rattle.image.specs.Rows.{block}
use Rattle.rule.specs.Summaries.{entry, of_row, joined_below, value, cost}
use Rattle.rule.proofs.tree.Tree.block_summary.Given as goal

abbrev pub invariant-loop-i : goal.invariant-loop-i
invariant-loop-i l =
    (l.sum ≡ joined_below (of_row l.self.tables.image.now (entry l.table.0) l.b) (l.i-iterator.start - (block l.self.tables.image.now l.b).first))
    × (value l.sum.quote ≤ sum_below (cost l.self.tables.image.now (entry l.table.0) l.b) (l.i-iterator.start - (block l.self.tables.image.now l.b).first))
    × ((block l.self.tables.image.now l.b).first ≤ l.i-iterator.start)
    × (l.i-iterator.start ≤ l.i-iterator.end)
    × (l.i-iterator.end ≡ (block l.self.tables.image.now l.b).first + (block l.self.tables.image.now l.b).count)
