use Rattle.std.proofs.Common.{◌≤◌, ap, arith}
use Rattle.image.specs.Layouts.{layout_of}
use Rattle.image.specs.declared.layout.Layout.{Layout}
use Rattle.rule.proofs.Filling.{filled_none, room, filled_more}
use Rattle.rule.proofs.tree.Tree.summaries.Goals as goal

pub loop-b-init : goal.loop-b-init
loop-b-init c =
    filled_none c.args.self.now.tables.image.now c.args.self.now.naming c.layout-b.result.blocks (ap (λ (l : Layout). l.blocks) c.layout-b.ensures)

pub block_summary-requires : goal.block_summary-requires
block_summary-requires c =
    let s = c.args.self.now.tables.image.now in
    let all = ap (λ (l : Layout). l.blocks) c.layout-b.ensures in
    let few : c.loop-b.b ≤ (layout_of s).blocks = omega arith in
    room s c.args.self.now.naming c.args.self.now.tables.sized c.args.self.now.order c.args.self.now.rows c.loop-b.table.0 c.loop-b.b c.loop-b-test.true few c.loop-b.invariant

pub loop-b-preserved : goal.loop-b-preserved
loop-b-preserved c =
    let s = c.args.self.now.tables.image.now in
    let all = ap (λ (l : Layout). l.blocks) c.layout-b.ensures in
    let few : c.loop-b.b ≤ (layout_of s).blocks = omega arith in
    filled_more s c.args.self.now.naming c.args.self.now.tables.sized c.args.self.now.order c.args.self.now.rows c.loop-b.table.0 c.loop-b.b c.loop-b-test.true few c.loop-b.invariant
    c.block_summary.result c.block_summary.ensures
