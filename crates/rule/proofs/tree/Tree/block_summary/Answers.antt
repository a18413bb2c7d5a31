use Rattle.std.proofs.Common.{◌≡◌, ◌+◌, ◌-◌, ◌<◌, ap, ◌∙◌, arith}
use Rattle.image.specs.Rows.{block, stmt}
use Rattle.image.proofs.Below.{sum_more}
use Rattle.rule.specs.declared.summary.Summary.{Summary}
use Rattle.rule.specs.Tree.{named}
use Rattle.rule.specs.Summaries.{absent, entry, summary_of, of_row, cost_of, cost, value}
use Rattle.rule.proofs.Costs.{row-cost, plus-value, joined-more}
use Rattle.rule.proofs.Sums.{part}
use Rattle.rule.proofs.tree.Tree.block_summary.Goals as goal

pub statement_summary-requires-clause-costs : goal.statement_summary-requires-clause-costs
statement_summary-requires-clause-costs c =
    let s = c.args.self.now.tables.image.now in
    let f = entry c.args.table.now.0 in
    let first = (block s c.args.b).first in
    let k = c.loop-i.i-iterator.start - first in
    let steps = c.in-Some.ensures.steps in
    let at : c.in-Some.i ≡ first + k = omega (arith, steps, c.loop-i.invariant) in
    let lt : k < (block s c.args.b).count = omega (arith, steps, c.loop-i.invariant) in
    let h = part (cost s f c.args.b) (block s c.args.b).count k lt in
    omega (arith, c.requires.costs, ap (λ i. cost_of (stmt s i) (named absent f)) at)

pub joined-sum-requires : goal.joined-sum-requires
joined-sum-requires c =
    let s = c.args.self.now.tables.image.now in
    let f = entry c.args.table.now.0 in
    let first = (block s c.args.b).first in
    let k = c.loop-i.i-iterator.start - first in
    let steps = c.in-Some.ensures.steps in
    let at : c.in-Some.i ≡ first + k = omega (arith, steps, c.loop-i.invariant) in
    let lt : k < (block s c.args.b).count = omega (arith, steps, c.loop-i.invariant) in
    let h = part (cost s f c.args.b) (block s c.args.b).count k lt in
    let e = ap (λ (x : Summary). value x.quote) (c.statement_summary.ensures ∙ ap (λ i. summary_of (stmt s i) (named absent f)) at) in
    let u = row-cost s f c.args.b k in
    omega (arith, c.requires.costs, c.loop-i.invariant.1)

pub loop-i-preserved : goal.loop-i-preserved
loop-i-preserved c =
    let s = c.args.self.now.tables.image.now in
    let f = entry c.args.table.now.0 in
    let first = (block s c.args.b).first in
    let k = c.loop-i.i-iterator.start - first in
    let steps = c.in-Some.ensures.steps in
    let at : c.in-Some.i ≡ first + k = omega (arith, steps, c.loop-i.invariant) in
    let is = c.statement_summary.ensures ∙ ap (λ i. summary_of (stmt s i) (named absent f)) at in
    let next : c.next.new.self.start - first ≡ k + 1 = omega (arith, steps, c.loop-i.invariant) in
    let e = ap (λ (x : Summary). value x.quote) is in
    let j = ap (λ (x : Summary). value x.quote) c.joined-sum.ensures in
    let u = row-cost s f c.args.b k in
    let v = plus-value c.loop-i.sum.quote c.statement_summary.result.quote in
    let m = sum_more (cost s f c.args.b) k in
    rw next (
      c.joined-sum.ensures ∙ joined-more (of_row s f c.args.b) k c.loop-i.sum c.statement_summary.result c.loop-i.invariant.0 is,
      omega (arith, c.loop-i.invariant.1),
      omega (arith, steps, c.loop-i.invariant),
      omega (arith, steps, c.loop-i.invariant),
      omega (arith, steps, c.loop-i.invariant),
    )
