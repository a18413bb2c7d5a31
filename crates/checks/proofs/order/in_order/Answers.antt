use Rattle.std.proofs.Common.{ℕ, ◌<◌, Bool, eqb, sym, ap, ◌∙◌, arith}
use Rattle.std.proofs.lemmas.Bool.{and_left, ne_eqb}
use Rattle.image.specs.Layouts.{layout_of}
use Rattle.image.specs.Rows.{block}
use Rattle.image.specs.declared.layout.Layout.{Layout}
use Rattle.image.specs.declared.rows.Block.{Block}
use Rattle.image.proofs.Below.{all_fails}
use Rattle.checks.specs.Rules.{before}
use Rattle.checks.proofs.order.in_order.Goals as goal

pub returns-then-block-next : goal.returns-then-block-next
returns-then-block-next c =
    let s = c.args.tables.now.image.now in
    let placed : ℕ → Bool = λ b. eqb (block s b).first (before s b) in
    let n = ap (λ (l : Layout). l.blocks) c.layout-layout.ensures in
    let lt : c.loop-b.b < (layout_of s).blocks = omega arith in
    let first = ap (λ (b : Block). b.first) c.block-block.ensures in
    sym (and_left _ _ (all_fails placed (layout_of s).blocks c.loop-b.b lt (ne_eqb _ _ (λ e. c.if-block-next.true (first ∙ e ∙ sym c.loop-b.invariant.0)))))
