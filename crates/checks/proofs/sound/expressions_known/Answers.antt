use Rattle.std.proofs.Common.{rules, is_some}
use Rattle.image.specs.Layouts.{layout_of}
use Rattle.checks.proofs.Ranges.{below_all}
use Rattle.image.specs.Rows.{expr_at}
use Rattle.checks.proofs.sound.expressions_known.Goals as goal

pub returns : goal.returns
returns c =
    let s = c.args.tables.now.image.now in
    below_all (λ i. is_some (expr_at s i)) (layout_of s).expressions c.all.result (search rules) (λ x r h k. search rules) (λ i r lt k. search rules) c.all.ensures.runs
