use Rattle.std.proofs.Common.{rules}
use Rattle.image.specs.Layouts.{layout_of}
use Rattle.checks.proofs.Ranges.{below_all}
use Rattle.checks.specs.Rules.{block_above}
use Rattle.checks.proofs.naming.all_above.Goals as goal

pub returns : goal.returns
returns c =
    let s = c.args.tables.now.image.now in
    below_all (block_above s) (layout_of s).blocks c.all.result (search rules) (λ x r h k. search rules) (λ i r lt k. search rules) c.all.ensures.runs
