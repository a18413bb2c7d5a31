use Rattle.std.proofs.Common.{rules, ◌||◌, eqb}
use Rattle.image.specs.Layouts.{layout_of}
use Rattle.image.proofs.Sizes.{few-blocks}
use Rattle.checks.proofs.Ranges.{below_all_from}
use Rattle.checks.specs.Rules.{namings}
use Rattle.checks.proofs.naming.once_each.Goals as goal

pub returns : goal.returns
returns c =
    let s = c.args.tables.now.image.now in
    let few = few-blocks s c.args.tables.now.sized in
    below_all_from (λ n. eqb n 0 || eqb (namings s n) 1) 1 (layout_of s).blocks c.all.result (search rules) (λ k lt. search rules) (λ x r h k. search rules) (λ i r low lt k. search (rules, few, c.count_namings-counts.ensures i)) c.all.ensures.runs
