use Rattle.std.proofs.Common.{rules, ◌+◌}
use Rattle.checks.proofs.Ranges.{below_all_span}
use Rattle.checks.specs.Rules.{names_above}
use Rattle.image.specs.Rows.{block, stmt, parts}
use Rattle.checks.proofs.naming.block_above.Goals as goal

pub returns : goal.returns
returns c =
    let s = c.args.tables.now.image.now in
    below_all_span c.statements.result (λ k. names_above c.args.b (parts (stmt s ((block s c.args.b).first + k)))) (block s c.args.b).first (block s c.args.b).count c.all.result (search rules) (search rules) (λ x r h k. search rules) (λ i r lt k. search rules) c.all.ensures.runs
