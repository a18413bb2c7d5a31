use Rattle.std.proofs.Common.{refl}
use Rattle.image.specs.Rows.{block, stmt_at, expr_at}
use Rattle.rule.specs.Tree.{within, contained, block_quote}
use Rattle.run.specs.Session.{calls}
use Rattle.run.specs.Statements.{whole}
use Rattle.run.specs.Walk.{walk, turns}
use Rattle.samples.proofs.samples.Goals as goal

pub returns : goal.returns
unfolding block stmt_at expr_at within contained block_quote calls whole walk turns
returns c = (refl, refl)
