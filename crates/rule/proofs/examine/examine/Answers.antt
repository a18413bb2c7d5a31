use Rattle.std.proofs.Common.{sym, ap, ◌∙◌}
use Rattle.rule.specs.declared.summary.Summary.{Summary}
use Rattle.rule.specs.Summaries.{settled}
use Rattle.rule.proofs.Verdicts.{settles}
use Rattle.rule.proofs.examine.examine.Goals as goal

pub returns : goal.returns
returns c =
    c.settle.ensures ∙ ap (λ (x : Summary). settled x) c.outermost.ensures
    ∙ settles c.args.tables.now.image.now (sym c.if-not-in_order.ensures) (sym c.if-not-all_sound.ensures) (sym c.if-not-named_once.ensures)
