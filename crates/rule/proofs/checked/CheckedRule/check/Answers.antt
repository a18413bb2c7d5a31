use Rattle.std.proofs.lemmas.Result.{err_from_is_err_and}
use Rattle.image.specs.Layouts.{headed, counted, layout_of}
use Rattle.rule.specs.Checked.{examined}
use Rattle.rule.proofs.Verdicts.{header_refused}
use Rattle.rule.proofs.checked.CheckedRule.check.Goals as goal

pub returns-in_err-tables-clause-answer : goal.returns-in_err-tables-clause-answer
returns-in_err-tables-clause-answer c =
    let s = c.args.image.now in
    let p = err_from_is_err_and c.from_residual.result c.from_residual.ensures.1 in
    rw (p.1, p.2) (header_refused (headed s) (counted s) (layout_of s) (examined s) c.in_err-tables.field-0.0 c.in_err-tables.ensures.answer)
