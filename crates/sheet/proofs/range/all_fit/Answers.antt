use Rattle.std.proofs.Common.{rules, ◌≡◌, true, false}
use Rattle.std.proofs.lemmas.Iterator.{cases_from_all, YieldsList-from_slice}
use borrow.Author.Tests.{tests}
use Rattle.sheet.specs.Ranges.{entry_fits}
use Rattle.sheet.proofs.Fitting.{all_settled}
use Rattle.sheet.proofs.range.all_fit.Goals as goal

pub returns : goal.returns
returns c =
    all_settled c.args.entries.now c.all.result
    (cases_from_all _ _ _ (λ x. entry_fits x ≡ true) (λ x. entry_fits x ≡ false) c.all.ensures.ran (YieldsList-from_slice c.args.entries.now cc)
    (λ x q k. search (rules, tests)) (λ x q k. search (rules, tests)))
