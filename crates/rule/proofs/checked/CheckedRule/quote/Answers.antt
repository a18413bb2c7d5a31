use Rattle.std.proofs.Common.{sym, ap, ◌∙◌}
use Rattle.rule.specs.declared.summary.Summary.{Summary}
use Rattle.rule.specs.Tree.{deepest}
use Rattle.rule.proofs.Depths.{quote-summary}
use Rattle.rule.proofs.Naming.{each_named_once}
use Rattle.rule.proofs.Nesting.{nests_no_deeper}
use Rattle.rule.proofs.Quotes.{quoted_if_no_loop, at_most_thrice}
use Rattle.rule.proofs.Verdicts.{rules}
use Rattle.rule.proofs.checked.CheckedRule.quote.Goals as goal

pub invariant_of-tree : goal.invariant_of-tree
invariant_of-tree c =
    let kept = rules c.args.self.now.tables.image.now c.args.self.now.lawful in
    record { order = kept.order; rows = kept.rows; naming = kept.naming }

pub returns : goal.returns
returns c =
    let s = c.args.self.now.tables.image.now in
    let kept = rules s c.args.self.now.lawful in
    record {
      value = ap (λ (x : Summary). x.quote) c.outermost.ensures ∙ sym (quote-summary s kept.naming deepest 0 kept.nesting);
      named_once = each_named_once s kept;
      nested = nests_no_deeper s kept;
      present = quoted_if_no_loop s kept;
      bound = at_most_thrice s kept;
    }
