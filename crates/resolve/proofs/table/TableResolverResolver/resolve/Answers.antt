use Rattle.std.proofs.Common.{◌≡◌, rules, ap, ◌∙◌}
use Rattle.resolve.proofs.First.{answer_of, first_found}
use Rattle.resolve.proofs.table.TableResolverResolver.resolve.Goals as goal

pub returns : goal.returns
returns c =
    let answer : c.map_or.result ≡ answer_of c.first_row.result = search rules in
    answer ∙ ap answer_of c.first_row.ensures ∙ first_found c.args.self.now.rows.now c.args.path
