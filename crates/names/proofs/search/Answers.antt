use Rattle.std.proofs.Common.{rules}
use Rattle.rows.specs.Rows.{in_use}
use Rattle.names.specs.Lists.{name_in}
use Rattle.names.proofs.LastRow.{LastNamed-found, last_named_is}
use Rattle.names.proofs.search.Goals as goal

pub returns : goal.returns
returns g c =
    let f = name_in g.R.Named.place c.args.texts.rule.now c.args.texts.site.now in
    let rows = in_use c.args.rows.now c.args.used in
    let last = LastNamed-found f c.args.name.now rows c.rposition.result (search rules) (search rules) (search rules) (search rules) in
    record { value = last_named_is f c.args.name.now rows c.rposition.result last; last = last }
