use Rattle.std.proofs.Common.{rules}
use Rattle.image.proofs.Reading.{fields_cut}
use Rattle.image.specs.Rows.{stmt_at}
use Rattle.image.proofs.tables.Tables.statement.Goals as goal

pub returns : goal.returns
unfolding stmt_at
returns c = search (rules, fields_cut)
