use Rattle.image.proofs.Reading.{first_row}
use Rattle.image.proofs.tables.Tables.row.Goals as goal

pub returns : goal.returns
returns g c =
    first_row c.args.self.now.image.now c.args.at g.row.N c.args.rows c.args.i c.first_chunk.result c.requires c.if-i-rows.false c.first_chunk.ensures.cases
