use Rattle.std.proofs.Common.{min, length, rules}
use Rattle.rows.specs.Rows.{in_use}
use Rattle.script.specs.Effects.{done}
use Rattle.script.proofs.Tables.{holds-none, holds_more}
use Rattle.script.proofs.effect.do_both.Goals as goal

pub returns-clause-rows : goal.returns-clause-rows
returns-clause-rows c =
    let vars = c.args.vars.now in
    let rows = in_use vars c.args.used in
    let limit = c.args.limit in
    let start = holds-none vars c.args.used c.in_use.result (search rules) in
    let one = holds_more limit rows vars vars c.do_effect-between.new.vars c.in_use.result c.do_effect-between.result c.args.first start
    c.do_effect-between.ensures.used c.do_effect-between.ensures.rows in
    let two = holds_more limit (done (min limit (length vars)) rows c.args.first) vars c.do_effect-between.new.vars c.do_effect.new.vars
    c.do_effect-between.result c.do_effect.result c.args.second one c.do_effect.ensures.used c.do_effect.ensures.rows in
    two.table
