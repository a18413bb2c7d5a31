use Rattle.std.proofs.Common.{◌≡◌, ◌++◌, take, vec_items}
use Rattle.std.specs.List.{flat_map}
use Rattle.sheet.proofs.writer.put_all.Given as goal

abbrev pub invariant-loop-row : goal.invariant-loop-row
invariant-loop-row g l = vec_items l.image ≡ vec_items l.initial.image ++ flat_map g.R.Written.bytes (take l.row-index l.rows)
