use Rattle.std.proofs.Common.{◌≡◌, ◌++◌, drop, replicate}
use Rattle.names.proofs.rewind.Given as goal

abbrev pub invariant-loop-row : goal.invariant-loop-row
invariant-loop-row g l = l.row-items ≡ replicate l.row-index g.R.Blank.blank ++ drop l.row-index l.initial.row-items
