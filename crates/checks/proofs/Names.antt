-- how often a statement can name a block
use Rattle.std.proofs.Common.{ℕ, ◌≤◌, Bool, true, false, cond, eqb, Some, None, Option, arith}
use Rattle.checks.specs.Rules.{names}

one_or_none : (t : Bool) → cond t 1 0 ≤ 1
one_or_none true = omega arith
one_or_none false = omega arith

pub names-once : (o : Option ℕ) (n : ℕ) → names o n ≤ 1
names-once None n = omega arith
names-once (Some m) n = one_or_none (eqb m n)
