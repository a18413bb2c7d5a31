use Rattle.std.proofs.Common.{◌≡◌, ◌*◌, ◌≤◌, true, eqb}
use Rattle.image.specs.Bytes.{all_below}
use Rattle.image.specs.Rows.{block}
use Rattle.checks.specs.Rules.{before}
use Rattle.checks.proofs.order.in_order.Given as goal

abbrev pub invariant-loop-b : goal.invariant-loop-b
invariant-loop-b l =
    (l.next ≡ before l.tables.image.now l.b)
    × (all_below (λ b. eqb (block l.tables.image.now b).first (before l.tables.image.now b)) l.b ≡ true)
    × (l.next ≤ 65535 * l.b)
