use Rattle.std.proofs.Common.{◌≡◌, ℕ, ◌*◌, ◌<◌, ◌≤◌, get_or}
use Rattle.image.specs.Bytes.{sum_below}
use Rattle.image.specs.Rows.{stmt, parts}
use Rattle.checks.specs.Rules.{hits}
use Rattle.checks.proofs.naming.count_namings.Given as goal

abbrev pub invariant-loop-j : goal.invariant-loop-j
invariant-loop-j l =
    ((n : ℕ) → n < 256 → get_or l.counts n 0 ≡ sum_below (λ j. hits (parts (stmt l.tables.image.now j)) n) l.j)
    × ((n : ℕ) → n < 256 → get_or l.counts n 0 ≤ 2 * l.j)
