use Rattle.std.proofs.Common.{ℕ, ap, arith}
use Rattle.std.proofs.lemmas.List.{get_or-replicate}
use Rattle.image.specs.declared.layout.Layout.{Layout}
use Rattle.image.proofs.Sizes.{few-statements}
use Rattle.checks.proofs.Names.{names-once}
use Rattle.checks.proofs.naming.count_namings.Goals as goal

pub loop-j-init : goal.loop-j-init
loop-j-init c = (λ n h. get_or-replicate 256 n 0 0 h, λ n h. omega (arith, get_or-replicate {A = ℕ} 256 n 0 0 h))

pub note-requires-in-loop-j : goal.note-requires-in-loop-j
note-requires-in-loop-j c =
    let few = few-statements c.args.tables.now.image.now c.args.tables.now.sized in
    let n = ap (λ (l : Layout). l.statements) c.layout-j-end.ensures in
    λ k h. omega (arith, c.note.ensures k h, c.loop-j.invariant.1 k h, names-once c.parts-parts.result.body k)
