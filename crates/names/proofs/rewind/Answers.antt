use Rattle.std.proofs.Common.{◌≡◌, ℕ, ◌+◌, ◌<◌, List, ◌++◌, length, drop, set, replicate, ap, ◌∙◌, arith}
use Rattle.std.proofs.lemmas.List.{length-replicate}
use Rattle.std.proofs.lemmas.List.Edits.{fill_from_more, paste_all}
use Rattle.names.proofs.rewind.Goals as goal

-- one row more is blank
blank_more : {R : Type 0} (rows : List R) (i : ℕ) (blank : R) → i < length rows →
    set (replicate i blank ++ drop i rows) i blank ≡ replicate (i + 1) blank ++ drop (i + 1) rows
blank_more rows i blank lt = grind (arith, fill_from_more rows 0 i blank, paste_all rows 0 (replicate i blank) i, paste_all rows 0 (replicate (i + 1) blank) (i + 1), length-replicate)

pub loop-row-preserved : goal.loop-row-preserved
loop-row-preserved g c =
    let i = c.loop-row.row-index in
    ap (λ row. set c.loop-row.row-items i row) c.blank.ensures ∙ ap (λ rows. set rows i g.R.Blank.blank) c.loop-row.invariant
    ∙ blank_more _ i g.R.Blank.blank (omega arith)
