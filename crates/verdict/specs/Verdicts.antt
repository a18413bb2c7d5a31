-- the line that tells the verdict on an image
use Rattle.std.specs.Prelude.{ℕ, List, ◌++◌, Some, None, Ok, Err, codes, decimal, Option, Result}
use Rattle.image.specs.Refusals.{number}
use Rattle.image.specs.declared.refusal.Refusal.{Refusal}
use Rattle.verdict.specs.declared.Verdict.{Verdict}

abbrev pub line_of : Result (Option ℕ) Refusal → List ℕ
line_of (Ok (Some n)) = codes "quote " ++ decimal n
line_of (Ok None) = codes "no quote"
line_of (Err r) = codes "refused " ++ decimal (number r)

abbrev pub line : Verdict → List ℕ
line v = line_of v.0
