-- why there is no image, in words
use Rattle.std.specs.Prelude.{ℕ, List, codes}
use Rattle.sheet.specs.declared.writer.Unwritten.{Unwritten}
use Rattle.sheet.specs.declared.writer.Unwritten.TheVariants.{Range, Memory}

abbrev pub words : Unwritten → List ℕ
words Range = codes "rows that no image can hold"
words Memory = codes "out of memory"
