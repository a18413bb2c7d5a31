-- the refusals of an image, each with its number
use Rattle.std.specs.Prelude.{ℕ, List, codes}
use Rattle.image.specs.declared.refusal.Refusal.{Refusal}
use Rattle.image.specs.declared.refusal.Refusal.TheVariants.{Header, Counts, Blocks, Rows, Naming, Nesting, StrayBreak}

abbrev pub number : Refusal → ℕ
number Header = 1
number Counts = 2
number Blocks = 3
number Rows = 4
number Naming = 5
number Nesting = 6
number StrayBreak = 7

-- each in words
abbrev pub words : Refusal → List ℕ
words Header = codes "no header of an image"
words Counts = codes "a count out of range, or a length that the counts do not make"
words Blocks = codes "blocks that do not use up the statements in order"
words Rows = codes "a row of an unknown kind, or one that lacks a part or refers to what is not there"
words Naming = codes "a block that is not named exactly once and by a lower one"
words Nesting = codes "blocks that nest too deep"
words StrayBreak = codes "a break or continue outside every loop body"
