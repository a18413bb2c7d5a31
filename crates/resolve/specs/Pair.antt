-- the answers of two resolvers in a row
use Rattle.std.specs.Prelude.{Some, None, Ok, Err}
use Rattle.resolve.specs.Answers.{Resolved}

-- the first answer, and the second where the first found nothing; a fault is an answer
abbrev pub unless_found : Resolved → Resolved → Resolved
unless_found (Ok (Some m)) second = Ok (Some m)
unless_found (Ok None) second = second
unless_found (Err f) second = Err f
