-- the text of a name
use Rattle.std.specs.Prelude.{cond, List, [], ℕ, ◌+◌, length, take, drop, leb}
use Rattle.rows.specs.declared.place.Place.{Place}
use Rattle.rows.specs.declared.place.Source.{Source}
use Rattle.rows.specs.declared.place.Source.TheVariants.{Rule, Site}

-- n bytes from o on, and nothing where there are not as many
abbrev pub part_of : List ℕ → ℕ → ℕ → List ℕ
part_of text o n = cond (leb (o + n) (length text)) (take n (drop o text)) []

-- the text that a place is in
abbrev pub source_of : Source → List ℕ → List ℕ → List ℕ
source_of Rule rule site = rule
source_of Site rule site = site

-- the bytes of a name; a place that does not fit reads as empty
abbrev pub text_of : Place → List ℕ → List ℕ → List ℕ
text_of p rule site = part_of (source_of p.source rule site) p.offset p.length

-- the place that stands for no name
abbrev pub no_place : Place
no_place = record { source = Rule; offset = 0; length = 0 }
