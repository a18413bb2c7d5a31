use Rattle.std.proofs.Common.{rules, ◌≡◌, ℕ, ◌<◌, List, [], ◌∷◌, refl, w16}
use Rattle.std.specs.Int.{to_le_bytes}
use Rattle.sheet.specs.Encoding.{low, high}
use Rattle.sheet.proofs.bytes.field_bytes.Goals as goal

two : (n : ℕ) (bs : List ℕ) → n < 65536 → bs ≡ to_le_bytes w16 n → bs ≡ low n ∷ high n ∷ []
two n bs small e = search (rules, e)

pub returns : goal.returns
returns c =
    let x = c.args.x in
    rw (
      two x.line _ (search rules) c.to_le_bytes.ensures,
      two x.column _ (search rules) c.to_le_bytes-2.ensures,
      two x.e _ (search rules) c.to_le_bytes-3.ensures,
      two x.p _ (search rules) c.to_le_bytes-4.ensures,
      two x.q _ (search rules) c.to_le_bytes-5.ensures,
      two x.name_offset _ (search rules) c.to_le_bytes-6.ensures,
      two x.name_length _ (search rules) c.to_le_bytes-7.ensures,
      two x.r _ (search rules) c.to_le_bytes-8.ensures,
      two x.t _ (search rules) c.to_le_bytes-9.ensures,
    ) refl
