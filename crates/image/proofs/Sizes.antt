-- how large an image's tables are
use Rattle.std.proofs.Common.{◌≡◌, ℕ, ◌<◌, ◌≤◌, true, List}
use Rattle.std.proofs.lemmas.Bool.{and_parts, leb-true}
use Rattle.image.specs.Layouts.{counted, layout_of}

pub some_block : (s : List ℕ) → counted s ≡ true → 0 < (layout_of s).blocks
some_block s h = leb-true _ _ (and_parts _ _ (and_parts _ _ h).0).0

pub few-blocks : (s : List ℕ) → counted s ≡ true → (layout_of s).blocks ≤ 256
few-blocks s h = leb-true _ _ (and_parts _ _ (and_parts _ _ h).0).1

pub few-statements : (s : List ℕ) → counted s ≡ true → (layout_of s).statements ≤ 1024
few-statements s h = leb-true _ _ (and_parts _ _ (and_parts _ _ h).1).0
