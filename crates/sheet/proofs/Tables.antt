-- the bytes of a row by its number in a table
use Rattle.std.proofs.Common.{◌≡◌, ℕ, zero, suc, ◌+◌, ◌*◌, ◌<◌, List, [], ◌∷◌, ◌++◌, length, get_or, drop, Some, sym, ap, ◌∙◌, ap₂, add-zero, add_assoc, mul-zero, zero-add, mul-suc, arith}
use native.Mathlib.Nat.{mod-add-div}
use Rattle.std.specs.List.{slice_get, flat_map}
use Rattle.std.proofs.lemmas.List.{append_assoc, length-append, get_or_append_left, get_or-append-add, get_or-drop}
use Rattle.image.specs.Bytes.{word}
use Rattle.sheet.specs.Encoding.{low, high}

-- rows of one width w
module _ {R : Type 0} (f : R → List ℕ) (w : ℕ) (wide : (x : R) → length (f x) ≡ w) where
  pub length-rows : (xs : List R) → length (flat_map f xs) ≡ w * length xs
  length-rows [] = sym (mul-zero w)
  length-rows (x ∷ xs) =
      length-append (f x) (flat_map f xs) ∙ ap₂ ◌+◌ (wide x) (length-rows xs) ∙ omega (arith, mul-suc w (length xs))

  row_byte : (xs : List R) (rest : List ℕ) (i k : ℕ) (x : R) → slice_get xs i ≡ Some x → k < w → get_or (flat_map f xs ++ rest) (w * i + k) 0 ≡ get_or (f x) k 0
  row_byte [] rest i k x e lt = let z : ◌≡◌ {A = ℕ} 0 1 = cc in absurd (omega arith)
  row_byte (y ∷ ys) rest zero k x e lt =
      let same : y ≡ x = cc in
      ap (λ n. get_or (flat_map f (y ∷ ys) ++ rest) n 0) (ap (λ n. n + k) (mul-zero w) ∙ zero-add k)
      ∙ ap (λ v. get_or v k 0) (append_assoc (f y) (flat_map f ys) rest)
      ∙ get_or_append_left (f y) (flat_map f ys ++ rest) 0 k (omega (arith, wide y))
      ∙ ap (λ v. get_or (f v) k 0) same
  row_byte (y ∷ ys) rest (suc i) k x e lt =
      ap (λ n. get_or (flat_map f (y ∷ ys) ++ rest) n 0) (omega (arith, mul-suc w i, wide y))
      ∙ ap (λ v. get_or v (length (f y) + (w * i + k)) 0) (append_assoc (f y) (flat_map f ys) rest)
      ∙ get_or-append-add (f y) (flat_map f ys ++ rest) (w * i + k) 0
      ∙ row_byte ys rest i k x e lt

  -- a table that begins at a place of an image
  module _ (s : List ℕ) (from : ℕ) (xs : List R) (rest : List ℕ) (there : drop from s ≡ flat_map f xs ++ rest) (i : ℕ) (x : R) (is : slice_get xs i ≡ Some x) where
    pub byte_back : (k : ℕ) → k < w → get_or s (from + w * i + k) 0 ≡ get_or (f x) k 0
    byte_back k lt =
        ap (λ n. get_or s n 0) (add_assoc from (w * i) k) ∙ sym (get_or-drop from s (w * i + k) 0) ∙ ap (λ v. get_or v (w * i + k) 0) there
        ∙ row_byte xs rest i k x is lt

    pub first_back : 0 < w → get_or s (from + w * i) 0 ≡ get_or (f x) 0 0
    first_back lt = ap (λ n. get_or s n 0) (sym (add-zero (from + w * i))) ∙ byte_back 0 lt

    pub word_back : (k n : ℕ) → k + 1 < w → get_or (f x) k 0 ≡ low n → get_or (f x) (k + 1) 0 ≡ high n → word s (from + w * i + k) ≡ n
    word_back k n lt p q =
        ap₂ (λ a b. a + 256 * b) (byte_back k (omega arith) ∙ p)
        (ap (λ m. get_or s m 0) (add_assoc (from + w * i) k 1) ∙ byte_back (k + 1) lt ∙ q)
        ∙ mod-add-div n 256

    pub first_word : (n : ℕ) → 1 < w → get_or (f x) 0 0 ≡ low n → get_or (f x) 1 0 ≡ high n → word s (from + w * i) ≡ n
    first_word n lt p q = ap (word s) (sym (add-zero (from + w * i))) ∙ word_back 0 n lt p q
