-- the last row with a name
use Rattle.std.proofs.Common.{◌≡◌, ℕ, zero, suc, ◌+◌, ◌<◌, cond, true, false, ◌⊎◌, List, [], ◌∷◌, length, Some, None, Option, sym, refl, ap, ◌∙◌, subst, inl, inr, arith, IfSome}
use Rattle.std.specs.List.{All, AllWithin, HoldsAt}
use Rattle.std.specs.Str.{bytes_eq}
use Rattle.std.proofs.lemmas.Slice.Eq.{bytes_eq-Decides}
use Rattle.std.proofs.lemmas.Bool.{both_ways, cases_Bool}
use Rattle.names.specs.Lists.{last_from, last_named, HasName, LastNamed}

module _ {R : Type 0} (f : R → List ℕ) (name : List ℕ) where
  -- what a search from the end tells of the rows
  pub LastNamed-found : (xs : List R) (r : Option ℕ) → (r ≡ None → All (λ x. ¬ (f x ≡ name)) xs) → IfSome r (λ i. i < length xs) → IfSome r (HoldsAt (λ x. f x ≡ name) xs) →
      IfSome r (λ i. AllWithin (λ x. ¬ (f x ≡ name)) xs (i + 1) (length xs)) → LastNamed f name xs r
  LastNamed-found [] None none within at behind = λ i h. omega (arith, h.0)
  LastNamed-found (x ∷ xs) None none within at behind = λ i h. none refl i x h.0 (h.1 x)
  LastNamed-found [] (Some i) none within at behind = absurd (omega arith)
  LastNamed-found (x ∷ xs) (Some i) none within at behind = ((within, at), λ j lt h. behind j x (omega arith) h.0 (h.1 x))

  differs : (x : R) → ¬ (f x ≡ name) → bytes_eq (f x) name ≡ false
  differs x h = grind (arith, bytes_eq-Decides (f x) name)

  last_from-none : (i : ℕ) (b : Option ℕ) (xs : List R) → ((j : ℕ) → HasName f name xs j → ⊥) → last_from f name i b xs ≡ b
  last_from-none i b [] h = refl
  last_from-none i b (x ∷ xs) h =
      last_from-none (i + 1) (cond (bytes_eq (f x) name) (Some i) b) xs (λ j n. h (suc j) (omega (arith, n.0), n.1))
      ∙ ap (λ t. cond t (Some i) b) (differs x (λ e. h zero (omega arith, λ d. e)))

  last_from-some : (i : ℕ) (b : Option ℕ) (xs : List R) (k : ℕ) → HasName f name xs k → ((j : ℕ) → k < j → HasName f name xs j → ⊥) →
      last_from f name i b xs ≡ Some (i + k)
  last_from-some i b [] k h later = absurd (omega (arith, h.0))
  last_from-some i b (x ∷ xs) zero h later =
      let at : i ≡ i + 0 = omega arith in
      last_from-none (i + 1) (cond (bytes_eq (f x) name) (Some i) b) xs (λ j n. later (suc j) (omega arith) (omega (arith, n.0), n.1))
      ∙ ap (λ t. cond t (Some i) b) ((bytes_eq-Decides (f x) name).1 (h.1 x)) ∙ ap (λ n. Some n) at
  last_from-some i b (x ∷ xs) (suc k) h later =
      let at : i + 1 + k ≡ i + suc k = omega arith in
      last_from-some (i + 1) (cond (bytes_eq (f x) name) (Some i) b) xs k (omega (arith, h.0), h.1) (λ j lt n. later (suc j) (omega arith) (omega (arith, n.0), n.1))
      ∙ ap (λ n. Some n) at

  -- the last row with the name is the one that a walk over the rows ends with
  pub last_named_is : (xs : List R) (r : Option ℕ) → LastNamed f name xs r → r ≡ last_named f name xs
  last_named_is xs None h = sym (last_from-none 0 None xs h)
  last_named_is xs (Some k) h =
      let at : 0 + k ≡ k = omega arith in
      sym (last_from-some 0 None xs k h.0 h.1 ∙ ap (λ n. Some n) at)

  -- among the rows of a list, row k is the last with the name
  LastAt : List R → ℕ → Type 0
  LastAt xs k = HasName f name xs k × ((j : ℕ) → k < j → HasName f name xs j → ⊥)

  same : (x : R) → bytes_eq (f x) name ≡ true → f x ≡ name
  same x e = (bytes_eq-Decides (f x) name).0 e

  other : (x : R) → bytes_eq (f x) name ≡ false → f x ≡ name → ⊥
  other x e h = both_ways (bytes_eq (f x) name) e ((bytes_eq-Decides (f x) name).1 h)

  -- what a search of a list comes to: no row with the name, or the last one
  found : (i : ℕ) (b : Option ℕ) (xs : List R) →
      ((last_from f name i b xs ≡ b) × ((j : ℕ) → HasName f name xs j → ⊥)) ⊎ ((k : ℕ) × (last_from f name i b xs ≡ Some (i + k)) × LastAt xs k)
  unfolding LastAt
  found i b [] = inl (refl, λ j h. omega (arith, h.0))
  found i b (x ∷ xs) =
      elim (found (i + 1) (cond (bytes_eq (f x) name) (Some i) b) xs) [
        | inr later ↦
            let at : (i + 1) + later.0 ≡ i + suc later.0 = omega arith in
            inr (suc later.0, later.1 ∙ ap (λ k. Some k) at, ((omega (arith, later.2.0.0), later.2.0.1), behind later.0 later.2.1))
        | inl none ↦
            elim (cases_Bool (bytes_eq (f x) name)) [
              | inl yes' ↦
                  let at : i ≡ i + 0 = omega arith in
                  inr (0, none.0 ∙ ap (λ t. cond t (Some i) b) yes' ∙ ap (λ k. Some k) at, ((omega arith, λ d. same x yes'), first none.1))
              | inr no' ↦ inl (none.0 ∙ ap (λ t. cond t (Some i) b) no', nowhere (other x no') none.1)
            ]
      ]
    where
      behind : (k : ℕ) → ((j : ℕ) → k < j → HasName f name xs j → ⊥) → (j : ℕ) → suc k < j → HasName f name (x ∷ xs) j → ⊥
      behind k h zero lt n = omega arith
      behind k h (suc j) lt n = h j (omega arith) (omega (arith, n.0), n.1)

      first : ((j : ℕ) → HasName f name xs j → ⊥) → (j : ℕ) → 0 < j → HasName f name (x ∷ xs) j → ⊥
      first h zero lt n = omega arith
      first h (suc j) lt n = h j (omega (arith, n.0), n.1)

      nowhere : (f x ≡ name → ⊥) → ((j : ℕ) → HasName f name xs j → ⊥) → (j : ℕ) → HasName f name (x ∷ xs) j → ⊥
      nowhere away h zero n = away (n.1 x)
      nowhere away h (suc j) n = h j (omega (arith, n.0), n.1)

  -- a search answers the last row with the name, and none exactly if there is none
  pub last_named_lem : (xs : List R) (r : Option ℕ) → r ≡ last_named f name xs → LastNamed f name xs r
  unfolding LastAt
  last_named_lem xs r e =
      subst (LastNamed f name xs) (sym e)
      (elim (found 0 None xs) [
        | inl none ↦ subst (LastNamed f name xs) (sym none.0) none.1
        | inr some ↦ let at : some.0 ≡ 0 + some.0 = omega arith in
            subst (LastNamed f name xs) (ap (λ k. Some k) at ∙ sym some.1) some.2
      ])
