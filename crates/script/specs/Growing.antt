-- effects change the variables only as a host may; the laws of a host are cited by a contract, so their lemmas stand here
use Rattle.std.specs.Prelude.{◌≡◌, ℕ, ◌<◌, ◌≤◌, Bool, true, false, cond, List, [], ◌∷◌, ◌++◌, map, length, get_or, take, set, Some, None, Option, nat_lt, slice_index_or, slice_set, refl}
use Rattle.std.proofs.Common.{inl, inr, sym, ap, ◌∙◌, arith}
use Rattle.std.proofs.lemmas.List.{length_push, length-set, take_all, take_at, take-map, take-take, map-set, set-get_or, get_or-map, get_or-take, get_or_push, length-take-le}
use Rattle.std.proofs.lemmas.Bool.{ltb-true, cases_lt}
use Rattle.rows.specs.declared.place.Place.{Place}
use Rattle.rows.specs.declared.variable.Access.TheVariants.{ReadWrite}
use Rattle.rows.specs.declared.variable.VarRow.{VarRow}
use Rattle.rows.specs.Rows.{variable, revalued}
use Rattle.host.specs.Meaning.{Grown, place_of, access_of}
use Rattle.host.proofs.Steps.{grown_none}
use Rattle.script.specs.declared.effect.Effect.{Effect}
use Rattle.script.specs.declared.effect.Effect.TheVariants.{Append, Set}
use Rattle.script.specs.declared.value.ScriptValue.{ScriptValue}
use Rattle.script.specs.Effects.{Row, back_of, changed, done, both_done, no_row}

module _ {V : Type 0} where
  -- one read-write row more, below the limit
  grown_append : (limit : ℕ) (rows : List (VarRow V)) (p : Place) (v : V) → length rows < limit → Grown limit rows (rows ++ (variable p ReadWrite v ∷ []))
  grown_append limit rows p v lt =
      let row = variable p ReadWrite v in
      let more = length_push rows row in
      let same = take_at rows (row ∷ []) (length rows) refl in
      record {
        longer = omega arith;
        limited = omega arith;
        places = ap (map place_of) same;
        accesses = ap (map access_of) same;
        added = λ i le below d. ap access_of (get_or_push rows row d i (omega arith));
      }

  -- a property that a row keeps under another value is kept by all rows
  map_kept : {Y : Type 0} (f : VarRow V → Y) (rows : List (VarRow V)) (i : ℕ) (d x : VarRow V) → f x ≡ f (slice_index_or rows i d) →
      map f (slice_set rows i x) ≡ map f rows
  map_kept f rows i d x e =
      map-set f rows i x ∙ ap (set (map f rows) i) e ∙ sym (map-set f rows i (slice_index_or rows i d)) ∙ ap (map f) (set-get_or rows i d)

  -- another value for one row
  grown_set : (limit : ℕ) (rows : List (VarRow V)) (i : ℕ) (d : VarRow V) (v : V) → Grown limit rows (slice_set rows i (revalued (slice_index_or rows i d) v))
  grown_set limit rows i d v =
      let row = revalued (slice_index_or rows i d) v in
      let same = length-set rows i row in
      let whole : take (length rows) (slice_set rows i row) ≡ set rows i row = take_all (length rows) (slice_set rows i row) (omega arith) in
      record {
        longer = omega arith;
        limited = omega arith;
        places = ap (map place_of) whole ∙ map_kept place_of rows i d row refl;
        accesses = ap (map access_of) whole ∙ map_kept access_of rows i d row refl;
        added = λ j le below e. absurd (omega arith);
      }

  -- what is kept of a front is kept of a shorter one
  front_kept : {Y : Type 0} (f : VarRow V → Y) (a b c : List (VarRow V)) → length a ≤ length b →
      map f (take (length a) b) ≡ map f a → map f (take (length b) c) ≡ map f b → map f (take (length a) c) ≡ map f a
  front_kept f a b c le ab bc =
      ap (map f) (sym (take-take (length a) (length b) c le)) ∙ sym (take-map f (length a) (take (length b) c))
      ∙ ap (take (length a)) bc ∙ take-map f (length a) b ∙ ab

  -- a row of the front keeps its access
  access_kept : (b c : List (VarRow V)) (i : ℕ) (d : VarRow V) → i < length b → length b ≤ length c → map access_of (take (length b) c) ≡ map access_of b →
      (get_or c i d).access ≡ (get_or b i d).access
  access_kept b c i d lt le e =
      let front : i < length (take (length b) c) = omega (arith, length-take-le (length b) c le) in
      ap access_of (sym (get_or-take (length b) c i d lt)) ∙ sym (get_or-map access_of (take (length b) c) i d ReadWrite front)
      ∙ ap (λ l. get_or l i ReadWrite) e ∙ get_or-map access_of b i d ReadWrite lt

  -- one change after another
  grown_on : (limit : ℕ) (a b c : List (VarRow V)) → Grown limit a b → Grown limit b c → Grown limit a c
  grown_on limit a b c ab bc = record {
    longer = omega (arith, ab.longer, bc.longer);
    limited = omega (arith, ab.limited, bc.limited);
    places = front_kept place_of a b c ab.longer ab.places bc.places;
    accesses = front_kept access_of a b c ab.longer ab.accesses bc.accesses;
    added = λ i le lt d.
        elim (cases_lt i (length b)) [
          | inl in' ↦ access_kept b c i d in' bc.longer bc.accesses ∙ ab.added i le in' d
          | inr past ↦ bc.added i past lt d
        ];
  }

grown_if : (t : Bool) (limit : ℕ) (a b c : List Row) → (t ≡ true → Grown limit a b) → Grown limit a c → Grown limit a (cond t b c)
grown_if true limit a b c yes' no' = yes' refl
grown_if false limit a b c yes' no' = no'

grown_changed : (limit : ℕ) (rows : List Row) (at : Option ℕ) (v : ScriptValue) → Grown limit rows (changed rows at v)
grown_changed limit rows None v = grown_none limit rows
grown_changed limit rows (Some i) v =
    grown_if (nat_lt i (length rows)) limit rows _ rows (λ e. grown_set limit rows i no_row v) (grown_none limit rows)

grown_done : (limit : ℕ) (rows : List Row) (e : Option Effect) → Grown limit rows (done limit rows e)
grown_done limit rows None = grown_none limit rows
grown_done limit rows (Some (Append p v)) =
    grown_if (nat_lt (length rows) limit) limit rows _ rows (λ e. grown_append limit rows p v (ltb-true _ _ e)) (grown_none limit rows)
grown_done limit rows (Some (Set k v)) = grown_changed limit rows (back_of (length rows) k) v

pub grown_both : (limit : ℕ) (rows : List Row) (first second : Option Effect) → Grown limit rows (both_done limit rows first second)
grown_both limit rows first second =
    grown_on limit rows (done limit rows first) _ (grown_done limit rows first) (grown_done limit (done limit rows first) second)
