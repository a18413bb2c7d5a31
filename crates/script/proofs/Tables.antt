-- effects on a table, of which the first rows are in use
use Rattle.std.proofs.Common.{◌≡◌, ℕ, ◌+◌, ◌-◌, ◌<◌, ◌≤◌, min, Bool, true, false, cond, ◌&&◌, ltb, leb, List, [], ◌∷◌, ◌++◌, length, get_or, drop, set, Some, None, Option, sym, refl, ap, ◌∙◌, append_assoc, arith}
use Rattle.std.proofs.lemmas.List.{length-append, length-drop, length_push, length-set, drop_more, set_at, set-append_left, get_or_append_left}
use Rattle.std.proofs.lemmas.Bool.{ltb-true, leb-true, lt-ltb, and_parts, cond-true}
use Rattle.rows.specs.declared.variable.Access.TheVariants.{ReadWrite}
use Rattle.rows.specs.Rows.{in_use, variable, revalued}
use Rattle.host.specs.Meaning.{over}
use Rattle.host.proofs.Steps.{length_in_use, over_none}
use Rattle.script.specs.declared.effect.Effect.{Effect}
use Rattle.script.specs.declared.effect.Effect.TheVariants.{Append, Set}
use Rattle.script.specs.declared.value.ScriptValue.{ScriptValue}
use Rattle.script.specs.Effects.{Row, no_row, back_of, changed, done, room_for, used_after, table_after}

-- rows laid over a table that has room for them leave its length
length_over : (rows vars : List Row) → length rows ≤ length vars → length (over rows vars) ≡ length vars
length_over rows vars le = omega (arith, length-append rows (drop (length rows) vars), length-drop (length rows) vars)

-- one row more
over-push : (rows vars : List Row) (row : Row) → length rows < length vars → set (over rows vars) (length rows) row ≡ over (rows ++ (row ∷ [])) vars
over-push rows vars row lt =
    ap (λ x. set (rows ++ x) (length rows) row) (drop_more vars (length rows) row lt)
    ∙ set_at rows (get_or vars (length rows) row) (drop (length rows + 1) vars) row (length rows) refl
    ∙ ap (λ n. rows ++ (row ∷ drop n vars)) (sym (length_push rows row))
    ∙ sym (append_assoc rows (row ∷ []) (drop (length (rows ++ (row ∷ []))) vars))

append-table : (t : Bool) (rows vars : List Row) (row : Row) → (t ≡ true → length rows < length vars) →
    cond t (set (over rows vars) (length rows) row) (over rows vars) ≡ over (cond t (rows ++ (row ∷ [])) rows) vars
append-table true rows vars row lt = over-push rows vars row (lt refl)
append-table false rows vars row lt = refl

append-used : (t : Bool) (rows : List Row) (row : Row) → cond t (length rows + 1) (length rows) ≡ length (cond t (rows ++ (row ∷ [])) rows)
append-used true rows row = sym (length_push rows row)
append-used false rows row = refl

-- another value for a row in use
over_set : (rows vars : List Row) (i : ℕ) (v : ScriptValue) → i < length rows → length rows ≤ length vars →
    changed (over rows vars) (Some i) v ≡ over (changed rows (Some i) v) vars
over_set rows vars i v lt le =
    let all : i < length (over rows vars) = omega (arith, length_over rows vars le) in
    let row = revalued (get_or rows i no_row) v in
    let same : length (set rows i row) ≡ length rows = length-set rows i row in
    cond-true _ _ _ (lt-ltb _ _ all) ∙ ap (λ x. set (over rows vars) i (revalued x v)) (get_or_append_left rows (drop (length rows) vars) no_row i lt)
    ∙ set-append_left rows (drop (length rows) vars) i row lt ∙ ap (λ n. set rows i row ++ drop n vars) (sym same)
    ∙ ap (λ x. over x vars) (sym (cond-true (ltb i (length rows)) (set rows i row) rows (lt-ltb _ _ lt)))

-- a row that counts back from the last in use is one in use
back_in_use : (k n : ℕ) → (ltb 0 k && leb k n) ≡ true → n - k < n
back_in_use k n e = omega (arith, ltb-true 0 k (and_parts _ _ e).0, leb-true k n (and_parts _ _ e).1)

set_table : (t : Bool) (rows vars : List Row) (k : ℕ) (v : ScriptValue) → length rows ≤ length vars → (t ≡ true → length rows - k < length rows) →
    changed (over rows vars) (cond t (Some (length rows - k)) None) v ≡ over (changed rows (cond t (Some (length rows - k)) None) v) vars
set_table true rows vars k v le lt = over_set rows vars (length rows - k) v (lt refl) le
set_table false rows vars k v le lt = refl

length_cond_set : (t : Bool) (rows : List Row) (i : ℕ) (row : Row) → length (cond t (set rows i row) rows) ≡ length rows
length_cond_set true rows i row = length-set rows i row
length_cond_set false rows i row = refl

length-changed : (rows : List Row) (at : Option ℕ) (v : ScriptValue) → length (changed rows at v) ≡ length rows
length-changed rows None v = refl
length-changed rows (Some i) v = length_cond_set (ltb i (length rows)) rows i _

module _ (limit : ℕ) (rows vars : List Row) (le : length rows ≤ length vars) where
  -- there is room in the table as there is by the limit
  same-room : room_for limit (over rows vars) (length rows) ≡ ltb (length rows) (min limit (length vars))
  same-room = ap (λ n. ltb (length rows) (min limit n)) (length_over rows vars le)

  below : ltb (length rows) (min limit (length vars)) ≡ true → length rows < length vars
  below e = omega (arith, ltb-true _ _ e)

  -- an effect on the table is the effect on the rows in use
  table-after : (e : Option Effect) → table_after limit (over rows vars) (length rows) e ≡ over (done (min limit (length vars)) rows e) vars
  table-after None = refl
  table-after (Some (Append p v)) =
      let row = variable p ReadWrite v in
      ap (λ t. cond t (set (over rows vars) (length rows) row) (over rows vars)) same-room
      ∙ append-table (ltb (length rows) (min limit (length vars))) rows vars row below
  table-after (Some (Set k v)) = set_table (ltb 0 k && leb k (length rows)) rows vars k v le (back_in_use k (length rows))

  used-after : (e : Option Effect) → used_after limit (over rows vars) (length rows) e ≡ length (done (min limit (length vars)) rows e)
  used-after None = refl
  used-after (Some (Append p v)) =
      ap (λ t. cond t (length rows + 1) (length rows)) same-room ∙ append-used (ltb (length rows) (min limit (length vars))) rows (variable p ReadWrite v)
  used-after (Some (Set k v)) = sym (length-changed rows (back_of (length rows) k) v)

fits_if : (t : Bool) (rows vars : List Row) (row : Row) → length rows ≤ length vars → (t ≡ true → length rows < length vars) →
    length (cond t (rows ++ (row ∷ [])) rows) ≤ length vars
fits_if true rows vars row le lt = omega (arith, length_push rows row, lt refl)
fits_if false rows vars row le lt = le

fits_after : (limit : ℕ) (rows vars : List Row) (e : Option Effect) → length rows ≤ length vars → length (done (min limit (length vars)) rows e) ≤ length vars
fits_after limit rows vars None le = le
fits_after limit rows vars (Some (Append p v)) le = fits_if (ltb (length rows) (min limit (length vars))) rows vars (variable p ReadWrite v) le (below limit rows vars le)
fits_after limit rows vars (Some (Set k v)) le = omega (arith, length-changed rows (back_of (length rows) k) v)

-- a table and how many of its rows are in use, where these rows are in use over a table as lent
pub record Holds (rows vars vars' : List Row) (used' : ℕ) : Type 0 where
  pub used : used' ≡ length rows
  pub table : vars' ≡ over rows vars
  pub fits : length rows ≤ length vars

pub holds-none : (vars : List Row) (used used' : ℕ) → used' ≡ min used (length vars) → Holds (in_use vars used) vars vars used'
holds-none vars used used' e = record {
  used = e ∙ sym (length_in_use vars used);
  table = over_none vars used;
  fits = omega (arith, length_in_use vars used);
}

pub holds_more : (limit : ℕ) (rows vars vars' vars'' : List Row) (used' used'' : ℕ) (e : Option Effect) → Holds rows vars vars' used' →
    used'' ≡ used_after limit vars' used' e → vars'' ≡ table_after limit vars' used' e → Holds (done (min limit (length vars)) rows e) vars vars'' used''
holds_more limit rows vars vars' vars'' used' used'' e h u t = record {
  used = u ∙ ap (λ x. used_after limit x used' e) h.table ∙ ap (λ n. used_after limit (over rows vars) n e) h.used ∙ used-after limit rows vars h.fits e;
  table = t ∙ ap (λ x. table_after limit x used' e) h.table ∙ ap (λ n. table_after limit (over rows vars) n e) h.used ∙ table-after limit rows vars h.fits e;
  fits = fits_after limit rows vars e h.fits;
}
