-- entries that fit each, and an entry that does not
use Rattle.std.proofs.Common.{◌≡◌, ℕ, ◌<◌, Bool, true, false, List, [], ◌∷◌, ◌&&◌, length, MatchBool, refl, sym, ap, ◌∙◌, arith}
use Rattle.std.specs.List.{list_all, AllWithin, HoldsAt}
use Rattle.std.proofs.lemmas.List.Folds.{list_all_at}
use Rattle.std.proofs.lemmas.List.Sums.{list_all-from_AllPass}
use Rattle.sheet.specs.declared.sheet.StmtEntry.{StmtEntry}
use Rattle.sheet.specs.Ranges.{entry_fits, all_fit}

each_fits : (xs : List StmtEntry) → list_all entry_fits xs ≡ all_fit xs
each_fits [] = refl
each_fits (x ∷ xs) = ap (λ t. entry_fits x && t) (each_fits xs)

one_fails : (xs : List StmtEntry) (k : ℕ) → k < length xs → HoldsAt (λ x. entry_fits x ≡ false) xs k → list_all entry_fits xs ≡ false
one_fails [] k lt h = absurd (omega (arith, lt))
one_fails (x ∷ xs) k lt h = list_all_at entry_fits (x ∷ xs) k x lt (h x)

pub all_settled : (xs : List StmtEntry) (b : Bool) →
    MatchBool b (AllWithin (λ x. entry_fits x ≡ true) xs 0 (length xs)) ((k : ℕ) × (k < length xs) × HoldsAt (λ x. entry_fits x ≡ false) xs k) →
    b ≡ all_fit xs
all_settled xs true h = sym (list_all-from_AllPass entry_fits xs (λ k d lt. h k d (omega arith) lt)) ∙ each_fits xs
all_settled xs false h = sym (one_fails xs h.0 h.1 h.2) ∙ each_fits xs
