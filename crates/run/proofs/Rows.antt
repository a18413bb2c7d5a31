-- the rows in use of a table that is cut, set or laid over
use Rattle.std.proofs.Common.{◌≡◌, ℕ, ◌+◌, ◌<◌, ◌≤◌, min, cond, ltb, leb, List, [], ◌∷◌, ◌++◌, length, take, drop, set, sym, refl, ap, ap₂, ◌∙◌, rules, arith}
use Rattle.std.proofs.lemmas.Bool.{cond-false, cond_both, le-ltb, leb-false}
use Rattle.std.proofs.lemmas.List.{length-take-le, take_at, take_min, take_more_set, places}
use Rattle.rows.specs.Rows.{in_use}
use Rattle.names.specs.Lists.{wiped, rewound, shortened}
use Rattle.host.specs.Meaning.{over}

module _ {R : Type 0} where
  length-wiped : (b : R) (rows : List R) (n k : ℕ) → n ≤ k → k ≤ length rows → length (wiped b rows n k) ≡ length rows
  length-wiped b rows n k le lk = search (rules, places)

  cut-to : (b : R) (rows : List R) (used n : ℕ) → used ≤ length rows → rewound b rows used n ≡ cond (leb used n) rows (wiped b rows n used)
  cut-to b rows used n le = cond-false (ltb (length rows) used) _ _ (le-ltb (length rows) used le)

  pub cut-length : (b : R) (rows : List R) (used n : ℕ) → used ≤ length rows → length (rewound b rows used n) ≡ length rows
  cut-length b rows used n le =
      ap length (cut-to b rows used n le)
      ∙ cond_both (leb used n) rows (wiped b rows n used) (λ x. length x ≡ length rows) (λ e. refl) (λ e. length-wiped b rows n used (omega (arith, leb-false used n e)) le)

  pub cut-used : (rows : List R) (used n : ℕ) → used ≤ length rows → shortened rows used n ≡ min used n
  cut-used rows used n le = cond-false (ltb (length rows) used) _ _ (le-ltb (length rows) used le)

  pub cut-rows : (b : R) (rows : List R) (used n : ℕ) → used ≤ length rows → n ≤ used → in_use (rewound b rows used n) (shortened rows used n) ≡ take n rows
  cut-rows b rows used n le lt =
      take_min (shortened rows used n) (rewound b rows used n)
      ∙ ap₂ (λ k x. take k x) (let e : shortened rows used n ≡ n = omega (arith, cut-used rows used n le) in e) (cut-to b rows used n le)
      ∙ cond_both (leb used n) rows (wiped b rows n used) (λ x. take n x ≡ take n rows) (λ e. refl) (λ e. take_at (take n rows) _ n (length-take-le n rows (omega arith)))

  -- one row more
  pub one_more : (rows : List R) (n : ℕ) (r : R) → n < length rows → in_use (set rows n r) (n + 1) ≡ in_use rows n ++ (r ∷ [])
  one_more rows n r lt = take_min (n + 1) (set rows n r) ∙ take_more_set rows n r lt ∙ ap (λ x. x ++ (r ∷ [])) (sym (take_min n rows))

  pub over-length : (front rows : List R) → length front ≤ length rows → length (over front rows) ≡ length rows
  over-length front rows le = search (rules, places)

  pub over-used : (front rows : List R) → in_use (over front rows) (length front) ≡ front
  over-used front rows = take_min (length front) (over front rows) ∙ take_at front (drop (length front) rows) (length front) refl
