-- in a rule whose blocks are named once, what the statements of a block add is at most three for each statement of the rule
use Rattle.std.proofs.Common.{◌≡◌, ℕ, zero, suc, ◌+◌, ◌-◌, ◌*◌, ◌<◌, ◌≤◌, true, ◌||◌, eqb, List, Some, None, Option, sym, refl, ap, ◌∙◌, subst, inl, inr, add-mul, one-mul, arith}
use Rattle.std.proofs.lemmas.Bool.{and_parts, or_cases, cases_eq, eqb-true, eq-eqb, ltb-true, lt-ltb, cond-true}
use Rattle.image.specs.declared.rows.Parts.{Parts}
use Rattle.image.specs.declared.rows.StmtRow.{StmtRow}
use Rattle.image.specs.Bytes.{all_below, sum_below}
use Rattle.image.specs.Layouts.{layout_of}
use Rattle.image.specs.Rows.{block, stmt_at, stmt, done, parts}
use Rattle.image.proofs.Below.{all_at, sum_more}
use Rattle.checks.specs.Rules.{before, in_order, refers, fits, sound_row, sound, all_sound, above, names_above, block_above, names, hits, namings, once_each, named_once}
use Rattle.rule.specs.declared.summary.Summary.{Summary}
use Rattle.rule.specs.Tree.{stmt_in, named}
use Rattle.rule.specs.Summaries.{absent, of_row, summary, cost, value}
use Rattle.rule.proofs.Costs.{row-cost, joined-cost}
use Rattle.rule.proofs.Levels.{above_each, fixed}
use Rattle.rule.proofs.Sums.{sum_from, under, leads, constant, weight, bounded}

-- the one number that is named
pick : (q : ℕ → ℕ) (m c n : ℕ) → c ≤ m → m < c + n → q m ≤ sum_below (λ i. names (Some m) (c + i) * q (c + i)) n
pick q m c zero le lt = absurd (omega arith)
pick q m c (suc n) le lt =
    elim (cases_eq m (c + n)) [
      | inl same ↦
          let hit : names (Some m) (c + n) ≡ 1 = cond-true (eqb m (c + n)) 1 0 (eq-eqb m (c + n) same) in
          let own : names (Some m) (c + n) * q (c + n) ≡ q m = ap (λ x. x * q (c + n)) hit ∙ one-mul (q (c + n)) ∙ ap q (sym same) in
          omega arith
      | inr other ↦ omega (arith, pick q m c n le (omega arith))
    ]

-- a reference to a block above b and below c + n
picked : (f : ℕ → Summary) (b n : ℕ) (o : Option ℕ) → above b o ≡ true → refers (b + 1 + n) o ≡ true →
    value (named absent f o).quote ≤ sum_below (λ i. names o (b + 1 + i) * value (f (b + 1 + i)).quote) n
picked f b n None a r = omega arith
picked f b n (Some m) a r =
    pick (λ i. value (f i).quote) m (b + 1) n (omega (arith, ltb-true b m a)) (ltb-true m (b + 1 + n) r)

split-hits : (p : Parts) (q : ℕ → ℕ) (c n : ℕ) →
    sum_below (λ i. hits p (c + i) * q (c + i)) n
    ≡ sum_below (λ i. names p.body (c + i) * q (c + i)) n + sum_below (λ i. names p.branch (c + i) * q (c + i)) n
split-hits p q c zero = refl
split-hits p q c (suc n) = omega (arith, split-hits p q c n, add-mul (names p.body (c + n)) (names p.branch (c + n)) (q (c + n)))

-- a part of a sum
inner : (f : ℕ → ℕ) (a m n : ℕ) → a + m ≤ n → sum_from f a m ≤ sum_below f n
inner f a m n le =
    let r = n - (a + m) in
    let e : a + m + r ≡ n = omega arith in
    let whole : sum_below f (a + m + r) ≡ sum_below f n = ap (λ x. sum_below f x) e in
    omega (arith, leads f (a + m) r, leads f a m)

-- a row that is not there refers to nothing
sound-fits : (s : List ℕ) (o : Option StmtRow) → sound_row s o ≡ true → fits s (parts (done o)) ≡ true
sound-fits s None h = refl
sound-fits s (Some x) h = h

above_lower : (b c : ℕ) (o : Option ℕ) → b ≤ c → above c o ≡ true → above b o ≡ true
above_lower b c None le h = refl
above_lower b c (Some m) le h = lt-ltb b m (omega (arith, ltb-true c m h))

-- the blocks have all the statements
pub statements_in : (s : List ℕ) → in_order s ≡ true → before s (layout_of s).blocks ≡ (layout_of s).statements
statements_in s order =
    eqb-true (before s (layout_of s).blocks) (layout_of s).statements
    (and_parts (all_below (λ b. eqb (block s b).first (before s b)) (layout_of s).blocks) _ order).1

module _ (s : List ℕ) (order : in_order s ≡ true) (rows : all_sound s ≡ true) (naming : named_once s ≡ true) where
  abbrev pub count : ℕ → ℕ
  count c = (block s c).count

  abbrev hit : ℕ → ℕ → ℕ
  hit j k = hits (parts (stmt s j)) k

  abbrev pub worth : ℕ → ℕ
  worth c = value (summary s c).quote

  -- how many blocks there are above block b
  abbrev rest : ℕ → ℕ
  rest b = (layout_of s).blocks - (b + 1)

  pub begins : (b : ℕ) → b < (layout_of s).blocks → (block s b).first ≡ before s b
  begins b lt =
      eqb-true (block s b).first (before s b) (all_at (λ b. eqb (block s b).first (before s b)) (layout_of s).blocks b lt
      (and_parts (all_below (λ b. eqb (block s b).first (before s b)) (layout_of s).blocks) _ order).0)

  -- the rows from block b on end the table
  ends : (b : ℕ) → b < (layout_of s).blocks → before s b + (count b + sum_from count (b + 1) (rest b)) ≡ (layout_of s).statements
  ends b lt =
      let e : b + 1 + rest b ≡ (layout_of s).blocks = omega arith in
      let all = eqb-true (before s (layout_of s).blocks) (layout_of s).statements
      (and_parts (all_below (λ b. eqb (block s b).first (before s b)) (layout_of s).blocks) _ order).1 in
      omega (arith, leads count (b + 1) (rest b), sum_more count b, ap (λ x. before s x) e)

  pub inside : (b k : ℕ) → b < (layout_of s).blocks → k < count b → before s b + k < (layout_of s).statements
  inside b k lt h = omega (arith, ends b lt)

  pub fit : (j : ℕ) → j < (layout_of s).statements → fits s (parts (stmt s j)) ≡ true
  fit j lt =
      sound-fits s (stmt_at s j) (all_at (sound s) (layout_of s).statements j lt (and_parts (all_below (sound s) (layout_of s).statements) _ rows).0)

  refers-body : (j : ℕ) → j < (layout_of s).statements → refers (layout_of s).blocks (parts (stmt s j)).body ≡ true
  refers-body j lt = (and_parts _ _ (and_parts _ _ (and_parts (refers (layout_of s).expressions (parts (stmt s j)).expr) _ (fit j lt)).1).0).0

  refers-branch : (j : ℕ) → j < (layout_of s).statements → refers (layout_of s).blocks (parts (stmt s j)).branch ≡ true
  refers-branch j lt = (and_parts _ _ (and_parts _ _ (and_parts (refers (layout_of s).expressions (parts (stmt s j)).expr) _ (fit j lt)).1).0).1

  -- what a statement of a block from b on adds
  weights : (b c k : ℕ) → b ≤ c → c < (layout_of s).blocks → k < count c →
      cost s (summary s) c k ≤ weight (λ _. 3) hit worth (b + 1) (rest b) (before s c + k)
  weights b c k le lt h =
      let n = rest b in
      let p = parts (stmt s (before s c + k)) in
      let e : parts (stmt_in s c k) ≡ p = ap (λ a. parts (stmt s (a + k))) (begins c lt) in
      let all : (layout_of s).blocks ≡ b + 1 + n = omega arith in
      let within = inside c k lt h in
      let higher = subst (λ (x : Parts). names_above c x ≡ true) e (all_at (λ k. names_above c (parts (stmt_in s c k))) (count c) k h (above_each s naming c)) in
      let sides = and_parts (above c p.body) (above c p.branch) higher in
      omega (
        arith,
        ap (λ (x : Parts). 3 + value (named absent (summary s) x.body).quote + value (named absent (summary s) x.branch).quote) e,
        split-hits p worth (b + 1) n,
        picked (summary s) b n p.body (above_lower b c p.body le sides.0) (subst (λ m. refers m p.body ≡ true) all (refers-body (before s c + k) within)),
        picked (summary s) b n p.branch (above_lower b c p.branch le sides.1) (subst (λ m. refers m p.branch ≡ true) all (refers-branch (before s c + k) within)),
      )

  weighed : (b c : ℕ) → b ≤ c → c < (layout_of s).blocks →
      sum_below (cost s (summary s) c) (count c) ≤ sum_from (weight (λ _. 3) hit worth (b + 1) (rest b)) (before s c) (count c)
  weighed b c le lt =
      under (cost s (summary s) c) (λ k. weight (λ _. 3) hit worth (b + 1) (rest b) (before s c + k)) (count c) (λ k h. weights b c k le lt h)

  pub worth-cost : (c : ℕ) → worth c ≤ sum_below (cost s (summary s) c) (count c)
  worth-cost c =
      omega (
        arith,
        ap (λ (x : Summary). value x.quote) (fixed s naming c),
        joined-cost (of_row s (summary s) c) (cost s (summary s) c) (count c) (λ k. row-cost s (summary s) c k),
      )

  pub once : (k : ℕ) → 0 < k → k < (layout_of s).blocks → namings s k ≡ 1
  once k pos lt =
      elim (or_cases (eqb k 0) (eqb (namings s k) 1)
      (all_at (λ n. eqb n 0 || eqb (namings s n) 1) (layout_of s).blocks k lt (and_parts (all_below (block_above s) (layout_of s).blocks) (once_each s) naming).1)) [
        | inl none ↦ absurd (omega (arith, eqb-true k 0 none))
        | inr one ↦ eqb-true (namings s k) 1 one
      ]

  pub costs : (b : ℕ) → b < (layout_of s).blocks → sum_below (cost s (summary s) b) (count b) ≤ 3 * (layout_of s).statements
  costs b lt =
      let M = count b + sum_from count (b + 1) (rest b) in
      let all = bounded worth (λ _. 3) hit count b (rest b)
      (λ i h. omega (arith, worth-cost (b + 1 + i), weighed b (b + 1 + i) (omega arith) (omega arith)))
      (λ i h. omega (arith, inner (λ j. hit j (b + 1 + i)) (before s b) M (layout_of s).statements (omega (arith, ends b lt)), once (b + 1 + i) (omega arith) (omega arith))) in
      omega (arith, weighed b b (omega arith) lt, constant 3 M, ends b lt)
