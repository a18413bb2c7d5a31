-- sums over the numbers from a on, and the sum over rows that are named at most once
use Rattle.std.proofs.Common.{◌≡◌, ℕ, zero, suc, ◌+◌, ◌*◌, ◌<◌, ◌≤◌, sym, refl, ap, inl, inr, add-zero, add_assoc, add-suc, add-mul, one-mul, zero-mul, add-one, arith}
use Rattle.std.proofs.lemmas.Bool.{cases_eq}
use Rattle.image.specs.Bytes.{sum_below}
use Rattle.image.proofs.Below.{sum_more}

-- f a + f (a + 1) + .. , n of them
abbrev pub sum_from : (ℕ → ℕ) → ℕ → ℕ → ℕ
sum_from f a n = sum_below (λ i. f (a + i)) n

-- one of the numbers, with those before it
pub part : (f : ℕ → ℕ) (n k : ℕ) → k < n → sum_below f k + f k ≤ sum_below f n
part f zero k h = absurd (omega arith)
part f (suc n) k h =
    elim (cases_eq k n) [
      | inl same ↦ rw same (omega arith)
      | inr other ↦ let lt : k < n = omega arith in omega (arith, part f n k lt)
    ]

pub sum_same : (f g : ℕ → ℕ) (n : ℕ) → ((k : ℕ) → k < n → f k ≡ g k) → sum_below f n ≡ sum_below g n
sum_same f g zero h = refl
sum_same f g (suc n) h = omega (arith, sum_same f g n (λ k lt. h k (omega arith)), h n (omega arith))

pub under : (f g : ℕ → ℕ) (n : ℕ) → ((k : ℕ) → k < n → f k ≤ g k) → sum_below f n ≤ sum_below g n
under f g zero h = omega arith
under f g (suc n) h = omega (arith, under f g n (λ k lt. h k (omega arith)), h n (omega arith))

pub split : (f : ℕ → ℕ) (a m n : ℕ) → sum_from f a (m + n) ≡ sum_from f a m + sum_from f (a + m) n
split f a m zero = rw (add-zero, add-zero)
split f a m (suc n) = rw add-suc (omega (arith, split f a m n, ap f (add_assoc a m n)))

both : (f g : ℕ → ℕ) (n : ℕ) → sum_below (λ i. f i + g i) n ≡ sum_below f n + sum_below g n
both f g zero = refl
both f g (suc n) = omega (arith, both f g n)

scale : (f : ℕ → ℕ) (c n : ℕ) → sum_below (λ i. f i * c) n ≡ sum_below f n * c
scale f c zero = sym (zero-mul c)
scale f c (suc n) = omega (arith, scale f c n, add-mul (sum_below f n) (f n) c)

none : (n : ℕ) → sum_below (λ _. 0) n ≡ 0
none zero = refl
none (suc n) = omega (arith, none n)

pub constant : (c n : ℕ) → sum_below (λ _. c) n ≡ n * c
constant c zero = sym (zero-mul c)
constant c (suc n) = omega (arith, constant c n, add-mul n 1 c, one-mul c, add-one n)

-- the order of two sums does not matter
swap : (h : ℕ → ℕ → ℕ) (q : ℕ → ℕ) (n m : ℕ) →
    sum_below (λ j. sum_below (λ k. h j k * q k) m) n ≡ sum_below (λ k. sum_below (λ j. h j k) n * q k) m
swap h q n zero = none n
swap h q n (suc m) =
    omega (arith, both (λ j. sum_below (λ k. h j k * q k) m) (λ j. h j m * q m) n, swap h q n m, scale (λ j. h j m) (q m) n)

-- where block c + n begins, counted from block c
pub leads : (count : ℕ → ℕ) (c n : ℕ) → sum_below count (c + n) ≡ sum_below count c + sum_from count c n
leads count c zero = rw (add-zero, add-zero)
leads count c (suc n) = rw add-suc (omega (arith, leads count c n))

-- what the blocks from c on add together, each at most what its rows add
tops : (q g count : ℕ → ℕ) (c n : ℕ) → ((i : ℕ) → i < n → q (c + i) ≤ sum_from g (sum_below count (c + i)) (count (c + i))) →
    sum_from q c n ≤ sum_from g (sum_below count c) (sum_from count c n)
tops q g count c zero h = omega arith
tops q g count c (suc n) h =
    let L = sum_from count c n in
    omega (
      arith,
      tops q g count c n (λ i lt. h i (omega arith)),
      h n (omega arith),
      split g (sum_below count c) L (count (c + n)),
      ap (λ x. sum_from g x (count (c + n))) (leads count c n),
    )

-- what row j adds: its own cost, and what the blocks add that it names, n of them from c on
abbrev pub weight : (ℕ → ℕ) → (ℕ → ℕ → ℕ) → (ℕ → ℕ) → ℕ → ℕ → ℕ → ℕ
weight own hit q c n j = own j + sum_below (λ i. hit j (c + i) * q (c + i)) n

few_times : (x y : ℕ) → x ≤ 1 → x * y ≤ y
few_times zero y h = rw zero-mul (omega arith)
few_times (suc x) y h = let e : suc x ≡ 1 = omega arith in rw (e, one-mul) (omega arith)

-- Rows stand in block order. If each of the n blocks above b adds at most what its rows add, and is named at most once by
-- the rows from block b on, then what the rows of block b add is at most the own cost of all these rows.
pub bounded : (q own : ℕ → ℕ) (hit : ℕ → ℕ → ℕ) (count : ℕ → ℕ) (b n : ℕ) →
    ((i : ℕ) → i < n → q (b + 1 + i) ≤ sum_from (weight own hit q (b + 1) n) (sum_below count (b + 1 + i)) (count (b + 1 + i))) →
    ((i : ℕ) → i < n → sum_from (λ j. hit j (b + 1 + i)) (sum_below count b) (count b + sum_from count (b + 1) n) ≤ 1) →
    sum_from (weight own hit q (b + 1) n) (sum_below count b) (count b) ≤ sum_from own (sum_below count b) (count b + sum_from count (b + 1) n)
bounded q own hit count b n each once =
    let g : ℕ → ℕ = weight own hit q (b + 1) n in
    let L = sum_from count (b + 1) n in
    let a = sum_below count b in
    let M = count b + L in
    let whole = split g a (count b) L in
    let above = tops q g count (b + 1) n each in
    let at : sum_from g (sum_below count (b + 1)) L ≡ sum_from g (a + count b) L = ap (λ x. sum_from g x L) (sum_more count b) in
    let parts = both (λ i. own (a + i)) (λ i. sum_below (λ k. hit (a + i) (b + 1 + k) * q (b + 1 + k)) n) M in
    let turned = swap (λ i k. hit (a + i) (b + 1 + k)) (λ k. q (b + 1 + k)) M n in
    let few = under (λ k. sum_below (λ i. hit (a + i) (b + 1 + k)) M * q (b + 1 + k)) (λ k. q (b + 1 + k)) n
    (λ k lt. few_times (sum_below (λ i. hit (a + i) (b + 1 + k)) M) (q (b + 1 + k)) (once k lt)) in
    omega arith
