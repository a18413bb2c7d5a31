-- `all` over a range of numbers
use Rattle.std.proofs.Common.{◌≡◌, ℕ, zero, suc, ◌+◌, ◌-◌, ◌<◌, ◌≤◌, Bool, true, false, ◌&&◌, IsTrue, MatchBool, Option, Some, None, IfSome, IsSomeAnd, refl, sym, subst, ap, ◌∙◌, inl, inr, arith}
use Rattle.std.proofs.lemmas.Bool.{and_from, cases_lt}
use Rattle.std.proofs.iter.Yields.{nat_range_steps}
use Rattle.std.proofs.iter.runs.Sources.{range_runs}
use Rattle.std.specs.Fn.{Called}
use Rattle.std.specs.Iterator.Runs.{Run, SomeRun, CallKeepsClosure, ItemsCountUp, AllItemsGive, AnyItemGives}
use Rattle.std.specs.Option.{option_map}
use Rattle.std.specs.declared.ops.Range.{Range}
use denote.Param.Members.{Mut}
use Rattle.image.specs.Bytes.{all_below}
use Rattle.image.proofs.Below.{all_fails}

-- what holds of each holds of all
all_from : (p : ℕ → Bool) (n : ℕ) → ((k : ℕ) → k < n → p k ≡ true) → all_below p n ≡ true
all_from p zero h = refl
all_from p (suc n) h = and_from (p n) (all_below p n) (h n (omega arith)) (all_from p n (λ k lt. h k (omega arith)))

same : (o : Option ℕ) (x : ℕ) → option_map (λ y. y) o ≡ Some x → o ≡ Some x
same None x e = e
same (Some y) x e = e

-- where p holds of the numbers before a, it is enough to test those from a on
all_shift : (p : ℕ → Bool) (a n : ℕ) → ((k : ℕ) → k < a → p k ≡ true) → all_below (λ k. p (a + k)) (n - a) ≡ all_below p n
all_shift p a zero before =
    let none : zero - a ≡ zero = omega arith in
    ap (all_below (λ k. p (a + k))) none
all_shift p a (suc n) before = elim (cases_lt n a) [
  | inl low ↦
      let none : suc n - a ≡ zero = omega (arith, low) in
      let no : n - a ≡ zero = omega (arith, low) in
      let rest : all_below p n ≡ true = sym (all_shift p a n before) ∙ ap (all_below (λ k. p (a + k))) no in
      ap (all_below (λ k. p (a + k))) none ∙ sym (and_from (p n) (all_below p n) (before n low) rest)
  | inr high ↦
      let more : suc n - a ≡ suc (n - a) = omega (arith, high) in
      let last : a + (n - a) ≡ n = omega (arith, high) in
      ap (all_below (λ k. p (a + k))) more ∙ ap (λ i. p i && all_below (λ k. p (a + k)) (n - a)) last ∙ ap (λ t. p n && t) (all_shift p a n before)
]

-- a test that answers p of each number of a range, counted from its start
pub below_all_span : {F : Type 0} {g : Mut F (ℕ × Unit {0}) Bool} {f : F} (span : Range ℕ) (p : ℕ → Bool) (a n : ℕ) (b : Bool) → span.start ≡ a → span.end - a ≡ n →
    CallKeepsClosure g f → ((k : ℕ) (r : Bool) → k < n → Called g f (a + k, tt) r f → r ≡ p k) →
    SomeRun nat_range_steps span (λ run. MatchBool b (IsTrue run.whole × AllItemsGive run g f true) (AnyItemGives run g f false)) →
    b ≡ all_below p n
below_all_span {F} {g} {f} span p a n true starts ends keeps answers ran = sym (all_from p n (λ k lt.
    let here : run.at k ≡ Some (a + k) = same (run.at k) (a + k) (up.3 k (omega (arith, lt, starts, ends, up.1 ran.2.0, from, to)) ∙ ap Some (omega (arith, from, starts))) in
    sym (answers k true lt (subst (λ o. IfSome o (λ x. Called g f (x, tt) true f)) here (ran.2.1 keeps k)))
    ))
  where
    run : Run nat_range_steps
    run = ran.0

    up : ItemsCountUp run run.from.start run.from.end
    up = range_runs run run.seen

    from : run.from.start ≡ span.start
    from = ap (λ (r : Range ℕ). r.start) ran.1

    to : run.from.end ≡ span.end
    to = ap (λ (r : Range ℕ). r.end) ran.1
below_all_span {F} {g} {f} span p a n false starts ends keeps answers ran =
    let run = ran.0 in
    let up = range_runs run run.seen in
    let from = ap (λ (r : Range ℕ). r.start) ran.1 in
    let to = ap (λ (r : Range ℕ). r.end) ran.1 in
    let one = ran.2 keeps in
    let k = one.0 in
    let lt : k < n = omega (arith, starts, ends, one.1, up.0, to, from) in
    let here : run.at k ≡ Some (a + k) = same (run.at k) (a + k) (up.3 k one.1 ∙ ap Some (omega (arith, from, starts))) in
    sym (all_fails p n k lt (sym (answers k false lt (subst (λ o. IsSomeAnd o (λ x. Called g f (x, tt) false f)) here one.2))))

-- the same by the numbers themselves, where p holds of those before the range
pub below_all_from : {F : Type 0} {g : Mut F (ℕ × Unit {0}) Bool} {f : F} {m : ℕ} (p : ℕ → Bool) (a n : ℕ) (b : Bool) → m ≡ n →
    ((k : ℕ) → k < a → p k ≡ true) → CallKeepsClosure g f → ((i : ℕ) (r : Bool) → a ≤ i → i < n → Called g f (i, tt) r f → r ≡ p i) →
    SomeRun nat_range_steps (record { start = a; end = m }) (λ run. MatchBool b (IsTrue run.whole × AllItemsGive run g f true) (AnyItemGives run g f false)) →
    b ≡ all_below p n
below_all_from {m = m} p a n b ends before keeps answers ran =
    below_all_span (record { start = a; end = m }) (λ k. p (a + k)) a (n - a) b refl (ap (λ e. e - a) ends) keeps
    (λ k r lt called. answers (a + k) r (omega arith) (omega (arith, lt)) called) ran
    ∙ all_shift p a n before

-- a test that answers p of each number
pub below_all : {F : Type 0} {g : Mut F (ℕ × Unit {0}) Bool} {f : F} {m : ℕ} (p : ℕ → Bool) (n : ℕ) (b : Bool) → m ≡ n →
    CallKeepsClosure g f → ((i : ℕ) (r : Bool) → i < n → Called g f (i, tt) r f → r ≡ p i) →
    SomeRun nat_range_steps (record { start = 0; end = m }) (λ run. MatchBool b (IsTrue run.whole × AllItemsGive run g f true) (AnyItemGives run g f false)) →
    b ≡ all_below p n
below_all p n b ends keeps answers ran = below_all_from p 0 n b ends (λ k lt. absurd (omega (arith, lt))) keeps (λ i r low lt. answers i r lt) ran
