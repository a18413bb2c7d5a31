-- the list host keeps the rules of hosts
use Rattle.std.specs.Prelude.{◌≡◌, ℕ, ◌+◌, ◌-◌, ◌^◌, ◌≤◌, min, Bool, true, false, Some, refl}
use Rattle.std.proofs.Common.{ap, ◌∙◌, arith}
use Rattle.std.proofs.lemmas.Bool.{cond-true, le-leb, and_from}
use Rattle.host.specs.Meaning.{HostLaws, most_whole}
use Rattle.host.proofs.Steps.{grown_none}
use Rattle.list.specs.Meaning.{list_meaning}
use Rattle.list.specs.Values.{valued, of_truth, of_whole, truth_in, whole_in}

truth_back : (b : Bool) → truth_in (of_truth b) ≡ Some b
truth_back true = refl
truth_back false = refl

whole_back : (n : ℕ) → n ≤ most_whole → whole_in (of_whole n) ≡ Some n
whole_back n le =
    let made : min (n + 3) (2 ^ 32 - 1) ≡ n + 3 = omega arith in
    let back : (n + 3) - 3 ≡ n = omega arith in
    ap (λ k. whole_in (valued k)) made
    ∙ cond-true _ _ _ (and_from _ _ (le-leb 3 (n + 3) (omega arith)) (le-leb _ _ (omega arith)))
    ∙ ap (λ k. Some k) back

pub list_laws : HostLaws list_meaning
list_laws = record {
  evaluates = λ s code v. grown_none v.limit v.rows;
  allows = λ s d v. grown_none v.limit v.rows;
  units = refl;
  truths = truth_back;
  wholes = whole_back;
  iterable = λ v i j e. refl;
}
