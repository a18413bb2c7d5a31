-- the scripted host keeps the rules of hosts
use Rattle.std.specs.Prelude.{◌≡◌, ℕ, ◌/◌, ◌%◌, ◌≤◌, Bool, true, false, cond, ◌&&◌, pos, Some, None, Ok, Err, ◌==◌, nat_le, nat_lt, refl}
use Rattle.std.proofs.Common.{arith}
use Rattle.std.proofs.lemmas.Bool.{cond-true, le-leb}
use Rattle.host.specs.Answers.{Item}
use Rattle.host.specs.declared.answers.NoItem.TheVariants.{Fault as Failed, NotIterable}
use Rattle.host.specs.Meaning.{HostLaws, most_whole}
use Rattle.script.specs.declared.value.ScriptValue.{ScriptValue}
use Rattle.script.specs.declared.value.ScriptValue.TheVariants.{Unit as TheUnit, Truth, Number, Range, Seq}
use Rattle.script.specs.Items.{item_of, fault_of_kind}
use Rattle.script.specs.Meaning.{eval_entry, allow_entry, script_meaning}
use Rattle.script.specs.Values.{number_up_to}
use Rattle.script.specs.Growing.{grown_both}

whole_back : (n : ℕ) → n ≤ most_whole → number_up_to most_whole (Number (pos n)) ≡ Some n
whole_back n le = cond-true _ _ _ (le-leb _ _ le)

-- an answer other than not iterable
abbrev Iterates : Item ScriptValue → Type 0
Iterates x = x ≡ Err NotIterable → ⊥

neither : (t : Bool) (x y : Item ScriptValue) → Iterates x → Iterates y → Iterates (cond t x y)
neither true x y nx ny e = nx e
neither false x y nx ny e = ny e

not_one : (v : ScriptValue) → Iterates (Ok (Some v))
not_one v e = let z : ◌≡◌ {A = ℕ} 0 1 = cc in omega arith

not_failed : (k : ℕ) → Iterates (Err (Failed (fault_of_kind k)))
not_failed k e = let z : ◌≡◌ {A = ℕ} 0 1 = cc in omega arith

not_end : Iterates (Ok None)
not_end e = let z : ◌≡◌ {A = ℕ} 0 1 = cc in omega arith

seq-iterable : (t : Bool) (x y : Item ScriptValue) → Iterates x → cond t x (Err NotIterable) ≡ Err NotIterable → cond t y (Err NotIterable) ≡ Err NotIterable
seq-iterable true x y nx e = absurd (nx e)
seq-iterable false x y nx e = refl

iterable : (v : ScriptValue) (i j : ℕ) → item_of v i ≡ Err NotIterable → item_of v j ≡ Err NotIterable
iterable TheUnit i j e = refl
iterable (Truth b) i j e = refl
iterable (Number n) i j e = refl
iterable (Range a b) i j e = absurd cc
iterable (Seq k) i j e =
    seq-iterable (nat_lt k 1000) _ _
    (neither (nat_le (k % 10) i) _ _ not_end (neither (nat_lt 0 (k / 100 % 10) && i == k / 10 % 10) _ _ (not_failed (k / 100 % 10)) (not_one _)))
    e

pub script_laws : HostLaws script_meaning
script_laws = record {
  evaluates = λ s code v. grown_both v.limit v.rows (eval_entry s.evals.now s.evaluations).first (eval_entry s.evals.now s.evaluations).second;
  allows = λ s d v. grown_both v.limit v.rows (allow_entry s.allows.now s.declarations).first (allow_entry s.allows.now s.declarations).second;
  units = refl;
  truths = λ b. refl;
  wholes = whole_back;
  iterable = iterable;
}
