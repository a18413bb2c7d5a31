-- a run stopped for operations counted one more than its limit, any other at most its limit
use Rattle.std.proofs.Common.{◌≡◌, ℕ, suc, ◌≤◌, Bool, true, false, ltb, List, [], ◌∷◌, refl, ◌∙◌, arith}
use Rattle.rows.specs.declared.place.Place.{Place}
use Rattle.rows.specs.declared.variable.VarRow.{VarRow}
use Rattle.host.specs.Meaning.{HostMeaning}
use Rattle.run.specs.Acts.{By, letting, Act, ask, permit, room, declare, find, store, redeclare, another, load, Tree}
use Rattle.run.specs.Walk.{Event, Setting, State, perform, push, pushed, push_all, set_all, most, loaded, walk}
use Rattle.run.specs.Says.{cut, After}
use Rattle.run.proofs.Every.{Flow, Kept, every}

module _ {S V : Type 0} (m : HostMeaning S V) (w : Setting) (limit many : ℕ) where
  push_free : (b : Bool) (by : By) (r : VarRow V) (s : State S V) → (pushed m w b by r s).state.count ≡ s.count
  push_free true by r s = refl
  push_free false by r s = refl

  load_free : (b : Bool) (p : Place) (n : ℕ) (s : State S V) → (loaded m w b p n s).count ≡ s.count
  load_free true p n s = refl
  load_free false p n s = refl

  pub act_free : (a : Act V) (s : State S V) → (perform m w a s).state.count ≡ s.count
  act_free (ask c) s = refl
  act_free (permit p a) s = refl
  act_free (room k) s = refl
  act_free (declare r) s = push_free (ltb s.names (most m w s)) letting r s
  act_free (find p i) s = refl
  act_free (store i v) s = refl
  act_free (redeclare i a v) s = refl
  act_free another s = refl
  act_free (load p n) s = load_free (ltb s.loaded w.modules) p n s

  pub push_all_free : (by : By) (rows : List (VarRow V)) (s : State S V) → (push_all m w by rows s).state.count ≡ s.count
  push_all_free by [] s = refl
  push_all_free by (r ∷ rs) s = push_all_free by rs (push m w by r s).state ∙ push_free (ltb s.names (most m w s)) by r s

  pub set_all_free : (i : ℕ) (vs : List V) (s : State S V) → (set_all m w i vs s).count ≡ s.count
  set_all_free i [] s = refl
  set_all_free i (v ∷ vs) s = set_all_free (suc i) vs _

  abbrev Counted : State S V → Bool → State S V → List Event → Type 0
  Counted s b r l = s.count ≤ limit → After limit b r.count

  counted_flow : Flow m w limit many Counted
  counted_flow = record { idle = λ s h. h; pays = λ s lt h. lt; spends = λ s le h. omega arith; joins = λ s r q b l n h g k. g (h k) }

  counted_kept : Kept m w limit many Counted Counted
  counted_kept = record {
    flow = counted_flow;
    flow_own = counted_flow;
    acts = λ a s h. rw (act_free a s) h;
    blocks = λ s b r l h. h;
    sets_own = λ i vs s h. rw (set_all_free i vs s) h;
    blocks_own = λ s b r l h. h;
    owns = λ by rows s b r l q h k. h (rw (push_all_free by rows s) k);
  }

  pub counted : (t : Tree V) (s : State S V) → s.count ≤ limit → After limit (cut (walk m w limit many t s).out) (walk m w limit many t s).state.count
  counted t s h = every m w limit many Counted Counted counted_kept t s h
