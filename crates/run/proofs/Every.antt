-- what each act keeps, a run keeps
use Rattle.std.proofs.Common.{◌≡◌, ℕ, zero, suc, ◌<◌, ◌≤◌, Bool, true, false, ltb, List, [], ◌∷◌, ◌++◌, refl}
use Rattle.std.proofs.lemmas.Bool.{ltb-true, ltb-false}
use Rattle.image.specs.declared.rows.Position.{Position}
use Rattle.rows.specs.declared.variable.VarRow.{VarRow}
use Rattle.host.specs.Meaning.{HostMeaning}
use Rattle.run.specs.Acts.{Out, value, failed, broke, again, returned, exited, By, looping, catching, Act, Turn, over, sets, Tree, done, charge, act, seq, inner, binding, rounds, items}
use Rattle.run.specs.Says.{cut, lasting}
use Rattle.run.specs.Walk.{Event, block, End, stopped, ended, Setting, State, Done, frame, charged, perform, cut_names, enter, leave, ends_with, go_on, after_round, turns, push_all, set_all, pay, bodied, turned, walk}

module _ {S V : Type 0} (m : HostMeaning S V) (w : Setting) (limit many : ℕ) where
  -- between a state, whether the run stopped for operations, the state then, and what was noted between them
  abbrev Relation : Type 1
  Relation = State S V → Bool → State S V → List Event → Type 0

  -- it holds where nothing is done and over a charge, and joins
  pub record Flow (Q : Relation) : Type 0 where
    pub idle : (s : State S V) → Q s false s []
    pub pays : (s : State S V) → s.count < limit → Q s false (charged m w s) []
    pub spends : (s : State S V) → limit ≤ s.count → Q s true (charged m w s) []
    pub joins : (s r q : State S V) (b : Bool) (l n : List Event) → Q s false r l → Q r b q n → Q s b q (l ++ n)

  -- R is P over names of their own, where nothing is declared but in inner blocks
  pub record Kept (P R : Relation) : Type 0 where
    pub flow : Flow P
    pub flow_own : Flow R
    pub acts : (a : Act V) (s : State S V) → P s false (perform m w a s).state (perform m w a s).log
    pub blocks : (s : State S V) (b : Bool) (r : State S V) (l : List Event) → P (enter m w s) b r l →
        P s b (leave m w s r) (l ++ (block (frame m w s) (frame m w (leave m w s r)) ∷ []))
    pub sets_own : (i : ℕ) (vs : List V) (s : State S V) → R s false (set_all m w i vs s) []
    pub blocks_own : (s : State S V) (b : Bool) (r : State S V) (l : List Event) → P (enter m w s) b r l →
        R s b (leave m w s r) (l ++ (block (frame m w s) (frame m w (leave m w s r)) ∷ []))
    pub owns : (by : By) (rows : List (VarRow V)) (s : State S V) (b : Bool) (r : State S V) (l : List Event) →
        lasting by ≡ false → R (push_all m w by rows s).state b r l → P s b (cut_names m w s.names r) ((push_all m w by rows s).log ++ l)

  abbrev Of : Relation → State S V → Done S V (End V) → Type 0
  Of Q s d = Q s (cut d.out) d.state d.log

  module _ (Q : Relation) (φ : Flow Q) where
    paying : (b : Bool) (p : Position) (s : State S V) (next : State S V → Done S V (End V)) → ltb s.count limit ≡ b →
        ((r : State S V) → Of Q r (next r)) → Of Q s (pay m w b p s next)
    paying true p s next e h = φ.joins s (charged m w s) _ _ [] _ (φ.pays s (ltb-true _ _ e)) (h (charged m w s))
    paying false p s next e h = φ.spends s (ltb-false _ _ e)

    -- one thing and then another
    going : (s : State S V) (e : End V) (r : State S V) (l : List Event) (k : Out V → State S V → Done S V (End V)) →
        Q s (cut e) r l → ((o : Out V) (q : State S V) → Of Q q (k o q)) → Of Q s (go_on m w e r l k)
    going s (stopped p) r l k h hk = h
    going s (ended o) r l k h hk = φ.joins s r _ _ l _ h (hk o r)

    after : (next : State S V → Done S V (End V)) (o : Out V) (q : State S V) → ((q : State S V) → Of Q q (next q)) → Of Q q (after_round m w next o q)
    after next (value v) q h = h q
    after next again q h = h q
    after next (broke v) q h = φ.idle q
    after next (failed f) q h = φ.idle q
    after next (returned v) q h = φ.idle q
    after next (exited p v) q h = φ.idle q

    turning : (n : ℕ) (f : ℕ → State S V → Done S V (End V)) (i : ℕ) (s : State S V) → ((i : ℕ) (q : State S V) → Of Q q (f i q)) → Of Q s (turns m w n f i s)
    unfolding turns
    turning zero f i s hf = φ.idle s
    turning (suc n) f i s hf = going s _ _ _ _ (hf i s) (λ o q. after (turns m w n f (suc i)) o q (λ q. turning n f (suc i) q hf))

  module _ (P R : Relation) (κ : Kept P R) where
    bodies : (empty : Bool) (p : Position) (f : State S V → Done S V (End V)) (s : State S V) → ((q : State S V) → Of P q (f q)) → Of R s (bodied m w limit many empty p f s)
    bodies true p f s h = paying R κ.flow_own (ltb s.count limit) p s (ends_with m w (value m.unit)) refl κ.flow_own.idle
    bodies false p f s h = κ.blocks_own s _ _ _ (h (enter m w s))

    turnings : (first : ℕ) (empty : Bool) (p : Position) (f : State S V → Done S V (End V)) (x : Turn V) (s : State S V) →
        ((q : State S V) → Of P q (f q)) → Of R s (turned m w limit many first empty p f x s)
    turnings first empty p f (over o) s h = κ.flow_own.idle s
    turnings first empty p f (sets vs) s h =
        κ.flow_own.joins s (set_all m w first vs s) _ _ [] _ (κ.sets_own first vs s) (bodies empty p f (set_all m w first vs s) h)

    pub every : (t : Tree V) (s : State S V) → Of P s (walk m w limit many t s)
    unfolding walk
    every (done o) s = κ.flow.idle s
    every (charge p t) s = paying P κ.flow (ltb s.count limit) p s _ refl (every t)
    every (act a k) s = κ.flow.joins s _ _ _ _ _ (κ.acts a s) (every (k (perform m w a s).out) (perform m w a s).state)
    every (seq t k) s = going P κ.flow s _ _ _ _ (every t s) (λ o. every (k o))
    every (inner t) s = κ.blocks s _ _ _ (every t (enter m w s))
    every (binding r t) s =
        let q = (push_all m w catching (r ∷ []) s).state in
        κ.owns catching (r ∷ []) s _ _ _ refl (κ.blocks_own q _ _ _ (every t (enter m w q)))
    every (rounds t) s = turning P κ.flow _ _ 0 s (λ i. every t)
    every (items rows f empty p t) s =
        κ.owns looping rows s _ _ _ refl
        (turning R κ.flow_own _ _ 0 (push_all m w looping rows s).state (λ i q. turnings s.names empty p (walk m w limit many t) (f i) q (every t)))
