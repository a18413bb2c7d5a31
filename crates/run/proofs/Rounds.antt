-- rounds that go on have charged, so that it does not show for how many rounds a loop is looked at
use Rattle.std.proofs.Common.{◌≡◌, ℕ, zero, suc, ◌+◌, ◌<◌, ◌≤◌, Bool, true, false, T, ltb, List, [], ◌∷◌, refl, ap, ◌∙◌, subst, arith}
use Rattle.image.specs.declared.rows.Position.{Position}
use Rattle.rows.specs.declared.variable.VarRow.{VarRow}
use Rattle.host.specs.Meaning.{HostMeaning}
use Rattle.run.specs.Acts.{Out, value, failed, broke, again, returned, exited, By, looping, catching, Reply, Turn, over, sets, Tree, done, charge, act, seq, inner, binding, rounds, items}
use Rattle.run.specs.Says.{cut, After}
use Rattle.run.specs.Walk.{Event, End, stopped, ended, Setting, State, Done, noting, charged, perform, enter, go_on, after_round, turns, push_all, set_all, leaving, dropping, owning, pay, bodied, turned, walk}
use Rattle.run.proofs.Counts.{act_free, push_all_free, set_all_free, counted}
use Rattle.std.proofs.lemmas.Bool.{ltb-true}
use Rattle.run.proofs.Every.{Flow, Kept, every}

abbrev pub onward : {V : Type 0} → Out V → Bool
onward (value v) = true
onward again = true
onward (broke v) = false
onward (failed f) = false
onward (returned v) = false
onward (exited p v) = false

abbrev pub goes_on : {V : Type 0} → End V → Bool
goes_on (stopped p) = false
goes_on (ended o) = onward o

-- a tree that begins with a charge
abbrev pub First : {V : Type 0} → Tree V → Type 0
First (done o) = ⊥
First (charge p t) = Unit {0}
First (act a k) = ⊥
First (seq t k) = First t
First (inner t) = First t
First (binding r t) = ⊥
First (rounds t) = ⊥
First (items rows f empty p t) = ⊥

-- a round that sets names, or ends the loop
abbrev pub Ends : {V : Type 0} → Turn V → Type 0
Ends (over o) = onward o ≡ false
Ends (sets vs) = Unit {0}

module _ {S V : Type 0} (m : HostMeaning S V) (w : Setting) where
  module _ (limit many : ℕ) where
    rises_flow : Flow m w limit many (λ s b r l. s.count ≤ r.count)
    rises_flow = record { idle = λ s. omega arith; pays = λ s lt. omega arith; spends = λ s le. omega arith; joins = λ s r q b l n h g. omega arith }

    rises_kept : Kept m w limit many (λ s b r l. s.count ≤ r.count) (λ s b r l. s.count ≤ r.count)
    rises_kept = record {
      flow = rises_flow;
      flow_own = rises_flow;
      acts = λ a s. omega (arith, act_free m w limit many a s);
      blocks = λ s b r l h. h;
      sets_own = λ i vs s. omega (arith, set_all_free m w limit many i vs s);
      blocks_own = λ s b r l h. h;
      owns = λ by rows s b r l short h. omega (arith, push_all_free m w limit many by rows s);
    }

    pub rises : (t : Tree V) (s : State S V) → s.count ≤ (walk m w limit many t s).state.count
    rises t s = every m w limit many _ _ rises_kept t s

    paying : (b : Bool) (p : Position) (s : State S V) (t : Tree V) → s.count < (pay m w b p s (walk m w limit many t)).state.count
    paying true p s t = rises t (charged m w s)
    paying false p s t = omega arith

    going : (n : ℕ) (e : End V) (r : State S V) (l : List Event) (k : Out V → Tree V) → n < r.count → n < (go_on m w e r l (λ o. walk m w limit many (k o))).state.count
    going n (stopped p) r l k h = h
    going n (ended o) r l k h = omega (arith, rises (k o) r)

    -- what begins with a charge counts
    pub first-rises : (t : Tree V) → First t → (s : State S V) → s.count < (walk m w limit many t s).state.count
    unfolding walk
    first-rises (done o) h s = absurd h
    first-rises (charge p t) h s = paying (ltb s.count limit) p s t
    first-rises (act a k) h s = absurd h
    first-rises (seq t k) h s =
        let d = walk m w limit many t s in
        going s.count d.out d.state d.log k (first-rises t h s)
    first-rises (inner t) h s = first-rises t h (enter m w s)
    first-rises (binding r t) h s = absurd h
    first-rises (rounds t) h s = absurd h
    first-rises (items rows f empty p t) h s = absurd h

  -- a round that goes on has charged
  pub record Lively (t : Tree V) : Type 0 where
    pub charges : (limit many : ℕ) (s : State S V) → T (goes_on (walk m w limit many t s).out) → s.count < (walk m w limit many t s).state.count

  pub first_lively : (t : Tree V) → First t → Lively t
  first_lively t h = record { charges = λ limit many s g. first-rises limit many t h s }

  -- every loop is lively
  unfoldable pub Proper : Tree V → Type 0
  Proper (done o) = Unit {0}
  Proper (charge p t) = Proper t
  Proper (act a k) = (x : Reply a) → Proper (k x)
  Proper (seq t k) = Proper t × ((o : Out V) → Proper (k o))
  Proper (inner t) = Proper t
  Proper (binding r t) = Proper t
  Proper (rounds t) = Proper t × Lively t
  Proper (items rows f empty p t) = Proper t × ((i : ℕ) → Ends (f i)) × (empty ≡ false → First t)

  module _ (limit n k : ℕ) (ln : limit < n) (lk : limit < k) where
    abbrev Alike : (State S V → Done S V (End V)) → (State S V → Done S V (End V)) → Type 0
    Alike f g = (s : State S V) → s.count ≤ limit → f s ≡ g s

    going-alike : (e : End V) (r : State S V) (l : List Event) (f g : Out V → State S V → Done S V (End V)) → After limit (cut e) r.count →
        ((o : Out V) → Alike (f o) (g o)) → go_on m w e r l f ≡ go_on m w e r l g
    going-alike (stopped p) r l f g c h = refl
    going-alike (ended o) r l f g c h = ap (noting m w l) (h o r c)

    after-alike : (e : End V) (r : State S V) (l : List Event) (f g : State S V → Done S V (End V)) → After limit (cut e) r.count →
        (T (goes_on e) → r.count ≤ limit → f r ≡ g r) → go_on m w e r l (after_round m w f) ≡ go_on m w e r l (after_round m w g)
    after-alike (stopped p) r l f g c h = refl
    after-alike (ended (value v)) r l f g c h = ap (noting m w l) (h tt c)
    after-alike (ended again) r l f g c h = ap (noting m w l) (h tt c)
    after-alike (ended (broke v)) r l f g c h = refl
    after-alike (ended (failed x)) r l f g c h = refl
    after-alike (ended (returned v)) r l f g c h = refl
    after-alike (ended (exited p v)) r l f g c h = refl

    -- as many rounds as are left of the limit suffice
    turns-alike : (a b : ℕ) (f g : ℕ → State S V → Done S V (End V)) (i : ℕ) (s : State S V) → ((i : ℕ) → Alike (f i) (g i)) →
        ((i : ℕ) (s : State S V) → s.count ≤ limit → After limit (cut (f i s).out) (f i s).state.count) →
        ((i : ℕ) (s : State S V) → T (goes_on (f i s).out) → s.count < (f i s).state.count) →
        s.count ≤ limit → limit < a + s.count → limit < b + s.count → turns m w a f i s ≡ turns m w b g i s
    unfolding turns
    turns-alike zero b f g i s h c l le la lb = absurd (omega arith)
    turns-alike (suc a) zero f g i s h c l le la lb = absurd (omega arith)
    turns-alike (suc a) (suc b) f g i s h c l le la lb =
        let d = f i s in
        after-alike d.out d.state d.log (turns m w a f (suc i)) (turns m w b g (suc i)) (c i s le)
        (λ on r. turns-alike a b f g (suc i) d.state h c l r (omega (arith, l i s on)) (omega (arith, l i s on)))
        ∙ ap (λ (x : Done S V (End V)). go_on m w x.out x.state x.log (after_round m w (turns m w b g (suc i)))) (h i s le)

    pay-alike : (b : Bool) (p : Position) (s : State S V) (f g : State S V → Done S V (End V)) → ltb s.count limit ≡ b → Alike f g → pay m w b p s f ≡ pay m w b p s g
    pay-alike true p s f g e h = h (charged m w s) (ltb-true s.count limit e)
    pay-alike false p s f g e h = refl

    -- the rounds over items
    module _ (first : ℕ) (p : Position) (t : Tree V) (j : ℕ) where
      body-counted : (b : Bool) (s : State S V) → s.count ≤ limit →
          After limit (cut (bodied m w limit j b p (walk m w limit j t) s).out) (bodied m w limit j b p (walk m w limit j t) s).state.count
      unfolding walk
      body-counted true s le = counted m w limit j (charge p (done (value m.unit))) s le
      body-counted false s le = counted m w limit j (inner t) s le

      turn_counted : (b : Bool) (x : Turn V) (s : State S V) → s.count ≤ limit →
          After limit (cut (turned m w limit j first b p (walk m w limit j t) x s).out) (turned m w limit j first b p (walk m w limit j t) x s).state.count
      turn_counted b (over o) s le = le
      turn_counted b (sets vs) s le = body-counted b (set_all m w first vs s) (omega (arith, set_all_free m w limit j first vs s))

      body-rises : (b : Bool) → (b ≡ false → First t) → (s : State S V) → s.count < (bodied m w limit j b p (walk m w limit j t) s).state.count
      unfolding walk
      body-rises true h s = first-rises limit j (charge p (done (value m.unit))) tt s
      body-rises false h s = first-rises limit j (inner t) (h refl) s

      turn_rises : (b : Bool) → (b ≡ false → First t) → (x : Turn V) → Ends x → (s : State S V) →
          T (goes_on (turned m w limit j first b p (walk m w limit j t) x s).out) → s.count < (turned m w limit j first b p (walk m w limit j t) x s).state.count
      turn_rises b h (over o) e s g = absurd (subst T e g)
      turn_rises b h (sets vs) e s g = omega (arith, body-rises b h (set_all m w first vs s), set_all_free m w limit j first vs s)

    body_alike : (b : Bool) (p : Position) (f g : State S V → Done S V (End V)) → Alike f g → Alike (bodied m w limit n b p f) (bodied m w limit k b p g)
    body_alike true p f g h s le = refl
    body_alike false p f g h s le = ap (leaving m w s) (h (enter m w s) le)

    turn_alike : (first : ℕ) (b : Bool) (p : Position) (f g : State S V → Done S V (End V)) (x : Turn V) → Alike f g →
        Alike (turned m w limit n first b p f x) (turned m w limit k first b p g x)
    turn_alike first b p f g (over o) h s le = refl
    turn_alike first b p f g (sets vs) h s le = body_alike b p f g h (set_all m w first vs s) (omega (arith, set_all_free m w limit n first vs s))

    own_alike : (by : By) (rows : List (VarRow V)) (s : State S V) (f g : State S V → Done S V (End V)) → s.count ≤ limit → Alike f g → owning m w by rows s f ≡ owning m w by rows s g
    own_alike by rows s f g le h =
        let d = push_all m w by rows s in
        ap (λ (x : Done S V (End V)). dropping m w s.names (noting m w d.log x)) (h d.state (omega (arith, push_all_free m w limit n by rows s)))

    -- for how many rounds loops are looked at does not show, if that is more than the limit
    pub alike : (t : Tree V) → Proper t → Alike (walk m w limit n t) (walk m w limit k t)
    unfolding Proper walk
    alike (done o) h s le = refl
    alike (charge p t) h s le = pay-alike (ltb s.count limit) p s (walk m w limit n t) (walk m w limit k t) refl (alike t h)
    alike (act a f) h s le =
        let d = perform m w a s in
        ap (noting m w d.log) (alike (f d.out) (h d.out) d.state (omega (arith, act_free m w limit n a s)))
    alike (seq t f) h s le =
        let d = walk m w limit n t s in
        going-alike d.out d.state d.log _ _ (counted m w limit n t s le) (λ o. alike (f o) (h.1 o))
        ∙ ap (λ (x : Done S V (End V)). go_on m w x.out x.state x.log (λ o. walk m w limit k (f o))) (alike t h.0 s le)
    alike (inner t) h s le = ap (leaving m w s) (alike t h (enter m w s) le)
    alike (binding r t) h s le = own_alike catching (r ∷ []) s _ _ le (λ q lq. ap (leaving m w q) (alike t h (enter m w q) lq))
    alike (rounds t) h s le =
        turns-alike n k (λ i. walk m w limit n t) (λ i. walk m w limit k t) 0 s (λ i. alike t h.0) (λ i q lq. counted m w limit n t q lq)
        (λ i q g. h.1.charges limit n q g) le (omega arith) (omega arith)
    alike (items rows f empty p t) h s le =
        own_alike looping rows s _ _ le
        (λ q lq. turns-alike n k _ _ 0 q (λ i. turn_alike s.names empty p _ _ (f i) (alike t h.0))
        (λ i r lr. turn_counted s.names p t n empty (f i) r lr) (λ i r g. turn_rises s.names p t n empty h.2 (f i) (h.1 i) r g) lq (omega arith) (omega arith))
