-- a larger limit of operations changes nothing until the smaller one stops a run
use Rattle.std.proofs.Common.{◌≡◌, ℕ, zero, suc, ◌≤◌, Bool, true, false, ltb, ◌⊎◌, List, [], ◌∷◌, refl, ap, ◌∙◌, subst, inl, inr, arith}
use Rattle.std.proofs.lemmas.Bool.{false≢true, ltb-true, lt-ltb}
use Rattle.image.specs.declared.rows.Position.{Position}
use Rattle.rows.specs.declared.variable.VarRow.{VarRow}
use Rattle.host.specs.Meaning.{HostMeaning}
use Rattle.run.specs.Acts.{Out, value, failed, broke, again, returned, exited, By, looping, catching, Turn, over, sets, Tree, done, charge, act, seq, inner, binding, rounds, items}
use Rattle.run.specs.Walk.{Event, End, stopped, ended, Setting, State, Done, noting, charged, perform, enter, go_on, after_round, turns, push_all, set_all, leaving, dropping, owning, pay, paid, bodied, turned, walk}
use Rattle.run.specs.Says.{cut}

module _ {S V : Type 0} (m : HostMeaning S V) (w : Setting) (low high many : ℕ) (le : low ≤ high) where
  -- stopped for operations under the smaller limit, or the same under both
  unfoldable pub Same : Done S V (End V) → Done S V (End V) → Type 0
  Same d e = (cut d.out ≡ true) ⊎ (d ≡ e)

  -- what leaves it as it is whether a run was stopped
  within : (F : Done S V (End V) → Done S V (End V)) → ((x : Done S V (End V)) → cut (F x).out ≡ cut x.out) → (d e : Done S V (End V)) → Same d e → Same (F d) (F e)
  unfolding Same
  within F h d e (inl stop) = inl (h d ∙ stop)
  within F h d e (inr same) = inr (ap F same)

  noted : (log : List Event) (d e : Done S V (End V)) → Same d e → Same (noting m w log d) (noting m w log e)
  noted log d e = within (noting m w log) (λ x. refl) d e

  paying : (b c : Bool) (p : Position) (s : State S V) (f g : State S V → Done S V (End V)) → (b ≡ true → c ≡ true) →
      ((q : State S V) → Same (f q) (g q)) → Same (pay m w b p s f) (pay m w c p s g)
  unfolding Same
  paying true true p s f g h k = k (charged m w s)
  paying true false p s f g h k = absurd (false≢true (h refl))
  paying false c p s f g h k = inl refl

  charges : (p : Position) (s : State S V) (f g : State S V → Done S V (End V)) → ((q : State S V) → Same (f q) (g q)) → Same (paid m w low many p s f) (paid m w high many p s g)
  charges p s f g k = paying (ltb s.count low) (ltb s.count high) p s f g (λ e. lt-ltb s.count high (omega (arith, ltb-true s.count low e))) k

  -- on with the outcome of one thing
  going : (e : End V) (r : State S V) (l : List Event) (f g : Out V → State S V → Done S V (End V)) → ((o : Out V) (q : State S V) → Same (f o q) (g o q)) →
      Same (go_on m w e r l f) (go_on m w e r l g)
  unfolding Same
  going (stopped p) r l f g h = inl refl
  going (ended o) r l f g h = noted l (f o r) (g o r) (h o r)

  stays : (e : End V) (r : State S V) (l : List Event) (f : Out V → State S V → Done S V (End V)) → cut e ≡ true → cut (go_on m w e r l f).out ≡ true
  stays (stopped p) r l f h = refl
  stays (ended o) r l f h = absurd (false≢true h)

  sequel : (d e : Done S V (End V)) (f g : Out V → State S V → Done S V (End V)) → Same d e → ((o : Out V) (q : State S V) → Same (f o q) (g o q)) →
      Same (go_on m w d.out d.state d.log f) (go_on m w e.out e.state e.log g)
  unfolding Same
  sequel d e f g (inl stop) h = inl (stays d.out d.state d.log f stop)
  sequel d e f g (inr same) h =
      subst (λ (x : Done S V (End V)). Same (go_on m w d.out d.state d.log f) (go_on m w x.out x.state x.log g)) same (going d.out d.state d.log f g h)

  after : (f g : State S V → Done S V (End V)) (o : Out V) (q : State S V) → ((q : State S V) → Same (f q) (g q)) → Same (after_round m w f o q) (after_round m w g o q)
  unfolding Same
  after f g (value v) q h = h q
  after f g again q h = h q
  after f g (broke v) q h = inr refl
  after f g (failed x) q h = inr refl
  after f g (returned v) q h = inr refl
  after f g (exited p v) q h = inr refl

  turning : (n : ℕ) (f g : ℕ → State S V → Done S V (End V)) (i : ℕ) (s : State S V) → ((i : ℕ) (q : State S V) → Same (f i q) (g i q)) → Same (turns m w n f i s) (turns m w n g i s)
  unfolding Same turns
  turning zero f g i s h = inr refl
  turning (suc n) f g i s h =
      sequel (f i s) (g i s) _ _ (h i s) (λ o q. after (turns m w n f (suc i)) (turns m w n g (suc i)) o q (λ q. turning n f g (suc i) q h))

  left : (s : State S V) (d e : Done S V (End V)) → Same d e → Same (leaving m w s d) (leaving m w s e)
  left s d e = within (leaving m w s) (λ x. refl) d e

  owned : (by : By) (rows : List (VarRow V)) (s : State S V) (f g : State S V → Done S V (End V)) → ((q : State S V) → Same (f q) (g q)) →
      Same (owning m w by rows s f) (owning m w by rows s g)
  owned by rows s f g h =
      let d = push_all m w by rows s in
      within (λ x. dropping m w s.names (noting m w d.log x)) (λ x. refl) (f d.state) (g d.state) (h d.state)

  bodies : (empty : Bool) (p : Position) (f g : State S V → Done S V (End V)) (s : State S V) → ((q : State S V) → Same (f q) (g q)) →
      Same (bodied m w low many empty p f s) (bodied m w high many empty p g s)
  unfolding Same
  bodies true p f g s h = charges p s _ _ (λ q. inr refl)
  bodies false p f g s h = left s _ _ (h (enter m w s))

  turnings : (first : ℕ) (empty : Bool) (p : Position) (f g : State S V → Done S V (End V)) (x : Turn V) (s : State S V) → ((q : State S V) → Same (f q) (g q)) →
      Same (turned m w low many first empty p f x s) (turned m w high many first empty p g x s)
  unfolding Same
  turnings first empty p f g (over o) s h = inr refl
  turnings first empty p f g (sets vs) s h = bodies empty p f g (set_all m w first vs s) h

  pub limits : (t : Tree V) (s : State S V) → Same (walk m w low many t s) (walk m w high many t s)
  unfolding Same walk
  limits (done o) s = inr refl
  limits (charge p t) s = charges p s _ _ (limits t)
  limits (act a k) s = noted (perform m w a s).log _ _ (limits (k (perform m w a s).out) (perform m w a s).state)
  limits (seq t k) s = sequel (walk m w low many t s) (walk m w high many t s) _ _ (limits t s) (λ o. limits (k o))
  limits (inner t) s = left s _ _ (limits t (enter m w s))
  limits (binding r t) s = owned catching (r ∷ []) s _ _ (λ q. left q _ _ (limits t (enter m w q)))
  limits (rounds t) s = turning many _ _ 0 s (λ i. limits t)
  limits (items rows f empty p t) s =
      owned looping rows s _ _ (λ q. turning many _ _ 0 q (λ i r. turnings s.names empty p (walk m w low many t) (walk m w high many t) (f i) r (limits t)))
