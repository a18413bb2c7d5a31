-- the one walk over the kinds of statements: their loops are lively, and they count no more than their quotes
use Rattle.std.proofs.Common.{◌≡◌, ℕ, zero, suc, ◌+◌, ◌<◌, ◌≤◌, Bool, true, false, cond, not, eqb, List, [], ◌∷◌, Some, None, Ok, Err, Option, sym, refl, ap, ap₂, ◌∙◌, subst, add_assoc, add-suc, add-zero, suc-add, zero-add, arith}
use Rattle.std.proofs.lemmas.Bool.{true≢false, cond_both}
use Rattle.image.specs.declared.rows.ExprKind.{ExprKind}
use Rattle.image.specs.declared.rows.ExprKind.TheVariants.{Host as HostCode, Unit as UnitExpr, False, True}
use Rattle.image.specs.declared.rows.Name.{Name}
use Rattle.image.specs.declared.rows.Position.{Position}
use Rattle.image.specs.declared.rows.Stmt.{Stmt}
use Rattle.image.specs.declared.rows.Stmt.TheVariants.{Noop, Expr, Block, Assignment, Var, If, While, Do, For, BreakLoop, TryCatch, Return, Import}
use Rattle.image.specs.declared.rows.StmtRow.{StmtRow}
use Rattle.image.specs.Rows.{block, stmt_at, done as doing, parts}
use Rattle.rule.specs.Tree.{deepest, named, plus, larger, stmt_quote, plus_below, block_quote, expr_charges}
use Rattle.rows.specs.declared.place.Place.{Place}
use Rattle.rows.specs.declared.variable.Access.{Access}
use Rattle.rows.specs.declared.variable.Access.TheVariants.{ReadWrite, Constant}
use Rattle.rows.specs.declared.variable.VarRow.{VarRow}
use Rattle.host.specs.declared.answers.Halt.TheVariants as halt
use Rattle.host.specs.declared.answers.NoItem.TheVariants as no_item
use Rattle.host.specs.Answers.{Allowed, Applied, Evaluated, Item}
use Rattle.host.specs.Meaning.{HostMeaning}
use Rattle.resolve.specs.Answers.{Resolved}
use Rattle.outcome.specs.declared.Failure.{Failure}
use Rattle.outcome.specs.Faults.{catchable}
use Rattle.run.specs.Acts.{catching, Out, value, failed, broke, again, returned, exited, Found, found, missing, beyond, Act, find, store, load, Reply, Turn, Tree, done, charge, act, seq, inner, binding, rounds, items}
use Rattle.run.specs.Walk.{Event, End, stopped, ended, Setting, State, charged, perform, enter, go_on, push_all, pay, walk}
use Rattle.run.specs.Statements
use Rattle.run.specs.Statements.{Doing, give, ends, pays, does, pass, sub, outcome, alone, ◌>>=◌, ◌>>◌, expr_of, worth, evaluate, optional, condition, combined, iterable, for_names, for_turn, turned, run, body, while_round, do_round, caught_end, handler, handled, tried, declared, begun, exec, in_order, block_stmts, empty_at, levels, whole, row_or, always}
use Rattle.run.proofs.Counts.{act_free, push_all_free}
use Rattle.run.proofs.Rounds.{First, Ends, first-rises, Lively, first_lively, Proper}

plus_assoc : (a b c : Option ℕ) → plus a (plus b c) ≡ plus (plus a b) c
plus_assoc None b c = refl
plus_assoc (Some a) None c = refl
plus_assoc (Some a) (Some b) None = refl
plus_assoc (Some a) (Some b) (Some c) = ap (λ n. Some n) (sym (add_assoc a b c))

plus_zero : (a : Option ℕ) → plus a (Some 0) ≡ a
plus_zero None = refl
plus_zero (Some a) = ap (λ n. Some n) (add-zero a)

zero_plus : (a : Option ℕ) → plus (Some 0) a ≡ a
zero_plus None = refl
zero_plus (Some a) = ap (λ n. Some n) (zero-add a)

module _ {S V : Type 0} (m : HostMeaning S V) (w : Setting) where
  -- a bound on what a tree counts, if there is one
  unfoldable pub Bound : Option ℕ → Tree V → Type 0
  Bound None t = Unit {0}
  Bound (Some n) t = (limit many : ℕ) (s : State S V) → (walk m w limit many t s).state.count ≤ s.count + n

  pub record Good (t : Tree V) (c : Option ℕ) : Type 0 where
    pub proper : Proper m w t
    pub bound : Bound c t

  told : {t : Tree V} (c e : Option ℕ) → c ≡ e → Good t c → Good t e
  told {t} c e p g = subst (λ x. Good t x) p g

  heavier : {t : Tree V} (e c : Option ℕ) → Good t c → Good t (plus e c)
  unfolding Bound
  heavier None c g = record { proper = g.proper; bound = tt }
  heavier (Some a) None g = record { proper = g.proper; bound = tt }
  heavier (Some a) (Some b) g = record { proper = g.proper; bound = λ limit many s. omega (arith, g.bound limit many s) }

  -- what ends at once counts nothing, and so has any bound
  good_done : {c : Option ℕ} (o : Out V) → Good (done o) c
  unfolding Bound Proper walk
  good_done {c = None} o = record { proper = tt; bound = tt }
  good_done {c = Some n} o = record { proper = tt; bound = λ limit many s. omega arith }

  pays-bound : (limit many n : ℕ) (b : Bool) (p : Position) (s : State S V) (t : Tree V) →
      ((s : State S V) → (walk m w limit many t s).state.count ≤ s.count + n) → (pay m w b p s (walk m w limit many t)).state.count ≤ s.count + (1 + n)
  pays-bound limit many n true p s t h = omega (arith, h (charged m w s))
  pays-bound limit many n false p s t h = omega arith

  good_charge : (p : Position) (t : Tree V) (c : Option ℕ) → Good t c → Good (charge p t) (plus (Some 1) c)
  unfolding Bound Proper walk
  good_charge p t None g = record { proper = g.proper; bound = tt }
  good_charge p t (Some n) g = record { proper = g.proper; bound = λ limit many s. pays-bound limit many n _ p s t (g.bound limit many) }

  good_act : (a : Act V) (k : Reply a → Tree V) (c : Option ℕ) → ((x : Reply a) → Good (k x) c) → Good (act a k) c
  unfolding Bound Proper walk
  good_act a k None g = record { proper = λ x. (g x).proper; bound = tt }
  good_act a k (Some n) g = record {
    proper = λ x. (g x).proper;
    bound = λ limit many s. omega (arith, (g (perform m w a s).out).bound limit many (perform m w a s).state, act_free m w limit many a s);
  }

  goes-bound : (limit many n : ℕ) (e : End V) (r : State S V) (l : List Event) (k : Out V → Tree V) →
      ((o : Out V) (s : State S V) → (walk m w limit many (k o) s).state.count ≤ s.count + n) → (go_on m w e r l (λ o. walk m w limit many (k o))).state.count ≤ r.count + n
  goes-bound limit many n (stopped p) r l k h = omega arith
  goes-bound limit many n (ended o) r l k h = h o r

  good_seq : (t : Tree V) (k : Out V → Tree V) (c e : Option ℕ) → Good t c → ((o : Out V) → Good (k o) e) → Good (seq t k) (plus c e)
  unfolding Bound Proper walk
  good_seq t k None e g h = record { proper = (g.proper, λ o. (h o).proper); bound = tt }
  good_seq t k (Some a) None g h = record { proper = (g.proper, λ o. (h o).proper); bound = tt }
  good_seq t k (Some a) (Some b) g h = record {
    proper = (g.proper, λ o. (h o).proper);
    bound = λ limit many s.
        let d = walk m w limit many t s in
        omega (arith, g.bound limit many s, goes-bound limit many b d.out d.state d.log k (λ o. (h o).bound limit many));
  }

  good_inner : (t : Tree V) (c : Option ℕ) → Good t c → Good (inner t) c
  unfolding Bound Proper walk
  good_inner t None g = record { proper = g.proper; bound = tt }
  good_inner t (Some n) g = record { proper = g.proper; bound = λ limit many s. g.bound limit many (enter m w s) }

  good_binding : (r : VarRow V) (t : Tree V) (c : Option ℕ) → Good t c → Good (binding r t) c
  unfolding Bound Proper walk
  good_binding r t None g = record { proper = g.proper; bound = tt }
  good_binding r t (Some n) g = record {
    proper = g.proper;
    bound = λ limit many s.
        let q = (push_all m w catching (r ∷ []) s).state in
        omega (arith, g.bound limit many (enter m w q), push_all_free m w limit many catching (r ∷ []) s);
  }

  good_rounds : (t : Tree V) (c : Option ℕ) → Good t c → Lively m w t → Good (rounds t) None
  unfolding Bound Proper
  good_rounds t c g h = record { proper = (g.proper, h); bound = tt }

  good_items : (rows : List (VarRow V)) (f : ℕ → Turn V) (empty : Bool) (p : Position) (t : Tree V) (c : Option ℕ) → Good t c →
      ((i : ℕ) → Ends (f i)) → (empty ≡ false → First t) → Good (items rows f empty p t) None
  unfolding Bound Proper
  good_items rows f empty p t c g h k = record { proper = (g.proper, h, k); bound = tt }

  -- the same of what gives something or ends otherwise
  pub record Goes {A : Type 0} (d : Doing V A) (c : Option ℕ) : Type 0 where
    pub goes : (e : Option ℕ) (k : Out V → Tree V) (ok : A → Tree V) → ((o : Out V) → Good (k o) e) → ((a : A) → Good (ok a) e) → Good (d k ok) (plus c e)

  goes-give : {A : Type 0} {c : Option ℕ} (a : A) → Goes (give {V = V} a) c
  goes-give {A} {c} a = record { goes = λ e k ok hk ho. heavier c e (ho a) }

  goes-ends : {A : Type 0} {c : Option ℕ} (o : Out V) → Goes (ends {V = V} {A = A} o) c
  goes-ends {A} {c} o = record { goes = λ e k ok hk ho. heavier c e (hk o) }

  goes-pays : (p : Position) → Goes (pays {V = V} p) (Some 1)
  goes-pays p = record { goes = λ e k ok hk ho. good_charge p _ e (ho tt) }

  goes-does : (a : Act V) → Goes (does a) (Some 0)
  goes-does a = record { goes = λ e k ok hk ho. heavier (Some 0) e (good_act a _ e ho) }

  goes_bind : {A B : Type 0} {d : Doing V A} {f : A → Doing V B} (c e : Option ℕ) → Goes d c → ((a : A) → Goes (f a) e) → Goes (d >>= f) (plus c e)
  goes_bind {A} {B} {d} {f} c e hd hf = record {
    goes = λ x k ok hk ho.
        told (plus c (plus e x)) (plus (plus c e) x) (plus_assoc c e x)
        (hd.goes (plus e x) k (λ a. f a k ok) (λ o. heavier e x (hk o)) (λ a. (hf a).goes x k ok hk ho));
  }

  costs : {A : Type 0} {d : Doing V A} (c e : Option ℕ) → c ≡ e → Goes d c → Goes d e
  costs {A} {d} c e p g = subst (λ x. Goes d x) p g

  -- after what counts nothing, and with what counts nothing after it
  goes_free : {A B : Type 0} {d : Doing V A} {f : A → Doing V B} {e : Option ℕ} → Goes d (Some 0) → ((a : A) → Goes (f a) e) → Goes (d >>= f) e
  goes_free {A} {B} {d} {f} {e} hd hf = costs (plus (Some 0) e) e (zero_plus e) (goes_bind (Some 0) e hd hf)

  goes_then : {A B : Type 0} {d : Doing V A} {f : A → Doing V B} {c : Option ℕ} → Goes d c → ((a : A) → Goes (f a) (Some 0)) → Goes (d >>= f) c
  goes_then {A} {B} {d} {f} {c} hd hf = costs (plus c (Some 0)) c (plus_zero c) (goes_bind c (Some 0) hd hf)

  goes-pass : (o : Out V) → Goes (pass o) (Some 0)
  goes-pass (value v) = goes-give v
  goes-pass (failed f) = goes-ends (failed f)
  goes-pass (broke v) = goes-ends (broke v)
  goes-pass again = goes-ends again
  goes-pass (returned v) = goes-ends (returned v)
  goes-pass (exited p v) = goes-ends (exited p v)

  goes-outcome : (t : Tree V) (c : Option ℕ) → Good t c → Goes (outcome t) c
  goes-outcome t c g = record { goes = λ e k ok hk ho. good_seq t ok c e g ho }

  goes_sub : (t : Tree V) (c : Option ℕ) → Good t c → Goes (sub t) c
  goes_sub t c g = record {
    goes = λ e k ok hk ho. good_seq t _ c e g (λ o. told (plus (Some 0) e) e (zero_plus e) ((goes-pass o).goes e k ok hk ho));
  }

  good_alone : (d : Doing V V) (c : Option ℕ) → Goes d c → Good (alone d) c
  good_alone d c h = told (plus c (Some 0)) c (plus_zero c) (h.goes (Some 0) done (λ v. done (value v)) good_done (λ v. good_done (value v)))

  -- the small steps count nothing
  goes-answered : (at : Position) (x : Evaluated V) → Goes (Statements.answered at x) (Some 0)
  goes-answered at (Ok v) = goes-give v
  goes-answered at (Err (halt.Fault f)) = goes-ends _
  goes-answered at (Err (halt.Exit v)) = goes-ends _

  goes-permitted : (at : Position) (n : Place) (x : Allowed) → Goes (Statements.permitted at n x) (Some 0)
  goes-permitted at n (Ok true) = goes-give tt
  goes-permitted at n (Ok false) = goes-ends _
  goes-permitted at n (Err f) = goes-ends _

  goes-roomy : (at : Position) (b : Bool) → Goes (Statements.roomy {V = V} at b) (Some 0)
  goes-roomy at true = goes-give tt
  goes-roomy at false = goes-ends _

  goes-loadable : (at : Position) (b : Bool) → Goes (Statements.loadable {V = V} at b) (Some 0)
  goes-loadable at true = goes-give tt
  goes-loadable at false = goes-ends _

  goes-known : (at : Position) (b : Option Bool) → Goes (Statements.known {V = V} at b) (Some 0)
  goes-known at None = goes-ends _
  goes-known at (Some b) = goes-give b

  goes-target : (at : Position) (n : Place) (f : Found V) → Goes (Statements.target at n f) (Some 0)
  goes-target at n (found i r) = goes-give (i, r)
  goes-target at n missing = goes-ends _
  goes-target at n beyond = goes-ends _

  goes-writable : (at : Position) (n : Place) (a : Access) → Goes (Statements.writable {V = V} at n a) (Some 0)
  goes-writable at n ReadWrite = goes-give tt
  goes-writable at n Constant = goes-ends _

  goes-operated : (at : Position) (d : Doing V V) (x : Applied V) → Goes d (Some 0) → Goes (Statements.operated at d x) (Some 0)
  goes-operated at d (Ok (Some v)) h = goes-give v
  goes-operated at d (Ok None) h = h
  goes-operated at d (Err f) h = goes-ends _

  goes-resolves : (at : Position) (p : ℕ) (x : Resolved) → Goes (Statements.resolves {V = V} at p x) (Some 0)
  goes-resolves at p (Ok (Some n)) = goes-give n
  goes-resolves at p (Ok None) = goes-ends _
  goes-resolves at p (Err f) = goes-ends _

  goes-path : (at : Position) (p : Option ℕ) → Goes (Statements.path_of {V = V} at p) (Some 0)
  goes-path at None = goes-ends _
  goes-path at (Some p) = goes-give p

  module _ (resolver : ℕ → Resolved) (s : List ℕ) where
    goes-worth : (at : Position) (x : ExprKind) → Goes (worth m resolver s at x) (Some 0)
    goes-worth at (HostCode c) = goes_free (goes-does _) (λ r. goes-answered at r)
    goes-worth at UnitExpr = goes-give m.unit
    goes-worth at False = goes-give (m.make_truth false)
    goes-worth at True = goes-give (m.make_truth true)

    goes-evaluate : (e : ℕ) → Goes (evaluate m resolver s e) (Some 1)
    goes-evaluate e = goes_then (goes-pays _) (λ _. goes-worth (expr_of m resolver s e).at (expr_of m resolver s e).kind)

    goes-optional : (e : Option ℕ) → Goes (optional m resolver s e) (Some (expr_charges e))
    goes-optional None = goes-give m.unit
    goes-optional (Some e) = goes-evaluate e

    goes-condition : (e : ℕ) → Goes (condition m resolver s e) (Some 1)
    goes-condition e = goes_then (goes-evaluate e) (λ v. goes-known (expr_of m resolver s e).at (m.truth v))

    goes-combined : (at : Position) (o : Option ℕ) (old v : V) → Goes (combined m resolver s at o old v) (Some 0)
    goes-combined at None old v = goes-give v
    goes-combined at (Some o) old v = goes-operated at _ (m.apply o old v) (goes-operated at _ (m.binary o old v) (goes-ends _))

    goes-iterable : (at : Position) (x : Item V) → Goes (iterable m resolver s at x) (Some 0)
    goes-iterable at (Ok (Some v)) = goes-give tt
    goes-iterable at (Err (no_item.Fault f)) = goes-give tt
    goes-iterable at (Ok None) = goes-give tt
    goes-iterable at (Err no_item.NotIterable) = goes-ends _

    goes-turned : (b : Bool) → Goes (turned m resolver s b) (Some 0)
    goes-turned true = goes-give m.unit
    goes-turned false = goes-ends _

    for_ends : (here : Position) (c : Option Name) (i : ℕ) (x : Item V) → Ends (for_turn m resolver s here c i x)
    for_ends here c i (Ok (Some v)) = tt
    for_ends here c i (Err (no_item.Fault f)) = refl
    for_ends here c i (Ok None) = refl
    for_ends here c i (Err no_item.NotIterable) = refl

    module _ (stmts : Option ℕ → Tree V) (empty : Option ℕ → Bool) (q : Option ℕ → Option ℕ)
        (hs : (p : Option ℕ) → Good (stmts p) (q p)) (hf : (p : Option ℕ) → empty p ≡ false → First (stmts p)) where
      good_run : (p : Option ℕ) → Good (run m resolver s stmts empty p) (q p)
      good_run p = cond_both (empty p) _ _ (λ t. Good t (q p)) (λ e. good_done _) (λ e. good_inner (stmts p) (q p) (hs p))

      either : (b : Bool) (p p' : Option ℕ) → Good (run m resolver s stmts empty (cond b p p')) (larger (q p) (q p'))
      unfolding Bound
      either b p p' = go b (q p) (q p') (good_run p) (good_run p')
        where
          go : (b : Bool) (c e : Option ℕ) → Good (run m resolver s stmts empty p) c → Good (run m resolver s stmts empty p') e → Good (run m resolver s stmts empty (cond b p p')) (larger c e)
          go true None e g h = record { proper = g.proper; bound = tt }
          go false None e g h = record { proper = h.proper; bound = tt }
          go true (Some a) None g h = record { proper = g.proper; bound = tt }
          go false (Some a) None g h = record { proper = h.proper; bound = tt }
          go true (Some a) (Some b) g h = record { proper = g.proper; bound = λ limit many s. omega (arith, g.bound limit many s) }
          go false (Some a) (Some b) g h = record { proper = h.proper; bound = λ limit many s. omega (arith, h.bound limit many s) }

      goes-body : (b : Bool) (at : Position) (p : Option ℕ) → empty p ≡ b → (c : Option ℕ) × Goes (body m resolver s stmts empty b at p) c
      goes-body true at p e = (Some 1, goes_then (goes-pays at) (λ _. goes-give m.unit))
      goes-body false at p e = (q p, goes_sub (run m resolver s stmts empty p) (q p) (good_run p))

      -- a body that is not empty begins with a charge
      body-first : (b : Bool) (at : Position) (p : Option ℕ) → empty p ≡ b → First (alone (body m resolver s stmts empty b at p))
      body-first true at p e = tt
      body-first false at p e = subst (λ x. First (cond x (done (value m.unit)) (inner (stmts p)))) (sym e) (hf p e)

      while_first : (b : Bool) (at : Position) (e : ℕ) (p : Option ℕ) → First (alone (while_round m resolver s stmts empty b at e p))
      while_first true at e p = body-first (empty p) at p refl
      while_first false at e p = tt

      good_while : (b : Bool) (at : Position) (e : ℕ) (p : Option ℕ) → (c : Option ℕ) × Good (alone (while_round m resolver s stmts empty b at e p)) c
      good_while true at e p = let g = goes-body (empty p) at p refl in (g.0, good_alone _ g.0 g.1)
      good_while false at e p = (
        plus (Some 1) (q p),
        good_alone _ _ (goes_bind (Some 1) (q p) (goes-condition e) (λ b. goes_free (goes-turned b) (λ _. goes_sub _ (q p) (good_run p)))),
      )

      good_do : (e : ℕ) (p : Option ℕ) (n : Bool) → (c : Option ℕ) × Good (alone (do_round m resolver s stmts empty e p n)) c
      good_do e p n = (
        plus (q p) (Some 1),
        good_alone _ _ (goes_bind (q p) (Some 1) (goes_sub _ (q p) (good_run p)) (λ _. goes_then (goes-condition e) (λ b. goes-turned (cond n (not b) b)))),
      )

      -- a round of a Do charges in its body, or in its condition
      do_by : (b : Bool) (p : Option ℕ) → empty p ≡ b → (k : Out V → Tree V) → First (k (value m.unit)) → (limit many : ℕ) (x : State S V) →
          x.count < (walk m w limit many (seq (cond b (done (value m.unit)) (inner (stmts p))) k) x).state.count
      unfolding walk
      do_by true p e k h limit many x = first-rises m w limit many (k (value m.unit)) h x
      do_by false p e k h limit many x = first-rises m w limit many (seq (inner (stmts p)) k) (hf p e) x

      do_lively : (e : ℕ) (p : Option ℕ) (n : Bool) → Lively m w (alone (do_round m resolver s stmts empty e p n))
      do_lively e p n = record { charges = λ limit many x g. do_by (empty p) p refl _ tt limit many x }

      -- a catch
      goes-caught : (f : Failure V) (o : Out V) → Goes (caught_end m resolver s stmts empty f o) (Some 0)
      goes-caught f (value v) = goes-give m.unit
      goes-caught f (failed g) = goes-ends _
      goes-caught f (broke v) = goes-ends _
      goes-caught f again = goes-ends _
      goes-caught f (returned v) = goes-ends _
      goes-caught f (exited p v) = goes-ends _

      goes-handler : (at : Position) (n : Option Name) (p : Option ℕ) (f : Failure V) → Goes (handler m resolver s stmts empty at n p f) (q p)
      goes-handler at None p f = goes-outcome _ (q p) (good_run p)
      goes-handler at (Some n) p f =
          goes_free (goes-does _) (λ b. goes_free (goes-roomy at b) (λ _. goes-outcome _ (q p) (cond_both (empty p) _ _ (λ t. Good t (q p)) (λ e. good_done _) (λ e. good_binding _ (stmts p) (q p) (hs p)))))

      goes-handled : (b : Bool) (at : Position) (n : Option Name) (p : Option ℕ) (f : Failure V) → Goes (handled m resolver s stmts empty b at n p f) (q p)
      goes-handled false at n p f = goes-ends (failed f)
      goes-handled true at n p f = goes_then (goes-handler at n p f) (λ o. goes-caught f o)

      goes-tried : (at : Position) (n : Option Name) (p : Option ℕ) (o : Out V) → Goes (tried m resolver s stmts empty at n p o) (q p)
      goes-tried at n p (value v) = goes-give v
      goes-tried at n p (failed f) = goes-handled (catchable f.fault) at n p f
      goes-tried at n p (broke v) = goes-ends (broke v)
      goes-tried at n p again = goes-ends again
      goes-tried at n p (returned v) = goes-ends (returned v)
      goes-tried at n p (exited x v) = goes-ends (exited x v)

      goes_declared : (at : Position) (n : Place) (a : Access) (e : ℕ) (r : Option ℕ) → Goes (declared m resolver s stmts empty at n a e r) (Some 1)
      goes_declared at n a e None =
          goes_free (goes-does _) (λ b.
          goes_free (goes-roomy at b) (λ _.
          goes_then (goes-evaluate e) (λ v.
          goes_free (goes-does _) (λ c.
          goes_free (goes-roomy at c) (λ _.
          goes_free (goes-does _) (λ _. goes-give m.unit))))))
      goes_declared at n a e (Some r) =
          goes_then (goes-evaluate e) (λ v.
          goes_free (goes-does _) (λ f.
          goes_free (goes-target at n f) (λ t.
          goes_free (goes-does _) (λ _. goes-give m.unit))))

      -- each kind of statement: what it counts besides its own charge
      goes-begun : (at : Position) (x : Stmt) → (c : Option ℕ) × Goes (begun m resolver s stmts empty at x) c × (plus (Some 1) c ≡ stmt_quote x (q (parts x).body) (q (parts x).branch))
      goes-begun at Noop = (Some 0, goes-give m.unit, refl)
      goes-begun at (Expr e) = (Some 1, goes-evaluate e, refl)
      goes-begun at (Block p) = (q p, goes_sub _ (q p) (good_run p), refl)
      goes-begun at (Assignment n e o r) = (
        Some 2,
        goes_bind (Some 1) (Some 1) (goes-evaluate e) (λ v.
            goes_then (goes-pays at) (λ _.
            goes_free (goes-does (find (Statements.rule_name n) r)) (λ f.
            goes_free (goes-target at (Statements.rule_name n) f) (λ t.
            goes_free (goes-writable at (Statements.rule_name n) t.1.access) (λ _.
            goes_free (goes-combined at o t.1.value v) (λ u.
            goes_free (goes-does (store t.0 u)) (λ _. goes-give m.unit))))))),
        refl,
      )
      goes-begun at (Var n e r c) = (
        Some 1,
        goes_free (goes-does _) (λ a. goes_free (goes-permitted at _ a) (λ _. goes_declared at _ _ e r)),
        refl,
      )
      goes-begun at (If e p p') = (
        plus (Some 1) (larger (q p) (q p')),
        goes_bind (Some 1) (larger (q p) (q p')) (goes-condition e) (λ b. goes_sub _ (larger (q p) (q p')) (either b p p')),
        plus_assoc (Some 1) (Some 1) (larger (q p) (q p')),
      )
      goes-begun at (While e p) =
          let g = good_while (always (expr_of m resolver s e).kind) at e p in
          (None, goes_sub _ None (good_rounds _ g.0 g.1 (first_lively m w _ (while_first (always (expr_of m resolver s e).kind) at e p))), refl)
      goes-begun at (Do e p n) =
          let g = good_do e p n in
          (None, goes_sub _ None (good_rounds _ g.0 g.1 (do_lively e p n)), refl)
      goes-begun at (For n c e p) = (
        None,
        goes_free (goes-does _) (λ b.
            goes_free (goes-roomy at b) (λ _.
            goes_bind (Some 1) None (goes-evaluate e) (λ v.
            goes_free (goes-iterable _ _) (λ _.
            goes_free (goes-does _) (λ b.
            goes_free (goes-roomy at b) (λ _.
            goes_sub _ None (good_items _ _ (empty p) at (stmts p) (q p) (hs p) (λ i. for_ends _ c i (m.item v i)) (hf p)))))))),
        refl,
      )
      goes-begun at (BreakLoop e b) =
          (Some (expr_charges e), goes_then (goes-optional e) (λ v. goes-ends _), refl)
      goes-begun at (TryCatch p p' n) =
          (plus (q p) (q p'), goes_bind (q p) (q p') (goes-outcome _ (q p) (good_run p)) (λ o. goes-tried at n p' o), refl)
      goes-begun at (Return e t) =
          (Some (expr_charges e), goes_then (goes-optional e) (λ v. goes-ends _), refl)
      goes-begun at (Import e n) = (
        Some 1,
        goes_free (goes-does _) (λ b.
            goes_free (goes-loadable at b) (λ _.
            goes_then (goes-evaluate e) (λ v.
            goes_free (goes-path (expr_of m resolver s e).at (m.path v)) (λ p.
            goes_free (goes-resolves (expr_of m resolver s e).at p (resolver p)) (λ k.
            goes_free (goes-does (load (Statements.rule_name_or n) k)) (λ _. goes-give m.unit)))))),
        refl,
      )

      good_exec : (x : StmtRow) → Good (exec m resolver s stmts empty x) (stmt_quote x.stmt (q (parts x.stmt).body) (q (parts x.stmt).branch))
      good_exec x =
          let g = goes-begun x.at x.stmt in
          told (plus (Some 1) g.0) _ g.2 (good_alone _ _ (goes_bind (Some 1) g.0 (goes-pays x.at) (λ _. g.1)))

      -- statements in order: those of rows j, j + 1, .. , n of them
      abbrev quote_at : ℕ → Option ℕ
      quote_at i = let x = (row_or (stmt_at s i)).stmt in stmt_quote x (q (parts x).body) (q (parts x).branch)

      quotes : ℕ → ℕ → Option ℕ
      quotes j k = quote_at (j + k)

      first-apart : (f : ℕ → Option ℕ) (n : ℕ) → plus_below f (suc n) ≡ plus (f 0) (plus_below (λ k. f (suc k)) n)
      first-apart f zero = zero_plus (f 0) ∙ sym (plus_zero (f 0))
      first-apart f (suc n) = ap (λ x. plus x (f (suc n))) (first-apart f n) ∙ sym (plus_assoc (f 0) (plus_below (λ k. f (suc k)) n) (f (suc n)))

      same-below : (f g : ℕ → Option ℕ) (n : ℕ) → ((k : ℕ) → f k ≡ g k) → plus_below f n ≡ plus_below g n
      same-below f g zero h = refl
      same-below f g (suc n) h = ap₂ (λ x y. plus x y) (same-below f g n h) (h n)

      good_order : (v : V) (j n : ℕ) → Good (in_order m resolver s stmts empty v j n) (plus_below (quotes j) n)
      unfolding quotes
      good_order v j zero = good_done (value v)
      good_order v j (suc n) =
          let x = row_or (stmt_at s j) in
          let c = quote_at j in
          let here : quotes j 0 ≡ c = ap quote_at (add-zero j) in
          let later : (k : ℕ) → quotes (suc j) k ≡ quotes j (suc k) = λ k. ap quote_at (suc-add j k ∙ sym (add-suc j k)) in
          told (plus c (plus_below (quotes (suc j)) n)) (plus_below (quotes j) (suc n))
          (ap₂ (λ y z. plus y z) (sym here) (same-below (quotes (suc j)) (λ k. quotes j (suc k)) n later) ∙ sym (first-apart (quotes j) n))
          ((goes_sub _ c (good_exec x)).goes (plus_below (quotes (suc j)) n) done (λ u. in_order m resolver s stmts empty u (suc j) n) good_done (λ u. good_order u (suc j) n))

    row-stmt : (o : Option StmtRow) → (row_or o).stmt ≡ doing o
    row-stmt None = refl
    row-stmt (Some x) = refl

    first-order : (stmts : Option ℕ → Tree V) (empty : Option ℕ → Bool) (v : V) (j n : ℕ) → eqb n 0 ≡ false → First (in_order m resolver s stmts empty v j n)
    first-order stmts empty v j zero e = absurd (true≢false e)
    first-order stmts empty v j (suc n) e = tt

    -- a block that is not empty begins with a charge
    level-first : (d : ℕ) (p : Option ℕ) → empty_at m resolver s d p ≡ false → First (levels m resolver s d p)
    level-first zero p e = absurd (true≢false e)
    level-first (suc d) None e = absurd (true≢false e)
    level-first (suc d) (Some b) e = first-order (levels m resolver s d) (empty_at m resolver s d) m.unit (block s b).first (block s b).count e

    pub good_level : (d : ℕ) (p : Option ℕ) → Good (levels m resolver s d p) (named (Some 0) (block_quote s d) p)
    unfolding block_quote quotes
    good_level zero p = good_done _
    good_level (suc d) None = good_done _
    good_level (suc d) (Some b) =
        let q = named (Some 0) (block_quote s d) in
        told (plus_below (quotes (levels m resolver s d) (empty_at m resolver s d) q (good_level d) (level-first d) (block s b).first) (block s b).count) _
        (same-below (levels m resolver s d) (empty_at m resolver s d) q (good_level d) (level-first d) _ _ (block s b).count
        (λ k. ap (λ x. stmt_quote x (q (parts x).body) (q (parts x).branch)) (row-stmt (stmt_at s ((block s b).first + k)))))
        (good_order (levels m resolver s d) (empty_at m resolver s d) q (good_level d) (level-first d) m.unit (block s b).first (block s b).count)

    pub good_whole : Good (whole m resolver s) (block_quote s deepest 0)
    unfolding whole
    good_whole = good_level deepest (Some 0)
