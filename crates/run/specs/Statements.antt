-- what each statement does: the order of its acts
use Rattle.std.specs.Prelude.{ℕ, zero, suc, Bool, true, false, cond, not, ◌&&◌, List, [], ◌∷◌, Some, None, Option, Ok, Err, ◌==◌}
use Rattle.image.specs.declared.rows.Expr.{Expr as ExprRow}
use Rattle.image.specs.declared.rows.ExprKind.{ExprKind}
use Rattle.image.specs.declared.rows.ExprKind.TheVariants.{Host as HostCode, Unit as UnitExpr, False, True}
use Rattle.image.specs.declared.rows.Name.{Name}
use Rattle.image.specs.declared.rows.Position.{Position}
use Rattle.image.specs.declared.rows.Stmt.{Stmt}
use Rattle.image.specs.declared.rows.Stmt.TheVariants.{Noop, Expr, Block, Assignment, Var, If, While, Do, For, BreakLoop, TryCatch, Return, Import}
use Rattle.image.specs.declared.rows.StmtRow.{StmtRow}
use Rattle.image.specs.Rows.{block, stmt_at, expr_at}
use Rattle.rule.specs.Tree.{deepest}
use Rattle.rows.specs.declared.place.Place.{Place}
use Rattle.rows.specs.declared.place.Source.TheVariants.{Rule}
use Rattle.rows.specs.declared.variable.Access.{Access}
use Rattle.rows.specs.declared.variable.Access.TheVariants.{ReadWrite, Constant}
use Rattle.rows.specs.declared.variable.VarRow.{VarRow}
use Rattle.rows.specs.Places.{no_place}
use Rattle.rows.specs.Rows.{variable}
use Rattle.host.specs.declared.answers.Halt.TheVariants as halt
use Rattle.host.specs.declared.answers.NoItem.TheVariants as no_item
use Rattle.host.specs.Answers.{Allowed, Applied, Evaluated, Item}
use Rattle.host.specs.declared.answers.Caught.{Caught}
use Rattle.host.specs.declared.answers.Caught.TheVariants as caught
use Rattle.host.specs.Meaning.{HostMeaning}
use Rattle.resolve.specs.Answers.{Resolved}
use Rattle.outcome.specs.declared.Failure.{Failure}
use Rattle.outcome.specs.declared.RunFault.{RunFault}
use Rattle.outcome.specs.declared.RunFault.TheVariants as fault
use Rattle.outcome.specs.Faults.{catchable}
use Rattle.run.specs.Acts.{Out, value, failed, broke, again, returned, exited, Found, found, missing, beyond, Act, ask, permit, room, declare, find, store, redeclare, another, load, Reply, Turn, over, sets, Tree, done, charge, act, seq, inner, binding, rounds, items}

-- what gives an A, or ends otherwise: the first continuation has what else it ends with
abbrev pub Doing : Type 0 → Type 0 → Type 0
Doing V A = (Out V → Tree V) → (A → Tree V) → Tree V

abbrev pub nowhere : Position
nowhere = record { line = 0; column = 0 }

-- a fault's own position, and another where it has none
abbrev pub at_or : Position → Position → Position
at_or own other = cond (own.line == 0 && own.column == 0) other own

-- the place of a name in the rule's text
abbrev pub rule_name : Name → Place
rule_name n = record { source = Rule; offset = n.offset; length = n.length }

abbrev pub rule_name_or : Option Name → Place
rule_name_or None = no_place
rule_name_or (Some n) = rule_name n

module _ {V : Type 0} where
  infixl 10 ◌>>=◌
  infixl 10 ◌>>◌
  abbrev pub ◌>>=◌ : {A B : Type 0} → Doing V A → (A → Doing V B) → Doing V B
  (m >>= f) k ok = m k (λ a. f a k ok)

  abbrev pub ◌>>◌ : {A B : Type 0} → Doing V A → Doing V B → Doing V B
  m >> f = m >>= (λ a. f)

  abbrev pub give : {A : Type 0} → A → Doing V A
  give a k ok = ok a

  abbrev pub ends : {A : Type 0} → Out V → Doing V A
  ends o k ok = k o

  abbrev pub fails : {A : Type 0} → RunFault V → Position → Doing V A
  fails f at = ends (failed (record { fault = f; at = at }))

  abbrev pub pays : Position → Doing V (Unit {0})
  pays at k ok = charge at (ok tt)

  abbrev pub does : (a : Act V) → Doing V (Reply a)
  does a k ok = act a ok

  -- the value of an outcome, or its end
  abbrev pub pass : Out V → Doing V V
  pass (value v) k ok = ok v
  pass (failed f) k ok = k (failed f)
  pass (broke v) k ok = k (broke v)
  pass again k ok = k again
  pass (returned v) k ok = k (returned v)
  pass (exited p v) k ok = k (exited p v)

  -- what is a tree by itself: its value, or how it ended
  abbrev pub sub : Tree V → Doing V V
  sub t k ok = seq t (λ o. pass o k ok)

  abbrev pub outcome : Tree V → Doing V (Out V)
  outcome t k ok = seq t ok

  abbrev pub alone : Doing V V → Tree V
  alone d = d done (λ v. done (value v))

  -- an answer of the host to evaluate, at the position of the expression
  abbrev pub answered : Position → Evaluated V → Doing V V
  answered at (Ok v) = give v
  answered at (Err (halt.Fault f)) = fails (fault.Host f.code f.catchable) (at_or f.at at)
  answered at (Err (halt.Exit v)) = ends (exited at v)

  -- an answer of the host to allow: its faults keep having no position
  abbrev pub permitted : Position → Place → Allowed → Doing V (Unit {0})
  permitted at name (Ok true) = give tt
  permitted at name (Ok false) = fails (fault.NotAllowed name) at
  permitted at name (Err f) = fails (fault.Host f.code f.catchable) f.at

  abbrev pub roomy : Position → Bool → Doing V (Unit {0})
  roomy at true = give tt
  roomy at false = fails fault.TooManyNames at

  abbrev pub loadable : Position → Bool → Doing V (Unit {0})
  loadable at true = give tt
  loadable at false = fails fault.TooManyModules at

  abbrev pub known : Position → Option Bool → Doing V Bool
  known at None = fails fault.WrongKind at
  known at (Some b) = give b

  -- the row that a search found, with its number
  abbrev pub target : Position → Place → Found V → Doing V (ℕ × VarRow V)
  target at name (found i r) = give (i, r)
  target at name missing = fails (fault.NoSuchName name) at
  target at name beyond = fails fault.NoSuchIndex at

  abbrev pub writable : Position → Place → Access → Doing V (Unit {0})
  writable at name ReadWrite = give tt
  writable at name Constant = fails (fault.ConstantTarget name) at

  -- the answer of an operator function, and what comes where it finds nothing
  abbrev pub operated : Position → Doing V V → Applied V → Doing V V
  operated at other (Ok (Some v)) = give v
  operated at other (Ok None) = other
  operated at other (Err f) = fails (fault.Host f.code f.catchable) (at_or f.at at)

  -- an answer of the resolver, at the position of the path
  abbrev pub resolves : Position → ℕ → Resolved → Doing V ℕ
  resolves at path (Ok (Some n)) = give n
  resolves at path (Ok None) = fails (fault.NoModule path) at
  resolves at path (Err f) = fails (fault.Resolver f.code f.catchable) (at_or f.at at)

  abbrev pub path_of : Position → Option ℕ → Doing V ℕ
  path_of at None = fails fault.WrongKind at
  path_of at (Some p) = give p

  -- break or continue
  abbrev pub left : Bool → V → Out V
  left true v = broke v
  left false v = again

  -- throw or return
  abbrev pub gone : Position → Bool → V → Out V
  gone at true v = failed (record { fault = fault.Thrown v; at = at })
  gone at false v = returned v

  -- what the host is told of a caught fault; those that no catch takes, and a thrown value, are not asked for
  abbrev pub told : V → (Caught → V) → RunFault V → V
  told unit f (fault.NotAllowed p) = f (caught.NotAllowed p)
  told unit f fault.TooManyNames = unit
  told unit f fault.WrongKind = f caught.WrongKind
  told unit f fault.NotIterable = f caught.NotIterable
  told unit f (fault.NoSuchName p) = f (caught.NoSuchName p)
  told unit f fault.NoSuchIndex = unit
  told unit f (fault.ConstantTarget p) = f (caught.ConstantTarget p)
  told unit f (fault.NoOperator o) = f (caught.NoOperator o)
  told unit f fault.TooManyModules = unit
  told unit f (fault.NoModule p) = f (caught.NoModule p)
  told unit f (fault.Resolver c t) = f (caught.Resolver c)
  told unit f (fault.Thrown v) = v
  told unit f (fault.Host c t) = f (caught.Host c)

  -- whether a fault is a thrown unit
  abbrev pub throws_unit : (V → Bool) → RunFault V → Bool
  throws_unit is_unit (fault.NotAllowed p) = false
  throws_unit is_unit fault.TooManyNames = false
  throws_unit is_unit fault.WrongKind = false
  throws_unit is_unit fault.NotIterable = false
  throws_unit is_unit (fault.NoSuchName p) = false
  throws_unit is_unit fault.NoSuchIndex = false
  throws_unit is_unit (fault.ConstantTarget p) = false
  throws_unit is_unit (fault.NoOperator o) = false
  throws_unit is_unit fault.TooManyModules = false
  throws_unit is_unit (fault.NoModule p) = false
  throws_unit is_unit (fault.Resolver c t) = false
  throws_unit is_unit (fault.Thrown v) = is_unit v
  throws_unit is_unit (fault.Host c t) = false

-- a row that is not there reads as unit, and as no statement
abbrev pub expr_or : Option ExprRow → ExprRow
expr_or None = record { at = nowhere; kind = UnitExpr }
expr_or (Some x) = x

abbrev pub row_or : Option StmtRow → StmtRow
row_or None = record { at = nowhere; stmt = Noop }
row_or (Some x) = x

-- a condition that a While never evaluates
abbrev pub always : ExprKind → Bool
always (HostCode c) = false
always UnitExpr = true
always False = false
always True = true

abbrev pub access_for : Bool → Access
access_for true = Constant
access_for false = ReadWrite

module _ {S V : Type 0} (m : HostMeaning S V) (resolver : ℕ → Resolved) (s : List ℕ) where
  abbrev pub expr_of : ℕ → ExprRow
  expr_of e = expr_or (expr_at s e)

  abbrev pub worth : Position → ExprKind → Doing V V
  worth at (HostCode c) = do
    r ← does (ask c)
    answered at r
  worth at UnitExpr = give m.unit
  worth at False = give (m.make_truth false)
  worth at True = give (m.make_truth true)

  -- one charge at the expression's position, then its value
  abbrev pub evaluate : ℕ → Doing V V
  evaluate e = do
    pays (expr_of e).at
    worth (expr_of e).at (expr_of e).kind

  abbrev pub optional : Option ℕ → Doing V V
  optional None = give m.unit
  optional (Some e) = evaluate e

  abbrev pub condition : ℕ → Doing V Bool
  condition e = do
    v ← evaluate e
    known (expr_of e).at (m.truth v)

  -- the value that an assignment stores
  abbrev pub combined : Position → Option ℕ → V → V → Doing V V
  combined at None old v = give v
  combined at (Some o) old v =
      operated at (operated at (fails (fault.NoOperator o) at) (m.binary o old v)) (m.apply o old v)

  abbrev pub iterable : Position → Item V → Doing V (Unit {0})
  iterable at (Ok (Some v)) = give tt
  iterable at (Err (no_item.Fault f)) = give tt
  iterable at (Ok None) = give tt
  iterable at (Err no_item.NotIterable) = fails fault.NotIterable at

  -- the names of a For: its counter, if it has one, and its variable
  abbrev pub for_names : Name → Option Name → List (VarRow V)
  for_names n None = variable (rule_name n) ReadWrite m.unit ∷ []
  for_names n (Some c) = variable (rule_name c) ReadWrite (m.make_whole 0) ∷ variable (rule_name n) ReadWrite m.unit ∷ []

  abbrev pub for_room : Option Name → ℕ
  for_room None = 1
  for_room (Some c) = 2

  -- an item sets them
  abbrev pub for_values : Option Name → ℕ → V → List V
  for_values None i v = v ∷ []
  for_values (Some c) i v = m.make_whole i ∷ v ∷ []

  -- a round by its item: the end gives unit, and a faulty item ends the loop with its fault
  abbrev pub for_turn : Position → Option Name → ℕ → Item V → Turn V
  for_turn here c i (Ok (Some v)) = sets (for_values c i v)
  for_turn here c i (Err (no_item.Fault f)) = over (failed (record { fault = fault.Host f.code f.catchable; at = at_or f.at here }))
  for_turn here c i (Ok None) = over (broke m.unit)
  for_turn here c i (Err no_item.NotIterable) = over (failed (record { fault = fault.NotIterable; at = here }))

  -- a condition that holds goes on; one that does not ends the loop with unit
  abbrev pub turned : Bool → Doing V V
  turned true = give m.unit
  turned false = ends (broke m.unit)

  -- `stmts` has the statements of a block, and `empty` says whether there are none
  module _ (stmts : Option ℕ → Tree V) (empty : Option ℕ → Bool) where
    -- an inner block; an empty one gives unit, uncharged
    abbrev pub run : Option ℕ → Tree V
    run p = cond (empty p) (done (value m.unit)) (inner (stmts p))

    -- a body that runs, or charges one if it is empty
    abbrev pub body : Bool → Position → Option ℕ → Doing V V
    body true at p = do
      pays at
      give m.unit
    body false at p = sub (run p)

    abbrev pub while_round : Bool → Position → ℕ → Option ℕ → Doing V V
    while_round true at e p = body (empty p) at p
    while_round false at e p = do
      b ← condition e
      turned b
      sub (run p)

    abbrev pub do_round : ℕ → Option ℕ → Bool → Doing V V
    do_round e p negated = do
      sub (run p)
      b ← condition e
      turned (cond negated (not b) b)

    -- a catch that throws unit returns the first fault, at the new position
    abbrev pub rethrown : Bool → Failure V → Failure V → Failure V
    rethrown true first second = record { fault = first.fault; at = second.at }
    rethrown false first second = second

    abbrev pub caught_end : Failure V → Out V → Doing V V
    caught_end f (value v) = give m.unit
    caught_end f (failed g) = ends (failed (rethrown (throws_unit m.is_unit g.fault) f g))
    caught_end f (broke v) = ends (broke v)
    caught_end f again = ends again
    caught_end f (returned v) = ends (returned v)
    caught_end f (exited p v) = ends (exited p v)

    -- the handler, over the name that it binds
    abbrev pub handler : Position → Option Name → Option ℕ → Failure V → Doing V (Out V)
    handler at None q f = outcome (run q)
    handler at (Some n) q f = do
      b ← does (room 1)
      roomy at b
      outcome (cond (empty q) (done (value m.unit)) (binding (variable (rule_name n) ReadWrite (told m.unit m.caught f.fault)) (stmts q)))

    abbrev pub handled : Bool → Position → Option Name → Option ℕ → Failure V → Doing V V
    handled false at n q f = ends (failed f)
    handled true at n q f = do
      o ← handler at n q f
      caught_end f o

    abbrev pub tried : Position → Option Name → Option ℕ → Out V → Doing V V
    tried at n q (value v) = give v
    tried at n q (failed f) = handled (catchable f.fault) at n q f
    tried at n q (broke v) = ends (broke v)
    tried at n q again = ends again
    tried at n q (returned v) = ends (returned v)
    tried at n q (exited p v) = ends (exited p v)

    -- a new variable, or new value and access for one that is there
    abbrev pub declared : Position → Place → Access → ℕ → Option ℕ → Doing V V
    declared at name a e None = do
      b ← does (room 1)
      roomy at b
      v ← evaluate e
      c ← does (room 1)
      roomy at c
      does (declare (variable name a v))
      give m.unit
    declared at name a e (Some r) = do
      v ← evaluate e
      f ← does (find name (Some r))
      t ← target at name f
      does (redeclare t.0 a v)
      give m.unit

    abbrev pub begun : Position → Stmt → Doing V V
    begun at Noop = give m.unit
    begun at (Expr e) = evaluate e
    begun at (Block p) = sub (run p)
    begun at (Assignment n e o r) = do
      v ← evaluate e
      pays at
      f ← does (find (rule_name n) r)
      t ← target at (rule_name n) f
      writable at (rule_name n) t.1.access
      w ← combined at o t.1.value v
      does (store t.0 w)
      give m.unit
    begun at (Var n e r c) = do
      a ← does (permit (rule_name n) (access_for c))
      permitted at (rule_name n) a
      declared at (rule_name n) (access_for c) e r
    begun at (If e p q) = do
      b ← condition e
      sub (run (cond b p q))
    begun at (While e p) = sub (rounds (alone (while_round (always (expr_of e).kind) at e p)))
    begun at (Do e p n) = sub (rounds (alone (do_round e p n)))
    begun at (For n c e p) = do
      b ← does (room (for_room c))
      roomy at b
      v ← evaluate e
      iterable (expr_of e).at (m.item v 0)
      b ← does (room (for_room c))
      roomy at b
      sub (items (for_names n c) (λ i. for_turn (expr_of e).at c i (m.item v i)) (empty p) at (stmts p))
    begun at (BreakLoop e b) = do
      v ← optional e
      ends (left b v)
    begun at (TryCatch p q n) = do
      o ← outcome (run p)
      tried at n q o
    begun at (Return e t) = do
      v ← optional e
      ends (gone at t v)
    begun at (Import e n) = do
      b ← does another
      loadable at b
      v ← evaluate e
      p ← path_of (expr_of e).at (m.path v)
      k ← resolves (expr_of e).at p (resolver p)
      does (load (rule_name_or n) k)
      give m.unit

    -- a statement first charges one
    abbrev pub exec : StmtRow → Tree V
    exec x = alone do
      pays x.at
      begun x.at x.stmt

    -- n statements from row j on; the value is the last one's
    abbrev pub in_order : V → ℕ → ℕ → Tree V
    in_order v j zero = done (value v)
    in_order v j (suc n) = seq (exec (row_or (stmt_at s j))) (λ o. pass o done (λ w. in_order w (suc j) n))

    abbrev pub block_stmts : Option ℕ → Tree V
    block_stmts None = done (value m.unit)
    block_stmts (Some b) = in_order m.unit (block s b).first (block s b).count

  -- whether a block has no statements; one below the deepest level reads as empty
  abbrev pub empty_at : ℕ → Option ℕ → Bool
  empty_at zero p = true
  empty_at (suc d) None = true
  empty_at (suc d) (Some b) = (block s b).count == 0

  -- the statements of a block, with d levels of blocks
  abbrev pub levels : ℕ → Option ℕ → Tree V
  levels zero p = done (value m.unit)
  levels (suc d) p = block_stmts (levels d) (empty_at d) p

  -- the whole rule: block 0, which puts nothing back
  unfoldable pub whole : Tree V
  whole = levels deepest (Some 0)
