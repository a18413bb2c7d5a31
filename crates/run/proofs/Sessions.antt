-- what a session promises
use Rattle.std.proofs.Common.{◌≡◌, ℕ, ◌+◌, ◌≤◌, Bool, true, false, eqb, leb, ◌⊎◌, List, [], ◌∷◌, ◌++◌, map, length, take, drop, is_ok, Some, None, Ok, Option, Result, sym, refl, ap, ◌∙◌, subst, inl, inr, arith}
use Rattle.std.proofs.lemmas.List.{length-take, take-take, take-append-le, take_min}
use Rattle.std.proofs.lemmas.Bool.{false≢true, or_parts, ltb-false, leb-false}
use Rattle.std.proofs.lemmas.Option.{none-some, same_Some}
use Rattle.image.specs.Layouts.{headed, counted as sized}
use Rattle.image.specs.declared.refusal.Refusal.{Refusal}
use Rattle.image.specs.declared.refusal.Refusal.TheVariants.{Header, Counts, Blocks, Rows as BadRows, Naming, Nesting, StrayBreak}
use Rattle.checks.specs.Rules.{in_order, all_sound, named_once}
use Rattle.rule.specs.Checked.{checked, quote, unless}
use Rattle.rule.specs.Tree.{deepest, within, contained, block_quote}
use Rattle.rows.specs.Rows.{in_use}
use Rattle.names.specs.Lists.{shortened}
use Rattle.host.specs.Meaning.{HostMeaning, HostLaws, place_of}
use Rattle.resolve.specs.Answers.{Resolved}
use Rattle.outcome.specs.declared.RunFault.{RunFault}
use Rattle.outcome.specs.declared.RunFault.TheVariants.{NotAllowed, TooManyNames, WrongKind, NotIterable, NoSuchName, NoSuchIndex, ConstantTarget, NoOperator, TooManyModules, NoModule, Resolver, Thrown, Host}
use Rattle.outcome.specs.declared.SessionRefusal.{SessionRefusal}
use Rattle.outcome.specs.declared.SessionRefusal.TheVariants.{Rows, Name, Full}
use Rattle.outcome.specs.Faults.{number}
use Rattle.run.specs.Acts.{value, failed, broke, again, returned, exited}
use Rattle.run.specs.Promise.{stopped_run, stops, Within, Holds, Each, Agree, Promise}
use Rattle.run.specs.Says.{cut, After, appended_at}
use Rattle.run.specs.Session.{many_rounds, Lent, Call, put, read, rewind, run, got, count_of, Terms, outcome_of, World, Entry, short, nameless, setting, start, runs, refusing, last_value, site_name, putting, rewinding, call, calls, opened, ended', same}
use Rattle.run.specs.Statements.{whole}
use Rattle.run.specs.Walk.{End, stopped, ended, State, Done, walk}
use Rattle.run.proofs.Counts.{counted}
use Rattle.run.proofs.EachKind.{Bound, good_whole}
use Rattle.run.proofs.Limits.{Same, limits}
use Rattle.run.proofs.Names.{Fit, keeps}
use Rattle.run.proofs.Rows.{cut-used}

not_twelve : {V : Type 0} (f : RunFault V) → eqb (number f) 12 ≡ false
not_twelve (NotAllowed p) = refl
not_twelve TooManyNames = refl
not_twelve WrongKind = refl
not_twelve NotIterable = refl
not_twelve (NoSuchName p) = refl
not_twelve NoSuchIndex = refl
not_twelve (ConstantTarget p) = refl
not_twelve (NoOperator o) = refl
not_twelve TooManyModules = refl
not_twelve (NoModule p) = refl
not_twelve (Resolver c t) = refl
not_twelve (Thrown v) = refl
not_twelve (Host c t) = refl

-- 12 is the number of the runs that were stopped for operations, and of no others
stopped_is : {V : Type 0} (unit : V) (exit : Bool) (e : End V) → stopped_run (outcome_of unit exit e) ≡ cut e
stopped_is unit exit (stopped p) = refl
stopped_is unit exit (ended (value v)) = refl
stopped_is unit exit (ended (failed f)) = not_twelve f.fault
stopped_is unit exit (ended (broke v)) = refl
stopped_is unit exit (ended again) = refl
stopped_is unit exit (ended (returned v)) = refl
stopped_is unit true (ended (exited p v)) = refl
stopped_is unit false (ended (exited p v)) = refl

-- the first rows of a table, laid over it again
laid-used : {A : Type 0} (n k : ℕ) (rows table : List A) → k ≤ length rows → in_use (rows ++ drop n table) k ≡ in_use rows k
laid-used n k rows table le = take_min k (rows ++ drop n table) ∙ take-append-le k rows (drop n table) le ∙ sym (take_min k rows)

lent_used : {A : Type 0} (n k : ℕ) (table : List A) → k ≤ length (take n table) → in_use (take n table) k ≡ in_use table k
lent_used n k table le = take_min k (take n table) ∙ take-take k n table (omega (arith, length-take n table)) ∙ sym (take_min k table)

-- an answer that went through a test
through : (b : Bool) (r : Refusal) (a : Result (Option ℕ) Refusal) (x : Option ℕ) → unless b r a ≡ Ok x → a ≡ Ok x
through true r a x e = e
through false r a x e = absurd (false≢true (ap is_ok e))

-- what the check answers is the quote
quote_of : (s : List ℕ) (q : Option ℕ) → checked s ≡ Ok q → quote s ≡ q
quote_of s q e =
    let a = through (headed s) Header _ q e in
    let b = through (sized s) Counts _ q a in
    let c = through (in_order s) Blocks _ q b in
    let d = through (all_sound s) BadRows _ q c in
    let f = through (named_once s) Naming _ q d in
    let g = through (within s deepest 0) Nesting _ q f in
    let h = through (contained s deepest 0) StrayBreak _ q g in
    cc h

module _ {S V W : Type 0} (m : HostMeaning S V) (laws : HostLaws m) (idle : W) (resolver : ℕ → Resolved) (t : Terms) where
  -- enough rows are lent
  lent_rows : (l : Lent) (u : World S V W) → short m idle resolver t l u ≡ false → t.names + 2 ≤ length (take l.vars u.vars)
  lent_rows l u e = ltb-false (length (take l.vars u.vars)) (t.names + 2) (or_parts _ _ e).0

  fits : (l : Lent) (u : World S V W) → u.names ≤ t.names → short m idle resolver t l u ≡ false → Fit m (setting m idle resolver t) (start m idle resolver t l u)
  fits l u le e = record { names = omega (arith, lent_rows l u e); imports = omega arith }

  bounded : (c : Option ℕ) (q limit : ℕ) (s : State S V) → Bound m (setting m idle resolver t) c (whole m resolver t.rule) → c ≡ Some q →
      (walk m (setting m idle resolver t) limit many_rounds (whole m resolver t.rule) s).state.count ≤ s.count + q
  unfolding Bound
  bounded None q limit s b e = absurd (none-some q e)
  bounded (Some n) q limit s b e = omega (arith, b limit many_rounds s, same_Some n q e)

  -- the count of one run
  run-within : (limit : ℕ) (l : Lent) (exit : Bool) (u : World S V W) → let e = runs m idle resolver t limit l exit u in Within t.rule limit (stops e.answer) (count_of e.answer)
  run-within limit l exit u =
      let w = setting m idle resolver t in
      let s = start m idle resolver t l u in
      let d = walk m w limit many_rounds (whole m resolver t.rule) s in
      record {
        counted = subst (λ b. After limit b d.state.count) (sym (stopped_is m.unit exit d.out)) (counted m w limit many_rounds (whole m resolver t.rule) s (omega arith));
        quoted = λ q z. omega (arith, bounded (block_quote t.rule deepest 0) q limit s (good_whole m w resolver t.rule).bound (quote_of t.rule (Some q) z));
      }

  -- its names and blocks
  run_holds : (limit : ℕ) (l : Lent) (exit : Bool) (u : World S V W) → u.names ≤ t.names → short m idle resolver t l u ≡ false →
      let e = runs m idle resolver t limit l exit u in Holds t e e.answer
  run_holds limit l exit u le e =
      let w = setting m idle resolver t in
      let s = start m idle resolver t l u in
      let d = walk m w limit many_rounds (whole m resolver t.rule) s in
      let k = keeps m w laws limit many_rounds (whole m resolver t.rule) s (fits l u le e) in
      record {
        appended =
            ap (map place_of) (laid-used l.vars d.state.names d.state.vars u.vars k.fit.names)
            ∙ k.appended
            ∙ ap (λ x. map place_of x ++ appended_at 0 d.log) (lent_used l.vars u.names u.vars (omega (arith, lent_rows l u e)));
        blocks = k.blocks;
        few = k.few le;
      }

  abbrev Fine : ℕ → Entry S V W → Type 0
  Fine limit e = Within t.rule limit (stops e.answer) (count_of e.answer) × Holds t e e.answer × (e.now.names ≤ t.names)

  -- a call that counts nothing
  nothing : (limit : ℕ) → Within t.rule limit false 0
  nothing limit = record { counted = omega arith; quoted = λ q z. omega arith }

  after : (b : Bool) (r : SessionRefusal) (limit : ℕ) (u : World S V W) (e : Entry S V W) → u.names ≤ t.names → (b ≡ false → Fine limit e) → Fine limit (refusing m idle resolver t b r u e)
  after true r limit u e le h = (nothing limit, refl, le)
  after false r limit u e le h = h refl

  -- each call, and that names stay within their limit
  call_fine : (limit : ℕ) (l : Lent) (c : Call V) (u : World S V W) → u.names ≤ t.names → Fine limit (call m idle resolver t limit l c u)
  call_fine limit l (put offset size v) u le =
      let made' = putting m idle resolver t l offset size v u in
      let full = leb t.names u.names in
      let none = nameless m idle resolver t offset size in
      after (short m idle resolver t l u) Rows limit u (refusing m idle resolver t none Name u (refusing m idle resolver t full Full u made')) le (λ s.
      after none Name limit u (refusing m idle resolver t full Full u made') le (λ n.
      after full Full limit u made' le (λ f.
      let few : u.names + 1 ≤ t.names = omega (arith, leb-false t.names u.names f) in (nothing limit, tt, few))))
  call_fine limit l (read offset size) u le =
      let e = same m idle resolver t u (got (last_value m idle resolver t l u (site_name m idle resolver t offset size))) in
      let none = nameless m idle resolver t offset size in
      after (short m idle resolver t l u) Rows limit u (refusing m idle resolver t none Name u e) le (λ s. after none Name limit u e le (λ n. (nothing limit, refl, le)))
  call_fine limit l (rewind n) u le =
      after (short m idle resolver t l u) Rows limit u (rewinding m idle resolver t l n u) le (λ s.
      let few : shortened (take l.vars u.vars) u.names n ≤ t.names =
      omega (arith, cut-used (take l.vars u.vars) u.names n (omega (arith, lent_rows l u s))) in
      (nothing limit, tt, few))
  call_fine limit l (run exit) u le =
      after (short m idle resolver t l u) Rows limit u (runs m idle resolver t limit l exit u) le (λ s. let h = run_holds limit l exit u le s in (run-within limit l exit u, h, h.few))

  each_fine : (limit : ℕ) (cs : List (Lent × Call V)) (u : World S V W) → u.names ≤ t.names → Each t limit (calls m idle resolver t limit cs u)
  unfolding calls
  each_fine limit [] u le = tt
  each_fine limit (c ∷ cs) u le =
      let h = call_fine limit c.0 c.1 u le in
      (h.0, h.1, each_fine limit cs (call m idle resolver t limit c.0 c.1 u).now h.2)

  -- two limits of operations
  module _ (low high : ℕ) (le : low ≤ high) where
    Alike : Entry S V W → Entry S V W → Type 0
    Alike e f = (stops e.answer ≡ true) ⊎ (e ≡ f)

    run-alike : (b : Bool) (l : Lent) (exit : Bool) (u : World S V W) → Alike (refusing m idle resolver t b Rows u (runs m idle resolver t low l exit u)) (refusing m idle resolver t b Rows u (runs m idle resolver t high l exit u))
    unfolding Alike Same
    run-alike true l exit u = inr refl
    run-alike false l exit u =
        elim (limits m (setting m idle resolver t) low high many_rounds le (whole m resolver t.rule) (start m idle resolver t l u)) [
          | inl stop ↦ inl (stopped_is m.unit exit _ ∙ stop)
          | inr same' ↦ inr (ap (λ (d : Done S V (End V)). ended' m idle resolver t l exit u d) same')
        ]

    call-alike : (l : Lent) (c : Call V) (u : World S V W) → Alike (call m idle resolver t low l c u) (call m idle resolver t high l c u)
    unfolding Alike
    call-alike l (put offset size v) u = inr refl
    call-alike l (read offset size) u = inr refl
    call-alike l (rewind n) u = inr refl
    call-alike l (run exit) u = run-alike (short m idle resolver t l u) l exit u

    agree : (cs : List (Lent × Call V)) (u : World S V W) → Agree (calls m idle resolver t low cs u) (calls m idle resolver t high cs u)
    unfolding calls Alike
    agree [] u = tt
    agree (c ∷ cs) u =
        let e = call m idle resolver t low c.0 c.1 u in
        elim (call-alike c.0 c.1 u) [
          | inl stop ↦ inl stop
          | inr same' ↦ inr (same', subst (λ (x : Entry S V W). Agree (calls m idle resolver t low cs e.now) (calls m idle resolver t high cs x.now)) same' (agree cs e.now))
        ]

pub promise : {S V : Type 0} (W : Type 0) (m : HostMeaning S V) (laws : HostLaws m) (resolver : ℕ → Resolved) → Promise W m resolver
promise W m laws resolver idle t l host vars imports working law open' high le cs =
    let u = opened m idle resolver t l host vars imports working in
    (each_fine m laws idle resolver t t.operations cs u (omega arith), agree m laws idle resolver t t.operations high le cs u)
