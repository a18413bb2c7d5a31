-- names are those before, then those that a let or the host appended at the level; inner blocks end as they began
use Rattle.std.proofs.Common.{◌≡◌, ℕ, suc, ◌+◌, ◌<◌, ◌≤◌, Bool, true, false, cond, ltb, List, [], ◌∷◌, ◌++◌, map, length, get_or, take, drop, set, sym, refl, ap, ap₂, ◌∙◌, subst, arith, take-append-drop}
use Rattle.std.proofs.lemmas.List.{append-nil, append_assoc, length-append, length-map, length-set, map-append, take-map, take-take, take_at, take_min, take-set}
use Rattle.std.proofs.lemmas.Bool.{false≢true, ltb-true}
use Rattle.std.proofs.Math.Seq.{map-set_same}
use Rattle.rows.specs.declared.import.ImportRow.{ImportRow}
use Rattle.rows.specs.declared.place.Place.{Place}
use Rattle.rows.specs.declared.variable.VarRow.{VarRow}
use Rattle.rows.specs.declared.variable.Access.TheVariants.{ReadWrite}
use Rattle.rows.specs.Rows.{in_use, revalued, redeclared, blank_variable, import, blank_import}
use Rattle.host.specs.Meaning.{HostMeaning, HostLaws, Grown, Step, place_of}
use Rattle.host.proofs.Steps.{length_in_use}
use Rattle.run.specs.Acts.{By, letting, evaluating, allowing, Act, ask, permit, room, declare, find, store, redeclare, another, load, Tree}
use Rattle.run.specs.Says.{lasting, appended_at, BlocksKeep}
use Rattle.run.specs.Walk.{Frame, Event, block, Setting, State, frame, charged, perform, hosted, sees, most, changed, pushed, push, push_all, set_all, cut_names, enter, leave, loaded, walk}
use Rattle.run.proofs.Every.{Kept, every}
use Rattle.run.proofs.Logs.{Deep, deep_join, deep-less, appended_join, appended_deeper, blocks_join, called-deep, called-blocks, called-appended, not_lasting}
use Rattle.run.proofs.Rows.{cut-length, cut-used, cut-rows, one_more, over-length, over-used}

module _ {S V : Type 0} (m : HostMeaning S V) (w : Setting) where
  abbrev pub places : State S V → List Place
  places s = map place_of (in_use s.vars s.names)

  -- no more rows are in use than there are
  pub record Fit (s : State S V) : Type 0 where
    pub names : s.names ≤ length s.vars
    pub imports : s.bound ≤ length s.imports

  -- from s to r
  pub record Keeps (s r : State S V) (log : List Event) : Type 0 where
    pub fit : Fit r
    pub few : s.names ≤ w.names → r.names ≤ w.names
    pub wide : length r.vars ≡ length s.vars
    pub broad : length r.imports ≡ length s.imports
    pub level : r.level ≡ s.level
    pub appended : places r ≡ places s ++ appended_at s.level log
    pub bound : s.bound ≤ r.bound
    pub imported : take s.bound r.imports ≡ take s.bound s.imports
    pub deep : Deep s.level log
    pub blocks : BlocksKeep log

  count-places : (s : State S V) → Fit s → length (places s) ≡ s.names
  count-places s f = omega (arith, length-map (in_use s.vars s.names) place_of, length_in_use s.vars s.names, f.names)

  -- nothing happens, or only to what is not looked at
  same : (s r : State S V) → Fit s → length r.vars ≡ length s.vars → r.names ≡ s.names → r.level ≡ s.level → places r ≡ places s → r.imports ≡ s.imports → r.bound ≡ s.bound → Keeps s r []
  same s r f wide names level same-places imports bound = record {
    fit = record { names = omega (arith, f.names); imports = omega (arith, f.imports, ap length imports) };
    few = λ le. omega arith;
    wide = wide;
    broad = ap length imports;
    level = level;
    appended = same-places ∙ sym (append-nil (places s));
    bound = omega arith;
    imported = ap (take s.bound) imports;
    deep = tt;
    blocks = tt;
  }

  idle : (s : State S V) → Fit s → Keeps s s []
  idle s f = same s s f refl refl refl refl refl refl

  paid-keeps : (s : State S V) → Fit s → Keeps s (charged m w s) []
  paid-keeps s f = same s (charged m w s) f refl refl refl refl refl refl

  entered : (s : State S V) → Fit s → Fit (enter m w s)
  entered s f = record { names = f.names; imports = f.imports }

  joined : (s r q : State S V) (l n : List Event) → Keeps s r l → Keeps r q n → Keeps s q (l ++ n)
  joined s r q l n a b = record {
    fit = b.fit;
    few = λ le. b.few (a.few le);
    wide = b.wide ∙ a.wide;
    broad = b.broad ∙ a.broad;
    level = b.level ∙ a.level;
    appended =
        b.appended ∙ ap (λ x. x ++ appended_at r.level n) a.appended ∙ append_assoc (places s) (appended_at s.level l) (appended_at r.level n)
        ∙ ap (λ k. places s ++ (appended_at s.level l ++ appended_at k n)) a.level ∙ ap (λ x. places s ++ x) (sym (appended_join s.level l n));
    bound = omega (arith, a.bound, b.bound);
    imported = further s.bound r.bound q.imports r.imports a.bound b.imported ∙ a.imported;
    deep = deep_join s.level l n a.deep (subst (λ k. Deep k n) a.level b.deep);
    blocks = blocks_join l n a.blocks b.blocks;
  }
    where
      further : (i j : ℕ) (xs ys : List ImportRow) → i ≤ j → take j xs ≡ take j ys → take i xs ≡ take i ys
      further i j xs ys le e = sym (take-take i j xs le) ∙ ap (take i) e ∙ take-take i j ys le

  names_rise : (s r : State S V) (log : List Event) → Fit s → Keeps s r log → s.names ≤ r.names
  names_rise s r log f k =
      omega (arith, count-places s f, count-places r k.fit, ap length k.appended, length-append (places s) (appended_at s.level log))

  -- the names of the rows in use, cut to those of s
  cut-places : (s r : State S V) (log : List Event) → Fit s → Keeps s r log → map place_of (take s.names r.vars) ≡ places s
  cut-places s r log f k =
      ap (map place_of) (sym (take-take s.names r.names r.vars (names_rise s r log f k))) ∙ sym (take-map place_of s.names (take r.names r.vars))
      ∙ ap (λ x. take s.names (map place_of x)) (sym (take_min r.names r.vars)) ∙ ap (take s.names) k.appended ∙ take_at (places s) (appended_at s.level log) s.names (count-places s f)

  same-frame : (a b : List Place) (i j : List ImportRow) (level : ℕ) (mark : Bool) → a ≡ b → i ≡ j →
      ◌≡◌ {A = Frame} (record { names = a; imports = i; level = level; mark = mark }) (record { names = b; imports = j; level = level; mark = mark })
  same-frame a b i j level mark p q =
      ap₂ (λ x y. record { names = x; imports = y; level = level; mark = mark }) p q

  -- the end of an inner block
  left-places : (s r : State S V) (l : List Event) → Fit s → Keeps (enter m w s) r l → places (leave m w s r) ≡ places s
  left-places s r l f k =
      ap (map place_of) (cut-rows (blank_variable m.unit) r.vars r.names s.names k.fit.names (names_rise (enter m w s) r l (entered s f) k))
      ∙ cut-places (enter m w s) r l (entered s f) k

  left-imports : (s r : State S V) (l : List Event) → Fit s → Keeps (enter m w s) r l → in_use (leave m w s r).imports (leave m w s r).bound ≡ in_use s.imports s.bound
  left-imports s r l f k =
      cut-rows blank_import r.imports r.bound s.bound k.fit.imports k.bound ∙ k.imported ∙ sym (take_min s.bound s.imports)

  leaves : (s r : State S V) (l : List Event) → Fit s → Keeps (enter m w s) r l →
      Keeps s (leave m w s r) (l ++ (block (frame m w s) (frame m w (leave m w s r)) ∷ []))
  leaves s r l f k =
      let wide = cut-length (blank_variable m.unit) r.vars r.names s.names k.fit.names in
      let broad = cut-length blank_import r.imports r.bound s.bound k.fit.imports in
      let names = cut-used r.vars r.names s.names k.fit.names in
      let bound = cut-used r.imports r.bound s.bound k.fit.imports in
      let noted = block (frame m w s) (frame m w (leave m w s r)) ∷ [] in
      record {
        fit = record { names = omega (arith, f.names, k.wide); imports = omega (arith, f.imports, k.broad) };
        few = λ le. omega arith;
        wide = wide ∙ k.wide;
        broad = broad ∙ k.broad;
        level = refl;
        appended =
            left-places s r l f k ∙ sym (append-nil (places s))
            ∙ ap (λ x. places s ++ x) (sym (appended_join s.level l noted ∙ append-nil (appended_at s.level l) ∙ appended_deeper s.level l k.deep));
        bound = omega (arith, k.bound);
        imported =
            ap (λ n. take n (leave m w s r).imports) (omega (arith, k.bound))
            ∙ sym (take_min (leave m w s r).bound (leave m w s r).imports)
            ∙ left-imports s r l f k ∙ take_min s.bound s.imports;
        deep = deep_join s.level l noted (deep-less s.level l k.deep) tt;
        blocks = blocks_join l noted k.blocks (same-frame _ _ _ _ s.level s.mark (left-places s r l f k) (left-imports s r l f k), tt);
      }

  -- a step of the host
  hosted-keeps : {A : Type 0} (by : By) (s : State S V) (e : Step S V A) → lasting by ≡ true → Grown (most m w s) (in_use s.vars s.names) e.rows → Fit s →
      Keeps s (hosted m w by s e).state (hosted m w by s e).log
  hosted-keeps by s e last g f =
      let n : length (in_use s.vars s.names) ≡ s.names = omega (arith, length_in_use s.vars s.names, f.names) in
      let room : length e.rows ≤ length s.vars = omega (arith, g.limited, f.names) in
      record {
        fit = record { names = omega (arith, over-length e.rows s.vars room); imports = f.imports };
        few = λ le. omega (arith, g.limited);
        wide = over-length e.rows s.vars room;
        broad = refl;
        level = refl;
        appended =
            ap (map place_of) (over-used e.rows s.vars) ∙ ap (map place_of) (sym (take-append-drop s.names e.rows))
            ∙ map-append place_of (take s.names e.rows) (drop s.names e.rows)
            ∙ ap (λ x. x ++ map place_of (drop s.names e.rows)) (ap (λ k. map place_of (take k e.rows)) (sym n) ∙ g.places)
            ∙ ap (λ x. places s ++ x) (sym (called-appended s.level by place_of last (drop s.names e.rows)));
        bound = omega arith;
        imported = refl;
        deep = called-deep s.level by place_of (drop s.names e.rows);
        blocks = called-blocks s.level by place_of (drop s.names e.rows);
      }

  -- a row that is changed keeps its name
  changed-keeps : (s : State S V) (i : ℕ) (g : VarRow V → VarRow V) → ((r : VarRow V) → place_of (g r) ≡ place_of r) → Fit s → Keeps s (changed m w s i g) []
  changed-keeps s i g h f =
      let old = get_or s.vars i (blank_variable m.unit) in
      let rows = set s.vars i (g old) in
      same s (changed m w s i g) f (length-set s.vars i (g old)) refl refl
      (ap (map place_of) (take_min s.names rows) ∙ sym (take-map place_of s.names rows)
      ∙ ap (take s.names) (map-set_same place_of s.vars i (g old) (blank_variable m.unit) (h old))
      ∙ take-map place_of s.names s.vars ∙ ap (map place_of) (sym (take_min s.names s.vars)))
      refl refl

  -- what an append leaves
  pub record Pushes (s r : State S V) (by : By) (log : List Event) : Type 0 where
    pub fit : Fit r
    pub few : s.names ≤ w.names → r.names ≤ w.names
    pub wide : length r.vars ≡ length s.vars
    pub level : r.level ≡ s.level
    pub imports : r.imports ≡ s.imports
    pub bound : r.bound ≡ s.bound
    pub more : (own : List Place) × (places r ≡ places s ++ own) × (lasting by ≡ true → own ≡ appended_at s.level log) × (lasting by ≡ false → appended_at s.level log ≡ [])
    pub deep : Deep s.level log
    pub blocks : BlocksKeep log

  pushes_none : (by : By) (s : State S V) → Fit s → Pushes s s by []
  pushes_none by s f = record {
    fit = f;
    few = λ le. le;
    wide = refl;
    level = refl;
    imports = refl;
    bound = refl;
    more = ([], sym (append-nil (places s)), (λ last. refl), (λ short. refl));
    deep = tt;
    blocks = tt;
  }

  pushes : (b : Bool) (by : By) (r : VarRow V) (s : State S V) → ltb s.names (most m w s) ≡ b → Fit s → Pushes s (pushed m w b by r s).state by (pushed m w b by r s).log
  pushes true by r s e f =
      let lt : s.names < length s.vars = omega (arith, ltb-true s.names (most m w s) e) in
      record {
        fit = record { names = omega (arith, length-set s.vars s.names r); imports = f.imports };
        few = λ le. omega (arith, ltb-true s.names (most m w s) e);
        wide = length-set s.vars s.names r;
        level = refl;
        imports = refl;
        bound = refl;
        more = (
          place_of r ∷ [],
          ap (map place_of) (one_more s.vars s.names r lt) ∙ map-append place_of (in_use s.vars s.names) (r ∷ []),
          (λ last. sym (called-appended s.level by place_of last (r ∷ []))),
          (λ short. not_lasting s.level s.level by (place_of r) short),
        );
        deep = (omega arith, tt);
        blocks = tt;
      }
  pushes false by r s e f = pushes_none by s f

  declares : (r : VarRow V) (s : State S V) → Fit s → Keeps s (push m w letting r s).state (push m w letting r s).log
  declares r s f =
      let p = pushes (ltb s.names (most m w s)) letting r s refl f in
      record {
        fit = p.fit;
        few = p.few;
        wide = p.wide;
        broad = ap length p.imports;
        level = p.level;
        appended = p.more.1 ∙ ap (λ x. places s ++ x) (p.more.2 refl);
        bound = omega (arith, p.bound);
        imported = ap (take s.bound) p.imports;
        deep = p.deep;
        blocks = p.blocks;
      }

  -- several names that will go again
  push_alls : (by : By) (rows : List (VarRow V)) (s : State S V) → lasting by ≡ false → Fit s → Pushes s (push_all m w by rows s).state by (push_all m w by rows s).log
  push_alls by [] s short f = pushes_none by s f
  push_alls by (r ∷ rs) s short f =
      let p = pushes (ltb s.names (most m w s)) by r s refl f in
      let d = push m w by r s in
      let q = push_alls by rs d.state short p.fit in
      let log = (push_all m w by rs d.state).log in
      record {
        fit = q.fit;
        few = λ le. q.few (p.few le);
        wide = q.wide ∙ p.wide;
        level = q.level ∙ p.level;
        imports = q.imports ∙ p.imports;
        bound = q.bound ∙ p.bound;
        more = (
          p.more.0 ++ q.more.0,
          q.more.1 ∙ ap (λ x. x ++ q.more.0) p.more.1 ∙ append_assoc (places s) p.more.0 q.more.0,
          (λ last. absurd (false≢true (sym short ∙ last))),
          (λ short'. appended_join s.level d.log log ∙ ap (λ x. x ++ appended_at s.level log) (p.more.3 short')
              ∙ ap (λ k. appended_at k log) (sym p.level) ∙ q.more.3 short'),
        );
        deep = deep_join s.level d.log log p.deep (subst (λ k. Deep k log) p.level q.deep);
        blocks = blocks_join d.log log p.blocks q.blocks;
      }

  -- one import more
  loads : (b : Bool) (s : State S V) (x : ImportRow) → ltb s.bound (length s.imports) ≡ b → Fit s →
      let rows = cond b (set s.imports s.bound x) s.imports in
      let n = cond b (s.bound + 1) s.bound in
      (n ≤ length rows) × (length rows ≡ length s.imports) × (s.bound ≤ n) × (take s.bound rows ≡ take s.bound s.imports)
  loads true s x e f =
      let wide = length-set s.imports s.bound x in
      (omega (arith, ltb-true s.bound (length s.imports) e), wide, omega arith, take-set s.imports s.bound x)
  loads false s x e f = (f.imports, refl, omega arith, refl)

  loads_keep : (b : Bool) (p : Place) (n : ℕ) (s : State S V) → Fit s → Keeps s (loaded m w b p n s) []
  loads_keep true p n s f =
      let l = loads (ltb s.bound (length s.imports)) s (import p n) refl f in
      record {
        fit = record { names = f.names; imports = l.0 };
        few = λ le. le;
        wide = refl;
        broad = l.1;
        level = refl;
        appended = sym (append-nil (places s));
        bound = l.2;
        imported = l.3;
        deep = tt;
        blocks = tt;
      }
  loads_keep false p n s f = idle s f

  module _ (laws : HostLaws m) where
    acts : (a : Act V) (s : State S V) → Fit s → Keeps s (perform m w a s).state (perform m w a s).log
    acts (ask c) s f = hosted-keeps evaluating s (m.evaluate s.host c (sees m w s)) refl (laws.evaluates s.host c (sees m w s)) f
    acts (permit p a) s f = hosted-keeps allowing s (m.allow s.host _ (sees m w s)) refl (laws.allows s.host _ (sees m w s)) f
    acts (room k) s f = idle s f
    acts (declare r) s f = declares r s f
    acts (find p i) s f = idle s f
    acts (store i v) s f = changed-keeps s i (λ r. revalued r v) (λ r. refl) f
    acts (redeclare i a v) s f = changed-keeps s i (λ r. redeclared r a v) (λ r. refl) f
    acts another s f = idle s f
    acts (load p n) s f = loads_keep (ltb s.loaded w.modules) p n s f

    sets : (i : ℕ) (vs : List V) (s : State S V) → Fit s → Keeps s (set_all m w i vs s) []
    sets i [] s f = idle s f
    sets i (v ∷ vs) s f =
        let k = changed-keeps s i (λ r. redeclared r ReadWrite v) (λ r. refl) f in
        joined s (changed m w s i (λ r. redeclared r ReadWrite v)) _ [] [] k (sets (suc i) vs _ k.fit)

    abbrev P : State S V → Bool → State S V → List Event → Type 0
    P s b r log = Fit s → Keeps s r log

    -- over names of their own nothing is declared at the level itself
    abbrev R : State S V → Bool → State S V → List Event → Type 0
    R s b r log = Fit s → Keeps s r log × Deep (suc s.level) log

    -- names of their own go
    goes : (by : By) (rows : List (VarRow V)) (s r : State S V) (log : List Event) → lasting by ≡ false → Fit s →
        Keeps (push_all m w by rows s).state r log → Deep (suc (push_all m w by rows s).state.level) log →
        Keeps s (cut_names m w s.names r) ((push_all m w by rows s).log ++ log)
    goes by rows s r log short f k deep =
        let d = push_all m w by rows s in
        let p = push_alls by rows s short f in
        let up : s.names ≤ d.state.names = omega (arith, count-places s f, count-places d.state p.fit, ap length p.more.1, length-append (places s) p.more.0) in
        let rise = names_rise d.state r log p.fit k in
        let wide = cut-length (blank_variable m.unit) r.vars r.names s.names k.fit.names in
        let names = cut-used r.vars r.names s.names k.fit.names in
        let inside = subst (λ n. Deep (suc n) log) p.level deep in
        record {
          fit = record { names = omega (arith, f.names, k.wide, p.wide); imports = k.fit.imports };
          few = λ le. omega arith;
          wide = wide ∙ k.wide ∙ p.wide;
          broad = k.broad ∙ ap length p.imports;
          level = k.level ∙ p.level;
          appended =
              ap (map place_of) (cut-rows (blank_variable m.unit) r.vars r.names s.names k.fit.names (omega arith))
              ∙ ap (map place_of) (sym (take-take s.names d.state.names r.vars up)) ∙ sym (take-map place_of s.names (take d.state.names r.vars))
              ∙ ap (take s.names) (cut-places d.state r log p.fit k ∙ p.more.1) ∙ take_at (places s) p.more.0 s.names (count-places s f)
              ∙ sym (append-nil (places s))
              ∙ ap (λ x. places s ++ x) (sym (appended_join s.level d.log log ∙ ap (λ x. x ++ appended_at s.level log) (p.more.3 short) ∙ appended_deeper s.level log inside));
          bound = omega (arith, p.bound, k.bound);
          imported = ap (λ n. take n r.imports) (sym p.bound) ∙ k.imported ∙ ap (λ n. take n d.state.imports) p.bound ∙ ap (take s.bound) p.imports;
          deep = deep_join s.level d.log log p.deep (deep-less s.level log inside);
          blocks = blocks_join d.log log p.blocks k.blocks;
        }

    module _ (limit many : ℕ) where
      names_kept : Kept m w limit many P R
      names_kept = record {
        flow = record {
          idle = idle;
          pays = λ s lt f. paid-keeps s f;
          spends = λ s le f. paid-keeps s f;
          joins = λ s r q b l n h g f. let k = h f in joined s r q l n k (g k.fit);
        };
        flow_own = record {
          idle = λ s f. (idle s f, tt);
          pays = λ s lt f. (paid-keeps s f, tt);
          spends = λ s le f. (paid-keeps s f, tt);
          joins = λ s r q b l n h g f.
              let k = h f in
              let j = g k.0.fit in
              (joined s r q l n k.0 j.0, deep_join (suc s.level) l n k.1 (subst (λ x. Deep (suc x) n) k.0.level j.1));
        };
        acts = acts;
        blocks = λ s b r l h f. leaves s r l f (h (entered s f));
        sets_own = λ i vs s f. (sets i vs s f, tt);
        blocks_own = λ s b r l h f.
            let k = h (entered s f) in
            (leaves s r l f k, deep_join (suc s.level) l _ k.deep tt);
        owns = λ by rows s b r l short h f.
            let k = h (push_alls by rows s short f).fit in
            goes by rows s r l short f k.0 k.1;
      }

      pub keeps : (t : Tree V) (s : State S V) → Fit s → Keeps s (walk m w limit many t s).state (walk m w limit many t s).log
      keeps t s f = every m w limit many P R names_kept t s f
