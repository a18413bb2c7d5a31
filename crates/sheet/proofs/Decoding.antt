-- a statement in range is decoded from its own fields
use Rattle.std.proofs.Common.{◌≡◌, ℕ, Bool, true, false, cond, not, ◌&&◌, eqb, leb, Some, None, Option, sym, refl, ap, ◌∙◌, ap₂, arith}
use Rattle.std.proofs.lemmas.Bool.{and_parts, cond-true, cond-false, leb-true, ltb-true, ne_eqb}
use Rattle.image.specs.Bytes.{all_below}
use Rattle.image.specs.declared.rows.Name.{Name}
use Rattle.image.specs.declared.rows.Position.{Position}
use Rattle.image.specs.declared.rows.Stmt.{Stmt}
use Rattle.image.specs.declared.rows.Stmt.TheVariants.{Noop, Expr, Block, Assignment, Var, If, While, Do, For, BreakLoop, TryCatch, Return, Import}
use Rattle.image.specs.Rows.{reference, nonzero, name_of, flag, required, required_both, row_of, stmt_from}
use Rattle.image.proofs.Below.{all_at}
use Rattle.sheet.specs.declared.sheet.Unread.{Unread}
use Rattle.sheet.specs.Encoding.{numbered, or_zero, name_fields, marked, fields_for}
use Rattle.sheet.specs.Ranges.{is_row, may_be_row, may_be_positive, is_name, may_be_name, is_free, stmt_fits}

row_back : (e : ℕ) → is_row e ≡ true → reference e ≡ Some e
row_back e h = let lt = ltb-true e 65535 h in cond-false (eqb e 65535) None (Some e) (ne_eqb e 65535 (λ p. omega arith))

rows_back : (o : Option ℕ) → may_be_row o ≡ true → reference (numbered o) ≡ o
rows_back None h = refl
rows_back (Some e) h = row_back e h

positive_back : (o : Option ℕ) → may_be_positive o ≡ true → nonzero (or_zero o) ≡ o
positive_back None h = refl
positive_back (Some n) h = let lt = ltb-true 0 n h in cond-false (eqb n 0) None (Some n) (ne_eqb n 0 (λ p. omega arith))

name_back : (n : Name) → is_name n ≡ true → name_of n.offset n.length ≡ Some n
name_back n h = let lt = ltb-true 0 n.length h in cond-false (eqb n.length 0) None (Some n) (ne_eqb n.length 0 (λ p. omega arith))

names_back : (o : Option Name) (free : ℕ) → may_be_name o ≡ true → name_of (name_fields o free).offset (name_fields o free).length ≡ o
names_back None free h = refl
names_back (Some n) free h = name_back n h

same : Bool → Bool → Bool
same true b = b
same false b = not b

same_true : (a b : Bool) → same a b ≡ true → a ≡ b
unfolding same
same_true true true h = refl
same_true true false h = sym h
same_true false true h = h
same_true false false h = refl

-- flags that are free of a weight: with the weight they are still at most 15, and it is read as it was set
reads : ℕ → Bool → ℕ → Bool
reads w b f = cond (is_free f w) (leb (marked f w b) 15 && same (flag (marked f w b) w) b) true

-- so it is with all flags up to 15
module _ (w : ℕ) (b : Bool) (all : all_below (reads w b) 16 ≡ true) (f : ℕ) (few : leb f 15 ≡ true) (free : is_free f w ≡ true) where
  both_facts : (leb (marked f w b) 15 ≡ true) × (same (flag (marked f w b) w) b ≡ true)
  unfolding reads
  both_facts =
      let le = leb-true f 15 few in
      and_parts _ _ (sym (cond-true (is_free f w) _ true free) ∙ all_at (reads w b) 16 f (omega arith) all)

  still_few : leb (marked f w b) 15 ≡ true
  still_few = both_facts.0

  flag_back : flag (marked f w b) w ≡ b
  flag_back = same_true (flag (marked f w b) w) b both_facts.1

constants : (b : Bool) → all_below (reads 1 b) 16 ≡ true
unfolding reads same
constants true = refl
constants false = refl

negations : (b : Bool) → all_below (reads 4 b) 16 ≡ true
unfolding reads same
negations true = refl
negations false = refl

breaks : (b : Bool) → all_below (reads 8 b) 16 ≡ true
unfolding reads same
breaks true = refl
breaks false = refl

made_row : (at : Position) (flags : ℕ) (o : Option Stmt) (x : Stmt) → leb flags 15 ≡ true → o ≡ Some x → cond (leb flags 15) (row_of at o) None ≡ Some (record { at = at; stmt = x })
made_row at flags o x few e = cond-true (leb flags 15) (row_of at o) None few ∙ ap (λ p. row_of at p) e

needs : (o : Option ℕ) (e : ℕ) (f : ℕ → Stmt) → o ≡ Some e → required o f ≡ Some (f e)
needs o e f p = ap (λ q. required q f) p

needs-both : (o : Option Name) (q : Option ℕ) (n : Name) (e : ℕ) (f : Name → ℕ → Stmt) → o ≡ Some n → q ≡ Some e → required_both o q f ≡ Some (f n e)
needs-both o q n e f p r = ap (λ a. required_both a q f) p ∙ needs q e (f n) r

pub stmt_back : (x : Stmt) (at : Position) (u : Unread) → leb u.flags 15 ≡ true → stmt_fits x u.flags ≡ true → stmt_from (fields_for x at u) ≡ Some (record { at = at; stmt = x })
stmt_back Noop at u few h = made_row at u.flags (Some Noop) Noop few refl
stmt_back (Expr e) at u few h = made_row at u.flags _ (Expr e) few (needs (reference e) e (λ e. Expr e) (row_back e h))
stmt_back (Block b) at u few h = made_row at u.flags _ (Block b) few (ap (λ p. Some (Block p)) (rows_back b h))
stmt_back (Assignment n e o i) at u few h =
    let k = and_parts (is_name n) _ h in
    let l = and_parts (is_row e) _ k.1 in
    let m = and_parts (may_be_positive o) (may_be_positive i) l.1 in
    made_row at u.flags _ (Assignment n e o i) few
    (needs-both _ (reference e) n e (λ n e. Assignment n e (nonzero (or_zero o)) (nonzero (or_zero i))) (name_back n k.0) (row_back e l.0)
    ∙ ap₂ (λ p q. Some (Assignment n e p q)) (positive_back o m.0) (positive_back i m.1))
stmt_back (Var n e i c) at u few h =
    let k = and_parts (is_name n) _ h in
    let l = and_parts (is_row e) _ k.1 in
    let m = and_parts (may_be_positive i) (is_free u.flags 1) l.1 in
    made_row at (marked u.flags 1 c) _ (Var n e i c) (still_few 1 c (constants c) u.flags few m.1)
    (needs-both _ (reference e) n e (λ n e. Var n e (nonzero (or_zero i)) (flag (marked u.flags 1 c) 1)) (name_back n k.0) (row_back e l.0)
    ∙ ap₂ (λ p q. Some (Var n e p q)) (positive_back i m.0) (flag_back 1 c (constants c) u.flags few m.1))
stmt_back (If e b c) at u few h =
    let k = and_parts (is_row e) _ h in
    let l = and_parts (may_be_row b) (may_be_row c) k.1 in
    made_row at u.flags _ (If e b c) few
    (needs (reference e) e (λ e. If e (reference (numbered b)) (reference (numbered c))) (row_back e k.0)
    ∙ ap₂ (λ p q. Some (If e p q)) (rows_back b l.0) (rows_back c l.1))
stmt_back (While e b) at u few h =
    let k = and_parts (is_row e) (may_be_row b) h in
    made_row at u.flags _ (While e b) few
    (needs (reference e) e (λ e. While e (reference (numbered b))) (row_back e k.0) ∙ ap (λ p. Some (While e p)) (rows_back b k.1))
stmt_back (Do e b n) at u few h =
    let k = and_parts (is_row e) _ h in
    let l = and_parts (may_be_row b) (is_free u.flags 4) k.1 in
    made_row at (marked u.flags 4 n) _ (Do e b n) (still_few 4 n (negations n) u.flags few l.1)
    (needs (reference e) e (λ e. Do e (reference (numbered b)) (flag (marked u.flags 4 n) 4)) (row_back e k.0)
    ∙ ap₂ (λ p q. Some (Do e p q)) (rows_back b l.0) (flag_back 4 n (negations n) u.flags few l.1))
stmt_back (For n c e b) at u few h =
    let k = and_parts (is_name n) _ h in
    let l = and_parts (may_be_name c) _ k.1 in
    let m = and_parts (is_row e) (may_be_row b) l.1 in
    made_row at u.flags _ (For n c e b) few
    (needs-both _ (reference e) n e (λ n e. For n (name_of (name_fields c u.r).offset (name_fields c u.r).length) e (reference (numbered b))) (name_back n k.0) (row_back e m.0)
    ∙ ap₂ (λ p q. Some (For n p e q)) (names_back c u.r l.0) (rows_back b m.1))
stmt_back (BreakLoop e b) at u few h =
    let k = and_parts (may_be_row e) (is_free u.flags 8) h in
    made_row at (marked u.flags 8 b) _ (BreakLoop e b) (still_few 8 b (breaks b) u.flags few k.1)
    (ap₂ (λ p q. Some (BreakLoop p q)) (rows_back e k.0) (flag_back 8 b (breaks b) u.flags few k.1))
stmt_back (TryCatch b c n) at u few h =
    let k = and_parts (may_be_row b) _ h in
    let l = and_parts (may_be_row c) (may_be_name n) k.1 in
    made_row at u.flags _ (TryCatch b c n) few
    (ap (λ p. Some (TryCatch p (reference (numbered c)) (name_of (name_fields n u.name_offset).offset (name_fields n u.name_offset).length))) (rows_back b k.0)
    ∙ ap₂ (λ p q. Some (TryCatch b p q)) (rows_back c l.0) (names_back n u.name_offset l.1))
stmt_back (Return e t) at u few h =
    let k = and_parts (may_be_row e) (is_free u.flags 8) h in
    made_row at (marked u.flags 8 t) _ (Return e t) (still_few 8 t (breaks t) u.flags few k.1)
    (ap₂ (λ p q. Some (Return p q)) (rows_back e k.0) (flag_back 8 t (breaks t) u.flags few k.1))
stmt_back (Import e n) at u few h =
    let k = and_parts (is_row e) (may_be_name n) h in
    made_row at u.flags _ (Import e n) few
    (needs (reference e) e (λ e. Import e (name_of (name_fields n u.name_offset).offset (name_fields n u.name_offset).length)) (row_back e k.0)
    ∙ ap (λ p. Some (Import e p)) (names_back n u.name_offset k.1))
