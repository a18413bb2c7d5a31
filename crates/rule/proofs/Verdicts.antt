-- the answer of the check from the summary of block 0, and what a lawful image keeps
use Rattle.std.proofs.Common.{◌≡◌, ℕ, Bool, true, false, cond, List, is_ok, Ok, Err, Option, Result, sym, refl, ap, ◌∙◌, arith}
use Rattle.std.proofs.lemmas.Bool.{false≢true, cond-true}
use Rattle.image.specs.Layouts.{headed, counted, empty_image}
use Rattle.image.specs.Rows.{block, stmt_at, expr_at}
use Rattle.image.specs.declared.layout.Layout.{Layout}
use Rattle.image.specs.declared.refusal.Refusal.{Refusal}
use Rattle.image.specs.declared.refusal.Refusal.TheVariants.{Header, Counts, Blocks, Rows, Naming, Nesting, StrayBreak}
use Rattle.checks.specs.Rules.{in_order, all_sound, named_once}
use Rattle.rule.specs.Tree.{deepest, within, contained, block_quote}
use Rattle.rule.specs.Checked.{quote, unless, examined, Lawful}
use Rattle.rule.specs.Summaries.{summary, settled}
use Rattle.rule.proofs.Depths.{within_height, contained-summary, quote-summary}

-- once the tables are in order, the summary of block 0 gives the answer
module _ (s : List ℕ) (order : in_order s ≡ true) (rows : all_sound s ≡ true) (naming : named_once s ≡ true) where
  inner : (t : Bool) → within s deepest 0 ≡ t → unless t Nesting (unless (contained s deepest 0) StrayBreak (Ok (quote s))) ≡ unless t Nesting (unless (summary s 0).contained StrayBreak (Ok (summary s 0).quote))
  inner true w =
      ap (λ t. unless t StrayBreak (Ok (quote s))) (contained-summary s naming deepest 0 w)
      ∙ ap (λ q. unless (summary s 0).contained StrayBreak (Ok q)) (quote-summary s naming deepest 0 w)
  inner false w = refl

  pub settles : settled (summary s 0) ≡ examined s
  settles =
      sym (cond-true (in_order s) _ (Err Blocks) order ∙ cond-true (all_sound s) _ (Err Rows) rows ∙ cond-true (named_once s) _ (Err Naming) naming
      ∙ inner (within s deepest 0) refl
      ∙ ap (λ t. unless t Nesting (unless (summary s 0).contained StrayBreak (Ok (summary s 0).quote))) (within_height s naming deepest 0))

-- a test that an answer went through
ok_unless : (b : Bool) (r : Refusal) (a : Result (Option ℕ) Refusal) → is_ok (unless b r a) ≡ true → (b ≡ true) × (is_ok a ≡ true)
ok_unless true r a h = (refl, h)
ok_unless false r a h = absurd (false≢true h)

-- the seven rules of a lawful image
pub record Rules (s : List ℕ) : Type 0 where
  pub header : headed s ≡ true
  pub counts : counted s ≡ true
  pub order : in_order s ≡ true
  pub rows : all_sound s ≡ true
  pub naming : named_once s ≡ true
  pub nesting : within s deepest 0 ≡ true
  pub breaks : contained s deepest 0 ≡ true

pub rules : (s : List ℕ) → Lawful s → Rules s
rules s h =
    let a = ok_unless (headed s) Header _ h in
    let b = ok_unless (counted s) Counts _ a.1 in
    let c = ok_unless (in_order s) Blocks _ b.1 in
    let d = ok_unless (all_sound s) Rows _ c.1 in
    let e = ok_unless (named_once s) Naming _ d.1 in
    let f = ok_unless (within s deepest 0) Nesting _ e.1 in
    let g = ok_unless (contained s deepest 0) StrayBreak _ f.1 in
    record { header = a.0; counts = b.0; order = c.0; rows = d.0; naming = e.0; nesting = f.0; breaks = g.0 }

-- a refused header
pub header_refused : (h c : Bool) (l : Layout) (a : Result (Option ℕ) Refusal) (e : Refusal) →
    cond h (cond c (Ok l) (Err Counts)) (Err Header) ≡ Err e → Err e ≡ unless h Header (unless c Counts a)
header_refused true true l a e p = let z : ◌≡◌ {A = ℕ} 0 1 = cc in absurd (omega arith)
header_refused true false l a e p = cc
header_refused false true l a e p = cc
header_refused false false l a e p = cc

-- the empty rule is lawful
pub empty_lawful : Lawful empty_image
unfolding block stmt_at expr_at within contained block_quote
empty_lawful = refl
