-- the site host keeps the rules of every host
use Rattle.std.specs.Prelude.{◌≡◌, ℕ, Bool, List, Some, None, Err, nat_le, refl}
use Rattle.std.proofs.lemmas.Bool.{le-leb, cond-true}
use Rattle.host.specs.declared.answers.NoItem.TheVariants as no_item
use Rattle.host.specs.Meaning.{HostLaws, most_whole}
use Rattle.host.proofs.Steps.{grown_none}
use Rattle.site.specs.declared.expr.SiteExpr.{SiteExpr}
use Rattle.site.specs.declared.value.SiteValue.{SiteValue}
use Rattle.site.specs.declared.value.SiteValue.TheVariants as value
use Rattle.site.specs.Meaning.{site_meaning}
use Rattle.site.specs.Questions.{item_of}

same_at_all : (v : SiteValue) (i j : ℕ) → item_of v i ≡ Err no_item.NotIterable → item_of v j ≡ Err no_item.NotIterable
same_at_all value.Unit i j e = refl
same_at_all (value.Truth b) i j e = refl
same_at_all (value.Number n) i j e = refl
same_at_all (value.Range a b) i j e = absurd cc

pub site_laws : {T : Type 0} (exprs : T → List SiteExpr) → HostLaws (site_meaning exprs)
site_laws exprs = record {
  evaluates = λ s code v. grown_none v.limit v.rows;
  allows = λ s d v. grown_none v.limit v.rows;
  units = refl;
  truths = λ b. refl;
  wholes = λ n le. cond-true (nat_le n most_whole) (Some n) None (le-leb n most_whole le);
  iterable = same_at_all;
}
