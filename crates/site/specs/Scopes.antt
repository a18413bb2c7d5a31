-- what an expression may read
use Rattle.host.specs.Meaning.{Seen, seen}
use Rattle.site.specs.declared.look.Scope.{Scope}
use Rattle.site.specs.declared.value.SiteValue.{SiteValue}

-- what is seen in a scope: the variables in use, both texts, the search mark and the limit of variables
abbrev pub scope_seen : Scope → Seen SiteValue
scope_seen s = seen s.vars.now s.used s.view
