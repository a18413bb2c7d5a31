-- the answers of a resolver
use Rattle.std.specs.Prelude.{ℕ, Some, None, Option, Ok, Err, Result}
use Rattle.host.specs.declared.answers.Fault.{Fault}
use Rattle.host.specs.Answers.{Held, nothing, a_value, a_fault}

-- an answer, as the source's alias has it
abbrev pub Resolved : Type 0
Resolved = Result (Option ℕ) Fault

-- resolve: a module, not found, or a fault
abbrev pub resolved_holds : Resolved → Held ℕ
resolved_holds (Ok (Some m)) = a_value m
resolved_holds (Ok None) = nothing
resolved_holds (Err f) = a_fault f
