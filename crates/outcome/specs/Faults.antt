-- how runs end and calls are refused: for each case its number and its data; and which faults a catch takes
use Rattle.std.specs.Prelude.{Bool, true, false, ℕ, List, Ok, Err, Result, codes}
use Rattle.image.specs.declared.rows.Position.{Position}
use Rattle.rows.specs.declared.place.Place.{Place}
use Rattle.outcome.specs.declared.Ending.{Ending}
use Rattle.outcome.specs.declared.Ending.TheVariants.{Stopped, Failed, Exited}
use Rattle.outcome.specs.declared.SessionRefusal.{SessionRefusal}
use Rattle.outcome.specs.declared.SessionRefusal.TheVariants.{Limits, Rows, Name, Full}
use Rattle.outcome.specs.declared.RunFault.{RunFault}
use Rattle.outcome.specs.declared.RunFault.TheVariants.{NotAllowed, TooManyNames, WrongKind, NotIterable, NoSuchName, NoSuchIndex, ConstantTarget, NoOperator, TooManyModules, NoModule, Resolver, Thrown, Host}

-- what a fault carries besides its number and its position
pub data Data (V : Type 0) : Type 0 where
  nothing : Data V
  name : Place → Data V
  operator : ℕ → Data V
  path : ℕ → Data V
  code : ℕ → Data V
  value : V → Data V

pub record Listed (V : Type 0) : Type 0 where
  pub number : ℕ
  pub holds : Data V

abbrev pub listed : {V : Type 0} → RunFault V → Listed V
listed (NotAllowed p) = record { number = 13; holds = name p }
listed TooManyNames = record { number = 14; holds = nothing }
listed WrongKind = record { number = 15; holds = nothing }
listed NotIterable = record { number = 16; holds = nothing }
listed (NoSuchName p) = record { number = 17; holds = name p }
listed NoSuchIndex = record { number = 18; holds = nothing }
listed (ConstantTarget p) = record { number = 19; holds = name p }
listed (NoOperator o) = record { number = 20; holds = operator o }
listed TooManyModules = record { number = 21; holds = nothing }
listed (NoModule p) = record { number = 22; holds = path p }
listed (Resolver c t) = record { number = 23; holds = code c }
listed (Thrown v) = record { number = 24; holds = value v }
listed (Host c t) = record { number = 25; holds = code c }

abbrev pub number : {V : Type 0} → RunFault V → ℕ
number f = (listed f).number

-- a catch takes all but these; a fault of a host or a resolver says so itself
abbrev pub catchable : {V : Type 0} → RunFault V → Bool
catchable (NotAllowed p) = true
catchable TooManyNames = false
catchable WrongKind = true
catchable NotIterable = true
catchable (NoSuchName p) = true
catchable NoSuchIndex = false
catchable (ConstantTarget p) = true
catchable (NoOperator o) = true
catchable TooManyModules = false
catchable (NoModule p) = true
catchable (Resolver c t) = t
catchable (Thrown v) = true
catchable (Host c t) = t

-- how a run ends, as the source's alias has it
abbrev pub Outcome : Type 0 → Type 0
Outcome V = Result V (Ending V)

-- a run ends with a value, or with a number, data and position
pub record Told (V : Type 0) : Type 0 where
  pub number : ℕ
  pub holds : Data V
  pub at : Position

abbrev pub told : {V : Type 0} → Outcome V → Told V
told (Ok v) = record { number = 0; holds = value v; at = record { line = 0; column = 0 } }
told (Err (Stopped p)) = record { number = 12; holds = nothing; at = p }
told (Err (Failed f)) = record { number = (listed f.fault).number; holds = (listed f.fault).holds; at = f.at }
told (Err (Exited v p)) = record { number = 26; holds = value v; at = p }

abbrev pub outcome_number : {V : Type 0} → Outcome V → ℕ
outcome_number o = (told o).number

-- the refusals of a session's calls, each with its number
abbrev pub refusal_number : SessionRefusal → ℕ
refusal_number Limits = 8
refusal_number Rows = 9
refusal_number Name = 10
refusal_number Full = 11

abbrev pub refusal_words : SessionRefusal → List ℕ
refusal_words Limits = codes "a limit is out of its range"
refusal_words Rows = codes "too few rows are lent"
refusal_words Name = codes "a name is empty, or outside the site's text"
refusal_words Full = codes "there are as many names as the limit allows"
