-- the answers of a host, case by case with what each holds
use Rattle.std.specs.Prelude.{ℕ, Bool, true, false, Some, None, Option, Ok, Err, Result}
use Rattle.host.specs.declared.answers.Caught.{Caught}
use Rattle.host.specs.declared.answers.Caught.TheVariants.{NotAllowed, WrongKind, NotIterable, NoSuchName, ConstantTarget, NoOperator, NoModule, Resolver, Host}
use Rattle.host.specs.declared.answers.Fault.{Fault}
use Rattle.host.specs.declared.answers.Halt.{Halt}
use Rattle.host.specs.declared.answers.Halt.TheVariants as halt
use Rattle.host.specs.declared.answers.NoItem.{NoItem}
use Rattle.host.specs.declared.answers.NoItem.TheVariants as no_item

-- the faults that a catch takes, each with its number
abbrev pub number : Caught → ℕ
number (NotAllowed p) = 13
number WrongKind = 15
number NotIterable = 16
number (NoSuchName p) = 17
number (ConstantTarget p) = 19
number (NoOperator o) = 20
number (NoModule p) = 22
number (Resolver c) = 23
number (Host c) = 25

-- the answers, as the source's aliases have them
abbrev pub Evaluated : Type 0 → Type 0
Evaluated V = Result V (Halt V)

abbrev pub Allowed : Type 0
Allowed = Result Bool Fault

abbrev pub Applied : Type 0 → Type 0
Applied V = Result (Option V) Fault

abbrev pub Item : Type 0 → Type 0
Item V = Result (Option V) NoItem

-- what an answer holds, if it does: a value, a fault
pub record Held (V : Type 0) : Type 0 where
  pub value : Option V
  pub fault : Option Fault

abbrev pub nothing : {V : Type 0} → Held V
nothing = record { value = None; fault = None }

abbrev pub a_value : {V : Type 0} → V → Held V
a_value v = record { value = Some v; fault = None }

abbrev pub a_fault : {V : Type 0} → Fault → Held V
a_fault f = record { value = None; fault = Some f }

-- evaluate: a value, a fault, or exit with a value
abbrev pub evaluated_holds : {V : Type 0} → Evaluated V → Held V
evaluated_holds (Ok v) = a_value v
evaluated_holds (Err (halt.Fault f)) = a_fault f
evaluated_holds (Err (halt.Exit v)) = a_value v

-- allow: yes, no, or a fault
abbrev pub allowed_holds : {V : Type 0} → Allowed → Held V
allowed_holds (Ok true) = nothing
allowed_holds (Ok false) = nothing
allowed_holds (Err f) = a_fault f

-- apply and binary: a value, not found, or a fault
abbrev pub applied_holds : {V : Type 0} → Applied V → Held V
applied_holds (Ok (Some v)) = a_value v
applied_holds (Ok None) = nothing
applied_holds (Err f) = a_fault f

-- item: an item, a fault, the end, or not iterable
abbrev pub item_holds : {V : Type 0} → Item V → Held V
item_holds (Ok (Some v)) = a_value v
item_holds (Err (no_item.Fault f)) = a_fault f
item_holds (Ok None) = nothing
item_holds (Err no_item.NotIterable) = nothing
