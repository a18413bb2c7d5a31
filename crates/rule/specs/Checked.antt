-- the check of an image, and the quote of a rule that passes it
use Rattle.std.specs.Prelude.{◌≡◌, ℕ, Bool, true, cond, List, is_ok, Ok, Err, Option, Result}
use Rattle.image.specs.Layouts.{headed, counted}
use Rattle.image.specs.declared.refusal.Refusal.{Refusal}
use Rattle.image.specs.declared.refusal.Refusal.TheVariants.{Header, Counts, Blocks, Rows, Naming, Nesting, StrayBreak}
use Rattle.checks.specs.Rules.{in_order, all_sound, named_once}
use Rattle.rule.specs.Tree.{deepest, within, contained, block_quote}

-- what block 0 comes to
abbrev pub quote : List ℕ → Option ℕ
quote s = block_quote s deepest 0

-- the answer if a test holds, else a refusal
abbrev pub unless : Bool → Refusal → Result (Option ℕ) Refusal → Result (Option ℕ) Refusal
unless holds refusal answer = cond holds answer (Err refusal)

-- the same from the rules of the tables on, where the header is right
abbrev pub examined : List ℕ → Result (Option ℕ) Refusal
examined s =
    unless (in_order s) Blocks
    (unless (all_sound s) Rows
    (unless (named_once s) Naming
    (unless (within s deepest 0) Nesting
    (unless (contained s deepest 0) StrayBreak
    (Ok (quote s))))))

-- the quote, or the first refusal that applies
abbrev pub checked : List ℕ → Result (Option ℕ) Refusal
checked s = unless (headed s) Header (unless (counted s) Counts (examined s))

-- an image that is not refused
abbrev pub Lawful : List ℕ → Type 0
Lawful s = is_ok (checked s) ≡ true
