-- what a value is asked for
use Rattle.std.specs.Prelude.{ℕ, Bool, true, false, ℤ, Some, None, Option, Ok, Err}
use Rattle.std.specs.Option.{option_map}
use Rattle.host.specs.declared.answers.NoItem.TheVariants as no_item
use Rattle.host.specs.Answers.{Item}
use Rattle.host.specs.Meaning.{most_whole}
use Rattle.host.specs.Numbers as numbers
use Rattle.site.specs.declared.value.SiteValue.{SiteValue}
use Rattle.site.specs.declared.value.SiteValue.TheVariants as value

abbrev pub is_unit : SiteValue → Bool
is_unit value.Unit = true
is_unit (value.Truth b) = false
is_unit (value.Number n) = false
is_unit (value.Range a b) = false

abbrev pub truth_of : SiteValue → Option Bool
truth_of value.Unit = None
truth_of (value.Truth b) = Some b
truth_of (value.Number n) = None
truth_of (value.Range a b) = None

-- a number from 0 to m
abbrev pub up_to : ℕ → ℤ → Option ℕ
up_to = numbers.number_up_to

abbrev pub number_up_to : ℕ → SiteValue → Option ℕ
number_up_to m value.Unit = None
number_up_to m (value.Truth b) = None
number_up_to m (value.Number n) = up_to m n
number_up_to m (value.Range a b) = None

-- a number from 0 to 1,000,000,000
abbrev pub whole_of : SiteValue → Option ℕ
whole_of = number_up_to most_whole

-- a number from 0 to 4,294,967,295
abbrev pub path_of : SiteValue → Option ℕ
path_of = number_up_to 4294967295

-- item i of the numbers from a up to b, which is left out
abbrev pub item_from : ℤ → ℤ → ℕ → Item SiteValue
item_from a b i = Ok (option_map value.Number (numbers.number_in a b i))

-- only a range has items
abbrev pub item_of : SiteValue → ℕ → Item SiteValue
item_of value.Unit i = Err no_item.NotIterable
item_of (value.Truth b) i = Err no_item.NotIterable
item_of (value.Number n) i = Err no_item.NotIterable
item_of (value.Range a b) i = item_from a b i
