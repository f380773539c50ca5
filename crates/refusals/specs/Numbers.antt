-- The number of each refusal: document 01, "Refusal numbers and places". Assumes nothing.
use Rattle.std.specs.Prelude.{ℕ, Option, Some, None}
use Rattle.rules.specs.Limits.{bad_byte, out_of_place, bad_name, ill_formed, over_limit, bad_call, too_long, bad_value, counter_spent, level_six, calls_spent, bad_deck, short_workspace, no_room, language_word}
use Rattle.refusals.specs.declared.Fault.{Fault}
use Rattle.refusals.specs.declared.Fault.TheVariants.{BadByte, OutOfPlace, BadName, IllFormed, OverLimit, BadCall, TooLong, BadValue, CounterSpent, LevelSix, CallsSpent, BadDeck, ShortWorkspace, NoRoom, LanguageWord}

abbrev pub number_of : Fault → ℕ
number_of BadByte = bad_byte
number_of OutOfPlace = out_of_place
number_of BadName = bad_name
number_of IllFormed = ill_formed
number_of OverLimit = over_limit
number_of BadCall = bad_call
number_of TooLong = too_long
number_of BadValue = bad_value
number_of CounterSpent = counter_spent
number_of LevelSix = level_six
number_of CallsSpent = calls_spent
number_of BadDeck = bad_deck
number_of ShortWorkspace = short_workspace
number_of NoRoom = no_room
number_of LanguageWord = language_word

-- the number of what a test finds; 0 where it finds none
abbrev pub number_by : Option Fault → ℕ
number_by (Some f) = number_of f
number_by None = 0
