-- Document 01, "Refusal numbers and places": which numbers an expansion can give at which place.
use Rattle.std.specs.Prelude.{ℕ, zero, suc, Bool, true, List, [], ◌∷◌}
use Rattle.text.specs.Bytes.{member}
use Rattle.rules.specs.Limits.{bad_byte, over_limit, bad_call, too_long, bad_value, counter_spent, level_six, calls_spent, bad_deck, short_workspace, no_room, language_word}
use Rattle.rules.specs.Machine.{Answer, done, refused}

-- by open line and body line: before the first line; in open code; in a macro
unfoldable pub numbers_at : ℕ → ℕ → List ℕ
numbers_at zero j = short_workspace ∷ bad_deck ∷ over_limit ∷ []
numbers_at (suc i) zero = bad_byte ∷ language_word ∷ bad_call ∷ calls_spent ∷ no_room ∷ []
numbers_at (suc i) (suc j) = bad_value ∷ too_long ∷ language_word ∷ bad_call ∷ level_six ∷ calls_spent ∷ no_room ∷ counter_spent ∷ []

-- the answer is a result, or a refusal of 01 for its place
unfoldable pub is_of01 : Answer → Bool
is_of01 (done n k s) = true
is_of01 (refused e i j k) = member e (numbers_at i j)
