-- A macro's keywords where they stand in the deck, and what a call gives for one of them. Assumes nothing.
use Rattle.std.specs.Prelude.{ℕ, zero, suc, ◌-◌, Bool, List, [], ◌∷◌, map, take, drop, Option, Some, None}
use Rattle.std.specs.Borrow.{Bor}
use Rattle.text.specs.Bytes.{Bytes}
use Rattle.rules.specs.Choice.{every}
use Rattle.rules.specs.Calls.{is_among}
use Rattle.parts.specs.declared.Parts.{Parts}
use Rattle.parts.specs.Parts.{parts_from, parts_left}
use Rattle.deck_reading.specs.Reading.{run_at, run_end}
use Rattle.call_operands.specs.Calling.{keyword_in}
use Rattle.call_keywords.specs.declared.Given.{Given}

-- so many keywords from a place on, each with its default behind it
unfoldable pub keywords_at : Bytes → ℕ → ℕ → List (Bytes × Bytes)
keywords_at deck at zero = []
keywords_at deck at (suc n) = (run_at deck at, run_at deck (run_end deck at)) ∷ keywords_at deck (run_end deck (run_end deck at)) n

-- the keywords that an operand's parts give, those that are still to come
abbrev pub given_by : Parts → List (Bytes × Bytes)
given_by parts = map keyword_in (parts_left parts)

-- the keywords that an operand gives from a place on at which a part starts
unfoldable pub given_from : Bytes → ℕ → List (Bytes × Bytes)
given_from operand at = map keyword_in (parts_from operand at)

-- all of them are keywords of the macro
unfoldable pub are_known : List (Bytes × Bytes) → List (Bytes × Bytes) → Bool
are_known known given = every (λ k. is_among k.0 known) given

-- what an answer gives where the default is this: a value, or the default
unfoldable pub value_by : Bytes → Option (Bor Bytes) → Bytes
value_by default (Some value) = value.now
value_by default None = default

-- what an answer by places gives where the default is this: a part of the operand, or the default
unfoldable pub value_between : Bytes → Bytes → Option Given → Bytes
value_between operand default (Some given) = take (given.end - given.at) (drop given.at operand)
value_between operand default None = default
