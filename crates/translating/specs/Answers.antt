-- The answers of translation: 01's number and values for each case. Assumes nothing.
use Rattle.std.specs.Prelude.{ℕ, ◌≡◌, List, [], ◌∷◌, length, Result, Ok, Err}
use Rattle.text.specs.Bytes.{Bytes}
use Rattle.deck.specs.Translation.{deck, refused, translated, buffer_after}
use Rattle.deck.specs.Translation.{Translated as Outcome}
use Rattle.refusals.specs.Numbers.{number_of}
use Rattle.refusals.specs.declared.Refused.{Refused}

-- a number of 01 (0 for success), and the values that come with it: a deck's length, or a refusal's line
pub data Listed : Type 0 where
  listing : ℕ → List ℕ → Listed

unfoldable pub listed : Result ℕ Refused → Listed
listed (Ok n) = listing 0 (n ∷ [])
listed (Err r) = listing (number_of r.fault) (r.line ∷ [])

unfoldable pub listed_by : Outcome → Listed
listed_by (deck d) = listing 0 (length d ∷ [])
listed_by (refused e n) = listing e (n ∷ [])

-- what translation promises of its answer and of the deck buffer, whose bytes were `before` and are `after`
pub record Right (library before : Bytes) (r : Result ℕ Refused) (after : Bytes) : Type 0 where
  pub answer : listed r ≡ listed_by (translated library (length before))
  pub buffer : after ≡ buffer_after (translated library (length before)) before
