-- `and_at` meets its contract: the word's letters. Assumes nothing.
use mathlib.Core.Path.{refl}
use mathlib.Core.List.{[]}
use Rattle.text.specs.Bytes.{bytes}
use Rattle.text.specs.Characters.{letter_or_digit, letter, digit}
use Rattle.value_comparisons.proofs.Ordered.{is-word}
use Rattle.value_comparisons.proofs.and_at.Goals as goal

pub three_letters-requires : goal.three_letters-requires
unfolding letter_or_digit letter digit
three_letters-requires c = (refl, (refl, refl))

pub returns : goal.returns
returns c = λ held. is-word held _ _ (bytes "AND") (c.three_letters.ensures [])
