-- `or_at` meets its contract: the word's letters. Assumes nothing.
use mathlib.Core.Path.{refl}
use mathlib.Core.List.{[]}
use Rattle.text.specs.Bytes.{bytes}
use Rattle.text.specs.Characters.{letter_or_digit, letter, digit}
use Rattle.value_comparisons.proofs.Ordered.{is-word}
use Rattle.value_comparisons.proofs.or_at.Goals as goal

pub two_letters-requires : goal.two_letters-requires
unfolding letter_or_digit letter digit
two_letters-requires c = (refl, refl)

pub returns : goal.returns
returns c = λ held. is-word held _ _ (bytes "OR") (c.two_letters.ensures [])
