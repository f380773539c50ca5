-- `comparing::relation_at` meets its contract. Assumes nothing.
use mathlib.Core.Path.{refl}
use mathlib.Core.List.{[]}
use Rattle.text.specs.Characters.{letter_or_digit, letter, digit}
use Rattle.value_comparisons.specs.Orders.{relation_of, related_of}
use Rattle.value_comparisons.proofs.Ordered.{found-eq, found-ne, found_lt, found-le, found-gt, found-ge, found_none}
use Rattle.value_comparisons.proofs.relation_at.Goals as goal

pub two_letters-requires : goal.two_letters-requires
unfolding letter_or_digit letter digit
two_letters-requires c = (refl, refl)

pub returns-then-two_letters : goal.returns-then-two_letters
unfolding related_of relation_of
returns-then-two_letters c = λ held. found-eq held _ _ (c.two_letters.ensures []) c.if-two_letters.true

pub two_letters-requires-2 : goal.two_letters-requires-2
unfolding letter_or_digit letter digit
two_letters-requires-2 c = (refl, refl)

pub returns-then-two_letters-2 : goal.returns-then-two_letters-2
unfolding related_of relation_of
returns-then-two_letters-2 c = λ held. found-ne held _ _ (c.two_letters-2.ensures []) c.if-two_letters-2.true

pub two_letters-requires-3 : goal.two_letters-requires-3
unfolding letter_or_digit letter digit
two_letters-requires-3 c = (refl, refl)

pub returns-then-two_letters-3 : goal.returns-then-two_letters-3
unfolding related_of relation_of
returns-then-two_letters-3 c = λ held. found_lt held _ _ (c.two_letters-3.ensures []) c.if-two_letters-3.true

pub two_letters-requires-4 : goal.two_letters-requires-4
unfolding letter_or_digit letter digit
two_letters-requires-4 c = (refl, refl)

pub returns-then-two_letters-4 : goal.returns-then-two_letters-4
unfolding related_of relation_of
returns-then-two_letters-4 c = λ held. found-le held _ _ (c.two_letters-4.ensures []) c.if-two_letters-4.true

pub two_letters-requires-5 : goal.two_letters-requires-5
unfolding letter_or_digit letter digit
two_letters-requires-5 c = (refl, refl)

pub returns-then-two_letters-5 : goal.returns-then-two_letters-5
unfolding related_of relation_of
returns-then-two_letters-5 c = λ held. found-gt held _ _ (c.two_letters-5.ensures []) c.if-two_letters-5.true

pub two_letters-requires-6 : goal.two_letters-requires-6
unfolding letter_or_digit letter digit
two_letters-requires-6 c = (refl, refl)

pub returns-then-two_letters-6 : goal.returns-then-two_letters-6
unfolding related_of relation_of
returns-then-two_letters-6 c = λ held. found-ge held _ _ (c.two_letters-6.ensures []) c.if-two_letters-6.true

pub returns : goal.returns
unfolding related_of
returns c = λ held. found_none held _ _ (c.two_letters.ensures []) c.if-two_letters.false (c.two_letters-2.ensures []) c.if-two_letters-2.false (c.two_letters-3.ensures []) c.if-two_letters-3.false (c.two_letters-4.ensures []) c.if-two_letters-4.false (c.two_letters-5.ensures []) c.if-two_letters-5.false (c.two_letters-6.ensures []) c.if-two_letters-6.false
