-- Cuts and parts of texts, worked out: quotes and parentheses hold commas, a mark opens no quote. Assumes nothing.
use mathlib.Core.Path.{◌≡◌, refl}
use mathlib.Core.List.{[], ◌∷◌}
use Rattle.text.specs.Bytes.{bytes}
use Rattle.text.specs.Characters.{letter, digit, letter_or_digit}
use Rattle.rules.specs.Choice.{choose, passed}
use Rattle.rules.specs.Lexemes.{equals, byte_of, field_start, follows, is_mark, after, marked, outside, enters, is_bare}
use Rattle.rules.specs.Fields.{is_empty}
use Rattle.parts.specs.Parts.{bare_at, parts_within, parts_from, parts_of}

held : parts_of (bytes "A,(B,C),'D,E',") ≡ bytes "A" ∷ (bytes "(B,C)" ∷ (bytes "'D,E'" ∷ ([] ∷ [])))
unfolding parts_of parts_from parts_within bare_at passed choose is_bare enters outside marked after is_mark follows field_start byte_of letter digit letter_or_digit is_empty
held = refl

none : parts_of [] ≡ []
unfolding parts_of is_empty choose
none = refl

marks : parts_of (bytes "L'&A,K'&B") ≡ bytes "L'&A" ∷ (bytes "K'&B" ∷ [])
unfolding parts_of parts_from parts_within bare_at passed choose is_bare enters outside marked after is_mark follows field_start byte_of letter digit letter_or_digit is_empty
marks = refl

keyword : bare_at equals (bytes "&K=(A=B)") ≡ 2
unfolding bare_at passed choose is_bare enters outside marked after is_mark follows field_start byte_of letter digit letter_or_digit
keyword = refl
