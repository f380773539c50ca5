-- What translation answers is a deck that has room, or a refusal with a number. Assumes nothing.
use Rattle.std.proofs.Common.{◌≡◌, ℕ, ◌≤◌, leb, length, refl, arith, leb-true}
use Rattle.text.specs.Bytes.{Bytes}
use Rattle.rules.specs.Faults.{Verdict, accepted, faulty, verdict}
use Rattle.rules.proofs.Choices.{either}
use Rattle.deck.specs.Translation.{Translated, deck, refused, deck_of, translated, translated_by}
use Rattle.translating.proofs.Numbers.{verdict-number}

abbrev pub IsAnswer : ℕ → Translated → Type 0
IsAnswer room (deck d) = length d ≤ room
IsAnswer room (refused e n) = 1 ≤ e

judged : (library : Bytes) (room : ℕ) (v : Verdict) → verdict library ≡ v → IsAnswer room (translated_by v (deck_of library) room)
unfolding translated_by
judged library room (faulty e n) h = (verdict-number library e n h).0
judged library room accepted h = either (IsAnswer room) (leb (length (deck_of library)) room) (λ e. leb-true _ _ e) (λ e. omega arith)

pub is_answer : (library : Bytes) (room : ℕ) → IsAnswer room (translated library room)
unfolding translated
is_answer library room = judged library room (verdict library) refl
