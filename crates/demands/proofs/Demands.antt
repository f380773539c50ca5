-- What was asked for of decks, with acceptance as the only hypothesis: a translated deck is in good form, in bytes, of at most 65,536; expanding through it is
-- expanding by the library's own lines; libraries that differ by a renaming have the same deck.
use Prim.Native.Nat.{ℕ, ◌≤◌, ◌<◌}
use native.Mathlib.Omega.{arith}
use mathlib.Core.Path.{◌≡◌, refl, ap, sym, ◌∙◌}
use mathlib.Core.Bool.{Bool, true, false, false≢true, ◌&&◌}
use mathlib.Core.List.{List, [], ◌∷◌}
use mathlib.Core.Option.{none, some}
use lib.Dec.{leb}
use lib.ListN.{length}
use Rattle.text.specs.Bytes.{Bytes}
use Rattle.rules.specs.Choice.{every}
use Rattle.rules.specs.Limits.{no_room}
use Rattle.rules.specs.Statement.{Line}
use Rattle.rules.specs.ByLines.{by_lines}
use Rattle.rules.specs.Faults.{Verdict, accepted, faulty, verdict}
use Rattle.rules.proofs.Choices.{by, chosen, passed_over}
use Rattle.rules.proofs.Logic.{All, all-at}
use Rattle.rules.proofs.OneKind.{one-kind}
use Rattle.deck.specs.Slots.{Slot, DeckMacro, Deck, no_macro, resolved_library}
use Rattle.deck.specs.Coding.{four}
use Rattle.deck.specs.Coders.{contents, encoded, decoded}
use Rattle.deck.specs.Good.{is_sound, is_read_macro, is_good, if_good, good_deck}
use Rattle.deck.specs.ByDeck.{by_deck}
use Rattle.deck.specs.Translation.{Translated, deck, refused, deck_of, translated_by, translated}
use Rattle.deck.proofs.Coding.{deck-back, deck-bytes}
use Rattle.deck.proofs.Same as Same
use Rattle.deck.proofs.InOrder.{InOrder, lexemes-in-order}
use Rattle.deck.proofs.Fits.{fits-deck}
use Rattle.deck.proofs.Size as Size
use Rattle.deck.proofs.Library.{has_lexemes, good-but-lexemes}
use Rattle.deck.proofs.LexedRead.{set-has-no-nul, lexed-is-read, front-is-read}
use Rattle.deck.proofs.ReadDecks.{decks-read}

-- each line's lexemes, as one test
lines-lexed : (ls : List (Line Slot ℕ)) → All InOrder ls → every has_lexemes ls ≡ true
unfolding every
lines-lexed [] h = refl
lines-lexed (l ∷ ls) h = λ i. ((h.0.0 i && (h.0.1.0 i && h.0.1.1 i)) && lines-lexed ls h.1 i)

-- everything is in range, well formed and in order
deck-is-sound : (library : Bytes) → verdict library ≡ accepted → is_sound (resolved_library library) ≡ true
deck-is-sound library e =
    good-but-lexemes library e (one-kind library e)
    (λ k h. lines-lexed _ (all-at (λ (m : DeckMacro). All InOrder m.lines) (resolved_library library).macros no_macro k (lexemes-in-order library e) h))

-- and its fields and defaults are as the reader gives them
deck-is-read : (library : Bytes) → verdict library ≡ accepted → every is_read_macro (resolved_library library).macros ≡ true
deck-is-read = decks-read (λ f quotes s held clean. lexed-is-read f quotes s (set-has-no-nul s held) clean) front-is-read

pub deck-is-good : (library : Bytes) → verdict library ≡ accepted → is_good (resolved_library library) ≡ true
unfolding is_good
deck-is-good library e = λ i. deck-is-sound library e i && deck-is-read library e i

-- a translated deck has at most 65,536 bytes, each below 256
pub deck-size : (library : Bytes) → verdict library ≡ accepted → length (deck_of library) ≤ 65536
deck-size = Size.deck-size

pub deck-in-bytes : (library : Bytes) → verdict library ≡ accepted → All (λ b. b < 256) (deck_of library)
unfolding deck_of
deck-in-bytes library e = deck-bytes (resolved_library library) (fits-deck library e)

-- decoding it gives back what was encoded
contents-size : (d : Deck) → length (encoded d) ≤ 65536 → length (contents.put d) < 4294967295
unfolding encoded four
contents-size d h = omega (arith, h)

pub deck-reads-back : (library : Bytes) → verdict library ≡ accepted → decoded (deck_of library) ≡ some (resolved_library library)
unfolding deck_of
deck-reads-back library e = deck-back (resolved_library library) (fits-deck library e) (contents-size (resolved_library library) (Size.deck-size library e))

-- and it meets the test of good form
pub good-deck : (library : Bytes) → verdict library ≡ accepted → good_deck (deck_of library) ≡ some (resolved_library library)
unfolding good_deck if_good
good-deck library e = ap if_good (deck-reads-back library e) ∙ chosen (some (resolved_library library)) none (deck-is-good library e)

-- Demand 3: for every program and pair of buffers, expanding through the deck gives the same bytes, refusal, place and step count as reading the library's own
-- lines by the rules.
pub same-expansion : (library : Bytes) → verdict library ≡ accepted → (program out work : Bytes) → by_deck (deck_of library) program out work ≡ by_lines library program out work
same-expansion library e = Same.same-expansion library (deck_of library) (deck-reads-back library e) (deck-is-good library e) (one-kind library e)

-- the same, for the deck that translation gives in a buffer of `room` bytes
abbrev is_deck : Translated → Bool
is_deck (deck d) = true
is_deck (refused e n) = false

abbrev bytes_of : Translated → Bytes
bytes_of (deck d) = d
bytes_of (refused e n) = []

translated-from : (v : Verdict) (d : Bytes) (room : ℕ) (x : Bytes) → translated_by v d room ≡ deck x → (v ≡ accepted) × (d ≡ x)
unfolding translated_by
translated-from (faulty e n) d room x h = absurd (false≢true (ap is_deck h))
translated-from accepted d room x h = (
  refl,
  by (leb (length d) room) (λ t. ap bytes_of (sym (chosen (deck d) (refused no_room 0) t) ∙ h))
      (λ f. absurd (false≢true (ap is_deck (sym (passed_over (deck d) (refused no_room 0) f) ∙ h)))),
)

pub same-expansion-translated : (library d : Bytes) (room : ℕ) → translated library room ≡ deck d → (program out work : Bytes) → by_deck d program out work ≡ by_lines library program out work
unfolding translated
same-expansion-translated library d room h program out work =
    let t = translated-from (verdict library) (deck_of library) room d h in
    ap (λ x. by_deck x program out work) (sym t.1) ∙ same-expansion library t.0 program out work
