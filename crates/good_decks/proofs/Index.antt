-- THE INDEX: where everything stands in a deck in good form is told by its bytes alone, and what is read there again is the deck's. Assumes nothing.
use Prim.Native.Nat.{ℕ, zero, suc, ◌+◌, ◌*◌, ◌<◌}
use mathlib.Core.Path.{◌≡◌, refl, sym, ap, ◌∙◌}
use mathlib.Core.List.{[], ◌∷◌}
use mathlib.Core.Option.{Option, none, some}
use native.Mathlib.Omega.{arith}
use native.Mathlib.Numerals.{add-one}
use lib.Dec.{eqb}
use lib.ListN.{length, get_or, drop}
use Rattle.text.specs.Bytes.{Bytes}
use Rattle.rules.proofs.Choices.{by, either, chosen, passed_over}
use Rattle.deck.specs.Slots.{DeckMacro, Deck, no_macro, no_line}
use Rattle.deck.specs.Coding.{Read, after, get_byte, two, four}
use Rattle.deck.specs.Coders.{line, contents, version_byte, whole_deck, versioned, counted, decoded}
use Rattle.deck.specs.Good.{is_good, if_good, good_deck}
use Rattle.deck_reading.specs.Reading.{two_at, run_end, line_at, reads}
use Rattle.std.specs.Prelude.{Some}
use Rattle.deck_reading.specs.Heads.{things_from, place_of, list_at, list_end, line_end, macro_at, macro_end, body_place, macros_place, deck_at, macro_place, line_place}
use Rattle.deck_reading.proofs.Total.{Is, Total, total-some, total-then, total-two, total-byte, total-line, total-contents}

-- ---- the deck is what the total readers give

-- a deck, if there is one, is this
unfoldable pub Only : Deck → Option Deck → Type 0
Only d none = d ≡ d
Only d (some e) = e ≡ d

total-four : Total four.get (λ s at. two_at s at * 65536 + two_at s (at + 2)) (λ s at. at + 2 + 2)
unfolding four
total-four = total-then two.get two_at (λ s at. at + 2) (λ a t. after (two.get t) λ b u. some (a * 65536 + b, u)) (λ a s at. a * 65536 + two_at s at) (λ a s at. at + 2) total-two
    (λ a. total-then two.get two_at (λ s at. at + 2) (λ b u. some (a * 65536 + b, u)) (λ b s at. a * 65536 + b) (λ b s at. at) total-two (λ b. total-some (a * 65536 + b)))

module _ (s : Bytes) where
  only-whole : (r : Read Deck) (u : Bytes) → Is (deck_at s) u r → Only (deck_at s) (whole_deck r)
  unfolding Only Is whole_deck
  only-whole none u h = refl
  only-whole (some r) u h = rest r.1
    where
      rest : (t : Bytes) → Only (deck_at s) (elim t [ [] ↦ some r.0 | b ∷ t ↦ none ])
      rest [] = ap (λ p. p.0) h
      rest (b ∷ t) = refl

  only-contents : Only (deck_at s) (whole_deck (contents.get (drop 5 s)))
  unfolding deck_at macros_place
  only-contents = only-whole (contents.get (drop 5 s)) (drop (list_end macro_end s (run_end s 5)) s) (total-contents s 5)

  only-version : (t : Bytes) → Is (get_or s 4 0) (drop 5 s) (get_byte t) → Only (deck_at s) (versioned t)
  unfolding Only Is get_byte versioned
  only-version [] h = refl
  only-version (b ∷ t) h = either (Only (deck_at s)) (eqb b version_byte) (λ e. rw (ap (λ p. p.1) h) only-contents) (λ e. refl)

  only-counted : (v : ℕ) (r : Read ℕ) → Is v (drop 4 s) r → Only (deck_at s) (counted r)
  unfolding Only Is counted
  only-counted v none h = refl
  only-counted v (some r) h = either (Only (deck_at s)) (eqb (length r.1) r.0) (λ e. rw (ap (λ p. p.1) h) (only-version (drop 4 s) (total-byte s 4))) (λ e. refl)

  pub only-decoded : Only (deck_at s) (decoded s)
  unfolding decoded
  only-decoded = only-counted (two_at s 0 * 65536 + two_at s 2) (four.get s) (total-four s 0)

  -- the deck of bytes in good form, by its places
  pub only-good : (d : Deck) → good_deck s ≡ some d → d ≡ deck_at s
  unfolding good_deck if_good Only
  only-good d e = is-it (decoded s) d only-decoded e
    where
      or_else : Deck → Option Deck → Deck
      or_else e none = e
      or_else e (some d) = d

      is-it : (o : Option Deck) (d : Deck) → Only (deck_at s) o → if_good o ≡ some d → d ≡ deck_at s
      is-it none d h e = ap (or_else (deck_at s)) (sym e)
      is-it (some x) d h e = by (is_good x) (λ f. ap (or_else d) (sym e ∙ chosen _ _ f) ∙ h) (λ f. ap (or_else (deck_at s)) (sym e ∙ passed_over _ _ f))

-- ---- things by number

module _ {A : Type 0} (value : Bytes → ℕ → A) (end : Bytes → ℕ → ℕ) (s : Bytes) (d : A) where
  pub thing-at : (n i at : ℕ) → i < n → get_or (things_from value end s n at) i d ≡ value s (place_of end s i at)
  unfolding things_from place_of
  thing-at zero i at h = absurd (omega arith)
  thing-at (suc n) zero at h = refl
  thing-at (suc n) (suc i) at h = thing-at n i (end s at) (omega arith)

  pub things-count : (n at : ℕ) → length (things_from value end s n at) ≡ n
  unfolding things_from
  things-count zero at = refl
  things-count (suc n) at = ap suc (things-count n (end s at))

module _ (s : Bytes) where
  macro-there : (k : ℕ) → k < length (deck_at s).macros → get_or (deck_at s).macros k no_macro ≡ macro_at s (macro_place s k)
  unfolding deck_at list_at macro_place
  macro-there k h = thing-at macro_at macro_end s no_macro (two_at s (macros_place s)) k (macros_place s + 2) (rw (things-count macro_at macro_end s no_macro (two_at s (macros_place s)) (macros_place s + 2)) at h)

  line-there : (at i : ℕ) → i < length (macro_at s at).lines → get_or (macro_at s at).lines i no_line ≡ line_at s (place_of line_end s i (body_place s at + 2))
  unfolding macro_at list_at
  line-there at i h = thing-at line_at line_end s no_line (two_at s (body_place s at)) i (body_place s at + 2) (rw (things-count line_at line_end s no_line (two_at s (body_place s at)) (body_place s at + 2)) at h)

  module _ (d : Deck) (e : good_deck s ≡ some d) (k : ℕ) (h : k < length d.macros) where
    -- macro k of the deck is what stands at its place
    pub macro-indexed : get_or d.macros k no_macro ≡ macro_at s (macro_place s k)
    macro-indexed = let f = only-good s d e in ap (λ (d : Deck). get_or d.macros k no_macro) f ∙ macro-there k (rw f at h)

    -- and line i of it is what stands at the line's place
    pub line-indexed : (i : ℕ) → i < length (get_or d.macros k no_macro).lines → get_or (get_or d.macros k no_macro).lines i no_line ≡ line_at s (line_place s k i)
    unfolding line_place
    line-indexed i g = ap (λ (m : DeckMacro). get_or m.lines i no_line) macro-indexed ∙ line-there (macro_place s k) i (rw macro-indexed at g)

-- ---- a row of the index

-- the place behind one more
pub place-next : (end : Bytes → ℕ → ℕ) (s : Bytes) (i at : ℕ) → place_of end s (i + 1) at ≡ end s (place_of end s i at)
unfolding place_of
place-next end s i at = ap (λ (n : ℕ). place_of end s n at) (add-one i) ∙ last i at
  where
    last : (i at : ℕ) → place_of end s (suc i) at ≡ end s (place_of end s i at)
    last zero at = refl
    last (suc i) at = last i (end s at)

-- A walk stands at a place from which on there are the same bytes as from the line's own: where it reads a line there, it is that line, and the walk then stands so at the next.
pub row-right : (s : Bytes) (here own to : ℕ) → drop here s ≡ drop own s → reads (line_at s here) s (Some to) ≡ line.get (drop here s) → (line_at s here ≡ line_at s own) × (drop to s ≡ drop (line_end s own) s)
unfolding reads Is
row-right s here own to e read =
    let is : Is (line_at s own) (drop (line_end s own) s) (line.get (drop here s)) = rw e (total-line s own) in
    let told : Is (line_at s own) (drop (line_end s own) s) (some (line_at s here, drop to s)) = rw (sym read) at is in
    (ap (λ p. p.0) told, ap (λ p. p.1) told)
