-- The test of a field, lexeme by lexeme and by place. Assumes nothing.
use Prim.Native.Nat.{ℕ, zero, suc, ◌+◌, ◌≤◌, ◌<◌}
use mathlib.Core.Path.{◌≡◌, refl, sym, ap, ◌∙◌}
use mathlib.Core.Bool.{Bool, true, false, ◌&&◌, ◌||◌, not}
use mathlib.Core.List.{List, [], ◌∷◌, map}
use native.Mathlib.Numerals.{add-one}
use lib.Dec.{eqb}
use lib.ListN.{length, get_or, drop, drop_of_length-le}
use lib.Seq.{drop-cons}
use Rattle.text.specs.Bytes.{Bytes, bytes, member}
use Rattle.text.specs.Characters.{letter, letter_or_digit}
use Rattle.rules.specs.Choice.{choose}
use Rattle.rules.specs.Lexemes.{ampersand, Lex, byte, mark, ref, lone, byte_of, Before, field_start}
use Rattle.deck.specs.Slots.{Slot}
use Rattle.deck.specs.Coders.{lex_of}
use Rattle.deck.specs.AsRead.{follows_in, marks_here, is_read_at, after_lexeme, is_read, is_field}
use Rattle.deck_reading.specs.Reading.{or_lone, slot_lex}
use Rattle.good_reading.specs.declared.Trail.{Trail as State}
use Rattle.good_reading.specs.Trails.{before_of, reads_by, trail_after, no_trail}

-- ---- of what follows a lexeme, only the next one counts

first-follows : (x : Lex Slot) (r s : List (Lex Slot)) → follows_in (x ∷ r) ≡ follows_in (x ∷ s)
unfolding follows_in
first-follows (byte c) r s = refl
first-follows mark r s = refl
first-follows (ref n) r s = refl
first-follows lone r s = refl

follows_by : (code : Bytes) (j : ℕ) → follows_in (map slot_lex (drop j code)) ≡ follows_in (slot_lex (get_or code j 0) ∷ [])
unfolding follows_in slot_lex lex_of or_lone choose letter
follows_by [] zero = refl
follows_by [] (suc j) = refl
follows_by (c ∷ l) zero = first-follows (slot_lex c) (map slot_lex l) []
follows_by (c ∷ l) (suc j) = follows_by l j

module _ (b : Before) (r s : List (Lex Slot)) (e : follows_in r ≡ follows_in s) where
  marks-by-next : marks_here b r ≡ marks_here b s
  unfolding marks_here
  marks-by-next = ap (λ (f : Bool). not b.quoted && (f && (member b.first (bytes "KNTL") && not (letter_or_digit b.second || eqb b.second ampersand)))) e

  reads-by-next : (x : Lex Slot) → is_read_at b x r ≡ is_read_at b x s
  unfolding is_read_at
  reads-by-next (byte c) = ap (λ (m : Bool). not (eqb b.first 0 && letter_or_digit c) && not (eqb c 39 && m)) marks-by-next
  reads-by-next mark = marks-by-next
  reads-by-next (ref n) = refl
  reads-by-next lone = refl

-- ---- the test from a place on

unfoldable pub read_from : Bool → Bytes → ℕ → State → Bool
read_from quotes code i t = is_read quotes t.odd (before_of t) (map slot_lex (drop i code))

and-nested : (a b c : Bool) → (a && (b && c)) ≡ ((a && b) && c)
and-nested true b c = refl
and-nested false b c = refl

module _ (quotes : Bool) (code : Bytes) where
  pub read-start : is_field quotes (map slot_lex code) ≡ read_from quotes code 0 no_trail
  unfolding is_field read_from no_trail before_of field_start
  read-start = refl

  module _ (i : ℕ) (t : State) where
    pub read-end : length code ≤ i → read_from quotes code i t ≡ not t.odd
    unfolding read_from is_read
    read-end h = ap (λ l. is_read quotes t.odd (before_of t) (map slot_lex l)) (drop_of_length-le code h)

    module _ (h : i < length code) {c next : ℕ} (is_c : c ≡ get_or code i 0) (is-next : next ≡ get_or code (i + 1) 0) where
      x : Lex Slot
      x = slot_lex c

      cut : map slot_lex (drop i code) ≡ x ∷ map slot_lex (drop (i + 1) code)
      unfolding x
      cut = ap (map slot_lex) (drop-cons code i 0 h) ∙ (λ j. slot_lex (sym is_c j) ∷ map slot_lex (drop (sym (add-one i) j) code))

      read-on : read_from quotes code i t ≡ (reads_by t (slot_lex c) (slot_lex next ∷ []) && read_from quotes code (i + 1) (trail_after quotes t (slot_lex c)))
      unfolding read_from is_read reads_by trail_after after_lexeme before_of x
      read-on =
          let rest = map slot_lex (drop (i + 1) code) in
          let on = read_from quotes code (i + 1) (trail_after quotes t x) in
          ap (is_read quotes t.odd (before_of t)) cut
          ∙ (ap (λ (b : Bool). b && ((not t.odd || eqb (byte_of x) ampersand) && on)) (reads-by-next (before_of t) rest (slot_lex next ∷ []) (follows_by code (i + 1) ∙ ap (λ n. follows_in (slot_lex n ∷ [])) (sym is-next)) x)
          ∙ and-nested (is_read_at (before_of t) x (slot_lex next ∷ [])) (not t.odd || eqb (byte_of x) ampersand) on)

      pub read-stop : reads_by t (slot_lex c) (slot_lex next ∷ []) ≡ false → read_from quotes code i t ≡ false
      read-stop e = read-on ∙ ap (λ (b : Bool). b && read_from quotes code (i + 1) (trail_after quotes t (slot_lex c))) e

      pub read_next : reads_by t (slot_lex c) (slot_lex next ∷ []) ≡ true → {u : State} → u ≡ trail_after quotes t (slot_lex c) → read_from quotes code i t ≡ read_from quotes code (i + 1) u
      read_next e {u} f = read-on ∙ (ap (λ (b : Bool). b && read_from quotes code (i + 1) (trail_after quotes t (slot_lex c))) e ∙ ap (read_from quotes code (i + 1)) (sym f))
