-- A sequence symbol is told from the bytes of a field's lexemes as it is told from the bytes that were read. Assumes nothing.
use Prim.Native.Nat.{ℕ, suc, ◌≤◌}
use native.Mathlib.Omega.{arith}
use mathlib.Core.Path.{◌≡◌, refl, ap, sym, ◌∙◌}
use mathlib.Core.Bool.{true, false, ◌&&◌, ◌||◌, false≢true, and-false}
use mathlib.Core.List.{List, [], ◌∷◌, ◌++◌, map}
use lib.Dec.{eqb, leb}
use lib.ListN.{length, take}
use borrow.Author.Tests.{le-leb, lt-leb, ne_eqb, eqb-true}
use Rattle.text.specs.Bytes.{Bytes}
use Rattle.text.specs.Characters.{letter, digit, letter_or_digit}
use Rattle.rules.specs.Choice.{choose, run, every}
use Rattle.rules.specs.Limits.{name_limit}
use Rattle.rules.specs.Lexemes.{period, ampersand, apostrophe, Lex, byte, mark, ref, lone, unlexed, is_name, sequence_start, is_sequence}
use Rattle.rules.proofs.Choices.{chosen, passed_over, by}
use Rattle.deck.specs.Slots.{Slot, own, shared, list, index, section, nowhere}
use Rattle.deck.specs.Coders.{mark_code, no_code, slot_code}
use Rattle.names.specs.Names.{names_in, slot_in, slot_byte}
use Rattle.coding.specs.Coded.{code_by}

-- ---- a name that is broken off

letter-counts : (c : ℕ) → letter_or_digit c ≡ false → letter c ≡ false
unfolding letter_or_digit
letter-counts c h = by (letter c) (λ e. absurd (false≢true (sym h ∙ ap (λ b. b || digit c) e))) (λ e. e)

-- letters and digits to the end are all of them
all-counted : (s : Bytes) → run letter_or_digit s ≡ length s → every letter_or_digit s ≡ true
unfolding run every
all-counted [] h = refl
all-counted (c ∷ s) h = by (letter_or_digit c)
    (λ e. let q = chosen (suc (run letter_or_digit s)) 0 e in (λ i. e i && all-counted s (omega (arith, q, h)) i))
    (λ e. let q = passed_over (suc (run letter_or_digit s)) 0 e in absurd (omega (arith, q, h)))

broken-name : (limit : ℕ) (s : Bytes) → every letter_or_digit s ≡ false → is_name limit s ≡ false
unfolding is_name every
broken-name limit [] h = absurd (false≢true (sym h))
broken-name limit (c ∷ s) h = by (letter_or_digit c)
    (λ e. by (eqb (run letter_or_digit s) (length s))
    (λ r. absurd (false≢true (sym h ∙ (λ i. e i && all-counted s (eqb-true (run letter_or_digit s) (length s) r) i))))
    (λ r. (λ i. letter c && (r i && leb (suc (length s)) limit)) ∙ and-false (letter c)))
    (λ e. ap (λ b. b && (eqb (run letter_or_digit s) (length s) && leb (suc (length s)) limit)) (letter-counts c e))

-- a byte at which the letters and digits end
module _ (c : ℕ) (s : Bytes) (h : letter_or_digit c ≡ false) where
  no_front : take (run letter_or_digit (c ∷ s)) (c ∷ s) ≡ []
  unfolding run
  no_front = ap (λ n. take n (c ∷ s)) (passed_over (suc (run letter_or_digit s)) 0 h)

  not-every : every letter_or_digit (c ∷ s) ≡ false
  unfolding every
  not-every = ap (λ b. b && every letter_or_digit s) h

  no_second : (p : ℕ) → sequence_start (p ∷ (c ∷ s)) ≡ []
  unfolding sequence_start
  no_second p = passed_over (c ∷ take (run letter_or_digit s) s) [] (ap (λ b. eqb p period && b) (letter-counts c h) ∙ and-false (eqb p period))

mark-ends : letter_or_digit mark_code ≡ false
unfolding letter_or_digit letter digit
mark-ends = refl

apostrophe-ends : letter_or_digit apostrophe ≡ false
unfolding letter_or_digit letter digit
apostrophe-ends = refl

lone-ends : letter_or_digit no_code ≡ false
unfolding letter_or_digit letter digit
lone-ends = refl

ampersand-ends : letter_or_digit ampersand ≡ false
unfolding letter_or_digit letter digit
ampersand-ends = refl

-- the same bytes, or both with one that is no letter or digit
data Agrees (s t : Bytes) : Type 0 where
  alike : s ≡ t → Agrees s t
  broken : every letter_or_digit s ≡ false → every letter_or_digit t ≡ false → Agrees s t

one_more : (c : ℕ) {s t : Bytes} → Agrees s t → Agrees (c ∷ s) (c ∷ t)
unfolding every
one_more c (alike e) = alike (ap (c ∷◌) e)
one_more c (broken g h) = broken (ap (λ b. letter_or_digit c && b) g ∙ and-false (letter_or_digit c)) (ap (λ b. letter_or_digit c && b) h ∙ and-false (letter_or_digit c))

same_name : (limit : ℕ) {s t : Bytes} → Agrees s t → is_name limit s ≡ is_name limit t
same_name limit (alike e) = ap (is_name limit) e
same_name limit {s = s} {t = t} (broken g h) = broken-name limit s g ∙ sym (broken-name limit t h)

-- a text that starts with another byte than a period
module _ (p : ℕ) (h : eqb p period ≡ false) where
  no_start : (s : Bytes) → sequence_start (p ∷ s) ≡ []
  unfolding sequence_start
  no_start [] = refl
  no_start (c ∷ s) = passed_over (c ∷ take (run letter_or_digit s) s) [] (ap (λ b. b && letter c) h)

  no-sequence : (s : Bytes) → is_sequence (p ∷ s) ≡ false
  unfolding is_sequence
  no-sequence s = ap (λ b. b && is_name name_limit s) h

-- ---- bytes of lexemes, and bytes that were read

module _ (f : Bytes → ℕ) (f-ends : (n : Bytes) → letter_or_digit (f n) ≡ false) where
  abbrev coded : List (Lex Bytes) → Bytes
  coded x = map (code_by f) x

  -- the letters and digits at the start
  front-coded : (x : List (Lex Bytes)) → take (run letter_or_digit (coded x)) (coded x) ≡ take (run letter_or_digit (unlexed x)) (unlexed x)
  unfolding code_by unlexed run
  front-coded [] = refl
  front-coded (byte c ∷ x) = by (letter_or_digit c)
      (λ e. ap (λ n. take n (c ∷ coded x)) (chosen (suc (run letter_or_digit (coded x))) 0 e) ∙ (ap (c ∷◌) (front-coded x)
      ∙ sym (ap (λ n. take n (c ∷ unlexed x)) (chosen (suc (run letter_or_digit (unlexed x))) 0 e))))
      (λ e. ap (λ n. take n (c ∷ coded x)) (passed_over (suc (run letter_or_digit (coded x))) 0 e)
      ∙ sym (ap (λ n. take n (c ∷ unlexed x)) (passed_over (suc (run letter_or_digit (unlexed x))) 0 e)))
  front-coded (mark ∷ x) = no_front mark_code (coded x) mark-ends ∙ sym (no_front apostrophe (unlexed x) apostrophe-ends)
  front-coded (ref n ∷ x) = no_front (f n) (coded x) (f-ends n) ∙ sym (no_front ampersand (n ++ unlexed x) ampersand-ends)
  front-coded (lone ∷ x) = no_front no_code (coded x) lone-ends ∙ sym (no_front ampersand (unlexed x) ampersand-ends)

  agrees-coded : (x : List (Lex Bytes)) → Agrees (coded x) (unlexed x)
  unfolding code_by unlexed
  agrees-coded [] = alike refl
  agrees-coded (byte c ∷ x) = one_more c (agrees-coded x)
  agrees-coded (mark ∷ x) = broken (not-every mark_code (coded x) mark-ends) (not-every apostrophe (unlexed x) apostrophe-ends)
  agrees-coded (ref n ∷ x) = broken (not-every (f n) (coded x) (f-ends n)) (not-every ampersand (n ++ unlexed x) ampersand-ends)
  agrees-coded (lone ∷ x) = broken (not-every no_code (coded x) lone-ends) (not-every ampersand (unlexed x) ampersand-ends)

  -- behind the first byte
  second-coded : (p : ℕ) (x : List (Lex Bytes)) → sequence_start (p ∷ coded x) ≡ sequence_start (p ∷ unlexed x)
  unfolding code_by unlexed sequence_start
  second-coded p [] = refl
  second-coded p (byte c ∷ x) = ap (λ s. choose (eqb p period && letter c) (c ∷ s) []) (front-coded x)
  second-coded p (mark ∷ x) = no_second mark_code (coded x) mark-ends p ∙ sym (no_second apostrophe (unlexed x) apostrophe-ends p)
  second-coded p (ref n ∷ x) = no_second (f n) (coded x) (f-ends n) p ∙ sym (no_second ampersand (n ++ unlexed x) ampersand-ends p)
  second-coded p (lone ∷ x) = no_second no_code (coded x) lone-ends p ∙ sym (no_second ampersand (unlexed x) ampersand-ends p)

  module _ (f-other : (n : Bytes) → eqb (f n) 46 ≡ false) where
    pub start-coded : (x : List (Lex Bytes)) → sequence_start (map (code_by f) x) ≡ sequence_start (unlexed x)
    unfolding code_by unlexed
    start-coded [] = refl
    start-coded (byte c ∷ x) = second-coded c x
    start-coded (mark ∷ x) = no_start mark_code refl (coded x) ∙ sym (no_start apostrophe refl (unlexed x))
    start-coded (ref n ∷ x) = no_start (f n) (f-other n) (coded x) ∙ sym (no_start ampersand refl (n ++ unlexed x))
    start-coded (lone ∷ x) = no_start no_code refl (coded x) ∙ sym (no_start ampersand refl (unlexed x))

    pub sequence-coded : (x : List (Lex Bytes)) → is_sequence (map (code_by f) x) ≡ is_sequence (unlexed x)
    unfolding code_by unlexed is_sequence
    sequence-coded [] = refl
    sequence-coded (byte c ∷ x) = ap (λ b. eqb c period && b) (same_name name_limit (agrees-coded x))
    sequence-coded (mark ∷ x) = refl
    sequence-coded (ref n ∷ x) = no-sequence (f n) (f-other n) (coded x)
    sequence-coded (lone ∷ x) = refl

-- ---- the bytes of variable symbols in a deck

slot-high : (s : Slot) → 128 ≤ slot_code s
unfolding slot_code
slot-high (own p) = omega arith
slot-high (shared g) = omega arith
slot-high list = omega arith
slot-high index = omega arith
slot-high section = omega arith
slot-high nowhere = omega arith

high-ends : (c : ℕ) → 128 ≤ c → letter_or_digit c ≡ false
unfolding letter_or_digit letter digit
high-ends c h = λ i.
    (le-leb 65 c (omega arith) i && lt-leb c 90 (omega arith) i
    || (ne_eqb c 36 (λ e. omega (arith, e)) i || (ne_eqb c 35 (λ e. omega (arith, e)) i || (ne_eqb c 64 (λ e. omega (arith, e)) i || ne_eqb c 95 (λ e. omega (arith, e)) i))))
    || (le-leb 48 c (omega arith) i && lt-leb c 57 (omega arith) i)

module _ (mine global globals n : Bytes) where
  pub slot-byte-high : 128 ≤ slot_byte mine global globals n
  unfolding slot_byte
  slot-byte-high = let h = slot-high (slot_in (names_in mine) (names_in global) (names_in globals) n) in omega (arith, h)

  pub slot-byte-ends : letter_or_digit (slot_byte mine global globals n) ≡ false
  slot-byte-ends = high-ends (slot_byte mine global globals n) slot-byte-high

  pub slot-byte-other : eqb (slot_byte mine global globals n) 46 ≡ false
  slot-byte-other = ne_eqb (slot_byte mine global globals n) 46 (λ e. let h = slot-byte-high in omega (arith, e, h))
