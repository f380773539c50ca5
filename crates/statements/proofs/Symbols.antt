-- Names and sequence symbols, as code tests them: by the first bytes and the end of the letters and digits. Assumes nothing.
use Prim.Native.Nat.{ℕ, suc, ◌+◌, ◌-◌, ◌≤◌, min}
use native.Mathlib.Omega.{arith}
use mathlib.Core.Path.{◌≡◌, refl, ap, sym, ◌∙◌}
use mathlib.Core.Bool.{Bool, true, false, ◌&&◌, false≢true, and-false}
use mathlib.Core.List.{[], ◌∷◌}
use lib.Dec.{eqb, leb}
use lib.ListN.{length, get_or, take, drop, length-take, length-drop}
use lib.Seq.{length-take-le, take_all}
use borrow.Author.Tests.{eq-eqb, ne_eqb, eqb-true, eqb-false}
use Rattle.text.specs.Bytes.{Bytes}
use Rattle.text.specs.Characters.{letter, letter_or_digit}
use Rattle.rules.specs.Choice.{run}
use Rattle.rules.specs.Limits.{name_limit}
use Rattle.rules.specs.Lexemes.{period, is_name, sequence_start, is_sequence}
use Rattle.rules.proofs.Choices.{chosen, passed_over, by}
pub use Rattle.rules.proofs.Scanning.{run-within}
use Rattle.chars.specs.Ends.{symbol_end}

-- a name, by its first byte, its end and its length
pub name-is : (limit : ℕ) (s : Bytes) → (letter (get_or s 0 0) && (eqb (symbol_end s 1) (length s) && leb (length s) limit)) ≡ is_name limit s
unfolding is_name symbol_end letter
name-is limit [] = refl
name-is limit (c ∷ s) = ap (λ b. letter c && (b && leb (suc (length s)) limit)) (same_test (run letter_or_digit s) (length s))
  where
    same_test : (m n : ℕ) → eqb (1 + m) (suc n) ≡ eqb m n
    same_test m n = by (eqb m n)
        (λ e. eq-eqb (1 + m) (suc n) (let h = eqb-true m n e in omega arith) ∙ sym e)
        (λ e. ne_eqb (1 + m) (suc n) (λ q. eqb-false m n e (omega arith)) ∙ sym e)

-- a sequence symbol at the start of a text
abbrev starts : Bytes → Bool
starts s = eqb (get_or s 0 0) period && letter (get_or s 1 0)

pub start-length : (s : Bytes) → starts s ≡ true → symbol_end s 2 - 1 ≡ length (sequence_start s)
unfolding sequence_start symbol_end letter
start-length [] e = absurd (false≢true e)
start-length (p ∷ []) e = absurd (false≢true (sym (and-false (eqb p period)) ∙ e))
start-length (p ∷ (c ∷ s)) e =
    let k = length-take-le (run letter_or_digit s) s (run-within letter_or_digit s) in
    let n : 2 + run letter_or_digit s - 1 ≡ suc (length (take (run letter_or_digit s) s)) = omega (arith, k) in
    n ∙ sym (ap length (chosen (c ∷ take (run letter_or_digit s) s) [] e))

pub no_start : (s : Bytes) → starts s ≡ false → 0 ≡ length (sequence_start s)
unfolding sequence_start
no_start [] e = refl
no_start (p ∷ []) e = refl
no_start (p ∷ (c ∷ s)) e = sym (ap length (passed_over (c ∷ take (run letter_or_digit s) s) [] e))

-- the symbol stands behind the period
pub start-part : (s : Bytes) → sequence_start s ≡ take (length (sequence_start s)) (drop 1 s)
unfolding sequence_start
start-part [] = refl
start-part (p ∷ []) = refl
start-part (p ∷ (c ∷ s)) = by (eqb p period && letter c)
    (λ e. let q = chosen (c ∷ take (run letter_or_digit s) s) [] e in rw q (ap (λ n. c ∷ take n s) (sym (length-take-le (run letter_or_digit s) s (run-within letter_or_digit s)))))
    (λ e. rw (passed_over (c ∷ take (run letter_or_digit s) s) [] e) refl)

pub start-within : (s : Bytes) → length (sequence_start s) ≤ length s - 1
start-within s =
    let n = length (sequence_start s) in
    let h : n ≡ min n (length s - 1) = ap length (start-part s) ∙ (length-take n (drop 1 s) ∙ ap (min n) (length-drop 1 s)) in
    omega (arith, h)

-- the bytes behind the first
pub behind-first : (s : Bytes) → take (length s - 1) (drop 1 s) ≡ drop 1 s
behind-first s = take_all (length s - 1) (drop 1 s) (rw (length-drop 1 s) (omega arith))

-- a sequence symbol has its period
pub sequence-there : (s : Bytes) → is_sequence s ≡ true → 1 ≤ length s
unfolding is_sequence
sequence-there [] e = absurd (false≢true e)
sequence-there (p ∷ n) e = omega arith

pub sequence-is : (s : Bytes) → 1 ≤ length s → (eqb (get_or s 0 0) period && is_name name_limit (take (length s - 1) (drop 1 s))) ≡ is_sequence s
unfolding is_sequence
sequence-is [] h = absurd (omega arith)
sequence-is (p ∷ n) h = ap (λ t. eqb p period && is_name name_limit t) (behind-first (p ∷ n))

pub no-sequence : (s : Bytes) → length s ≡ 0 → false ≡ is_sequence s
unfolding is_sequence
no-sequence [] h = refl
no-sequence (p ∷ n) h = absurd (omega (arith, h))
