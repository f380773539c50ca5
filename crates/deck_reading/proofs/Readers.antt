-- What the readers of one thing tell where they return. Assumes nothing.
use Prim.Native.Nat.{ℕ, suc, ◌+◌, ◌-◌, ◌≤◌, ◌<◌}
use mathlib.Core.Path.{◌≡◌, refl, sym, ap, ◌∙◌}
use mathlib.Core.Bool.{true, false, true≢false}
use mathlib.Core.List.{[], ◌∷◌, map}
use mathlib.Core.Option.{Option, none, some}
use native.Mathlib.Omega.{arith}
use native.Mathlib.Numerals.{add-one}
use lib.Dec.{eqb, ltb}
use lib.ListN.{length, get_or, drop, drop_of_length-le}
use lib.Seq.{drop-cons}
use borrow.Author.Tests.{ltb-true, ltb-false, le-ltb, eqb-true, eqb-false, ne_eqb}
use Rattle.text.specs.Bytes.{Bytes}
use Rattle.rules.specs.Choice.{choose, every}
use Rattle.rules.specs.Lexemes.{Lex}
use Rattle.rules.specs.Statement.{Set}
use Rattle.rules.proofs.Choices.{by, either}
use Rattle.deck.specs.Coding.{after, get_byte, byte as a_byte, two, made, via, list_of}
use Rattle.deck.specs.Slots.{Slot}
use Rattle.deck.specs.Coders.{lex_of, lexeme, field, string, set_of, kind, flag_of, flag}
use Rattle.deck_reading.specs.Reading.{or_lone, slot_lex, two_at, run_at, found, run_found, below_found, field_at, flag_at, or_first, set_at, kinds_at, sets_found, does_found, reads}
use Rattle.std.specs.Prelude.{Option as Found, Some, None}
use Rattle.deck_reading.proofs.Runs.{two-there, two-missing, found-is, found-in, found-out, OneByte, not_found, found-good, below-read}

-- ---- bytes of strings, lexemes and kinds

-- a byte below 227 is a lexeme's, and no other is
lex-is : (b : ℕ) → ltb b 227 ≡ true → lex_of b ≡ some (slot_lex b)
unfolding lex_of slot_lex or_lone choose
lex-is b h =
    let small = ltb-true b 227 h in
    let P : Option (Lex Slot) → Type 0 = λ o. o ≡ some (or_lone o) in
    either P (ltb b 127) (λ e. refl) λ e. either P (eqb b 127) (λ e. refl) λ e. either P (ltb b 192) (λ e. refl) λ e. either P (ltb b 224) (λ e. refl) λ e.
    either P (eqb b 224) (λ e. refl) λ f. either P (eqb b 225) (λ e. refl) λ g. either P (eqb b 226) (λ e. refl) λ h.
    (let lo = ltb-false b 224 e in let x = eqb-false b 224 f in let y = eqb-false b 225 g in let z = eqb-false b 226 h in absurd (omega (arith, x, y, z)))

lex-none : (b : ℕ) → ltb b 227 ≡ false → lex_of b ≡ none
unfolding lex_of choose
lex-none b h =
    let big = ltb-false b 227 h in
    let a : 127 ≤ b = omega arith in
    let c : 192 ≤ b = omega arith in
    let d : 224 ≤ b = omega arith in
    let P : Option (Lex Slot) → Type 0 = λ o. o ≡ none in
    rw (le-ltb b 127 a, le-ltb b 192 c, le-ltb b 224 d)
    (either P (eqb b 127) (λ e. absurd (omega (arith, eqb-true b 127 e))) λ e. either P (eqb b 224) (λ e. absurd (omega (arith, eqb-true b 224 e))) λ e.
    either P (eqb b 225) (λ e. absurd (omega (arith, eqb-true b 225 e))) λ e. either P (eqb b 226) (λ e. absurd (omega (arith, eqb-true b 226 e))) λ e. refl)

pub lexeme-one : OneByte lexeme (λ b. ltb b 227) slot_lex
unfolding lexeme via a_byte get_byte after made
lexeme-one = record { stop = refl; yes = λ b t e. rw (lex-is b e); no = λ b t e. rw (lex-none b e) }

set_is : (b : ℕ) → ltb b 3 ≡ true → set_of b ≡ some (set_at b)
unfolding set_of set_at or_first choose
set_is b h =
    let small = ltb-true b 3 h in
    let P : Option Set → Type 0 = λ o. o ≡ some (or_first o) in
    either P (eqb b 0) (λ e. refl) λ e. either P (eqb b 1) (λ e. refl) λ f. either P (eqb b 2) (λ e. refl) λ g.
    (let x = eqb-false b 0 e in let y = eqb-false b 1 f in let z = eqb-false b 2 g in absurd (omega (arith, x, y, z)))

pub set-none : (b : ℕ) → 3 ≤ b → set_of b ≡ none
unfolding set_of choose
set-none b big =
    let P : Option Set → Type 0 = λ o. o ≡ none in
    either P (eqb b 0) (λ e. absurd (omega (arith, eqb-true b 0 e))) λ e. either P (eqb b 1) (λ e. absurd (omega (arith, eqb-true b 1 e))) λ e.
    either P (eqb b 2) (λ e. absurd (omega (arith, eqb-true b 2 e))) λ e. refl

pub kind-one : OneByte kind (λ b. ltb b 3) set_at
unfolding kind via a_byte get_byte after made
kind-one = record { stop = refl; yes = λ b t e. rw (set_is b e); no = λ b t e. rw (set-none b (ltb-false b 3 e)) }

pub byte_one : OneByte a_byte (λ b. true) (λ b. b)
unfolding a_byte get_byte
byte_one = record { stop = refl; yes = λ b t e. refl; no = λ b t e. absurd (true≢false e) }

pub map_same : (s : Bytes) → map (λ (b : ℕ). b) s ≡ s
map_same [] = refl
map_same (b ∷ s) = ap (λ t. b ∷ t) (map_same s)

all-good : (s : Bytes) → every (λ (b : ℕ). true) s ≡ true
unfolding every
all-good [] = refl
all-good (b ∷ s) = all-good s

module _ (s : Bytes) (at : ℕ) where
  -- ---- strings
  pub string-read : (r : Found ℕ) → r ≡ run_found s at → reads (run_at s at) s r ≡ string.get (drop at s)
  unfolding reads string
  string-read (Some n) e =
      ap (λ (t : Bytes). some (t, drop n s)) (sym (map_same (run_at s at))) ∙ found-good byte_one s at e (all-good (run_at s at))
  string-read None e = not_found byte_one s at e

  -- ---- fields and kinds
  pub field-read : (r : Found ℕ) → r ≡ below_found 227 s at → reads (field_at s at) s r ≡ field.get (drop at s)
  unfolding field field_at
  field-read r e = ap (reads (map slot_lex (run_at s at)) s) e ∙ below-read 227 lexeme-one s at

  pub kinds-read : (r : Found ℕ) → r ≡ below_found 3 s at → reads (kinds_at s at) s r ≡ (list_of kind).get (drop at s)
  unfolding kinds_at
  kinds-read r e = ap (reads (map set_at (run_at s at)) s) e ∙ below-read 3 kind-one s at

  -- ---- numbers
  pub two-read : (r : Found ℕ) → r ≡ found s (at + 2) → reads (two_at s at) s r ≡ two.get (drop at s)
  unfolding reads
  two-read (Some n) e = let h : at + 2 ≤ length s = found-in s e in ap (λ (i : ℕ). some (two_at s at, drop i s)) (found-is s e) ∙ sym (two-there s at (omega arith))
  two-read None e = let h : length s < at + 2 = found-out s e in let k : length s - at < 2 = omega arith in sym (two-missing s at k)

  -- ---- yes or no
  flag-there : at < length s → flag.get (drop at s) ≡ made (flag_of (get_or s at 0)) (drop (at + 1) s)
  unfolding flag via a_byte get_byte after
  flag-there h = let e : at + 1 ≡ suc at = add-one at in rw (drop-cons s at 0 h, e)

  flag-missing : length s ≤ at → none ≡ flag.get (drop at s)
  unfolding flag via a_byte get_byte after
  flag-missing h = rw (drop_of_length-le s h)

  pub flag-bad : 1 < get_or s at 0 → reads (flag_at s at) s None ≡ flag.get (drop at s)
  unfolding reads flag_of choose made
  flag-bad k =
      let x = ne_eqb (get_or s at 0) 0 (λ e. omega (arith, e)) in
      let y = ne_eqb (get_or s at 0) 1 (λ e. omega (arith, e)) in
      by (ltb at (length s)) (λ h. sym (flag-there (ltb-true at (length s) h) ∙ rw (x, y))) (λ h. flag-missing (ltb-false at (length s) h))

  pub flag-read : (r : Found ℕ) → r ≡ found s (at + 1) → get_or s at 0 ≤ 1 → reads (flag_at s at) s r ≡ flag.get (drop at s)
  unfolding reads flag_at flag_of choose made
  flag-read (Some n) e k =
      let h : at + 1 ≤ length s = found-in s e in
      let l : at < length s = omega arith in
      ap (λ (i : ℕ). some (eqb (get_or s at 0) 1, drop i s)) (found-is s e)
      ∙ sym (flag-there l ∙ either (λ o. made o (drop (at + 1) s) ≡ some (eqb (get_or s at 0) 1, drop (at + 1) s)) (eqb (get_or s at 0) 0)
      (λ e. let z : eqb (get_or s at 0) 1 ≡ false = ne_eqb (get_or s at 0) 1 (λ f. omega (arith, f, eqb-true (get_or s at 0) 0 e)) in rw z)
      λ e. let x = eqb-false (get_or s at 0) 0 e in let one : get_or s at 0 ≡ 1 = omega (arith, x) in rw one)
  flag-read None e k = let h : length s < at + 1 = found-out s e in let l : length s ≤ at = omega arith in flag-missing l

-- ---- what a line does

pub no-does : (k : ℕ) → 11 ≤ k → None ≡ does_found k
unfolding does_found sets_found choose
no-does k h =
    let x : 3 ≤ k - 8 = omega arith in
    let n : (i : ℕ) → i < 11 → eqb k i ≡ false = λ i l. ne_eqb k i (λ e. omega (arith, e)) in
    rw (n 0 (omega arith), n 1 (omega arith), n 2 (omega arith), n 3 (omega arith), n 4 (omega arith), n 5 (omega arith), n 6 (omega arith), n 7 (omega arith), set-none (k - 8) x) refl
