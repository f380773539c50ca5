-- Decimal numbers, digit by digit. Assumes nothing.
use Prim.Native.Nat.{ℕ, ◌+◌, ◌*◌, ◌-◌, ◌≤◌, ◌<◌}
use native.Mathlib.Omega.{arith}
use native.Mathlib.Nat.{le_refl, lt_of_lt_of_le}
use mathlib.Core.Path.{◌≡◌, refl, ap, ◌∙◌}
use mathlib.Core.Bool.{true, false, ◌||◌}
use mathlib.Core.List.{List, [], ◌∷◌, map}
use lib.Dec.{leb, ltb}
use lib.ListN.{take, drop}
use borrow.Author.Tests.{lt-ltb, le-ltb, leb-true}
use Rattle.text.specs.Bytes.{Bytes}
use Rattle.text.specs.Characters.{digit, letter}
use Rattle.rules.specs.Choice.{choose, run}
use Rattle.rules.specs.Lexemes.{Lex, byte, byte_of}
use Rattle.rules.specs.Values.{spelt}
use Rattle.rules.specs.Grammar.{Kind, Got, got, plain, broken, decimal_number}
use Rattle.rules.specs.Form.{Nothing, form}
use Rattle.rules.proofs.Choices.{and_left, and_right, chosen, passed_over}

pub digit-bounds : (c : ℕ) → digit c ≡ true → (48 ≤ c) × (c ≤ 57)
unfolding digit
digit-bounds c h = (leb-true 48 c (and_left (leb 48 c) (leb c 57) h), leb-true c 57 (and_right (leb 48 c) (leb c 57) h))

pub digit-some : (c : ℕ) → digit c ≡ true → 0 < c
digit-some c h = let low = (digit-bounds c h).0 in omega arith

abbrev digits : List (Lex Kind) → ℕ
digits x = run (λ y. digit (byte_of y)) x

-- a number that starts at `start`, after n for the digits before x
abbrev ended : List (Lex Kind) → ℕ → List (Lex Kind) → ℕ → Got Nothing Kind
ended start n x k = choose (ltb 2147483647 (spelt n (map byte_of (take k x))) || letter (plain (drop k x))) (broken start) (got tt (drop k x))

unfoldable pub onward : List (Lex Kind) → ℕ → List (Lex Kind) → Got Nothing Kind
onward start n x = ended start n x (digits x)

pub onward-starts : (inner : List (Lex Kind) → Got Nothing Kind) (x : List (Lex Kind)) → onward x 0 x ≡ decimal_number form inner x
unfolding onward decimal_number form
onward-starts inner x = refl

pub onward-more : (start : List (Lex Kind)) (n c : ℕ) (x : List (Lex Kind)) → digit c ≡ true → onward start n (byte c ∷ x) ≡ onward start (n * 10 + (c - 48)) x
unfolding onward run byte_of spelt
onward-more start n c x h = ap (ended start n (byte c ∷ x)) (chosen _ _ h)

no-digits : (x : List (Lex Kind)) → digit (plain x) ≡ false → digits x ≡ 0
unfolding run plain
no-digits [] h = refl
no-digits (y ∷ x) h = passed_over _ _ h

module _ (start : List (Lex Kind)) (n : ℕ) (x : List (Lex Kind)) (few : n ≤ 2147483647) {c : ℕ} (read : c ≡ plain x) (none : digit c ≡ false) where
  ends : onward start n x ≡ ended start n x 0
  unfolding onward
  ends = ap (ended start n x) (no-digits x (rw (← read) none))

  pub onward-letter : letter c ≡ true → onward start n x ≡ broken start
  unfolding spelt choose
  onward-letter h = ends ∙ rw (le-ltb 2147483647 n few, ← read, h)

  pub onward-ends : letter c ≡ false → onward start n x ≡ got tt x
  unfolding spelt choose
  onward-ends h = ends ∙ rw (le-ltb 2147483647 n few, ← read, h)

spelt-grows : (n : ℕ) (s : Bytes) → n ≤ spelt n s
unfolding spelt
spelt-grows n [] = le_refl n
spelt-grows n (c ∷ s) = let more = spelt-grows (n * 10 + (c - 48)) s in omega arith

pub onward-over : (start : List (Lex Kind)) (n : ℕ) (x : List (Lex Kind)) → 2147483647 < n → onward start n x ≡ broken start
unfolding onward
onward-over start n x h =
    let s = map byte_of (take (digits x) x) in
    let all = spelt-grows n s in
    let over : 2147483647 < spelt n s = lt_of_lt_of_le h all in
    chosen _ _ (ap (λ b. b || letter (plain (drop (digits x) x))) (lt-ltb 2147483647 (spelt n s) over))
