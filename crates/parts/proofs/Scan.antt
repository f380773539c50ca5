-- The scan for a byte outside quotes and parentheses, by its state, is the definition's. Assumes nothing.
use Prim.Native.Nat.{ℕ, suc, ◌+◌, ◌≤◌, ◌<◌}
use native.Mathlib.Numerals.{add-one}
use native.Mathlib.Omega.{arith}
use mathlib.Core.Path.{◌≡◌, refl, ap, sym, ◌∙◌}
use mathlib.Core.Bool.{Bool, true, false, ◌&&◌, ◌||◌, not}
use mathlib.Core.List.{◌∷◌}
use lib.Dec.{eqb}
use lib.ListN.{length, get_or, drop, drop_of_length-le}
use lib.Seq.{drop-cons}
use borrow.Author.Tests.{eqb-true, eqb-false, eq-eqb, ne_eqb}
use Rattle.text.specs.Bytes.{Bytes}
use Rattle.rules.specs.Choice.{choose, passed}
use Rattle.rules.specs.Lexemes.{Lex, byte, mark, byte_of, is_mark, after, marked, enters, is_bare}
use Rattle.rules.proofs.Choices.{by, chosen, passed_over}
use Rattle.fields.specs.declared.Seen.{Seen as State}
use Rattle.fields.specs.Seen.{before_of, inside_of, seen_after}
use Rattle.fields.proofs.Scan.{marks-is, before-after, inside-after}
use Rattle.parts.specs.Parts.{bare_here}

-- the lexeme that a byte is
abbrev pub lexeme : State → ℕ → Bytes → Lex Bytes
lexeme s d rest = choose (is_mark (before_of s) d rest) mark (byte d)

eqb-turned : (a b : ℕ) → eqb a b ≡ eqb b a
eqb-turned a b = by (eqb a b) (λ e. e ∙ sym (eq-eqb b a (sym (eqb-true a b e)))) (λ e. e ∙ sym (ne_eqb b a (λ q. eqb-false a b e (sym q))))

byte-told : (m : Bool) (d c : ℕ) (p q : Bool) → ((m && eqb c 0 || not m && eqb d c) && p && q) ≡ (eqb (byte_of {R = Bytes} (choose m mark (byte d))) c && (p && q))
unfolding byte_of choose
byte-told true d c p q = ap (λ b. (b || false) && p && q) (eqb-turned c 0) ∙ nested (eqb 0 c) p q
  where
    nested : (a p q : Bool) → ((a || false) && p && q) ≡ (a && (p && q))
    nested true p q = refl
    nested false p q = refl
byte-told false d c p q = nested (eqb d c) p q
  where
    nested : (a p q : Bool) → ((false || a) && p && q) ≡ (a && (p && q))
    nested true p q = refl
    nested false p q = refl

module _ (l : Bytes) (j : ℕ) (s : State) (d c : ℕ) where
  pub bare-is : bare_here c s d (get_or l j 0) ≡ is_bare c (inside_of s) (lexeme s d (drop j l))
  unfolding bare_here is_bare inside_of
  bare-is =
      ap (λ m. (m && eqb c 0 || not m && eqb d c) && not s.quoted && eqb s.depth 0) (marks-is l j s d)
      ∙ byte-told (is_mark (before_of s) d (drop j l)) d c (not s.quoted) (eqb s.depth 0)

-- ---- the scan, by place

-- where the scan stops that has seen `s` before place i
unfoldable pub stops_from : ℕ → Bytes → ℕ → State → ℕ
stops_from c l i s = i + passed (is_bare c) enters (inside_of s) (marked {R = Bytes} true (before_of s) (drop i l))

module _ (c : ℕ) (l : Bytes) (i : ℕ) (s : State) where
  pub scan-end : length l ≤ i → stops_from c l i s ≡ i
  unfolding stops_from passed marked
  scan-end h = rw (drop_of_length-le l h) (omega arith)

  module _ (h : i < length l) where
    abbrev d : ℕ
    d = get_or l i 0

    abbrev rest : Bytes
    rest = drop (i + 1) l

    abbrev on : ℕ
    on = passed (is_bare c) enters (enters (inside_of s) (lexeme s d rest)) (marked {R = Bytes} true (after true (before_of s) d rest) rest)

    pub first-marked : marked {R = Bytes} true (before_of s) (drop i l) ≡ lexeme s d rest ∷ marked true (after true (before_of s) d rest) rest
    unfolding marked
    first-marked = rw (drop-cons l i 0, add-one)

    pub scan-stop : bare_here c s d (get_or l (i + 1) 0) ≡ true → stops_from c l i s ≡ i
    unfolding stops_from passed
    scan-stop e = rw (first-marked, chosen 0 (suc on) (sym (bare-is l (i + 1) s d c) ∙ e)) (omega arith)

    pub scan-on : bare_here c s d (get_or l (i + 1) 0) ≡ false → stops_from c l i s ≡ stops_from c l (i + 1) (seen_after s d (get_or l (i + 1) 0))
    unfolding stops_from passed
    scan-on e =
        let moved : i + suc on ≡ i + 1 + on = omega arith in
        ap (λ z. i + passed (is_bare c) enters (inside_of s) z) first-marked
        ∙ (ap (i +◌) (passed_over 0 (suc on) (sym (bare-is l (i + 1) s d c) ∙ e))
        ∙ (moved ∙ sym (λ k. i + 1 + passed (is_bare c) enters (inside-after l (i + 1) s d k) (marked {R = Bytes} true (before-after l (i + 1) s d k) rest))))
