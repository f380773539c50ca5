-- A scan that stops nowhere, lexeme by lexeme and by place; a field without spaces; a field's first byte. Assumes nothing.
use Prim.Native.Nat.{ℕ, suc, ◌+◌, ◌≤◌, ◌<◌}
use native.Mathlib.Omega.{arith}
use native.Mathlib.Numerals.{add-one}
use mathlib.Core.Path.{◌≡◌, refl, sym, ap, ◌∙◌}
use mathlib.Core.Bool.{Bool, true, false, ◌&&◌, ◌||◌, not}
use mathlib.Core.List.{List, [], ◌∷◌, map}
use lib.Dec.{eqb}
use lib.ListN.{length, get_or, drop, drop_of_length-le}
use lib.Seq.{drop-cons}
use borrow.Author.Tests.{eqb-true, eqb-false, eq-eqb, ne_eqb}
use Rattle.text.specs.Bytes.{Bytes}
use Rattle.rules.specs.Choice.{passed, every}
use Rattle.rules.specs.Lexemes.{space, Lex, byte_of, Inside, outside, enters}
use Rattle.rules.proofs.Choices.{by, chosen, passed_over}
use Rattle.deck.specs.Slots.{Slot}
use Rattle.deck.specs.AsRead.{is_end, starts_plainly}
use Rattle.deck_reading.specs.Reading.{slot_lex}
use Rattle.forms.specs.Pairs.{quoted_by, depth_by}
use Rattle.good_reading.specs.Trails.{ends_by}
use Rattle.good_reading.proofs.Lexes.{Stands, text, marks, refers, strays, stands}

-- ---- a scan that stops nowhere

module _ {R : Type 0} (stop : Inside → Lex R → Bool) where
  unfoldable pub endless : Inside → List (Lex R) → Bool
  endless i [] = true
  endless i (x ∷ s) = not (stop i x) && endless (enters i x) s

  pub endless-is : (i : Inside) (x : List (Lex R)) → eqb (passed stop enters i x) (length x) ≡ endless i x
  unfolding passed endless
  endless-is i [] = eq-eqb 0 0 refl
  endless-is i (x ∷ s) = by (stop i x)
      (λ e. ap (λ n. eqb n (suc (length s))) (chosen 0 (suc (passed stop enters (enters i x) s)) e) ∙ (ne_eqb 0 (suc (length s)) (λ z. omega (arith, z))
      ∙ sym (ap (λ (b : Bool). not b && endless (enters i x) s) e)))
      (λ e. ap (λ n. eqb n (suc (length s))) (passed_over 0 (suc (passed stop enters (enters i x) s)) e) ∙ (both (passed stop enters (enters i x) s) (length s)
      ∙ (endless-is (enters i x) s ∙ sym (ap (λ (b : Bool). not b && endless (enters i x) s) e))))
    where
      both : (n m : ℕ) → eqb (suc n) (suc m) ≡ eqb n m
      both n m = by (eqb n m) (λ e. eq-eqb (suc n) (suc m) (ap suc (eqb-true n m e)) ∙ sym e)
          (λ e. let d = eqb-false n m e in ne_eqb (suc n) (suc m) (λ z. d (omega (arith, z))) ∙ sym e)

-- ---- an operand's, by place

unfoldable pub endless_from : Bool → Bytes → ℕ → Bool → ℕ → Bool
endless_from holds code i quoted depth = endless (is_end holds) (record { quoted = quoted; depth = depth }) (map slot_lex (drop i code))

module _ (holds : Bool) (code : Bytes) where
  pub endless-start : eqb (passed (is_end holds) enters outside (map slot_lex code)) (length (map slot_lex code)) ≡ endless_from holds code 0 false 0
  unfolding endless_from outside
  endless-start = endless-is (is_end holds) outside (map slot_lex code)

  module _ (i : ℕ) (quoted : Bool) (depth : ℕ) where
    pub endless-end : length code ≤ i → endless_from holds code i quoted depth ≡ true
    unfolding endless_from endless
    endless-end h = ap (λ l. endless (is_end holds) (record { quoted = quoted; depth = depth }) (map slot_lex l)) (drop_of_length-le code h)

    module _ (h : i < length code) {c : ℕ} (is_c : c ≡ byte_of (slot_lex (get_or code i 0))) where
      cut : map slot_lex (drop i code) ≡ slot_lex (get_or code i 0) ∷ map slot_lex (drop (i + 1) code)
      cut = ap (map slot_lex) (drop-cons code i 0 h) ∙ (λ j. slot_lex (get_or code i 0) ∷ map slot_lex (drop (sym (add-one i) j) code))

      onward : ℕ → Bool
      onward b = not (ends_by holds b quoted depth) && endless_from holds code (i + 1) (quoted_by b quoted) (depth_by b quoted depth)

      scanned : endless_from holds code i quoted depth ≡ onward c
      unfolding endless_from endless is_end enters ends_by quoted_by depth_by onward
      scanned = ap (endless (is_end holds) (record { quoted = quoted; depth = depth })) cut ∙ ap onward (sym is_c)

      pub endless-stop : ends_by holds c quoted depth ≡ true → endless_from holds code i quoted depth ≡ false
      unfolding onward
      endless-stop e = scanned ∙ ap (λ (b : Bool). not b && endless_from holds code (i + 1) (quoted_by c quoted) (depth_by c quoted depth)) e

      pub endless-on : ends_by holds c quoted depth ≡ false → {q : Bool} {d : ℕ} → q ≡ quoted_by c quoted → d ≡ depth_by c quoted depth → endless_from holds code i quoted depth ≡ endless_from holds code (i + 1) q d
      unfolding onward
      endless-on e {q} {d} eq ed = scanned ∙ (ap (λ (b : Bool). not b && endless_from holds code (i + 1) (quoted_by c quoted) (depth_by c quoted depth)) e ∙ (λ j. endless_from holds code (i + 1) (sym eq j) (sym ed j)))

-- ---- tests of a text byte

-- a byte is this text byte if its lexeme is
pub same_byte : (c d : ℕ) → 0 < d → d < 127 → eqb c d ≡ eqb (byte_of (slot_lex c)) d
unfolding byte_of
same_byte c d z h = go (stands c)
  where
    none : 127 ≤ c → eqb c d ≡ eqb 0 d
    none k = ne_eqb c d (λ e. omega (arith, e)) ∙ sym (ne_eqb 0 d (λ e. omega (arith, e)))

    go : {x : Lex Slot} → Stands c x → eqb c d ≡ eqb (byte_of x) d
    go (text k) = refl
    go (marks e) = none (omega arith)
    go (refers s l m) = none (omega arith)
    go (strays k) = none (omega arith)

pub every-lexeme : (test : Lex Slot → Bool) (code : Bytes) → every test (map slot_lex code) ≡ every (λ b. test (slot_lex b)) code
unfolding every
every-lexeme test [] = refl
every-lexeme test (b ∷ l) = ap (λ t. test (slot_lex b) && t) (every-lexeme test l)

pub spaceless : (code : Bytes) → every (λ (b : ℕ). not (eqb b 32)) code ≡ every (λ y. not (eqb (byte_of y) space)) (map slot_lex code)
unfolding every
spaceless [] = refl
spaceless (b ∷ l) = λ j. not (same_byte b 32 (omega arith) (omega arith) j) && spaceless l j

pub plainly-starts : (code : Bytes) → not (eqb (get_or code 0 0) 46 || eqb (get_or code 0 0) 42) ≡ starts_plainly (map slot_lex code)
unfolding starts_plainly
plainly-starts [] = refl
plainly-starts (c ∷ l) = λ i. not (same_byte c 46 (omega arith) (omega arith) i || same_byte c 42 (omega arith) (omega arith) i)
