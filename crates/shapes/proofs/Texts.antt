-- Codes stand for the text bytes of their lexemes: so a condition ends at the same place, and codes are plain where lexemes are. Assumes nothing.
use Prim.Native.Nat.{ℕ, suc, pred, ◌≤◌, ◌<◌}
use native.Mathlib.Omega.{arith}
use mathlib.Core.Path.{◌≡◌, refl, ap, sym, ◌∙◌}
use mathlib.Core.Bool.{Bool, ◌&&◌, not, and_assoc}
use mathlib.Core.List.{List, [], ◌∷◌, ◌++◌, map}
use lib.Dec.{eqb, ltb}
use borrow.Author.Tests.{ltb-true, lt-ltb, le-ltb}
use Rattle.text.specs.Bytes.{Bytes}
use Rattle.text.specs.Characters.{in_set}
use Rattle.rules.specs.Choice.{choose, every, passed}
use Rattle.rules.specs.Lexemes.{ampersand, Lex, byte, mark, ref, lone, byte_of, is_plain, unlexed, Inside, outside, enters}
use Rattle.rules.specs.Statement.{pairs_first, starts_open, condition_end}
use Rattle.rules.proofs.Choices.{chosen, either, and_left, and_right}
use Rattle.rules.proofs.ReadLines.{InSet, every-behind}
use Rattle.deck.specs.Coders.{own_code}
use Rattle.deck.proofs.Fits.{in-set-small}
use Rattle.deck.proofs.Lists.{map-map}
use Rattle.rules.specs.Grammar.{Kind}
use Rattle.coding.specs.Coded.{code_by}
use Rattle.grammar.specs.Tokens.{lex_of, toks_at}
use Rattle.shapes.specs.Shapes.{is_plain_code}

-- ---- lists with the same text bytes

module _ {R S : Type 0} (h : Lex R → Lex S) where
  -- each lexeme has the text byte that it had
  abbrev pub Same : List (Lex R) → Type 0
  Same [] = Unit {0}
  Same (x ∷ s) = (byte_of (h x) ≡ byte_of x) × Same s

  enters-same : (i : Inside) (x : Lex R) → byte_of (h x) ≡ byte_of x → enters i (h x) ≡ enters i x
  unfolding enters
  enters-same i x e = ap (λ (b : ℕ). record { quoted = choose (eqb b 39) (not i.quoted) i.quoted; depth = choose i.quoted i.depth (choose (eqb b 40) (suc i.depth) (choose (eqb b 41) (pred i.depth) i.depth)) }) e

  pairs-same : (i : Inside) (x : Lex R) → byte_of (h x) ≡ byte_of x → pairs_first i (h x) ≡ pairs_first i x
  unfolding pairs_first
  pairs-same i x e = ap (λ (b : ℕ). eqb b 41 && (not i.quoted && eqb i.depth 1)) e

  passed-same : (x : List (Lex R)) (i : Inside) → Same x → passed pairs_first enters i (map h x) ≡ passed pairs_first enters i x
  unfolding passed
  passed-same [] i k = refl
  passed-same (x ∷ s) i k =
      (λ j. choose (pairs-same i x k.0 j) 0 (suc (passed pairs_first enters (enters-same i x k.0 j) (map h s))))
      ∙ ap (λ (n : ℕ). choose (pairs_first i x) 0 (suc n)) (passed-same s (enters i x) k.1)

  pub condition-same : (x : List (Lex R)) → Same x → condition_end (map h x) ≡ condition_end x
  unfolding condition_end starts_open choose
  condition-same [] k = refl
  condition-same (x ∷ s) k = λ j. choose (eqb (k.0 j) 40) (suc (passed-same (x ∷ s) outside k j)) 0

-- ---- codes

-- the byte of a variable symbol is no text
abbrev pub High : (Bytes → ℕ) → Type 0
High g = (n : Bytes) → own_code ≤ g n

module _ (kinds : Bytes) (g : Bytes → ℕ) (high : High g) where
  abbrev toks : Lex Bytes → Lex Kind
  toks y = lex_of kinds (code_by g y)

  text_same : (c : ℕ) → c < 127 → byte_of (lex_of kinds c) ≡ c
  unfolding lex_of byte_of
  text_same c h = ap byte_of (chosen (byte c) _ (lt-ltb c 127 h))

  abbrev NoText : Lex Kind → Type 0
  NoText y = byte_of y ≡ 0

  no_text : (b : ℕ) → 128 ≤ b → NoText (lex_of kinds b)
  unfolding lex_of byte_of
  no_text b h =
      either NoText (ltb b 127) (λ e. absurd (omega (arith, ltb-true b 127 e)))
      (λ e. either NoText (eqb b 127) (λ e. refl)
      (λ e. either NoText (ltb b 224) (λ e. refl)
      (λ e. either NoText (eqb b 224) (λ e. refl) (λ e. either NoText (eqb b 225) (λ e. refl) (λ e. either NoText (eqb b 226) (λ e. refl) (λ e. refl))))))

  codes_same : (x : List (Lex Bytes)) → InSet (unlexed x) → Same toks x
  unfolding code_by unlexed every lex_of byte_of choose
  codes_same [] h = tt
  codes_same (byte c ∷ x) h = (text_same c (in-set-small c (and_left (in_set c) _ h)), codes_same x (and_right (in_set c) _ h))
  codes_same (mark ∷ x) h = (refl, codes_same x (and_right (in_set 39) _ h))
  codes_same (ref n ∷ x) h = (no_text (g n) (high n), codes_same x (every-behind in_set n (unlexed x) (and_right (in_set ampersand) _ h)))
  codes_same (lone ∷ x) h = (refl, codes_same x (and_right (in_set ampersand) _ h))

  -- a condition ends at the same place in codes
  pub condition-coded : (x : List (Lex Bytes)) → InSet (unlexed x) → condition_end (toks_at kinds (map (code_by g) x) 0) ≡ condition_end x
  unfolding toks_at
  condition-coded x h = ap condition_end (map-map (code_by g) (lex_of kinds) (λ y. refl) x) ∙ condition-same toks x (codes_same x h)

module _ (g : Bytes → ℕ) (high : High g) where
  plain_code : (x : List (Lex Bytes)) → InSet (unlexed x) → is_plain_code (map (code_by g) x) ≡ every is_plain x
  unfolding is_plain_code code_by unlexed every is_plain
  plain_code [] h = refl
  plain_code (byte c ∷ x) h =
      let k : c < 128 = omega (arith, in-set-small c (and_left (in_set c) _ h)) in
      λ j. lt-ltb c own_code k j && plain_code x (and_right (in_set c) _ h) j
  plain_code (mark ∷ x) h = plain_code x (and_right (in_set 39) _ h)
  plain_code (ref n ∷ x) h = ap (λ (b : Bool). b && every (λ b. ltb b own_code) (map (code_by g) x)) (le-ltb (g n) own_code (high n))
  plain_code (lone ∷ x) h = refl

  plain-append : (s t : Bytes) → is_plain_code (s ++ t) ≡ (is_plain_code s && is_plain_code t)
  unfolding is_plain_code every
  plain-append [] t = refl
  plain-append (b ∷ s) t = ap (λ (r : Bool). ltb b own_code && r) (plain-append s t) ∙ sym (and_assoc (ltb b own_code) _ _)

  -- codes of three fields are plain where all their lexemes are
  pub plain-codes : (x y z : List (Lex Bytes)) → InSet (unlexed x) → InSet (unlexed y) → InSet (unlexed z)
      → is_plain_code (map (code_by g) x ++ (map (code_by g) y ++ map (code_by g) z)) ≡ (every is_plain x && (every is_plain y && every is_plain z))
  plain-codes x y z h i j =
      plain-append (map (code_by g) x) _ ∙ ((λ t. plain_code x h t && plain-append (map (code_by g) y) (map (code_by g) z) t) ∙ (λ t. every is_plain x && (plain_code y i t && plain_code z j t)))
