-- A field by tables that hold a macro's names: its bytes tell whether a symbol in it is not known, and else stand for its lexemes with their kinds. Assumes nothing.
use Prim.Native.Nat.{ℕ, ◌≤◌}
use native.Mathlib.Omega.{arith}
use mathlib.Core.Path.{◌≡◌, refl, ap, sym, ◌∙◌}
use mathlib.Core.Bool.{Bool, true, false, ◌||◌}
use mathlib.Core.List.{List, [], ◌∷◌, map}
use lib.Dec.{eqb}
use lib.ListN.{length, length-map}
use borrow.Author.Tests.{eq-eqb, ne_eqb}
use Rattle.text.specs.Bytes.{Bytes}
use Rattle.text.specs.Characters.{in_set}
use Rattle.rules.specs.Choice.{choose, every, any}
use Rattle.rules.specs.Lexemes.{Lex, byte, mark, ref, lone, lexed, unlexed, refs_in}
use Rattle.rules.specs.Statement.{Set, map_lex}
use Rattle.rules.specs.Grammar.{Kind}
use Rattle.rules.specs.Library.{Names}
use Rattle.rules.specs.Faults.{kind_named, has_unknown}
use Rattle.rules.proofs.Choices.{and_left, and_right}
use Rattle.rules.proofs.Logic.{clash, or_left, or_right}
use Rattle.rules.proofs.Lossless.{lexed-back}
use Rattle.rules.proofs.ReadLines.{every-behind, lexemes-short}
use Rattle.deck.specs.Coders.{unknown_code}
use Rattle.deck.proofs.Fits.{in-set-small}
use Rattle.names.specs.Names.{slot_byte}
use Rattle.coding.specs.Coded.{code_by, field_code}
use Rattle.grammar.specs.Tokens.{lex_of, toks_at}
use Rattle.symbols.specs.Held.{Held, unknown_in}
use Rattle.symbols.proofs.Known.{lex-text, Reads, known, none, reads, unknown-byte}

-- ---- lengths

module _ (q : Bool) (own global shared s : Bytes) where
  -- one byte a lexeme
  pub coded-each : length (field_code q own global shared s) ≡ length (lexed q s)
  unfolding field_code
  coded-each = length-map (lexed q s) (code_by (slot_byte own global shared))

  pub coded-length : length (field_code q own global shared s) ≤ length s
  coded-length = omega (arith, coded-each, lexemes-short (lexed q s), ap length (lexed-back q s))

-- ---- symbols

module _ (names : Names) (globals : List (Bytes × Set)) (own global shared kinds : Bytes) (h : Held names globals own global shared kinds) where
  abbrev code : Lex Bytes → ℕ
  code = code_by (slot_byte own global shared)

  pub unknown-lexemes : (x : List (Lex Bytes)) → every in_set (unlexed x) ≡ true → has_unknown names x ≡ unknown_in (map code x)
  unfolding has_unknown unknown_in refs_in code_by unlexed any every
  unknown-lexemes [] e = refl
  unknown-lexemes (byte c ∷ x) e =
      let l = in-set-small c (and_left (in_set c) _ e) in
      unknown-lexemes x (and_right (in_set c) _ e) ∙ sym (ap (◌|| unknown_in (map code x)) (ne_eqb c unknown_code (λ f. omega arith)))
  unknown-lexemes (mark ∷ x) e = unknown-lexemes x (and_right (in_set 39) _ e)
  unknown-lexemes (ref n ∷ x) e =
      λ i. unknown-byte names globals own global shared kinds h n i || unknown-lexemes x (every-behind in_set n (unlexed x) (and_right (in_set 38) _ e)) i
  unknown-lexemes (lone ∷ x) e = unknown-lexemes x (and_right (in_set 38) _ e)

  lex-ref : (n : Bytes) → eqb (slot_byte own global shared n) unknown_code ≡ false → lex_of kinds (slot_byte own global shared n) ≡ ref (kind_named names n)
  lex-ref n e = tell (slot_byte own global shared n) (kind_named names n) e (reads names globals own global shared kinds h n)
    where
      tell : (b : ℕ) (k : Kind) → eqb b unknown_code ≡ false → Reads kinds n b k → lex_of kinds b ≡ ref k
      tell b k e (known f g l) = l
      tell b k e (none f g) = clash (eq-eqb b unknown_code f) e

  pub kinded-lexemes : (x : List (Lex Bytes)) → every in_set (unlexed x) ≡ true → unknown_in (map code x) ≡ false
      → map (lex_of kinds) (map code x) ≡ map (map_lex (kind_named names)) x
  unfolding unknown_in code_by unlexed any every map_lex lex_of choose
  kinded-lexemes [] e f = refl
  kinded-lexemes (byte c ∷ x) e f =
      λ i. lex-text kinds c (in-set-small c (and_left (in_set c) _ e)) i ∷ kinded-lexemes x (and_right (in_set c) _ e) (or_right (eqb c unknown_code) _ f) i
  kinded-lexemes (mark ∷ x) e f = ap (mark ∷◌) (kinded-lexemes x (and_right (in_set 39) _ e) f)
  kinded-lexemes (ref n ∷ x) e f =
      λ i. lex-ref n (or_left (eqb (slot_byte own global shared n) unknown_code) _ f) i
      ∷ kinded-lexemes x (every-behind in_set n (unlexed x) (and_right (in_set 38) _ e)) (or_right (eqb (slot_byte own global shared n) unknown_code) _ f) i
  kinded-lexemes (lone ∷ x) e f = ap (lone ∷◌) (kinded-lexemes x (and_right (in_set 38) _ e) f)

  module _ (q : Bool) (s : Bytes) (e : every in_set s ≡ true) where
    lexed-in : every in_set (unlexed (lexed q s)) ≡ true
    lexed-in = ap (every in_set) (lexed-back q s) ∙ e

    pub unknown-in : has_unknown names (lexed q s) ≡ unknown_in (field_code q own global shared s)
    unfolding field_code
    unknown-in = unknown-lexemes (lexed q s) lexed-in

    pub kinded : unknown_in (field_code q own global shared s) ≡ false → toks_at kinds (field_code q own global shared s) 0 ≡ map (map_lex (kind_named names)) (lexed q s)
    unfolding field_code toks_at
    kinded f = kinded-lexemes (lexed q s) lexed-in f
