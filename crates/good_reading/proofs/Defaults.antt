-- A default without bare commas and spaces: the scan over its lexemes is the two scans over its bytes. Assumes nothing.
use Prim.Native.Nat.{ℕ, suc, ◌+◌}
use native.Mathlib.Nat.{zero-add}
use mathlib.Core.Path.{◌≡◌, refl, sym, ap, ◌∙◌}
use mathlib.Core.Bool.{Bool, true, false, ◌&&◌, ◌||◌, not}
use mathlib.Core.List.{[], ◌∷◌, ◌++◌}
use lib.Dec.{eqb}
use lib.ListN.{length, drop}
use Rattle.text.specs.Bytes.{Bytes}
use Rattle.text.specs.Characters.{letter, digit, letter_or_digit}
use Rattle.rules.specs.Lexemes.{space, ampersand, comma, Lex, byte, ref, lone, byte_of, Before, after, field_start, marked, Mode, in_text, after_ampersand, in_symbol, symbols, lexed, Inside, outside, enters, is_bare}
use Rattle.rules.specs.Fields.{ends_operand, operand_end}
use Rattle.rules.proofs.Choices.{either}
use Rattle.deck.specs.AsRead.{is_end, is_bare_comma, is_read_default}
use Rattle.fields.specs.Cuts.{operand_end_at}
use Rattle.parts.specs.Parts.{bare_at}
use Rattle.parts.proofs.Clear.{Lexes, not-by, still, still-ampersand, still-letter, still-lettered}
use Rattle.good_reading.proofs.Endless.{endless, endless-is}

-- ---- a symbol's bytes stop no such scan

abbrev free : Inside → Lexes → Bool
free = endless is_bare_comma

no_stop : (i : Inside) (x : Lex Bytes) → eqb (byte_of x) comma ≡ false → eqb (byte_of x) space ≡ false → is_bare_comma i x ≡ false
unfolding is_bare_comma is_bare is_end
no_stop i x c s = λ j. c j && (not i.quoted && eqb i.depth 0) || s j && (not i.quoted && (not false || eqb i.depth 0))

skip : (i : Inside) (x : Lex Bytes) (s : Lexes) → eqb (byte_of x) comma ≡ false → eqb (byte_of x) space ≡ false → enters i x ≡ i → free i (x ∷ s) ≡ free i s
unfolding endless
skip i x s c p e = λ j. not (no_stop i x c p j) && free (e j) s

skip-ampersand : (i : Inside) (x : Lex Bytes) (s : Lexes) → eqb (byte_of x) ampersand ≡ true → free i (x ∷ s) ≡ free i s
skip-ampersand i x s e = skip i x s (not-by (λ k. eqb k ampersand) comma refl (byte_of x) e) (not-by (λ k. eqb k ampersand) space refl (byte_of x) e) (still-ampersand i x e)

skip-letter : (i : Inside) (x : Lex Bytes) (s : Lexes) → letter (byte_of x) ≡ true → free i (x ∷ s) ≡ free i s
unfolding letter
skip-letter i x s e = skip i x s (not-by letter comma refl (byte_of x) e) (not-by letter space refl (byte_of x) e) (still-letter i x e)

skip-lettered : (i : Inside) (x : Lex Bytes) (s : Lexes) → letter_or_digit (byte_of x) ≡ true → free i (x ∷ s) ≡ free i s
unfolding letter_or_digit letter digit
skip-lettered i x s e = skip i x s (not-by letter_or_digit comma refl (byte_of x) e) (not-by letter_or_digit space refl (byte_of x) e) (still-lettered i x e)

skip-lone : (i : Inside) (s : Lexes) → free i (lone ∷ s) ≡ free i s
unfolding byte_of
skip-lone i s = skip i lone s refl refl (still i lone refl refl refl)

skip-ref : (i : Inside) (n : Bytes) (s : Lexes) → free i (ref n ∷ s) ≡ free i s
unfolding byte_of
skip-ref i n s = skip i (ref n) s refl refl (still i (ref n) refl refl refl)

skip-byte : (i : Inside) (s : Lexes) → free i (byte ampersand ∷ s) ≡ free i s
unfolding byte_of
skip-byte i s = skip-ampersand i (byte ampersand) s refl

free-symbols : (m : Mode) (x : Lexes) (i : Inside) → free i (symbols m x) ≡ free i x
unfolding symbols endless
free-symbols in_text [] i = refl
free-symbols after_ampersand [] i = skip-lone i []
free-symbols (in_symbol n) [] i = skip-ref i n []
free-symbols in_text (x ∷ s) i =
    either (λ (r : Lexes). free i r ≡ free i (x ∷ s)) (eqb (byte_of x) ampersand)
    (λ e. free-symbols after_ampersand s i ∙ sym (skip-ampersand i x s e))
    (λ e. ap (λ (b : Bool). not (is_bare_comma i x) && b) (free-symbols in_text s (enters i x)))
free-symbols after_ampersand (x ∷ s) i =
    either (λ (r : Lexes). free i r ≡ free i (x ∷ s)) (eqb (byte_of x) ampersand)
    (λ e. skip-byte i (byte ampersand ∷ symbols in_text s) ∙ (skip-byte i (symbols in_text s) ∙ (free-symbols in_text s i ∙ sym (skip-ampersand i x s e))))
    (λ e. either (λ (r : Lexes). free i r ≡ free i (x ∷ s)) (letter (byte_of x))
    (λ f. free-symbols (in_symbol (byte_of x ∷ [])) s i ∙ sym (skip-letter i x s f))
    (λ f. skip-lone i (x ∷ symbols in_text s) ∙ ap (λ (b : Bool). not (is_bare_comma i x) && b) (free-symbols in_text s (enters i x))))
free-symbols (in_symbol n) (x ∷ s) i =
    either (λ (r : Lexes). free i r ≡ free i (x ∷ s)) (letter_or_digit (byte_of x))
    (λ e. free-symbols (in_symbol (n ++ (byte_of x ∷ []))) s i ∙ sym (skip-lettered i x s e))
    (λ e. either (λ (r : Lexes). free i r ≡ free i (x ∷ s)) (eqb (byte_of x) ampersand)
    (λ f. skip-ref i n (symbols after_ampersand s) ∙ (free-symbols after_ampersand s i ∙ sym (skip-ampersand i x s f)))
    (λ f. skip-ref i n (x ∷ symbols in_text s) ∙ ap (λ (b : Bool). not (is_bare_comma i x) && b) (free-symbols in_text s (enters i x))))

-- ---- two scans for one

either-none : (a b p q : Bool) → (not (a || b) && (p && q)) ≡ ((not a && p) && (not b && q))
either-none true b p q = refl
either-none false true true q = refl
either-none false true false q = refl
either-none false false p q = refl

free-both : (i : Inside) (x : Lexes) → free i x ≡ (endless (is_bare comma) i x && endless (is_end false) i x)
unfolding endless is_bare_comma
free-both i [] = refl
free-both i (x ∷ s) =
    ap (λ (b : Bool). not (is_bare comma i x || is_end false i x) && b) (free-both (enters i x) s)
    ∙ either-none (is_bare comma i x) (is_end false i x) (endless (is_bare comma) (enters i x) s) (endless (is_end false) (enters i x) s)

marked-length : (b : Before) (s : Bytes) → length (marked {R = Bytes} true b s) ≡ length s
unfolding marked
marked-length b [] = refl
marked-length b (c ∷ s) = ap suc (marked-length (after true b c s) s)

pub default-is : (s : Bytes) (n m : ℕ) → n ≡ 0 + bare_at comma (drop 0 s) → m ≡ operand_end_at false s 0 → (eqb n (length s) && eqb m (length s)) ≡ is_read_default s
unfolding is_read_default lexed bare_at operand_end_at operand_end ends_operand is_end
default-is s n m e f =
    let x : Lexes = marked true field_start s in
    let l : length x ≡ length s = marked-length field_start s in
    let c : eqb n (length s) ≡ endless (is_bare comma) outside x = (λ i. eqb ((e ∙ zero-add _) i) (sym l i)) ∙ endless-is (is_bare comma) outside x in
    let d : eqb m (length s) ≡ endless (is_end false) outside x = (λ i. eqb ((f ∙ zero-add _) i) (sym l i)) ∙ endless-is (is_end false) outside x in
    (λ i. c i && d i) ∙ (sym (free-both outside x) ∙ (sym (free-symbols in_text x outside) ∙ sym (endless-is is_bare_comma outside (symbols in_text x))))
