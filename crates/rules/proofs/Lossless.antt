-- Reading loses no byte: the lexemes of a field, the fields of a line and the lines of a file give back what was read.
use Prim.Native.Nat.{ℕ}
use mathlib.Core.Path.{◌≡◌, refl, ap, ◌∙◌}
use mathlib.Core.Bool.{Bool, true, false}
use mathlib.Core.Logic.{◌⊎◌, inl, inr}
use mathlib.Core.List.{List, [], ◌∷◌, ◌++◌, append_assoc}
use lib.Dec.{eqb}
use lib.ListN.{take-append-drop}
use borrow.Author.Tests.{eqb-true}
use Rattle.text.specs.Bytes.{Bytes}
use Rattle.text.specs.Characters.{letter, digit, letter_or_digit}
use Rattle.rules.specs.Choice.{choose, on_first}
use Rattle.rules.specs.Lexemes.{ampersand, apostrophe, Lex, byte, mark, ref, lone, byte_of, Before, is_mark, after, marked, Mode, in_text, after_ampersand, in_symbol, symbols, lexed, unlexed}
use Rattle.rules.specs.Fields.{newline, lines_of, Fields, fields_of}
use Rattle.rules.proofs.Choices.{either, and_left}

-- the bytes that a reader of symbols has read and not yet handed on
abbrev pending : Mode → Bytes
pending in_text = []
pending after_ampersand = ampersand ∷ []
pending (in_symbol n) = ampersand ∷ n

-- what reading symbols gives has the bytes that were pending, and those that were read
abbrev Keeps : Bytes → List (Lex Bytes) → Type 0
Keeps s x = unlexed x ≡ s

symbols-back : (m : Mode) (x : List (Lex Bytes)) → unlexed (symbols m x) ≡ pending m ++ unlexed x
unfolding symbols unlexed byte_of choose letter digit letter_or_digit
symbols-back in_text [] = refl
symbols-back after_ampersand [] = refl
symbols-back (in_symbol n) [] = refl
symbols-back in_text (byte c ∷ x) =
    either (Keeps (c ∷ unlexed x)) (eqb c ampersand) (λ e. rw (eqb-true c ampersand e) (symbols-back after_ampersand x)) (λ e. ap (c ∷◌) (symbols-back in_text x))
symbols-back in_text (mark ∷ x) = ap (apostrophe ∷◌) (symbols-back in_text x)
symbols-back in_text (ref n ∷ x) = ap (λ t. ampersand ∷ (n ++ t)) (symbols-back in_text x)
symbols-back in_text (lone ∷ x) = ap (ampersand ∷◌) (symbols-back in_text x)
symbols-back after_ampersand (byte c ∷ x) =
    either (Keeps (ampersand ∷ (c ∷ unlexed x))) (eqb c ampersand)
    (λ e. rw (eqb-true c ampersand e) (ap (λ t. ampersand ∷ (ampersand ∷ t)) (symbols-back in_text x)))
    (λ e. either (Keeps (ampersand ∷ (c ∷ unlexed x))) (letter c) (λ f. symbols-back (in_symbol (c ∷ [])) x)
    (λ f. ap (λ t. ampersand ∷ (c ∷ t)) (symbols-back in_text x)))
symbols-back after_ampersand (mark ∷ x) = ap (λ t. ampersand ∷ (apostrophe ∷ t)) (symbols-back in_text x)
symbols-back after_ampersand (ref n ∷ x) = ap (λ t. ampersand ∷ (ampersand ∷ (n ++ t))) (symbols-back in_text x)
symbols-back after_ampersand (lone ∷ x) = ap (λ t. ampersand ∷ (ampersand ∷ t)) (symbols-back in_text x)
symbols-back (in_symbol n) (byte c ∷ x) =
    let P = Keeps (ampersand ∷ (n ++ (c ∷ unlexed x))) in
    either P (letter_or_digit c) (λ e. symbols-back (in_symbol (n ++ (c ∷ []))) x ∙ rw append_assoc)
    (λ e. either P (eqb c ampersand) (λ f. rw (eqb-true c ampersand f) (ap (λ t. ampersand ∷ (n ++ t)) (symbols-back after_ampersand x)))
    (λ f. ap (λ t. ampersand ∷ (n ++ (c ∷ t))) (symbols-back in_text x)))
symbols-back (in_symbol n) (mark ∷ x) = ap (λ t. ampersand ∷ (n ++ (apostrophe ∷ t))) (symbols-back in_text x)
symbols-back (in_symbol n) (ref k ∷ x) = ap (λ t. ampersand ∷ (n ++ (ampersand ∷ (k ++ t)))) (symbols-back in_text x)
symbols-back (in_symbol n) (lone ∷ x) = ap (λ t. ampersand ∷ (n ++ (ampersand ∷ t))) (symbols-back in_text x)

-- a mark is an apostrophe
pub mark-is : (b : Before) (c : ℕ) (s : Bytes) → is_mark b c s ≡ true → c ≡ apostrophe
unfolding is_mark
mark-is b c s h = eqb-true c apostrophe (and_left (eqb c apostrophe) _ h)

marked-back : (quotes : Bool) (b : Before) (s : Bytes) → unlexed (marked quotes b s) ≡ s
unfolding marked unlexed
marked-back quotes b [] = refl
marked-back quotes b (c ∷ s) =
    either (λ x. unlexed (x ∷ marked quotes (after quotes b c s) s) ≡ c ∷ s) (is_mark b c s)
    (λ e. rw (mark-is b c s e) (ap (apostrophe ∷◌) (marked-back quotes (after quotes b apostrophe s) s)))
    (λ e. ap (c ∷◌) (marked-back quotes (after quotes b c s) s))

pub lexed-back : (quotes : Bool) (s : Bytes) → unlexed (lexed quotes s) ≡ s
unfolding lexed
lexed-back quotes s = symbols-back in_text (marked quotes _ s) ∙ marked-back quotes _ s

-- ---- fields

-- all that a line's fields hold, in their order
abbrev pub joined_fields : Fields → Bytes
joined_fields f = f.name ++ (f.gap ++ (f.operation ++ (f.gap₂ ++ (f.operand ++ f.remarks))))

pub fields_back : (l : Bytes) → joined_fields (fields_of l) ≡ l
unfolding fields_of
fields_back l = simp take-append-drop

pub lossless : (l : Bytes)
    → unlexed (lexed false (fields_of l).name) ++ ((fields_of l).gap ++ (unlexed (lexed false (fields_of l).operation) ++ ((fields_of l).gap₂
    ++ (unlexed (lexed true (fields_of l).operand) ++ (fields_of l).remarks)))) ≡ l
lossless l = simp lexed-back (fields_back l)

-- ---- lines

-- lines, each with its newline
abbrev pub with_newlines : List Bytes → Bytes
with_newlines [] = []
with_newlines (l ∷ ls) = l ++ (newline ∷ with_newlines ls)

-- the lines hold these bytes, or these and a last newline
abbrev pub Holds : Bytes → List Bytes → Type 0
Holds s ls = (with_newlines ls ≡ s) ⊎ (with_newlines ls ≡ s ++ (newline ∷ []))

-- one more byte in front
longer : (c : ℕ) (s : Bytes) (ls : List Bytes) → Holds s ls → Holds (c ∷ s) (on_first c ls)
unfolding on_first
longer c s [] (inl e) = inr (rw (← e) refl)
longer c [] [] (inr e) = inr refl
longer c (d ∷ s) [] (inr e) = inr cc
longer c s (l ∷ ls) (inl e) = inl (ap (c ∷◌) e)
longer c s (l ∷ ls) (inr e) = inr (ap (c ∷◌) e)

broken : (s : Bytes) (ls : List Bytes) → Holds s ls → Holds (newline ∷ s) ([] ∷ ls)
broken s ls (inl e) = inl (ap (newline ∷◌) e)
broken s ls (inr e) = inr (ap (newline ∷◌) e)

pub lines-back : (s : Bytes) → (with_newlines (lines_of s) ≡ s) ⊎ (with_newlines (lines_of s) ≡ s ++ (newline ∷ []))
unfolding lines_of
lines-back [] = inl refl
lines-back (c ∷ s) =
    either (Holds (c ∷ s)) (eqb c newline) (λ e. rw (eqb-true c newline e) (broken s (lines_of s) (lines-back s))) (λ e. longer c s (lines_of s) (lines-back s))
