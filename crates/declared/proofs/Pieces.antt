-- A text's lexemes without marks, piece by piece: a byte, a pair of ampersands, a symbol, or an ampersand left over. Assumes nothing.
use Prim.Native.Nat.{ℕ, suc}
use mathlib.Core.Path.{◌≡◌, refl, ap, sym, ◌∙◌, subst}
use mathlib.Core.Bool.{true, false, false≢true}
use mathlib.Core.List.{[], ◌∷◌, ◌++◌, map, append_assoc, append-nil}
use lib.Dec.{eqb}
use lib.ListN.{get_or, take, drop}
use borrow.Author.Tests.{eqb-true}
use Rattle.text.specs.Bytes.{Bytes}
use Rattle.text.specs.Characters.{letter, letter_or_digit}
use Rattle.rules.specs.Choice.{choose, run}
use Rattle.rules.specs.Lexemes.{ampersand, byte, ref, lone, byte_of, in_symbol, symbols}
use Rattle.rules.proofs.Choices.{by, chosen, passed_over}
use Rattle.declared.proofs.Unmarked.{Lexes, text_lexed}

-- a letter is no ampersand
pub letter-other : (c : ℕ) → letter c ≡ true → eqb c ampersand ≡ false
unfolding letter
letter-other c t = by (eqb c ampersand) (λ e. absurd (false≢true (sym (ap letter (eqb-true c ampersand e)) ∙ t))) (λ e. e)

pub text-byte : (c : ℕ) (s : Bytes) → eqb c ampersand ≡ false → text_lexed (c ∷ s) ≡ byte c ∷ text_lexed s
unfolding text_lexed symbols byte_of
text-byte c s e = passed_over _ _ e

pub text-pair : (s : Bytes) → text_lexed (ampersand ∷ (ampersand ∷ s)) ≡ byte ampersand ∷ (byte ampersand ∷ text_lexed s)
unfolding text_lexed symbols byte_of choose
text-pair s = refl

pub text-lone : (s : Bytes) → eqb (get_or s 0 0) ampersand ≡ false → letter (get_or s 0 0) ≡ false → text_lexed (ampersand ∷ s) ≡ lone ∷ text_lexed s
unfolding text_lexed symbols byte_of choose
text-lone [] e h = refl
text-lone (c ∷ s) e h = passed_over _ _ e ∙ (passed_over _ _ h ∙ ap (λ (t : Lexes). lone ∷ t) (sym (passed_over _ _ e)))

-- a symbol that has begun: all letters and digits from here on are its
symbol-rest : (s n : Bytes) → symbols (in_symbol n) (map byte s) ≡ ref (n ++ take (run letter_or_digit s) s) ∷ text_lexed (drop (run letter_or_digit s) s)
unfolding text_lexed symbols byte_of run
symbol-rest [] n = ap (λ (m : Bytes). ref m ∷ []) (sym (append-nil n))
symbol-rest (c ∷ s) n =
    by (letter_or_digit c)
    (λ e. chosen _ _ e ∙ (symbol-rest s (n ++ (c ∷ [])) ∙ rw (chosen (suc (run letter_or_digit s)) 0 e, append_assoc)))
    (λ e. rw (passed_over (suc (run letter_or_digit s)) 0 e, append-nil)
    (passed_over _ _ e ∙ by (eqb c ampersand)
    (λ f. chosen _ _ f ∙ ap (λ (t : Lexes). ref n ∷ t) (sym (chosen _ _ f)))
    (λ f. passed_over _ _ f ∙ ap (λ (t : Lexes). ref n ∷ t) (sym (passed_over _ _ f)))))

pub text-symbol : (c : ℕ) (s : Bytes) → letter c ≡ true → text_lexed (ampersand ∷ (c ∷ s)) ≡ ref (c ∷ take (run letter_or_digit s) s) ∷ text_lexed (drop (run letter_or_digit s) s)
unfolding text_lexed symbols byte_of choose
text-symbol c s e = passed_over _ _ (letter-other c e) ∙ (chosen _ _ e ∙ symbol-rest s (c ∷ []))

-- what holds for each kind of piece that stands first holds for every text that has one
pub by-piece : (P : Bytes → Type 0)
    → ((c : ℕ) (s : Bytes) → eqb c ampersand ≡ false → P (c ∷ s))
    → ((s : Bytes) → P (ampersand ∷ (ampersand ∷ s)))
    → ((c : ℕ) (s : Bytes) → letter c ≡ true → P (ampersand ∷ (c ∷ s)))
    → ((s : Bytes) → eqb (get_or s 0 0) ampersand ≡ false → letter (get_or s 0 0) ≡ false → P (ampersand ∷ s))
    → (c : ℕ) (s : Bytes) → P (c ∷ s)
unfolding letter
by-piece P other pair symbol left c s =
    by (eqb c ampersand) (λ e. subst (λ (k : ℕ). P (k ∷ s)) (sym (eqb-true c ampersand e)) (behind s)) (λ e. other c s e)
  where
    behind : (s : Bytes) → P (ampersand ∷ s)
    behind [] = left [] refl refl
    behind (d ∷ s) =
        by (eqb d ampersand) (λ e. subst (λ (k : ℕ). P (ampersand ∷ (k ∷ s))) (sym (eqb-true d ampersand e)) (pair s))
        (λ e. by (letter d) (λ f. symbol d s f) (λ f. left (d ∷ s) e f))
