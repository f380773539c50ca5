-- Quotes and parentheses pair among a text's lexemes as among its bytes, and by place. Assumes nothing.
use Prim.Native.Nat.{ℕ, ◌+◌, ◌≤◌, ◌<◌}
use mathlib.Core.Path.{◌≡◌, refl, ap, sym, ◌∙◌}
use mathlib.Core.Bool.{Bool, true, false, ◌&&◌, not}
use mathlib.Core.List.{[], ◌∷◌, ◌++◌}
use lib.Dec.{eqb}
use lib.ListN.{length, get_or, drop, drop_of_length-le}
use Rattle.text.specs.Bytes.{Bytes}
use Rattle.text.specs.Characters.{letter, digit, letter_or_digit}
use Rattle.rules.specs.Lexemes.{ampersand, closing, Lex, byte, ref, lone, byte_of, field_start, marked, Mode, in_text, after_ampersand, in_symbol, symbols, lexed, Inside, outside, enters, is_bare}
use Rattle.rules.specs.Calls.{pair_up}
use Rattle.rules.proofs.Choices.{either}
use Rattle.fields.specs.declared.Seen.{Seen as State}
use Rattle.fields.specs.Seen.{before_of, inside_of, seen_after, nothing_seen}
use Rattle.fields.proofs.Scan.{before-after, inside-after}
use Rattle.parts.specs.Parts.{bare_here}
use Rattle.parts.proofs.Scan.{bare-is, first-marked}
use Rattle.parts.proofs.Clear.{not-by, still, still-ampersand, still-letter, still-lettered}
use Rattle.declared.proofs.Unmarked.{Lexes}

-- ---- symbols pair with nothing

-- a lexeme that opens and closes nothing
over : (i : Inside) (x : Lex Bytes) (s : Lexes) → eqb (byte_of x) closing ≡ false → enters i x ≡ i → pair_up i (x ∷ s) ≡ pair_up i s
unfolding pair_up is_bare
over i x s c e = λ j. not (c j && (not i.quoted && eqb i.depth 0)) && pair_up (e j) s

module _ (i : Inside) (s : Lexes) where
  over-lone : pair_up i (lone ∷ s) ≡ pair_up i s
  unfolding byte_of
  over-lone = over i lone s refl (still i lone refl refl refl)

  over-ref : (n : Bytes) → pair_up i (ref n ∷ s) ≡ pair_up i s
  unfolding byte_of
  over-ref n = over i (ref n) s refl (still i (ref n) refl refl refl)

  over-pair : pair_up i (byte ampersand ∷ (byte ampersand ∷ s)) ≡ pair_up i s
  unfolding byte_of
  over-pair =
      let e = still i (byte ampersand) refl refl refl in
      over i (byte ampersand) (byte ampersand ∷ s) refl e ∙ over i (byte ampersand) s refl e

  over-ampersand : (x : Lex Bytes) → eqb (byte_of x) ampersand ≡ true → pair_up i (x ∷ s) ≡ pair_up i s
  over-ampersand x e = over i x s (not-by (λ k. eqb k ampersand) closing refl (byte_of x) e) (still-ampersand i x e)

  over-letter : (x : Lex Bytes) → letter (byte_of x) ≡ true → pair_up i (x ∷ s) ≡ pair_up i s
  unfolding letter
  over-letter x e = over i x s (not-by letter closing refl (byte_of x) e) (still-letter i x e)

  over-lettered : (x : Lex Bytes) → letter_or_digit (byte_of x) ≡ true → pair_up i (x ∷ s) ≡ pair_up i s
  unfolding letter_or_digit letter digit
  over-lettered x e = over i x s (not-by letter_or_digit closing refl (byte_of x) e) (still-lettered i x e)

-- the same lexeme before texts that pair alike
alike : (i : Inside) (x : Lex Bytes) (s t : Lexes) → ((k : Inside) → pair_up k s ≡ pair_up k t) → pair_up i (x ∷ s) ≡ pair_up i (x ∷ t)
unfolding pair_up
alike i x s t h = ap (λ (b : Bool). not (is_bare closing i x) && b) (h (enters i x))

pairs-symbols : (z : Lexes) (m : Mode) (i : Inside) → pair_up i (symbols m z) ≡ pair_up i z
unfolding symbols
pairs-symbols [] in_text i = refl
pairs-symbols [] after_ampersand i = over-lone i []
pairs-symbols [] (in_symbol n) i = over-ref i [] n
pairs-symbols (x ∷ s) in_text i =
    either (λ (r : Lexes). pair_up i r ≡ pair_up i (x ∷ s)) (eqb (byte_of x) ampersand)
    (λ e. pairs-symbols s after_ampersand i ∙ sym (over-ampersand i s x e))
    (λ e. alike i x (symbols in_text s) s (λ k. pairs-symbols s in_text k))
pairs-symbols (x ∷ s) after_ampersand i =
    either (λ (r : Lexes). pair_up i r ≡ pair_up i (x ∷ s)) (eqb (byte_of x) ampersand)
    (λ e. over-pair i (symbols in_text s) ∙ (pairs-symbols s in_text i ∙ sym (over-ampersand i s x e)))
    (λ e. either (λ (r : Lexes). pair_up i r ≡ pair_up i (x ∷ s)) (letter (byte_of x))
    (λ f. pairs-symbols s (in_symbol (byte_of x ∷ [])) i ∙ sym (over-letter i s x f))
    (λ f. over-lone i (x ∷ symbols in_text s) ∙ alike i x (symbols in_text s) s (λ k. pairs-symbols s in_text k)))
pairs-symbols (x ∷ s) (in_symbol n) i =
    either (λ (r : Lexes). pair_up i r ≡ pair_up i (x ∷ s)) (letter_or_digit (byte_of x))
    (λ e. pairs-symbols s (in_symbol (n ++ (byte_of x ∷ []))) i ∙ sym (over-lettered i s x e))
    (λ e. either (λ (r : Lexes). pair_up i r ≡ pair_up i (x ∷ s)) (eqb (byte_of x) ampersand)
    (λ f. over-ref i (symbols after_ampersand s) n ∙ (pairs-symbols s after_ampersand i ∙ sym (over-ampersand i s x f)))
    (λ f. over-ref i (x ∷ symbols in_text s) n ∙ alike i x (symbols in_text s) s (λ k. pairs-symbols s in_text k)))

-- ---- by place

-- whether quotes and parentheses pair from place i on, where `s` was seen before it
unfoldable pub pairs_from : Bytes → ℕ → State → Bool
pairs_from l i s = pair_up (inside_of s) (marked {R = Bytes} true (before_of s) (drop i l))

pub pairs_start : (l : Bytes) → pair_up outside (lexed true l) ≡ pairs_from l 0 nothing_seen
unfolding lexed pairs_from inside_of before_of nothing_seen outside field_start
pairs_start l = pairs-symbols (marked true field_start l) in_text outside

module _ (l : Bytes) (i : ℕ) (s : State) where
  pub pairs_end : length l ≤ i → pairs_from l i s ≡ (not s.quoted && eqb s.depth 0)
  unfolding pairs_from pair_up marked inside_of
  pairs_end h = ap (λ (t : Bytes). pair_up (inside_of s) (marked {R = Bytes} true (before_of s) t)) (drop_of_length-le l h)

  module _ (h : i < length l) where
    abbrev d : ℕ
    d = get_or l i 0

    abbrev next : ℕ
    next = get_or l (i + 1) 0

    pairs-step : pairs_from l i s ≡ (not (bare_here closing s d next) && pairs_from l (i + 1) (seen_after s d next))
    unfolding pairs_from pair_up
    pairs-step =
        ap (pair_up (inside_of s)) (first-marked closing l i s h)
        ∙ sym (λ j. not (bare-is l (i + 1) s d closing j) && pair_up {R = Bytes} (inside-after l (i + 1) s d j) (marked {R = Bytes} true (before-after l (i + 1) s d j) (drop (i + 1) l)))

    pub pairs-stop : bare_here closing s d next ≡ true → pairs_from l i s ≡ false
    pairs-stop e = pairs-step ∙ ap (λ (b : Bool). not b && pairs_from l (i + 1) (seen_after s d next)) e

    pub pairs-on : bare_here closing s d next ≡ false → pairs_from l i s ≡ pairs_from l (i + 1) (seen_after s d next)
    pairs-on e = pairs-step ∙ ap (λ (b : Bool). not b && pairs_from l (i + 1) (seen_after s d next)) e
