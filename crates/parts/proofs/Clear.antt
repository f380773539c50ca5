-- A scan that passes over lexemes and stops at none of them; reading symbols leaves such a scan as it is. Assumes nothing.
use Prim.Native.Nat.{ℕ, suc, pred, ◌+◌}
use native.Mathlib.Omega.{arith}
use mathlib.Core.Path.{◌≡◌, refl, ap, sym, ◌∙◌, subst}
use mathlib.Core.Bool.{Bool, true, false, false≢true, ◌&&◌, not}
use mathlib.Core.List.{List, [], ◌∷◌, ◌++◌}
use lib.Dec.{eqb}
use lib.ListN.{length}
use borrow.Author.Tests.{eqb-true}
use Rattle.text.specs.Bytes.{Bytes}
use Rattle.text.specs.Characters.{letter, digit, letter_or_digit}
use Rattle.rules.specs.Choice.{choose, passed}
use Rattle.rules.specs.Lexemes.{ampersand, apostrophe, opening, closing, Lex, byte, ref, lone, byte_of, Mode, in_text, after_ampersand, in_symbol, symbols, Inside, enters, is_bare}
use Rattle.rules.proofs.Choices.{by, either, chosen, passed_over}

abbrev pub Lexes : Type 0
Lexes = List (Lex Bytes)

-- a byte that passes a test which d does not is not d
pub not-by : (test : ℕ → Bool) (d : ℕ) → test d ≡ false → (k : ℕ) → test k ≡ true → eqb k d ≡ false
not-by test d f k t = by (eqb k d) (λ e. absurd (false≢true (sym (ap test (eqb-true k d e) ∙ f) ∙ t))) (λ e. e)

-- a lexeme that opens and closes nothing
pub still : (i : Inside) (x : Lex Bytes) → eqb (byte_of x) apostrophe ≡ false → eqb (byte_of x) opening ≡ false → eqb (byte_of x) closing ≡ false → enters i x ≡ i
unfolding enters
still i x a o c = λ j. record {
  quoted = passed_over (not i.quoted) i.quoted a j;
  depth = (ap (choose i.quoted i.depth) (passed_over (suc i.depth) (choose (eqb (byte_of x) closing) (pred i.depth) i.depth) o ∙ passed_over (pred i.depth) i.depth c) ∙ either (λ (k : ℕ). k ≡ i.depth) i.quoted (λ e. refl) (λ e. refl)) j;
}

-- so do the bytes of a test that these three do not pass
pub still-by : (test : ℕ → Bool) → test apostrophe ≡ false → test opening ≡ false → test closing ≡ false → (i : Inside) (x : Lex Bytes) → test (byte_of x) ≡ true → enters i x ≡ i
still-by test a o c i x t =
    still i x (not-by test apostrophe a (byte_of x) t) (not-by test opening o (byte_of x) t) (not-by test closing c (byte_of x) t)

pub still-ampersand : (i : Inside) (x : Lex Bytes) → eqb (byte_of x) ampersand ≡ true → enters i x ≡ i
still-ampersand = still-by (λ k. eqb k ampersand) refl refl refl

pub still-letter : (i : Inside) (x : Lex Bytes) → letter (byte_of x) ≡ true → enters i x ≡ i
unfolding letter
still-letter = still-by letter refl refl refl

pub still-lettered : (i : Inside) (x : Lex Bytes) → letter_or_digit (byte_of x) ≡ true → enters i x ≡ i
unfolding letter_or_digit letter digit
still-lettered = still-by letter_or_digit refl refl refl

module _ (c : ℕ) where
  -- from i on, the scan for a bare c passes over all of them, and stands at j then
  abbrev pub Clear : Inside → Lexes → Inside → Type 0
  Clear i [] j = i ≡ j
  Clear i (x ∷ s) j = (is_bare c i x ≡ false) × Clear (enters i x) s j

  pub clear-passed : (i j : Inside) (z w : Lexes) → Clear i z j → passed (is_bare c) enters i (z ++ w) ≡ length z + passed (is_bare c) enters j w
  unfolding passed
  clear-passed i j [] w h = ap (λ k. passed (is_bare c) enters k w) h ∙ omega arith
  clear-passed i j (x ∷ z) w h =
      let on = clear-passed (enters i x) j z w h.1 in
      passed_over 0 (suc (passed (is_bare c) enters (enters i x) (z ++ w))) h.0 ∙ omega (arith, on)

  module _ (zero-not : eqb 0 c ≡ false) (ampersand-not : eqb ampersand c ≡ false) where
    -- a lexeme that is no byte is passed over
    lone-passed : (i : Inside) → is_bare {R = Bytes} c i lone ≡ false
    unfolding is_bare byte_of
    lone-passed i = ap (λ b. b && (not i.quoted && eqb i.depth 0)) zero-not

    ref-passed : (i : Inside) (n : Bytes) → is_bare c i (ref n) ≡ false
    unfolding is_bare byte_of
    ref-passed i n = ap (λ b. b && (not i.quoted && eqb i.depth 0)) zero-not

    ampersand-passed : (i : Inside) → is_bare {R = Bytes} c i (byte ampersand) ≡ false
    unfolding is_bare byte_of
    ampersand-passed i = ap (λ b. b && (not i.quoted && eqb i.depth 0)) ampersand-not

    lone-clear : (i j : Inside) (z : Lexes) → Clear i z j → Clear i (lone ∷ z) j
    unfolding byte_of
    lone-clear i j z h = (lone-passed i, subst (λ k. Clear k z j) (sym (still i lone refl refl refl)) h)

    ref-clear : (i j : Inside) (n : Bytes) (z : Lexes) → Clear i z j → Clear i (ref n ∷ z) j
    unfolding byte_of
    ref-clear i j n z h = (ref-passed i n, subst (λ k. Clear k z j) (sym (still i (ref n) refl refl refl)) h)

    ampersand-clear : (i j : Inside) (z : Lexes) → Clear i z j → Clear i (byte ampersand ∷ z) j
    unfolding byte_of
    ampersand-clear i j z h = (ampersand-passed i, subst (λ k. Clear k z j) (sym (still i (byte ampersand) refl refl refl)) h)

    pub clear-symbols : (z : Lexes) (m : Mode) (i j : Inside) → Clear i z j → Clear i (symbols m z) j
    unfolding symbols
    clear-symbols [] in_text i j h = h
    clear-symbols [] after_ampersand i j h = lone-clear i j [] h
    clear-symbols [] (in_symbol n) i j h = ref-clear i j n [] h
    clear-symbols (x ∷ s) in_text i j h =
        either (λ (r : Lexes). Clear i r j) (eqb (byte_of x) ampersand)
        (λ e. clear-symbols s after_ampersand i j (subst (λ k. Clear k s j) (still-ampersand i x e) h.1))
        (λ e. (h.0, clear-symbols s in_text (enters i x) j h.1))
    clear-symbols (x ∷ s) after_ampersand i j h =
        either (λ (r : Lexes). Clear i r j) (eqb (byte_of x) ampersand)
        (λ e. ampersand-clear i j (byte ampersand ∷ symbols in_text s) (ampersand-clear i j (symbols in_text s) (clear-symbols s in_text i j (subst (λ k. Clear k s j) (still-ampersand i x e) h.1))))
        (λ e. either (λ (r : Lexes). Clear i r j) (letter (byte_of x))
        (λ f. clear-symbols s (in_symbol (byte_of x ∷ [])) i j (subst (λ k. Clear k s j) (still-letter i x f) h.1))
        (λ f. lone-clear i j (x ∷ symbols in_text s) (h.0, clear-symbols s in_text (enters i x) j h.1)))
    clear-symbols (x ∷ s) (in_symbol n) i j h =
        either (λ (r : Lexes). Clear i r j) (letter_or_digit (byte_of x))
        (λ e. clear-symbols s (in_symbol (n ++ (byte_of x ∷ []))) i j (subst (λ k. Clear k s j) (still-lettered i x e) h.1))
        (λ e. either (λ (r : Lexes). Clear i r j) (eqb (byte_of x) ampersand)
        (λ f. ref-clear i j n (symbols after_ampersand s) (clear-symbols s after_ampersand i j (subst (λ k. Clear k s j) (still-ampersand i x f) h.1)))
        (λ f. ref-clear i j n (x ∷ symbols in_text s) (h.0, clear-symbols s in_text (enters i x) j h.1)))

-- a byte that is no letter, digit or ampersand ends a symbol, and reading goes on in text behind it
pub symbols-cut : (c : ℕ) → letter_or_digit c ≡ false → letter c ≡ false → eqb c ampersand ≡ false → (x : Lexes) (m : Mode) (y : Lexes)
    → symbols m (x ++ (byte c ∷ y)) ≡ symbols m x ++ (byte c ∷ symbols in_text y)
unfolding symbols byte_of
symbols-cut c n l a [] in_text y = passed_over _ _ a
symbols-cut c n l a [] after_ampersand y = passed_over _ _ a ∙ passed_over _ _ l
symbols-cut c n l a [] (in_symbol k) y = passed_over _ _ n ∙ passed_over _ _ a
symbols-cut c n l a (x ∷ s) in_text y =
    by (eqb (byte_of x) ampersand)
    (λ e. chosen _ _ e ∙ (symbols-cut c n l a s after_ampersand y ∙ ap (λ (t : Lexes). t ++ (byte c ∷ symbols in_text y)) (sym (chosen _ _ e))))
    (λ e. passed_over _ _ e ∙ (ap (λ (t : Lexes). x ∷ t) (symbols-cut c n l a s in_text y) ∙ ap (λ (t : Lexes). t ++ (byte c ∷ symbols in_text y)) (sym (passed_over _ _ e))))
symbols-cut c n l a (x ∷ s) after_ampersand y =
    by (eqb (byte_of x) ampersand)
    (λ e. chosen _ _ e ∙ (ap (λ (t : Lexes). byte ampersand ∷ (byte ampersand ∷ t)) (symbols-cut c n l a s in_text y) ∙ ap (λ (t : Lexes). t ++ (byte c ∷ symbols in_text y)) (sym (chosen _ _ e))))
    (λ e. by (letter (byte_of x))
    (λ f. passed_over _ _ e ∙ (chosen _ _ f ∙ (symbols-cut c n l a s (in_symbol (byte_of x ∷ [])) y ∙ ap (λ (t : Lexes). t ++ (byte c ∷ symbols in_text y)) (sym (passed_over _ _ e ∙ chosen _ _ f)))))
    (λ f. passed_over _ _ e ∙ (passed_over _ _ f ∙ (ap (λ (t : Lexes). lone ∷ (x ∷ t)) (symbols-cut c n l a s in_text y)
    ∙ ap (λ (t : Lexes). t ++ (byte c ∷ symbols in_text y)) (sym (passed_over _ _ e ∙ passed_over _ _ f))))))
symbols-cut c n l a (x ∷ s) (in_symbol k) y =
    by (letter_or_digit (byte_of x))
    (λ e. chosen _ _ e ∙ (symbols-cut c n l a s (in_symbol (k ++ (byte_of x ∷ []))) y ∙ ap (λ (t : Lexes). t ++ (byte c ∷ symbols in_text y)) (sym (chosen _ _ e))))
    (λ e. by (eqb (byte_of x) ampersand)
    (λ f. passed_over _ _ e ∙ (chosen _ _ f ∙ (ap (λ (t : Lexes). ref k ∷ t) (symbols-cut c n l a s after_ampersand y) ∙ ap (λ (t : Lexes). t ++ (byte c ∷ symbols in_text y)) (sym (passed_over _ _ e ∙ chosen _ _ f)))))
    (λ f. passed_over _ _ e ∙ (passed_over _ _ f ∙ (ap (λ (t : Lexes). ref k ∷ (x ∷ t)) (symbols-cut c n l a s in_text y)
    ∙ ap (λ (t : Lexes). t ++ (byte c ∷ symbols in_text y)) (sym (passed_over _ _ e ∙ passed_over _ _ f))))))
