-- Marks and quotes change nothing about a text's symbols: its lexemes are, but for its marks, those of its bytes. Assumes nothing.
use Prim.Native.Nat.{ℕ}
use mathlib.Core.Path.{◌≡◌, refl, ap, sym, ◌∙◌}
use mathlib.Core.Bool.{Bool}
use mathlib.Core.List.{List, [], ◌∷◌, ◌++◌, map}
use lib.Dec.{eqb}
use Rattle.text.specs.Bytes.{Bytes}
use Rattle.text.specs.Characters.{letter, digit, letter_or_digit}
use Rattle.rules.specs.Choice.{choose, every, any}
use Rattle.rules.specs.Lexemes.{ampersand, apostrophe, Lex, byte, mark, ref, lone, byte_of, Before, field_start, is_mark, after, marked, Mode, in_text, after_ampersand, in_symbol, symbols, lexed, refs_in, is_plain, is_long}
use Rattle.rules.specs.Library.{start_symbol, is_one_symbol}
use Rattle.rules.specs.Faults.{has_long_symbol}
use Rattle.rules.proofs.Choices.{by, into, chosen, passed_over}
use Rattle.rules.proofs.Lossless.{mark-is}

abbrev pub Lexes : Type 0
Lexes = List (Lex Bytes)

-- the lexemes of bytes that are all text
unfoldable pub text_lexed : Bytes → Lexes
text_lexed s = symbols in_text (map byte s)

-- a mark as the byte that it is
unfoldable pub unmarked : Lex Bytes → Lex Bytes
unmarked (byte c) = byte c
unmarked mark = byte apostrophe
unmarked (ref n) = ref n
unmarked lone = lone

both : {A B : Type 0} (f : A → B) (t : Bool) {x y : A} {u v : B} → f x ≡ u → f y ≡ v → f (choose t x y) ≡ choose t u v
both f t {x} {y} e g = into f t x y ∙ (λ i. choose t (e i) (g i))

module _ (r r' : Lexes) (on : (m : Mode) → map unmarked (symbols m r) ≡ symbols m r') where
  mark-step : (m : Mode) → map unmarked (symbols m (mark ∷ r)) ≡ symbols m (byte apostrophe ∷ r')
  unfolding symbols byte_of unmarked choose letter digit letter_or_digit
  mark-step in_text = ap (λ (t : Lexes). byte apostrophe ∷ t) (on in_text)
  mark-step after_ampersand = ap (λ (t : Lexes). lone ∷ (byte apostrophe ∷ t)) (on in_text)
  mark-step (in_symbol n) = ap (λ (t : Lexes). ref n ∷ (byte apostrophe ∷ t)) (on in_text)

  byte_step : (c : ℕ) (m : Mode) → map unmarked (symbols m (byte c ∷ r)) ≡ symbols m (byte c ∷ r')
  unfolding symbols byte_of unmarked
  byte_step c in_text = both (map unmarked) (eqb c ampersand) (on after_ampersand) (ap (λ (t : Lexes). byte c ∷ t) (on in_text))
  byte_step c after_ampersand =
      both (map unmarked) (eqb c ampersand) (ap (λ (t : Lexes). byte ampersand ∷ (byte ampersand ∷ t)) (on in_text))
      (both (map unmarked) (letter c) (on (in_symbol (c ∷ []))) (ap (λ (t : Lexes). lone ∷ (byte c ∷ t)) (on in_text)))
  byte_step c (in_symbol n) =
      both (map unmarked) (letter_or_digit c) (on (in_symbol (n ++ (c ∷ []))))
      (both (map unmarked) (eqb c ampersand) (ap (λ (t : Lexes). ref n ∷ t) (on after_ampersand)) (ap (λ (t : Lexes). ref n ∷ (byte c ∷ t)) (on in_text)))

unmarked-symbols : (quotes : Bool) (s : Bytes) (b : Before) (m : Mode) → map unmarked (symbols m (marked quotes b s)) ≡ symbols m (map byte s)
unfolding marked symbols unmarked
unmarked-symbols quotes [] b in_text = refl
unmarked-symbols quotes [] b after_ampersand = refl
unmarked-symbols quotes [] b (in_symbol n) = refl
unmarked-symbols quotes (c ∷ s) b m =
    let a = after quotes b c s in
    let r = marked quotes a s in
    by (is_mark b c s)
    (λ e. ap (λ (x : Lex Bytes). map unmarked (symbols m (x ∷ r))) (chosen mark (byte c) e)
    ∙ (mark-step r (map byte s) (λ k. unmarked-symbols quotes s a k) m ∙ ap (λ (k : ℕ). symbols m (byte k ∷ map byte s)) (sym (mark-is b c s e))))
    (λ e. ap (λ (x : Lex Bytes). map unmarked (symbols m (x ∷ r))) (passed_over mark (byte c) e)
    ∙ byte_step r (map byte s) (λ k. unmarked-symbols quotes s a k) c m)

unmarked-is : (quotes : Bool) (s : Bytes) → map unmarked (lexed quotes s) ≡ text_lexed s
unfolding lexed text_lexed
unmarked-is quotes s = unmarked-symbols quotes s field_start in_text

-- ---- what does not see marks

refs-unmarked : (x : Lexes) → refs_in (map unmarked x) ≡ refs_in x
unfolding refs_in unmarked
refs-unmarked [] = refl
refs-unmarked (byte c ∷ x) = refs-unmarked x
refs-unmarked (mark ∷ x) = refs-unmarked x
refs-unmarked (ref n ∷ x) = ap (λ (t : List Bytes). n ∷ t) (refs-unmarked x)
refs-unmarked (lone ∷ x) = refs-unmarked x

plain-unmarked : (x : Lexes) → every is_plain (map unmarked x) ≡ every is_plain x
unfolding every is_plain unmarked
plain-unmarked [] = refl
plain-unmarked (byte c ∷ x) = plain-unmarked x
plain-unmarked (mark ∷ x) = plain-unmarked x
plain-unmarked (ref n ∷ x) = refl
plain-unmarked (lone ∷ x) = refl

start-unmarked : (x : Lexes) → start_symbol (map unmarked x) ≡ start_symbol x
unfolding start_symbol unmarked
start-unmarked [] = refl
start-unmarked (byte c ∷ x) = refl
start-unmarked (mark ∷ x) = refl
start-unmarked (ref n ∷ x) = refl
start-unmarked (lone ∷ x) = refl

one-unmarked : (x : Lexes) → is_one_symbol (map unmarked x) ≡ is_one_symbol x
unfolding is_one_symbol unmarked
one-unmarked [] = refl
one-unmarked (byte c ∷ x) = refl
one-unmarked (mark ∷ x) = refl
one-unmarked (ref n ∷ []) = refl
one-unmarked (ref n ∷ (y ∷ x)) = refl
one-unmarked (lone ∷ x) = refl

module _ (quotes : Bool) (s : Bytes) where
  pub long-by-text : has_long_symbol (lexed quotes s) ≡ has_long_symbol (text_lexed s)
  unfolding has_long_symbol
  long-by-text = ap (any is_long) (sym (refs-unmarked (lexed quotes s)) ∙ ap refs_in (unmarked-is quotes s))

  pub plain-by-text : every is_plain (lexed quotes s) ≡ every is_plain (text_lexed s)
  plain-by-text = sym (plain-unmarked (lexed quotes s)) ∙ ap (every is_plain) (unmarked-is quotes s)

  pub start-by-text : start_symbol (lexed quotes s) ≡ start_symbol (text_lexed s)
  start-by-text = sym (start-unmarked (lexed quotes s)) ∙ ap start_symbol (unmarked-is quotes s)

  pub one-by-text : is_one_symbol (lexed quotes s) ≡ is_one_symbol (text_lexed s)
  one-by-text = sym (one-unmarked (lexed quotes s)) ∙ ap is_one_symbol (unmarked-is quotes s)
