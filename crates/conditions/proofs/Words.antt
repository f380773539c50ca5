-- Words of a condition, letter by letter. Assumes nothing.
use Prim.Native.Nat.{ℕ, zero, suc, ◌+◌, ◌-◌, ◌≤◌, ◌<◌}
use native.Mathlib.Omega.{arith}
use mathlib.Core.Path.{◌≡◌, refl, ap, sym, ◌∙◌}
use mathlib.Core.Bool.{Bool, true, false, not, ◌&&◌, ◌||◌, true≢false}
use mathlib.Core.List.{List, [], ◌∷◌, map}
use mathlib.Core.Option.{none, some}
use lib.Dec.{eqb}
use lib.ListN.{length, take, drop, length-map, length-drop}
use borrow.Author.Tests.{eq-eqb, ne_eqb, eqb-true}
use Rattle.text.specs.Bytes.{Bytes, bytes, same}
use Rattle.text.specs.Characters.{letter, digit, letter_or_digit}
use Rattle.text.proofs.Same.{same-is}
use Rattle.rules.specs.Choice.{choose, run}
use Rattle.rules.specs.Lexemes.{Lex, byte_of}
use Rattle.rules.specs.Values.{Relation, eq, ne, lt, le, gt, ge}
use Rattle.rules.specs.Grammar.{Kind, plain, rest, word_at, is_word, relation_at}
use Rattle.rules.proofs.Choices.{by, chosen, passed_over}
use Rattle.rules.proofs.Symbols.{same-sym}
use Rattle.grammar.specs.Tokens.{lex_of, toks_at}
use Rattle.grammar.proofs.Places.{toks-rest}
use Rattle.conditions.specs.Words.{is_relation}

none-goes-on : letter_or_digit 0 ≡ false
unfolding letter_or_digit letter digit
none-goes-on = refl

pub not_none : (a : ℕ) → letter_or_digit a ≡ true → 0 < a
not_none zero h = absurd (true≢false (sym h ∙ none-goes-on))
not_none (suc a) h = omega arith

word_first : (c : ℕ) (w : Bytes) (x : List (Lex Kind)) → letter_or_digit c ≡ true → is_word (c ∷ w) x ≡ (eqb c (plain x) && is_word w (rest x))
unfolding is_word word_at plain rest run
word_first c w [] h = by (eqb c 0) (λ e. absurd (true≢false (sym h ∙ ap letter_or_digit (eqb-true c 0 e) ∙ none-goes-on))) (λ e. rw e)
word_first c w (y ∷ x) h = by (letter_or_digit (byte_of y))
    (λ e. ap (λ n. same (c ∷ w) (map byte_of (take n (y ∷ x)))) (chosen (suc (run (λ z. letter_or_digit (byte_of z)) x)) 0 e))
    (λ e. ap (λ n. same (c ∷ w) (map byte_of (take n (y ∷ x)))) (passed_over (suc (run (λ z. letter_or_digit (byte_of z)) x)) 0 e) ∙ sym (ap (λ b. b && same w (map byte_of (take (run (λ z. letter_or_digit (byte_of z)) x) x))) (ne_eqb c (byte_of y) (λ q. true≢false (sym h ∙ ap letter_or_digit q ∙ e)))))

word_none : (x : List (Lex Kind)) → is_word [] x ≡ not (letter_or_digit (plain x))
unfolding is_word word_at plain run
word_none [] = sym (ap not none-goes-on)
word_none (y ∷ x) = by (letter_or_digit (byte_of y))
    (λ e. ap (λ n. same [] (map byte_of (take n (y ∷ x)))) (chosen (suc (run (λ z. letter_or_digit (byte_of z)) x)) 0 e) ∙ sym (ap not e))
    (λ e. ap (λ n. same [] (map byte_of (take n (y ∷ x)))) (passed_over (suc (run (λ z. letter_or_digit (byte_of z)) x)) 0 e) ∙ sym (ap not e))

pub word-ends : (x : List (Lex Kind)) {c : ℕ} {b : Bool} → c ≡ plain x → b ≡ letter_or_digit c → not b ≡ is_word [] x
word-ends x read e = ap not (e ∙ ap letter_or_digit read) ∙ sym (word_none x)

module _ (a : ℕ) (w : Bytes) (h : letter_or_digit a ≡ true) {c : ℕ} where
  pub word-other : (x : List (Lex Kind)) → c ≡ plain x → (c ≡ a → ⊥) → false ≡ is_word (a ∷ w) x
  word-other x read d = sym (word_first a w x h ∙ ap (λ b. b && is_word w (rest x)) (ne_eqb a (plain x) (λ e. d (read ∙ sym e))))

  pub word_on : (kinds code : Bytes) (at : ℕ) → c ≡ plain (toks_at kinds code at) → c ≡ a → is_word w (toks_at kinds code (at + 1)) ≡ is_word (a ∷ w) (toks_at kinds code at)
  word_on kinds code at read e =
      sym (word_first a w (toks_at kinds code at) h ∙ ap (λ b. b && is_word w (rest (toks_at kinds code at))) (eq-eqb a (plain (toks_at kinds code at)) (sym e ∙ read)) ∙ ap (is_word w) (toks-rest kinds code at))

-- a word is no longer than what it stands in
take_short : (n : ℕ) (x : List (Lex Kind)) → length (take n x) ≤ length x
take_short zero x = omega arith
take_short (suc n) [] = omega arith
take_short (suc n) (y ∷ x) = let less = take_short n x in omega arith

pub word-short : (w : Bytes) (x : List (Lex Kind)) → is_word w x ≡ true → length w ≤ length x
unfolding is_word word_at
word-short w x h =
    let n : length w ≡ length (take (run (λ y. letter_or_digit (byte_of y)) x) x) = ap length (same-is w (word_at x) h) ∙ length-map (take (run (λ y. letter_or_digit (byte_of y)) x) x) byte_of in
    let less = take_short (run (λ y. letter_or_digit (byte_of y)) x) x in
    omega arith

pub toks-length : (kinds code : Bytes) (at : ℕ) → length (toks_at kinds code at) ≡ length code - at
unfolding toks_at
toks-length kinds code at = length-map (drop at code) (lex_of kinds) ∙ length-drop at code

pub word-inside : (kinds code w : Bytes) (at : ℕ) → is_word w (toks_at kinds code at) ≡ true → 0 < length w → at + length w ≤ length code
word-inside kinds code w at h long = let short = word-short w (toks_at kinds code at) h in let n = toks-length kinds code at in omega arith

-- ---- relations

-- by the first of six tests that holds
module _ {P : Type 0} (a b c d e f : Bool) where
  one_of : (((((a || b) || c) || d) || e) || f) ≡ true → (a ≡ true → P) → (b ≡ true → P) → (c ≡ true → P) → (d ≡ true → P) → (e ≡ true → P) → (f ≡ true → P) → P
  one_of h p q r s t u = by a p λ a-not. by b q λ b-not. by c r λ c-not. by d s λ d-not. by e t λ e-not. by f u λ f-not. absurd (true≢false (sym h ∙ (rw (a-not, b-not, c-not, d-not, e-not, f-not))))

pub record Related (x : List (Lex Kind)) : Type 0 where
  pub relation : Relation
  pub is : relation_at x ≡ some relation

pub relation-some : (x : List (Lex Kind)) → is_relation x ≡ true → Related x
unfolding is_relation is_word relation_at choose
relation-some x h = one_of _ _ _ _ _ _ h
    (λ e. record { relation = eq; is = rw (← same-is (bytes "EQ") (word_at x) e) })
    (λ e. record { relation = ne; is = rw (← same-is (bytes "NE") (word_at x) e) })
    (λ e. record { relation = lt; is = rw (← same-is (bytes "LT") (word_at x) e) })
    (λ e. record { relation = le; is = rw (← same-is (bytes "LE") (word_at x) e) })
    (λ e. record { relation = gt; is = rw (← same-is (bytes "GT") (word_at x) e) })
    (λ e. record { relation = ge; is = rw (← same-is (bytes "GE") (word_at x) e) })

pub relation-none : (x : List (Lex Kind)) → is_relation x ≡ false → relation_at x ≡ none
unfolding is_relation is_word relation_at choose
relation-none x h = none_of _ _ _ _ _ _ (same-sym (word_at x) (bytes "EQ")) (same-sym (word_at x) (bytes "NE")) (same-sym (word_at x) (bytes "LT")) (same-sym (word_at x) (bytes "LE")) (same-sym (word_at x) (bytes "GT")) (same-sym (word_at x) (bytes "GE")) h
  where
    none_of : (a b c d e f : Bool) {a' b' c' d' e' f' : Bool} → a' ≡ a → b' ≡ b → c' ≡ c → d' ≡ d → e' ≡ e → f' ≡ f → (((((a || b) || c) || d) || e) || f) ≡ false
        → choose a' (some eq) (choose b' (some ne) (choose c' (some lt) (choose d' (some le) (choose e' (some gt) (choose f' (some ge) none))))) ≡ none
    none_of false false false false false false p q r s t u h = rw (p, q, r, s, t, u)
    none_of true b c d e f p q r s t u h = absurd (true≢false h)
    none_of false true c d e f p q r s t u h = absurd (true≢false h)
    none_of false false true d e f p q r s t u h = absurd (true≢false h)
    none_of false false false true e f p q r s t u h = absurd (true≢false h)
    none_of false false false false true f p q r s t u h = absurd (true≢false h)
    none_of false false false false false true p q r s t u h = absurd (true≢false h)

pub relation-short : (x : List (Lex Kind)) → is_relation x ≡ true → 2 ≤ length x
unfolding is_relation
relation-short x h = one_of _ _ _ _ _ _ h (word-short (bytes "EQ") x) (word-short (bytes "NE") x) (word-short (bytes "LT") x) (word-short (bytes "LE") x) (word-short (bytes "GT") x) (word-short (bytes "GE") x)

pub relation-inside : (kinds code : Bytes) (at : ℕ) → is_relation (toks_at kinds code at) ≡ true → at + 2 ≤ length code
relation-inside kinds code at h = let short = relation-short (toks_at kinds code at) h in let n = toks-length kinds code at in omega arith
