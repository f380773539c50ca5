-- What the piece that stands first in a text says of the text's symbols: the first of them, one that is too long, and whether there is any. Assumes nothing.
use Prim.Native.Nat.{ℕ, suc, ◌+◌, ◌-◌, ◌≤◌, ◌<◌}
use native.Mathlib.Nat.{not-suc-le-zero}
use native.Mathlib.Omega.{arith}
use mathlib.Core.Path.{◌≡◌, refl, ap, sym, ◌∙◌}
use mathlib.Core.Bool.{Bool, true, false, ◌&&◌, ◌||◌, not}
use mathlib.Core.List.{List, [], ◌∷◌}
use Rattle.std.proofs.lemmas.List.{nil_from_length}
use lib.Dec.{eqb, ltb}
use lib.ListN.{length, get_or, take, drop, length-take, length-drop}
use lib.Seq.{take_all}
use borrow.Author.Tests.{eqb-true, eqb-false, eq-eqb, ne_eqb, lt-ltb, le-ltb}
use Rattle.text.specs.Bytes.{Bytes}
use Rattle.text.specs.Characters.{letter, letter_or_digit}
use Rattle.rules.specs.Choice.{choose, run, every, any}
use Rattle.rules.specs.Lexemes.{ampersand, Lex, byte, ref, lone, symbols, lexed, refs_in, is_plain, is_long}
use Rattle.rules.specs.Library.{start_symbol, is_one_symbol}
use Rattle.rules.specs.Faults.{has_long_symbol}
use Rattle.rules.proofs.Choices.{by, either, chosen, passed_over}
use Rattle.chars.specs.Ends.{symbol_end}
use Rattle.declared.specs.Declared.{start_length, start_name, piece_length, starts_plain}
use Rattle.declared.proofs.Unmarked.{Lexes, text_lexed, start-by-text, one-by-text}
use Rattle.declared.proofs.Pieces.{letter-other, text-byte, text-pair, text-lone, text-symbol, by-piece}

run_inside : (test : ℕ → Bool) (s : Bytes) → run test s ≤ length s
unfolding run
run_inside test [] = omega arith
run_inside test (c ∷ s) = let on = run_inside test s in either (λ (n : ℕ). n ≤ suc (length s)) (test c) (λ e. omega (arith, on)) (λ e. omega arith)

some-length : (n : ℕ) → eqb (suc n) 0 ≡ false
some-length n = ne_eqb (suc n) 0 (λ q. omega (arith, q))

-- ---- lengths, by the piece that stands first

start_none : start_length [] ≡ 0
unfolding start_length letter choose
start_none = refl

start-other : (c : ℕ) (s : Bytes) → eqb c ampersand ≡ false → start_length (c ∷ s) ≡ 0
unfolding start_length
start-other c s e = passed_over _ _ (ap (λ (b : Bool). b && letter (get_or s 0 0)) e)

start-pair : (s : Bytes) → start_length (ampersand ∷ (ampersand ∷ s)) ≡ 0
unfolding start_length choose letter
start-pair s = refl

start-symbol : (c : ℕ) (s : Bytes) → letter c ≡ true → start_length (ampersand ∷ (c ∷ s)) ≡ suc (run letter_or_digit s)
unfolding start_length
start-symbol c s e = chosen _ _ e

start_left : (s : Bytes) → letter (get_or s 0 0) ≡ false → start_length (ampersand ∷ s) ≡ 0
unfolding start_length
start_left s e = passed_over _ _ e

piece-other : (c : ℕ) (s : Bytes) → eqb c ampersand ≡ false → piece_length (c ∷ s) ≡ 1
unfolding piece_length
piece-other c s e = passed_over _ _ (ap (λ (b : Bool). b && eqb (get_or s 0 0) ampersand) e) ∙ ap suc (start-other c s e)

piece-pair : (s : Bytes) → piece_length (ampersand ∷ (ampersand ∷ s)) ≡ 2
unfolding piece_length choose
piece-pair s = refl

piece-symbol : (c : ℕ) (s : Bytes) → letter c ≡ true → piece_length (ampersand ∷ (c ∷ s)) ≡ suc (suc (run letter_or_digit s))
unfolding piece_length
piece-symbol c s e = passed_over _ _ (letter-other c e) ∙ ap suc (start-symbol c s e)

piece-left : (s : Bytes) → eqb (get_or s 0 0) ampersand ≡ false → letter (get_or s 0 0) ≡ false → piece_length (ampersand ∷ s) ≡ 1
unfolding piece_length
piece-left s e f = passed_over _ _ e ∙ ap suc (start_left s f)

-- ---- bounds

-- a name fits behind its ampersand
pub start-inside : (s : Bytes) → start_length s ≤ length s - 1
start-inside [] = omega (arith, start_none)
start-inside (c ∷ s) =
    by-piece (λ t. start_length t ≤ length t - 1)
    (λ c s e. omega (arith, start-other c s e))
    (λ s. omega (arith, start-pair s))
    (λ c s e. omega (arith, start-symbol c s e, run_inside letter_or_digit s))
    (λ s e f. omega (arith, start_left s f))
    c s

piece_inside : (c : ℕ) (s : Bytes) → (0 < piece_length (c ∷ s)) × (piece_length (c ∷ s) ≤ length (c ∷ s))
piece_inside =
    by-piece (λ t. (0 < piece_length t) × (piece_length t ≤ length t))
    (λ c s e. (omega (arith, piece-other c s e), omega (arith, piece-other c s e)))
    (λ s. (omega (arith, piece-pair s), omega (arith, piece-pair s)))
    (λ c s e. (omega (arith, piece-symbol c s e), omega (arith, piece-symbol c s e, run_inside letter_or_digit s)))
    (λ s e f. (omega (arith, piece-left s e f), omega (arith, piece-left s e f)))

-- ---- the symbol that stands first

name-none : (s : Bytes) → start_length s ≡ 0 → start_name s ≡ []
unfolding start_name
name-none s e = chosen _ _ (eq-eqb (start_length s) 0 e)

name-some : (s : Bytes) (n : ℕ) → start_length s ≡ suc n → start_name s ≡ take (suc n) (drop 1 s) ∷ []
unfolding start_name
name-some s n e = (λ i. choose (eqb (e i) 0) [] (take (e i) (drop 1 s) ∷ [])) ∙ passed_over _ _ (some-length n)

start-text : (s : Bytes) → start_symbol (text_lexed s) ≡ start_name s
unfolding start_symbol text_lexed symbols start_name start_length choose letter
start-text [] = refl
start-text (c ∷ s) =
    by-piece (λ t. start_symbol (text_lexed t) ≡ start_name t)
    (λ c s e. ap start_symbol (text-byte c s e) ∙ sym (name-none (c ∷ s) (start-other c s e)))
    (λ s. ap start_symbol (text-pair s) ∙ sym (name-none (ampersand ∷ (ampersand ∷ s)) (start-pair s)))
    (λ c s e. ap start_symbol (text-symbol c s e) ∙ sym (name-some (ampersand ∷ (c ∷ s)) (run letter_or_digit s) (start-symbol c s e)))
    (λ s e f. ap start_symbol (text-lone s e f) ∙ sym (name-none (ampersand ∷ s) (start_left s f)))
    c s

pub start_is : (quotes : Bool) (s : Bytes) → start_symbol (lexed quotes s) ≡ start_name s
start_is quotes s = start-by-text quotes s ∙ start-text s

-- ---- a text that is one symbol

textless : (c : ℕ) (s : Bytes) → (x : Lex Bytes) × (y : Lexes) × (text_lexed (c ∷ s) ≡ x ∷ y)
textless =
    by-piece (λ t. (x : Lex Bytes) × (y : Lexes) × (text_lexed t ≡ x ∷ y))
    (λ c s e. (byte c, text_lexed s, text-byte c s e))
    (λ s. (byte ampersand, byte ampersand ∷ text_lexed s, text-pair s))
    (λ c s e. (ref (c ∷ take (run letter_or_digit s) s), text_lexed (drop (run letter_or_digit s) s), text-symbol c s e))
    (λ s e f. (lone, text_lexed s, text-lone s e f))

-- a symbol is all of the text where nothing stands behind it
one-ref : (n v : Bytes) → is_one_symbol (ref n ∷ text_lexed v) ≡ eqb (length v) 0
unfolding is_one_symbol text_lexed symbols
one-ref n [] = refl
one-ref n (c ∷ v) = let r = textless c v in ap (λ (x : Lexes). is_one_symbol (ref n ∷ x)) r.2 ∙ sym (some-length (length v))

same_test : (a b c d : ℕ) → (a ≡ b → c ≡ d) → (c ≡ d → a ≡ b) → eqb a b ≡ eqb c d
same_test a b c d f g =
    by (eqb a b) (λ e. e ∙ sym (eq-eqb c d (f (eqb-true a b e)))) (λ e. e ∙ sym (ne_eqb c d (λ q. eqb-false a b e (g q))))

one_unnamed : (s : Bytes) → start_length s ≡ 0 → (not (eqb (start_length s) 0) && eqb (start_length s + 1) (length s)) ≡ false
one_unnamed s e = ap (λ (n : ℕ). not (eqb n 0) && eqb (start_length s + 1) (length s)) e

one-some : (s : Bytes) (n : ℕ) → start_length s ≡ suc n → (not (eqb (start_length s) 0) && eqb (start_length s + 1) (length s)) ≡ eqb (suc n + 1) (length s)
one-some s n e = ap (λ (n : ℕ). not (eqb n 0) && eqb (n + 1) (length s)) e ∙ ap (λ (b : Bool). not b && eqb (suc n + 1) (length s)) (some-length n)

one-text : (s : Bytes) → is_one_symbol (text_lexed s) ≡ (not (eqb (start_length s) 0) && eqb (start_length s + 1) (length s))
unfolding is_one_symbol text_lexed symbols start_length choose letter
one-text [] = refl
one-text (c ∷ s) =
    by-piece (λ t. is_one_symbol (text_lexed t) ≡ (not (eqb (start_length t) 0) && eqb (start_length t + 1) (length t)))
    (λ c s e. ap is_one_symbol (text-byte c s e) ∙ sym (one_unnamed (c ∷ s) (start-other c s e)))
    (λ s. ap is_one_symbol (text-pair s) ∙ sym (one_unnamed (ampersand ∷ (ampersand ∷ s)) (start-pair s)))
    (λ c s e.
    let r = run letter_or_digit s in
    let l = length-drop r s in
    let k = run_inside letter_or_digit s in
    ap is_one_symbol (text-symbol c s e)
    ∙ (one-ref (c ∷ take r s) (drop r s)
    ∙ (same_test (length (drop r s)) 0 (suc r + 1) (length (ampersand ∷ (c ∷ s))) (λ q. omega (arith, q, l, k)) (λ q. omega (arith, q, l, k))
    ∙ sym (one-some (ampersand ∷ (c ∷ s)) r (start-symbol c s e)))))
    (λ s e f. ap is_one_symbol (text-lone s e f) ∙ sym (one_unnamed (ampersand ∷ s) (start_left s f)))
    c s

pub one-is : (quotes : Bool) (s : Bytes) → is_one_symbol (lexed quotes s) ≡ (not (eqb (start_length s) 0) && eqb (start_length s + 1) (length s))
one-is quotes s = one-by-text quotes s ∙ one-text s

-- ---- a symbol that is too long

abbrev pub long_from : Bytes → Bool
long_from t = has_long_symbol (text_lexed t)

-- a piece that is no symbol
long-none : (t : Bytes) (n : ℕ) → start_length t ≡ 0 → piece_length t ≡ n → (ltb 7 (start_length t) || long_from (drop (piece_length t) t)) ≡ long_from (drop n t)
long-none t n e p = λ i. ltb 7 (e i) || long_from (drop (p i) t)

long-text : (c : ℕ) (s : Bytes) → let t = c ∷ s in long_from t ≡ (ltb 7 (start_length t) || long_from (drop (piece_length t) t))
unfolding has_long_symbol refs_in any is_long
long-text =
    by-piece (λ t. long_from t ≡ (ltb 7 (start_length t) || long_from (drop (piece_length t) t)))
    (λ c s e. ap has_long_symbol (text-byte c s e) ∙ sym (long-none (c ∷ s) 1 (start-other c s e) (piece-other c s e)))
    (λ s. ap has_long_symbol (text-pair s) ∙ sym (long-none (ampersand ∷ (ampersand ∷ s)) 2 (start-pair s) (piece-pair s)))
    (λ c s e.
    let r = run letter_or_digit s in
    let l : length (take r s) ≡ r = length-take r s ∙ omega (arith, run_inside letter_or_digit s) in
    ap has_long_symbol (text-symbol c s e)
    ∙ (ap (λ (n : ℕ). ltb 7 (suc n) || long_from (drop r s)) l
    ∙ sym (λ i. ltb 7 (start-symbol c s e i) || long_from (drop (piece-symbol c s e i) (ampersand ∷ (c ∷ s))))))
    (λ s e f. ap has_long_symbol (text-lone s e f) ∙ sym (long-none (ampersand ∷ s) 1 (start_left s f) (piece-left s e f)))

-- ---- a text with no symbol and no ampersand left over

abbrev pub plain_from : Bytes → Bool
plain_from t = every is_plain (text_lexed t)

plain-yes : (t : Bytes) (n : ℕ) → starts_plain t ≡ true → piece_length t ≡ n → (starts_plain t && plain_from (drop (piece_length t) t)) ≡ plain_from (drop n t)
plain-yes t n e p = λ i. e i && plain_from (drop (p i) t)

plain-no : (t : Bytes) → starts_plain t ≡ false → (starts_plain t && plain_from (drop (piece_length t) t)) ≡ false
plain-no t e = ap (λ (b : Bool). b && plain_from (drop (piece_length t) t)) e

plain-text : (c : ℕ) (s : Bytes) → let t = c ∷ s in plain_from t ≡ (starts_plain t && plain_from (drop (piece_length t) t))
unfolding every is_plain starts_plain
plain-text =
    by-piece (λ t. plain_from t ≡ (starts_plain t && plain_from (drop (piece_length t) t)))
    (λ c s e. ap (every is_plain) (text-byte c s e) ∙ sym (plain-yes (c ∷ s) 1 (ap (λ (b : Bool). not (b && not (eqb (get_or s 0 0) ampersand))) e) (piece-other c s e)))
    (λ s. ap (every is_plain) (text-pair s) ∙ sym (plain-yes (ampersand ∷ (ampersand ∷ s)) 2 refl (piece-pair s)))
    (λ c s e. ap (every is_plain) (text-symbol c s e) ∙ sym (plain-no (ampersand ∷ (c ∷ s)) (ap (λ (b : Bool). not (not b)) (letter-other c e))))
    (λ s e f. ap (every is_plain) (text-lone s e f) ∙ sym (plain-no (ampersand ∷ s) (ap (λ (b : Bool). not (not b)) e)))

-- ---- what code finds

-- the name that was found, or none
module _ (s : Bytes) where
  abbrev first_of : List Bytes → Bytes
  first_of [] = []
  first_of (n ∷ ns) = n

  pub size_none : [] ≡ start_name s → start_length s ≡ 0
  unfolding start_name
  size_none e =
      by (eqb (start_length s) 0) (λ t. eqb-true (start_length s) 0 t)
      (λ t. let n = ap length (e ∙ passed_over _ _ t) in omega (arith, n))

  pub size-some : (n : Bytes) → n ∷ [] ≡ start_name s → length n ≡ start_length s
  unfolding start_name
  size-some n e =
      by (eqb (start_length s) 0) (λ t. let n = ap length (e ∙ chosen _ _ t) in omega (arith, n))
      (λ t.
      let l = length-take (start_length s) (drop 1 s) in
      ap length (ap first_of (e ∙ passed_over _ _ t)) ∙ (l ∙ omega (arith, length-drop 1 s, start-inside s)))

  pub one_none : (quotes : Bool) → [] ≡ start_name s → false ≡ is_one_symbol (lexed quotes s)
  one_none quotes e = sym (one-is quotes s ∙ ap (λ (k : ℕ). not (eqb k 0) && eqb (start_length s + 1) (length s)) (size_none e))

  pub one-found : (quotes : Bool) (n : Bytes) → n ∷ [] ≡ start_name s → eqb (length n + 1) (length s) ≡ is_one_symbol (lexed quotes s)
  unfolding start_name
  one-found quotes n e =
      by (eqb (start_length s) 0) (λ t. let n = ap length (e ∙ chosen _ _ t) in absurd (omega (arith, n)))
      (λ t. ap (λ (k : ℕ). eqb (k + 1) (length s)) (size-some n e) ∙ sym (one-is quotes s ∙ ap (λ (b : Bool). not b && eqb (start_length s + 1) (length s)) t))

module _ (s : Bytes) {first second : ℕ} (f : first ≡ get_or s 0 0) (g : second ≡ get_or s 1 0) where
  module _ {named : Bool} (l : named ≡ letter second) where
    start-tested : (eqb first ampersand && named) ≡ (eqb (get_or s 0 0) ampersand && letter (get_or s 1 0))
    start-tested = λ i. eqb (f i) ampersand && (l ∙ ap letter g) i

    module _ (t : (eqb first ampersand && named) ≡ true) (end : ℕ) (e : end ≡ symbol_end s 2) where
      length_found : start_length s ≡ suc (run letter_or_digit (drop 2 s))
      unfolding start_length
      length_found = chosen _ _ (sym start-tested ∙ t)

      end-found : end ≡ 2 + run letter_or_digit (drop 2 s)
      unfolding symbol_end
      end-found = e

      pub end-inside : (1 ≤ end) × (end ≤ length s)
      end-inside = (omega (arith, end-found), omega (arith, end-found, length_found, start-inside s))

      pub named-found : (quotes : Bool) → take (end - 1) (drop 1 s) ∷ [] ≡ start_symbol (lexed quotes s)
      named-found quotes =
          let n : suc (run letter_or_digit (drop 2 s)) ≡ end - 1 = omega (arith, end-found) in
          sym (start_is quotes s ∙ (name-some s (run letter_or_digit (drop 2 s)) length_found ∙ ap (λ (k : ℕ). take k (drop 1 s) ∷ []) n))

    pub none-found : (eqb first ampersand && named) ≡ false → (quotes : Bool) → [] ≡ start_symbol (lexed quotes s)
    unfolding start_length
    none-found t quotes = sym (start_is quotes s ∙ name-none s (passed_over _ _ (sym start-tested ∙ t)))

-- ---- pieces

module _ (t : Bytes) {second : ℕ} (g : second ≡ get_or t 1 0) where
  pair-tested : (eqb (get_or t 0 0) ampersand && eqb second ampersand) ≡ (eqb (get_or t 0 0) ampersand && eqb (get_or t 1 0) ampersand)
  pair-tested = λ i. eqb (get_or t 0 0) ampersand && eqb (g i) ampersand

  pub pair-length : (eqb (get_or t 0 0) ampersand && eqb second ampersand) ≡ true → 2 ≡ piece_length t
  unfolding piece_length
  pair-length e = sym (chosen _ _ (sym pair-tested ∙ e))

  pub other_length : (eqb (get_or t 0 0) ampersand && eqb second ampersand) ≡ false → (n : ℕ) → n ≡ start_length t → n + 1 ≡ piece_length t
  unfolding piece_length
  other_length e n q = let k : n + 1 ≡ suc (start_length t) = omega (arith, q) in k ∙ sym (passed_over _ _ (sym pair-tested ∙ e))

  pub plain-told : {b : Bool} → (eqb (get_or t 0 0) ampersand && not (eqb second ampersand)) ≡ b → starts_plain t ≡ not b
  unfolding starts_plain
  plain-told e = ap not (sym (λ i. eqb (get_or t 0 0) ampersand && not (eqb (g i) ampersand)) ∙ e)

-- what holds of texts that are not empty
some-text : (P : Bytes → Type 0) → ((c : ℕ) (s : Bytes) → P (c ∷ s)) → (t : Bytes) → 0 < length t → P t
some-text P p [] h = absurd (not-suc-le-zero h)
some-text P p (c ∷ s) h = p c s

module _ (t : Bytes) (h : 0 < length t) where
  pub piece-within : (0 < piece_length t) × (piece_length t ≤ length t)
  piece-within = some-text (λ t. (0 < piece_length t) × (piece_length t ≤ length t)) piece_inside t h

  long-on : long_from t ≡ (ltb 7 (start_length t) || long_from (drop (piece_length t) t))
  long-on = some-text (λ t. long_from t ≡ (ltb 7 (start_length t) || long_from (drop (piece_length t) t))) long-text t h

  pub long-found : 7 < start_length t → long_from t ≡ true
  long-found lt = long-on ∙ ap (λ (b : Bool). b || long_from (drop (piece_length t) t)) (lt-ltb 7 (start_length t) lt)

  pub long-further : start_length t ≤ 7 → long_from t ≡ long_from (drop (piece_length t) t)
  long-further le = long-on ∙ ap (λ (b : Bool). b || long_from (drop (piece_length t) t)) (le-ltb 7 (start_length t) le)

  plain-on : plain_from t ≡ (starts_plain t && plain_from (drop (piece_length t) t))
  plain-on = some-text (λ t. plain_from t ≡ (starts_plain t && plain_from (drop (piece_length t) t))) plain-text t h

  pub plain-stop : starts_plain t ≡ false → plain_from t ≡ false
  plain-stop e = plain-on ∙ ap (λ (b : Bool). b && plain_from (drop (piece_length t) t)) e

  pub plain-further : starts_plain t ≡ true → plain_from t ≡ plain_from (drop (piece_length t) t)
  plain-further e = plain-on ∙ ap (λ (b : Bool). b && plain_from (drop (piece_length t) t)) e

module _ (t : Bytes) (h : length t ≡ 0) where
  pub long-end : long_from t ≡ false
  unfolding has_long_symbol refs_in any text_lexed symbols
  long-end = ap long_from (nil_from_length t h)

  pub plain_end : plain_from t ≡ true
  unfolding every text_lexed symbols
  plain_end = ap plain_from (nil_from_length t h)

-- the text from a place on, cut out
pub part-all : (s : Bytes) (at : ℕ) → take (length s - at) (drop at s) ≡ drop at s
part-all s at = take_all (length s - at) (drop at s) (omega (arith, length-drop at s))
