-- What the definition's reader does with a list, piece by piece. Assumes nothing.
use Prim.Native.Nat.{ℕ, zero, suc, ◌≤◌}
use native.Mathlib.Nat.{not-suc-le-zero, le_of_suc-le-suc}
use mathlib.Core.Path.{◌≡◌, refl, ap, sym, ◌∙◌}
use mathlib.Core.Bool.{Bool, true, false, false≢true, ◌&&◌, ◌||◌, not, and-false}
use mathlib.Core.List.{List, [], ◌∷◌, ◌++◌, map, append_assoc, append-nil}
use lib.Dec.{eqb}
use lib.ListN.{length, get_or, take, drop}
use borrow.Author.Tests.{eqb-true}
use Rattle.text.specs.Bytes.{Bytes}
use Rattle.text.specs.Characters.{letter, digit, letter_or_digit}
use Rattle.rules.specs.Choice.{choose, run}
use Rattle.rules.specs.Lexemes.{ampersand, apostrophe, Lex, byte, mark, ref, lone, byte_of, Before, is_mark, after, marked, in_text, after_ampersand, in_symbol, symbols}
use Rattle.rules.proofs.Choices.{by, chosen, passed_over, into}
use Rattle.deck.specs.Coders.{mark_code, no_code}
use Rattle.coding.specs.Coded.{code_by, codes_from}

-- what stands before the next place, where no quote opens or closes
abbrev pub moved : Before → ℕ → Before
moved b c = record { second = b.first; first = c; quoted = b.quoted }

-- a letter or digit is no ampersand and no apostrophe
no_sign : (c d : ℕ) → letter_or_digit d ≡ false → letter_or_digit c ≡ true → eqb c d ≡ false
no_sign c d f t = by (eqb c d) (λ e. absurd (false≢true (sym (ap letter_or_digit (eqb-true c d e) ∙ f) ∙ t))) (λ e. e)

letter-counts : (c : ℕ) → letter c ≡ true → letter_or_digit c ≡ true
unfolding letter_or_digit
letter-counts c e = ap (λ (b : Bool). b || digit c) e

false-and : (a b : Bool) → a ≡ false → (a && b) ≡ false
false-and a b e = ap (λ (x : Bool). x && b) e

-- a test that fails at 0 and at c fails at c's lexeme
tested : (t : ℕ → Bool) (m : Bool) (c : ℕ) → t 0 ≡ false → t c ≡ false → t (byte_of {R = Bytes} (choose m mark (byte c))) ≡ false
unfolding byte_of choose
tested t true c z e = z
tested t false c z e = e

module _ (f : Bytes → ℕ) (quotes : Bool) (b : Before) (c : ℕ) (s : Bytes) where
  -- a byte that is no ampersand
  module _ (other : eqb c ampersand ≡ false) where
    text-first : codes_from f quotes b (c ∷ s) ≡ code_by f (choose (is_mark b c s) mark (byte c)) ∷ codes_from f quotes (after quotes b c s) s
    unfolding codes_from marked symbols
    text-first = ap (map (code_by f)) (passed_over _ _ (tested (λ k. eqb k ampersand) (is_mark b c s) c refl other))

    pub mark-first : is_mark b c s ≡ true → codes_from f quotes b (c ∷ s) ≡ mark_code ∷ codes_from f quotes (moved b c) s
    unfolding code_by after
    mark-first e =
        let q : (eqb c apostrophe && not (is_mark b c s)) ≡ false = ap (λ m. eqb c apostrophe && not m) e ∙ and-false (eqb c apostrophe) in
        text-first
        ∙ ((λ i. code_by f (chosen mark (byte c) e i) ∷ codes_from f quotes (after quotes b c s) s)
        ∙ (λ i. mark_code ∷ codes_from f quotes (record { second = b.first; first = c; quoted = passed_over (quotes && not b.quoted) b.quoted q i }) s))

    module _ (e : is_mark b c s ≡ false) where
      byte-first : codes_from f quotes b (c ∷ s) ≡ c ∷ codes_from f quotes (after quotes b c s) s
      unfolding code_by
      byte-first = text-first ∙ (λ i. code_by f (passed_over mark (byte c) e i) ∷ codes_from f quotes (after quotes b c s) s)

      pub quote-first : eqb c apostrophe ≡ true
          → codes_from f quotes b (c ∷ s) ≡ c ∷ codes_from f quotes (record { second = b.first; first = c; quoted = quotes && not b.quoted }) s
      unfolding after
      quote-first h =
          let q : (eqb c apostrophe && not (is_mark b c s)) ≡ true = λ i. h i && not (e i) in
          byte-first ∙ (λ i. c ∷ codes_from f quotes (record { second = b.first; first = c; quoted = chosen (quotes && not b.quoted) b.quoted q i }) s)

      pub plain-first : eqb c apostrophe ≡ false → codes_from f quotes b (c ∷ s) ≡ c ∷ codes_from f quotes (moved b c) s
      unfolding after
      plain-first h =
          let q : (eqb c apostrophe && not (is_mark b c s)) ≡ false = ap (λ a. a && not (is_mark b c s)) h in
          byte-first ∙ (λ i. c ∷ codes_from f quotes (record { second = b.first; first = c; quoted = passed_over (quotes && not b.quoted) b.quoted q i }) s)

-- a letter or digit is a byte for itself, and opens no quote
module _ (quotes : Bool) (b : Before) (c : ℕ) (s : Bytes) (e : letter_or_digit c ≡ true) where
  no-apostrophe : eqb c apostrophe ≡ false
  unfolding letter_or_digit letter digit
  no-apostrophe = no_sign c apostrophe refl e

  no-ampersand : eqb c ampersand ≡ false
  unfolding letter_or_digit letter digit
  no-ampersand = no_sign c ampersand refl e

  marked-on : marked {R = Bytes} quotes b (c ∷ s) ≡ byte c ∷ marked quotes (moved b c) s
  unfolding marked after is_mark
  marked-on =
      let h = no-apostrophe in
      let q : (eqb c apostrophe && not (is_mark b c s)) ≡ false = ap (λ a. a && not (is_mark b c s)) h in
      let m : is_mark b c s ≡ false = false-and (eqb c apostrophe) _ h in
      (λ i. passed_over mark (byte c) m i ∷ marked quotes (record { second = b.first; first = c; quoted = passed_over (quotes && not b.quoted) b.quoted q i }) s)

-- what stands before the place behind some bytes that have no apostrophe
abbrev pub carried : Before → Bytes → Before
carried b [] = b
carried b (c ∷ s) = carried (moved b c) s

pub carried-is : (s : Bytes) (b : Before) (i : ℕ) → i ≤ length s
    → carried b (take i s) ≡ record { second = get_or (b.second ∷ (b.first ∷ s)) i 0; first = get_or (b.first ∷ s) i 0; quoted = b.quoted }
carried-is [] b zero h = refl
carried-is [] b (suc i) h = absurd (not-suc-le-zero h)
carried-is (c ∷ s) b zero h = refl
carried-is (c ∷ s) b (suc i) h = carried-is s (moved b c) i (le_of_suc-le-suc h)

module _ (f : Bytes → ℕ) (quotes : Bool) where
  -- a pair of ampersands
  pub pair-first : (b : Before) (s : Bytes)
      → codes_from f quotes b (ampersand ∷ (ampersand ∷ s)) ≡ ampersand ∷ (ampersand ∷ codes_from f quotes (moved (moved b ampersand) ampersand) s)
  unfolding codes_from marked after is_mark symbols byte_of code_by choose
  pair-first b s = refl

  -- an ampersand left over
  pub lone-first : (b : Before) (s : Bytes) → eqb (get_or s 0 0) ampersand ≡ false → letter (get_or s 0 0) ≡ false
      → codes_from f quotes b (ampersand ∷ s) ≡ no_code ∷ codes_from f quotes (moved b ampersand) s
  unfolding codes_from marked after is_mark symbols byte_of code_by choose letter
  lone-first b [] e h = refl
  lone-first b (c ∷ s) e h =
      let m = is_mark (moved b ampersand) c s in
      let t : eqb (byte_of {R = Bytes} (choose m mark (byte c))) ampersand ≡ false = tested (λ k. eqb k ampersand) m c refl e in
      ap (map (code_by f)) (passed_over _ _ t ∙ (passed_over _ _ (tested letter m c refl h) ∙ ap (lone ∷◌) (sym (passed_over _ _ t))))

  -- a symbol that has begun ends before a byte that is no letter or digit
  symbol-ends : (s : Bytes) (b : Before) (c : ℕ) (n : Bytes) → letter_or_digit c ≡ false
      → map (code_by f) (symbols (in_symbol n) (marked quotes b (c ∷ s))) ≡ f n ∷ codes_from f quotes b (c ∷ s)
  unfolding codes_from marked symbols code_by letter_or_digit letter digit
  symbol-ends s b c n e =
      let x : Lex Bytes = choose (is_mark b c s) mark (byte c) in
      let t : List (Lex Bytes) = marked quotes (after quotes b c s) s in
      ap (map (code_by f))
      (passed_over (symbols (in_symbol (n ++ (byte_of x ∷ []))) t) (choose (eqb (byte_of x) ampersand) (ref n ∷ symbols after_ampersand t) (ref n ∷ (x ∷ symbols in_text t)))
      (tested letter_or_digit (is_mark b c s) c refl e)
      ∙ sym (into (ref n ∷◌) (eqb (byte_of x) ampersand) (symbols after_ampersand t) (x ∷ symbols in_text t)))

  -- a symbol that has begun: all letters and digits from here on are its
  symbol-rest : (s : Bytes) (b : Before) (n : Bytes) → map (code_by f) (symbols (in_symbol n) (marked quotes b s))
      ≡ f (n ++ take (run letter_or_digit s) s) ∷ codes_from f quotes (carried b (take (run letter_or_digit s) s)) (drop (run letter_or_digit s) s)
  unfolding codes_from marked symbols byte_of code_by run
  symbol-rest [] b n = ap (λ m. f m ∷ []) (sym (append-nil n))
  symbol-rest (c ∷ s) b n =
      by (letter_or_digit c)
      (λ e. ap (λ x. map (code_by f) (symbols (in_symbol n) x)) (marked-on quotes b c s e)
      ∙ (ap (map (code_by f)) (chosen _ _ e) ∙ (symbol-rest s (moved b c) (n ++ (c ∷ [])) ∙ rw (chosen (suc (run letter_or_digit s)) 0 e, append_assoc))))
      (λ e. rw (passed_over (suc (run letter_or_digit s)) 0 e, append-nil) (symbol-ends s b c n e))

  pub symbol-first : (b : Before) (c : ℕ) (s : Bytes) → letter c ≡ true → let r = run letter_or_digit s in
      codes_from f quotes b (ampersand ∷ (c ∷ s)) ≡ f (c ∷ take r s) ∷ codes_from f quotes (carried (moved (moved b ampersand) c) (take r s)) (drop r s)
  unfolding codes_from marked after is_mark symbols byte_of code_by choose
  symbol-first b c s e =
      let k = letter-counts c e in
      ap (λ x. map (code_by f) (symbols after_ampersand x)) (marked-on quotes (moved b ampersand) c s k)
      ∙ (ap (map (code_by f)) (passed_over _ _ (no-ampersand quotes b c s k) ∙ chosen _ _ e) ∙ symbol-rest s (moved (moved b ampersand) c) (c ∷ []))
