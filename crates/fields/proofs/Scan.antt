-- The scan of an operand by its state is 01's: marks, quotes and parentheses as `marked` and `enters` have them. Assumes nothing.
use Prim.Native.Nat.{ℕ, zero, suc, pred, ◌+◌, ◌≤◌, ◌<◌}
use native.Mathlib.Numerals.{add-one}
use native.Mathlib.Omega.{arith}
use mathlib.Core.Path.{◌≡◌, refl, ap, sym, ◌∙◌}
use mathlib.Core.Bool.{Bool, true, false, ◌&&◌, ◌||◌, not, and-false, and-true}
use mathlib.Core.List.{[], ◌∷◌}
use lib.Dec.{eqb}
use lib.ListN.{length, get_or, drop, drop_of_length-le}
use lib.Seq.{drop-cons}
use borrow.Author.Tests.{eqb-true}
use Rattle.text.specs.Bytes.{Bytes, bytes, member}
use Rattle.text.specs.Characters.{letter, letter_or_digit}
use Rattle.rules.specs.Choice.{choose, passed}
use Rattle.rules.specs.Lexemes.{space, ampersand, apostrophe, opening, closing, Lex, byte, mark, byte_of, follows, is_mark, after, marked, enters}
use Rattle.rules.specs.Fields.{ends_operand}
use Rattle.rules.proofs.Choices.{by, chosen, passed_over, and_left}
use Rattle.fields.specs.declared.Seen.{Seen as State}
use Rattle.fields.specs.Seen.{before_of, inside_of, precedes, marks, closes_field, depth_after, quoted_after, seen_after}

-- the byte that follows tells what `follows` asks of all that follows
follows_by : (l : Bytes) (j : ℕ) → follows (drop j l) ≡ (letter (get_or l j 0) || eqb (get_or l j 0) ampersand)
unfolding follows letter
follows_by [] zero = refl
follows_by [] (suc j) = refl
follows_by (c ∷ l) zero = refl
follows_by (c ∷ l) (suc j) = follows_by l j

or-right-nested : (a b c d : Bool) → (a || b || c || d) ≡ (a || (b || (c || (d || false))))
or-right-nested true b c d = refl
or-right-nested false true c d = refl
or-right-nested false false true d = refl
or-right-nested false false false true = refl
or-right-nested false false false false = refl

precedes-is : (c : ℕ) → precedes c ≡ member c (bytes "KNTL")
unfolding precedes
precedes-is c = or-right-nested (eqb c 75) (eqb c 78) (eqb c 84) (eqb c 76)

and-right-nested : (a b c d e : Bool) → (a && b && c && d && e) ≡ (a && (b && (c && (d && e))))
and-right-nested true true true true e = refl
and-right-nested true true true false e = refl
and-right-nested true true false d e = refl
and-right-nested true false c d e = refl
and-right-nested false b c d e = refl

pub marks-is : (l : Bytes) (j : ℕ) (s : State) (c : ℕ) → marks s c (get_or l j 0) ≡ is_mark (before_of s) c (drop j l)
unfolding marks is_mark before_of
marks-is l j s c =
    and-right-nested (eqb c apostrophe) (not s.quoted) (letter (get_or l j 0) || eqb (get_or l j 0) ampersand) (precedes s.first) (not (letter_or_digit s.second || eqb s.second ampersand))
    ∙ (λ i. eqb c apostrophe && (not s.quoted && (sym (follows_by l j) i && (precedes-is s.first i && not (letter_or_digit s.second || eqb s.second ampersand)))))

-- ---- one byte

-- the lexeme that a byte is
abbrev lexeme : State → ℕ → Bytes → Lex Bytes
lexeme s c rest = choose (is_mark (before_of s) c rest) mark (byte c)

-- a mark is an apostrophe
mark-apostrophe : (s : State) (c : ℕ) (rest : Bytes) → is_mark (before_of s) c rest ≡ true → eqb c apostrophe ≡ true
unfolding is_mark
mark-apostrophe s c rest h = and_left (eqb c apostrophe) _ h

-- a test of the lexeme's byte for any byte but an apostrophe is a test of the byte
plain_byte : (s : State) (c d : ℕ) (rest : Bytes) → eqb 0 d ≡ false → eqb apostrophe d ≡ false → eqb (byte_of (lexeme s c rest)) d ≡ eqb c d
unfolding byte_of
plain_byte s c d rest z a =
    by (is_mark (before_of s) c rest)
    (λ m. ap (λ (x : Lex Bytes). eqb (byte_of x) d) (chosen mark (byte c) m) ∙ (z ∙ sym (ap (λ k. eqb k d) (eqb-true c apostrophe (mark-apostrophe s c rest m)) ∙ a)))
    (λ m. ap (λ (x : Lex Bytes). eqb (byte_of x) d) (passed_over mark (byte c) m))

-- an apostrophe that is no mark
quote-byte : (s : State) (c : ℕ) (rest : Bytes) → eqb (byte_of (lexeme s c rest)) apostrophe ≡ (eqb c apostrophe && not (is_mark (before_of s) c rest))
unfolding byte_of
quote-byte s c rest =
    by (is_mark (before_of s) c rest)
    (λ m. ap (λ (x : Lex Bytes). eqb (byte_of x) apostrophe) (chosen mark (byte c) m) ∙ sym (ap (λ b. eqb c apostrophe && not b) m ∙ and-false (eqb c apostrophe)))
    (λ m. ap (λ (x : Lex Bytes). eqb (byte_of x) apostrophe) (passed_over mark (byte c) m) ∙ sym (ap (λ b. eqb c apostrophe && not b) m ∙ and-true (eqb c apostrophe)))

module _ (l : Bytes) (j : ℕ) (s : State) (c : ℕ) where
  abbrev rest : Bytes
  rest = drop j l

  pub before-after : before_of (seen_after s c (get_or l j 0)) ≡ after true (before_of s) c rest
  unfolding before_of seen_after quoted_after after
  before-after = λ i. record { second = s.first; first = c; quoted = choose (eqb c apostrophe && not (marks-is l j s c i)) (not s.quoted) s.quoted }

  pub inside-after : inside_of (seen_after s c (get_or l j 0)) ≡ enters (inside_of s) (lexeme s c rest)
  unfolding inside_of seen_after quoted_after depth_after enters
  inside-after = λ i. record {
    quoted = choose (((ap (λ b. eqb c apostrophe && not b) (marks-is l j s c)) ∙ sym (quote-byte s c rest)) i) (not s.quoted) s.quoted;
    depth = choose s.quoted s.depth
        (choose (sym (plain_byte s c opening rest refl refl) i) (suc s.depth) (choose (sym (plain_byte s c closing rest refl refl) i) (pred s.depth) s.depth));
  }

  pub closes-is : (holds : Bool) → closes_field holds s c ≡ ends_operand holds (inside_of s) (lexeme s c rest)
  unfolding closes_field ends_operand inside_of
  closes-is holds =
      and-nested (eqb c space) (not s.quoted) (not holds || eqb s.depth 0)
      ∙ (λ i. sym (plain_byte s c space rest refl refl) i && (not s.quoted && (not holds || eqb s.depth 0)))
    where
      and-nested : (a b d : Bool) → (a && b && d) ≡ (a && (b && d))
      and-nested true b d = refl
      and-nested false b d = refl

-- ---- the scan, by place

-- where the scan stops that has seen `s` before place i
unfoldable pub stops_from : Bool → Bytes → ℕ → State → ℕ
stops_from holds l i s = i + passed (ends_operand holds) enters (inside_of s) (marked true (before_of s) (drop i l))

module _ (holds : Bool) (l : Bytes) (i : ℕ) (s : State) where
  pub scan-end : length l ≤ i → stops_from holds l i s ≡ i
  unfolding stops_from passed marked
  scan-end h = rw (drop_of_length-le l h) (omega arith)

  module _ (h : i < length l) where
    cut : marked {R = Bytes} true (before_of s) (drop i l) ≡ lexeme s (get_or l i 0) (drop (i + 1) l) ∷ marked true (after true (before_of s) (get_or l i 0) (drop (i + 1) l)) (drop (i + 1) l)
    unfolding marked
    cut = rw (drop-cons l i 0, add-one)

    pub scan-stop : closes_field holds s (get_or l i 0) ≡ true → stops_from holds l i s ≡ i
    unfolding stops_from passed
    scan-stop e = rw (cut, chosen 0 (suc (passed (ends_operand holds) enters (enters (inside_of s) (lexeme s (get_or l i 0) (drop (i + 1) l))) (marked true (after true (before_of s) (get_or l i 0) (drop (i + 1) l)) (drop (i + 1) l)))) (sym (closes-is l (i + 1) s (get_or l i 0) holds) ∙ e)) (omega arith)

    pub scan-on : closes_field holds s (get_or l i 0) ≡ false → stops_from holds l i s ≡ stops_from holds l (i + 1) (seen_after s (get_or l i 0) (get_or l (i + 1) 0))
    unfolding stops_from passed
    scan-on e =
        let c = get_or l i 0 in
        let r = drop (i + 1) l in
        let x = lexeme s c r in
        let on = passed (ends_operand holds) enters (enters (inside_of s) x) (marked true (after true (before_of s) c r) r) in
        let moved : i + suc on ≡ i + 1 + on = omega arith in
        ap (λ z. i + passed (ends_operand holds) enters (inside_of s) z) cut
        ∙ (ap (i +◌) (passed_over 0 (suc on) (sym (closes-is l (i + 1) s c holds) ∙ e))
        ∙ (moved ∙ sym (λ j. i + 1 + passed (ends_operand holds) enters (inside-after l (i + 1) s c j) (marked true (before-after l (i + 1) s c j) r))))
