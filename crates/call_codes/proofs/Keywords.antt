-- One part of a field's codes, as its first bare `=` tells it. Assumes nothing.
use Prim.Native.Nat.{ℕ, suc, ◌+◌, ◌<◌}
use native.Mathlib.Omega.{arith}
use mathlib.Core.Path.{◌≡◌, refl, ap, sym, ◌∙◌}
use mathlib.Core.Bool.{Bool, true, false, ◌&&◌, ◌||◌, not, false≢true}
use mathlib.Core.List.{List, [], ◌∷◌, map}
use lib.Dec.{ltb}
use lib.ListN.{length, take, drop}
use borrow.Author.Tests.{ltb-true, ltb-false, lt-ltb, le-ltb, le-leb, lt-leb, ne_eqb}
use Rattle.text.specs.Bytes.{Bytes, same}
use Rattle.text.specs.Characters.{letter, digit, letter_or_digit}
use Rattle.text.proofs.Same.{same-is}
use Rattle.rules.specs.Choice.{every}
use Rattle.rules.specs.Limits.{name_limit}
use Rattle.rules.specs.Lexemes.{equals, Lex, byte_of, is_name}
use Rattle.rules.specs.Calls.{equals_at, has_equals}
use Rattle.rules.proofs.Choices.{by, chosen, passed_over, and_left, and_right}
use Rattle.call_operands.specs.Calling.{name_of, value_of, is_keyword, named_among, may_stand}
use Rattle.call_operands.proofs.Names.{lettered, name-lettered}
use Rattle.call_codes.specs.Codes.{code_lex, lexemes, cut_at}
use Rattle.call_codes.proofs.Scanned.{text-is, other-is}
use Rattle.call_codes.proofs.Cutting.{lexemes-take, lexemes-drop, lexemes-length}

-- ---- a name reads as itself

letter-small : (b : ℕ) → letter_or_digit b ≡ true → b < 127
unfolding letter_or_digit letter digit
letter-small b e =
    by (ltb b 127) (λ t. ltb-true b 127 t)
    (λ t.
    let h = ltb-false b 127 t in
    let none : letter_or_digit b ≡ false = λ i.
    (le-leb 65 b (omega (arith, h)) i && lt-leb b 90 (omega (arith, h)) i
    || (ne_eqb b 36 (λ q. omega (arith, h, q)) i || (ne_eqb b 35 (λ q. omega (arith, h, q)) i || (ne_eqb b 64 (λ q. omega (arith, h, q)) i || ne_eqb b 95 (λ q. omega (arith, h, q)) i))))
    || le-leb 48 b (omega (arith, h)) i && lt-leb b 57 (omega (arith, h)) i in
    absurd (false≢true (sym none ∙ e)))

-- the text bytes of codes that are letters and digits are these
pub plain-read : (s : Bytes) → lettered s ≡ true → map byte_of (lexemes s) ≡ s
unfolding lettered every lexemes
plain-read [] e = refl
plain-read (b ∷ s) e =
    λ i. sym (text-is b (letter-small b (and_left (letter_or_digit b) _ e))) i ∷ plain-read s (and_right (letter_or_digit b) _ e) i

read_one : (b : ℕ) → letter_or_digit (byte_of (code_lex b)) ≡ true → byte_of (code_lex b) ≡ b
unfolding letter_or_digit letter digit
read_one b e =
    by (ltb b 127)
    (λ t. sym (text-is b (ltb-true b 127 t)))
    (λ t. absurd (false≢true (ap letter_or_digit (other-is b (ltb-false b 127 t)) ∙ e)))

pub read_name : (s : Bytes) → lettered (map byte_of (lexemes s)) ≡ true → map byte_of (lexemes s) ≡ s
unfolding lettered every lexemes
read_name [] e = refl
read_name (b ∷ s) e = λ i. read_one b (and_left (letter_or_digit (byte_of (code_lex b))) _ e) i ∷ read_name s (and_right (letter_or_digit (byte_of (code_lex b))) _ e) i

name-told : (limit : ℕ) (s : Bytes) → is_name limit (map byte_of (lexemes s)) ≡ is_name limit s
name-told limit s =
    by (is_name limit (map byte_of (lexemes s)))
    (λ t. ap (is_name limit) (read_name s (name-lettered limit (map byte_of (lexemes s)) t)))
    (λ t. by (is_name limit s)
    (λ f. ap (is_name limit) (plain-read s (name-lettered limit s f)))
    (λ f. t ∙ sym f))

same-told : (s n : Bytes) → lettered n ≡ true → same s n ≡ same (map byte_of (lexemes s)) n
same-told s n e =
    by (same s n)
    (λ t. ap (λ (k : Bytes). same k n) (sym (plain-read s (ap lettered (same-is s n t) ∙ e))))
    (λ t. by (same (map byte_of (lexemes s)) n)
    (λ f. ap (λ (k : Bytes). same k n) (sym (read_name s (ap lettered (same-is (map byte_of (lexemes s)) n f) ∙ e))))
    (λ f. t ∙ sym f))

-- ---- the part, cut at `end`

module _ (p : Bytes) (end : ℕ) (e : end ≡ 0 + cut_at equals p) where
  abbrev x : List (Lex ℕ)
  x = lexemes p

  abbrev written : Bytes
  written = take end p

  end_is : equals_at x ≡ end
  unfolding equals_at cut_at
  end_is = omega (arith, e)

  pub has-told : has_equals x ≡ ltb end (length p)
  unfolding has_equals
  has-told = λ i. ltb (end_is i) (lexemes-length p i)

  name-is : name_of x ≡ map byte_of (lexemes written)
  unfolding name_of
  name-is = ap (map (byte_of {R = ℕ})) (ap (λ (n : ℕ). take n x) end_is ∙ lexemes-take end p)

  value-is : value_of x ≡ lexemes (drop (end + 1) p)
  unfolding value_of
  value-is =
      let n : suc (equals_at x) ≡ end + 1 = let q = end_is in omega (arith, q) in
      ap (λ (k : ℕ). drop k x) n ∙ lexemes-drop (end + 1) p

  pub named-same : (n : Bytes) → is_name name_limit n ≡ true → same written n ≡ same (name_of x) n
  named-same n t = same-told written n (name-lettered name_limit n t) ∙ ap (λ (k : Bytes). same k n) (sym name-is)

  -- the part may stand before others, test by test
  module _ (k : Bool) (xs : List (List (Lex ℕ))) where
    pub stand-plain : end ≡ length p → not k ≡ may_stand k x xs
    unfolding may_stand
    stand-plain h = sym (passed_over _ _ (has-told ∙ le-ltb end (length p) (omega (arith, h))))

    module _ (h : end < length p) where
      stand-is : may_stand k x xs ≡ ((is_name name_limit written && not (has_equals (lexemes (drop (end + 1) p)))) && not (named_among (name_of x) xs))
      unfolding may_stand is_keyword
      stand-is =
          chosen _ _ (has-told ∙ lt-ltb end (length p) h)
          ∙ (λ i. ((ap (is_name name_limit) name-is ∙ name-told name_limit written) i && not (has_equals (value-is i))) && not (named_among (name_of x) xs))

      pub stand-unnamed : is_name name_limit written ≡ false → may_stand k x xs ≡ false
      stand-unnamed f = stand-is ∙ ap (λ (b : Bool). (b && not (has_equals (lexemes (drop (end + 1) p)))) && not (named_among (name_of x) xs)) f

      module _ (n : is_name name_limit written ≡ true) where
        pub stand-equals : has_equals (lexemes (drop (end + 1) p)) ≡ true → may_stand k x xs ≡ false
        stand-equals f = stand-is ∙ (λ i. (n i && not (f i)) && not (named_among (name_of x) xs))

        is-written : name_of x ≡ written
        is-written = name-is ∙ read_name written (name-lettered name_limit (map byte_of (lexemes written)) (name-told name_limit written ∙ n))

        pub stand-single : has_equals (lexemes (drop (end + 1) p)) ≡ false → may_stand k x xs ≡ not (named_among written xs)
        stand-single f = stand-is ∙ (λ i. (n i && not (f i)) && not (named_among (is-written i) xs))
