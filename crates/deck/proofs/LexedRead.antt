-- What the reader gives is as `is_field` asks, if no ampersand is left over and no byte is 0; and a front of a field that ends in `)` is one.
use Prim.Native.Nat.{ℕ}
use mathlib.Core.Path.{◌≡◌, refl, ap, sym, ◌∙◌}
use mathlib.Core.Bool.{Bool, true, false, false≢true, ◌&&◌, ◌||◌, not}
use mathlib.Core.List.{List, [], ◌∷◌, ◌++◌, map}
use lib.Dec.{eqb}
use borrow.Author.Tests.{eqb-true}
use Rattle.text.specs.Bytes.{Bytes, bytes, member}
use Rattle.text.specs.Characters.{letter, digit, letter_or_digit, in_set}
use Rattle.rules.specs.Choice.{choose, every}
use Rattle.rules.specs.Lexemes.{ampersand, apostrophe, closing, Lex, byte, mark, ref, lone, byte_of, Before, field_start, follows, is_mark, after, marked, Mode, in_text, after_ampersand, in_symbol, symbols, lexed}
use Rattle.rules.specs.Statement.{map_lex}
use Rattle.rules.proofs.Choices.{by, either, passed_over, and_left, and_right}
use Rattle.rules.proofs.Logic.{clash, else-so}
use Rattle.rules.proofs.Lossless.{mark-is}
use Rattle.rules.proofs.NoLone.{is_no_lone}
use Rattle.deck.specs.AsRead.{last_byte, follows_in, marks_here, after_lexeme, is_read_at, is_read, is_field}

-- ---- tests

and_both : (a b : Bool) → a ≡ true → b ≡ true → (a && b) ≡ true
and_both true b e f = f
and_both false b e f = absurd (false≢true e)

and_none : (t : Bool) → (t && false) ≡ false
and_none true = refl
and_none false = refl

and-all : (t : Bool) → (t && true) ≡ t
and-all true = refl
and-all false = refl

member-passes : (test : ℕ → Bool) (c : ℕ) (l : Bytes) → every test l ≡ true → member c l ≡ true → test c ≡ true
unfolding every
member-passes test c [] h e = absurd (false≢true e)
member-passes test c (d ∷ l) h e =
    by (eqb c d) (λ t. ap test (eqb-true c d t) ∙ and_left (test d) (every test l) h)
    (λ n. member-passes test c l (and_right (test d) (every test l) h) (else-so (eqb c d) (member c l) e n))

-- the letters of the attributes are letters
no-attribute : (c : ℕ) → letter_or_digit c ≡ false → member c (bytes "KNTL") ≡ false
unfolding letter digit letter_or_digit every
no-attribute c e = by (member c (bytes "KNTL")) (λ t. clash (member-passes letter_or_digit c (bytes "KNTL") refl t) e) (λ f. f)

-- ---- no byte is 0

-- a byte that is not 0: a place behind a variable symbol has 0 before it
abbrev pub is_no_nul : ℕ → Bool
is_no_nul c = not (eqb c 0)

pub set-has-no-nul : (s : Bytes) → every in_set s ≡ true → every is_no_nul s ≡ true
unfolding every in_set
set-has-no-nul [] h = refl
set-has-no-nul (c ∷ s) h =
    and_both (is_no_nul c) (every is_no_nul s)
    (by (eqb c 0) (λ e. clash (and_left (in_set c) (every in_set s) h) (ap in_set (eqb-true c 0 e))) (λ e. ap not e))
    (set-has-no-nul s (and_right (in_set c) (every in_set s) h))

-- where one is, a letter behind it looks like one behind a variable symbol
nul-is-not-read : is_field true (lexed true (0 ∷ (65 ∷ []))) ≡ false
unfolding is_field is_read is_read_at lexed symbols marked is_mark after field_start follows byte_of choose letter digit letter_or_digit marks_here follows_in after_lexeme last_byte
nul-is-not-read = refl

-- ---- places

-- a byte that is no letter, digit or `&`: such a one stands before an attribute's letter
abbrev is_free : ℕ → Bool
is_free c = not (letter_or_digit c || eqb c ampersand)

-- an attribute's letter stands before the place
abbrev is_behind_attribute : Before → Bool
is_behind_attribute b = member b.first (bytes "KNTL") && is_free b.second

-- ---- a front

module _ {R : Type 0} where
  follows-front : (x y : List (Lex R)) → follows_in (x ++ (byte closing ∷ y)) ≡ follows_in (x ++ (byte closing ∷ []))
  unfolding follows_in
  follows-front [] y = refl
  follows-front (byte c ∷ x) y = refl
  follows-front (mark ∷ x) y = refl
  follows-front (ref r ∷ x) y = refl
  follows-front (lone ∷ x) y = refl

  marks-same : (b : Before) (x y : List (Lex R)) → follows_in x ≡ follows_in y → marks_here b x ≡ marks_here b y
  unfolding marks_here
  marks-same b x y e = λ i. not b.quoted && (e i && is_behind_attribute b)

  read-at-same : (b : Before) (a : Lex R) (x y : List (Lex R)) → follows_in x ≡ follows_in y → is_read_at b a x ≡ is_read_at b a y
  unfolding is_read_at
  read-at-same b (byte c) x y e = ap (λ t. not (eqb b.first 0 && letter_or_digit c) && not (eqb c apostrophe && t)) (marks-same b x y e)
  read-at-same b mark x y e = marks-same b x y e
  read-at-same b (ref r) x y e = refl
  read-at-same b lone x y e = refl

  pub front-is-read : (quotes odd : Bool) (b : Before) (x y : List (Lex R)) → is_read quotes odd b (x ++ (byte closing ∷ y)) ≡ true
      → is_read quotes odd b (x ++ (byte closing ∷ [])) ≡ true
  unfolding is_read is_read_at byte_of
  front-is-read quotes odd b [] y h =
      let p = is_read_at b (byte closing) y in
      let q = is_read quotes false (after_lexeme quotes b (byte closing)) y in
      let k = and_right p ((not odd || false) && q) h in
      and_both (is_read_at {R = R} b (byte closing) []) ((not odd || false) && true) (and_left p ((not odd || false) && q) h)
      (and_both (not odd || false) true (and_left (not odd || false) q k) refl)
  front-is-read quotes odd b (a ∷ x) y h =
      let p = is_read_at b a (x ++ (byte closing ∷ y)) in
      let o = not odd || eqb (byte_of a) ampersand in
      let on = eqb (byte_of a) ampersand && not odd in
      let q = is_read quotes on (after_lexeme quotes b a) (x ++ (byte closing ∷ y)) in
      let k = and_right p (o && q) h in
      and_both (is_read_at b a (x ++ (byte closing ∷ []))) (o && is_read quotes on (after_lexeme quotes b a) (x ++ (byte closing ∷ [])))
      (sym (read-at-same b a (x ++ (byte closing ∷ y)) (x ++ (byte closing ∷ [])) (follows-front x y)) ∙ and_left p (o && q) h)
      (and_both o _ (and_left o q k) (front-is-read quotes on (after_lexeme quotes b a) x y (and_right o q k)))

-- ---- what the reader of bytes has before it, and what stands before the lexeme that comes next

-- in text they agree; the byte before the last one only matters behind an attribute's letter
record Agrees (b b' : Before) : Type 0 where
  first-same : b.first ≡ b'.first
  quoted-same : b.quoted ≡ b'.quoted
  attribute-same : is_behind_attribute b ≡ is_behind_attribute b'
  no_symbol : eqb b'.first 0 ≡ false

-- one ampersand is passed and nothing is given for it yet
record Started (b b' : Before) : Type 0 where
  first-is : b.first ≡ ampersand
  quoted-same : b.quoted ≡ b'.quoted

-- the bytes of a symbol are passed, and nothing is given for them yet
record Within (b b' : Before) : Type 0 where
  first-is : letter_or_digit b.first ≡ true
  second_is : is_free b.second ≡ false
  quoted-same : b.quoted ≡ b'.quoted

abbrev Stands : Mode → Before → Before → Type 0
Stands in_text b b' = Agrees b b'
Stands after_ampersand b b' = Started b b'
Stands (in_symbol n) b b' = Within b b'

-- a byte that passes a test which an apostrophe does not
no-apostrophe : (test : ℕ → Bool) → test apostrophe ≡ false → (c : ℕ) → test c ≡ true → eqb c apostrophe ≡ false
no-apostrophe test g c t = by (eqb c apostrophe) (λ e. clash t (ap test (eqb-true c apostrophe e) ∙ g)) (λ e. e)

-- behind a symbol's bytes no apostrophe is a mark
no-mark : (b : Before) (c : ℕ) (s : Bytes) → is_free b.second ≡ false → is_mark b c s ≡ false
unfolding is_mark
no-mark b c s e =
    let a = member b.first (bytes "KNTL") in
    (λ i. eqb c apostrophe && (not b.quoted && (follows s && (a && e i))))
    ∙ ((λ i. eqb c apostrophe && (not b.quoted && (follows s && and_none a i)))
    ∙ ((λ i. eqb c apostrophe && (not b.quoted && and_none (follows s) i))
    ∙ ((λ i. eqb c apostrophe && and_none (not b.quoted) i) ∙ and_none (eqb c apostrophe))))

module _ {R : Type 0} (f : Bytes → R) (quotes : Bool) where
  abbrev given : List (Lex Bytes) → List (Lex R)
  given x = map (map_lex f) x

  -- ---- what follows an apostrophe, in bytes and in lexemes

  follows-symbol : (n : Bytes) (x : List (Lex Bytes)) → follows_in (given (symbols (in_symbol n) x)) ≡ true
  unfolding symbols follows_in map_lex
  follows-symbol n [] = refl
  follows-symbol n (x ∷ s) =
      either (λ (r : List (Lex Bytes)). follows_in (given r) ≡ true) (letter_or_digit (byte_of x)) (λ e. follows-symbol (n ++ (byte_of x ∷ [])) s)
      (λ e. either (λ (r : List (Lex Bytes)). follows_in (given r) ≡ true) (eqb (byte_of x) ampersand) (λ g. refl) (λ g. refl))

  follows-ampersand : (x : List (Lex Bytes)) → follows_in (given (symbols after_ampersand x)) ≡ true
  unfolding symbols follows_in map_lex letter
  follows-ampersand [] = refl
  follows-ampersand (x ∷ s) =
      either (λ (r : List (Lex Bytes)). follows_in (given r) ≡ true) (eqb (byte_of x) ampersand) (λ e. refl)
      (λ e. either (λ (r : List (Lex Bytes)). follows_in (given r) ≡ true) (letter (byte_of x)) (λ g. follows-symbol (byte_of x ∷ []) s) (λ g. refl))

  follows_same : (b : Before) (s : Bytes) → follows s ≡ follows_in (given (symbols in_text (marked quotes b s)))
  unfolding marked symbols follows follows_in map_lex byte_of choose letter
  follows_same b [] = refl
  follows_same b (c ∷ s) =
      let M : List (Lex Bytes) = marked quotes (after quotes b c s) s in
      either (λ (x : Lex Bytes). (letter c || eqb c ampersand) ≡ follows_in (given (symbols in_text (x ∷ M)))) (is_mark b c s)
      (λ e. ap (λ k. letter k || eqb k ampersand) (mark-is b c s e))
      (λ e. either (λ (r : List (Lex Bytes)). (letter c || eqb c ampersand) ≡ follows_in (given r)) (eqb c ampersand)
      (λ g. ap (λ k. letter k || eqb k ampersand) (eqb-true c ampersand g) ∙ sym (follows-ampersand M)) (λ g. refl))

  mark-same : {b b' : Before} → Agrees b b' → (a : Before) (c : ℕ) (s : Bytes)
      → is_mark b c s ≡ (eqb c apostrophe && marks_here b' (given (symbols in_text (marked quotes a s))))
  unfolding is_mark marks_here
  mark-same k a c s = λ i. eqb c apostrophe && (not (k.quoted-same i) && (follows_same a s i && k.attribute-same i))

  -- ---- where the two stand behind a byte

  -- an apostrophe that is no mark opens a quote or closes it, for the reader as for the lexemes
  quoted-on : (b b' : Before) (c : ℕ) (s : Bytes) → b.quoted ≡ b'.quoted → is_mark b c s ≡ false
      → (after quotes b c s).quoted ≡ (after_lexeme {R = R} quotes b' (byte c)).quoted
  unfolding after after_lexeme byte_of
  quoted-on b b' c s q e =
      (λ i. choose (eqb c apostrophe && not (e i)) (quotes && not (q i)) (q i))
      ∙ ap (λ t. choose t (quotes && not b'.quoted) b'.quoted) (and-all (eqb c apostrophe))

  -- a byte that opens and closes no quote
  quoted-kept : (b : Before) (c : ℕ) (s : Bytes) → eqb c apostrophe ≡ false → (after quotes b c s).quoted ≡ b.quoted
  unfolding after choose
  quoted-kept b c s e = ap (λ t. choose (t && not (is_mark b c s)) (quotes && not b.quoted) b.quoted) e

  behind-mark : {b b' : Before} (c : ℕ) (s : Bytes) → Agrees b b' → is_mark b c s ≡ true → Agrees (after quotes b c s) (after_lexeme {R = R} quotes b' mark)
  unfolding after after_lexeme byte_of choose last_byte
  behind-mark {b} {b'} c s k e = record {
    first-same = mark-is b c s e;
    quoted-same =
        ap (λ t. choose (eqb c apostrophe && not t) (quotes && not b.quoted) b.quoted) e
        ∙ (passed_over _ _ (and_none (eqb c apostrophe)) ∙ k.quoted-same);
    attribute-same = λ i. member (mark-is b c s e i) (bytes "KNTL") && is_free (k.first-same i);
    no_symbol = refl;
  }

  behind-byte : {b b' : Before} (c : ℕ) (s : Bytes) → Agrees b b' → is_mark b c s ≡ false → eqb c 0 ≡ false
      → Agrees (after quotes b c s) (after_lexeme {R = R} quotes b' (byte c))
  unfolding after after_lexeme last_byte
  behind-byte {b} {b'} c s k e z = record {
    first-same = refl;
    quoted-same = quoted-on b b' c s k.quoted-same e;
    attribute-same = λ i. member c (bytes "KNTL") && is_free (k.first-same i);
    no_symbol = z;
  }

  behind-pair : {b b' : Before} (c : ℕ) (s : Bytes) → Started b b' → eqb c ampersand ≡ true
      → Agrees (after quotes b c s) (after_lexeme {R = R} quotes (after_lexeme {R = R} quotes b' (byte ampersand)) (byte ampersand))
  unfolding after after_lexeme byte_of choose last_byte
  behind-pair {b} {b'} c s k e = record {
    first-same = eqb-true c ampersand e;
    quoted-same = quoted-kept b c s (no-apostrophe (λ d. eqb d ampersand) refl c e) ∙ k.quoted-same;
    attribute-same = λ i. member (eqb-true c ampersand e i) (bytes "KNTL") && is_free (k.first-is i);
    no_symbol = refl;
  }

  behind-symbol : {b b' : Before} (r : R) (c : ℕ) (s : Bytes) → Within b b' → letter_or_digit c ≡ false → eqb c 0 ≡ false
      → Agrees (after quotes b c s) (after_lexeme {R = R} quotes (after_lexeme {R = R} quotes b' (ref r)) (byte c))
  unfolding after after_lexeme byte_of choose last_byte
  behind-symbol {b} {b'} r c s k e z = record {
    first-same = refl;
    quoted-same = quoted-on b (after_lexeme {R = R} quotes b' (ref r)) c s k.quoted-same (no-mark b c s k.second_is);
    attribute-same = ap (λ t. t && is_free b.first) (no-attribute c e) ∙ sym (ap (λ t. t && is_free 0) (no-attribute c e));
    no_symbol = z;
  }

  starts : (b b' : Before) (c : ℕ) (s : Bytes) → b.quoted ≡ b'.quoted → eqb c ampersand ≡ true → Started (after quotes b c s) b'
  unfolding after
  starts b b' c s q e = record { first-is = eqb-true c ampersand e; quoted-same = quoted-kept b c s (no-apostrophe (λ d. eqb d ampersand) refl c e) ∙ q }

  within : (b b' : Before) (c : ℕ) (s : Bytes) → b.quoted ≡ b'.quoted → is_free b.first ≡ false → letter_or_digit c ≡ true → Within (after quotes b c s) b'
  unfolding after letter digit letter_or_digit
  within b b' c s q p e = record { first-is = e; second_is = p; quoted-same = quoted-kept b c s (no-apostrophe letter_or_digit refl c e) ∙ q }

  -- ---- the reading

  abbrev Read : Before → List (Lex Bytes) → Type 0
  Read b x = every is_no_lone x ≡ true → is_read quotes false b (given x) ≡ true

  read-mark : (b : Before) (x : List (Lex Bytes)) → marks_here b (given x) ≡ true → Read (after_lexeme {R = R} quotes b mark) x → Read b (mark ∷ x)
  unfolding is_read is_read_at map_lex byte_of every
  read-mark b x e on l = and_both (marks_here b (given x)) (is_read quotes false (after_lexeme {R = R} quotes b mark) (given x)) e (on l)

  read_byte : (b : Before) (c : ℕ) (x : List (Lex Bytes)) → (eqb b.first 0 && letter_or_digit c) ≡ false → (eqb c apostrophe && marks_here b (given x)) ≡ false
      → eqb c ampersand ≡ false → Read (after_lexeme {R = R} quotes b (byte c)) x → Read b (byte c ∷ x)
  unfolding is_read is_read_at map_lex byte_of every
  read_byte b c x p m e on l =
      (λ i. (not (p i) && not (m i)) && is_read quotes (e i && true) (after_lexeme {R = R} quotes b (byte c)) (given x)) ∙ on l

  read-pair : (b : Before) (x : List (Lex Bytes)) → Read (after_lexeme {R = R} quotes (after_lexeme {R = R} quotes b (byte ampersand)) (byte ampersand)) x
      → Read b (byte ampersand ∷ (byte ampersand ∷ x))
  unfolding is_read is_read_at map_lex byte_of every after_lexeme last_byte letter digit letter_or_digit
  read-pair b x on l =
      let t = is_read quotes false (after_lexeme {R = R} quotes (after_lexeme {R = R} quotes b (byte ampersand)) (byte ampersand)) (given x) in
      ap (λ u. (not u && true) && t) (and_none (eqb b.first 0)) ∙ on l

  read-symbol : (b : Before) (n : Bytes) (x : List (Lex Bytes)) → Read (after_lexeme {R = R} quotes b (ref (f n))) x → Read b (ref n ∷ x)
  unfolding is_read is_read_at map_lex byte_of every
  read-symbol b n x on l = on l

  -- behind a symbol no apostrophe would be a mark
  no-mark-behind : (b : Before) (r : R) (c : ℕ) (x : List (Lex R)) → (eqb c apostrophe && marks_here (after_lexeme {R = R} quotes b (ref r)) x) ≡ false
  unfolding marks_here after_lexeme last_byte
  no-mark-behind b r c x =
      let q = not (after_lexeme {R = R} quotes b (ref r)).quoted in
      (λ i. eqb c apostrophe && (q && and_none (follows_in x) i)) ∙ ((λ i. eqb c apostrophe && and_none q i) ∙ and_none (eqb c apostrophe))

  no_nul : (c : ℕ) → is_no_nul c ≡ true → eqb c 0 ≡ false
  no_nul c z = by (eqb c 0) (λ e. clash z (ap not e)) (λ e. e)

  letter-too : (c : ℕ) → letter c ≡ true → letter_or_digit c ≡ true
  unfolding letter_or_digit
  letter-too c e = ap (λ t. t || digit c) e

  not_free : (c : ℕ) → letter_or_digit c ≡ true → is_free c ≡ false
  not_free c e = ap (λ t. not (t || eqb c ampersand)) e

  ampersand-not-free : (c : ℕ) → c ≡ ampersand → is_free c ≡ false
  unfolding letter digit letter_or_digit
  ampersand-not-free c e = ap is_free e

  reads : (m : Mode) (b b' : Before) (s : Bytes) → Stands m b b' → every is_no_nul s ≡ true → Read b' (symbols m (marked quotes b s))
  unfolding marked symbols is_read is_read_at map_lex byte_of every choose letter digit letter_or_digit after_lexeme last_byte
  reads in_text b b' [] k z h = refl
  reads after_ampersand b b' [] k z h = absurd (false≢true h)
  reads (in_symbol n) b b' [] k z h = refl
  reads in_text b b' (c ∷ s) k z h =
      let a = after quotes b c s in
      let M : List (Lex Bytes) = marked quotes a s in
      let z' = and_right (is_no_nul c) (every is_no_nul s) z in
      either (λ (x : Lex Bytes). Read b' (symbols in_text (x ∷ M))) (is_mark b c s)
      (λ e. read-mark b' (symbols in_text M) (and_right (eqb c apostrophe) _ (sym (mark-same k a c s) ∙ e))
      (reads in_text a (after_lexeme {R = R} quotes b' mark) s (behind-mark c s k e) z'))
      (λ e. either (Read b') (eqb c ampersand) (λ g. reads after_ampersand a b' s (starts b b' c s k.quoted-same g) z')
      (λ g. read_byte b' c (symbols in_text M) (ap (λ t. t && letter_or_digit c) k.no_symbol) (sym (mark-same k a c s) ∙ e) g
      (reads in_text a (after_lexeme {R = R} quotes b' (byte c)) s (behind-byte c s k e (no_nul c (and_left (is_no_nul c) (every is_no_nul s) z))) z'))) h
  reads after_ampersand b b' (c ∷ s) k z h =
      let a = after quotes b c s in
      let M : List (Lex Bytes) = marked quotes a s in
      let z' = and_right (is_no_nul c) (every is_no_nul s) z in
      either (λ (x : Lex Bytes). Read b' (symbols after_ampersand (x ∷ M))) (is_mark b c s) (λ e l. absurd (false≢true l))
      (λ e. either (Read b') (eqb c ampersand) (λ g. read-pair b' (symbols in_text M) (reads in_text a _ s (behind-pair c s k g) z'))
      (λ g. either (Read b') (letter c)
      (λ t. reads (in_symbol (c ∷ [])) a b' s (within b b' c s k.quoted-same (ampersand-not-free b.first k.first-is) (letter-too c t)) z')
      (λ t l. absurd (false≢true l)))) h
  reads (in_symbol n) b b' (c ∷ s) k z h =
      let a = after quotes b c s in
      let M : List (Lex Bytes) = marked quotes a s in
      let z' = and_right (is_no_nul c) (every is_no_nul s) z in
      let d : Before = after_lexeme {R = R} quotes b' (ref (f n)) in
      either (λ (x : Lex Bytes). Read b' (symbols (in_symbol n) (x ∷ M))) (is_mark b c s) (λ e. clash e (no-mark b c s k.second_is))
      (λ e. either (Read b') (letter_or_digit c)
      (λ t. reads (in_symbol (n ++ (c ∷ []))) a b' s (within b b' c s k.quoted-same (not_free b.first k.first-is) t) z')
      (λ t. either (Read b') (eqb c ampersand)
      (λ g. read-symbol b' n (symbols after_ampersand M) (reads after_ampersand a d s (starts b d c s k.quoted-same g) z'))
      (λ g. read-symbol b' n (byte c ∷ symbols in_text M)
      (read_byte d c (symbols in_text M) t (no-mark-behind b' (f n) c (given (symbols in_text M))) g
      (reads in_text a (after_lexeme {R = R} quotes d (byte c)) s (behind-symbol (f n) c s k t (no_nul c (and_left (is_no_nul c) (every is_no_nul s) z))) z'))))) h

  pub lexed-is-read : (s : Bytes) → every is_no_nul s ≡ true → every is_no_lone (lexed quotes s) ≡ true → is_field quotes (map (map_lex f) (lexed quotes s)) ≡ true
  unfolding lexed is_field field_start
  lexed-is-read s z h = reads in_text field_start field_start s (record { first-same = refl; quoted-same = refl; attribute-same = refl; no_symbol = refl }) z h
