-- Orders byte by byte, relations word by word. Assumes nothing.
use Prim.Native.Nat.{ℕ, zero, suc}
use native.Mathlib.Omega.{arith}
use mathlib.Core.Path.{◌≡◌, refl, ap, sym, ◌∙◌}
use mathlib.Core.Bool.{Bool, true, false, cond, true≢false}
use mathlib.Core.List.{List, [], ◌∷◌, map}
use mathlib.Core.Option.{none, some}
use lib.Dec.{eqb, ltb}
use lib.ListN.{length, take, drop}
use lib.IntN.{ℤ}
use lib.Signed.{lt_z}
use borrow.Author.Tests.{ltb-true, ltb-false, eq-eqb, ne_eqb, eqb-true}
use Rattle.text.specs.Bytes.{Bytes, bytes, same}
use Rattle.text.specs.Characters.{letter_or_digit}
use Rattle.text.proofs.Same.{same-is}
use Rattle.rules.specs.Choice.{choose, run}
use Rattle.rules.specs.Lexemes.{Lex, byte_of}
use Rattle.rules.specs.Values.{Order, less, equal, greater, eq, ne, lt, le, gt, ge, byte_order, first_differing, string_order, number_order, holds}
use Rattle.rules.specs.Grammar.{plain, word_at, is_word, relation_at}
use Rattle.rules.specs.Evaluate.{Cell}
use Rattle.rules.proofs.Choices.{by, passed_over}
use Rattle.rules.proofs.Symbols.{same-sym}
use Rattle.grammar.specs.Tokens.{lex_of, toks_at}
use Rattle.value_sums.specs.Answers.{lex_by, toks_by}
use Rattle.value_sums.proofs.Answers.{same-plain}
use Rattle.std.specs.declared.cmp.Ordering.{Ordering}
use Rattle.std.specs.declared.cmp.Ordering.TheVariants.{Less, Equal, Greater}
use Rattle.std.specs.Ordering.{nat_cmp, int_cmp, ordering_then, is_eq, is_ne, is_lt, is_le, is_gt, is_ge}
use Rattle.std.specs.Cmp.Lexicographic.{slice_cmp}
use Rattle.value_comparisons.specs.Orders.{order_of, relation_of}
use Rattle.value_comparisons.specs.declared.Relation.{Relation}
use Rattle.value_comparisons.specs.declared.Relation.TheVariants.{Eq, Ne, Lt, Le, Gt, Ge}

-- ---- strings

-- one byte of each, and what the others decide
step : (c d : ℕ) (o : Ordering) (p : Order) → order_of o ≡ p → order_of (ordering_then (nat_cmp c d) o) ≡ elim (byte_order c d) [ less ↦ less | equal ↦ p | greater ↦ greater ]
unfolding order_of byte_order choose
step c d o p e = by (ltb c d)
    (λ h. rw h refl)
    (λ h. by (ltb d c)
    (λ k. let more = ltb-true d c k in rw (h, k, ne_eqb c d (λ q. absurd (omega arith))) refl)
    (λ k. let below = ltb-false c d h in let above = ltb-false d c k in rw (h, k, eq-eqb c d (omega arith)) e))

compared : (s t : Bytes) → length s ≡ length t → order_of (slice_cmp nat_cmp s t) ≡ first_differing s t
unfolding order_of first_differing
compared [] [] h = refl
compared [] (d ∷ t) h = absurd (omega arith)
compared (c ∷ s) [] h = absurd (omega arith)
compared (c ∷ s) (d ∷ t) h = step c d _ _ (compared s t (omega arith))

module _ (s t : Bytes) where
  abbrev sizes : Ordering
  sizes = nat_cmp (length s) (length t)

  pub other-sized : {o : Ordering} → o ≡ sizes → (o ≡ Equal → ⊥) → order_of o ≡ string_order s t
  unfolding order_of string_order choose
  other-sized e n = ap order_of e ∙ by (ltb (length s) (length t))
      (λ h. rw h refl)
      (λ h. by (ltb (length t) (length s))
      (λ k. let more = ltb-true (length t) (length s) k in rw (h, k, ne_eqb (length s) (length t) (λ q. absurd (omega arith))) refl)
      (λ k. let below = ltb-false (length s) (length t) h in let above = ltb-false (length t) (length s) k in
      absurd (n (e ∙ both-false h (eq-eqb (length s) (length t) (omega arith))))))
    where
      both-false : ltb (length s) (length t) ≡ false → eqb (length s) (length t) ≡ true → sizes ≡ Equal
      both-false h k = rw (h, k)

  pub same-sized : {o p : Ordering} → o ≡ sizes → o ≡ Equal → p ≡ slice_cmp nat_cmp s t → order_of p ≡ string_order s t
  unfolding string_order
  same-sized {o} e q f =
      let size : length s ≡ length t = equal-sizes (length s) (length t) (sym e ∙ q) in
      ap order_of f ∙ compared s t size ∙ sym (passed_over less _ (level _ _ (sym size)) ∙ passed_over greater _ (level _ _ size))
    where
      level : (m n : ℕ) → n ≡ m → ltb m n ≡ false
      level m n h = by (ltb m n) (λ k. let less-than = ltb-true m n k in absurd (omega arith)) (λ k. k)

      equal-sizes : (m n : ℕ) → nat_cmp m n ≡ Equal → m ≡ n
      equal-sizes m n h = by (eqb m n)
          (λ k. eqb-true m n k)
          (λ k. absurd (no-equal (ltb m n) (sym h ∙ ap (λ b. cond (ltb m n) Less (cond b Equal Greater)) k)))
        where
          no-equal : (b : Bool) → Equal ≡ cond b Less Greater → ⊥
          no-equal true e = true≢false (ap is_eq e)
          no-equal false e = true≢false (ap is_eq e)

-- ---- numbers

pub numbers-are : (a b : ℤ) → order_of (int_cmp a b) ≡ number_order a b
unfolding order_of number_order choose
numbers-are a b = go (lt_z a b) (lt_z b a)
  where
    go : (p q : Bool) → order_of (cond p Less (cond q Greater Equal)) ≡ choose p less (choose q greater equal)
    go true q = refl
    go false true = refl
    go false false = refl

-- ---- what a relation asks of the order

abbrev tested : Relation → Ordering → Bool
tested Eq = is_eq
tested Ne = is_ne
tested Lt = is_lt
tested Le = is_le
tested Gt = is_gt
tested Ge = is_ge

pub by-relation : {r : Relation} (x : Relation) (o : Ordering) → r ≡ x → tested x o ≡ holds (relation_of r) (order_of o)
unfolding relation_of order_of holds
by-relation x o e = at x o ∙ sym (ap (λ r. holds (relation_of r) (order_of o)) e)
  where
    at : (x : Relation) (o : Ordering) → tested x o ≡ holds (relation_of x) (order_of o)
    at Eq Less = refl
    at Eq Equal = refl
    at Eq Greater = refl
    at Ne Less = refl
    at Ne Equal = refl
    at Ne Greater = refl
    at Lt Less = refl
    at Lt Equal = refl
    at Lt Greater = refl
    at Le Less = refl
    at Le Equal = refl
    at Le Greater = refl
    at Gt Less = refl
    at Gt Equal = refl
    at Gt Greater = refl
    at Ge Less = refl
    at Ge Equal = refl
    at Ge Greater = refl

-- ---- relations by their words

-- a word is one of the bytes that lexemes show
abbrev word_in : Bytes → Bytes
word_in b = take (run letter_or_digit b) b

word_bytes : {R : Type 0} (x : List (Lex R)) → word_at x ≡ word_in (map byte_of x)
unfolding word_at run
word_bytes {R = R} x = taken (run (λ y. letter_or_digit (byte_of y)) x) x ∙ ap (λ n. take n (map byte_of x)) (runs x)
  where
    taken : (n : ℕ) (x : List (Lex R)) → map byte_of (take n x) ≡ take n (map byte_of x)
    taken zero x = refl
    taken (suc n) [] = refl
    taken (suc n) (y ∷ x) = ap (λ l. byte_of y ∷ l) (taken n x)

    runs : (x : List (Lex R)) → run (λ y. letter_or_digit (byte_of y)) x ≡ run letter_or_digit (map byte_of x)
    runs [] = refl
    runs (y ∷ x) = ap (λ n. choose (letter_or_digit (byte_of y)) (suc n) 0) (runs x)

-- the bytes are the same whatever the symbols stand for
same_bytes : (kinds : Bytes) (held : ℕ → Cell) (l : Bytes) → map byte_of (map (lex_of kinds) l) ≡ map byte_of (map (lex_by held) l)
unfolding toks_at toks_by plain
same_bytes kinds held [] = refl
same_bytes kinds held (b ∷ l) = λ j. same-plain kinds held (b ∷ []) 0 j ∷ same_bytes kinds held l j

pub bytes_same : (held : ℕ → Cell) (code : Bytes) (at : ℕ) → map byte_of (toks_at [] code at) ≡ map byte_of (toks_by held code at)
unfolding toks_at toks_by
bytes_same held code at = same_bytes [] held (drop at code)

pub same_word : (kinds : Bytes) (held : ℕ → Cell) (code : Bytes) (at : ℕ) → word_at (toks_at kinds code at) ≡ word_at (toks_by held code at)
unfolding toks_at toks_by
same_word kinds held code at = word_bytes (map (lex_of kinds) (drop at code)) ∙ ap word_in (same_bytes kinds held (drop at code)) ∙ sym (word_bytes (map (lex_by held) (drop at code)))

pub is-word : (held : ℕ → Cell) (code : Bytes) (at : ℕ) (w : Bytes) {b : Bool} → b ≡ is_word w (toks_at [] code at) → b ≡ is_word w (toks_by held code at)
unfolding is_word
is-word held code at w e = e ∙ ap (same w) (same_word [] held code at)

module _ (held : ℕ → Cell) (code : Bytes) (at : ℕ) {b : Bool} where
  found : (w : Bytes) → b ≡ is_word w (toks_at [] code at) → b ≡ true → word_at (toks_by held code at) ≡ w
  unfolding is_word
  found w e h = sym (same_word [] held code at) ∙ sym (same-is w (word_at (toks_at [] code at)) (sym e ∙ h))

  -- one of the six stands there
  pub found-eq : b ≡ is_word (bytes "EQ") (toks_at [] code at) → b ≡ true → some eq ≡ relation_at (toks_by held code at)
  unfolding relation_at choose
  found-eq e h = rw (found (bytes "EQ") e h)

  pub found-ne : b ≡ is_word (bytes "NE") (toks_at [] code at) → b ≡ true → some ne ≡ relation_at (toks_by held code at)
  unfolding relation_at choose
  found-ne e h = rw (found (bytes "NE") e h)

  pub found_lt : b ≡ is_word (bytes "LT") (toks_at [] code at) → b ≡ true → some lt ≡ relation_at (toks_by held code at)
  unfolding relation_at choose
  found_lt e h = rw (found (bytes "LT") e h)

  pub found-le : b ≡ is_word (bytes "LE") (toks_at [] code at) → b ≡ true → some le ≡ relation_at (toks_by held code at)
  unfolding relation_at choose
  found-le e h = rw (found (bytes "LE") e h)

  pub found-gt : b ≡ is_word (bytes "GT") (toks_at [] code at) → b ≡ true → some gt ≡ relation_at (toks_by held code at)
  unfolding relation_at choose
  found-gt e h = rw (found (bytes "GT") e h)

  pub found-ge : b ≡ is_word (bytes "GE") (toks_at [] code at) → b ≡ true → some ge ≡ relation_at (toks_by held code at)
  unfolding relation_at choose
  found-ge e h = rw (found (bytes "GE") e h)

  other : (w : Bytes) → b ≡ is_word w (toks_at [] code at) → b ≡ false → same (word_at (toks_by held code at)) w ≡ false
  unfolding is_word
  other w e h = same-sym (word_at (toks_by held code at)) w ∙ ap (same w) (sym (same_word [] held code at)) ∙ sym e ∙ h

-- none of them does
pub found_none : (held : ℕ → Cell) (code : Bytes) (at : ℕ) {a b c d e f : Bool} → a ≡ is_word (bytes "EQ") (toks_at [] code at) → a ≡ false
    → b ≡ is_word (bytes "NE") (toks_at [] code at) → b ≡ false → c ≡ is_word (bytes "LT") (toks_at [] code at) → c ≡ false
    → d ≡ is_word (bytes "LE") (toks_at [] code at) → d ≡ false → e ≡ is_word (bytes "GT") (toks_at [] code at) → e ≡ false
    → f ≡ is_word (bytes "GE") (toks_at [] code at) → f ≡ false → none ≡ relation_at (toks_by held code at)
unfolding relation_at choose
found_none held code at p p' q q' r r' s s' t t' u u' =
    rw (
      other held code at (bytes "EQ") p p',
      other held code at (bytes "NE") q q',
      other held code at (bytes "LT") r r',
      other held code at (bytes "LE") s s',
      other held code at (bytes "GT") t t',
      other held code at (bytes "GE") u u',
    )
