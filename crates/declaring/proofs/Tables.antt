-- What tables of names say of one name: whether it is there, and whether it has another kind there. Assumes nothing.
use Prim.Native.Nat.{ℕ, zero, suc, ◌+◌, ◌*◌, ◌/◌, ◌≤◌, ◌<◌}
use native.Mathlib.Omega.{arith}
use native.Mathlib.Numerals.{add-one}
use mathlib.Core.Path.{◌≡◌, refl, ap, sym, ◌∙◌}
use mathlib.Core.Bool.{Bool, true, false, ◌&&◌, ◌||◌, not}
use mathlib.Core.List.{List, [], ◌∷◌, ◌++◌}
use lib.Dec.{eqb, ltb}
use lib.ListN.{length, drop, get_or, drop_of_length-le}
use lib.Seq.{drop-cons, get_or-drop}
use borrow.Author.Tests.{eq-eqb, ne_eqb, lt-ltb, le-ltb}
use Rattle.text.specs.Bytes.{Bytes, same}
use Rattle.text.specs.Words.{place_among}
use Rattle.std.specs.Cmp.Lexicographic.{pointwise}
use Rattle.rules.specs.Choice.{any}
use Rattle.rules.specs.Statement.{Set, set_a, set_b, set_c}
use Rattle.rules.specs.Form.{same_set}
use Rattle.rules.specs.Faults.{has_other_kind}
use Rattle.rules.proofs.Choices.{chosen, passed_over, by}
use Rattle.rules.proofs.Symbols.{known-place, unknown-place}
use denote.Enum.Bare.{sameb}
use Rattle.kinds.specs.contracts.Set.{the_type}
use Rattle.kinds.specs.declared.Set.{Set as Kept}
use Rattle.kinds.specs.declared.Set.TheVariants.{A, B, C}
use Rattle.kinds.specs.Kinds.{set_of}
use Rattle.names.specs.Names.{name_in, names_in}
use Rattle.names.proofs.Rows.{row_at, names-length}
use Rattle.declaring.specs.Declared.{is_taken, set_numbered, with_kinds, globals_in}

-- ---- names

pub among-told : (t n : Bytes) (k : ℕ) → k ≡ place_among (names_in t) n → ltb k (length t / 8) ≡ any (same n) (names_in t)
among-told t n k e =
    by (any (same n) (names_in t))
    (λ a. lt-ltb k (length t / 8) (omega (arith, e, names-length t, known-place n (names_in t) a)) ∙ sym a)
    (λ a. le-ltb k (length t / 8) (omega (arith, e, names-length t, unknown-place n (names_in t) a)) ∙ sym a)

pub any_append : {A : Type 0} (test : A → Bool) (s t : List A) → any test (s ++ t) ≡ (any test s || any test t)
unfolding any
any_append test [] t = refl
any_append test (a ∷ s) t = go (test a) (any test s) (any test t) (any_append test s t)
  where
    go : (p q r : Bool) → any test (s ++ t) ≡ (q || r) → (p || any test (s ++ t)) ≡ ((p || q) || r)
    go true q r e = refl
    go false q r e = e

pub taken-told : (own global n : Bytes) {mine theirs : Bool} → mine ≡ any (same n) (names_in own) → theirs ≡ any (same n) (names_in global)
    → (mine || theirs) ≡ is_taken own global n
unfolding is_taken
taken-told own global n e f = (λ i. e i || f i) ∙ sym (any_append (same n) (names_in own) (names_in global))

pub starts-told : (s t : Bytes) → pointwise eqb s t ≡ same s t
starts-told [] [] = refl
starts-told [] (d ∷ t) = refl
starts-told (c ∷ s) [] = refl
starts-told (c ∷ s) (d ∷ t) = ap (λ (b : Bool). eqb c d && b) (starts-told s t)

-- ---- kinds

pub numbered-first : (number : ℕ) → number ≡ 1 → set_a ≡ set_numbered number
unfolding set_numbered
numbered-first number a = sym (chosen _ _ (eq-eqb number 1 a))

pub numbered-second : (number : ℕ) → number ≡ 2 → set_b ≡ set_numbered number
unfolding set_numbered
numbered-second number b = sym (passed_over _ _ (ne_eqb number 1 (λ e. omega (arith, e, b))) ∙ chosen _ _ (eq-eqb number 2 b))

pub numbered-third : (number : ℕ) → (number ≡ 1 → ⊥) → (number ≡ 2 → ⊥) → set_c ≡ set_numbered number
unfolding set_numbered
numbered-third number a b = sym (passed_over _ _ (ne_eqb number 1 a) ∙ passed_over _ _ (ne_eqb number 2 b))

-- two sets are the same in the code and in the rules
pub same-told : (held set : Kept) → sameb the_type held set ≡ same_set (set_of held) (set_of set)
unfolding same_set
same-told A A = refl
same-told A B = refl
same-told A C = refl
same-told B A = refl
same-told B B = refl
same-told B C = refl
same-told C A = refl
same-told C B = refl
same-told C C = refl

-- ---- the library's globals, one after the other

with-length : (ns : List Bytes) (ks : Bytes) → length (with_kinds ns ks) ≡ length ns
unfolding with_kinds
with-length [] ks = refl
with-length (n ∷ ns) ks = ap suc (with-length ns (drop 1 ks))

one_more : (i : ℕ) → 1 + i ≡ suc i
one_more i = omega arith

with_at : (ns : List Bytes) (ks : Bytes) (i : ℕ) → i < length ns → get_or (with_kinds ns ks) i ([], set_a) ≡ (get_or ns i [], set_numbered (get_or ks i 0))
unfolding with_kinds
with_at [] ks i h = absurd (omega arith)
with_at (n ∷ ns) ks zero h = refl
with_at (n ∷ ns) ks (suc i) h = with_at ns (drop 1 ks) i (omega arith) ∙ ap (λ (m : ℕ). (get_or ns i [], set_numbered m)) (get_or-drop 1 ks i 0 ∙ ap (λ (m : ℕ). get_or ks m 0) (one_more i))

module _ (shared kinds n : Bytes) (k : Set) where
  abbrev is_other : Bytes × Set → Bool
  is_other g = same g.0 n && not (same_set g.1 k)

  -- the globals from row i on
  unfoldable pub other_from : ℕ → Bool
  other_from i = any is_other (drop i (globals_in shared kinds))

  pub other-all : has_other_kind k (globals_in shared kinds) n ≡ other_from 0
  unfolding has_other_kind other_from
  other-all = refl

  globals-length : length (globals_in shared kinds) ≡ length shared / 8
  unfolding globals_in
  globals-length = with-length (names_in shared) (drop 64 kinds) ∙ names-length shared

  pub other-done : (i : ℕ) → length shared / 8 ≤ i → other_from i ≡ false
  unfolding other_from any
  other-done i h = ap (any is_other) (drop_of_length-le (globals_in shared kinds) {i = i} (omega (arith, globals-length)))

  module _ (i : ℕ) (h : i < length shared / 8) where
    global-at : get_or (globals_in shared kinds) i ([], set_a) ≡ (name_in (drop (i * 8) shared), set_numbered (get_or kinds (64 + i) 0))
    unfolding globals_in names_in
    global-at =
        with_at (names_in shared) (drop 64 kinds) i (omega (arith, names-length shared))
        ∙ (λ j. (row_at name_in (length shared / 8) shared i h j, set_numbered (get_or-drop 64 kinds i 0 j)))

    -- what the code finds in row i
    module _ (row : Bytes) (r : row ≡ name_in (drop (i * 8) shared)) (number : ℕ) (m : number ≡ get_or kinds (64 + i) 0) {equal other : Bool} (f : equal ≡ same row n)
        (g : other ≡ not (same_set (set_numbered number) k)) where
      here : is_other (get_or (globals_in shared kinds) i ([], set_a)) ≡ (equal && other)
      here = ap is_other global-at ∙ sym (λ j. (f ∙ ap (λ (t : Bytes). same t n) r) j && (g ∙ ap (λ (t : ℕ). not (same_set (set_numbered t) k)) m) j)

      other-on : other_from i ≡ ((equal && other) || other_from (i + 1))
      unfolding other_from any
      other-on =
          ap (any is_other) (drop-cons (globals_in shared kinds) i ([], set_a) (omega (arith, globals-length)))
          ∙ (λ j. here j || any is_other (drop (sym (add-one i) j) (globals_in shared kinds)))

      pub other-stop : (equal && other) ≡ true → other_from i ≡ true
      other-stop e = other-on ∙ ap (λ (b : Bool). b || other_from (i + 1)) e

      pub other-next : (equal && other) ≡ false → other_from i ≡ other_from (i + 1)
      other-next e = other-on ∙ ap (λ (b : Bool). b || other_from (i + 1)) e
