-- How lexemes divide does not depend on what their symbols stand for. Assumes nothing.
use Prim.Native.Nat.{ℕ, zero, suc, pred}
use mathlib.Core.Path.{◌≡◌, refl, ap, sym, ◌∙◌}
use mathlib.Core.Bool.{Bool, true, false, ◌&&◌, ◌||◌, not}
use mathlib.Core.List.{List, [], ◌∷◌, map}
use mathlib.Core.Option.{Option, none, some}
use lib.Dec.{eqb, ltb}
use lib.ListN.{take, drop, length-map}
use Rattle.text.specs.Bytes.{Bytes, same}
use Rattle.rules.specs.Choice.{choose, passed, on_first, any, run}
use Rattle.rules.specs.Limits.{name_limit}
use Rattle.rules.specs.Lexemes.{apostrophe, opening, closing, comma, equals, Lex, byte, mark, ref, lone, byte_of, Inside, outside, enters, is_bare, is_name}
use Rattle.rules.specs.Statement.{map_lex}
use Rattle.rules.specs.Evaluate.{Cell}
use Rattle.rules.specs.Calls.{pair_up, parts, divided, equals_at, has_equals, Operands, operands_of}
use Rattle.rules.proofs.Choices.{into, chosen, passed_over}
use Rattle.value_sums.specs.Answers.{lex_by, toks_by}
use Rattle.call_operands.specs.Calling.{name_of, value_of, is_keyword, named_among, may_stand, are_operands, leading, split_at}
use Rattle.call_operands.proofs.Gathered.{gathered-is}
use Rattle.std.specs.Prelude.{Some}
use Rattle.call_codes.specs.Codes.{code_lex, lexemes, split_by}

module _ {R S : Type 0} (f : R → S) where
  abbrev over : List (Lex R) → List (Lex S)
  over x = map (map_lex f) x

  same_byte : (a : Lex R) → byte_of (map_lex f a) ≡ byte_of a
  unfolding map_lex byte_of
  same_byte (byte c) = refl
  same_byte mark = refl
  same_byte (ref r) = refl
  same_byte lone = refl

  same-enters : (i : Inside) (a : Lex R) → enters i (map_lex f a) ≡ enters i a
  unfolding enters
  same-enters i a = ap (λ (n : ℕ). record {
    quoted = choose (eqb n apostrophe) (not i.quoted) i.quoted;
    depth = choose i.quoted i.depth (choose (eqb n opening) (suc i.depth) (choose (eqb n closing) (pred i.depth) i.depth));
  }) (same_byte a)

  same-bare : (c : ℕ) (i : Inside) (a : Lex R) → is_bare c i (map_lex f a) ≡ is_bare c i a
  unfolding is_bare
  same-bare c i a = ap (λ (n : ℕ). eqb n c && (not i.quoted && eqb i.depth 0)) (same_byte a)

  pub same-pairs : (i : Inside) (x : List (Lex R)) → pair_up i (over x) ≡ pair_up i x
  unfolding pair_up
  same-pairs i [] = refl
  same-pairs i (a ∷ x) = λ j. not (same-bare closing i a j) && (ap (λ k. pair_up k (over x)) (same-enters i a) ∙ same-pairs (enters i a) x) j

  same_first : (a : Lex R) (xs : List (List (Lex R))) → on_first (map_lex f a) (map over xs) ≡ map over (on_first a xs)
  unfolding on_first
  same_first a [] = refl
  same_first a (x ∷ xs) = refl

  same_parts : (i : Inside) (x : List (Lex R)) → parts i (over x) ≡ map over (parts i x)
  unfolding parts
  same_parts i [] = refl
  same_parts i (a ∷ x) =
      (λ j. choose (same-bare comma i a j) ([] ∷ same_parts i x j) (on_first (map_lex f a) ((ap (λ k. parts k (over x)) (same-enters i a) ∙ same_parts (enters i a) x) j)))
      ∙ (ap (λ (ps : List (List (Lex S))). choose (is_bare comma i a) ([] ∷ map over (parts i x)) ps) (same_first a (parts (enters i a) x))
      ∙ sym (into (map over) (is_bare comma i a) ([] ∷ parts i x) (on_first a (parts (enters i a) x))))

  pub same-divided : (x : List (Lex R)) → divided (over x) ≡ map over (divided x)
  unfolding divided
  same-divided [] = refl
  same-divided (a ∷ x) = same_parts outside (a ∷ x)

  same-passed : (c : ℕ) (i : Inside) (x : List (Lex R)) → passed (is_bare c) enters i (over x) ≡ passed (is_bare c) enters i x
  unfolding passed
  same-passed c i [] = refl
  same-passed c i (a ∷ x) =
      λ j. choose (same-bare c i a j) 0 (suc ((ap (λ k. passed (is_bare c) enters k (over x)) (same-enters i a) ∙ same-passed c (enters i a) x) j))

  same-equals : (x : List (Lex R)) → equals_at (over x) ≡ equals_at x
  unfolding equals_at
  same-equals x = same-passed equals outside x

  pub same-has : (x : List (Lex R)) → has_equals (over x) ≡ has_equals x
  unfolding has_equals
  same-has x = λ j. ltb (same-equals x j) (length-map x (map_lex f) j)

  take-over : (n : ℕ) (x : List (Lex R)) → map byte_of (take n (over x)) ≡ map byte_of (take n x)
  take-over zero x = refl
  take-over (suc n) [] = refl
  take-over (suc n) (a ∷ x) = λ j. same_byte a j ∷ take-over n x j

  drop-over : (n : ℕ) (x : List (Lex R)) → drop n (over x) ≡ over (drop n x)
  drop-over zero x = refl
  drop-over (suc n) [] = refl
  drop-over (suc n) (a ∷ x) = drop-over n x

  pub same_name : (x : List (Lex R)) → name_of (over x) ≡ name_of x
  unfolding name_of
  same_name x = ap (λ (n : ℕ). map byte_of (take n (over x))) (same-equals x) ∙ take-over (equals_at x) x

  pub same-value : (x : List (Lex R)) → value_of (over x) ≡ over (value_of x)
  unfolding value_of
  same-value x = ap (λ (n : ℕ). drop (suc n) (over x)) (same-equals x) ∙ drop-over (suc (equals_at x)) x

  same-keyword : (x : List (Lex R)) → is_keyword (over x) ≡ is_keyword x
  unfolding is_keyword
  same-keyword x = λ j. is_name name_limit (same_name x j) && not ((ap has_equals (same-value x) ∙ same-has (value_of x)) j)

  same-among : (n : Bytes) (xs : List (List (Lex R))) → named_among n (map over xs) ≡ named_among n xs
  unfolding named_among any
  same-among n [] = refl
  same-among n (x ∷ xs) = λ j. same (same_name x j) n || same-among n xs j

  pub same_operands : (k : Bool) (xs : List (List (Lex R))) → are_operands k (map over xs) ≡ are_operands k xs
  unfolding are_operands may_stand
  same_operands k [] = refl
  same_operands k (x ∷ xs) =
      λ j. choose (same-has x j) (same-keyword x j && not ((ap (λ n. named_among n (map over xs)) (same_name x) ∙ same-among (name_of x) xs) j)) (not k)
      && (ap (λ b. are_operands b (map over xs)) (same-has x) ∙ same_operands (has_equals x) xs) j

  pub same-leading : (xs : List (List (Lex R))) → leading (map over xs) ≡ leading xs
  unfolding leading run
  same-leading [] = refl
  same-leading (x ∷ xs) = λ j. choose (not (same-has x j)) (suc (same-leading xs j)) 0

-- ---- codes

module _ (held : ℕ → Cell) where
  lex-is : (b : ℕ) → lex_by held b ≡ map_lex held (code_lex b)
  unfolding lex_by code_lex map_lex choose
  lex-is b = go (ltb b 127) (eqb b 127) (ltb b 227)
    where
      go : (p q r : Bool) → choose p (byte b) (choose q mark (choose r (ref (held b)) lone)) ≡ map_lex held (choose p (byte b) (choose q mark (choose r (ref b) lone)))
      go true q r = refl
      go false true r = refl
      go false false true = refl
      go false false false = refl

  pub toks-are : (code : Bytes) → toks_by held code 0 ≡ map (map_lex held) (lexemes code)
  unfolding toks_by lexemes
  toks-are [] = refl
  toks-are (b ∷ code) = λ i. lex-is b i ∷ toks-are code i

  -- the parts of a field with these values are those of its codes
  pub parts_are : (code : Bytes) → divided (toks_by held code 0) ≡ map (map (map_lex held)) (divided (lexemes code))
  parts_are code = ap divided (toks-are code) ∙ same-divided held (lexemes code)

  module _ (code : Bytes) where
    abbrev x : List (Lex Cell)
    x = toks_by held code 0

    operands-are : operands_of x ≡ choose (pair_up outside x) (choose (are_operands false (divided x)) (some (split_at (leading (divided x)) (divided x))) none) none
    unfolding operands_of
    operands-are = ap (λ (o : Option (Operands (List (Lex Cell)))). choose (pair_up outside x) o none) (gathered-is (divided x))

    pairs-alike : pair_up outside x ≡ pair_up outside (lexemes code)
    pairs-alike = ap (pair_up outside) (toks-are code) ∙ same-pairs held outside (lexemes code)

    stand-alike : are_operands false (divided x) ≡ are_operands false (divided (lexemes code))
    stand-alike = ap (are_operands false) (parts_are code) ∙ same_operands held false (divided (lexemes code))

    leading-alike : leading (divided x) ≡ leading (divided (lexemes code))
    leading-alike = ap leading (parts_are code) ∙ same-leading held (divided (lexemes code))

    pub not-paired : pair_up outside (lexemes code) ≡ false → operands_of x ≡ none
    not-paired e = operands-are ∙ passed_over _ _ (pairs-alike ∙ e)

    module _ (p : pair_up outside (lexemes code) ≡ true) where
      pub not-operands : are_operands false (divided (lexemes code)) ≡ false → operands_of x ≡ none
      not-operands e = operands-are ∙ (chosen _ _ (pairs-alike ∙ p) ∙ passed_over _ _ (stand-alike ∙ e))

      pub are-told : are_operands false (divided (lexemes code)) ≡ true → split_by held code (Some (leading (divided (lexemes code)))) ≡ operands_of x
      unfolding split_by
      are-told e =
          sym (operands-are ∙ (chosen _ _ (pairs-alike ∙ p) ∙ (chosen _ _ (stand-alike ∙ e) ∙ ap (λ (n : ℕ). some (split_at n (divided x))) leading-alike)))
