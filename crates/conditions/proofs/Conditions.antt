-- The rules of conditions as the code goes through them: one law for each case that it tells apart, and that each of them moves forward. Assumes nothing.
use mathlib.Core.Path.{◌≡◌, refl, sym, ap, ◌∙◌, subst}
use mathlib.Core.Bool.{Bool, true, false, ◌||◌, ◌&&◌, true≢false}
use mathlib.Core.List.{List, [], ◌∷◌}
use mathlib.Core.Option.{Option, none, some}
use Prim.Native.Nat.{ℕ, zero, suc, ◌-◌, ◌≤◌}
use native.Mathlib.Omega.{arith}
use native.Mathlib.Nat.{le_refl, le_trans}
use native.Mathlib.Numerals.{sub-one}
use lib.Dec.{eqb, lit<}
use lib.ListN.{length, drop}
use borrow.Author.Tests.{eq-eqb, ne_eqb, eqb-true, eqb-false}
use Rattle.text.specs.Bytes.{bytes}
use Rattle.rules.specs.Choice.{choose, run}
use Rattle.rules.specs.Lexemes.{Lex, byte, mark, ref, lone, byte_of, opening, apostrophe, space}
use Rattle.rules.specs.Fields.{is_empty}
use Rattle.rules.specs.Statement.{set_a, set_b, set_c}
use Rattle.rules.specs.Grammar.{Kind, parameter, symbol, syslist, sysndx, sysect, unknown, Got, got, Reference, plain, rest, is_attribute, past_spaces, word_at, is_word, then, broken, given, closed, in_text}
use Rattle.rules.specs.Grammar.{subscripts, reference, referred, deeper, arithmetic, string_within, compared_strings, is_digit_alone, constant_at, compared_numbers, is_flag, element, spaced, negation, conjunction, disjunction, deeper_condition, condition}
use Rattle.rules.specs.Form.{Nothing, form}
use Rattle.rules.proofs.Choices.{by, either, chosen, passed_over}
use Rattle.grammar.specs.declared.Fault.TheVariants.{Deep}
use Rattle.grammar.specs.Tokens.{tells}
use Rattle.std.specs.Prelude.{Some, Err}
use Rattle.std.specs.Option.{option_eq}
use Rattle.kinds.specs.contracts.KindPartialEq.TheImpl.{eq-value}
use Rattle.kinds.specs.declared.Set.TheVariants.{B}
use Rattle.kinds.specs.declared.Kind.TheVariants.{Symbol}
use Rattle.kinds.specs.declared.Stand.TheVariants.{AfterT, Text}
use Rattle.kinds.specs.Kinds.{table_of}
use Rattle.grammar.specs.Kinds.{kind_shown, kind_first}
use Rattle.grammar.proofs.Chains.{left, left-then, Forward, drop-less, then_same, Chained, chained, forward-chain}
use Rattle.grammar.proofs.Rules.{Few, got-left, broken-left, left-closed, left-opened, forward-referred, forward-deeper, sums-of, sum_of}
use Rattle.grammar.proofs.Quotes.{parts-of, strings-of, characters-type, characters-strings}
use Rattle.conditions.specs.Words.{is_relation}
use Rattle.conditions.proofs.Words.{relation-some, relation-none}

-- what depends on whether there is a value
module _ {A D : Type 0} (f : A) (k : D → A) where
  is_none : {o : Option D} → o ≡ none → elim o [ none ↦ f | some d ↦ k d ] ≡ f
  is_none e = ap (λ (o : Option D). elim o [ none ↦ f | some d ↦ k d ]) e

  is_some : {o : Option D} {d : D} → o ≡ some d → elim o [ none ↦ f | some d ↦ k d ] ≡ k d
  is_some e = ap (λ (o : Option D). elim o [ none ↦ f | some d ↦ k d ]) e

module _ (nest : ℕ) (inner : List (Lex Kind) → Got Nothing Kind) where
  -- ---- strings

  module _ (x : List (Lex Kind)) where
    pub strings-none : is_relation x ≡ false → broken x ≡ compared_strings form nest inner tt x
    unfolding compared_strings
    strings-none h = sym (is_none _ _ (relation-none x h))

    pub strings-second : is_relation x ≡ true → string_within form nest (past_spaces (drop 2 x)) ≡ compared_strings form nest inner tt x
    unfolding compared_strings form
    strings-second h = sym (is_some _ _ (relation-some x h).is ∙ then_same (string_within form nest (past_spaces (drop 2 x))))

  -- ---- numbers

  pub constant_by : (here x : List (Lex Kind)) → constant_at form nest inner here x ≡ choose ((eqb (plain here) 48 || eqb (plain here) 49) && eqb (length here) (suc (length x))) (got tt x) (broken here)
  unfolding constant_at is_digit_alone form choose
  constant_by here x = go (eqb (plain here) 48) (eqb (plain here) 49) (eqb (length here) (suc (length x)))
    where
      go : (p q r : Bool) → choose {A = Got Nothing Kind} (p && r) (got tt x) (choose (q && r) (got tt x) (broken here)) ≡ choose ((p || q) && r) (got tt x) (broken here)
      go true q true = refl
      go true true false = refl
      go true false false = refl
      go false q r = refl

  module _ (here x : List (Lex Kind)) {c : ℕ} (read : c ≡ plain here) {b : Bool} (alone : b ≡ eqb (length here) (suc (length x))) where
    tested : ((eqb c 48 || eqb c 49) && b) ≡ ((eqb (plain here) 48 || eqb (plain here) 49) && eqb (length here) (suc (length x)))
    tested = λ i. (eqb (read i) 48 || eqb (read i) 49) && alone i

    pub constant-is : ((eqb c 48 || eqb c 49) && b) ≡ true → got tt x ≡ constant_at form nest inner here x
    constant-is h = sym (constant_by here x ∙ chosen _ _ (sym tested ∙ h))

    pub constant-none : ((eqb c 48 || eqb c 49) && b) ≡ false → broken here ≡ constant_at form nest inner here x
    constant-none h = sym (constant_by here x ∙ passed_over _ _ (sym tested ∙ h))

  module _ (here x : List (Lex Kind)) {z : List (Lex Kind)} (spaces : z ≡ past_spaces x) where
    pub numbers-none : is_relation z ≡ false → constant_at form nest inner here x ≡ compared_numbers form nest inner here tt x
    unfolding compared_numbers
    numbers-none h = sym (is_none _ _ (relation-none (past_spaces x) (ap is_relation (sym spaces) ∙ h)))

    module _ (h : is_relation z ≡ true) {y : List (Lex Kind)} (next : y ≡ past_spaces (drop 2 z)) {c : ℕ} (read : c ≡ plain y) where
      second : List (Lex Kind)
      second = past_spaces (drop 2 (past_spaces x))

      there : y ≡ second
      unfolding second
      there = next ∙ ap (λ w. past_spaces (drop 2 w)) spaces

      compares : choose (eqb (plain second) opening) (broken second) (arithmetic form nest second) ≡ compared_numbers form nest inner here tt x
      unfolding compared_numbers form second
      compares = ap (choose (eqb (plain second) opening) (broken second)) (sym (then_same (arithmetic form nest second))) ∙ sym (is_some _ _ (relation-some (past_spaces x) (ap is_relation (sym spaces) ∙ h)).is)

      pub numbers-open : c ≡ 40 → broken y ≡ compared_numbers form nest inner here tt x
      numbers-open e = ap broken there ∙ sym (chosen _ _ (eq-eqb (plain second) 40 (sym (read ∙ ap plain there) ∙ e))) ∙ compares

      pub numbers-second : (c ≡ 40 → ⊥) → arithmetic form nest y ≡ compared_numbers form nest inner here tt x
      numbers-second n = ap (arithmetic form nest) there ∙ sym (passed_over _ _ (ne_eqb (plain second) 40 (λ e. n (read ∙ ap plain there ∙ e)))) ∙ compares

  -- ---- flags

  pub flag_is : (x : List (Lex Kind)) → option_eq eq-value.it (kind_first x) (Some (Symbol B)) ≡ is_flag form nest inner x
  unfolding is_flag kind_first kind_shown form
  flag_is [] = refl
  flag_is (byte c ∷ x) = refl
  flag_is (mark ∷ x) = refl
  flag_is (ref parameter ∷ x) = refl
  flag_is (ref (symbol set_a) ∷ x) = refl
  flag_is (ref (symbol set_b) ∷ x) = refl
  flag_is (ref (symbol set_c) ∷ x) = refl
  flag_is (ref syslist ∷ x) = refl
  flag_is (ref sysndx ∷ x) = refl
  flag_is (ref sysect ∷ x) = refl
  flag_is (ref unknown ∷ x) = refl
  flag_is (lone ∷ x) = refl

  abbrev flagged : Reference Kind Nothing → List (Lex Kind) → Got Nothing Kind
  flagged r y = got (form.flag r.of) y

  -- a flag is a reference that may stand in text
  flag-reference : (here x : List (Lex Kind)) → is_flag form nest inner x ≡ true → referred form (deeper form nest) (table_of Text) (λ r. some tt) here x ≡ then (reference form (deeper form nest) x) flagged
  unfolding is_flag form reference referred subscripts then broken given is_empty choose in_text
  flag-reference here [] e = absurd (true≢false (sym e))
  flag-reference here (byte c ∷ x) e = absurd (true≢false (sym e))
  flag-reference here (mark ∷ x) e = absurd (true≢false (sym e))
  flag-reference here (ref parameter ∷ x) e = absurd (true≢false (sym e))
  flag-reference here (ref (symbol set_a) ∷ x) e = absurd (true≢false (sym e))
  flag-reference here (ref (symbol set_b) ∷ x) e = by (eqb (plain x) opening) (λ o. rw o) (λ o. rw o)
  flag-reference here (ref (symbol set_c) ∷ x) e = absurd (true≢false (sym e))
  flag-reference here (ref syslist ∷ x) e = absurd (true≢false (sym e))
  flag-reference here (ref sysndx ∷ x) e = absurd (true≢false (sym e))
  flag-reference here (ref sysect ∷ x) e = absurd (true≢false (sym e))
  flag-reference here (ref unknown ∷ x) e = absurd (true≢false (sym e))
  flag-reference here (lone ∷ x) e = absurd (true≢false (sym e))

  -- ---- elements

  abbrev pub in_strings : Nothing → List (Lex Kind) → Got Nothing Kind
  in_strings s y = compared_strings form nest inner s (past_spaces y)

  module _ (x : List (Lex Kind)) {c : ℕ} (read : c ≡ plain x) where
    pub element-opens : c ≡ 40 → then (inner (rest x)) closed ≡ element form nest inner x
    unfolding element
    element-opens h = sym (chosen _ _ (eq-eqb (plain x) 40 (sym read ∙ h)))

    module _ (h : c ≡ 40 → ⊥) {t : Bool} (type : t ≡ is_attribute 84 x) where
      no-opening : eqb (plain x) 40 ≡ false
      no-opening = ne_eqb (plain x) 40 (λ e. h (read ∙ e))

      quotes : (eqb c 39 || t) ≡ (eqb (plain x) 39 || is_attribute 84 x)
      quotes = λ i. eqb (read i) 39 || type i

      pub element-strings : (eqb c 39 || t) ≡ true → then (string_within form nest x) in_strings ≡ element form nest inner x
      unfolding element
      element-strings s = sym (passed_over _ _ no-opening ∙ chosen _ _ (sym quotes ∙ s))

      module _ (s : (eqb c 39 || t) ≡ false) where
        pub element-flag : is_flag form nest inner x ≡ true → referred form (deeper form nest) (table_of Text) (λ r. some tt) x x ≡ element form nest inner x
        unfolding element
        element-flag f = flag-reference x x f ∙ sym (passed_over _ _ no-opening ∙ passed_over _ _ (sym quotes ∙ s) ∙ chosen _ _ f)

        pub element-numbers : is_flag form nest inner x ≡ false → then (arithmetic form nest x) (compared_numbers form nest inner x) ≡ element form nest inner x
        unfolding element
        element-numbers f = sym (passed_over _ _ no-opening ∙ passed_over _ _ (sym quotes ∙ s) ∙ passed_over _ _ f)

  pub spaced-is : (x : List (Lex Kind)) → then (element form nest inner (past_spaces x)) (λ v y. got tt (past_spaces y)) ≡ spaced form nest inner x
  unfolding spaced
  spaced-is x = refl

  module _ (x : List (Lex Kind)) {y : List (Lex Kind)} (spaces : y ≡ past_spaces x) where
    pub negation-not : is_word (bytes "NOT") y ≡ true → spaced form nest inner (drop 3 y) ≡ negation form nest inner x
    unfolding negation form
    negation-not h = ap (λ z. spaced form nest inner (drop 3 z)) spaces ∙ sym (chosen _ _ (ap (is_word (bytes "NOT")) (sym spaces) ∙ h) ∙ then_same (spaced form nest inner (drop 3 (past_spaces x))))

    pub negation-plain : is_word (bytes "NOT") y ≡ false → spaced form nest inner y ≡ negation form nest inner x
    unfolding negation
    negation-plain h = ap (spaced form nest inner) spaces ∙ sym (passed_over _ _ (ap (is_word (bytes "NOT")) (sym spaces) ∙ h))

-- ---- the rules move forward

spaces-less : (x : List (Lex Kind)) → length (past_spaces x) ≤ length x
unfolding past_spaces
spaces-less x = drop-less (run (λ y. eqb (byte_of y) space) x) x

-- behind two lexemes and the spaces around them
second-less : (x : List (Lex Kind)) → length (past_spaces (drop 2 x)) ≤ length x
second-less x = le_trans (spaces-less (drop 2 x)) (drop-less 2 x)

forward-arithmetic : (nest : ℕ) → Forward (arithmetic form nest)
forward-arithmetic nest x = rw (← sum_of nest x) (forward-chain (sums-of nest) x)

forward-string : (nest : ℕ) → Forward (string_within form nest)
forward-string nest x = by (is_attribute 84 x)
    (λ e. subst (λ (r : Got Nothing Kind). left r ≤ length x) (characters-type nest x e) (le_trans (forward-referred (deeper form nest) (forward-deeper nest) (table_of AfterT) x (drop 2 x)) (drop-less 2 x)))
    (λ e. subst (λ (r : Got Nothing Kind). left r ≤ length x) (strings-of nest x ∙ characters-strings nest x e) (forward-chain (parts-of nest) x))

module _ (nest : ℕ) (inner : List (Lex Kind) → Got Nothing Kind) where
  left-strings : (x : List (Lex Kind)) → left (compared_strings form nest inner tt x) ≤ suc (length x)
  left-strings x = by (is_relation x)
      (λ e. subst (λ (r : Got Nothing Kind). left r ≤ suc (length x)) (strings-second nest inner x e) (let less = second-less x in let on = forward-string nest (past_spaces (drop 2 x)) in omega arith))
      (λ e. subst (λ (r : Got Nothing Kind). left r ≤ suc (length x)) (strings-none nest inner x e) (broken-left _ x _))

  left-constant : (here x : List (Lex Kind)) → left (constant_at form nest inner here x) ≤ suc (length x)
  left-constant here x = subst (λ (r : Got Nothing Kind). left r ≤ suc (length x)) (sym (constant_by nest inner here x))
      (either (Few _ (suc (length x))) ((eqb (plain here) 48 || eqb (plain here) 49) && eqb (length here) (suc (length x))) (λ e. got-left _ x _ (le_refl _)) (λ e. broken-left _ here _))

  left-numbers : (here x : List (Lex Kind)) → left (compared_numbers form nest inner here tt x) ≤ suc (length x)
  left-numbers here x = by (is_relation (past_spaces x))
      (λ e. by (eqb (plain (past_spaces (drop 2 (past_spaces x)))) 40)
      (λ f. subst (λ (r : Got Nothing Kind). left r ≤ suc (length x)) (numbers-open nest inner here x refl e refl refl (eqb-true _ 40 f)) (broken-left _ _ _))
      (λ f. subst (λ (r : Got Nothing Kind). left r ≤ suc (length x)) (numbers-second nest inner here x refl e refl refl (eqb-false _ 40 f)) (let less = second-less (past_spaces x) in let few = spaces-less x in let on = forward-arithmetic nest (past_spaces (drop 2 (past_spaces x))) in omega arith)))
      (λ e. subst (λ (r : Got Nothing Kind). left r ≤ suc (length x)) (numbers-none nest inner here x refl e) (left-constant here x))

  module _ (forward : Forward inner) where
    forward-element : Forward (element form nest inner)
    unfolding element
    forward-element x =
        either (Few _ (length x)) (eqb (plain x) opening) (λ e. left-opened inner forward closed (λ v y. left-closed v y) x)
        (λ e. either (Few _ (length x)) (eqb (plain x) apostrophe || is_attribute 84 x)
        (λ e. le_trans (left-then (string_within form nest x) (in_strings nest inner) (λ s y. le_trans (left-strings (past_spaces y)) (let less = spaces-less y in omega arith))) (forward-string nest x))
        (λ e. either (Few _ (length x)) (is_flag form nest inner x)
        (λ f. subst (λ (r : Got Nothing Kind). left r ≤ length x) (flag-reference nest inner x x f) (forward-referred (deeper form nest) (forward-deeper nest) (table_of Text) x x))
        (λ f. le_trans (left-then (arithmetic form nest x) (compared_numbers form nest inner x) (λ a y. left-numbers x y)) (forward-arithmetic nest x))))

    forward-spaced : Forward (spaced form nest inner)
    unfolding spaced
    forward-spaced x = le_trans (left-then (element form nest inner (past_spaces x)) (λ b y. got b (past_spaces y)) (λ b y. let less = spaces-less y in got-left b (past_spaces y) (suc (length y)) (omega arith))) (le_trans (forward-element (past_spaces x)) (spaces-less x))

    forward-negation : Forward (negation form nest inner)
    forward-negation x = by (is_word (bytes "NOT") (past_spaces x))
        (λ e. subst (λ (r : Got Nothing Kind). left r ≤ length x) (negation-not nest inner x refl e) (le_trans (forward-spaced (drop 3 (past_spaces x))) (le_trans (drop-less 3 (past_spaces x)) (spaces-less x))))
        (λ e. subst (λ (r : Got Nothing Kind). left r ≤ length x) (negation-plain nest inner x refl e) (le_trans (forward-spaced (past_spaces x)) (spaces-less x)))

    conjunctions : Chained (is_word (bytes "AND")) 3 (negation form nest inner)
    unfolding is_word word_at run
    conjunctions = record { none = refl; some-skip = lit< tt; forward = forward-negation }

    conjunction-is : (x : List (Lex Kind)) → chained conjunctions x ≡ conjunction form nest inner x
    unfolding conjunction form
    conjunction-is x = refl

    disjunctions : Chained (is_word (bytes "OR")) 2 (conjunction form nest inner)
    unfolding is_word word_at run
    disjunctions = record { none = refl; some-skip = lit< tt; forward = λ x. rw (← conjunction-is x) (forward-chain conjunctions x) }

    disjunction-is : (x : List (Lex Kind)) → chained disjunctions x ≡ disjunction form nest inner x
    unfolding disjunction form
    disjunction-is x = refl

    forward-disjunction : Forward (disjunction form nest inner)
    forward-disjunction x = rw (← disjunction-is x) (forward-chain disjunctions x)

forward-condition : (nest : ℕ) → Forward (deeper_condition form nest)
unfolding deeper_condition left
forward-condition zero x = omega arith
forward-condition (suc n) x = forward-disjunction n (deeper_condition form n) (forward-condition n) x

pub conjunctions-of : (nest : ℕ) → Chained (is_word (bytes "AND")) 3 (negation form nest (deeper_condition form nest))
conjunctions-of nest = conjunctions nest (deeper_condition form nest) (forward-condition nest)

pub conjunction-of : (nest : ℕ) (x : List (Lex Kind)) → chained (conjunctions-of nest) x ≡ conjunction form nest (deeper_condition form nest) x
conjunction-of nest x = conjunction-is nest (deeper_condition form nest) (forward-condition nest) x

pub disjunctions-of : (nest : ℕ) → Chained (is_word (bytes "OR")) 2 (conjunction form nest (deeper_condition form nest))
disjunctions-of nest = disjunctions nest (deeper_condition form nest) (forward-condition nest)

pub disjunction-of : (nest : ℕ) (x : List (Lex Kind)) → chained (disjunctions-of nest) x ≡ disjunction form nest (deeper_condition form nest) x
disjunction-of nest x = disjunction-is nest (deeper_condition form nest) (forward-condition nest) x

-- ---- nesting

pub condition-spent : (from : ℕ → List (Lex Kind)) (nest at : ℕ) → nest ≡ 0 → tells from (Err (Deep at)) ≡ deeper_condition form nest (from at)
unfolding tells deeper_condition
condition-spent from nest at h = rw h

pub condition-on : (nest : ℕ) (x : List (Lex Kind)) → (nest ≡ 0 → ⊥) → disjunction form (nest - 1) (deeper_condition form (nest - 1)) x ≡ deeper_condition form nest x
unfolding deeper_condition
condition-on zero x h = absurd (h refl)
condition-on (suc n) x h = rw sub-one refl

module _ (nest : ℕ) (x : List (Lex Kind)) {c : ℕ} (read : c ≡ plain x) where
  pub condition-none : (c ≡ 40 → ⊥) → broken x ≡ condition form nest x
  unfolding condition
  condition-none h = sym (passed_over _ _ (ne_eqb (plain x) 40 (λ e. h (read ∙ e))))

  pub condition-opens : c ≡ 40 → then (deeper_condition form nest (rest x)) closed ≡ condition form nest x
  unfolding condition
  condition-opens h = sym (chosen _ _ (eq-eqb (plain x) 40 (sym read ∙ h)))
