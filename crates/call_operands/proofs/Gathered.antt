-- 01's operands of a call, gathered from the last part to the first, are the parts told from the first to the last. For every sense of a symbol. Assumes nothing.
use Prim.Native.Nat.{ℕ, suc}
use mathlib.Core.Path.{◌≡◌, refl, ap, sym, ◌∙◌}
use mathlib.Core.Bool.{Bool, true, false, ◌&&◌, ◌||◌, not, true≢false, false≢true}
use mathlib.Core.List.{List, [], ◌∷◌, map}
use mathlib.Core.Option.{Option, none, some}
use lib.ListN.{take, drop}
use Rattle.text.specs.Bytes.{Bytes, same}
use Rattle.rules.specs.Choice.{choose, any, run}
use Rattle.rules.specs.Lexemes.{Lex}
use Rattle.rules.specs.Fields.{is_empty}
use Rattle.rules.specs.Calls.{has_equals, Operand, positional, keyword, wrong, Operands, keyword_of, operand_of, is_among, add_operand, add_keyword, gathered}
use Rattle.rules.proofs.Choices.{by, chosen, passed_over}
use Rattle.call_operands.specs.Calling.{name_of, value_of, pair_of, is_keyword, named_among, may_stand, are_operands, leading, split_at}

abbrev Part : Type 0 → Type 0
Part R = List (Lex R)

module _ {R : Type 0} where
  -- ---- one part

  plain-is : (x : Part R) → has_equals x ≡ false → operand_of x ≡ positional x
  unfolding operand_of
  plain-is x e = passed_over _ _ e

  keyword-is : (x : Part R) → has_equals x ≡ true → is_keyword x ≡ true → operand_of x ≡ keyword (name_of x) (value_of x)
  unfolding operand_of keyword_of is_keyword name_of value_of
  keyword-is x e k = chosen _ _ e ∙ chosen _ _ k

  wrong-is : (x : Part R) → has_equals x ≡ true → is_keyword x ≡ false → operand_of x ≡ wrong
  unfolding operand_of keyword_of is_keyword name_of value_of
  wrong-is x e k = chosen _ _ e ∙ passed_over _ _ k

  among-is : (name : Bytes) (xs : List (Part R)) → is_among name (map pair_of xs) ≡ named_among name xs
  unfolding is_among named_among any pair_of
  among-is name [] = refl
  among-is name (x ∷ xs) = ap (λ (b : Bool). same (name_of x) name || b) (among-is name xs)

  -- ---- the first of several parts

  pub step-keyword : (k : Bool) (x : Part R) (xs : List (Part R)) → has_equals x ≡ true → are_operands k (x ∷ xs) ≡ ((is_keyword x && not (named_among (name_of x) xs)) && are_operands true xs)
  unfolding are_operands may_stand
  step-keyword k x xs e = λ i. chosen (is_keyword x && not (named_among (name_of x) xs)) (not k) e i && are_operands (e i) xs

  pub step-plain : (k : Bool) (x : Part R) (xs : List (Part R)) → has_equals x ≡ false → are_operands k (x ∷ xs) ≡ (not k && are_operands false xs)
  unfolding are_operands may_stand
  step-plain k x xs e = λ i. passed_over (is_keyword x && not (named_among (name_of x) xs)) (not k) e i && are_operands (e i) xs

  -- ---- behind a keyword

  alone : (xs : List (Part R)) → are_operands true xs ≡ true → (are_operands false xs ≡ true) × (leading xs ≡ 0)
  unfolding are_operands leading run
  alone [] e = (refl, refl)
  alone (x ∷ xs) e =
      by (has_equals x)
      (λ t. (step-keyword false x xs t ∙ (sym (step-keyword true x xs t) ∙ e), passed_over _ _ (ap not t)))
      (λ t. absurd (false≢true (sym (step-plain true x xs t) ∙ e)))

  together : (xs : List (Part R)) → are_operands true xs ≡ false → are_operands false xs ≡ true → is_empty (take (leading xs) xs) ≡ false
  unfolding are_operands leading run is_empty
  together [] e f = absurd (true≢false e)
  together (x ∷ xs) e f =
      by (has_equals x)
      (λ t. absurd (false≢true (sym e ∙ (step-keyword true x xs t ∙ (sym (step-keyword false x xs t) ∙ f)))))
      (λ t. ap (λ (n : ℕ). is_empty (take n (x ∷ xs))) (chosen _ _ (ap not t)))

  -- ---- all of them

  abbrev told : List (Part R) → Option (Operands (Part R))
  told xs = choose (are_operands false xs) (some (split_at (leading xs) xs)) none

  first_plain : (x : Part R) (xs : List (Part R)) → has_equals x ≡ false → add_operand (told xs) x ≡ told (x ∷ xs)
  unfolding add_operand are_operands leading run split_at
  first_plain x xs e =
      let a : are_operands false (x ∷ xs) ≡ are_operands false xs = step-plain false x xs e in
      let n : leading (x ∷ xs) ≡ suc (leading xs) = chosen _ _ (ap not e) in
      by (are_operands false xs)
      (λ t. ap (λ (o : Option (Operands (Part R))). add_operand o x) (chosen _ _ t) ∙ (ap (λ (m : ℕ). some (split_at m (x ∷ xs))) (sym n) ∙ sym (chosen _ _ (a ∙ t))))
      (λ t. ap (λ (o : Option (Operands (Part R))). add_operand o x) (passed_over _ _ t) ∙ sym (passed_over _ _ (a ∙ t)))

  first-keyword : (x : Part R) (xs : List (Part R)) → has_equals x ≡ true → is_keyword x ≡ true → add_keyword (told xs) (name_of x) (value_of x) ≡ told (x ∷ xs)
  unfolding add_keyword are_operands leading run split_at is_empty pair_of
  first-keyword x xs e k =
      let n : leading (x ∷ xs) ≡ 0 = passed_over _ _ (ap not e) in
      let a : are_operands false (x ∷ xs) ≡ (not (named_among (name_of x) xs) && are_operands true xs) =
      step-keyword false x xs e ∙ ap (λ (b : Bool). (b && not (named_among (name_of x) xs)) && are_operands true xs) k in
      let add : Option (Operands (Part R)) → Option (Operands (Part R)) = λ o. add_keyword o (name_of x) (value_of x) in
      by (are_operands true xs)
      (λ t.
      let f = alone xs t in
      ap add (chosen _ _ f.0 ∙ ap (λ (m : ℕ). some (split_at m xs)) f.1)
      ∙ (ap (λ (b : Bool). choose (not b) (some (split_at 0 (x ∷ xs))) none) (among-is (name_of x) xs)
      ∙ ((λ i. choose (and-true (not (named_among (name_of x) xs)) i) (some (split_at (sym n i) (x ∷ xs))) none)
      ∙ ap (λ (b : Bool). choose b (some (split_at (leading (x ∷ xs)) (x ∷ xs))) none) (sym (a ∙ ap (λ (b : Bool). not (named_among (name_of x) xs) && b) t)))))
      (λ t.
      let none_told = sym (passed_over {b = are_operands false (x ∷ xs)} (some (split_at (leading (x ∷ xs)) (x ∷ xs))) none
      (a ∙ (ap (λ (b : Bool). not (named_among (name_of x) xs) && b) t ∙ and-false (not (named_among (name_of x) xs))))) in
      by (are_operands false xs)
      (λ f. ap add (chosen _ _ f) ∙ (passed_over _ _ (ap (λ (b : Bool). b && not (is_among (name_of x) (map pair_of (drop (leading xs) xs)))) (together xs t f)) ∙ none_told))
      (λ f. ap add (passed_over _ _ f) ∙ none_told))
    where
      and-true : (b : Bool) → b ≡ (b && true)
      and-true true = refl
      and-true false = refl

      and-false : (b : Bool) → (b && false) ≡ false
      and-false true = refl
      and-false false = refl

  pub gathered-is : (xs : List (Part R)) → gathered xs ≡ choose (are_operands false xs) (some (split_at (leading xs) xs)) none
  unfolding gathered are_operands leading run split_at choose
  gathered-is [] = refl
  gathered-is (x ∷ xs) =
      by (has_equals x)
      (λ e. by (is_keyword x)
      (λ k. ap (adds (gathered xs)) (keyword-is x e k) ∙ (ap (λ (o : Option (Operands (Part R))). add_keyword o (name_of x) (value_of x)) (gathered-is xs) ∙ first-keyword x xs e k))
      (λ k. ap (adds (gathered xs)) (wrong-is x e k)
      ∙ sym (passed_over _ _ (step-keyword false x xs e ∙ ap (λ (b : Bool). (b && not (named_among (name_of x) xs)) && are_operands true xs) k))))
      (λ e. ap (adds (gathered xs)) (plain-is x e) ∙ (ap (λ (o : Option (Operands (Part R))). add_operand o x) (gathered-is xs) ∙ first_plain x xs e))
    where
      adds : Option (Operands (Part R)) → Operand R → Option (Operands (Part R))
      adds o p = elim p [ positional v ↦ add_operand o v | keyword k v ↦ add_keyword o k v | wrong ↦ none ]
