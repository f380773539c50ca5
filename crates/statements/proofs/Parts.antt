-- A line's name and operation, by the places that cut them out; remarks by their first bytes. Assumes nothing.
use Prim.Native.Nat.{ℕ, ◌-◌}
use native.Mathlib.Nat.{sub-zero}
use native.Mathlib.Omega.{arith}
use mathlib.Core.Path.{◌≡◌, refl, ap, sym, ◌∙◌}
use mathlib.Core.Bool.{true, false, ◌&&◌, ◌||◌, not, and-true}
use mathlib.Core.List.{[], ◌∷◌}
use lib.Dec.{eqb}
use borrow.Author.Tests.{eq-eqb, ne_eqb, eqb-true, eqb-false}
use lib.ListN.{length, get_or, take, drop}
use Rattle.text.specs.Bytes.{Bytes, bytes, same}
use Rattle.rules.specs.Fields.{is_copied_remark, is_dropped_remark, is_remark, starts_with, no_fields, fields_of, statement_fields, is_empty}
use Rattle.rules.specs.Lexemes.{is_sequence}
use Rattle.rules.specs.Library.{operation_of, is_named}
use Rattle.rules.specs.Faults.{is_named_or_empty}
use Rattle.rules.proofs.Choices.{chosen, passed_over, by}
use Rattle.fields.specs.Cuts.{run_end, cuts_of, fields_by}
use Rattle.fields.proofs.Cut.{fields-cut}
use Rattle.statements.proofs.Symbols.{behind-first}

-- code compares a byte with a known one, the definition the known one with a byte
swapped : (a b : ℕ) → eqb a b ≡ eqb b a
swapped a b = by (eqb b a) (λ e. eq-eqb a b (sym (eqb-true b a e)) ∙ sym e) (λ e. ne_eqb a b (λ q. eqb-false b a e (sym q)) ∙ sym e)

one_byte : (a k : ℕ) → eqb a k ≡ (eqb k a && true)
one_byte a k = swapped a k ∙ sym (and-true (eqb k a))

pub remark-is : (l : Bytes) → (eqb (get_or l 0 0) 42 || (eqb (get_or l 0 0) 46 && eqb (get_or l 1 0) 42)) ≡ is_remark l
unfolding is_remark is_copied_remark is_dropped_remark starts_with
remark-is [] = refl
remark-is (a ∷ []) = λ i. one_byte a 42 i || (swapped a 46 i && false)
remark-is (a ∷ (b ∷ l)) = λ i. one_byte a 42 i || (swapped a 46 i && one_byte b 42 i)

-- a name that starts with a period, or not
pub other-is : (n : Bytes) → not (eqb (get_or n 0 0) 46) ≡ not (starts_with (bytes ".") n)
unfolding starts_with
other-is [] = refl
other-is (a ∷ n) = ap not (one_byte a 46)

module _ (l : Bytes) where
  -- a remark has neither
  pub remark-name : is_remark l ≡ true → [] ≡ (statement_fields l).name
  unfolding statement_fields no_fields
  remark-name e = sym (ap (λ f. f.name) (chosen no_fields (fields_of l) e))

  pub remark-operation : is_remark l ≡ true → [] ≡ operation_of l
  unfolding operation_of statement_fields no_fields
  remark-operation e = sym (ap (λ f. f.operation) (chosen no_fields (fields_of l) e))

  module _ (e : is_remark l ≡ false) where
    statement-cut : statement_fields l ≡ fields_by l (cuts_of l)
    unfolding statement_fields
    statement-cut = passed_over no_fields (fields_of l) e ∙ fields-cut l

    pub name-cut : (end : ℕ) → end ≡ run_end false l 0 → take (end - 0) (drop 0 l) ≡ (statement_fields l).name
    unfolding fields_by cuts_of
    name-cut end h = ap (λ n. take n l) (sub-zero end ∙ h) ∙ sym (ap (λ f. f.name) statement-cut)

    pub operation-cut : (gap start end : ℕ) → gap ≡ run_end false l 0 → start ≡ run_end true l gap → end ≡ run_end false l start
        → take (end - start) (drop start l) ≡ operation_of l
    unfolding operation_of fields_by cuts_of
    operation-cut gap start end g s h =
        let s₁ = s ∙ ap (run_end true l) g in
        let h₁ = h ∙ ap (run_end false l) s₁ in
        (λ i. take (h₁ i - s₁ i) (drop (s₁ i) l)) ∙ sym (ap (λ f. f.operation) statement-cut)

-- a sequence symbol is the name of a line, or not
module _ (symbol l name : Bytes) (e : name ≡ (statement_fields l).name) where
  pub not_named : is_sequence name ≡ false → false ≡ is_named symbol l
  unfolding is_named
  not_named h = sym (ap (λ n. is_sequence n && same (drop 1 n) symbol) (sym e) ∙ ap (λ b. b && same (drop 1 name) symbol) h)

  pub named-as : is_sequence name ≡ true → same (take (length name - 1) (drop 1 name)) symbol ≡ is_named symbol l
  unfolding is_named
  named-as h = ap (λ s. same s symbol) (behind-first name) ∙ sym (ap (λ n. is_sequence n && same (drop 1 n) symbol) (sym e) ∙ ap (λ b. b && same (drop 1 name) symbol) h)

-- a name that is empty or a sequence symbol
pub empty-or : (n : Bytes) → length n ≡ 0 → true ≡ is_named_or_empty n
unfolding is_named_or_empty is_empty
empty-or [] h = refl
empty-or (c ∷ n) h = absurd (omega (arith, h))

pub named-or : (n : Bytes) → (length n ≡ 0 → ⊥) → is_sequence n ≡ is_named_or_empty n
unfolding is_named_or_empty is_empty
named-or [] h = absurd (h refl)
named-or (c ∷ n) h = refl
