-- The first byte of a line; its name and operand by the places that cut them out. Assumes nothing.
use Prim.Native.Nat.{ℕ, ◌-◌}
use native.Mathlib.Nat.{sub-zero}
use mathlib.Core.Path.{◌≡◌, refl, ap, sym, ◌∙◌}
use mathlib.Core.Bool.{Bool, true, false, ◌&&◌, and-true}
use mathlib.Core.List.{[], ◌∷◌}
use lib.Dec.{eqb}
use lib.ListN.{get_or, take, drop}
use borrow.Author.Tests.{eqb-true, eqb-false, eq-eqb, ne_eqb}
use Rattle.text.specs.Bytes.{Bytes}
use Rattle.rules.specs.Fields.{Fields, fields_of, is_copied_remark, starts_with, holds_spaces}
use Rattle.rules.proofs.Choices.{by}
use Rattle.fields.specs.declared.Cuts.{Cuts as Places}
use Rattle.fields.specs.Cuts.{run_end, operand_end_at, cuts_of, fields_by}
use Rattle.fields.proofs.Cut.{cuts_are, fields-cut}

swapped : (a b : ℕ) → eqb a b ≡ eqb b a
swapped a b = by (eqb a b) (λ e. e ∙ sym (eq-eqb b a (sym (eqb-true a b e)))) (λ e. e ∙ sym (ne_eqb b a (λ d. eqb-false a b e (sym d))))

pub copied_is : (l : Bytes) → eqb (get_or l 0 0) 42 ≡ is_copied_remark l
unfolding is_copied_remark starts_with
copied_is [] = refl
copied_is (a ∷ l) = swapped a 42 ∙ sym (and-true (eqb 42 a))

pub name-is : (l : Bytes) (end : ℕ) → end ≡ run_end false l 0 → take (end - 0) (drop 0 l) ≡ (fields_of l).name
unfolding fields_by cuts_of
name-is l end h = ap (λ n. take n l) (sub-zero end ∙ h) ∙ sym (ap (λ (f : Fields). f.name) (fields-cut l))

pub operand-is : (l : Bytes) (g o s a r : ℕ) (h : Bool) → g ≡ run_end false l 0 → o ≡ run_end true l g → s ≡ run_end false l o → a ≡ run_end true l s
    → h ≡ holds_spaces (take (s - o) (drop o l)) → r ≡ operand_end_at h l a → take (r - a) (drop a l) ≡ (fields_of l).operand
unfolding fields_by
operand-is l g o s a r h eg eo es ea eh er =
    ap (λ (c : Places). take (c.remarks - c.operand) (drop c.operand l)) (cuts_are l g o s a r h eg eo es ea eh er) ∙ sym (ap (λ (f : Fields). f.operand) (fields-cut l))
