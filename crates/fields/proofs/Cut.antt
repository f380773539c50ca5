-- The places found one after another are `cuts_of`, and what they cut out are 01's fields. Assumes nothing.
use Prim.Native.Nat.{ℕ, ◌-◌}
use native.Mathlib.Nat.{zero-add, add-sub_cancel_left}
use mathlib.Core.Path.{◌≡◌, refl, ap, ◌∙◌}
use mathlib.Core.Bool.{Bool, true, false}
use lib.ListN.{take, drop}
use lib.Seq.{drop-drop}
use Rattle.text.specs.Bytes.{Bytes}
use Rattle.rules.specs.Choice.{choose}
use Rattle.rules.specs.Fields.{fields_of, holds_spaces}
use Rattle.fields.specs.declared.Cuts.{Cuts as Places}
use Rattle.fields.specs.Cuts.{in_run, run_end, operand_end_at, cuts_of, fields_by}

pub cuts_are : (l : Bytes) (g o s a r : ℕ) (h : Bool) → g ≡ run_end false l 0 → o ≡ run_end true l g → s ≡ run_end false l o → a ≡ run_end true l s
    → h ≡ holds_spaces (take (s - o) (drop o l)) → r ≡ operand_end_at h l a
    → ◌≡◌ {A = Places} (record { gap = g; operation = o; space = s; operand = a; remarks = r }) (cuts_of l)
unfolding cuts_of
cuts_are l g o s a r h eg eo es ea eh er =
    let o₁ = eo ∙ ap (run_end true l) eg in
    let s₁ = es ∙ ap (run_end false l) o₁ in
    let a₁ = ea ∙ ap (run_end true l) s₁ in
    let h₁ = eh ∙ (λ i. holds_spaces (take (s₁ i - o₁ i) (drop (o₁ i) l))) in
    let r₁ = er ∙ (λ i. operand_end_at (h₁ i) l (a₁ i)) in
    λ i. record { gap = eg i; operation = o₁ i; space = s₁ i; operand = a₁ i; remarks = r₁ i }

pub fields-cut : (l : Bytes) → fields_of l ≡ fields_by l (cuts_of l)
unfolding fields_of fields_by cuts_of run_end operand_end_at in_run choose
fields-cut l = simp (zero-add, drop-drop, add-sub_cancel_left) refl
