-- What a line does: in order, before ACTR, ACTR, a macro's end. Assumes nothing.
use Prim.Native.Nat.{ℕ}
use mathlib.Core.Path.{◌≡◌, refl, sym, ap, ◌∙◌}
use mathlib.Core.Bool.{Bool, true, false}
use mathlib.Core.Logic.{◌⊎◌, inl, inr}
use Rattle.text.specs.Bytes.{Bytes}
use Rattle.rules.specs.Fields.{is_copied_remark}
use Rattle.rules.specs.Statement.{Does, passes, ends, exits, text, models, sets, branches_if, branches, counts}
use Rattle.deck.specs.Good.{is_text, is_target, is_in_order, does_end, does_count, may_precede}
use Rattle.kinds.specs.Kinds.{does_for}
use Rattle.kinds.specs.declared.Set.{Set as Kind}
use Rattle.kinds.specs.declared.Does.{Does as Kept}
use Rattle.kinds.specs.declared.Does.TheVariants.{Passes, Ends, Exits, Text, Models, BranchesIf, Branches, Counts, Sets}
use Rattle.good_tests.specs.Carried.{Carries}

-- ---- in order

module _ (s : Bytes) (t actr count : ℕ) where
  order_by : Kept → Bool
  order_by Text = is_text s
  order_by BranchesIf = is_target actr count t
  order_by Branches = is_target actr count t
  order_by Passes = true
  order_by Ends = true
  order_by Exits = true
  order_by Models = true
  order_by Counts = true
  order_by (Sets k) = true

  order-by : (d : Does ℕ) → Carries s t d → order_by (does_for d) ≡ is_in_order actr count d
  unfolding order_by is_in_order
  order-by passes h = refl
  order-by ends h = refl
  order-by exits h = refl
  order-by (text l) h = ap is_text (sym h)
  order-by models h = refl
  order-by (sets k) h = refl
  order-by (branches_if n) h = ap (is_target actr count) (sym h)
  order-by (branches n) h = ap (is_target actr count) (sym h)
  order-by counts h = refl

  module _ (k : Kept) where
    abbrev pub InOrder : Bool → Type 0
    InOrder r = (d : Does ℕ) → k ≡ does_for d → Carries s t d → r ≡ is_in_order actr count d

    told : (w : Kept) → k ≡ w → {r : Bool} → r ≡ order_by w → InOrder r
    told w is e d i c = e ∙ (ap order_by (sym is ∙ i) ∙ order-by d c)

    pub text-order : k ≡ Text → {r : Bool} → r ≡ is_text s → InOrder r
    unfolding order_by
    text-order is e = told Text is e

    pub target-order : (k ≡ BranchesIf) ⊎ (k ≡ Branches) → {r : Bool} → r ≡ is_target actr count t → InOrder r
    unfolding order_by
    target-order (inl is) e = told BranchesIf is e
    target-order (inr is) e = told Branches is e

    pub other-order : (k ≡ Passes) ⊎ ((k ≡ Ends) ⊎ ((k ≡ Exits) ⊎ ((k ≡ Models) ⊎ ((k ≡ Counts) ⊎ ((x : Kind) × (k ≡ Sets x)))))) → InOrder true
    unfolding order_by
    other-order (inl is) = told Passes is refl
    other-order (inr (inl is)) = told Ends is refl
    other-order (inr (inr (inl is))) = told Exits is refl
    other-order (inr (inr (inr (inl is)))) = told Models is refl
    other-order (inr (inr (inr (inr (inl is))))) = told Counts is refl
    other-order (inr (inr (inr (inr (inr (x, is)))))) = told (Sets x) is refl

-- ---- before ACTR

module _ (s : Bytes) where
  precedes_by : Kept → Bool
  precedes_by Passes = true
  precedes_by Text = is_copied_remark s
  precedes_by Ends = false
  precedes_by Exits = false
  precedes_by Models = false
  precedes_by BranchesIf = false
  precedes_by Branches = false
  precedes_by Counts = false
  precedes_by (Sets k) = false

  precedes-by : (t : ℕ) (d : Does ℕ) → Carries s t d → precedes_by (does_for d) ≡ may_precede d
  unfolding precedes_by may_precede
  precedes-by t passes h = refl
  precedes-by t ends h = refl
  precedes-by t exits h = refl
  precedes-by t (text l) h = ap is_copied_remark (sym h)
  precedes-by t models h = refl
  precedes-by t (sets k) h = refl
  precedes-by t (branches_if n) h = refl
  precedes-by t (branches n) h = refl
  precedes-by t counts h = refl

  module _ (k : Kept) where
    abbrev pub Precedes : Bool → Type 0
    Precedes r = (d : Does ℕ) (t : ℕ) → k ≡ does_for d → Carries s t d → r ≡ may_precede d

    leads : (w : Kept) → k ≡ w → {r : Bool} → r ≡ precedes_by w → Precedes r
    leads w is e d t i c = e ∙ (ap precedes_by (sym is ∙ i) ∙ precedes-by t d c)

    pub passes-leads : k ≡ Passes → Precedes true
    unfolding precedes_by
    passes-leads is = leads Passes is refl

    pub text-leads : k ≡ Text → {r : Bool} → r ≡ is_copied_remark s → Precedes r
    unfolding precedes_by
    text-leads is e = leads Text is e

    pub other-leads : (k ≡ Ends) ⊎ ((k ≡ Exits) ⊎ ((k ≡ Models) ⊎ ((k ≡ BranchesIf) ⊎ ((k ≡ Branches) ⊎ ((k ≡ Counts) ⊎ ((x : Kind) × (k ≡ Sets x))))))) → Precedes false
    unfolding precedes_by
    other-leads (inl is) = leads Ends is refl
    other-leads (inr (inl is)) = leads Exits is refl
    other-leads (inr (inr (inl is))) = leads Models is refl
    other-leads (inr (inr (inr (inl is)))) = leads BranchesIf is refl
    other-leads (inr (inr (inr (inr (inl is))))) = leads Branches is refl
    other-leads (inr (inr (inr (inr (inr (inl is)))))) = leads Counts is refl
    other-leads (inr (inr (inr (inr (inr (inr (x, is))))))) = leads (Sets x) is refl

-- ---- ACTR, and a macro's end

abbrev ends_by : Kept → Bool
ends_by Passes = false
ends_by Ends = true
ends_by Exits = false
ends_by Text = false
ends_by Models = false
ends_by BranchesIf = false
ends_by Branches = false
ends_by Counts = false
ends_by (Sets k) = false

ends-by : (d : Does ℕ) → ends_by (does_for d) ≡ does_end d
unfolding does_end
ends-by passes = refl
ends-by ends = refl
ends-by exits = refl
ends-by (text l) = refl
ends-by models = refl
ends-by (sets k) = refl
ends-by (branches_if t) = refl
ends-by (branches t) = refl
ends-by counts = refl

abbrev counts_by : Kept → Bool
counts_by Passes = false
counts_by Ends = false
counts_by Exits = false
counts_by Text = false
counts_by Models = false
counts_by BranchesIf = false
counts_by Branches = false
counts_by Counts = true
counts_by (Sets k) = false

counts-by : (d : Does ℕ) → counts_by (does_for d) ≡ does_count d
unfolding does_count
counts-by passes = refl
counts-by ends = refl
counts-by exits = refl
counts-by (text l) = refl
counts-by models = refl
counts-by (sets k) = refl
counts-by (branches_if t) = refl
counts-by (branches t) = refl
counts-by counts = refl

-- each by what the code tells
pub ends-told : {k : Kept} → k ≡ Ends → (d : Does ℕ) → k ≡ does_for d → true ≡ does_end d
ends-told is d e = ap ends_by (sym is ∙ e) ∙ ends-by d

pub ends-not : {k : Kept} → (k ≡ Ends → ⊥) → (d : Does ℕ) → k ≡ does_for d → false ≡ does_end d
unfolding does_end
ends-not n passes e = refl
ends-not n ends e = absurd (n e)
ends-not n exits e = refl
ends-not n (text l) e = refl
ends-not n models e = refl
ends-not n (sets k) e = refl
ends-not n (branches_if t) e = refl
ends-not n (branches t) e = refl
ends-not n counts e = refl

pub counts-told : {k : Kept} → k ≡ Counts → (d : Does ℕ) → k ≡ does_for d → true ≡ does_count d
counts-told is d e = ap counts_by (sym is ∙ e) ∙ counts-by d

pub counts-not : {k : Kept} → (k ≡ Counts → ⊥) → (d : Does ℕ) → k ≡ does_for d → false ≡ does_count d
unfolding does_count
counts-not n passes e = refl
counts-not n ends e = refl
counts-not n exits e = refl
counts-not n (text l) e = refl
counts-not n models e = refl
counts-not n (sets k) e = refl
counts-not n (branches_if t) e = refl
counts-not n (branches t) e = refl
counts-not n counts e = absurd (n e)
