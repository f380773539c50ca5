-- The test of a line's fields, by what it does. Assumes nothing.
use Prim.Native.Nat.{ℕ}
use mathlib.Core.Path.{◌≡◌, refl, sym, ap, ◌∙◌}
use mathlib.Core.Bool.{Bool, true, false, ◌&&◌}
use mathlib.Core.List.{map}
use denote.Enum.Bare.{sameb}
use Rattle.kinds.specs.contracts.Set.{the_type}
use mathlib.Core.Logic.{◌⊎◌, inl, inr}
use Rattle.text.specs.Bytes.{Bytes}
use Rattle.rules.specs.Statement.{set_a, set_b, set_c, Line, Does, passes, ends, exits, text, models, sets, branches_if, branches, counts}
use Rattle.deck.specs.Slots.{Slot}
use Rattle.deck.specs.AsRead.{is_word_field, is_operand, starts_plainly, is_model_operation, is_read_by, is_read_line}
use Rattle.kinds.specs.Kinds.{does_for}
use Rattle.kinds.specs.declared.Set.{Set as Kind}
use Rattle.kinds.specs.declared.Set.TheVariants.{A, B, C}
use Rattle.kinds.specs.declared.Does.{Does as Kept}
use Rattle.kinds.specs.declared.Does.TheVariants.{Passes, Ends, Exits, Text, Models, BranchesIf, Branches, Counts, Sets}
use Rattle.deck_reading.specs.Reading.{slot_lex}

abbrev pub is_b : Kind → Bool
is_b A = false
is_b B = true
is_b C = false

pub same-b : (k : Kind) → sameb the_type k B ≡ is_b k
same-b A = refl
same-b B = refl
same-b C = refl

abbrev read_by : Kept → Line Slot ℕ → Bool
read_by Models l = is_word_field l.name && (starts_plainly l.name && (is_model_operation l.operation && is_operand false l.operand))
read_by BranchesIf l = is_operand true l.operand
read_by (Sets k) l = is_operand (is_b k) l.operand
read_by Counts l = is_operand false l.operand
read_by Passes l = true
read_by Ends l = true
read_by Exits l = true
read_by Text l = true
read_by Branches l = true

read-by : (l : Line Slot ℕ) (d : Does ℕ) → read_by (does_for d) l ≡ is_read_by l d
unfolding is_read_by
read-by l passes = refl
read-by l ends = refl
read-by l exits = refl
read-by l (text s) = refl
read-by l models = refl
read-by l (sets set_a) = refl
read-by l (sets set_b) = refl
read-by l (sets set_c) = refl
read-by l (branches_if t) = refl
read-by l (branches t) = refl
read-by l counts = refl

module _ (d : Kept) (name operation operand : Bytes) where
  -- what the fields given are to the line
  abbrev pub Has : Line Slot ℕ → Bool → Type 0
  Has l r = d ≡ does_for l.does → l.name ≡ map slot_lex name → l.operation ≡ map slot_lex operation → l.operand ≡ map slot_lex operand → r ≡ is_read_line l

  is-read : (k : Kept) → d ≡ k → (l : Line Slot ℕ) → d ≡ does_for l.does → read_by k l ≡ is_read_line l
  unfolding is_read_line
  is-read k is l e = ap (λ (k : Kept). read_by k l) (sym is ∙ e) ∙ read-by l l.does

  pub read-models : d ≡ Models → {w p m a : Bool} → w ≡ is_word_field (map slot_lex name) → p ≡ starts_plainly (map slot_lex name) → m ≡ is_model_operation (map slot_lex operation) → a ≡ is_operand false (map slot_lex operand)
      → (l : Line Slot ℕ) → Has l (w && (p && (m && a)))
  read-models is w p m a l e en eo ea =
      (λ i. (w ∙ ap is_word_field (sym en)) i && ((p ∙ ap starts_plainly (sym en)) i && ((m ∙ ap is_model_operation (sym eo)) i && (a ∙ ap (is_operand false) (sym ea)) i)))
      ∙ is-read Models is l e

  pub read-branch : d ≡ BranchesIf → {a : Bool} → a ≡ is_operand true (map slot_lex operand) → (l : Line Slot ℕ) → Has l a
  read-branch is a l e en eo ea = a ∙ (ap (is_operand true) (sym ea) ∙ is-read BranchesIf is l e)

  pub read-counts : d ≡ Counts → {a : Bool} → a ≡ is_operand false (map slot_lex operand) → (l : Line Slot ℕ) → Has l a
  read-counts is a l e en eo ea = a ∙ (ap (is_operand false) (sym ea) ∙ is-read Counts is l e)

  pub read-sets : {k : Kind} → d ≡ Sets k → {b a : Bool} → b ≡ is_b k → a ≡ is_operand b (map slot_lex operand) → (l : Line Slot ℕ) → Has l a
  read-sets {k} is eb a l e en eo ea = a ∙ ((λ i. is_operand (eb i) (sym ea i)) ∙ is-read (Sets k) is l e)

  pub read_none : (d ≡ Passes) ⊎ ((d ≡ Ends) ⊎ ((d ≡ Exits) ⊎ ((d ≡ Text) ⊎ (d ≡ Branches)))) → (l : Line Slot ℕ) → Has l true
  read_none (inl is) l e en eo ea = is-read Passes is l e
  read_none (inr (inl is)) l e en eo ea = is-read Ends is l e
  read_none (inr (inr (inl is))) l e en eo ea = is-read Exits is l e
  read_none (inr (inr (inr (inl is)))) l e en eo ea = is-read Text is l e
  read_none (inr (inr (inr (inr is)))) l e en eo ea = is-read Branches is l e
