-- The number of a line's fault, and what it makes of the verdict; the limit of lines. Assumes nothing.
use Prim.Native.Nat.{ℕ, zero, suc, ◌≤◌, ◌<◌}
use native.Mathlib.Omega.{arith}
use mathlib.Core.Path.{◌≡◌, refl, ap, sym, ◌∙◌}
use mathlib.Core.Bool.{Bool, true, false, ◌||◌}
use mathlib.Core.Option.{Option, none, some}
use mathlib.Core.List.{List, ◌∷◌}
use lib.Dec.{leb}
use borrow.Author.Tests.{le-leb, lt-leb}
use Rattle.text.specs.Bytes.{Bytes}
use Rattle.rules.specs.Choice.{choose}
use Rattle.rules.specs.Limits.{library_limit, bad_byte, out_of_place, bad_name, ill_formed, over_limit}
use Rattle.rules.specs.Fields.{is_ill_written}
use Rattle.rules.specs.Faults.{Around, is_out_of_place, has_bad_name, is_ill_formed, is_past, is_over_limit, fault_of, around_after, faulty, verdict_from}
use Rattle.rules.proofs.Accepted.{Faultless}
use Rattle.prototypes.specs.Lowest.{lowest}
use Rattle.walking.specs.Verdicts.{fault_number, own_number}

-- ---- five tests

-- no fault where the number is 0
as_fault : ℕ → Option ℕ
as_fault zero = none
as_fault (suc n) = some (suc n)

fault-is : (one two three four five : Bool)
    → choose one (some bad_byte) (choose two (some out_of_place) (choose three (some bad_name) (choose four (some ill_formed) (choose five (some over_limit) none))))
    ≡ as_fault (lowest one two three four five)
unfolding choose lowest as_fault
fault-is true two three four five = refl
fault-is false true three four five = refl
fault-is false false true four five = refl
fault-is false false false true five = refl
fault-is false false false false true = refl
fault-is false false false false false = refl

-- none of the tests holds
None : Bool → Bool → Bool → Bool → Bool → Type 0
None one two three four five = (one ≡ false) × ((two ≡ false) × ((three ≡ false) × ((four ≡ false) × (five ≡ false))))

none-holds : (one two three four five : Bool) → lowest one two three four five ≡ 0 → None one two three four five
unfolding lowest choose None
none-holds true two three four five h = absurd (omega (arith, h))
none-holds false true three four five h = absurd (omega (arith, h))
none-holds false false true four five h = absurd (omega (arith, h))
none-holds false false false true five h = absurd (omega (arith, h))
none-holds false false false false true h = absurd (omega (arith, h))
none-holds false false false false false h = (refl, (refl, (refl, (refl, refl))))

-- a fifth test more
over : (one two three four past : Bool) → lowest one two three four past ≡ 0 → lowest one two three four (true || past) ≡ over_limit
unfolding lowest choose
over true two three four five h = absurd (omega (arith, h))
over false true three four five h = absurd (omega (arith, h))
over false false true four five h = absurd (omega (arith, h))
over false false false true five h = absurd (omega (arith, h))
over false false false false five h = refl

as_before : (one two three four past more : Bool) → (lowest one two three four past ≡ 0 → ⊥) → lowest one two three four (more || past) ≡ lowest one two three four past
unfolding lowest choose
as_before true two three four past more h = refl
as_before false true three four past more h = refl
as_before false false true four past more h = refl
as_before false false false true past more h = refl
as_before false false false false true true h = refl
as_before false false false false true false h = refl
as_before false false false false false more h = absurd (h refl)

-- ---- a line

module _ (a : Around) (l : Bytes) (ls : List Bytes) where
  fault-told : fault_of a l ls ≡ as_fault (fault_number a l ls)
  unfolding fault_of fault_number
  fault-told = fault-is (is_ill_written l) (is_out_of_place a.place l) (has_bad_name a l ls a.place) (is_ill_formed l a.place) (is_over_limit a l)

  -- it has a fault: that is the answer
  pub verdict-faulty : (n : ℕ) → n ≡ fault_number a l ls → (n ≡ 0 → ⊥) → verdict_from a (l ∷ ls) ≡ faulty n (suc a.lines)
  unfolding verdict_from as_fault
  verdict-faulty zero e h = absurd (h refl)
  verdict-faulty (suc n) e h =
      ap (λ (o : Option ℕ). elim o [ none ↦ verdict_from (around_after l a) ls | some e ↦ faulty e (suc a.lines) ]) (fault-told ∙ ap as_fault (sym e))

  module _ (h : fault_number a l ls ≡ 0) where
    -- it has none: the lines behind it decide
    pub verdict-on : verdict_from a (l ∷ ls) ≡ verdict_from (around_after l a) ls
    unfolding verdict_from as_fault
    verdict-on = ap (λ (o : Option ℕ). elim o [ none ↦ verdict_from (around_after l a) ls | some e ↦ faulty e (suc a.lines) ]) (fault-told ∙ ap as_fault h)

    pub faultless : Faultless a l ls
    unfolding fault_number None
    faultless =
        let n = none-holds (is_ill_written l) (is_out_of_place a.place l) (has_bad_name a l ls a.place) (is_ill_formed l a.place) (is_over_limit a l) h in
        record { written = n.0; placed = n.1.0; named = n.1.1.0; formed = n.1.1.1.0; within = n.1.1.1.1 }

  -- the limit of lines
  pub over-limit : own_number a l ls ≡ 0 → library_limit ≤ a.lines → fault_number a l ls ≡ over_limit
  unfolding fault_number own_number is_over_limit
  over-limit z h =
      ap (λ (b : Bool). lowest (is_ill_written l) (is_out_of_place a.place l) (has_bad_name a l ls a.place) (is_ill_formed l a.place) (b || is_past a l a.place)) (le-leb library_limit a.lines h)
      ∙ over _ _ _ _ (is_past a l a.place) z

  pub other-fault : (own_number a l ls ≡ 0 → ⊥) → fault_number a l ls ≡ own_number a l ls
  unfolding fault_number own_number is_over_limit
  other-fault z = as_before _ _ _ _ (is_past a l a.place) (leb library_limit a.lines) z

  pub within-limit : a.lines < library_limit → fault_number a l ls ≡ own_number a l ls
  unfolding fault_number own_number is_over_limit
  within-limit h =
      ap (λ (b : Bool). lowest (is_ill_written l) (is_out_of_place a.place l) (has_bad_name a l ls a.place) (is_ill_formed l a.place) (b || is_past a l a.place)) (lt-leb library_limit a.lines h)
