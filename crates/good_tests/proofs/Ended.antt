-- MEND in one pass: where the count of lines is known, each line tells by its place whether it has to be MEND. Assumes nothing.
use Prim.Native.Nat.{ℕ, suc, ◌+◌}
use native.Mathlib.Omega.{arith}
use mathlib.Core.Path.{◌≡◌, ap, ◌∙◌}
use mathlib.Core.Bool.{Bool, true, ◌&&◌, not, and-true}
use mathlib.Core.List.{List, [], ◌∷◌}
use lib.Dec.{ltb}
use lib.ListN.{length}
use borrow.Author.Tests.{eq-eqb, ne_eqb, lt-ltb, le-ltb}
use Rattle.rules.specs.Statement.{Line}
use Rattle.rules.proofs.Choices.{chosen, passed_over}
use Rattle.deck.specs.Slots.{Slot}
use Rattle.deck.specs.Good.{does_end, ends_once}
use Rattle.good_tests.specs.Walks.{ends_where}

abbrev Lines : Type 0
Lines = List (Line Slot ℕ)

some-line : (l : Line Slot ℕ) (ls : Lines) (b : Bool) → (ltb 0 (length (l ∷ ls)) && b) ≡ b
some-line l ls b = ap (λ (t : Bool). t && b) (lt-ltb 0 (length (l ∷ ls)) (omega arith))

ends-from : (i : ℕ) (l : Line Slot ℕ) (ls : Lines) (count : ℕ) → count ≡ i + length (l ∷ ls) → ends_where i count (l ∷ ls) ≡ ends_once (l ∷ ls)
unfolding ends_where ends_once
ends-from i l [] count e =
    ap (λ (b : Bool). b && true) (chosen (does_end l.does) (not (does_end l.does)) (eq-eqb (suc i) count (omega (arith, e)))) ∙ and-true (does_end l.does)
ends-from i l (k ∷ ls) count e =
    (λ j. passed_over (does_end l.does) (not (does_end l.does)) (ne_eqb (suc i) count (λ z. omega (arith, e, z))) j && ends-from (suc i) k ls count (omega (arith, e)) j)

-- MEND WALKED
pub ends-walked : (ls : Lines) → (ltb 0 (length ls) && ends_where 0 (length ls) ls) ≡ ends_once ls
unfolding ends_once
ends-walked [] = ap (λ (t : Bool). t && ends_where 0 0 []) (le-ltb 0 0 (omega arith))
ends-walked (l ∷ ls) = some-line l ls (ends_where 0 (length (l ∷ ls)) (l ∷ ls)) ∙ ends-from 0 l ls (length (l ∷ ls)) (omega arith)
