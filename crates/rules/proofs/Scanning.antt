-- Scans by place: what one more element decides. These are the steps of every loop that scans. Assumes nothing.
use Prim.Native.Nat.{ℕ, suc, ◌+◌, ◌≤◌, ◌<◌}
use native.Mathlib.Numerals.{add-one}
use native.Mathlib.Omega.{arith}
use mathlib.Core.Path.{◌≡◌}
use mathlib.Core.Bool.{Bool, true, false}
use mathlib.Core.List.{List, [], ◌∷◌}
use lib.ListN.{length, get_or, drop, drop_of_length-le}
use lib.Seq.{drop-cons}
use Rattle.rules.specs.Choice.{run}
use Rattle.rules.proofs.Choices.{chosen, passed_over, by}

module _ {A : Type 0} (test : A → Bool) (l : List A) (i : ℕ) where
  pub run-end : length l ≤ i → i + run test (drop i l) ≡ i
  unfolding run
  run-end h = rw (drop_of_length-le l h) (omega arith)

  pub run-stop : (d : A) → i < length l → test (get_or l i d) ≡ false → i + run test (drop i l) ≡ i
  unfolding run
  run-stop d h e = rw (drop-cons l i d, passed_over (suc (run test (drop (suc i) l))) 0 e) (omega arith)

  pub run_on : (d : A) → i < length l → test (get_or l i d) ≡ true → i + run test (drop i l) ≡ i + 1 + run test (drop (i + 1) l)
  unfolding run
  run_on d h e = rw (drop-cons l i d, chosen (suc (run test (drop (suc i) l))) 0 e, add-one) (omega arith)

pub run-within : {A : Type 0} (test : A → Bool) (l : List A) → run test l ≤ length l
unfolding run
run-within test [] = omega arith
run-within test (a ∷ l) = by (test a)
    (λ e. rw (chosen (suc (run test l)) 0 e) (let h = run-within test l in omega arith))
    (λ e. rw (passed_over (suc (run test l)) 0 e) (omega arith))
