-- Where the places of a case lie: behind each other, and all in the input. Assumes nothing.
use Prim.Native.Nat.{ℕ, ◌+◌, ◌-◌, ◌≤◌, ◌<◌}
use native.Mathlib.Omega.{arith}
use mathlib.Core.Path.{◌≡◌, sym, subst}
use lib.Dec.{eqb, leb, ltb}
use lib.ListN.{length, take, drop, get_or}
use borrow.Author.Tests.{eqb-true, eqb-false, leb-true}
use Rattle.text.specs.Bytes.{Bytes, bytes, same}
use Rattle.rules.specs.Choice.{run}
use Rattle.rules.proofs.Choices.{either}
use Rattle.std.specs.Prelude.{Option, Some, None}
use Rattle.batch.specs.declared.Pair.{Pair}
use Rattle.batch.specs.declared.Case.{Case}
use Rattle.batch.specs.declared.Case.TheVariants.{Found, End, Broken}
use Rattle.rules.specs.Lexemes.{space}
use Rattle.rules.specs.Fields.{newline}
use Rattle.batch.specs.Format.{is_printable, id_end, pair_at, laid_out, with_rooms, with_sizes, headed, case_at}
use Rattle.batch.proofs.Numbers.{read-inside}
use Rattle.batch.proofs.Cases.{AheadBoth, pair-ahead}

abbrev pub Inside : Bytes → ℕ → Case → Type 0
Inside input at (Found id blank library program stop next output workspace) =
    (at < id) × (id < blank) × (blank < library) × (library ≤ program) × (program ≤ stop) × (stop < next) × (next ≤ length input)
Inside input at End = length input ≤ at
Inside input at Broken = Unit

module _ (input : Bytes) (at id blank : ℕ) (ahead : at < id) (some : id < blank) where
  laid-inside : (start library program output workspace : ℕ) → blank < start → start ≤ length input → Inside input at (laid_out input id blank start library program output workspace)
  unfolding laid_out
  laid-inside start library program output workspace h l =
      either (Inside input at) (ltb (length input - start) library) (λ e. tt)
      (λ e.
      either (Inside input at) (ltb (length input - (start + library)) program) (λ e. tt)
      (λ e.
      either (Inside input at) (eqb (get_or input (start + library + program) 0) newline)
      (λ e.
      let there = read-inside input (start + library + program) (sym (eqb-true _ newline e)) (omega arith) in
      (ahead, some, h, omega arith, omega arith, omega arith, omega (arith, there)))
      (λ e. tt)))

  rooms-inside : (library program next : ℕ) → blank < next → (p : Option Pair) → AheadBoth input next p → Inside input at (with_rooms input id blank library program p)
  unfolding with_rooms
  rooms-inside library program next h (Some r) a = laid-inside r.next library program r.first r.second (omega (arith, h, a.0)) a.1
  rooms-inside library program next h None a = tt

  sizes-inside : (p : Option Pair) → AheadBoth input (blank + 1) p → Inside input at (with_sizes input id blank p)
  unfolding with_sizes
  sizes-inside (Some r) a = rooms-inside r.first r.second r.next (omega (arith, a.0)) (pair_at newline input r.next) (pair-ahead newline input r.next (omega arith))
  sizes-inside None a = tt

  headed-inside : Inside input at (headed input id blank)
  unfolding headed
  headed-inside = sizes-inside (pair_at space input (blank + 1)) (pair-ahead space input (blank + 1) (omega arith))

pub case-inside : (input : Bytes) (at : ℕ) → Inside input at (case_at input at)
unfolding case_at id_end
case-inside input at =
    let id = at + 5 in
    let blank = at + 5 + run is_printable (drop (at + 5) input) in
    either (Inside input at) (leb (length input) at) (λ e. leb-true _ _ e)
    (λ e.
    either (Inside input at) (same (take 5 (drop at input)) (bytes "CASE "))
    (λ e.
    either (Inside input at) (eqb blank id) (λ e. tt)
    (λ d.
    let far = eqb-false blank id d in
    either (Inside input at) (eqb (get_or input blank 0) space) (λ e. headed-inside input at id blank (omega arith) (omega (arith, far))) (λ e. tt)))
    (λ e. tt))

-- what a loop over the cases has of one that it found
pub found_inside : (input : Bytes) (at : ℕ) {r : Case} → r ≡ case_at input at → Inside input at r
found_inside input at e = subst (Inside input at) (sym e) (case-inside input at)
