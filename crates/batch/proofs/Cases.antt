-- What stands at a place of a batch: one law for each return of the functions that read it, and that two numbers end in the input. Assumes nothing.
use Prim.Native.Nat.{ℕ, ◌+◌, ◌-◌, ◌≤◌, ◌<◌}
use native.Mathlib.Omega.{arith}
use mathlib.Core.Path.{◌≡◌, ap, sym, ◌∙◌}
use mathlib.Core.Bool.{Bool, true, false}
use lib.Dec.{eqb}
use lib.ListN.{length, take, drop, get_or, length-drop, length-take}
use borrow.Author.Tests.{eq-eqb, ne_eqb, lt-ltb, le-ltb, le-leb, lt-leb}
use Rattle.text.specs.Bytes.{Bytes, bytes, same}
use Rattle.text.proofs.Same.{shorter}
use Rattle.rules.specs.Choice.{choose}
use Rattle.rules.proofs.Choices.{chosen, passed_over}
use Rattle.batch.specs.declared.Number.{Number}
use Rattle.std.specs.Prelude.{Option, Some, None}
use Rattle.batch.specs.declared.Pair.{Pair}
use Rattle.batch.specs.declared.Case.{Case}
use Rattle.batch.specs.declared.Case.TheVariants.{Found, End, Broken}
use Rattle.rules.specs.Lexemes.{space}
use Rattle.rules.specs.Fields.{newline}
use Rattle.batch.specs.Format.{id_end, number_at, second_to, then_second, pair_at, laid_out, with_rooms, with_sizes, headed, case_at}
use Rattle.batch.proofs.Numbers.{Ahead, number-ahead}

-- ---- two numbers

module _ (stop : ℕ) (input : Bytes) (at : ℕ) where
  pub pair-both : {first second middle next : ℕ} → number_at space input at ≡ Some (record { value = first; next = middle }) → number_at stop input middle ≡ Some (record { value = second; next = next }) → pair_at stop input at ≡ Some (record { first = first; second = second; next = next })
  unfolding pair_at then_second second_to
  pair-both {first = a} e f = ap (then_second stop input) e ∙ ap (second_to a) f

  pub pair_one : {first middle : ℕ} → number_at space input at ≡ Some (record { value = first; next = middle }) → number_at stop input middle ≡ None → pair_at stop input at ≡ None
  unfolding pair_at then_second second_to
  pair_one {first = a} e f = ap (then_second stop input) e ∙ ap (second_to a) f

  pub pair-none : number_at space input at ≡ None → pair_at stop input at ≡ None
  unfolding pair_at then_second
  pair-none e = ap (then_second stop input) e

-- two numbers end in the input
abbrev pub AheadBoth : Bytes → ℕ → Option Pair → Type 0
AheadBoth input at (Some r) = (at < r.next) × (r.next ≤ length input)
AheadBoth input at None = Unit

second-ahead : (input : Bytes) (at first middle : ℕ) → at < middle → (m : Option Number) → Ahead input middle m → AheadBoth input at (second_to first m)
unfolding second_to
second-ahead input at first middle h (Some p) a = (omega (arith, h, a.0), a.1)
second-ahead input at first middle h None a = tt

then-ahead : (stop : ℕ) (input : Bytes) (at : ℕ) → 0 < stop → (m : Option Number) → Ahead input at m → AheadBoth input at (then_second stop input m)
unfolding then_second
then-ahead stop input at p (Some n) a = second-ahead input at n.value n.next (omega (arith, a.0)) (number_at stop input n.next) (number-ahead stop input n.next p)
then-ahead stop input at p None a = tt

pub pair-ahead : (stop : ℕ) (input : Bytes) (at : ℕ) → 0 < stop → AheadBoth input at (pair_at stop input at)
unfolding pair_at
pair-ahead stop input at p = then-ahead stop input at p (number_at space input at) (number-ahead space input at (omega arith))

-- ---- the files

module _ (input : Bytes) (id blank start library program output workspace : ℕ) where
  abbrev laid : Case
  laid = laid_out input id blank start library program output workspace

  pub laid-short : length input - start < library → laid ≡ Broken
  unfolding laid_out
  laid-short h = chosen _ _ (lt-ltb _ _ h)

  module _ (has : library ≤ length input - start) where
    pub laid-short-program : length input - (start + library) < program → laid ≡ Broken
    unfolding laid_out
    laid-short-program h = passed_over _ _ (le-ltb _ _ has) ∙ chosen _ _ (lt-ltb _ _ h)

    module _ (too : program ≤ length input - (start + library)) where
      abbrev stop : ℕ
      stop = start + library + program

      pub laid-unended : (get_or input stop 0 ≡ newline → ⊥) → laid ≡ Broken
      unfolding laid_out
      laid-unended d = passed_over _ _ (le-ltb _ _ has) ∙ (passed_over _ _ (le-ltb _ _ too) ∙ passed_over _ _ (ne_eqb _ _ d))

      pub laid-found : get_or input stop 0 ≡ newline → laid ≡ Found id blank start (start + library) stop (stop + 1) output workspace
      unfolding laid_out
      laid-found e = passed_over _ _ (le-ltb _ _ has) ∙ (passed_over _ _ (le-ltb _ _ too) ∙ chosen _ _ (eq-eqb _ _ e))

-- ---- the numbers of the first line

module _ (input : Bytes) (id blank : ℕ) where
  pub headed-laid : {library program next output workspace start : ℕ} → pair_at space input (blank + 1) ≡ Some (record { first = library; second = program; next = next }) → pair_at newline input next ≡ Some (record { first = output; second = workspace; next = start }) → headed input id blank ≡ laid_out input id blank start library program output workspace
  unfolding headed with_sizes with_rooms
  headed-laid {library = l} {program = p} e f = ap (with_sizes input id blank) e ∙ ap (with_rooms input id blank l p) f

  pub headed-no-rooms : {library program next : ℕ} → pair_at space input (blank + 1) ≡ Some (record { first = library; second = program; next = next }) → pair_at newline input next ≡ None → headed input id blank ≡ Broken
  unfolding headed with_sizes with_rooms
  headed-no-rooms {library = l} {program = p} e f = ap (with_sizes input id blank) e ∙ ap (with_rooms input id blank l p) f

  pub headed-no-sizes : pair_at space input (blank + 1) ≡ None → headed input id blank ≡ Broken
  unfolding headed with_sizes
  headed-no-sizes e = ap (with_sizes input id blank) e

-- ---- the case

module _ (input : Bytes) (at : ℕ) where
  pub at-end : length input ≤ at → case_at input at ≡ End
  unfolding case_at
  at-end h = chosen _ _ (le-leb _ _ h)

  module _ (in-input : at < length input) where
    pub other_word : same (take 5 (drop at input)) (bytes "CASE ") ≡ false → case_at input at ≡ Broken
    unfolding case_at
    other_word e = passed_over _ _ (lt-leb _ _ in-input) ∙ passed_over _ _ e

    pub short-word : length input - at < 5 → case_at input at ≡ Broken
    short-word h = other_word (shorter (take 5 (drop at input)) (bytes "CASE ") (rw (length-take, length-drop) (omega (arith, h))))

    module _ (word : same (take 5 (drop at input)) (bytes "CASE ") ≡ true) {blank : ℕ} (there : blank ≡ id_end input (at + 5)) where
      named : case_at input at ≡ choose (eqb blank (at + 5)) Broken (choose (eqb (get_or input blank 0) space) (headed input (at + 5) blank) Broken)
      unfolding case_at
      named =
          passed_over _ _ (lt-leb _ _ in-input) ∙ (chosen _ _ word ∙ ap (λ (b : ℕ). choose (eqb b (at + 5)) Broken (choose (eqb (get_or input b 0) space) (headed input (at + 5) b) Broken)) (sym there))

      pub no-id : blank ≡ at + 5 → case_at input at ≡ Broken
      no-id e = named ∙ chosen _ _ (eq-eqb _ _ e)

      pub no-space : (blank ≡ at + 5 → ⊥) → (get_or input blank 0 ≡ space → ⊥) → case_at input at ≡ Broken
      no-space d s = named ∙ (passed_over _ _ (ne_eqb _ _ d) ∙ passed_over _ _ (ne_eqb _ _ s))

      pub has-head : (blank ≡ at + 5 → ⊥) → get_or input blank 0 ≡ space → case_at input at ≡ headed input (at + 5) blank
      has-head d s = named ∙ (passed_over _ _ (ne_eqb _ _ d) ∙ chosen _ _ (eq-eqb _ _ s))

-- what the code compares
pub word_read : (input : Bytes) (at : ℕ) {r : Bool} → r ≡ same (take (at + 5 - at) (drop at input)) (bytes "CASE ") → same (take 5 (drop at input)) (bytes "CASE ") ≡ r
word_read input at e =
    let five : at + 5 - at ≡ 5 = omega arith in
    sym (e ∙ ap (λ (k : ℕ). same (take k (drop at input)) (bytes "CASE ")) five)
