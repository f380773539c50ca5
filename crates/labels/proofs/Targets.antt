-- A symbol used twice, and a branch's target, by cases as code tests them. Assumes nothing.
use Prim.Native.Nat.{ℕ, ◌+◌, ◌-◌, ◌≤◌, ◌<◌}
use native.Mathlib.Omega.{arith}
use mathlib.Core.Path.{◌≡◌, refl, ap, sym, ◌∙◌}
use mathlib.Core.Bool.{Bool, true, false, ◌&&◌, ◌||◌, not}
use mathlib.Core.List.{List, [], ◌∷◌}
use lib.ListN.{length, take, drop}
use borrow.Author.Tests.{lt-ltb, le-ltb}
use Rattle.text.specs.Bytes.{Bytes}
use Rattle.rules.specs.Choice.{any}
use Rattle.rules.specs.Lexemes.{is_long, sequence_start, is_sequence}
use Rattle.rules.specs.Fields.{lines_of, is_empty}
use Rattle.rules.specs.Library.{is_mend, is_named}
use Rattle.rules.specs.Faults.{is_named_up_to_mend, is_used_twice, is_bad_target}
use Rattle.rules.proofs.Choices.{chosen, passed_over, by}
use Rattle.statements.proofs.Symbols.{behind-first, start-part, start-within}
use Rattle.labels.specs.Searches.{up_to, body_end}
use Rattle.labels.proofs.Bodies.{lines-up-to}

-- ---- up to MEND

up-to-mend : (s : Bytes) (ls : List Bytes) → any (is_named s) (up_to is_mend ls) ≡ is_named_up_to_mend s ls
unfolding any up_to is_named_up_to_mend
up-to-mend s [] = refl
up-to-mend s (l ∷ ls) = by (is_mend l)
    (λ e. (λ i. is_named s l || any (is_named s) (chosen [] (up_to is_mend ls) e i)) ∙ sym (λ i. is_named s l || (not (e i) && is_named_up_to_mend s ls)))
    (λ e. (λ i. is_named s l || any (is_named s) (passed_over [] (up_to is_mend ls) e i)) ∙ ((λ i. is_named s l || up-to-mend s ls i)
    ∙ sym (λ i. is_named s l || (not (e i) && is_named_up_to_mend s ls))))

pub named-in-body : (s lines : Bytes) (end : ℕ) → end ≡ body_end lines 0 → any (is_named s) (lines_of (take (end - 0) (drop 0 lines))) ≡ is_named_up_to_mend s (lines_of lines)
unfolding body_end
named-in-body s lines end e =
    ap (λ (n : ℕ). any (is_named s) (lines_of (take (n - 0) (drop 0 lines)))) e ∙ (ap (any (is_named s)) (lines-up-to is_mend lines 0) ∙ up-to-mend s (lines_of lines))

-- ---- used twice

module _ (before : List Bytes) (name : Bytes) where
  pub used-once : is_sequence name ≡ false → false ≡ is_used_twice before name
  unfolding is_used_twice
  used-once h = sym (ap (λ b. b && any (is_named (drop 1 name)) before) h)

  pub used-before : is_sequence name ≡ true → any (is_named (take (length name - 1) (drop 1 name))) before ≡ is_used_twice before name
  unfolding is_used_twice
  used-before h = ap (λ s. any (is_named s) before) (behind-first name) ∙ sym (ap (λ b. b && any (is_named (drop 1 name)) before) h)

-- ---- a target

empty-is : {A : Type 0} (l : List A) → length l ≡ 0 → is_empty l ≡ true
unfolding is_empty
empty-is [] h = refl
empty-is (a ∷ l) h = absurd (omega (arith, h))

filled_is : {A : Type 0} (l : List A) → (length l ≡ 0 → ⊥) → is_empty l ≡ false
unfolding is_empty
filled_is [] h = absurd (h refl)
filled_is (a ∷ l) h = refl

module _ (before from : List Bytes) (target : Bytes) (n : ℕ) (e : n ≡ length (sequence_start target)) where
  abbrev s : Bytes
  s = sequence_start target

  abbrev unnamed : Bool
  unnamed = not (any (is_named s) before || is_named_up_to_mend s from)

  pub no_symbol : n ≡ 0 → false ≡ is_bad_target before from target
  unfolding is_bad_target
  no_symbol h = sym (ap (λ b. not b && (is_long s || unnamed)) (empty-is s (sym e ∙ h)))

  module _ (h : n ≡ 0 → ⊥) where
    some : not (is_empty s) ≡ true
    some = ap not (filled_is s (λ z. h (e ∙ z)))

    -- the symbol stands in the target behind the period
    pub inside : n + 1 ≤ length target
    inside = let w = start-within target in let k : n ≡ 0 → ⊥ = h in omega (arith, w, e, k)

    symbol-is : take (n + 1 - 1) (drop 1 target) ≡ s
    symbol-is = let q : n + 1 - 1 ≡ length s = omega (arith, e) in ap (λ (k : ℕ). take k (drop 1 target)) q ∙ sym (start-part target)

    pub too-long : 7 < n → true ≡ is_bad_target before from target
    unfolding is_bad_target is_long
    too-long l = sym (λ i. some i && (lt-ltb 7 (length s) (omega (arith, l, e)) i || unnamed))

    module _ (l : n ≤ 7) where
      not-long : is_bad_target before from target ≡ unnamed
      unfolding is_bad_target is_long
      not-long = λ i. some i && (le-ltb 7 (length s) (omega (arith, l, e)) i || unnamed)

      pub named-before : any (is_named (take (n + 1 - 1) (drop 1 target))) before ≡ true → false ≡ is_bad_target before from target
      named-before a = sym (not-long ∙ ap (λ b. not (b || is_named_up_to_mend s from)) (ap (λ t. any (is_named t) before) (sym symbol-is) ∙ a))

      pub named-behind : any (is_named (take (n + 1 - 1) (drop 1 target))) before ≡ false
          → not (is_named_up_to_mend (take (n + 1 - 1) (drop 1 target)) from) ≡ is_bad_target before from target
      named-behind a =
          ap (λ t. not (is_named_up_to_mend t from)) symbol-is
          ∙ sym (not-long ∙ ap (λ b. not (b || is_named_up_to_mend s from)) (ap (λ t. any (is_named t) before) (sym symbol-is) ∙ a))
