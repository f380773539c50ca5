-- A line's bytes by cases, as the code tests them; and a byte written before the others. Assumes nothing.
use Prim.Native.Nat.{ℕ, suc, ◌+◌, ◌-◌, ◌≤◌}
use native.Mathlib.Omega.{arith}
use mathlib.Core.Path.{◌≡◌, refl, ap, sym, ◌∙◌}
use mathlib.Core.List.{[], ◌∷◌, ◌++◌}
use mathlib.Core.Logic.{◌⊎◌, inl, inr}
use lib.ListN.{length, take, drop, set, length-take, length-drop}
use borrow.Author.Tests.{le-ltb, ne_eqb}
use Rattle.text.specs.Bytes.{Bytes}
use Rattle.rules.proofs.Choices.{passed_over}
use Rattle.kinds.specs.declared.Does.{Does}
use Rattle.kinds.specs.declared.Does.TheVariants.{Passes, Ends, Exits}
use Rattle.lent.specs.Splice.{splice}
use Rattle.lent.proofs.Writes.{splice-cons}
use Rattle.shapes.specs.Shapes.{part}
use Rattle.writing.specs.Bytes.{counted, does_code, behind_first, line_bytes, line_bytes_by}

-- parts are no longer than the whole
pub front-short : (k : ℕ) (s : Bytes) → length (take k s) ≤ length s
front-short k s = omega (arith, length-take k s)

pub part-short : (s : Bytes) (from to : ℕ) → length (part s from to) ≤ length s
unfolding part
part-short s from to = omega (arith, length-take (to - from) (drop from s), length-drop from s)

-- what stands behind the first byte of lines that do the same
pub behind : {d e : Does} (line : Bytes) (target : ℕ) (name operation operand : Bytes) → d ≡ e → behind_first d line target name operation operand ≡ behind_first e line target name operation operand
behind line target name operation operand is = ap (λ d. behind_first d line target name operation operand) is

-- a line's bytes are its first, and those behind it
pub headed : (d : Does) (line : Bytes) (target : ℕ) (name operation operand : Bytes) → line_bytes d line target name operation operand ≡ does_code d ∷ behind_first d line target name operation operand
unfolding line_bytes
headed d line target name operation operand = refl

-- nothing, where it says no more than what it does
pub bare : {d : Does} (line : Bytes) (target : ℕ) (name operation operand : Bytes) → (d ≡ Passes) ⊎ ((d ≡ Ends) ⊎ (d ≡ Exits)) → behind_first d line target name operation operand ≡ []
unfolding behind_first
bare line target name operation operand (inl is) = behind line target name operation operand is
bare line target name operation operand (inr (inl is)) = behind line target name operation operand is
bare line target name operation operand (inr (inr is)) = behind line target name operation operand is

-- from 8 on a number starts the bytes of a SET line
pub sets-numbered : (number : ℕ) (line : Bytes) (target : ℕ) (name operation operand : Bytes) → 8 ≤ number → line_bytes_by number line target name operation operand ≡ number ∷ (counted name ++ counted operand)
unfolding line_bytes_by
sets-numbered number line target name operation operand h =
    passed_over _ _ (le-ltb number 3 (omega (arith, h)))
    ∙ (passed_over _ _ (ne_eqb number 3 (λ e. omega (arith, e, h)))
    ∙ (passed_over _ _ (ne_eqb number 4 (λ e. omega (arith, e, h)))
    ∙ (passed_over _ _ (ne_eqb number 5 (λ e. omega (arith, e, h))) ∙ (passed_over _ _ (ne_eqb number 6 (λ e. omega (arith, e, h))) ∙ passed_over _ _ (ne_eqb number 7 (λ e. omega (arith, e, h)))))))

-- a byte, and the others behind it
module _ (bytes s : Bytes) (does : ℕ) (is : bytes ≡ does ∷ s) where
  pub headed-length : length bytes ≡ 1 + length s
  headed-length = let e : length bytes ≡ suc (length s) = ap length is in omega arith

  pub headed-end : (at end : ℕ) → end ≡ at + 1 + length s → end ≡ at + length bytes
  headed-end at end e = omega (arith, e, headed-length)

  pub headed-written : (out new : Bytes) (at : ℕ) → new ≡ splice (set out at does) (at + 1) s → new ≡ splice out at bytes
  headed-written out new at e = e ∙ (splice-cons out at does s ∙ ap (splice out at) (sym is))
