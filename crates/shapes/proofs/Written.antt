-- The codes of three fields, written one behind another. Assumes nothing.
use Prim.Native.Nat.{ℕ, ◌+◌, ◌≤◌}
use native.Mathlib.Omega.{arith}
use mathlib.Core.Path.{◌≡◌, ap, ◌∙◌}
use mathlib.Core.Bool.{Bool}
use mathlib.Core.List.{◌++◌}
use lib.ListN.{length, length-map}
use Rattle.text.specs.Bytes.{Bytes}
use Rattle.rules.specs.Lexemes.{lexed}
use Rattle.rules.proofs.Lossless.{lexed-back}
use Rattle.rules.proofs.ReadLines.{lexemes-short}
use Rattle.lent.specs.Splice.{splice}
use Rattle.lent.proofs.Writes.{splice-append, splice-length}
use Rattle.names.specs.Names.{slot_byte}
use Rattle.coding.specs.Coded.{code_by, field_code}
use Rattle.shapes.specs.declared.Codes.{Codes as Ends}
use Rattle.shapes.specs.Shapes.{ends_of}

pub code-short : (q : Bool) (own global shared s : Bytes) → length (field_code q own global shared s) ≤ length s
unfolding field_code
code-short q own global shared s = omega (arith, length-map (lexed q s) (code_by (slot_byte own global shared)), lexemes-short (lexed q s), ap length (lexed-back q s))

module _ (out new new₂ new₃ a b c : Bytes) (first second third : ℕ)
    (one : first ≡ 0 + length a) (two : second ≡ first + length b) (three : third ≡ second + length c)
    (wrote : new ≡ splice out 0 a) (wrote₂ : new₂ ≡ splice new first b) (wrote₃ : new₃ ≡ splice new₂ second c) where
  pub fields-written : new₃ ≡ splice out 0 (a ++ (b ++ c))
  fields-written =
      wrote₃ ∙ ((λ i. splice (wrote₂ i) (two i) c) ∙ (splice-append new first b c ∙ ((λ i. splice (wrote i) (one i) (b ++ c)) ∙ splice-append out 0 a (b ++ c))))

  pub fields-end : ◌≡◌ {A = Ends} (record { name = first; operation = second; operand = third }) (ends_of a b c)
  unfolding ends_of
  fields-end =
      let f : first ≡ length a = omega arith in
      let g : second ≡ length a + length b = omega arith in
      let h : third ≡ length a + length b + length c = omega arith in
      λ i. record { name = f i; operation = g i; operand = h i }

  pub new-length : length new ≡ length out
  new-length = ap length wrote ∙ splice-length out 0 a

  pub new₂-length : length new₂ ≡ length out
  new₂-length = ap length wrote₂ ∙ (splice-length new first b ∙ new-length)
