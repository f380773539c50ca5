-- Tests in turn, and what a shape keeps, as code cuts it out. Assumes nothing.
use Prim.Native.Nat.{ℕ, ◌-◌}
use native.Mathlib.Nat.{sub-zero}
use mathlib.Core.Path.{◌≡◌, ap, sym, ◌∙◌}
use mathlib.Core.Bool.{Bool, true, false, ◌||◌}
use lib.ListN.{take, drop}
use Rattle.text.specs.Bytes.{Bytes}
use Rattle.rules.specs.Statement.{Does}
use Rattle.rules.specs.Form.{is_formed_by}
use Rattle.grammar.specs.Tokens.{toks_at}
use Rattle.shapes.specs.declared.Shape.{Shape}
use Rattle.shapes.specs.Shapes.{part}
use Rattle.checking.specs.Body.{kept_line, formed_code}
use Rattle.faults.specs.Coded.{any_of}

-- the first of four tests that holds, or what the last one says
module _ (a b c d : Bool) where
  pub first_holds : a ≡ true → true ≡ any_of a b c d
  unfolding any_of
  first_holds e = ap (λ (x : Bool). x || (b || (c || d))) (sym e)

  module _ (ea : a ≡ false) where
    pub second_holds : b ≡ true → true ≡ any_of a b c d
    unfolding any_of
    second_holds e = λ i. sym ea i || (sym e i || (c || d))

    module _ (eb : b ≡ false) where
      pub third-holds : c ≡ true → true ≡ any_of a b c d
      unfolding any_of
      third-holds e = λ i. sym ea i || (sym eb i || (sym e i || d))

      pub last_says : c ≡ false → d ≡ any_of a b c d
      unfolding any_of
      last_says e = λ i. sym ea i || (sym eb i || (sym e i || d))

-- a text's front, cut out from its start
pub front_cut : (n : ℕ) (s : Bytes) → take (n - 0) (drop 0 s) ≡ take n s
front_cut n s = ap (λ (m : ℕ). take m s) (sub-zero n)

pub formed-kept : (nest : ℕ) (kinds s : Bytes) (k : Shape) (d : Does Bytes) (r : Bool)
    → r ≡ is_formed_by nest (record {
      does = d;
      name = toks_at kinds (take (k.name - 0) (drop 0 s)) 0;
      operation = toks_at kinds (take (k.gap - k.operation) (drop k.operation s)) 0;
      operand = toks_at kinds (take (k.rest - k.operand) (drop k.operand s)) 0;
    }) d
    → r ≡ formed_code nest kinds s k d
unfolding formed_code kept_line part
formed-kept nest kinds s k d r e =
    e ∙ (λ i. is_formed_by nest (record {
      does = d;
      name = toks_at kinds (front_cut k.name s i) 0;
      operation = toks_at kinds (take (k.gap - k.operation) (drop k.operation s)) 0;
      operand = toks_at kinds (take (k.rest - k.operand) (drop k.operand s)) 0;
    }) d)
