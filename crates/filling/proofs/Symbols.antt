-- The symbols that an operand's parts start with: the one of one part, and those that are not too long. Assumes nothing.
use Prim.Native.Nat.{◌≤◌}
use native.Mathlib.Omega.{arith}
use mathlib.Core.Path.{◌≡◌}
use mathlib.Core.Bool.{false}
use mathlib.Core.List.{List, ◌∷◌, ◌++◌}
use lib.ListN.{length}
use lib.Dec.{eqb}
use borrow.Author.Tests.{ltb-false}
use Rattle.text.specs.Bytes.{Bytes}
use Rattle.rules.specs.Choice.{any}
use Rattle.rules.specs.Limits.{name_limit}
use Rattle.rules.specs.Lexemes.{is_long}
use Rattle.rules.proofs.Choices.{by, either}
use Rattle.rules.proofs.Logic.{clash, or_left, or_right, any-in-front, any-behind}
use Rattle.declared.specs.Declared.{start_length, start_name}

-- a part starts with at most one
pub start-once : (p : Bytes) → length (start_name p) ≤ 1
unfolding start_name
start-once p = either (λ (ns : List Bytes). length ns ≤ 1) (eqb (start_length p) 0) (λ e. omega arith) (λ e. omega arith)

-- ---- symbols that are not too long

module _ (n : Bytes) (ns : List Bytes) (h : any is_long (n ∷ ns) ≡ false) where
  pub short : length n ≤ 7
  unfolding any is_long
  short = ltb-false name_limit (length n) (or_left (is_long n) _ h)

  pub short-others : any is_long ns ≡ false
  unfolding any
  short-others = or_right (is_long n) _ h

module _ (s t : List Bytes) (h : any is_long (s ++ t) ≡ false) where
  pub short-front : any is_long s ≡ false
  short-front = by (any is_long s) (λ e. clash (any-in-front is_long s t e) h) (λ e. e)

  pub short-behind : any is_long t ≡ false
  short-behind = by (any is_long t) (λ e. clash (any-behind is_long s t e) h) (λ e. e)
