-- The byte for a number's sign. Assumes nothing.
use mathlib.Core.Path.{◌≡◌, refl, ap}
use native.Mathlib.Omega.{arith}
use lib.IntN.{ℤ, pos, negsuc}
use lib.Signed.{lt_z}
use borrow.Author.Tests.{le-ltb}
use mir.Val.{bool_byte}
use Rattle.work_cells.specs.Cells.{sign_of}

pub sign_byte : (z : ℤ) → bool_byte (lt_z z (pos 0)) ≡ sign_of z
unfolding sign_of
sign_byte (pos n) = ap bool_byte (le-ltb n 0 (omega arith))
sign_byte (negsuc n) = refl
