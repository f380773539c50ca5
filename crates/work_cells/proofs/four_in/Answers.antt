-- `four_in` meets its contract. Assumes nothing.
use Prim.Native.Nat.{◌+◌, ◌*◌, ◌%◌}
use mathlib.Core.Path.{◌≡◌, refl, ap, ◌∙◌}
use native.Mathlib.Omega.{arith}
use Rattle.work_cells.proofs.Kept.{number_cut}
use Rattle.work_cells.proofs.four_in.Goals as goal

pub returns : goal.returns
returns c =
    let a = c.byte.result % 128 in
    let e : c.from_be_bytes.result ≡ ((a * 256 + c.byte-2.result) * 256 + c.byte-3.result) * 256 + c.byte-4.result = omega (arith, c.from_be_bytes.ensures) in (
      e ∙ number_cut _ _ _ _ _ _ _ refl (ap (λ n. n % 128) c.byte.ensures) c.byte-2.ensures c.byte-3.ensures c.byte-4.ensures,
      omega (arith, c.from_be_bytes.ensures, c.byte-2.type_inv, c.byte-3.type_inv, c.byte-4.type_inv),
    )
