-- A case found in the used part of a window lies in the window. Assumes nothing.
use Rattle.std.proofs.Common.{◌≡◌, ℕ, ◌≤◌, List, length, take, arith, length-take-le}
use Rattle.batch.specs.declared.Case.TheVariants.{Found}
use Rattle.batch.specs.Format.{case_at}
use Rattle.batch.proofs.Inside.{Inside, found_inside}

pub record Placed (window : List ℕ) (id blank library program : ℕ) : Type 0 where
  pub id_before : id ≤ blank
  pub id_inside : blank ≤ length window
  pub library_before : library ≤ program
  pub library_inside : program ≤ length window

pub found-placed : (window : List ℕ) (used at id blank library program stop next output workspace : ℕ) → used ≤ length window → Found id blank library program stop next output workspace ≡ case_at (take used window) at → Placed window id blank library program
found-placed window used at id blank library program stop next output workspace h e =
    let whole = length-take-le used window h in
    let inside : Inside (take used window) at (Found id blank library program stop next output workspace) = found_inside (take used window) at e in
    let i = inside.1 in
    let j = inside.2 in
    let k = inside.3 in
    let l = inside.4 in
    let m = inside.5 in
    let n = inside.6 in
    record {
      id_before = omega (arith, i);
      id_inside = omega (arith, whole, h, j, k, l, m, n);
      library_before = k;
      library_inside = omega (arith, whole, h, l, m, n);
    }
