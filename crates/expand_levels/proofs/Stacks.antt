-- The levels that run, after a call, a return and a step of the innermost. Assumes nothing.
use Prim.Native.Nat.{suc, ◌+◌, ◌-◌, ◌<◌}
use mathlib.Core.Path.{◌≡◌, refl, ap, ◌∙◌}
use mathlib.Core.List.{[], ◌∷◌, ◌++◌}
use native.Mathlib.Omega.{arith}
use native.Mathlib.Numerals.{add-one}
use lib.ListN.{length, set, take, length-set}
use lib.Seq.{take-suc, take-suc-set, take-set-le, length-take-le}
use Rattle.expand_levels.specs.declared.Level.{Level}
use Rattle.expand_levels.specs.declared.Running.{Running}
use Rattle.expand_levels.specs.Stack.{Sized, levels_of, no_level, none_run, top_of, pushed, popped, topped}

pub none-sized : Sized none_run
unfolding none_run
none-sized = record { places = refl; deep = omega arith }

pub none-run : levels_of none_run ≡ []
unfolding levels_of none_run
none-run = refl

module _ (r : Running) (z : Sized r) where
  pub count-run : length (levels_of r) ≡ r.depth
  unfolding levels_of
  count-run = length-take-le r.depth r.levels (omega arith)

  pub empty-run : r.depth ≡ 0 → levels_of r ≡ []
  unfolding levels_of
  empty-run e = rw e

  pub pushed-sized : (l : Level) → r.depth < 5 → Sized (pushed l r)
  unfolding pushed
  pushed-sized l h = record { places = length-set r.levels r.depth l ∙ z.places; deep = omega arith }

  -- a call puts its level behind the others
  pub pushed-run : (l : Level) → r.depth < 5 → levels_of (pushed l r) ≡ levels_of r ++ (l ∷ [])
  unfolding levels_of pushed
  pushed-run l h =
      let less : r.depth < length r.levels = omega arith in
      rw (add-one r.depth) (take-suc-set r.levels r.depth l less)

  module _ (some : 0 < r.depth) where
    pub popped-sized : Sized (popped r)
    unfolding popped
    popped-sized = record { places = z.places; deep = omega arith }

    pub topped-sized : (l : Level) → Sized (topped l r)
    unfolding topped
    topped-sized l = record { places = length-set r.levels (r.depth - 1) l ∙ z.places; deep = omega arith }

    -- the innermost stands behind those that wait
    pub top-run : levels_of r ≡ levels_of (popped r) ++ (top_of r ∷ [])
    unfolding levels_of popped top_of
    top-run =
        let less : r.depth - 1 < length r.levels = omega arith in
        let e : r.depth ≡ suc (r.depth - 1) = omega arith in
        ap (λ n. take n r.levels) e ∙ take-suc r.levels (r.depth - 1) no_level less

    pub topped-run : (l : Level) → levels_of (topped l r) ≡ levels_of (popped r) ++ (l ∷ [])
    unfolding levels_of popped topped
    topped-run l =
        let less : r.depth - 1 < length r.levels = omega arith in
        let e : r.depth ≡ suc (r.depth - 1) = omega arith in
        ap (λ n. take n (set r.levels (r.depth - 1) l)) e ∙ take-suc-set r.levels (r.depth - 1) l less

-- a call that is entered and left gives the levels back
pub back-run : (r : Running) (l : Level) → levels_of (popped (pushed l r)) ≡ levels_of r
unfolding levels_of popped pushed
back-run r l =
    let e : r.depth + 1 - 1 ≡ r.depth = omega arith in
    ap (λ n. take n (set r.levels r.depth l)) e ∙ take-set-le r.depth r.levels r.depth l (omega arith)
