-- How many globals a library has when a line has declared some: those that it had not come to those that it had. Assumes nothing.
use Prim.Native.Nat.{suc, ◌+◌}
use native.Mathlib.Omega.{arith}
use mathlib.Core.Path.{◌≡◌, refl, ap, sym, ◌∙◌}
use mathlib.Core.Bool.{Bool, true, false, ◌||◌, not}
use mathlib.Core.List.{List, [], ◌∷◌, ◌++◌}
use lib.ListN.{length, length-append}
use Rattle.text.specs.Bytes.{Bytes, bytes, same}
use Rattle.rules.specs.Choice.{choose, any, count}
use Rattle.rules.specs.Fields.{starts_with}
use Rattle.rules.specs.Statement.{Set}
use Rattle.rules.specs.Calls.{is_among}
use Rattle.rules.specs.Library.{of_kind, firsts, with_globals}
use Rattle.rules.specs.Faults.{declares_wrongly}
use Rattle.rules.proofs.Logic.{clash, or_left, or_right}
use Rattle.rules.proofs.Symbols.{same-sym}
use Rattle.rules.proofs.OneKind.{Globals}

-- a name that is not among them
unfoldable is_new : Globals → Bytes → Bool
is_new gs n = not (any (same n) (firsts gs))

among-firsts : (gs : Globals) (n : Bytes) → is_among n gs ≡ any (same n) (firsts gs)
unfolding is_among any firsts
among-firsts [] n = refl
among-firsts (g ∷ gs) n = λ i. same-sym g.0 n i || among-firsts gs n i

-- a further name is new to no other name's search
other-new : (gs : Globals) (k : Set) (n m : Bytes) → same n m ≡ false → any (same m) (firsts (gs ++ ((n, k) ∷ []))) ≡ any (same m) (firsts gs)
unfolding any firsts
other-new [] k n m e = ap (◌|| false) (same-sym m n ∙ e)
other-new (g ∷ gs) k n m e = ap (same m g.0 ||◌) (other-new gs k n m e)

others-new : (gs : Globals) (k : Set) (n : Bytes) (ms : List Bytes) → any (same n) ms ≡ false → count (is_new (gs ++ ((n, k) ∷ []))) ms ≡ count (is_new gs) ms
unfolding any count is_new
others-new gs k n [] h = refl
others-new gs k n (m ∷ ms) h =
    let e = other-new gs k n m (or_left (same n m) _ h) in
    let r = others-new gs k n ms (or_right (same n m) _ h) in
    λ i. choose (not (e i)) (suc (r i)) (r i)

-- names of which none stands there twice
pub grown-count : (before : Bytes → Bool) (k : Set) (ns : List Bytes) (gs : Globals) → declares_wrongly before ns ≡ false
    → length (with_globals gs (of_kind k ns)) ≡ length gs + count (λ n. not (any (same n) (firsts gs))) ns
unfolding declares_wrongly with_globals of_kind count is_new choose
grown-count before k [] gs h = omega arith
grown-count before k (n ∷ ns) gs h =
    go (is_among n gs) (any (same n) (firsts gs)) (among-firsts gs n) (grown-count before k ns gs rest) (grown-count before k ns (gs ++ ((n, k) ∷ [])) rest)
  where
    behind : (any (same n) ns || declares_wrongly before ns) ≡ false
    behind = or_right (before n) _ (or_right (starts_with (bytes "SYS") n) _ h)

    rest : declares_wrongly before ns ≡ false
    rest = or_right (any (same n) ns) _ behind

    go : (a b : Bool) → a ≡ b → length (with_globals gs (of_kind k ns)) ≡ length gs + count (is_new gs) ns
        → length (with_globals (gs ++ ((n, k) ∷ [])) (of_kind k ns)) ≡ length (gs ++ ((n, k) ∷ [])) + count (is_new (gs ++ ((n, k) ∷ []))) ns
        → length (with_globals (choose a gs (gs ++ ((n, k) ∷ []))) (of_kind k ns)) ≡ length gs + choose (not b) (suc (count (is_new gs) ns)) (count (is_new gs) ns)
    go true true e known new = known
    go true false e known new = clash refl e
    go false true e known new = clash refl (sym e)
    go false false e known new = omega (arith, new, length-append gs ((n, k) ∷ []), others-new gs k n ns (or_left (any (same n) ns) _ behind))
