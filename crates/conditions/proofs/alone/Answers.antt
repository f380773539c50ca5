use Prim.Native.Nat.{◌+◌}
use mathlib.Core.Path.{sym, ap, ◌∙◌}
use native.Mathlib.Numerals.{add-one}
use lib.Dec.{eqb}
use Rattle.conditions.proofs.Words.{toks-length}
use Rattle.conditions.proofs.alone.Goals as goal

pub returns : goal.returns
returns c = λ kinds. let a = c.args in
    let h = c.saturating_sub.ensures ∙ sym (toks-length kinds a.code.now a.here) in
    let x = ap (λ n. n + 1) (c.saturating_sub-2.ensures ∙ sym (toks-length kinds a.code.now a.at)) ∙ add-one _ in
    λ i. eqb (h i) (x i)
