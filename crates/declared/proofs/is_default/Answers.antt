use native.Mathlib.Omega.{arith}
use mathlib.Core.Bool.{true}
use Rattle.declared.proofs.Keyword.{is-default-told}
use Rattle.declared.proofs.is_default.Goals as goal

pub returns : goal.returns
returns c =
    let s = c.args.s.now in
    let e = c.bare_at-end.ensures in
    is-default-told s _ e.value (omega (arith, e.lower_bound.1)) (c.is_plain.ensures true) c.pairs_up.ensures
