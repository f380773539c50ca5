use Prim.Native.Nat.{◌+◌}
use native.Mathlib.Omega.{arith}
use mathlib.Core.Path.{ap}
use Rattle.deck_reading.specs.Reading.{run_end}
use Rattle.call_keywords.proofs.run_end.Goals as goal

pub returns : goal.returns
unfolding run_end
returns c = let e = c.two_at-size.ensures in
    (ap (λ n. c.args.at + 2 + n) e.0, omega (arith, e.1))
