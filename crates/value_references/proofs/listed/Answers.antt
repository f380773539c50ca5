use Prim.Native.Nat.{◌≤◌, ◌<◌}
use mathlib.Core.Path.{ap, ◌∙◌}
use native.Mathlib.Omega.{arith}
use Rattle.work_frames.specs.Frames.{run_at}
use Rattle.value_references.proofs.Standing.{listed-past, listed-run}
use borrow.Author.Rules.{rules}
use Rattle.value_references.proofs.listed.Goals as goal

pub returns-then-from-n : goal.returns-then-from-n
returns-then-from-n c = let past : c.args.count ≤ c.args.n = search rules in (listed-past c.args.work.now c.args.at _ _ past, omega arith)

pub returns : goal.returns
returns c = let less : c.args.n < c.args.count = search rules in (c.run_in.ensures.0 ∙ ap (run_at c.args.work.now) c.run_place.ensures.0 ∙ listed-run _ _ _ _ less, c.run_in.ensures.1)
