use Rattle.std.proofs.Common.{◌≡◌, ◌+◌, ◌-◌, ◌≤◌, ℕ, Bool, length, drop}
use Rattle.rules.specs.Choice.{run}
use Rattle.lent.specs.Runs.{IsTest}
use Rattle.lent.specs.contracts.run_end.F-Fn.{words}
use Rattle.lent.proofs.run_end.Given as goal

abbrev pub invariant-loop-i : goal.invariant-loop-i
invariant-loop-i g l =
    (l.i ≤ l.at + (length l.s - l.at))
    × ((p : ℕ → Bool) → IsTest ((words g.row.F g.F.Fn).post l.test) p → l.at + run p (drop l.at l.s) ≡ l.i + run p (drop l.i l.s))
