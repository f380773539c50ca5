use Rattle.value_sublists.proofs.Divided.{Scanning}
use Rattle.value_sublists.proofs.entries_of.Given as goal

abbrev pub invariant-loop-i : goal.invariant-loop-i
invariant-loop-i l = Scanning l.s l.n l.i l.seen l.so_far
