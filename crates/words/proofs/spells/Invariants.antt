use Rattle.std.proofs.Common.{◌≡◌}
use lib.ListN.{drop}
use Rattle.text.specs.Bytes.{same}
use Rattle.words.specs.Trimmed.{trimmed}
use Rattle.words.proofs.spells.Given as goal

abbrev pub invariant-loop-i : goal.invariant-loop-i
invariant-loop-i l = same (trimmed l.row) l.op ≡ same (trimmed (drop l.i l.row)) (drop l.i l.op)
