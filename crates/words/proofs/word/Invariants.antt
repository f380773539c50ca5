use Rattle.std.proofs.Common.{◌≡◌, ◌+◌}
use lib.ListN.{drop}
use Rattle.text.specs.Words.{place_among, words}
use Rattle.words.proofs.word.Given as goal

abbrev pub invariant-loop-row : goal.invariant-loop-row
invariant-loop-row l = place_among words l.op ≡ l.row-index + place_among (drop l.row-index words) l.op
