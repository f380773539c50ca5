use Rattle.std.proofs.Common.{◌≡◌, ◌+◌, ◌-◌, ◌≤◌, length}
use Rattle.labels.specs.Searches.{is_operation, behind}
use Rattle.labels.proofs.behind.Given as goal

abbrev pub invariant-loop-line : goal.invariant-loop-line
invariant-loop-line l = record {
  source : l.reader.src.now ≡ l.file;
  within : (l.at ≤ l.reader.at) × (l.reader.at ≤ l.at + (length l.file - l.at));
  same : behind (is_operation l.word) l.file l.at ≡ behind (is_operation l.word) l.file l.reader.at;
}

abbrev pub decreases-loop-line : goal.decreases-loop-line
decreases-loop-line l = length l.file - l.reader.at
