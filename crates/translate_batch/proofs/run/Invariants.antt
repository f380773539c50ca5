-- The cases before the window's place are answered, and each turn leaves less of the input.
use Rattle.std.proofs.Common.{◌≡◌, Some, length}
use Rattle.text.specs.Bytes.{Bytes}
use Rattle.translate_batch.proofs.Runs.{Runs}
use Rattle.translate_batch.proofs.run.Given as goal

abbrev pub invariant-loop : goal.invariant-loop
invariant-loop g l =
    (whole : Bytes) → g.R.Read.remaining l.initial.input ≡ Some whole
    → Runs whole l.counter (length l.initial.deck) (g.W.Write.contents l.initial.output) (g.W.Write.contents l.output) (g.E.Write.contents l.initial.errors) (g.E.Write.contents l.errors)
    l.window l.place.at l.place.used (g.R.Read.remaining l.input)
