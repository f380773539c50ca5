use Rattle.std.proofs.Common.{◌≡◌}
use Rattle.text.specs.Bytes.{Bytes}
use Rattle.rules.specs.Machine.{keyword_value}
use Rattle.call_keywords.specs.Defaults.{given_by}
use Rattle.call_keywords.proofs.given_for.Given as goal

abbrev pub invariant-loop-part : goal.invariant-loop-part
invariant-loop-part l = (default : Bytes) → keyword_value l.name default (given_by l.initial.part-iterator) ≡ keyword_value l.name default (given_by l.part-iterator)
