use Prim.Native.Nat.{◌+◌, ◌-◌, ◌*◌, ◌<◌, ◌^◌}
use mathlib.Core.Path.{◌≡◌}
use Rattle.rules.specs.Calls.{is_among}
use Rattle.call_keywords.specs.Defaults.{keywords_at}
use Rattle.call_keywords.proofs.is_known.Given as goal

abbrev pub invariant-loop : goal.invariant-loop
invariant-loop l =
    (l.place + 131074 * (l.count - l.counter) < 2 ^ 64) × (is_among l.name (keywords_at l.deck l.at l.count) ≡ is_among l.name (keywords_at l.deck l.place (l.count - l.counter)))
