use Prim.Native.Nat.{◌+◌, ◌-◌, ◌≤◌}
use mathlib.Core.Path.{◌≡◌}
use lib.ListN.{length, drop}
use Rattle.text.specs.Bytes.{Bytes}
use Rattle.rules.specs.Lexemes.{Before}
use Rattle.names.specs.Names.{slot_byte}
use Rattle.lent.specs.Splice.{splice}
use Rattle.coding.specs.Coded.{codes_from, before_of, field_code}
use Rattle.coding.proofs.put_field.Given as goal

abbrev pub invariant-loop-at : goal.invariant-loop-at
invariant-loop-at l =
    let b : Before = before_of l.before in
    let codes : Bytes = codes_from (slot_byte l.names.own.now l.names.global.now l.names.shared.now) l.quotes b (drop l.at l.field) in
    let all : Bytes = field_code l.quotes l.names.own.now l.names.global.now l.names.shared.now l.field in
    (l.at ≤ length l.field) × (length l.out ≡ length l.initial.out) × (l.to + (length l.field - l.at) ≤ length l.initial.out) × (l.to + length codes ≡ l.from + length all) × (splice l.out l.to codes ≡ splice l.initial.out l.from all)

abbrev pub decreases-loop-at : goal.decreases-loop-at
decreases-loop-at l =
    length l.field - l.at
