use Prim.Native.Nat.{◌+◌, ◌*◌}
use mathlib.Core.Path.{sym, ◌∙◌}
use native.Mathlib.Omega.{arith}
use Rattle.value_references.proofs.Standing.{part_small, in-work, in-deck}
use Rattle.value_references.proofs.parameter.Goals as goal

pub returns-then-byte-eq0 : goal.returns-then-byte-eq0
returns-then-byte-eq0 c = (c.run_in.ensures.0 ∙ in-work _ _ _ _ c.place_in-place.ensures.0 (sym c.byte.ensures ∙ c.if-byte-eq0.true), c.run_in.ensures.1)

pub returns : goal.returns
returns c = let small = part_small c.args.deck.now (c.place_in-place.result + 2) (c.from-high.result * 256 + c.from-low.result) in let h = c.byte-2.type_inv in let l = c.byte-3.type_inv in let h' = c.from-high.ensures in let l' = c.from-low.ensures in
    (c.part.ensures ∙ in-deck _ _ _ _ _ _ c.place_in-place.ensures.0 (λ e. c.if-byte-eq0.false (c.byte.ensures ∙ e)) (c.from-high.ensures ∙ c.byte-2.ensures) (c.from-low.ensures ∙ c.byte-3.ensures), rw c.part.ensures (omega arith))
