use mathlib.Core.Path.{◌≡◌, ap, ◌∙◌}
use native.Mathlib.Omega.{arith}
use Rattle.std.specs.Prelude.{Some}
use Rattle.value_references.proofs.Standing.{kind-low, kind-slot, kind-list, kind-index, kind-section, kind-none}
use borrow.Author.Rules.{rules}
use Rattle.value_references.proofs.kind_of.Goals as goal

pub returns-then-b-lt128 : goal.returns-then-b-lt128
returns-then-b-lt128 c w held h = kind-low _ w _ held h _ _ _ c.byte-b.ensures (search rules)

pub returns-then-b-lt224 : goal.returns-then-b-lt224
returns-then-b-lt224 c w held h = ap Some c.slot_kind.ensures ∙ kind-slot _ w _ held h _ _ _ c.byte-b.ensures (search rules) (search rules)

pub returns-in-224 : goal.returns-in-224
returns-in-224 c w held h = kind-list _ w _ held h _ _ _ c.byte-b.ensures c.in-224.is

pub returns-in-225 : goal.returns-in-225
returns-in-225 c w held h = kind-index _ w _ held h _ _ _ c.byte-b.ensures c.in-225.is

pub returns-in-226 : goal.returns-in-226
returns-in-226 c w held h = kind-section _ w _ held h _ _ _ c.byte-b.ensures c.in-226.is

pub returns-in_default : goal.returns-in_default
returns-in_default c w held h =
    let a : c.byte-b.result ≡ 224 → ⊥ = search rules in
    let b : c.byte-b.result ≡ 225 → ⊥ = search rules in
    let d : c.byte-b.result ≡ 226 → ⊥ = search rules in
    let far = c.if-b-lt224.false in
    kind-none _ w _ held h _ _ _ c.byte-b.ensures (omega arith)
