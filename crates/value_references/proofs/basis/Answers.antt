use Prim.Native.Nat.{◌+◌, ◌*◌, ◌-◌}
use native.Mathlib.Omega.{arith}
use mathlib.Core.Path.{refl, ap, ◌∙◌}
use Rattle.work_frames.specs.Frames.{parameter_at}
use Rattle.kinds.specs.Kinds.{kind_for}
use Rattle.value_references.proofs.Standing.{is-kind, is-string, unplaced, basis-string, basis-parameter, basis-list, basis-section, string-small}
use Rattle.value_references.specs.Referring.{is_placed}
use Rattle.value_references.proofs.basis.Goals as goal

pub returns-in-Symbol : goal.returns-in-Symbol
returns-in-Symbol c = (λ held h k p. c.string_in.ensures ∙ basis-string _ _ _ held h _ c.requires.0 c.requires.1 _ c.cell_of.ensures.0 (is-string k p c.in-Symbol.is), rw c.string_in.ensures (string-small _ _))

pub returns-in-Parameter : goal.returns-in-Parameter
returns-in-Parameter c = (λ held h k p. c.parameter.ensures.0 ∙ ap (λ i. parameter_at c.level_of-level.result.now c.args.scene.deck.now (72 + 4 * (i - 128))) c.from.ensures ∙ basis-parameter _ _ _ held h _ c.requires.0 c.requires.1 _ c.level_of-level.ensures (is-kind k c.in-Parameter.is), c.parameter.ensures.1)

pub returns-in-List : goal.returns-in-List
returns-in-List c = (λ held h k p. c.listed.ensures.0 ∙ basis-list _ _ _ held h _ c.requires.0 c.requires.1 _ c.level_of-level.ensures c.byte.ensures (is-kind k c.in-List.is), c.listed.ensures.1)

pub returns-in-Section : goal.returns-in-Section
returns-in-Section c = (λ held h k p. c.run_in.ensures.0 ∙ basis-section _ _ _ held h _ c.requires.0 c.requires.1 _ c.level_of-level.ensures (is-kind k c.in-Section.is), c.run_in.ensures.1)

pub returns-in-Index : goal.returns-in-Index
unfolding is_placed
returns-in-Index c = (λ held h k p. unplaced _ k c.in-Index.is p refl, omega arith)

pub returns-in-Unknown : goal.returns-in-Unknown
unfolding is_placed
returns-in-Unknown c = (λ held h k p. unplaced _ k c.in-Unknown.is p refl, omega arith)
