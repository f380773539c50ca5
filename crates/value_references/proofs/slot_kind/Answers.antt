use mathlib.Core.Path.{ap, ◌∙◌}
use Rattle.kinds.specs.Kinds.{kind_for}
use Prim.Native.Nat.{◌-◌}
use Rattle.work_frames.specs.Holding.{set_kind}
use Rattle.grammar.specs.Tokens.{kind_of}
use Rattle.value_references.proofs.Standing.{kind-shared, kind-parameter, kind-local}
use borrow.Author.Rules.{rules}
use Rattle.value_references.proofs.slot_kind.Goals as goal

pub returns-then-place-ge192 : goal.returns-then-place-ge192
returns-then-place-ge192 c = c.set_kind.ensures ∙ ap (λ n. kind_for (kind_of n)) (kind-shared _ _ _ _ c.from-place.ensures (search rules))

pub returns-then-own-params : goal.returns-then-own-params
returns-then-own-params c = kind-parameter c.args.deck.now c.args.f _ _ c.from-place.ensures (search rules) (search rules)

pub returns : goal.returns
returns c = c.set_kind-2.ensures ∙ ap (λ n. kind_for (kind_of n)) (ap (λ p. set_kind c.args.deck.now c.args.f.locals (c.from-place.result - 128 - p)) c.from-params.ensures ∙ kind-local _ _ _ _ c.from-place.ensures (search rules) (search rules))
