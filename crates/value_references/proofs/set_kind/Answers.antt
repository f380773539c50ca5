use Rattle.value_references.proofs.Standing.{set-kind-none, set-kind-is, set-a, set-b, set-c, unknown-set, set-a-is, set-b-is, set-c-is}
use mathlib.Core.Path.{refl}
use borrow.Author.Rules.{rules}
use Rattle.value_references.proofs.set_kind.Goals as goal

pub returns-then-kinds-q : goal.returns-then-kinds-q
returns-then-kinds-q c = unknown-set _ _ _ (set-kind-none _ _ _ _ c.run_at-kinds.ensures (search rules))

pub returns-in-1 : goal.returns-in-1
returns-in-1 c = set-b-is _ _ _ (set-kind-is _ c.run_at-kinds.result.now _ _ _ _ c.run_at-kinds.ensures (search rules) refl (set-b _ c.in-1.is))

pub returns-in-2 : goal.returns-in-2
returns-in-2 c = set-c-is _ _ _ (set-kind-is _ c.run_at-kinds.result.now _ _ _ _ c.run_at-kinds.ensures (search rules) refl (set-c _ c.in-2.is))

pub returns-in_default : goal.returns-in_default
returns-in_default c = set-a-is _ _ _ (set-kind-is _ c.run_at-kinds.result.now _ _ _ _ c.run_at-kinds.ensures (search rules) refl (set-a _ (search rules) (search rules)))
