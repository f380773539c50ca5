-- Conditions, whose rules call each other. The measure is six for each level of nesting that remains, with the rules of a level in the order of
-- their calls: disjunction, conjunction, negation, spaced, element, deeper_condition. Assumes nothing.
use Rattle.grammar.proofs.Chains.{Loop, to_read}
use Rattle.conditions.proofs.Conditions.{conjunctions-of, disjunctions-of}
use Prim.Native.Nat.{◌+◌, ◌*◌}
use Rattle.conditions.proofs.+conjunction_deeper_condition_disjunction_element_negation_spaced.Given as goal

abbrev pub decreases-conjunction : goal.decreases-conjunction
decreases-conjunction l = 6 * l.nest + 4

abbrev pub decreases-deeper_condition : goal.decreases-deeper_condition
decreases-deeper_condition l = 6 * l.nest + 0

abbrev pub decreases-disjunction : goal.decreases-disjunction
decreases-disjunction l = 6 * l.nest + 5

abbrev pub decreases-element : goal.decreases-element
decreases-element l = 6 * l.nest + 1

abbrev pub decreases-negation : goal.decreases-negation
decreases-negation l = 6 * l.nest + 3

abbrev pub decreases-spaced : goal.decreases-spaced
decreases-spaced l = 6 * l.nest + 2

abbrev pub invariant-conjunction-loop-next : goal.invariant-conjunction-loop-next
invariant-conjunction-loop-next l = Loop (conjunctions-of l.nest) l.kinds l.code l.at l.here

abbrev pub decreases-conjunction-loop-next : goal.decreases-conjunction-loop-next
decreases-conjunction-loop-next l = to_read (conjunctions-of l.nest) l.kinds l.code l.here

abbrev pub invariant-disjunction-loop-next : goal.invariant-disjunction-loop-next
invariant-disjunction-loop-next l = Loop (disjunctions-of l.nest) l.kinds l.code l.at l.here

abbrev pub decreases-disjunction-loop-next : goal.decreases-disjunction-loop-next
decreases-disjunction-loop-next l = to_read (disjunctions-of l.nest) l.kinds l.code l.here
