use Rattle.value_sublists.proofs.Divided.{found-none, found-some, part-within}
use Rattle.value_references.proofs.part_of.Goals as goal

pub returns-in_err-part : goal.returns-in_err-part
returns-in_err-part c = rw c.from_residual.ensures (λ cell e p b. found-none c.args.s.now (c.part_place.ensures cell e p b) c.in_err-part.was, tt)

pub returns : goal.returns
returns c = (λ cell e p b. found-some c.args.s.now (c.part_place.ensures cell e p b) _ c.in_ok-part.was c.part.ensures, rw c.part.ensures (part-within c.args.s.now _ _))
