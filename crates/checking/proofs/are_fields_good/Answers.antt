-- `checking::are_fields_good` meets its contract. Assumes nothing.
use Rattle.checking.specs.Body.{good_fields}
use Rattle.checking.proofs.Around.{empty-is}
use Rattle.checking.proofs.are_fields_good.Goals as goal

pub returns-in-Some-Macro : goal.returns-in-Some-Macro
unfolding good_fields
returns-in-Some-Macro c = let arm = c.in-Some-Macro in rw arm.is (rw (rw arm.is at arm.field-0-is) (empty-is c.args.name.now))

pub returns-in-Some-Actr : goal.returns-in-Some-Actr
unfolding good_fields
returns-in-Some-Actr c = let arm = c.in-Some-Actr in rw arm.is (rw (rw arm.is at arm.field-0-is) (empty-is c.args.name.now))
