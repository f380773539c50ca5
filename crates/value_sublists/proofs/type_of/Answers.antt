-- `type_of` meets its contract. Assumes nothing.
use borrow.Author.Tests.{tests}
use Rattle.value_sublists.proofs.Divided.{type-empty, type-number, type-other}
use borrow.Author.Rules.{rules}
use Rattle.value_sublists.proofs.type_of.Goals as goal

pub returns-then-is_empty : goal.returns-then-is_empty
returns-then-is_empty c = type-empty c.args.s.now (search (rules, tests))

pub returns-in-Some : goal.returns-in-Some
returns-in-Some c = type-number c.args.s.now (search (rules, tests)) _ c.digits_in.ensures c.in-Some.is

pub returns-in-None : goal.returns-in-None
returns-in-None c = type-other c.args.s.now (search (rules, tests)) _ c.digits_in.ensures c.in-None.is
