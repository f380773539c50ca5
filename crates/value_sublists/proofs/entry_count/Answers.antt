-- `entry_count` meets its contract. Assumes nothing.
use borrow.Author.Tests.{tests}
use Rattle.value_sublists.proofs.Divided.{count-empty, count-entries, count-whole}
use borrow.Author.Rules.{rules}
use Rattle.value_sublists.proofs.entry_count.Goals as goal

pub returns-then-is_empty : goal.returns-then-is_empty
returns-then-is_empty c = count-empty c.args.s.now (search (rules, tests))

pub returns-in-Some : goal.returns-in-Some
returns-in-Some c = count-entries c.args.s.now _ c.entries_of.ensures (search (rules, tests)) c.in-Some.is

pub returns-in-None : goal.returns-in-None
returns-in-None c = count-whole c.args.s.now _ c.entries_of.ensures (search (rules, tests)) c.in-None.is
