use borrow.Author.Rules.{rules}
use Rattle.declaring.proofs.Tables.{numbered-first, numbered-second, numbered-third}
use Rattle.declaring.proofs.set_numbered.Goals as goal

pub returns-in-1 : goal.returns-in-1
returns-in-1 c = numbered-first c.args.number c.in-1.is

pub returns-in-2 : goal.returns-in-2
returns-in-2 c = numbered-second c.args.number c.in-2.is

pub returns-in_default : goal.returns-in_default
returns-in_default c = numbered-third c.args.number (search rules) (search rules)
