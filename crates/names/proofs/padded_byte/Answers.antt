-- `padded_byte` meets its contract: a byte of the name, or a blank behind it. Assumes nothing.
use borrow.Author.Rules.{rules}
use Rattle.names.proofs.Titles.{name-byte, blank-byte}
use Rattle.names.proofs.padded_byte.Goals as goal

pub returns-then-i-name : goal.returns-then-i-name
returns-then-i-name c = name-byte c.args.name.now c.args.i (search rules)

pub returns : goal.returns
returns c = blank-byte c.args.name.now c.args.i (search rules) (search rules)
