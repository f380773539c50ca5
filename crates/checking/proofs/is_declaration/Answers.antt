-- `checking::is_declaration` meets its contract. Assumes nothing.
use Rattle.checking.proofs.Around.{declaration-is}
use Rattle.checking.proofs.is_declaration.Goals as goal

pub returns : goal.returns
returns c = let a = c.args in declaration-is a.name.now a.operand.now _ c.are_symbols-symbols.ensures
