-- `declare_parameters` meets its contract: the name's symbol, and then the operand's. Assumes nothing.
use native.Mathlib.Omega.{arith}
use mathlib.Core.Path.{ap, sym, ◌∙◌}
use mathlib.Core.Bool.{false}
use Rattle.rules.specs.Choice.{any}
use Rattle.rules.specs.Lexemes.{is_long}
use Rattle.declared.proofs.Starts.{start_is}
use Rattle.filling.proofs.Symbols.{start-once}
use Rattle.filling.proofs.Rows.{from_start}
use Rattle.filling.proofs.declare_parameters.Goals as goal

pub append_start-rows-requires : goal.append_start-rows-requires
append_start-rows-requires c =
    let n = c.args.name.now in
    (omega (arith, start-once n, c.requires.0), ap (any is_long) (sym (start_is false n)) ∙ c.requires.1.0)

pub append_symbols-requires : goal.append_symbols-requires
append_symbols-requires c =
    let k = start-once c.args.name.now in
    (omega (arith, k, c.append_start-rows.ensures.value, c.requires.0), c.requires.1.1)

pub returns : goal.returns
returns c =
    let f = c.append_start-rows.ensures in
    let g = c.append_symbols.ensures in
    let whole = from_start c.args.table.now _ _ _ _ _ _ _ (start_is false c.args.name.now) f.value f.table_after g.value g.table_after in record { value = whole.0; table_after = whole.1 }
