-- `append_start` meets its contract: the part's start symbol is the row more, if there is one. Assumes nothing.
use Rattle.std.proofs.Common.{true, length, arith, ap, sym, ◌∙◌}
use Rattle.rules.specs.Choice.{any}
use Rattle.rules.specs.Lexemes.{is_long}
use Rattle.declared.specs.Declared.{found}
use Rattle.declared.proofs.Starts.{start_is}
use Rattle.filling.proofs.Symbols.{short}
use Rattle.filling.proofs.Rows.{nothing-more, one_more}
use Rattle.filling.proofs.append_start.Goals as goal

pub declare-requires : goal.declare-requires
declare-requires c =
    let a = c.args in
    let one = sym (ap found c.in-Some.is) ∙ (c.start_symbol.ensures true ∙ start_is true a.part.now) in
    let k = ap length one in
    (omega (arith, k, c.requires.0), short _ _ (ap (any is_long) one ∙ c.requires.1))

pub returns-in-Some : goal.returns-in-Some
returns-in-Some c =
    let a = c.args in
    let one = sym (ap found c.in-Some.is) ∙ (c.start_symbol.ensures true ∙ start_is true a.part.now) in
    let k = ap length one in
    let whole = one_more a.table.now a.rows _ one (omega (arith, k, c.requires.0)) (short _ _ (ap (any is_long) one ∙ c.requires.1)) _ c.declare.ensures in
    record { value = whole.0; table_after = whole.1 }

pub returns-in-None : goal.returns-in-None
returns-in-None c =
    let a = c.args in
    let whole = nothing-more a.table.now a.rows (sym (ap found c.in-None.is) ∙ (c.start_symbol.ensures true ∙ start_is true a.part.now)) in
    record { value = whole.0; table_after = whole.1 }
