-- `append_symbols` meets its contract: the symbols still to come complete the table. Assumes nothing.
use Rattle.std.proofs.Common.{◌≤◌, ◌+◌, ◌*◌, ◌++◌, refl, rules, length, take, arith, ap, sym, ◌∙◌}
use Rattle.rules.specs.Choice.{any}
use Rattle.rules.specs.Lexemes.{is_long}
use Rattle.names.specs.Names.{names_in}
use Rattle.operands.specs.Symbols.{symbols_left}
use Rattle.declaring.specs.Declared.{symbols_in}
use Rattle.declaring.proofs.Symbols.{symbols-few}
use Rattle.filling.proofs.Symbols.{short, short-others}
use Rattle.filling.proofs.Rows.{one_more, names-then}
use Rattle.filling.proofs.append_symbols.Goals as goal

pub loop-name-init : goal.loop-name-init
unfolding symbols_in
loop-name-init c =
    let a = c.args in
    let all = ap symbols_left c.into_iter-name-iterator.ensures.into_iter_gives ∙ c.of-name-items.ensures in
    (refl, ap (any is_long) all ∙ c.requires.1, ap (λ ss. a.rows + length ss) all, ap (λ ss. names_in (take (a.rows * 8) a.table.now) ++ ss) all)

pub declare-requires : goal.declare-requires
declare-requires c =
    let first = c.in-Some.ensures.steps in
    (omega (arith, ap length first, c.loop-name.invariant.2, c.loop-name.invariant.0, c.requires.0, symbols-few c.args.operand.now), short _ _ (ap (any is_long) (sym first) ∙ c.loop-name.invariant.1))

pub overflow_add-count : goal.overflow_add-count
overflow_add-count c = omega (arith, ap length c.in-Some.ensures.steps, c.loop-name.invariant.2, c.requires.0, symbols-few c.args.operand.now)

pub loop-name-preserved : goal.loop-name-preserved
loop-name-preserved c =
    let first = c.in-Some.ensures.steps in
    let room : c.loop-name.count * 8 + 8 ≤ length c.loop-name.table =
    omega (arith, ap length first, c.loop-name.invariant.2, c.loop-name.invariant.0, c.requires.0, symbols-few c.args.operand.now) in
    let more = one_more c.loop-name.table c.loop-name.count c.in-Some.name.now refl room (short _ _ (ap (any is_long) (sym first) ∙ c.loop-name.invariant.1)) _ c.declare.ensures in (
      search rules,
      short-others _ _ (ap (any is_long) (sym first) ∙ c.loop-name.invariant.1),
      omega (arith, ap length first, c.loop-name.invariant.2),
      names-then _ _ _ _ _ (ap (names_in (take (c.loop-name.count * 8) c.loop-name.table) ++◌) (sym first) ∙ c.loop-name.invariant.3) more.1,
    )
