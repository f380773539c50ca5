-- `declaring::declares_wrongly` meets its contract: the symbols still to come are declared wrongly if all are. Assumes nothing.
use Rattle.std.proofs.Common.{◌≡◌, ap, sym, ◌∙◌, ◌||◌}
use Rattle.rules.specs.Faults.{declares_wrongly}
use Rattle.operands.specs.Symbols.{symbols_left}
use Rattle.declaring.specs.Declared.{symbols_in, is_taken, is_wrong}
use Rattle.declaring.proofs.Symbols.{wrong-stop, wrong-next}
use Rattle.declaring.proofs.Tables.{taken-told}
use Rattle.declaring.proofs.declares_wrongly.Goals.{After-symbol_among-later}
use Rattle.declaring.proofs.declares_wrongly.Goals as goal

-- what is tested of the name
tested : (c : After-symbol_among-later) → (c.begins_sys-system.result || ((c.is_among-mine.result || c.is_among-theirs.result) || c.symbol_among-later.result))
    ≡ is_wrong (is_taken c.args.own.now c.args.global.now) (symbols_left c.next.new.self) c.in-Some.name.now
tested c = λ i.
    c.begins_sys-system.ensures i
    || (taken-told c.args.own.now c.args.global.now c.in-Some.name.now c.is_among-mine.ensures c.is_among-theirs.ensures i || c.symbol_among-later.ensures i)

pub loop-name-init : goal.loop-name-init
unfolding symbols_in
loop-name-init c =
    let a = c.args in
    ap (declares_wrongly (is_taken a.own.now a.global.now)) (sym c.of-symbols.ensures)

pub returns-then-system-mine : goal.returns-then-system-mine
returns-then-system-mine c =
    let before = is_taken c.args.own.now c.args.global.now in
    sym
    (c.loop-name.invariant
    ∙ (ap (declares_wrongly before) c.in-Some.ensures.steps ∙ wrong-stop before _ _ (tested (goal.at.returns-then-system-mine c).After-symbol_among-later) c.if-system-mine.true))

pub loop-name-preserved : goal.loop-name-preserved
loop-name-preserved c =
    let before = is_taken c.args.own.now c.args.global.now in
    c.loop-name.invariant
    ∙ (ap (declares_wrongly before) c.in-Some.ensures.steps ∙ wrong-next before _ _ (tested (goal.at.loop-name-preserved c).After-symbol_among-later) c.if-system-mine.false)

pub returns : goal.returns
unfolding declares_wrongly
returns c =
    sym (c.loop-name.invariant ∙ ap (declares_wrongly (is_taken c.args.own.now c.args.global.now)) c.in_default.ensures.steps.0)
