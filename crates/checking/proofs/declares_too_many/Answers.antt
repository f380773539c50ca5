-- `checking::declares_too_many` meets its contract: sums of small counts. Assumes nothing.
use native.Mathlib.Omega.{arith}
use mathlib.Core.Bool.{not}
use Rattle.text.specs.Bytes.{same}
use Rattle.rules.specs.Choice.{any}
use Rattle.names.specs.Names.{names_in}
use Rattle.kinds.specs.Kinds.{set_of}
use Rattle.declaring.specs.Declared.{symbols_in}
use Rattle.declaring.proofs.Symbols.{symbols-few}
use Rattle.checking.specs.Body.{Tables}
use Rattle.checking.proofs.Tested.{global-many, count-few}
use Rattle.checking.proofs.declares_too_many.Goals as goal

pub overflow_add-result : goal.overflow_add-result
overflow_add-result c = omega (arith, c.symbol_count-count.ensures, symbols-few c.args.operand.now)

pub overflow_add-result-in-Some-Gbl : goal.overflow_add-result-in-Some-Gbl
overflow_add-result-in-Some-Gbl c =
    let a = c.args in
    omega (arith, c.new_count-new.ensures, symbols-few a.operand.now, count-few (λ n. not (any (same n) (names_in a.shared.now))) (symbols_in a.operand.now))

pub returns-in-Some-Gbl : goal.returns-in-Some-Gbl
returns-in-Some-Gbl c = λ own global kinds.
    let a = c.args in
    let arm = c.in-Some-Gbl in
    let t : Tables = record { own = own; global = global; shared = a.shared.now; kinds = kinds } in
    rw arm.is (rw (rw arm.is at arm.field-0-is) (global-many t a.locals a.operand.now (set_of arm.field-0-0) _ _ c.symbol_count-count-in-Some-Gbl.ensures c.new_count-new.ensures))
