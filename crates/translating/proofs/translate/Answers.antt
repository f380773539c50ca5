-- `translating::translate` meets its contract: checked, and then written or refused. Assumes nothing.
use native.Mathlib.Omega.{arith}
use Rattle.std.proofs.lemmas.Result.{err_from_is_err_and}
use Rattle.translating.proofs.Checked.{is-accepted, lists-globals, is-refused}
use Rattle.translating.proofs.translate.Goals as goal

pub write-requires : goal.write-requires
write-requires c =
    let e = c.check.ensures in
    let q = c.in_ok-globals.was in
    (is-accepted _ _ _ e.result_value q, (record { sizes = record { own-size = omega arith; global-size = omega arith; shared-size = omega arith; kinds-size = omega arith }; codes = omega arith }, lists-globals _ _ _ _ _ e.lists q))

pub returns-in_err-globals : goal.returns-in_err-globals
returns-in_err-globals c =
    let p = err_from_is_err_and c.from_residual.result c.from_residual.ensures.1 in
    rw (p.1, p.2) (is-refused c.args.library.now c.args.deck.now c.check.result _ c.check.ensures.result_value c.in_err-globals.was)
