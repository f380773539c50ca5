use Rattle.deck_reading.proofs.Lines.{keyword-read, no_run, next_run}
use Rattle.deck_reading.proofs.read_keyword.Goals as goal

pub returns-in_err-default : goal.returns-in_err-default
returns-in_err-default c = rw c.from_residual.ensures (keyword-read c.args.s.now _ _ _ c.in_err-default.ensures (no_run c.args.s.now))

pub returns : goal.returns
returns c = keyword-read c.args.s.now _ _ _ c.in_ok-default.ensures (next_run c.args.s.now _ _ c.read_string-2.ensures)
