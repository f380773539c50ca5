-- Either more of the input is shown than before, or the window shows all of it that it can.
use Rattle.std.proofs.Common.{[], arith, subst, sym}
use Rattle.std.specs.Io.KnownBytes.{Appends}
use Rattle.std.proofs.KnownBytes.{Keeps-refl, Appends-nil}
use Rattle.rules.proofs.Choices.{chosen, passed_over}
use Rattle.translate_batch.specs.Answering.{message}
use Rattle.translate_batch.proofs.Windows.{stands-on, shrinks, stuck}
use Rattle.translate_batch.proofs.more.Goals as goal

pub returns-then-place-now : goal.returns-then-place-now
returns-then-place-now g c = λ whole place stands.
    let now = c.refill.new.window in
    let n = c.in_ok-now.now in
    let e = c.in_ok-now.ensures in (
      stands-on whole place c.args.window.now now c.args.place.at c.args.place.used n _ _ stands e.bounds.1 e.left,
      shrinks whole place c.args.window.now now c.args.place.at c.args.place.used n _ _ stands e.bounds.1 e.left (omega arith),
      Keeps-refl (g.E.Write.contents c.args.errors.now),
    )

pub returns-in_ok-write_all : goal.returns-in_ok-write_all
unfolding message
returns-in_ok-write_all g c = λ whole place stands.
    let e = c.in_ok-now.ensures in (
      stuck whole place c.args.window.now c.refill.new.window c.args.place.at c.args.place.used c.in_ok-now.now _ _ stands e.bounds.1 e.left e.bounds.0 (omega arith) e.front e.end,
      subst (Appends (g.E.Write.contents c.args.errors.now) (g.E.Write.contents c.write_all.new.self)) (sym (passed_over [] message c.if-not-ended.true)) c.in_ok-write_all.ensures.bytes,
    )

pub returns-else-not-ended : goal.returns-else-not-ended
returns-else-not-ended g c = λ whole place stands.
    let e = c.in_ok-now.ensures in (
      stuck whole place c.args.window.now c.refill.new.window c.args.place.at c.args.place.used c.in_ok-now.now _ _ stands e.bounds.1 e.left e.bounds.0 (omega arith) e.front e.end,
      subst (Appends (g.E.Write.contents c.args.errors.now) (g.E.Write.contents c.args.errors.now)) (sym (chosen [] message c.if-not-ended.false)) (Appends-nil (g.E.Write.contents c.args.errors.now)),
    )
