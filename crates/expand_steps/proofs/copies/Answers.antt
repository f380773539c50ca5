-- `copies` meets its contract: put out, and the section's name noted; or refused. Assumes nothing.
use mathlib.Core.Path.{refl}
use Rattle.expand_steps.proofs.Copying.{copied-told, not-copied-told}
use Rattle.expand_steps.proofs.copies.Goals as goal

pub returns-in-Some : goal.returns-in-Some
returns-in-Some c = let p = c.requires in λ deck. copied-told deck c.args.out.now c.args.work.now c.args.line.now c.args.run c.args.running p.0 p.1 p.2 p.4 p.5 _ c.put_out.ensures.0 _ _ _ c.put_out.ensures.1 _ c.in-Some.is c.note_section.ensures c.put_to.ensures

pub returns-in-None : goal.returns-in-None
returns-in-None c = let p = c.requires in λ deck. not-copied-told deck c.args.out.now c.args.work.now c.args.line.now c.args.run c.args.running p.0 p.1 p.2 p.4 p.5 _ c.put_out.ensures.0 _ _ _ c.put_out.ensures.1 c.in-None.is refl c.refuse.ensures
