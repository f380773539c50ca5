-- `body_step` meets its contract: the line is looked up, and done. Assumes nothing.
use Prim.Native.Nat.{◌<◌}
use mathlib.Core.Path.{sym, ap, ◌∙◌, subst}
use Rattle.expand_levels.specs.declared.Level.{Level}
use Rattle.work_frames.specs.Frames.{index_in}
use Rattle.work_frames.specs.Indexed.{found_in}
use Rattle.expand_steps.proofs.Deciding.{bodily-there, bodily-behind}
use Rattle.expand_steps.proofs.body_step.Goals as goal

pub line_place-requires : goal.line_place-requires
line_place-requires c = subst (λ (l : Level). l.body < 32) (sym c.top-level.ensures) c.requires.5

pub line_step-requires : goal.line_step-requires
line_step-requires c = let p = c.requires in let s = c.line_place.ensures.1 _ c.in-Some.is in (p.0, p.1, p.2, (p.3, p.4, subst (λ (l : Level). l.line < 65535) c.top-level.ensures s.0))

pub leaves-requires : goal.leaves-requires
leaves-requires c = (c.requires.3, c.requires.4)

pub returns-in-Some : goal.returns-in-Some
returns-in-Some c = bodily-there c.args.deck.now c.args.work.now c.args.run _ _ (c.line_place.ensures.0 ∙ ap (λ (l : Level). found_in (index_in c.args.work.now) l.body l.line) c.top-level.ensures) c.requires.5 _ _ _ _ c.in-Some.is c.line_step.ensures

pub returns-in-None : goal.returns-in-None
returns-in-None c = bodily-behind c.args.deck.now c.args.work.now c.args.run _ _ (c.line_place.ensures.0 ∙ ap (λ (l : Level). found_in (index_in c.args.work.now) l.body l.line) c.top-level.ensures) c.requires.5 _ c.in-None.is c.leaves.ensures
