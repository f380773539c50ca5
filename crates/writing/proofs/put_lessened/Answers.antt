-- `writing::put_lessened` meets its contract: what finishing from here writes is what is to be written. Assumes nothing.
use borrow.Author.Rules.{rules}
use native.Mathlib.Nat.{add-zero}
use mathlib.Core.Path.{refl, sym, ◌∙◌}
use lib.ListN.{length-set}
use Rattle.writing.proofs.Writes.{lessened-on, lessened-end}
use Rattle.writing.proofs.put_lessened.Goals as goal

pub loop-i-init : goal.loop-i-init
loop-i-init c =
    (refl, rw add-zero)

pub loop-i-preserved : goal.loop-i-preserved
loop-i-preserved c =
    let a = c.args in
    (simp length-set c.loop-i.invariant.0, lessened-on c.loop-i.out a.s.now a.at c.loop-i.i _ c.saturating_sub.ensures (search rules) ∙ c.loop-i.invariant.1)

pub returns : goal.returns
returns c =
    let a = c.args in
    sym (lessened-end c.loop-i.out a.s.now a.at c.loop-i.i (search rules)) ∙ c.loop-i.invariant.1
