-- `put_front` meets its contract: the version, the kinds and the number, one behind another. Assumes nothing.
use native.Mathlib.Omega.{arith}
use mathlib.Core.Path.{◌≡◌, ◌∙◌}
use lib.ListN.{length, set, length-set}
use Rattle.deck.specs.Coding.{two}
use Rattle.writing.proofs.Writes.{kept-length}
use Rattle.macros.proofs.Whole.{front-done}
use borrow.Author.Rules.{rules}
use Rattle.macros.proofs.put_front.Goals as goal

pub put_kinds-end-requires : goal.put_kinds-end-requires
put_kinds-end-requires c =
    let h = c.requires in
    (omega (arith, h.0, h.1.1, length-set c.args.out.now 4 1), omega (arith, h.0))

pub put_two-requires : goal.put_two-requires
put_two-requires c =
    let h = c.requires in
    let l : length c.put_kinds-end.new.out ≡ length (set c.args.out.now 4 1) = search rules in
    (omega (arith, h.0, h.1.1, l, length-set c.args.out.now 4 1), h.1.0)

pub shape_of-out : goal.shape_of-out
shape_of-out c =
    let l : length c.put_kinds-end.new.out ≡ length (set c.args.out.now 4 1) = search rules in
    kept-length _ _ _ _ c.put_two.ensures ∙ (l ∙ length-set c.args.out.now 4 1)

pub returns : goal.returns
unfolding two
returns c =
    let a = c.args in
    λ ks is. front-done a.kinds.now ks is a.count a.out.now _ _ (c.put_kinds-end.ensures ks is).1 c.put_two.ensures
