-- `writing::put_kinds` meets its contract: the count, and then the kinds. Assumes nothing.
use Prim.Native.Nat.{◌+◌}
use mathlib.Core.Path.{refl, ap, ◌∙◌}
use lib.ListN.{length}
use Rattle.deck.specs.Coding.{two}
use Rattle.lent.specs.Splice.{splice}
use Rattle.writing.specs.Bytes.{lessened}
use Rattle.writing.proofs.Writes.{both-written}
use Rattle.writing.proofs.Coded.{kinds-bytes, kinds-end}
use Rattle.writing.proofs.put_kinds.Goals as goal

pub returns : goal.returns
unfolding two
returns c =
    let a = c.args in
    let s = a.kinds.now in
    λ ks is. (
      kinds-end s ks is a.at,
      both-written a.out.now a.at (two.put (length s)) (lessened s) (a.at + 2) refl _ _ c.put_two.ensures c.put_lessened.ensures
          ∙ ap (splice a.out.now a.at) (kinds-bytes s ks is),
    )
