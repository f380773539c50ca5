use Rattle.std.proofs.Common.{refl, ap, ◌∙◌}
use borrow.Rule.Slice.PartMut.{put_mid}
use Rattle.lent.proofs.Writes.{put-part}
use Rattle.lent.proofs.copy.Goals as goal

pub returns : goal.returns
returns c =
    let a = c.args in
    ap (put_mid a.at _ a.out.now) c.copy_from_slice.ensures.after ∙ put-part a.out.now a.s.now a.at _ refl c.requires
