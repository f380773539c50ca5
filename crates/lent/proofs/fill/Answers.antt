use Rattle.std.proofs.Common.{ℕ, rules, ap, sym, ◌∙◌}
use lib.ListN.{replicate, length-replicate}
use borrow.Rule.Slice.PartMut.{put_mid}
use Rattle.lent.proofs.Writes.{put-part}
use Rattle.lent.proofs.fill.Goals as goal

pub returns : goal.returns
returns c =
    let a = c.args in
    ap (put_mid a.at _ a.out.now) (c.fill.ensures.after (λ y e. e) ∙ ap (λ (n : ℕ). replicate n a.byte) (search rules))
    ∙ put-part a.out.now (replicate a.count a.byte) a.at a.count (sym (length-replicate a.count a.byte)) c.requires
