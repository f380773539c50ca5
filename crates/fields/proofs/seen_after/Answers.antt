use Rattle.fields.specs.Seen.{seen_after}
use Rattle.fields.proofs.seen_after.Goals as goal

pub returns : goal.returns
unfolding seen_after
returns c = (λ i. record { second = c.args.seen.first; first = c.args.c; quoted = c.quoted_after-quoted.ensures i; depth = c.depth_after-depth.ensures.0 i }, c.depth_after-depth.ensures.1)
