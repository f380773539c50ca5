use mathlib.Core.Path.{◌≡◌, sym, ◌∙◌}
use lib.ListN.{length}
use native.Mathlib.Omega.{arith}
use Rattle.forms.proofs.Pairing.{from_start, pair-none, pair_found, pair-on}
use Rattle.forms.proofs.pair_at.Goals as goal

pub returns-then-pairs : goal.returns-then-pairs
returns-then-pairs c = (λ kinds. sym (pair_found kinds _ _ _ _ c.loop-at-test.true (c.text_at-c.ensures kinds) (sym c.pairs.ensures ∙ c.if-pairs.true)) ∙ sym (c.loop-at.invariant.0 kinds) ∙ from_start kinds _, omega arith)

pub depth_after-depth-requires : goal.depth_after-depth-requires
depth_after-depth-requires c = omega (arith, c.loop-at.invariant.1)

pub loop-at-preserved : goal.loop-at-preserved
loop-at-preserved c = (λ kinds. c.loop-at.invariant.0 kinds ∙ pair-on kinds _ _ _ _ c.loop-at-test.true (c.text_at-c.ensures kinds) (sym c.pairs.ensures ∙ c.if-pairs.false) c.quoted_after-quoted.ensures c.depth_after-depth.ensures.0, omega (arith, c.depth_after-depth.ensures.1, c.loop-at.invariant.1))

pub returns : goal.returns
returns c = let same : length c.args.code.now ≡ c.loop-at.at = omega (arith, c.loop-at.auto.at-end) in (λ kinds. same ∙ sym (pair-none kinds _ _ _ _ c.loop-at-test.false) ∙ sym (c.loop-at.invariant.0 kinds) ∙ from_start kinds _, omega arith)
