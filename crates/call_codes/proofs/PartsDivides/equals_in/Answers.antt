use native.Mathlib.Omega.{arith}
use Rattle.call_codes.proofs.Keywords.{has-told, named-same, stand-plain, stand-unnamed, stand-equals, stand-single}
use Rattle.call_codes.proofs.PartsDivides.equals_in.Goals as goal

pub returns : goal.returns
returns c =
    let p = c.args.part.now in
    let end = c.bare_at.result in
    let e = c.bare_at.ensures.value in record {
      inside = omega (arith, c.bare_at.ensures.lower_bound);
      has = has-told p end e;
      named = λ n t. named-same p end e n t;
      plain = λ k xs h. stand-plain p end e k xs h;
      unnamed = λ k xs h f. stand-unnamed p end e k xs h f;
      again = λ k xs h n f. stand-equals p end e k xs h n f;
      single = λ k xs h n f. stand-single p end e k xs h n f;
    }
