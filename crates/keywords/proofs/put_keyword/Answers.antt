-- `keywords::put_keyword` meets its contract: the part is no keyword, or its name and default are written one behind the other. Assumes nothing.
use Rattle.std.proofs.Common.{length, ◌+◌, ◌<◌, ◌≤◌, arith, ap, sym, ◌∙◌}
use Rattle.deck.specs.Coders.{string}
use Rattle.lent.specs.Splice.{splice}
use Rattle.lent.proofs.Writes.{splice-length}
use Rattle.keywords.specs.Keywords.{keyword_found, keywords_code}
use Rattle.keywords.proofs.Coded.{then-written, nothing_written, one_code, one-length, string-length}
use Rattle.keywords.proofs.put_keyword.Goals as goal

pub put_string-next-requires : goal.put_string-next-requires
put_string-next-requires c =
    let n = one-length c.in-Some.name.now c.in-Some.default.now (sym c.keyword_in.ensures.value ∙ ap keyword_found c.in-Some.is) in
    let l : length c.in-Some.name.now < 65536 = omega (arith, c.in-Some.ensures.within.0, c.requires.0) in
    let r : c.args.at + 2 + length c.in-Some.name.now ≤ length c.args.out.now = omega (arith, n, c.requires.1) in
    (l, r)

pub put_string-requires : goal.put_string-requires
put_string-requires c =
    let n = one-length c.in-Some.name.now c.in-Some.default.now (sym c.keyword_in.ensures.value ∙ ap keyword_found c.in-Some.is) in
    let w = c.put_string-next.ensures in
    let same = ap length w.out_after ∙ splice-length c.args.out.now c.args.at (string.put c.in-Some.name.now) in
    (omega (arith, c.in-Some.ensures.within.1, c.requires.0), omega (arith, n, w.value, same, c.requires.1))

pub returns-in-Some : goal.returns-in-Some
returns-in-Some c =
    let a = c.args in
    let name = c.in-Some.name.now in
    let default = c.in-Some.default.now in
    let k = sym c.keyword_in.ensures.value ∙ ap keyword_found c.in-Some.is in
    let n = one-length name default k in
    let w = c.put_string-next.ensures in
    let v = c.put_string.ensures in
    record {
      value = omega (arith, n, w.value, v.value);
      out_after = then-written a.out.now a.at (string.put name) (string.put default) w.out_after (omega (arith, w.value, string-length name)) v.out_after ∙ ap (splice a.out.now a.at) (sym (ap keywords_code k ∙ one_code name default));
    }

pub returns-in-None : goal.returns-in-None
returns-in-None c =
    let whole = nothing_written c.args.out.now c.args.at (sym c.keyword_in.ensures.value ∙ ap keyword_found c.in-None.is) in
    record { value = whole.0; out_after = whole.1 }
