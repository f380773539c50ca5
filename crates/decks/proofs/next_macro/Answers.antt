use Rattle.std.proofs.Common.{rules, refl, arith, ◌<◌, length}
use Rattle.decks.specs.Decks.{Found}
use Rattle.decks.proofs.Turns.{body-within}
use Rattle.decks.proofs.next_macro.Goals as goal

pub returns-then-library-start : goal.returns-then-library-start
returns-then-library-start c = omega (arith, c.prototype_start-start.ensures.value, c.if-library-start.true)

pub slice_bounds-result-end-2 : goal.slice_bounds-result-end-2
slice_bounds-result-end-2 c =
    let f : Found c.args.library.now c.args.at _ _ _ _ = record { start_is = c.prototype_start-start.ensures.value; end_is = c.line_end-end.ensures.value; body_is = c.past_newline-body.ensures; next-is = c.body_end-next.ensures.value } in
    let h : c.prototype_start-start.result < length c.args.library.now = search rules in
    omega (arith, body-within f h, c.body_end-next.ensures.lower_bound)

pub returns : goal.returns
returns c =
    record {
      start = c.prototype_start-start.result;
      end = c.line_end-end.result;
      from = c.past_newline-body.result;
      found = record { start_is = c.prototype_start-start.ensures.value; end_is = c.line_end-end.ensures.value; body_is = c.past_newline-body.ensures; next-is = c.body_end-next.ensures.value };
      inside = search rules;
      prototype = refl;
      body = refl;
    }
