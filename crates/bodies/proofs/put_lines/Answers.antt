-- `bodies::put_lines` meets its contract: what finishing from here writes is what is to be written. Assumes nothing.
use Rattle.std.proofs.Common.{rules, ◌≡◌, ◌+◌, List, length, refl, ap, ◌∙◌, arith}
use Rattle.text.specs.Bytes.{Bytes}
use Rattle.rules.specs.Choice.{any}
use Rattle.rules.specs.Fields.{lines_of, is_ill_written}
use Rattle.lent.specs.Splice.{splice}
use Rattle.lent.proofs.Writes.{splice-length}
use Rattle.line_reader.specs.Reading.{lines_left}
use Rattle.bodies.specs.Lines.{lines_in}
use Rattle.bodies.proofs.Turns.{all_end, all-splice, line-room, turn-size, turn-splice, turn-good, turn-ready}
use Rattle.bodies.proofs.put_lines.Goals as goal

pub loop-line-init : goal.loop-line-init
loop-line-init c =
    let a = c.args in
    let left : lines_left c.into_iter-line-iterator.result ≡ lines_of a.body.now = ap lines_left (c.into_iter-line-iterator.ensures.into_iter_gives ∙ c.new-line-items.ensures) in
    let bytes : List Bytes → Bytes = lines_in a.names.own.now a.names.global.now a.names.shared.now a.body.now in
    record {
      can = tt;
      finite = tt;
      code = refl;
      out = refl;
      written = ap (any is_ill_written) left ∙ c.requires.all_ready.written;
      size = ap (λ ls. a.at + length (bytes ls)) left;
      bytes = ap (λ ls. splice a.out.now a.at (bytes ls)) left;
    }

pub put_body_line-to-requires : goal.put_body_line-to-requires
put_body_line-to-requires c =
    let a = c.args in
    let i = c.loop-line.invariant in
    let e = c.in-Some.ensures.steps in
    record {
      ready = turn-ready a.names.own.now a.names.global.now a.names.shared.now a.body.now _ _ _ e i.written c.loop-line.code (omega (arith, c.requires.all_ready.fits, i.code)) c.requires.all_ready.lines-count;
      line_in_bounds = line-room a.names.own.now a.names.global.now a.names.shared.now a.body.now _ _ _ e c.loop-line.to _ (length c.loop-line.out) i.size (omega (arith, c.requires.body_in_bounds, i.out));
    }

pub loop-line-preserved : goal.loop-line-preserved
loop-line-preserved c =
    let a = c.args in
    let i = c.loop-line.invariant in
    let e = c.in-Some.ensures.steps in
    let f = c.put_body_line-to.ensures in
    record {
      can = tt;
      finite = tt;
      code = search rules;
      out = ap length f.out_after ∙ (splice-length _ _ _ ∙ i.out);
      written = turn-good a.names.own.now a.names.global.now a.names.shared.now a.body.now _ _ _ e i.written;
      size = turn-size a.names.own.now a.names.global.now a.names.shared.now a.body.now _ _ _ e c.loop-line.to _ _ f.value i.size;
      bytes = turn-splice a.names.own.now a.names.global.now a.names.shared.now a.body.now _ _ _ e c.loop-line.out _ _ c.loop-line.to _ f.value f.out_after i.bytes;
    }

pub returns : goal.returns
returns c =
    let a = c.args in
    let i = c.loop-line.invariant in
    let e = c.in-None.ensures.steps.0 in
    record {
      value = all_end a.names.own.now a.names.global.now a.names.shared.now a.body.now _ e c.loop-line.to _ i.size;
      out_after = all-splice a.names.own.now a.names.global.now a.names.shared.now a.body.now _ e c.loop-line.out _ c.loop-line.to i.bytes;
    }
