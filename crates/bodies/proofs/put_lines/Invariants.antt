use Rattle.std.proofs.Common.{◌≡◌, ◌+◌, length, false}
use Rattle.text.specs.Bytes.{Bytes}
use Rattle.rules.specs.Choice.{any}
use Rattle.rules.specs.Fields.{lines_of, is_ill_written}
use Rattle.lent.specs.Splice.{splice}
use Rattle.line_reader.specs.Reading.{lines_left}
use Rattle.bodies.specs.Lines.{lines_in}
use Rattle.bodies.proofs.put_lines.Given as goal

abbrev pub invariant-loop-line : goal.invariant-loop-line
invariant-loop-line l =
    let rest : Bytes = lines_in l.names.own.now l.names.global.now l.names.shared.now l.body (lines_left l.line-iterator) in
    let all : Bytes = lines_in l.names.own.now l.names.global.now l.names.shared.now l.body (lines_of l.body) in
    record {
      can : (goal.iterator-loop-line).can_next l.line-iterator;
      finite : (goal.iterator-loop-line).is_finite l.line-iterator;
      code : length l.code ≡ length l.initial.code;
      out : length l.out ≡ length l.initial.out;
      written : any is_ill_written (lines_left l.line-iterator) ≡ false;
      size : l.to + length rest ≡ l.at + length all;
      bytes : splice l.out l.to rest ≡ splice l.initial.out l.at all;
    }
