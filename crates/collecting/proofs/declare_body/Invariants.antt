use Rattle.std.proofs.Common.{◌≡◌, length}
use Rattle.rules.specs.Fields.{lines_of}
use Rattle.line_reader.specs.Reading.{lines_left}
use Rattle.collecting.specs.Bodies.{Fits}
use Rattle.collecting.proofs.Bodies.{Completes}
use Rattle.collecting.proofs.declare_body.Given as goal

abbrev pub invariant-loop-line : goal.invariant-loop-line
invariant-loop-line l = record {
  can : (goal.iterator-loop-line).can_next l.line-iterator;
  finite : (goal.iterator-loop-line).is_finite l.line-iterator;
  own : length l.own ≡ length l.initial.own;
  global : length l.global ≡ length l.initial.global;
  shared : length l.shared ≡ length l.initial.shared;
  kinds : length l.kinds ≡ length l.initial.kinds;
  fits : Fits (lines_left l.line-iterator) l.count;
  completes : Completes (lines_of l.body) l.initial.count l.initial.own l.initial.global l.initial.shared l.initial.kinds (lines_left l.line-iterator) l.count l.own l.global l.shared l.kinds;
}
