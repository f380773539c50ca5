use Rattle.std.proofs.Common.{◌≡◌, ◌-◌, length}
use Rattle.macros.proofs.Loop.{Going}
use Rattle.macros.proofs.put_macros.Given as goal

abbrev pub invariant-loop-found : goal.invariant-loop-found
invariant-loop-found l = record {
  own : length l.own ≡ length l.initial.own;
  global : length l.global ≡ length l.initial.global;
  shared : length l.shared ≡ length l.initial.shared;
  kinds : length l.kinds ≡ length l.initial.kinds;
  code : length l.code ≡ length l.initial.code;
  out : length l.out ≡ length l.initial.out;
  going : Going l.library l.globals l.at l.initial.out l.shared l.kinds l.out l.next l.to;
}

abbrev pub decreases-loop-found : goal.decreases-loop-found
decreases-loop-found l = length l.library - l.next
