use mathlib.Core.Path.{◌≡◌}
use Rattle.rules.specs.Faults.{has_other_kind}
use Rattle.kinds.specs.Kinds.{set_of}
use Rattle.declaring.specs.Declared.{globals_in}
use Rattle.declaring.proofs.Tables.{other_from}
use Rattle.declaring.proofs.has_other_kind.Given as goal

abbrev pub invariant-loop-i : goal.invariant-loop-i
invariant-loop-i l =
    has_other_kind (set_of l.set) (globals_in l.shared l.kinds) l.name ≡ other_from l.shared l.kinds l.name (set_of l.set) l.i
