-- What 01 says of a library, a program and two buffers, with no deck in sight: the library's fault, or what expanding by its own lines gives.
use Rattle.std.specs.Prelude.{ℕ}
use Rattle.text.specs.Bytes.{Bytes}
use Rattle.rules.specs.Machine.{Outcome}
use Rattle.rules.specs.ByLines.{by_lines}
use Rattle.rules.specs.Faults.{accepted, faulty, verdict}

pub data Meaning : Type 0 where
  -- number and line; nothing is expanded
  refused_library : ℕ → ℕ → Meaning
  expanded : Outcome → Meaning

unfoldable pub meaning : Bytes → Bytes → Bytes → Bytes → Meaning
meaning library program out work = elim (verdict library) [ accepted ↦ expanded (by_lines library program out work) | faulty e n ↦ refused_library e n ]
