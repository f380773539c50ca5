-- Where the lines of a file end, by place. That they are the lines of 01 is proofs/Found.antt. Assumes nothing.
use Rattle.std.specs.Prelude.{ℕ, ◌+◌, ◌-◌, Bool, not, eqb, ltb, length, take, drop}
use Rattle.text.specs.Bytes.{Bytes}
use Rattle.rules.specs.Choice.{choose, run}
use Rattle.rules.specs.Fields.{newline}

abbrev pub in_line : ℕ → Bool
in_line c = not (eqb c newline)

-- the newline that ends the line which starts at `at`, or the file's end
unfoldable pub line_end : Bytes → ℕ → ℕ
line_end file at = at + run in_line (drop at file)

-- the line that starts at `at`
abbrev pub line_at : Bytes → ℕ → Bytes
line_at file at = take (line_end file at - at) (drop at file)

-- behind a line that ends at `end`: behind its newline, if it has one
unfoldable pub past_newline : Bytes → ℕ → ℕ
past_newline file end = choose (ltb end (length file)) (end + 1) end
