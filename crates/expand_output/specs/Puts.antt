-- What a line of output leaves in the output and in the workspace. Assumes nothing.
use Rattle.std.specs.Prelude.{ℕ, Option, Some, None, suc, ◌+◌, ◌-◌, [], ◌∷◌, ◌++◌, ltb, length}
use Rattle.text.specs.Bytes.{Bytes}
use Rattle.rules.specs.Choice.{choose}
use Rattle.rules.specs.Fields.{newline, statement_fields}
use Rattle.rules.specs.Machine.{is_section}
use Rattle.lent.specs.Splice.{splice}
use Rattle.work_frames.specs.Layout.{section_at}

-- where `room` bytes are lent and `pos` are written: a line of n bytes and its newline
unfoldable pub put_at : ℕ → ℕ → ℕ → Option ℕ
put_at room pos n = choose (ltb n (room - pos)) (Some (pos + suc n)) None

unfoldable pub with_line : Bytes → ℕ → Bytes → Bytes
with_line out pos line = choose (ltb (length line) (length out - pos)) (splice out pos (line ++ (newline ∷ []))) out

-- the section's name, kept behind its length
unfoldable pub noted : Bytes → Bytes → Bytes
noted w line = let f = statement_fields line in choose (is_section f.operation) (splice w section_at (length f.name ∷ f.name)) w
