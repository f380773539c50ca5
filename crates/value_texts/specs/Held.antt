-- What code keeps of a string while a statement is looked at: its true length, whether one on the way to it was over 255 bytes, and its bytes while they count.
use Rattle.std.specs.Prelude.{ℕ, ◌+◌, Bool, ◌||◌, [], ◌++◌, ltb, length, take}
use Rattle.text.specs.Bytes.{Bytes}
use Rattle.rules.specs.Choice.{choose}
use Rattle.rules.specs.Limits.{string_limit}
use Rattle.rules.specs.Evaluate.{Chars}
use Rattle.value_texts.specs.declared.Text.{Text}

pub record Held : Type 0 where
  pub bytes : Bytes
  pub size : ℕ
  pub over : Bool

-- no byte counts of a string that will be refused
unfoldable pub keeping : Bool → ℕ → Bytes → Bytes
keeping over n s = choose (over || ltb string_limit n) [] s

-- what is kept of a string of the rules
unfoldable pub cut : Chars → Held
cut c = record { bytes = keeping c.over (length c.bytes) c.bytes; size = length c.bytes; over = c.over }

-- what a buffer and a text's numbers hold
unfoldable pub held_in : Bytes → Text → Held
held_in out t = record { bytes = keeping t.over t.size (take t.size out); size = t.size; over = t.over }

-- a string with more bytes behind it; and measured
unfoldable pub joined_held : Held → Bytes → Held
joined_held h s = record { bytes = keeping h.over (h.size + length s) (h.bytes ++ s); size = h.size + length s; over = h.over }

unfoldable pub measured_held : Held → Held
measured_held h = record { bytes = h.bytes; size = h.size; over = h.over || ltb string_limit h.size }
