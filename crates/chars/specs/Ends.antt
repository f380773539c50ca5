-- Where the letters and digits of a text end, by place. Assumes nothing.
use Rattle.std.specs.Prelude.{ℕ, ◌+◌, drop}
use Rattle.text.specs.Bytes.{Bytes}
use Rattle.text.specs.Characters.{letter_or_digit}
use Rattle.rules.specs.Choice.{run}

unfoldable pub symbol_end : Bytes → ℕ → ℕ
symbol_end s at = at + run letter_or_digit (drop at s)
