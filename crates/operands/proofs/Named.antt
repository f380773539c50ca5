-- What stands before a part's `=`. Assumes nothing.
use Prim.Native.Nat.{ℕ, ◌+◌}
use mathlib.Core.Path.{◌≡◌, ap}
use mathlib.Core.Bool.{true}
use lib.ListN.{take}
use Rattle.text.specs.Bytes.{Bytes}
use Rattle.rules.specs.Lexemes.{equals, lexed}
use Rattle.rules.specs.Faults.{has_long_symbol, before_equals}
use Rattle.parts.specs.Parts.{bare_at}
use Rattle.declared.proofs.Keyword.{before-told}

pub long-before : (p : Bytes) (end : ℕ) → end ≡ 0 + bare_at equals p → has_long_symbol (before_equals (lexed true p)) ≡ has_long_symbol (lexed true (take end p))
long-before p end e = ap has_long_symbol (before-told p end e)
