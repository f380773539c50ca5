-- A lent buffer with bytes written over it from a place on; its length stays. Assumes nothing.
use Rattle.std.specs.Prelude.{ℕ, suc, [], ◌∷◌, set}
use Rattle.text.specs.Bytes.{Bytes}

unfoldable pub splice : Bytes → ℕ → Bytes → Bytes
splice out at [] = out
splice out at (b ∷ s) = splice (set out at b) (suc at) s
