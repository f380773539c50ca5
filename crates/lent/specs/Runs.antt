-- What a test that is passed in answers. Assumes nothing.
use Rattle.std.specs.Prelude.{ℕ, Bool, ◌≡◌}

-- a call that may give `r` for the byte `c` gives `p c`
abbrev pub IsTest : (ℕ → Bool → Type 0) → (ℕ → Bool) → Type 0
IsTest post p = (c : ℕ) (r : Bool) → post c r → r ≡ p c
