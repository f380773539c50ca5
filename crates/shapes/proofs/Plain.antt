-- Whether codes are plain, as `all` tests them. Assumes nothing.
use mathlib.Core.Path.{◌≡◌, refl, ap}
use mathlib.Core.Bool.{◌&&◌}
use mathlib.Core.List.{[], ◌∷◌}
use lib.Dec.{ltb}
use Rattle.std.specs.List.{list_all}
use Rattle.text.specs.Bytes.{Bytes}
use Rattle.rules.specs.Choice.{every}
use Rattle.shapes.specs.Shapes.{is_plain_code}

pub all-plain : (s : Bytes) → list_all (λ b. ltb b 128) s ≡ is_plain_code s
unfolding is_plain_code every
all-plain [] = refl
all-plain (b ∷ s) = ap (λ p. ltb b 128 && p) (all-plain s)
