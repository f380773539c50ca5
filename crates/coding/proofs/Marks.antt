-- An attribute mark is told by the byte behind it; and the code's tests, joined as the definition joins them. Assumes nothing.
use Prim.Native.Nat.{ℕ}
use mathlib.Core.Path.{◌≡◌, refl}
use mathlib.Core.Bool.{Bool, true, false, ◌&&◌, ◌||◌}
use mathlib.Core.List.{[], ◌∷◌}
use lib.ListN.{get_or}
use Rattle.text.specs.Bytes.{Bytes}
use Rattle.text.specs.Characters.{letter}
use Rattle.rules.specs.Lexemes.{Before, follows, is_mark}

pub mark-told : (b : Before) (c : ℕ) (s : Bytes) → is_mark b c s ≡ is_mark b c (get_or s 0 0 ∷ [])
unfolding is_mark follows letter
mark-told b c [] = refl
mark-told b c (d ∷ s) = refl

pub all-five : (a b c d e : Bool) → ((((a && b) && c) && d) && e) ≡ (a && (b && (c && (d && e))))
all-five true true true d e = refl
all-five true true false d e = refl
all-five true false c d e = refl
all-five false b c d e = refl

pub any-four : (a b c d : Bool) → (((a || b) || c) || d) ≡ (a || (b || (c || (d || false))))
any-four true b c d = refl
any-four false true c d = refl
any-four false false true d = refl
any-four false false false true = refl
any-four false false false false = refl
