-- The tests of bytes are membership in 01's lists of characters, at each of the 256 bytes.
use Prim.Native.Nat.{ℕ, ◌<◌}
use native.Mathlib.Omega.{arith}
use mathlib.Core.Path.{◌≡◌, refl, sym}
use mathlib.Core.Bool.{Bool, true, beq}
use Rattle.text.specs.Bytes.{Bytes, member}
use Rattle.text.specs.Characters.{letter, digit, in_set, letters, digits, characters}
use Rattle.text.proofs.Runs.{all, answers, beq-is}

module _ (f : ℕ → Bool) (s : Bytes) where
  abbrev agrees : ℕ → Bool
  agrees k = beq (f k) (member k s)

  is_member : all agrees true 256 256 0 ≡ true → (c : ℕ) → c < 256 → f c ≡ member c s
  is_member e c h =
      let t : true ≡ agrees c = answers agrees true 256 256 0 e c (omega arith) (omega arith) (λ p. omega (arith, h, p)) in
      beq-is (f c) (member c s) (sym t)

pub in-set-is : (c : ℕ) → c < 256 → in_set c ≡ member c characters
unfolding in_set characters
in-set-is = is_member in_set characters refl

pub letter-is : (c : ℕ) → c < 256 → letter c ≡ member c letters
unfolding letter letters
letter-is = is_member letter letters refl

pub digit-is : (c : ℕ) → c < 256 → digit c ≡ member c digits
unfolding digit digits
digit-is = is_member digit digits refl
