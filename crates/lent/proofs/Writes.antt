-- Bytes written over a lent buffer: what is written, and what stays. Assumes nothing.
use Prim.Native.Nat.{ℕ, suc, ◌+◌, ◌-◌, ◌≤◌}
use native.Mathlib.Nat.{add-zero, add-suc, suc-add, zero-add}
use native.Mathlib.Numerals.{add-one}
use native.Mathlib.Omega.{arith}
use mathlib.Core.Path.{◌≡◌, refl, ap, sym, ◌∙◌}
use mathlib.Core.List.{[], ◌∷◌, ◌++◌, append_assoc}
use lib.ListN.{length, take, drop, set, length-set}
use lib.Seq.{drop-drop, take-append_seam, take-set-le, drop-set-lt, drop_at, length-take-le, sets, sets-eq}
use borrow.Rule.Slice.PartMut.{put_mid}
use Rattle.text.specs.Bytes.{Bytes}
use Rattle.lent.specs.Splice.{splice}

pub splice-length : (out : Bytes) (at : ℕ) (s : Bytes) → length (splice out at s) ≡ length out
unfolding splice
splice-length out at [] = refl
splice-length out at (b ∷ s) = splice-length (set out at b) (suc at) s ∙ length-set out at b

-- one write after another, where the first ends
pub splice-append : (out : Bytes) (at : ℕ) (s t : Bytes) → splice (splice out at s) (at + length s) t ≡ splice out at (s ++ t)
unfolding splice
splice-append out at [] t = rw add-zero
splice-append out at (b ∷ s) t = rw (add-suc, ← suc-add) (splice-append (set out at b) (suc at) s t)

-- a byte, and what is behind it
pub splice-cons : (out : Bytes) (at b : ℕ) (s : Bytes) → splice (set out at b) (at + 1) s ≡ splice out at (b ∷ s)
unfolding splice
splice-cons out at b s = rw add-one

pub two-written : (out : Bytes) (at a b : ℕ) → set (set out at a) (at + 1) b ≡ splice out at (a ∷ (b ∷ []))
unfolding splice
two-written out at a b = rw add-one

pub four-written : (out : Bytes) (at a b c d : ℕ) → set (set (set (set out at a) (at + 1) b) (at + 2) c) (at + 3) d ≡ splice out at (a ∷ (b ∷ (c ∷ (d ∷ []))))
unfolding splice
four-written out at a b c d =
    let e : at + 1 ≡ suc at = omega arith in
    let f : at + 2 ≡ suc (suc at) = omega arith in
    let g : at + 3 ≡ suc (suc (suc at)) = omega arith in
    rw (e, f, g)

-- ---- what is written, and what stays

splice-sets : (out : Bytes) (at : ℕ) (s : Bytes) → splice out at s ≡ sets out at s
unfolding splice
splice-sets out at [] = refl
splice-sets out at (b ∷ s) = splice-sets (set out at b) (suc at) s

pub splice-take-before : (out : Bytes) (at : ℕ) (s : Bytes) (k : ℕ) → k ≤ at → take k (splice out at s) ≡ take k out
unfolding splice
splice-take-before out at [] k h = refl
splice-take-before out at (b ∷ s) k h = splice-take-before (set out at b) (suc at) s k (omega arith) ∙ take-set-le k out at b h

pub splice-drop-behind : (out : Bytes) (at : ℕ) (s : Bytes) (k : ℕ) → at + length s ≤ k → drop k (splice out at s) ≡ drop k out
unfolding splice
splice-drop-behind out at [] k h = refl
splice-drop-behind out at (b ∷ s) k h = splice-drop-behind (set out at b) (suc at) s k (omega arith) ∙ drop-set-lt k out at b (omega arith)

module _ (out : Bytes) (at : ℕ) (s : Bytes) (h : at + length s ≤ length out) where
  pub splice-is : splice out at s ≡ take at out ++ (s ++ drop (at + length s) out)
  splice-is = splice-sets out at s ∙ (sets-eq s out at h ∙ append_assoc (take at out) s (drop (at + length s) out))

  -- from its place on
  pub splice-drop : drop at (splice out at s) ≡ s ++ drop (at + length s) out
  splice-drop = ap (drop at) splice-is ∙ drop_at (take at out) (s ++ drop (at + length s) out) at (length-take-le at out (omega arith))

  pub splice-read : take (length s) (drop at (splice out at s)) ≡ s
  splice-read = ap (take (length s)) splice-drop ∙ take-append_seam s (drop (at + length s) out)

-- `s` put in place of as many bytes, as std's writes to a part of a slice leave it
pub put-part : (out s : Bytes) (at n : ℕ) → n ≡ length s → at + n ≤ length out → put_mid at (at + n - at) out s ≡ splice out at s
put-part out s at n e h =
    let k : at + n - at ≡ length s = omega arith in
    ap (λ (m : ℕ). take at out ++ (s ++ drop m (drop at out))) k
    ∙ (ap (λ (t : Bytes). take at out ++ (s ++ t)) (drop-drop (length s) at out) ∙ sym (splice-is out at s (omega arith)))

pub splice-whole : (out s : Bytes) → length s ≤ length out → splice out 0 s ≡ s ++ drop (length s) out
splice-whole out s h = splice-is out 0 s (omega arith) ∙ ap (λ (n : ℕ). s ++ drop n out) (zero-add (length s))
