-- Three texts one behind another, and the parts that their ends cut out. Assumes nothing.
use Prim.Native.Nat.{ℕ, ◌+◌, ◌-◌, ◌≤◌, min}
use native.Mathlib.Omega.{arith}
use mathlib.Core.Path.{◌≡◌, ap, sym, ◌∙◌}
use mathlib.Core.List.{[], ◌++◌}
use lib.Dec.{leb}
use lib.ListN.{length, take, drop, length-drop, drop_of_length-le}
use lib.Seq.{take-append_seam, drop-append_seam, drop-append-add, take-length, drop-length, take_all, drop-drop}
use borrow.Author.Tests.{leb-true, leb-false}
use Rattle.text.specs.Bytes.{Bytes}
use Rattle.rules.proofs.Choices.{by}
use Rattle.shapes.specs.Shapes.{part}

pub part_none : (s : Bytes) (k : ℕ) → part s k k ≡ []
unfolding part
part_none s k = let e : k - k ≡ 0 = omega arith in ap (λ (m : ℕ). take m (drop k s)) e

module _ (k : ℕ) (c : Bytes) where
  front : take (min k (length c)) c ≡ take k c
  front =
      by (leb k (length c)) (λ h. let e : min k (length c) ≡ k = omega (arith, leb-true k (length c) h) in ap (λ (m : ℕ). take m c) e)
      (λ h. let g : length c ≤ k = omega (arith, leb-false k (length c) h) in let e : min k (length c) ≡ length c = omega arith in ap (λ (m : ℕ). take m c) e ∙ (take-length c ∙ sym (take_all k c g)))

  dropped : drop (min k (length c)) c ≡ drop k c
  dropped =
      by (leb k (length c)) (λ h. let e : min k (length c) ≡ k = omega (arith, leb-true k (length c) h) in ap (λ (m : ℕ). drop m c) e)
      (λ h. let g : length c ≤ k = omega (arith, leb-false k (length c) h) in let e : min k (length c) ≡ length c = omega arith in ap (λ (m : ℕ). drop m c) e ∙ (drop-length c ∙ sym (drop_of_length-le c g)))

  back : take (length c - min k (length c)) (drop (min k (length c)) c) ≡ drop k c
  back = take_all (length c - min k (length c)) (drop (min k (length c)) c) (omega (arith, length-drop (min k (length c)) c)) ∙ dropped

module _ (a b c : Bytes) where
  pub first_part : take (length a) (a ++ (b ++ c)) ≡ a
  first_part = take-append_seam a (b ++ c)

  pub second-part : part (a ++ (b ++ c)) (length a) (length a + length b) ≡ b
  unfolding part
  second-part =
      let n : length a + length b - length a ≡ length b = omega arith in
      ap (λ (m : ℕ). take m (drop (length a) (a ++ (b ++ c)))) n ∙ (ap (take (length b)) (drop-append_seam a (b ++ c)) ∙ take-append_seam b c)

  behind-two : drop (length a + length b) (a ++ (b ++ c)) ≡ c
  behind-two = drop-append-add a (b ++ c) (length b) ∙ drop-append_seam b c

  pub third-part : part (a ++ (b ++ c)) (length a + length b) (length a + length b + length c) ≡ c
  unfolding part
  third-part =
      let n : length a + length b + length c - (length a + length b) ≡ length c = omega arith in
      ap (λ (m : ℕ). take m (drop (length a + length b) (a ++ (b ++ c)))) n ∙ (ap (take (length c)) behind-two ∙ take-length c)

  -- the first k of the third text, and the others
  pub third-front : (k : ℕ) → part (a ++ (b ++ c)) (length a + length b) (length a + length b + min k (length c)) ≡ take k c
  unfolding part
  third-front k =
      let n : length a + length b + min k (length c) - (length a + length b) ≡ min k (length c) = omega arith in
      ap (λ (m : ℕ). take m (drop (length a + length b) (a ++ (b ++ c)))) n ∙ (ap (take (min k (length c))) behind-two ∙ front k c)

  pub third-rest : (k : ℕ) → part (a ++ (b ++ c)) (length a + length b + min k (length c)) (length a + length b + length c) ≡ drop k c
  unfolding part
  third-rest k =
      let n : length a + length b + length c - (length a + length b + min k (length c)) ≡ length c - min k (length c) = omega arith in
      ap (λ (m : ℕ). take m (drop (length a + length b + min k (length c)) (a ++ (b ++ c)))) n
      ∙ (ap (take (length c - min k (length c))) (sym (drop-drop (min k (length c)) (length a + length b) (a ++ (b ++ c))) ∙ ap (drop (min k (length c))) behind-two) ∙ back k c)
