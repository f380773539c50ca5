-- The bytes up to the end of a line that passes a test hold the lines up to it; the bytes behind hold the other lines. Assumes nothing.
use Prim.Native.Nat.{ℕ, zero, suc, ◌+◌, ◌-◌, ◌≤◌, ◌<◌, min}
use native.Mathlib.Nat.{zero-add, add-zero, suc-add, sub-zero, not-suc-le-zero}
use native.Mathlib.Omega.{arith}
use mathlib.Core.Path.{◌≡◌, refl, ap, sym, ◌∙◌}
use mathlib.Core.Bool.{Bool, true, false}
use mathlib.Core.List.{List, [], ◌∷◌}
use lib.Dec.{leb, ltb}
use lib.ListN.{length, take, drop, length-take, length-drop, drop_of_length-le}
use lib.Seq.{length-take-le, take_all, take-nil, take-take, drop-drop}
use borrow.Author.Tests.{leb-true, leb-false, ltb-true, ltb-false}
use Rattle.text.specs.Bytes.{Bytes}
use Rattle.rules.specs.Choice.{choose, run}
use Rattle.rules.specs.Fields.{lines_of}
use Rattle.rules.proofs.Choices.{chosen, passed_over, by}
use Rattle.lines.specs.Ends.{in_line, line_end}
use Rattle.lines.proofs.Found.{line-found}
use Rattle.statements.proofs.Symbols.{run-within}
use Rattle.labels.specs.Searches.{up_to, beyond, size_of, behind}

-- ---- parts of lists

drop-take : {A : Type 0} (n m : ℕ) (l : List A) → drop n (take (n + m) l) ≡ take m (drop n l)
drop-take zero m l = ap (λ (k : ℕ). take k l) (zero-add m)
drop-take (suc n) m [] = ap (drop (suc n)) (take-nil (suc n + m)) ∙ sym (take-nil m)
drop-take (suc n) m (a ∷ l) = ap (λ (k : ℕ). drop (suc n) (take k (a ∷ l))) (suc-add n m) ∙ drop-take n m l

-- a run that ends inside a front of the list
run-front : {A : Type 0} (test : A → Bool) (l : List A) (n : ℕ) → run test l < n → run test (take n l) ≡ run test l
unfolding run
run-front test [] n h = ap (run test) (take-nil n)
run-front test (a ∷ l) zero h = absurd (not-suc-le-zero h)
run-front test (a ∷ l) (suc n) h = by (test a)
    (λ e.
    let q = chosen (suc (run test l)) 0 e in
    let k : run test l < n = omega (arith, h, q) in
    chosen (suc (run test (take n l))) 0 e ∙ (ap suc (run-front test l n k) ∙ sym q))
    (λ e. passed_over (suc (run test (take n l))) 0 e ∙ sym (passed_over (suc (run test l)) 0 e))

module _ {A : Type 0} (n : ℕ) (l : List A) where
  take_min : take (min n (length l)) l ≡ take n l
  take_min = by (leb n (length l))
      (λ e. let h = leb-true n (length l) e in let q : min n (length l) ≡ n = omega arith in ap (λ (k : ℕ). take k l) q)
      (λ e. let h = leb-false n (length l) e in take_all (min n (length l)) l (omega arith) ∙ sym (take_all n l (omega arith)))

  drop_min : drop (min n (length l)) l ≡ drop n l
  drop_min = by (leb n (length l))
      (λ e. let h = leb-true n (length l) e in let q : min n (length l) ≡ n = omega arith in ap (λ (k : ℕ). drop k l) q)
      (λ e. let h = leb-false n (length l) e in drop_of_length-le l {i = min n (length l)} (omega arith) ∙ sym (drop_of_length-le l {i = n} (omega arith)))

-- ---- the first line of a text

-- where it ends
abbrev first : Bytes → ℕ
first s = run in_line s

first-line : (s : Bytes) → 0 < length s → lines_of s ≡ take (first s) s ∷ lines_of (drop (suc (first s)) s)
unfolding line_end
first-line s h =
    let z = zero-add (run in_line s) in
    line-found s 0 h ∙ (λ i. take ((ap (◌- 0) z ∙ sub-zero (run in_line s)) i) s ∷ lines_of (drop (suc (z i)) s))

-- of a front of the text that goes on behind the first line
front-lines : (s : Bytes) (m : ℕ) → 0 < length s → lines_of (take (suc (first s) + m) s) ≡ take (first s) s ∷ lines_of (take m (drop (suc (first s)) s))
front-lines s m h =
    let n = suc (first s) + m in
    let there : 0 < length (take n s) = let k = length-take n s in omega (arith, k) in
    let e = run-front in_line s n (omega arith) in
    first-line (take n s) there ∙ ((λ i. take (e i) (take n s) ∷ lines_of (drop (suc (e i)) (take n s)))
    ∙ (λ i. take-take (first s) n s (omega arith) i ∷ lines_of (drop-take (suc (first s)) m s i)))

first-length : (s : Bytes) → length (take (first s) s) ≡ first s
first-length s = length-take-le (first s) s (run-within in_line s)

-- ---- the lines up to one that passes the test

module _ (test : Bytes → Bool) where
  abbrev size : Bytes → ℕ
  size s = size_of (up_to test (lines_of s))

  -- the lines up to it, and those behind it, are those of the two parts of the text
  abbrev Parts : Bytes → Type 0
  Parts s = (lines_of (take (size s) s) ≡ up_to test (lines_of s)) × (lines_of (drop (size s) s) ≡ beyond test (lines_of s))

  module _ (s : Bytes) (h : 0 < length s) where
    abbrev l : Bytes
    l = take (first s) s

    abbrev r : Bytes
    r = drop (suc (first s)) s

    lines : lines_of s ≡ l ∷ lines_of r
    lines = first-line s h

    size_is : {x : List Bytes} → choose (test l) [] (up_to test (lines_of r)) ≡ x → size s ≡ suc (first s) + size_of x
    unfolding up_to size_of
    size_is q = ap (λ ls. size_of (up_to test ls)) lines ∙ (λ i. suc (first-length s i) + size_of (q i))

    here : test l ≡ true → Parts s
    unfolding up_to beyond size_of lines_of
    here t = (
      ap (λ n. lines_of (take n s)) (size_is (chosen [] (up_to test (lines_of r)) t)) ∙ (front-lines s 0 h
          ∙ sym (ap (up_to test) lines ∙ ap (l ∷◌) (chosen [] (up_to test (lines_of r)) t))),
      ap (λ n. lines_of (drop n s)) (size_is (chosen [] (up_to test (lines_of r)) t) ∙ add-zero (suc (first s)))
          ∙ sym (ap (beyond test) lines ∙ chosen (lines_of r) (beyond test (lines_of r)) t),
    )

    further : test l ≡ false → Parts r → Parts s
    unfolding up_to beyond
    further t p = (
      ap (λ n. lines_of (take n s)) (size_is (passed_over [] (up_to test (lines_of r)) t)) ∙ (front-lines s (size r) h ∙ (ap (l ∷◌) p.0
          ∙ sym (ap (up_to test) lines ∙ ap (l ∷◌) (passed_over [] (up_to test (lines_of r)) t)))),
      ap (λ n. lines_of (drop n s)) (size_is (passed_over [] (up_to test (lines_of r)) t)) ∙ (ap lines_of (sym (drop-drop (size r) (suc (first s)) s)) ∙ (p.1
          ∙ sym (ap (beyond test) lines ∙ passed_over (lines_of r) (beyond test (lines_of r)) t))),
    )

  nothing : (s : Bytes) → length s ≤ 0 → Parts s
  unfolding up_to beyond size_of lines_of
  nothing [] h = (refl, refl)
  nothing (c ∷ s) h = absurd (not-suc-le-zero h)

  parts : (n : ℕ) (s : Bytes) → length s ≤ n → Parts s
  parts zero s h = nothing s h
  parts (suc n) s h = by (ltb 0 (length s))
      (λ e.
      let w = ltb-true 0 (length s) e in
      let k = length-drop (suc (first s)) s in
      by (test (take (first s) s)) (here s w) (λ t. further s w t (parts n (drop (suc (first s)) s) (omega (arith, k, h)))))
      (λ e. nothing s (ltb-false 0 (length s) e))

  module _ (file : Bytes) (at : ℕ) where
    pub lines-up-to : lines_of (take (behind test file at - at) (drop at file)) ≡ up_to test (lines_of (drop at file))
    unfolding behind
    lines-up-to =
        let s = drop at file in
        let k = length-drop at file in
        let q : behind test file at - at ≡ min (size s) (length s) = omega (arith, k) in
        ap (λ (n : ℕ). lines_of (take n s)) q ∙ (ap lines_of (take_min (size s) s) ∙ (parts (length s) s (omega arith)).0)

    pub lines-beyond : lines_of (drop (behind test file at) file) ≡ beyond test (lines_of (drop at file))
    unfolding behind
    lines-beyond =
        let s = drop at file in
        let k = length-drop at file in
        let q : behind test file at ≡ at + min (size s) (length s) = omega (arith, k) in
        ap (λ (n : ℕ). lines_of (drop n file)) q ∙ (ap lines_of (sym (drop-drop (min (size s) (length s)) at file) ∙ drop_min (size s) s) ∙ (parts (length s) s (omega arith)).1)
