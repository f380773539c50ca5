-- What the cut of a text at its first bare delimiter tells of its lexemes: what stands before the delimiter and behind it, and whether there is one. Assumes nothing.
use Prim.Native.Nat.{ℕ, suc, ◌+◌, ◌<◌}
use native.Mathlib.Omega.{arith}
use mathlib.Core.Path.{◌≡◌, ap, sym, ◌∙◌}
use mathlib.Core.Bool.{true}
use mathlib.Core.List.{◌∷◌, ◌++◌}
use lib.Dec.{ltb}
use lib.ListN.{length, take, drop, length-append}
use lib.Seq.{take-length, take-append_seam, drop-append-add}
use borrow.Author.Tests.{ltb-true, ltb-false, lt-ltb, le-ltb}
use Rattle.text.specs.Bytes.{Bytes}
use Rattle.rules.specs.Choice.{passed}
use Rattle.rules.specs.Lexemes.{equals, byte, lexed, unlexed, outside, enters, is_bare}
use Rattle.rules.specs.Calls.{equals_at, has_equals}
use Rattle.rules.specs.Faults.{before_equals}
use Rattle.rules.proofs.Choices.{by}
use Rattle.rules.proofs.Lossless.{lexed-back}
use Rattle.parts.specs.Parts.{bare_at}
use Rattle.parts.proofs.Clear.{Lexes}
use Rattle.parts.proofs.Cut.{Delimiter, equals-is, cut_inside, cut-none, cut-place}

module _ (c : ℕ) (is : Delimiter c) (s : Bytes) where
  abbrev e : ℕ
  e = bare_at c s

  abbrev x : Lexes
  x = lexed true s

  abbrev z : Lexes
  z = lexed true (take e s)

  abbrev w : Lexes
  w = lexed true (drop (suc e) s)

  pub front-is : take (passed (is_bare c) enters outside x) x ≡ z
  front-is =
      ap (λ (n : ℕ). take n x) (cut-place c is s)
      ∙ by (ltb e (length s))
      (λ t. ap (take (length z)) (cut_inside c is s (ltb-true e (length s) t)) ∙ take-append_seam z (byte c ∷ w))
      (λ t. ap (take (length z)) (cut-none c is s (ltb-false e (length s) t)) ∙ take-length z)

  pub back_is : e < length s → drop (suc (passed (is_bare c) enters outside x)) x ≡ w
  back_is h =
      let n : suc (length z) ≡ length z + 1 = omega arith in
      (λ i. drop (suc (cut-place c is s i)) (cut_inside c is s h i)) ∙ (ap (λ (k : ℕ). drop k (z ++ (byte c ∷ w))) n ∙ drop-append-add z (byte c ∷ w) 1)

  pub found-is : ltb (passed (is_bare c) enters outside x) (length x) ≡ ltb e (length s)
  found-is =
      ap (λ (n : ℕ). ltb n (length x)) (cut-place c is s)
      ∙ by (ltb e (length s))
      (λ t.
      let n = ap length (cut_inside c is s (ltb-true e (length s) t)) ∙ length-append z (byte c ∷ w) in
      lt-ltb (length z) (length x) (omega (arith, n)) ∙ sym t)
      (λ t.
      let n = ap length (cut-none c is s (ltb-false e (length s) t)) in
      le-ltb (length z) (length x) (omega (arith, n)) ∙ sym t)

-- ---- the first `=`

module _ (s : Bytes) where
  pub before-is : before_equals (lexed true s) ≡ lexed true (take (bare_at equals s) s)
  unfolding before_equals equals_at
  before-is = front-is equals equals-is s

  pub has-equals-is : has_equals (lexed true s) ≡ ltb (bare_at equals s) (length s)
  unfolding has_equals equals_at
  has-equals-is = found-is equals equals-is s

  pub default-cut : bare_at equals s < length s → drop (suc (equals_at (lexed true s))) (lexed true s) ≡ lexed true (drop (suc (bare_at equals s)) s)
  unfolding equals_at
  default-cut h = back_is equals equals-is s h

  pub default-bytes : bare_at equals s < length s → unlexed (drop (suc (equals_at (lexed true s))) (lexed true s)) ≡ drop (suc (bare_at equals s)) s
  default-bytes h = ap unlexed (default-cut h) ∙ lexed-back true (drop (suc (bare_at equals s)) s)
