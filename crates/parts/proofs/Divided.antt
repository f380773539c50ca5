-- The parts of an operand's lexemes are the lexemes of its parts; and its parts from one place on are the first of them and those behind its comma. Assumes nothing.
use Prim.Native.Nat.{ℕ, zero, suc, ◌+◌, ◌-◌, ◌≤◌, ◌<◌}
use native.Mathlib.Nat.{not-suc-le-zero, sub-zero}
use native.Mathlib.Omega.{arith}
use mathlib.Core.Path.{◌≡◌, refl, ap, sym, ◌∙◌}
use mathlib.Core.Bool.{true}
use mathlib.Core.List.{List, [], ◌∷◌, ◌++◌, map}
use lib.Dec.{ltb}
use Rattle.std.specs.Prelude.{Option, Some, None}
use Rattle.std.specs.Borrow.{Bor}
use Rattle.std.specs.Slice.{IsGetRangeResult}
use Rattle.std.proofs.lemmas.List.{take_rest}
use borrow.Author.Rules.{rules}
use lib.ListN.{length, take, drop, length-drop}
use lib.Seq.{take_all, drop-drop}
use borrow.Author.Tests.{ltb-true, ltb-false, lt-ltb, le-ltb, le-leb, lt-leb}
use Rattle.text.specs.Bytes.{Bytes}
use Rattle.rules.specs.Choice.{on_first}
use Rattle.rules.specs.Lexemes.{comma, byte, marked, symbols, lexed, unlexed, Inside, outside, enters, is_bare}
use Rattle.rules.specs.Fields.{is_empty}
use Rattle.rules.specs.Calls.{parts, divided}
use Rattle.rules.proofs.Choices.{by, either, chosen, passed_over}
use Rattle.rules.proofs.Lossless.{lexed-back}
use Rattle.parts.specs.Parts.{bare_at, parts_within, parts_from, parts_of, parts_of_rest}
use Rattle.parts.proofs.Clear.{Lexes, Clear}
use Rattle.parts.proofs.Cut.{comma-is, stops-at, front-clear, cut_inside, cut-none}

-- ---- lexemes

one-part : (i j : Inside) (z : Lexes) → Clear comma i z j → parts i z ≡ z ∷ []
unfolding parts on_first
one-part i j [] h = refl
one-part i j (x ∷ z) h = passed_over _ _ h.0 ∙ ap (on_first x) (one-part (enters i x) j z h.1)

first_part : (i j : Inside) (z w : Lexes) → Clear comma i z j → is_bare {R = Bytes} comma j (byte comma) ≡ true → parts i (z ++ (byte comma ∷ w)) ≡ z ∷ parts j w
unfolding parts on_first
first_part i j [] w h e = ap (λ k. parts k (byte comma ∷ w)) h ∙ chosen _ _ e
first_part i j (x ∷ z) w h e = passed_over _ _ h.0 ∙ ap (on_first x) (first_part (enters i x) j z w h.1 e)

module _ (s : Bytes) where
  abbrev e : ℕ
  e = bare_at comma s

  lexemes-cut : e < length s → parts outside (lexed true s) ≡ lexed true (take e s) ∷ parts outside (lexed true (drop (suc e) s))
  lexemes-cut h =
      let f = front-clear comma comma-is s in
      ap (parts outside) (cut_inside comma comma-is s h)
      ∙ (first_part outside f.0 (lexed true (take e s)) (lexed true (drop (suc e) s)) f.1 (stops-at comma f.0 (f.2 h))
      ∙ ap (λ k. lexed true (take e s) ∷ parts k (lexed true (drop (suc e) s))) (f.2 h))

  lexemes-last : length s ≤ e → parts outside (lexed true s) ≡ lexed true s ∷ []
  lexemes-last h =
      let f = front-clear comma comma-is s in
      let q = cut-none comma comma-is s h in
      ap (parts outside) q ∙ (one-part outside f.0 (lexed true (take e s)) f.1 ∙ ap (λ (t : Lexes). t ∷ []) (sym q))

  -- ---- bytes

  within-cut : (n : ℕ) → e < length s → parts_within (suc n) s ≡ take e s ∷ parts_within n (drop (suc e) s)
  unfolding parts_within
  within-cut n h = chosen _ _ (lt-ltb e (length s) h)

  within-last : (n : ℕ) → length s ≤ e → parts_within (suc n) s ≡ s ∷ []
  unfolding parts_within
  within-last n h = passed_over _ _ (le-ltb e (length s) h)

-- any bound will do that is not below the length
within-any : (n m : ℕ) (s : Bytes) → length s ≤ n → length s ≤ m → parts_within n s ≡ parts_within m s
unfolding parts_within
within-any zero zero s h k = refl
within-any zero (suc m) s h k = sym (within-last s m (omega arith))
within-any (suc n) zero s h k = within-last s n (omega arith)
within-any (suc n) (suc m) s h k =
    by (ltb (e s) (length s))
    (λ t.
    let lt = ltb-true (e s) (length s) t in
    let l = length-drop (suc (e s)) s in
    within-cut s n lt ∙ (ap (λ (ps : List Bytes). take (e s) s ∷ ps) (within-any n m (drop (suc (e s)) s) (omega (arith, l, h, lt)) (omega (arith, l, k, lt))) ∙ sym (within-cut s m lt)))
    (λ t.
    let le = ltb-false (e s) (length s) t in
    within-last s n le ∙ sym (within-last s m le))

parts_are : (n : ℕ) (s : Bytes) → length s ≤ n → parts outside (lexed true s) ≡ map (lexed true) (parts_within n s)
unfolding parts_within
parts_are zero s h = lexemes-last s (omega arith)
parts_are (suc n) s h =
    by (ltb (e s) (length s))
    (λ t.
    let lt = ltb-true (e s) (length s) t in
    let l = length-drop (suc (e s)) s in
    lexemes-cut s lt
    ∙ (ap (λ (ps : List Lexes). lexed true (take (e s) s) ∷ ps) (parts_are n (drop (suc (e s)) s) (omega (arith, l, h, lt)))
    ∙ ap (map (lexed true)) (sym (within-cut s n lt))))
    (λ t.
    let le = ltb-false (e s) (length s) t in
    lexemes-last s le ∙ ap (map (lexed true)) (sym (within-last s n le)))

some : (x : Lexes) → (x ≡ [] → ⊥) → divided x ≡ parts outside x
unfolding divided
some [] n = absurd (n refl)
some (y ∷ x) n = refl

no_byte : {c : ℕ} {s : Bytes} → c ∷ s ≡ unlexed [] → ⊥
unfolding unlexed
no_byte h = let n = ap length h in omega (arith, n)

-- there is one part more than there are commas
within-few : (n : ℕ) (s : Bytes) → length (parts_within n s) ≤ suc n
unfolding parts_within
within-few zero s = omega arith
within-few (suc n) s =
    either (λ (ps : List Bytes). length ps ≤ suc (suc n)) (ltb (e s) (length s)) (λ t. omega (arith, within-few n (drop (suc (e s)) s))) (λ t. omega arith)

-- ---- by place

from_is : (s : Bytes) (at : ℕ) → at ≤ length s → parts_from s at ≡ parts_within (length s) (drop at s)
unfolding parts_from
from_is s at h = chosen _ _ (le-leb at (length s) h)

-- behind the text's end none starts
pub parts-done : (s : Bytes) (at : ℕ) → length s < at → parts_from s at ≡ []
unfolding parts_from
parts-done s at h = passed_over _ _ (lt-leb at (length s) h)

-- the first of the parts from a place on, and those behind its comma
pub parts-on : (s : Bytes) (at end : ℕ) → at ≤ length s → end ≡ at + bare_at comma (drop at s) → parts_from s at ≡ take (end - at) (drop at s) ∷ parts_from s (end + 1)
parts-on s at end h q =
    let t = drop at s in
    let b = bare_at comma t in
    let l : length t ≡ length s - at = length-drop at s in
    let size : b ≡ end - at = omega (arith, q) in
    from_is s at h
    ∙ (within-any (length s) (suc (length s)) t (omega (arith, l)) (omega (arith, l))
    ∙ by (ltb b (length t))
    (λ k.
    let lt = ltb-true b (length t) k in
    let n : at + suc b ≡ end + 1 = omega (arith, q) in
    within-cut t (length s) lt
    ∙ (λ i. take (size i) t ∷ (ap (parts_within (length s)) (drop-drop (suc b) at s ∙ ap (λ (m : ℕ). drop m s) n) ∙ sym (from_is s (end + 1) (omega (arith, q, l, lt)))) i))
    (λ k.
    let le = ltb-false b (length t) k in
    within-last t (length s) le
    ∙ (λ i. (sym (take_all b t le) ∙ ap (λ (m : ℕ). take m t) size) i ∷ sym (parts-done s (end + 1) (omega (arith, q, l, le, h))) i)))

-- the parts from a place on are those of the text's rest there
pub parts-moved : (s : Bytes) (at : ℕ) → at ≤ length s → parts_from s at ≡ parts_from (drop at s) 0
parts-moved s at h =
    let l = length-drop at s in
    from_is s at h
    ∙ (within-any (length s) (length (drop at s)) (drop at s) (omega (arith, l)) (omega arith)
    ∙ sym (from_is (drop at s) 0 (omega arith)))

-- what `get` gives from a place on: the parts from there
pub left-at : (s : Bytes) (at : ℕ) (r : Option (Bor Bytes)) → IsGetRangeResult s at (length s) r → parts_of_rest r ≡ parts_from s at
left-at s at None g = sym (parts-done s at (search (rules, g)))
left-at s at (Some t) g = ap (λ (r : Bytes). parts_from r 0) (g.0.2 ∙ take_rest s at) ∙ sym (parts-moved s at (search (rules, g)))

-- the first part of what is left, and what is left behind its comma
module _ (s : Bytes) (end : ℕ) (q : end ≡ 0 + bare_at comma s) where
  pub first-inside : end < length s → parts_from s 0 ≡ take end s ∷ parts_from (drop (end + 1) s) 0
  first-inside h = parts-on s 0 end (omega arith) q ∙ (λ i. take (sub-zero end i) s ∷ parts-moved s (end + 1) (omega (arith, h)) i)

  pub first-last : length s ≤ end → parts_from s 0 ≡ take end s ∷ []
  first-last h = parts-on s 0 end (omega arith) q ∙ (λ i. take (sub-zero end i) s ∷ parts-done s (end + 1) (omega (arith, h)) i)

  -- left by `get`: nothing where the text ends at `end`
  pub first-left : (r : Option (Bor Bytes)) → IsGetRangeResult s (end + 1) (length s) r → parts_from s 0 ≡ take end s ∷ parts_of_rest r
  first-left None g = first-last (search (rules, g))
  first-left (Some t) g = first-inside (search (rules, g)) ∙ ap (λ (r : Bytes). take end s ∷ parts_from r 0) (sym (take_rest s (end + 1)) ∙ sym g.0.2)

-- ---- all of them

pub parts-start : (s : Bytes) → 0 < length s → parts_of s ≡ parts_from s 0
unfolding parts_of is_empty
parts-start [] h = absurd (not-suc-le-zero h)
parts-start (c ∷ s) h = passed_over _ _ refl

pub parts_none : (s : Bytes) → length s ≤ 0 → parts_of s ≡ []
unfolding parts_of is_empty
parts_none [] h = chosen _ _ refl
parts_none (c ∷ s) h = absurd (not-suc-le-zero h)

-- the parts of a text's rest are the text's parts from there on
pub parts-there : (s : Bytes) (at : ℕ) → at < length s → parts_of (drop at s) ≡ parts_from s at
parts-there s at h =
    let l = length-drop at s in
    parts-start (drop at s) (omega (arith, l, h))
    ∙ (from_is (drop at s) 0 (omega arith)
    ∙ (within-any (length (drop at s)) (length s) (drop at s) (omega arith) (omega (arith, l))
    ∙ sym (from_is s at (omega (arith, h)))))

pub few_parts : (s : Bytes) → length (parts_of s) ≤ length s + 1
few_parts [] = omega (arith, ap length (parts_none [] (omega arith)))
few_parts (c ∷ s) =
    let all = ap length (parts-start (c ∷ s) (omega arith) ∙ from_is (c ∷ s) 0 (omega arith)) in
    omega (arith, all, within-few (length (c ∷ s)) (c ∷ s))

-- the parts of an operand's lexemes
pub divided-cut : (s : Bytes) → divided (lexed true s) ≡ map (lexed true) (parts_of s)
unfolding divided lexed marked symbols
divided-cut [] = ap (map (lexed true)) (sym (parts_none [] (omega arith)))
divided-cut (c ∷ s) =
    some (lexed true (c ∷ s)) (λ e. no_byte (sym (lexed-back true (c ∷ s)) ∙ ap unlexed e))
    ∙ (parts_are (length (c ∷ s)) (c ∷ s) (omega arith)
    ∙ ap (map (lexed true)) (sym (parts-start (c ∷ s) (omega arith) ∙ from_is (c ∷ s) 0 (omega arith))))
