-- Lexemes divide at their first bare comma, for every sense of a symbol; and the parts of a field's codes by place. Assumes nothing.
use Prim.Native.Nat.{ℕ, zero, suc, ◌+◌, ◌-◌, ◌≤◌, ◌<◌}
use native.Mathlib.Omega.{arith}
use native.Mathlib.Nat.{not-suc-le-zero}
use mathlib.Core.Path.{◌≡◌, refl, ap, sym, ◌∙◌}
use mathlib.Core.Bool.{Bool, true, false, not}
use mathlib.Core.List.{List, [], ◌∷◌}
use lib.Dec.{eqb, leb}
use lib.ListN.{length, take, drop, length-drop}
use Rattle.std.specs.Prelude.{Option, Some, None}
use Rattle.std.specs.Borrow.{Bor}
use Rattle.std.specs.Slice.{IsGetRangeResult}
use Rattle.std.proofs.lemmas.List.{take_rest}
use borrow.Author.Rules.{rules}
use lib.Seq.{take_all, drop-drop}
use borrow.Author.Tests.{eqb-true, le-leb, lt-leb, leb-true, leb-false}
use Rattle.text.specs.Bytes.{Bytes}
use Rattle.rules.specs.Choice.{passed, on_first}
use Rattle.rules.specs.Lexemes.{comma, Lex, byte_of, Inside, outside, enters, is_bare}
use Rattle.rules.specs.Calls.{parts, divided}
use Rattle.rules.proofs.Choices.{by, either, chosen, passed_over, and_left, and_right}
use Rattle.call_codes.specs.Codes.{code_lex, lexemes, cut_at, parts_from, parts_of_rest}

-- ---- lexemes

module _ {R : Type 0} where
  -- a bare byte stands outside
  bare-outside : (c : ℕ) (i : Inside) (x : Lex R) → is_bare c i x ≡ true → i ≡ outside
  unfolding is_bare outside
  bare-outside c i x e =
      let r = and_right (eqb (byte_of x) c) _ e in
      λ j. record { quoted = unquoted i.quoted (and_left (not i.quoted) _ r) j; depth = eqb-true i.depth 0 (and_right (not i.quoted) _ r) j }
    where
      unquoted : (q : Bool) → not q ≡ true → q ≡ false
      unquoted true h = sym h
      unquoted false h = refl

  pub parts_cut : (i : Inside) (x : List (Lex R)) → passed (is_bare comma) enters i x < length x
      → parts i x ≡ take (passed (is_bare comma) enters i x) x ∷ parts outside (drop (suc (passed (is_bare comma) enters i x)) x)
  unfolding parts passed on_first
  parts_cut i [] h = absurd (not-suc-le-zero h)
  parts_cut i (a ∷ x) h =
      by (is_bare comma i a)
      (λ e.
      let n : passed (is_bare comma) enters i (a ∷ x) ≡ 0 = chosen _ _ e in
      chosen _ _ e ∙ ((λ j. [] ∷ parts (bare-outside comma i a e j) x) ∙ ap (λ (m : ℕ). take m (a ∷ x) ∷ parts outside (drop (suc m) (a ∷ x))) (sym n)))
      (λ e.
      let m = passed (is_bare comma) enters (enters i a) x in
      let n : passed (is_bare comma) enters i (a ∷ x) ≡ suc m = passed_over _ _ e in
      passed_over _ _ e
      ∙ (ap (on_first a) (parts_cut (enters i a) x (omega (arith, n, h)))
      ∙ ap (λ (k : ℕ). take k (a ∷ x) ∷ parts outside (drop (suc k) (a ∷ x))) (sym n)))

  pub parts_last : (i : Inside) (x : List (Lex R)) → length x ≤ passed (is_bare comma) enters i x → parts i x ≡ x ∷ []
  unfolding parts passed on_first
  parts_last i [] h = refl
  parts_last i (a ∷ x) h =
      by (is_bare comma i a)
      (λ e. let n : passed (is_bare comma) enters i (a ∷ x) ≡ 0 = chosen _ _ e in absurd (omega (arith, n, h)))
      (λ e.
      let n : passed (is_bare comma) enters i (a ∷ x) ≡ suc (passed (is_bare comma) enters (enters i a) x) = passed_over _ _ e in
      passed_over _ _ e ∙ ap (on_first a) (parts_last (enters i a) x (omega (arith, n, h))))

-- ---- codes

pub lexemes-take : (n : ℕ) (s : Bytes) → take n (lexemes s) ≡ lexemes (take n s)
unfolding lexemes
lexemes-take zero s = refl
lexemes-take (suc n) [] = refl
lexemes-take (suc n) (b ∷ s) = ap (λ (x : List (Lex ℕ)). code_lex b ∷ x) (lexemes-take n s)

pub lexemes-drop : (n : ℕ) (s : Bytes) → drop n (lexemes s) ≡ lexemes (drop n s)
unfolding lexemes
lexemes-drop zero s = refl
lexemes-drop (suc n) [] = refl
lexemes-drop (suc n) (b ∷ s) = lexemes-drop n s

pub lexemes-length : (s : Bytes) → length (lexemes s) ≡ length s
unfolding lexemes
lexemes-length [] = refl
lexemes-length (b ∷ s) = let n = lexemes-length s in omega (arith, n)

-- ---- the parts of a field

pub parts-none : (s : Bytes) → length s ≡ 0 → divided (lexemes s) ≡ []
unfolding divided lexemes
parts-none [] e = refl
parts-none (b ∷ s) e = absurd (omega (arith, e))

pub parts-start : (s : Bytes) → (length s ≡ 0 → ⊥) → divided (lexemes s) ≡ parts outside (lexemes s)
unfolding divided lexemes
parts-start [] n = absurd (n refl)
parts-start (b ∷ s) n = refl

-- the first part of what is left, and what `get` leaves behind its comma
module _ (s : Bytes) (end : ℕ) (q : end ≡ 0 + cut_at comma s) where
  pub first-left : (r : Option (Bor Bytes)) → IsGetRangeResult s (end + 1) (length s) r → parts outside (lexemes s) ≡ lexemes (take end s) ∷ parts_of_rest r
  unfolding cut_at
  first-left None g =
      let past : length s ≤ end = search (rules, g) in
      parts_last outside (lexemes s) (omega (arith, q, past, lexemes-length s)) ∙ ap (λ (t : Bytes). lexemes t ∷ []) (sym (take_all end s past))
  first-left (Some t) g =
      let n = passed (is_bare comma) enters outside (lexemes s) in
      let size : n ≡ end = omega (arith, q) in
      let z : suc n ≡ end + 1 = omega (arith, q) in
      let inside : end < length s = search (rules, g) in
      parts_cut outside (lexemes s) (omega (arith, q, inside, lexemes-length s))
      ∙ (λ i. (lexemes-take n s ∙ ap (λ (k : ℕ). lexemes (take k s)) size) i
      ∷ ap (parts outside) (lexemes-drop (suc n) s ∙ ap lexemes (ap (λ (k : ℕ). drop k s) z ∙ (sym (take_rest s (end + 1)) ∙ sym g.0.2))) i)

-- ---- by place

module _ (s : Bytes) where
  from_is : (at : ℕ) → at ≤ length s → parts_from s at ≡ parts outside (lexemes (drop at s))
  unfolding parts_from
  from_is at h = chosen _ _ (le-leb at (length s) h)

  -- behind the field's end none starts
  pub rest-done : (at : ℕ) → length s < at → parts_from s at ≡ []
  unfolding parts_from
  rest-done at h = passed_over _ _ (lt-leb at (length s) h)

  pub all_rest : (length s ≡ 0 → ⊥) → divided (lexemes s) ≡ parts_from s 0
  all_rest n = parts-start s n ∙ sym (from_is 0 (omega arith))

-- the first of the parts from a place on, which ends at `end`, and those behind its comma
pub rest-on : (s : Bytes) (at end : ℕ) → at ≤ length s → end ≡ at + cut_at comma (drop at s)
    → parts_from s at ≡ lexemes (take (end - at) (drop at s)) ∷ parts_from s (end + 1)
unfolding cut_at
rest-on s at end h e =
    let t = drop at s in
    let x = lexemes t in
    let n = passed (is_bare comma) enters outside x in
    let l = length-drop at s in
    let m = lexemes-length t in
    let size : n ≡ end - at = omega (arith, e) in
    from_is s at h
    ∙ by (leb (suc n) (length x))
    (λ k.
    let lt : n < length x = leb-true (suc n) (length x) k in
    let z : at + suc n ≡ end + 1 = omega (arith, e) in
    parts_cut outside x lt
    ∙ (λ i. (lexemes-take n t ∙ ap (λ (k : ℕ). lexemes (take k t)) size) i
    ∷ (ap (parts outside) (lexemes-drop (suc n) t ∙ ap lexemes (drop-drop (suc n) at s ∙ ap (λ (k : ℕ). drop k s) z)) ∙ sym (from_is s (end + 1) (omega (arith, e, l, m, lt)))) i))
    (λ k.
    let q = leb-false (suc n) (length x) k in
    let le : length x ≤ n = omega (arith, q) in
    parts_last outside x le
    ∙ (λ i. ap lexemes (sym (take_all n t (omega (arith, m, le))) ∙ ap (λ (k : ℕ). take k t) size) i ∷ sym (rest-done s (end + 1) (omega (arith, e, l, m, le, h))) i))

-- ---- how many

-- there are no more parts than codes, and one
few-within : (i : Inside) (x : List (Lex ℕ)) → length (parts i x) ≤ suc (length x)
unfolding parts on_first
few-within i [] = omega arith
few-within i (a ∷ x) =
    either (λ (ps : List (List (Lex ℕ))). length ps ≤ suc (suc (length x))) (is_bare comma i a) (λ e. omega (arith, few-within i x))
    (λ e. more (parts (enters i a) x) (few-within (enters i a) x))
  where
    more : (ps : List (List (Lex ℕ))) → length ps ≤ suc (length x) → length (on_first a ps) ≤ suc (suc (length x))
    more [] h = omega arith
    more (p ∷ ps) h = omega (arith, h)

pub few_parts : (s : Bytes) → length (divided (lexemes s)) ≤ length s + 1
unfolding divided
few_parts s = go (lexemes s) (lexemes-length s)
  where
    go : (x : List (Lex ℕ)) → length x ≡ length s → length (divided x) ≤ length s + 1
    go [] e = omega arith
    go (a ∷ x) e = omega (arith, e, few-within outside (a ∷ x))
