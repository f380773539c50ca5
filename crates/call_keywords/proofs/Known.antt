-- A macro's keywords, one after the other; and the keywords that an operand gives, part by part. Assumes nothing.
use Prim.Native.Nat.{ℕ, zero, suc, ◌+◌, ◌-◌, ◌≤◌, ◌<◌}
use native.Mathlib.Nat.{sub-zero}
use native.Mathlib.Omega.{arith}
use mathlib.Core.Path.{◌≡◌, refl, ap, sym, ◌∙◌}
use mathlib.Core.Bool.{Bool, true, false, ◌||◌}
use mathlib.Core.List.{List, [], ◌∷◌, map}
use lib.Dec.{leb}
use lib.ListN.{length, take, drop, length-drop}
use lib.Seq.{take_all, take-length, drop-drop, length-take-le}
use borrow.Author.Tests.{leb-true, leb-false}
use Rattle.text.specs.Bytes.{Bytes, same}
use Rattle.rules.specs.Lexemes.{comma, equals}
use Rattle.rules.specs.Calls.{is_among}
use Rattle.rules.specs.Machine.{keyword_value}
use Rattle.rules.proofs.Choices.{by, chosen, passed_over}
use Rattle.parts.specs.Parts.{bare_at, parts_from}
use Rattle.parts.proofs.Divided.{parts-done, parts-on}
use Rattle.deck_reading.specs.Reading.{run_at, run_end}
use Rattle.call_operands.specs.Calling.{keyword_in}
use Rattle.call_keywords.specs.Defaults.{keywords_at}

-- ---- the macro's keywords

among-is : (deck name : Bytes) (at left : ℕ) → 0 < left
    → is_among name (keywords_at deck at left) ≡ (same (run_at deck at) name || is_among name (keywords_at deck (run_end deck (run_end deck at)) (left - 1)))
unfolding is_among keywords_at
among-is deck name at zero l = elim l [ ]
among-is deck name at (suc n) l =
    let m : n ≡ suc n - 1 = omega arith in
    ap (λ (k : ℕ). same (run_at deck at) name || is_among name (keywords_at deck (run_end deck (run_end deck at)) k)) m

module _ (deck name : Bytes) (at left : ℕ) (h : 0 < left) {b : Bool} (t : b ≡ same (run_at deck at) name) where
  pub among-stop : b ≡ true → is_among name (keywords_at deck at left) ≡ true
  among-stop f = among-is deck name at left h ∙ ap (λ (k : Bool). k || is_among name (keywords_at deck (run_end deck (run_end deck at)) (left - 1))) (sym t ∙ f)

  pub among-on : b ≡ false → {d p : ℕ} → d ≡ run_end deck at → p ≡ run_end deck d → is_among name (keywords_at deck at left) ≡ is_among name (keywords_at deck p (left - 1))
  among-on f e q =
      among-is deck name at left h
      ∙ (ap (λ (k : Bool). k || is_among name (keywords_at deck (run_end deck (run_end deck at)) (left - 1))) (sym t ∙ f)
      ∙ ap (λ (p : ℕ). is_among name (keywords_at deck p (left - 1))) (sym (q ∙ ap (run_end deck) e)))

pub among_none : (deck name : Bytes) (at left : ℕ) → left ≡ 0 → is_among name (keywords_at deck at left) ≡ false
unfolding is_among keywords_at
among_none deck name at left z = ap (λ (n : ℕ). is_among name (keywords_at deck at n)) z

-- ---- the keywords given

-- the first part's keyword, and those of the others
module _ (p : Bytes) {ps qs : List Bytes} (e : ps ≡ p ∷ qs) (name default : Bytes) {t : Bool} (g : t ≡ same (keyword_in p).0 name) where
  pub value_found : t ≡ true → (keyword_in p).1 ≡ keyword_value name default (map keyword_in ps)
  unfolding keyword_value
  value_found f = sym (ap (λ (rs : List Bytes). keyword_value name default (map keyword_in rs)) e ∙ chosen _ _ (sym g ∙ f))

  pub value_on : t ≡ false → keyword_value name default (map keyword_in ps) ≡ keyword_value name default (map keyword_in qs)
  unfolding keyword_value
  value_on f = ap (λ (rs : List Bytes). keyword_value name default (map keyword_in rs)) e ∙ passed_over _ _ (sym g ∙ f)

-- ---- by place

-- the rest of a front is a front of the rest
drop-take : (a n : ℕ) (t : Bytes) → drop a (take n t) ≡ take (n - a) (drop a t)
drop-take zero n t = ap (λ (m : ℕ). take m t) (sym (sub-zero n))
drop-take (suc a) zero t = let z : 0 ≡ zero - suc a = omega arith in ap (λ (m : ℕ). take m (drop (suc a) t)) z
drop-take (suc a) (suc n) [] = none (suc n - suc a)
  where
    none : (m : ℕ) → [] ≡ take {A = ℕ} m []
    none zero = refl
    none (suc m) = refl
drop-take (suc a) (suc n) (b ∷ t) = let z : n - a ≡ suc n - suc a = omega arith in drop-take a n t ∙ ap (λ (m : ℕ). take m (drop a t)) z

-- where a part stands: it ends inside the text, and the others are those from behind its comma on
pub record Stands (s : Bytes) (at : ℕ) (p : Bytes) (ps : List Bytes) : Type 0 where
  pub inside : at + length p ≤ length s
  pub there : take (length p) (drop at s) ≡ p
  pub behind : parts_from s (at + length p + 1) ≡ ps

-- the first part from `at` on
module _ (s : Bytes) (at : ℕ) (p : Bytes) (ps : List Bytes) (e : parts_from s at ≡ p ∷ ps) where
  abbrev rest : Bytes
  rest = drop at s

  abbrev end : ℕ
  end = at + bare_at comma rest

  starts : at ≤ length s
  starts =
      by (leb at (length s))
      (λ t. leb-true at (length s) t)
      (λ t. let n = ap length (sym (parts-done s at (leb-false at (length s) t)) ∙ e) in absurd (omega (arith, n)))

  here : take (end - at) rest ≡ p
  here = let on = parts-on s at end starts refl in cc

  others : parts_from s (end + 1) ≡ ps
  others = let on = parts-on s at end starts refl in cc

  pub stands : Stands s at p ps
  stands =
      let l = length-drop at s in
      by (leb (bare_at comma rest) (length rest))
      (λ t.
      let le = leb-true (bare_at comma rest) (length rest) t in
      let front : end - at ≡ bare_at comma rest = omega arith in
      let size : length p ≡ bare_at comma rest = sym (ap length here) ∙ ap (λ (n : ℕ). length (take n rest)) front ∙ length-take-le (bare_at comma rest) rest le in
      record {
        inside = omega (arith, l, le, size, starts);
        there = ap (λ (n : ℕ). take n rest) (size ∙ sym front) ∙ here;
        behind = ap (λ (n : ℕ). parts_from s (at + n + 1)) size ∙ others;
      })
      (λ t.
      let past = leb-false (bare_at comma rest) (length rest) t in
      let whole : p ≡ rest = sym here ∙ take_all (end - at) rest (omega (arith, past)) in
      let size = ap length whole in
      record {
        inside = omega (arith, l, size, starts);
        there = ap (λ (n : ℕ). take n rest) size ∙ take-length rest ∙ sym whole;
        behind = parts-done s (at + length p + 1) (omega (arith, l, size, starts)) ∙ sym (parts-done s (end + 1) (omega (arith, l, past, starts))) ∙ others;
      })

  -- its keyword ends `cut` bytes behind its start
  module _ (cut : ℕ) (q : cut ≡ 0 + bare_at equals p) (name default : Bytes) {t : Bool} (g : t ≡ same (take cut p) name) where
    cut-is : cut ≡ bare_at equals p
    cut-is = omega (arith, q)

    named : t ≡ same (keyword_in p).0 name
    unfolding keyword_in
    named = g ∙ ap (λ (n : ℕ). same (take n p) name) cut-is

    value-is : take (at + length p - (at + cut + 1)) (drop (at + cut + 1) s) ≡ (keyword_in p).1
    unfolding keyword_in
    value-is =
        let n : length p - suc cut ≡ at + length p - (at + cut + 1) = omega arith in
        let k : at + suc cut ≡ at + cut + 1 = omega arith in
        sym (ap (λ (n : ℕ). drop (suc n) p) (sym cut-is) ∙ ap (drop (suc cut)) (sym stands.there) ∙ drop-take (suc cut) (length p) rest
        ∙ (λ i. take (n i) ((drop-drop (suc cut) at s ∙ ap (λ (m : ℕ). drop m s) k) i)))

    pub value-there : t ≡ true → take (at + length p - (at + cut + 1)) (drop (at + cut + 1) s) ≡ keyword_value name default (map keyword_in (parts_from s at))
    value-there f = value-is ∙ value_found p e name default named f

    pub value-behind : t ≡ false → keyword_value name default (map keyword_in (parts_from s at)) ≡ keyword_value name default (map keyword_in (parts_from s (at + length p + 1)))
    value-behind f = value_on p e name default named f ∙ ap (λ (qs : List Bytes). keyword_value name default (map keyword_in qs)) (sym stands.behind)
