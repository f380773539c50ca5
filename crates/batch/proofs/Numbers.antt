-- Decimal numbers of a batch, digit by digit, and where they end. Assumes nothing.
use Prim.Native.Nat.{ℕ, suc, ◌+◌, ◌*◌, ◌-◌, ◌≤◌, ◌<◌}
use native.Mathlib.Nat.{le_refl, lt_of_lt_of_le, add-zero}
use native.Mathlib.Numerals.{add-one}
use native.Mathlib.Omega.{arith}
use mathlib.Core.Path.{◌≡◌, refl, ap, sym, ◌∙◌}
use mathlib.Core.Bool.{true, false}
use mathlib.Core.List.{[], ◌∷◌}
use lib.Dec.{eqb, leb, ltb}
use lib.ListN.{length, take, drop, get_or, get_or-eq_default}
use lib.Seq.{drop-cons}
use borrow.Author.Tests.{eq-eqb, ne_eqb, eqb-true, eqb-false, lt-ltb, le-ltb, ltb-true, ltb-false, leb-true}
use Rattle.text.specs.Bytes.{Bytes}
use Rattle.text.specs.Characters.{digit}
use Rattle.rules.specs.Choice.{choose, run}
use Rattle.rules.specs.Values.{spelt}
use Rattle.rules.proofs.Choices.{by, chosen, passed_over, either, and_left, and_right}
use Rattle.rules.proofs.Scanning.{run-end, run-stop}
use Rattle.batch.specs.declared.Number.{Number}
use Rattle.std.specs.Prelude.{Option, Some, None}
use Rattle.batch.specs.Format.{number_limit, ended_at, digits_of, number_at}

-- a byte that is not 0 is in the input
pub read-inside : (input : Bytes) (i : ℕ) {c : ℕ} → c ≡ get_or input i 0 → 0 < c → i < length input
read-inside input i e p =
    by (ltb i (length input)) (λ h. ltb-true i (length input) h)
    (λ h.
    let past : length input ≤ i = ltb-false i (length input) h in
    let z = e ∙ get_or-eq_default input 0 past in
    absurd (omega (arith, p, z)))

pub digit-bounds : (c : ℕ) → digit c ≡ true → (48 ≤ c) × (c ≤ 57)
unfolding digit
digit-bounds c h = (leb-true 48 c (and_left (leb 48 c) (leb c 57) h), leb-true c 57 (and_right (leb 48 c) (leb c 57) h))

spelt-grows : (n : ℕ) (s : Bytes) → n ≤ spelt n s
unfolding spelt
spelt-grows n [] = le_refl n
spelt-grows n (c ∷ s) = let more = spelt-grows (n * 10 + (c - 48)) s in omega arith

module _ (stop : ℕ) (input : Bytes) (at : ℕ) where
  -- a number that starts at `at` and goes on at i, after n for its digits before
  unfoldable pub onward : ℕ → ℕ → Option Number
  onward n i = ended_at stop input at (i + run digit (drop i input)) (spelt n (digits_of (drop i input)))

  pub onward-starts : number_at stop input at ≡ onward 0 at
  unfolding onward number_at
  onward-starts = refl

  more : (n i c : ℕ) (s : Bytes) → digit c ≡ true → ended_at stop input at (i + run digit (c ∷ s)) (spelt n (digits_of (c ∷ s))) ≡ ended_at stop input at (suc i + run digit s) (spelt (n * 10 + (c - 48)) (digits_of s))
  unfolding run spelt
  more n i c s e =
      let k = run digit s in
      let p : i + suc k ≡ suc i + k = omega arith in
      ap (λ m. ended_at stop input at (i + m) (spelt n (take m (c ∷ s)))) (chosen (suc k) 0 e) ∙ ap (λ m. ended_at stop input at m (spelt (n * 10 + (c - 48)) (take k s))) p

  module _ (n i : ℕ) where
    pub onward-more : i < length input → digit (get_or input i 0) ≡ true → onward n i ≡ onward (n * 10 + (get_or input i 0 - 48)) (i + 1)
    unfolding onward
    onward-more h e = rw (drop-cons input i 0 h, add-one) (more n i (get_or input i 0) (drop (suc i) input) e)

    pub onward-over : number_limit < n → onward n i ≡ None
    unfolding onward ended_at
    onward-over h =
        let s = digits_of (drop i input) in
        chosen _ _ (lt-ltb number_limit (spelt n s) (lt_of_lt_of_le h (spelt-grows n s)))

    stops : digit (get_or input i 0) ≡ false → i + run digit (drop i input) ≡ i
    stops e =
        by (ltb i (length input)) (λ h. run-stop digit input i 0 (ltb-true i (length input) h) e)
        (λ h. run-end digit input i (ltb-false i (length input) h))

    module _ (few : n ≤ number_limit) (none : digit (get_or input i 0) ≡ false) where
      ends : onward n i ≡ choose (eqb i at) None (choose (eqb (get_or input i 0) stop) (Some (record { value = n; next = (i + 1) })) None)
      unfolding onward spelt ended_at
      ends =
          let s = stops none in
          let z : run digit (drop i input) ≡ 0 = omega (arith, s) in
          ap (λ m. ended_at stop input at (i + m) (spelt n (take m (drop i input)))) z ∙ (ap (λ m. ended_at stop input at m n) (add-zero i) ∙ passed_over _ _ (le-ltb number_limit n few))

      pub onward-none : i ≡ at → onward n i ≡ None
      onward-none e = ends ∙ chosen _ _ (eq-eqb i at e)

      pub onward-other : (i ≡ at → ⊥) → (get_or input i 0 ≡ stop → ⊥) → onward n i ≡ None
      onward-other d o = ends ∙ (passed_over _ _ (ne_eqb i at d) ∙ passed_over _ _ (ne_eqb (get_or input i 0) stop o))

      pub onward-is : (i ≡ at → ⊥) → get_or input i 0 ≡ stop → onward n i ≡ Some (record { value = n; next = (i + 1) })
      onward-is d e = ends ∙ (passed_over _ _ (ne_eqb i at d) ∙ chosen _ _ (eq-eqb (get_or input i 0) stop e))

-- a number ends in the input, behind its first digit
abbrev pub Ahead : Bytes → ℕ → Option Number → Type 0
Ahead input at (Some p) = (at + 1 < p.next) × (p.next ≤ length input)
Ahead input at None = Unit

pub number-ahead : (stop : ℕ) (input : Bytes) (at : ℕ) → 0 < stop → Ahead input at (number_at stop input at)
unfolding number_at ended_at
number-ahead stop input at p =
    let end = at + run digit (drop at input) in
    let value = spelt 0 (digits_of (drop at input)) in
    either (Ahead input at) (ltb number_limit value) (λ e. tt)
    (λ e.
    either (Ahead input at) (eqb end at) (λ e. tt)
    (λ d.
    either (Ahead input at) (eqb (get_or input end 0) stop)
    (λ e.
    let far = eqb-false end at d in
    let there = read-inside input end (sym (eqb-true (get_or input end 0) stop e)) p in
    (omega (arith, far), omega (arith, there)))
    (λ e. tt)))
