-- A step over a case of the window is one over a case of the input; where the window shows no case, none stands in the input that fits. Assumes nothing.
use Rattle.std.proofs.Common.{◌≡◌, ℕ, ◌+◌, ◌-◌, ◌≤◌, ◌<◌, Bool, true, false, leb, [], ◌∷◌, ◌++◌, length, take, drop, Option, None, Some, refl, ap, sym, ◌∙◌, subst, arith, length-append, length-drop, length-take-le, take-take, drop-drop, leb-false, Result, Ok, Err, IfOk}
use Rattle.std.specs.Io.KnownBytes.{Keeps, Appends, prepend_known}
use Rattle.std.proofs.KnownBytes.{Appends-nil, Keeps-refl}
use Rattle.std.proofs.lemmas.List.{take-append-le, drop-append-le, drop-take}
use Rattle.text.specs.Bytes.{Bytes}
use Rattle.rules.specs.Choice.{choose}
use Rattle.rules.proofs.Choices.{chosen, passed_over, by}
use Rattle.batch.specs.declared.Case.{Case}
use Rattle.batch.specs.declared.Case.TheVariants.{Found, End, Broken}
use Rattle.batch.specs.Format.{case_at}
use Rattle.batch.proofs.Inside.{Inside, found_inside}
use Rattle.batch.proofs.Stays.{found-stays}
use Rattle.batch.proofs.Shifted.{moved, case-shift, case-back, case-on}
use Rattle.translate_batch.specs.declared.Place.{Place}
use Rattle.translate_batch.specs.Answering.{answer_to, part, message, complaint, IsNoCase, Stands, known_length, ReadsOn, Moves, stays, answers, Steps}
use Rattle.translate_batch.proofs.Windows.{in-some}

-- ---- a case

module _ (whole : Bytes) (place : ℕ) (window : Bytes) (at used : ℕ) (unread : Bytes) (fits : used ≤ length window) (q : drop at (take used window) ++ unread ≡ drop place whole) where
  dropped : (i : ℕ) → at ≤ i → i ≤ used → drop (place + (i - at)) whole ≡ drop i (take used window) ++ unread
  dropped i h l =
      let x = take used window in
      let y = drop at x in
      let long : length x ≡ used = length-take-le used window fits in
      let size = length-drop at x in
      let there : at + (i - at) ≡ i = omega arith in
      sym (drop-drop (i - at) place whole)
      ∙ (ap (drop (i - at)) (sym q)
      ∙ (drop-append-le (i - at) y unread (omega (arith, size, long))
      ∙ ap (λ (s : Bytes). s ++ unread) (drop-drop (i - at) at x ∙ ap (λ (k : ℕ). drop k x) there)))

  part-there : (i j : ℕ) → at ≤ i → i ≤ j → j ≤ used → take (j - i) (drop i window) ≡ part whole (place + (i - at)) (place + (j - at))
  part-there i j h k l =
      let x = take used window in
      let long : length x ≡ used = length-take-le used window fits in
      let size = length-drop i x in
      let many : (place + (j - at)) - (place + (i - at)) ≡ j - i = omega arith in
      let end : i + (used - i) ≡ used = omega arith in
      sym (ap (λ (n : ℕ). take n (drop (place + (i - at)) whole)) many
      ∙ (ap (take (j - i)) (dropped i h (omega arith))
      ∙ (take-append-le (j - i) (drop i x) unread (omega (arith, size, long))
      ∙ (ap (λ (n : ℕ). take (j - i) (drop i (take n window))) (sym end)
      ∙ (ap (take (j - i)) (drop-take i (used - i) window) ∙ take-take (j - i) (used - i) (drop i window) (omega arith))))))

  module _ (id blank library program stop next output workspace : ℕ) (found : Found id blank library program stop next output workspace ≡ case_at (take used window) at) where
    there : case_at whole place ≡ Found (place + (id - at)) (place + (blank - at)) (place + (library - at)) (place + (program - at)) (place + (stop - at)) (place + (next - at)) output workspace
    there =
        let y = drop at (take used window) in
        case-on place whole (ap (λ (s : Bytes). case_at s 0) (sym q) ∙ found-stays y unread 0 (case-back at (take used window) (sym found)))

    inside : Inside (take used window) at (Found id blank library program stop next output workspace)
    inside = found_inside (take used window) at found

    module _ (room : ℕ) (o o' e : Option Bytes) (written : Appends o o' (answer_to (take (blank - id) (drop id window)) (take (program - library) (drop library window)) room)) where
      stepped : (n : ℕ) × (Stands whole n window next used (Some unread) × (length (drop n whole) + length unread < length (drop place whole) + length unread) × Moves whole room o o' place n × Keeps e e)
      stepped =
          let long : length (take used window) ≡ used = length-take-le used window fits in
          let a = inside.0 in
          let b = inside.1 in
          let c = inside.2 in
          let d = inside.3 in
          let f = inside.4 in
          let g = inside.5 in
          let h = inside.6 in
          let x = take used window in
          let left = dropped next (omega (arith, a, b, c, d, f, g)) (omega (arith, h, long)) in
          let rest : length (drop (place + (next - at)) whole) ≡ (length x - next) + length unread = ap length left ∙ (length-append (drop next x) unread ∙ ap (λ (n : ℕ). n + length unread) (length-drop next x)) in
          let all : length (drop place whole) ≡ (length x - at) + length unread = ap length (sym q) ∙ (length-append (drop at x) unread ∙ ap (λ (n : ℕ). n + length unread) (length-drop at x)) in
          let name = part-there id blank (omega (arith, a)) (omega (arith, b)) (omega (arith, c, d, f, g, h, long)) in
          let body = part-there library program (omega (arith, a, b, c)) d (omega (arith, f, g, h, long)) in (
            place + (next - at),
            (
              record { in_order = omega (arith, h, long); in_window = fits; left = ap Some (sym left) },
              omega (arith, rest, all, a, b, c, d, f, g, h),
              answers there (subst (Appends o o') (λ i. answer_to (name i) (body i) room) written),
              Keeps-refl e,
            ),
          )

unknown : (k d : Bytes) → prepend_known k None ≡ Some d → ⊥
unknown k d p = cc

pub found-steps : (whole : Bytes) (place : ℕ) (window : Bytes) (at used : ℕ) (u : Option Bytes) → Stands whole place window at used u
    → (id blank library program stop next output workspace : ℕ) → Found id blank library program stop next output workspace ≡ case_at (take used window) at
    → (room : ℕ) (o o' e : Option Bytes) → Appends o o' (answer_to (take (blank - id) (drop id window)) (take (program - library) (drop library window)) room)
    → (n : ℕ) × (Stands whole n window next used u × (length (drop n whole) + known_length u < length (drop place whole) + known_length u) × Moves whole room o o' place n × Keeps e e)
found-steps whole place window at used None stands id blank library program stop next output workspace found room o o' e written =
    absurd (unknown (drop at (take used window)) (drop place whole) stands.left)
found-steps whole place window at used (Some u) stands id blank library program stop next output workspace found room o o' e written =
    stepped whole place window at used u stands.in_window (in-some (drop at (take used window) ++ u) (drop place whole) stands.left) id blank library program stop next output workspace found room o o' e written

-- ---- no case

no-case : (k : ℕ) (c : Case) {d : Case} → moved k c ≡ d → IsNoCase d → IsNoCase c
no-case k (Found id blank library program stop next output workspace) e h = subst IsNoCase (sym e) h
no-case k End e h = tt
no-case k Broken e h = tt

no-case-here : (x : Bytes) (at : ℕ) {d : Case} → d ≡ case_at x at → IsNoCase d → IsNoCase (case_at (drop at x) 0)
no-case-here x at e h =
    let here : at + 0 ≡ at = omega arith in
    no-case at (case_at (drop at x) 0) (sym (case-shift at x 0) ∙ (ap (case_at x) here ∙ sym e)) h

none : (s : Bytes) → length s ≤ 0 → s ≡ []
none [] h = refl
none (b ∷ s) h = absurd (omega arith)

quiet : (s : Bytes) → length s ≤ 0 → complaint s ≡ []
unfolding complaint
quiet [] h = refl
quiet (b ∷ s) h = absurd (omega arith)

loud : (s : Bytes) → 0 < length s → complaint s ≡ message
unfolding complaint
loud [] h = absurd (omega arith)
loud (b ∷ s) h = refl

pub at-end : (x : Bytes) (at : ℕ) → End ≡ case_at x at → IsNoCase (case_at (drop at x) 0) × (choose true [] message ≡ complaint (drop at x))
at-end x at e =
    let over : length x ≤ at = found_inside x at e in
    let size = length-drop at x in
    (no-case-here x at e tt, chosen {b = true} [] message refl ∙ sym (quiet (drop at x) (omega (arith, size, over))))

ahead : (x : Bytes) (at : ℕ) → Broken ≡ case_at x at → at < length x
unfolding case_at
ahead x at e = by (leb (length x) at) (λ h. let past = e ∙ chosen _ _ h in absurd (differs past)) (λ h. leb-false (length x) at h)
  where
    differs : Broken ≡ End → ⊥
    differs h = cc

pub at-broken : (x : Bytes) (at : ℕ) → Broken ≡ case_at x at → IsNoCase (case_at (drop at x) 0) × (choose false [] message ≡ complaint (drop at x))
at-broken x at e =
    let over = ahead x at e in
    let size = length-drop at x in
    (no-case-here x at e tt, passed_over {b = false} [] message refl ∙ sym (loud (drop at x) (omega (arith, size, over))))

module _ (whole : Bytes) (place : ℕ) (shown : Bytes) (ended : Bool) (room : ℕ) (u o e : Option Bytes) (window' : Bytes) (u' e' : Option Bytes)
    (none : IsNoCase (case_at shown 0)) (says : choose ended [] message ≡ complaint shown) where
  steps-by : (left : Option Place) → ReadsOn whole place shown ended u e window' u' e' left → Steps whole place room u o e window' u' o e' left
  steps-by (Some p) r = let h = r.1 in (place, (r.0, omega (arith, h), stays (Appends-nil o), r.2))
  steps-by None r =
      (subst (λ (s : Bytes). IsNoCase (case_at s 0)) (sym r.0) none, subst (Appends e e') (says ∙ ap complaint (sym r.0)) r.1, Appends-nil o)

  pub read-steps : {E : Type 0} (result : Result (Option Place) E) → IfOk result (ReadsOn whole place shown ended u e window' u' e') → IfOk result (Steps whole place room u o e window' u' o e')
  read-steps (Ok left) r = steps-by left r
  read-steps (Err x) r = r
