-- Bytes read behind those that a buffer holds. Assumes nothing.
use Rattle.std.proofs.Common.{◌≡◌, ℕ, ◌+◌, ◌-◌, ◌≤◌, List, ◌++◌, length, take, drop, Option, None, Some, ap, ap₂, sym, ◌∙◌, subst, arith, length-drop, length-take-le, take-add, drop_at, append_assoc}
use Rattle.std.specs.Io.KnownBytes.{Consumes, Keeps, prepend_known}
use Rattle.std.proofs.KnownBytes.{Consumes-trans}
use Rattle.std.proofs.lemmas.List.{take-append-le, drop-take}
use Rattle.std.proofs.lemmas.Slice.{take-put_mid_below}
use borrow.Rule.Slice.PartMut.{put_mid}
use Rattle.lent.specs.Splice.{splice}
use Rattle.answers.proofs.Writing.{as_long}
use Rattle.translate_batch.proofs.Telling.{read-back}

-- what stands first once a part has been written from `a` on
pub grown : (a n k : ℕ) (xs ys : List ℕ) → a ≤ length xs → n ≤ length ys → take (a + n) (put_mid a k xs ys) ≡ take a xs ++ take n ys
grown a n k xs ys h l =
    let front = take-put_mid_below a k xs ys a (omega arith) h in
    let behind = drop_at (take a xs) (ys ++ drop k (drop a xs)) a (length-take-le a xs h) in
    take-add a n (put_mid a k xs ys) ∙ ap₂ (λ (s t : List ℕ). s ++ t) front (ap (take n) behind ∙ take-append-le n ys (drop k (drop a xs)) l)

pub read-on : (old mid new : Option (List ℕ)) (a n k : ℕ) (xs ys : List ℕ) → a ≤ length xs → n ≤ length ys → Consumes old mid (take a xs) → Consumes mid new (take n ys) → Consumes old new (take (a + n) (put_mid a k xs ys))
read-on old mid new a n k xs ys h l p q =
    subst (Consumes old new) (sym (grown a n k xs ys h l)) (Consumes-trans old mid new (take a xs) (take n ys) p q)

-- what a window holds of the input, moved to its front, with what is read behind it
pub kept : (window : List ℕ) (at used : ℕ) {now : List ℕ} → at ≤ used → used ≤ length window → now ≡ splice window 0 (take (used - at) (drop at window)) → take (used - at) now ≡ drop at (take used window)
kept window at used {now} h l e =
    let s = take (used - at) (drop at window) in
    let rest = length-drop at window in
    let size : length s ≡ used - at = length-take-le (used - at) (drop at window) (omega (arith, rest)) in
    let long = as_long window 0 s e in
    let there : at + (used - at) ≡ used = omega arith in
    read-back window s e (sym size) (omega (arith, long)) ∙ (sym (drop-take at (used - at) window) ∙ ap (λ (k : ℕ). drop at (take k window)) there)

pub left-kept : (old new : Option (List ℕ)) (kept got front : List ℕ) → front ≡ kept ++ got → Consumes old new got → Keeps (prepend_known kept old) (prepend_known front new)
left-kept None new kept got front e h = tt
left-kept (Some u) None kept got front e h = absurd h
left-kept (Some u) (Some v) kept got front e h = ap (λ l. l ++ v) e ∙ append_assoc kept got v ∙ ap (λ l. kept ++ l) (sym h)
