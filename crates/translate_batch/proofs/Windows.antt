-- A window over an input, read on from a place. Assumes nothing.
use Rattle.std.proofs.Common.{◌≡◌, ℕ, ◌-◌, ◌≤◌, ◌<◌, [], ◌++◌, length, take, drop, Option, None, Some, ap, sym, ◌∙◌, arith, length-append, length-drop, length-take-le, take_at, take_all, append-nil, eq-or-lt_of_le, zero-le, inl, inr}
use Rattle.std.specs.Io.KnownBytes.{Keeps, IsAtEnd, prepend_known}
use Rattle.text.specs.Bytes.{Bytes}
use Rattle.translate_batch.specs.Answering.{input_left, Stands, known_length}

keeps-some : (x y : Option Bytes) (d : Bytes) → x ≡ Some d → Keeps x y → y ≡ Some d
keeps-some None y d e k = cc
keeps-some (Some s) None d e k = absurd k
keeps-some (Some s) (Some t) d e k = ap Some k ∙ e

pub in-some : (s d : Bytes) → Some s ≡ Some d → s ≡ d
in-some s d e = cc

-- the same input, of which more is shown, has less unread
shorter : (old new : Option Bytes) (k t d : Bytes) → prepend_known k old ≡ Some d → prepend_known t new ≡ Some d → length k < length t → known_length new < known_length old
shorter None new k t d p q h = cc
shorter (Some u) None k t d p q h = cc
shorter (Some u) (Some v) k t d p q h =
    let a = ap length (in-some (k ++ u) d p) in
    let b = ap length (in-some (t ++ v) d q) in
    omega (arith, h, a, b, length-append k u, length-append t v)

all-shown : (v k : Bytes) (size : ℕ) → length k ≤ size → (length k < size → v ≡ []) → take size (k ++ v) ≡ k
all-shown v k size h e =
    elim (eq-or-lt_of_le h) [ inl s ↦ take_at k v size s | inr l ↦ ap (λ (w : Bytes). take size (k ++ w)) (e l) ∙ (ap (take size) (append-nil k) ∙ take_all size k h) ]

shown-by : (new : Option Bytes) (k d : Bytes) (size : ℕ) → prepend_known k new ≡ Some d → length k ≤ size → (length k < size → IsAtEnd new) → take size d ≡ k
shown-by None k d size e h end = cc
shown-by (Some v) k d size e h end = ap (take size) (sym (in-some (k ++ v) d e)) ∙ all-shown v k size h end

module _ (whole : Bytes) (place : ℕ) (window now : Bytes) (at used n : ℕ) (old new : Option Bytes) (stands : Stands whole place window at used old) where
  pub shown-length : length (drop at (take used window)) ≡ used - at
  shown-length = length-drop at (take used window) ∙ ap (λ (k : ℕ). k - at) (length-take-le used window stands.in_window)

  module _ (most : n ≤ length now) (left : Keeps (input_left window at used old) (input_left now 0 n new)) where
    left-on : input_left now 0 n new ≡ Some (drop place whole)
    left-on = keeps-some (input_left window at used old) (input_left now 0 n new) (drop place whole) stands.left left

    pub stands-on : Stands whole place now 0 n new
    stands-on = record { in_order = zero-le; in_window = most; left = left-on }

    pub shrinks : used - at < n → known_length new < known_length old
    shrinks h =
        let long = shown-length in
        let more = length-take-le n now most in
        shorter old new (drop at (take used window)) (take n now) (drop place whole) stands.left left-on (omega (arith, h, long, more))

    pub stuck : used - at ≤ n → n ≤ used - at → take (used - at) now ≡ drop at (take used window) → (n ≡ used - at → n < length now → IsAtEnd new) → take (length now) (drop place whole) ≡ drop at (take used window)
    stuck least over front end =
        let same : n ≡ used - at = omega (arith, least, over) in
        let shown : take n now ≡ drop at (take used window) = ap (λ (k : ℕ). take k now) same ∙ front in
        let long = length-take-le n now most in
        shown-by new (take n now) (drop place whole) (length now) left-on (omega (arith, long, most)) (λ h. end same (omega (arith, h, long))) ∙ shown
