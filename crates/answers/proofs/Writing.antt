-- Numbers and answers written into a buffer, digit by digit and part by part. Assumes nothing.
use Prim.Native.Nat.{ℕ, zero, suc, ◌+◌, ◌-◌, ◌/◌, ◌%◌, ◌≤◌, ◌<◌}
use native.Mathlib.Numerals.{sub-one}
use native.Mathlib.Omega.{arith}
use mathlib.Core.Path.{◌≡◌, refl, ap, sym, ◌∙◌}
use mathlib.Core.List.{[], ◌∷◌, ◌++◌}
use lib.Dec.{ltb}
use lib.ListN.{length, set, drop, length-set, length-append}
use lib.Seq.{drop-cons, get_or-set_same, drop-set-lt}
use borrow.Author.Tests.{lt-ltb, le-ltb}
use Rattle.text.specs.Bytes.{Bytes, bytes}
use Rattle.rules.specs.Values.{decimal}
use Rattle.rules.proofs.Choices.{chosen, passed_over, either}
use Rattle.lent.specs.Splice.{splice}
use Rattle.lent.proofs.Writes.{splice-length, splice-append, splice-cons}
use Rattle.rules.specs.Lexemes.{space}
use Rattle.rules.specs.Fields.{newline}
use Rattle.answers.specs.Answers.{decimal_of, spaced, refused_answer, deck_answer}

-- ---- a number's digits, from the last to the first

drop-set : (l : Bytes) (k a : ℕ) → k < length l → drop k (set l k a) ≡ a ∷ drop (suc k) l
drop-set l k a h =
    let less : k < suc k = omega arith in
    drop-cons (set l k a) k 0 (rw length-set h) ∙ rw (get_or-set_same l k a 0 h, drop-set-lt (suc k) l k a less)

module _ (l : Bytes) (n : ℕ) where
  pub last-digit : (i : ℕ) → 0 < i → i ≤ length l → n < 10 → drop (i - 1) (set l (i - 1) (48 + n % 10)) ≡ decimal i n (drop i l)
  unfolding decimal
  last-digit zero p h k = absurd (omega arith)
  last-digit (suc i) p h k = rw sub-one (drop-set l i (48 + n % 10) h ∙ sym (chosen _ _ (lt-ltb n 10 k)))

  pub next-digit : (i : ℕ) → 0 < i → i ≤ length l → 10 ≤ n → decimal (i - 1) (n / 10) (drop (i - 1) (set l (i - 1) (48 + n % 10))) ≡ decimal i n (drop i l)
  unfolding decimal
  next-digit zero p h k = absurd (omega arith)
  next-digit (suc i) p h k = rw sub-one (ap (decimal i (n / 10)) (drop-set l i (48 + n % 10) h) ∙ sym (passed_over _ _ (le-ltb n 10 k)))

  pub no_digit : (i : ℕ) → i ≤ 0 → drop i l ≡ decimal i n (drop i l)
  unfolding decimal
  no_digit zero h = refl
  no_digit (suc i) h = absurd (omega arith)

decimal-most : (k n : ℕ) (s : Bytes) → length (decimal k n s) ≤ k + length s
unfolding decimal
decimal-most zero n s = omega arith
decimal-most (suc k) n s =
    let t = (48 + n % 10) ∷ s in
    let one : length t ≤ suc k + length s = omega arith in
    let h = decimal-most k (n / 10) t in
    let more : length (decimal k (n / 10) t) ≤ suc k + length s = omega (arith, h) in
    either (λ (u : Bytes). length u ≤ suc k + length s) (ltb n 10) (λ e. one) (λ e. more)

pub decimal-short : (n : ℕ) → length (decimal_of n) ≤ 20
unfolding decimal_of
decimal-short n = let h = decimal-most 20 n [] in omega (arith, h)

pub spaced-short : (n : ℕ) → length (spaced n) ≤ 21
unfolding spaced
spaced-short n = let h = decimal-short n in omega (arith, h)

-- ---- the parts of an answer, one behind another

pub as_long : (out : Bytes) (at : ℕ) (s : Bytes) {new : Bytes} → new ≡ splice out at s → length new ≡ length out
as_long out at s e = ap length e ∙ splice-length out at s

pub space-written : (out : Bytes) (at n : ℕ) → splice (set out at space) (at + 1) (decimal_of n) ≡ splice out at (spaced n)
unfolding spaced
space-written out at n = splice-cons out at space (decimal_of n)

pub space-counted : (at n : ℕ) → at + 1 + length (decimal_of n) ≡ at + length (spaced n)
unfolding spaced
space-counted at n = omega arith

-- one more byte behind what is written
pub byte-behind : (out s : Bytes) (at end b : ℕ) → end ≡ at + length s → set (splice out at s) end b ≡ splice out at (s ++ (b ∷ []))
unfolding splice
byte-behind out s at end b e = ap (λ (k : ℕ). set (splice out at s) k b) e ∙ splice-append out at s (b ∷ [])

-- what is behind what is written
joined : (out a b : Bytes) (k : ℕ) {o p : Bytes} → o ≡ splice out 0 a → p ≡ splice o k b → k ≡ length a → p ≡ splice out 0 (a ++ b)
joined out a b k e f h =
    let behind : k ≡ 0 + length a = omega (arith, h) in
    f ∙ (ap (λ (o : Bytes). splice o k b) e ∙ (ap (λ (j : ℕ). splice (splice out 0 a) j b) behind ∙ splice-append out 0 a b))

ended : (out s : Bytes) (end : ℕ) {o : Bytes} → o ≡ splice out 0 s → end ≡ length s → (set o end newline ≡ splice out 0 (s ++ (newline ∷ []))) × (end + 1 ≡ length (s ++ (newline ∷ [])))
ended out s end e h =
    (ap (λ (o : Bytes). set o end newline) e ∙ byte-behind out s 0 end newline (omega (arith, h)), rw length-append (omega (arith, h)))

module _ (out : Bytes) {o p : Bytes} where
  pub deck-written : (n end : ℕ) → o ≡ splice out 0 (bytes " DECK") → p ≡ splice o 5 (spaced n) → end ≡ 5 + length (spaced n) → (set p end newline ≡ splice out 0 (deck_answer n)) × (end + 1 ≡ length (deck_answer n))
  unfolding deck_answer
  deck-written n end e f h =
      let w = bytes " DECK" in
      ended out (w ++ spaced n) end (joined out w (spaced n) 5 e f refl) (h ∙ sym (length-append w (spaced n)))

  pub refused-written : (number line behind end : ℕ) {q : Bytes} → o ≡ splice out 0 (bytes " LIBRARY") → p ≡ splice o 8 (spaced number) → behind ≡ 8 + length (spaced number) → q ≡ splice p behind (spaced line) → end ≡ behind + length (spaced line) → (set q end newline ≡ splice out 0 (refused_answer number line)) × (end + 1 ≡ length (refused_answer number line))
  unfolding refused_answer
  refused-written number line behind end e f h g i =
      let w = bytes " LIBRARY" in
      let b : behind ≡ length (w ++ spaced number) = h ∙ sym (length-append w (spaced number)) in
      let s = (w ++ spaced number) ++ spaced line in
      let whole : end ≡ length s = i ∙ (ap (λ (k : ℕ). k + length (spaced line)) b ∙ sym (length-append (w ++ spaced number) (spaced line))) in
      ended out s end (joined out (w ++ spaced number) (spaced line) behind (joined out w (spaced number) 8 e f refl) g b) whole

-- an answer lies in the buffer that it was written to
module _ (out : Bytes) (room : 64 ≤ length out) {new : Bytes} {end : ℕ} where
  pub deck-fits : (n : ℕ) → new ≡ splice out 0 (deck_answer n) → end ≡ length (deck_answer n) → end ≤ length new
  unfolding deck_answer
  deck-fits n e h =
      let long = as_long out 0 (deck_answer n) e in
      let short = spaced-short n in
      let size = h ∙ (length-append (bytes " DECK" ++ spaced n) (newline ∷ []) ∙ ap (λ (k : ℕ). k + 1) (length-append (bytes " DECK") (spaced n))) in
      omega (arith, long, short, size, room)

  pub refused-fits : (number line : ℕ) → new ≡ splice out 0 (refused_answer number line) → end ≡ length (refused_answer number line) → end ≤ length new
  unfolding refused_answer
  refused-fits number line e h =
      let long = as_long out 0 (refused_answer number line) e in
      let short = spaced-short number in
      let short2 = spaced-short line in
      let both = length-append (bytes " LIBRARY" ++ spaced number) (spaced line) ∙ ap (λ (k : ℕ). k + length (spaced line)) (length-append (bytes " LIBRARY") (spaced number)) in
      let size = h ∙ (length-append ((bytes " LIBRARY" ++ spaced number) ++ spaced line) (newline ∷ []) ∙ ap (λ (k : ℕ). k + 1) both) in
      omega (arith, long, short, short2, size, room)
