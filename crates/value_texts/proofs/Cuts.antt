-- What is kept of strings is kept through every operation on them. Assumes nothing.
use Prim.Native.Nat.{ℕ, ◌+◌, ◌≤◌, ◌<◌}
use mathlib.Core.Path.{◌≡◌, refl, sym, ap, ◌∙◌}
use mathlib.Core.Bool.{Bool, true, false, ◌||◌}
use mathlib.Core.List.{[], ◌∷◌, ◌++◌}
use native.Mathlib.Omega.{arith}
use lib.Dec.{ltb}
use lib.ListN.{length, take, drop, length-append}
use lib.Seq.{take-append_seam, length-take-le}
use borrow.Author.Tests.{ltb-true, ltb-false, lt-ltb, le-ltb}
use Rattle.text.specs.Bytes.{Bytes}
use Rattle.rules.specs.Choice.{choose}
use Rattle.rules.specs.Limits.{string_limit}
use Rattle.rules.specs.Evaluate.{Chars, chars, joined_chars, measured_chars}
use Rattle.rules.proofs.Choices.{by}
use Rattle.lent.specs.Splice.{splice}
use Rattle.lent.proofs.Writes.{splice-is}
use Rattle.value_texts.specs.Held.{keeping, cut, held_in, joined_held, measured_held}
use Rattle.value_texts.specs.declared.Text.{Text}

keeps-none : (over : Bool) (n : ℕ) (s : Bytes) → 255 < n → keeping over n s ≡ []
unfolding keeping choose
keeps-none true n s h = refl
keeps-none false n s h = rw (lt-ltb 255 n h)

keeps-all : (n : ℕ) (s : Bytes) → n ≤ 255 → keeping false n s ≡ s
unfolding keeping choose
keeps-all n s h = rw (le-ltb 255 n h)

refused : (n : ℕ) (s : Bytes) → keeping true n s ≡ []
unfolding keeping choose
refused n s = refl

-- bytes of the front are kept as long as the whole is
joins : (over : Bool) (n m : ℕ) (s t : Bytes) → keeping over (n + m) (keeping over n s ++ t) ≡ keeping over (n + m) (s ++ t)
joins true n m s t = refused _ _ ∙ sym (refused _ _)
joins false n m s t = by (ltb 255 (n + m))
    (λ h. keeps-none false (n + m) _ (ltb-true _ _ h) ∙ sym (keeps-none false (n + m) _ (ltb-true _ _ h)))
    (λ h. let small : n ≤ 255 = omega (arith, ltb-false 255 (n + m) h) in ap (λ l. keeping false (n + m) (l ++ t)) (keeps-all n s small))

-- HOMOMORPHISM: joining, measuring
pub joined-cut : (c : Chars) (s : Bytes) → joined_held (cut c) s ≡ cut (joined_chars c (chars s))
unfolding joined_held cut joined_chars chars
joined-cut c s =
    let size : length c.bytes + length s ≡ length (c.bytes ++ s) = sym (length-append c.bytes s) in
    let over : (c.over || false) ≡ c.over = plain c.over in
    λ j. record {
      bytes = (joins c.over (length c.bytes) (length s) c.bytes s ∙ (λ k. keeping (sym over k) (size k) (c.bytes ++ s))) j;
      size = size j;
      over = sym over j;
    }
  where
    plain : (b : Bool) → (b || false) ≡ b
    plain true = refl
    plain false = refl

measured-same : (over : Bool) (n : ℕ) (s : Bytes) → keeping over n s ≡ keeping (over || ltb string_limit n) n s
measured-same true n s = refl
measured-same false n s = by (ltb 255 n)
    (λ h. keeps-none false n s (ltb-true _ _ h) ∙ sym (keeps-none (false || ltb string_limit n) n s (ltb-true _ _ h)))
    (λ h. ap (λ b. keeping b n s) (sym h))

pub measured-cut : (c : Chars) → measured_held (cut c) ≡ cut (measured_chars c)
unfolding measured_held cut measured_chars
measured-cut c = λ j. record { bytes = measured-same c.over (length c.bytes) c.bytes j; size = length c.bytes; over = c.over || ltb string_limit (length c.bytes) }

pub measured-code : (out : Bytes) (t : Text) → held_in out (record { size = t.size; over = t.over || ltb string_limit t.size }) ≡ measured_held (held_in out t)
unfolding held_in measured_held
measured-code out t = λ j. record { bytes = sym (measured-same t.over t.size (take t.size out)) j; size = t.size; over = t.over || ltb string_limit t.size }

-- the code: a text that stays within 255 bytes is written, any other is only counted
module _ (out s : Bytes) (t : Text) where
  pub counted-only : 255 < t.size + length s → held_in out (record { size = t.size + length s; over = t.over }) ≡ joined_held (held_in out t) s
  unfolding held_in joined_held
  counted-only h = λ j. record {
    bytes = (keeps-none t.over (t.size + length s) (take (t.size + length s) out) h ∙ sym (keeps-none t.over (t.size + length s) (keeping t.over t.size (take t.size out) ++ s) h)) j;
    size = t.size + length s;
    over = t.over;
  }

  pub written_behind : t.size + length s ≤ 255 → 255 ≤ length out
      → held_in (splice out t.size s) (record { size = t.size + length s; over = t.over }) ≡ joined_held (held_in out t) s
  unfolding held_in joined_held
  written_behind h room =
      let fits : t.size + length s ≤ length out = omega arith in
      let short : t.size ≤ length out = omega arith in
      let front : length (take t.size out) ≡ t.size = length-take-le t.size out short in
      let size : t.size + length s ≡ length (take t.size out ++ s) = ap (λ n. n + length s) (sym front) ∙ sym (length-append (take t.size out) s) in
      let taken : take (t.size + length s) (splice out t.size s) ≡ take t.size out ++ s =
      ap (take (t.size + length s)) (splice-is out t.size s fits ∙ assoc (take t.size out) s _)
      ∙ ap (λ n. take n ((take t.size out ++ s) ++ drop (t.size + length s) out)) size ∙ take-append_seam (take t.size out ++ s) _ in
      λ j. record {
        bytes = (ap (keeping t.over (t.size + length s)) taken ∙ sym (joins t.over t.size (length s) (take t.size out) s)) j;
        size = t.size + length s;
        over = t.over;
      }
    where
      assoc : (a b c : Bytes) → a ++ (b ++ c) ≡ (a ++ b) ++ c
      assoc [] b c = refl
      assoc (x ∷ a) b c = ap (λ l. x ∷ l) (assoc a b c)

pub written-to : (out out₁ s : Bytes) (t : Text) → out₁ ≡ splice out t.size s → t.size + length s ≤ 255 → 255 ≤ length out
    → held_in out₁ (record { size = t.size + length s; over = t.over }) ≡ joined_held (held_in out t) s
written-to out out₁ s t e h room = ap (λ o. held_in o (record { size = t.size + length s; over = t.over })) e ∙ written_behind out s t h room
