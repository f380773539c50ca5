-- What is written for a case is its answer. Assumes nothing.
use Rattle.std.proofs.Common.{◌≡◌, ℕ, ◌+◌, ◌≤◌, [], ◌∷◌, ◌++◌, length, take, drop, refl, ap, sym, ◌∙◌, subst, arith, length-append, Result, Ok, Err, Option, OnOk}
use Rattle.std.specs.Io.KnownBytes.{Appends}
use Rattle.std.proofs.KnownBytes.{Appends-trans}
use Rattle.std.proofs.Math.Seq.{take_at}
use Rattle.text.specs.Bytes.{Bytes, bytes}
use Rattle.rules.specs.Fields.{newline}
use Rattle.lent.specs.Splice.{splice}
use Rattle.lent.proofs.Writes.{splice-read}
use Rattle.deck.specs.Translation.{deck, refused, translated, buffer_after}
use Rattle.deck.specs.Translation.{Translated as Outcome}
use Rattle.refusals.specs.declared.Fault.{Fault}
use Rattle.refusals.specs.Numbers.{number_of}
use Rattle.refusals.proofs.Apart.{numbered-from-1}
use Rattle.answers.specs.Answers.{refused_answer, deck_answer}
use Rattle.answers.proofs.Writing.{as_long}
use Rattle.translating.specs.Answers.{Listed, listing, listed, listed_by, Right}
use Rattle.translate_batch.specs.Answering.{deck_told, told, answer_to}
use Rattle.translate_batch.proofs.Told.{IsAnswer, is_answer}

-- what was written to a buffer's front stands there
pub read-back : (out s : Bytes) {new : Bytes} {end : ℕ} → new ≡ splice out 0 s → end ≡ length s → end ≤ length new → take end new ≡ s
read-back out s {new} {end} e h l =
    let long = as_long out 0 s e in
    let fits : 0 + length s ≤ length out = omega (arith, h, l, long) in
    ap (λ (k : ℕ). take k new) h ∙ (ap (take (length s)) e ∙ splice-read out 0 s fits)

number_in : Listed → ℕ
number_in (listing n v) = n

value_in : Listed → ℕ
value_in (listing n []) = 0
value_in (listing n (v ∷ vs)) = v

module _ (library before after : Bytes) where
  pub record Held (n : ℕ) : Type 0 where
    pub fits : n ≤ length after
    pub says : told (translated library (length before)) ≡ deck_told (take n after)

  deck-by : (n : ℕ) (o : Outcome) → IsAnswer (length before) o → listed (Ok n) ≡ listed_by o → after ≡ buffer_after o before → (n ≤ length after) × (told o ≡ deck_told (take n after))
  unfolding listed listed_by buffer_after told number_in value_in
  deck-by n (deck d) h e b =
      let size : n ≡ length d = ap value_in e in
      let whole = ap length b ∙ length-append d (drop (length d) before) in
      (omega (arith, size, whole), ap deck_told (sym (ap (take n) b ∙ (ap (λ (k : ℕ). take k (d ++ drop (length d) before)) size ∙ take_at d (drop (length d) before) (length d) refl))))
  deck-by n (refused f m) h e b = let z : 0 ≡ f = ap number_in e in absurd (omega (arith, h, z))

  pub deck-held : (n : ℕ) → Right library before (Ok n) after → Held n
  deck-held n r =
      let both = deck-by n (translated library (length before)) (is_answer library (length before)) r.answer r.buffer in
      record { fits = both.0; says = both.1 }

  refused-by : (f : Fault) (n : ℕ) (o : Outcome) → IsAnswer (length before) o → listed (Err (record { fault = f; line = n })) ≡ listed_by o → told o ≡ refused_answer (number_of f) n
  unfolding listed listed_by told number_in value_in
  refused-by f n (deck d) h e = let z : number_of f ≡ 0 = ap number_in e in absurd (numbered-from-1 f z)
  refused-by f n (refused g m) h e =
      ap (λ (i : ℕ). refused_answer i m) (sym (ap number_in e)) ∙ ap (refused_answer (number_of f)) (sym (ap value_in e))

  pub refused-says : (f : Fault) (n : ℕ) → Right library before (Err (record { fault = f; line = n })) after → told (translated library (length before)) ≡ refused_answer (number_of f) n
  refused-says f n r = refused-by f n (translated library (length before)) (is_answer library (length before)) r.answer

-- ---- one write behind another

pub on_ok : {T E : Type 0} (r : Result T E) {P Q : Type 0} → (P → Q) → OnOk r P → OnOk r Q
on_ok (Ok v) f p = f p
on_ok (Err e) f p = p

module _ (a b c d : Option Bytes) where
  pub deck-appended : {E : Type 0} (r : Result (Unit {0}) E) (s t : Bytes) → s ≡ deck_answer (length t) → Appends a b s → Appends b c t → OnOk r (Appends c d (newline ∷ [])) → OnOk r (Appends a d (deck_told t))
  unfolding deck_told
  deck-appended r s t e p q h =
      let head : Appends a b (deck_answer (length t)) = subst (Appends a b) e p in
      on_ok r (λ k. Appends-trans a c d (deck_answer (length t) ++ t) (newline ∷ []) (Appends-trans a b c (deck_answer (length t)) t head q) k) h

  pub answer-appended : (id library : Bytes) (room : ℕ) (s : Bytes) → told (translated library room) ≡ s → Appends a b (bytes "ANSWER ") → Appends b c id → Appends c d s → Appends a d (answer_to id library room)
  unfolding answer_to
  answer-appended id library room s e p q k =
      let word = bytes "ANSWER " in
      Appends-trans a c d (word ++ id) (told (translated library room)) (Appends-trans a b c word id p q) (subst (Appends c d) (sym e) k)
