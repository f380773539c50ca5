-- What translation answers, by the verdict on the library and the room for its deck. Assumes nothing.
use Prim.Native.Nat.{ℕ, ◌-◌, ◌≤◌, ◌<◌}
use native.Mathlib.Nat.{sub-zero}
use native.Mathlib.Omega.{arith}
use mathlib.Core.Path.{◌≡◌, refl, ap, sym, ◌∙◌}
use mathlib.Core.List.{[], ◌∷◌}
use lib.Dec.{leb}
use lib.ListN.{length, take, drop}
use lib.Seq.{take_at}
use borrow.Author.Tests.{le-leb, lt-leb}
use Rattle.text.specs.Bytes.{Bytes}
use Rattle.rules.specs.Choice.{choose}
use Rattle.rules.specs.Limits.{no_room}
use Rattle.rules.specs.Faults.{Verdict, accepted, faulty, verdict}
use Rattle.rules.proofs.Choices.{chosen, passed_over}
use Rattle.deck.specs.Translation.{deck, refused, deck_of, translated_by, translated, buffer_after}
use Rattle.deck.specs.Translation.{Translated as Outcome}
use Rattle.lent.specs.Splice.{splice}
use Rattle.lent.proofs.Writes.{splice-whole}
use Rattle.refusals.specs.declared.Fault.{Fault}
use Rattle.refusals.specs.declared.Fault.TheVariants.{NoRoom}
use Rattle.refusals.specs.Numbers.{number_of}
use Rattle.std.specs.Prelude.{Result, Ok, Err}
use Rattle.refusals.specs.declared.Refused.{Refused}
use Rattle.translating.specs.Answers.{listing, listed, listed_by, Right}

module _ (library before : Bytes) where
  right_by : (o : Outcome) (r : Result ℕ Refused) (after : Bytes) → translated library (length before) ≡ o → listed r ≡ listed_by o → after ≡ buffer_after o before → Right library before r after
  right_by o r after e a b = record { answer = a ∙ ap listed_by (sym e); buffer = b ∙ ap (λ (o : Outcome). buffer_after o before) (sym e) }

  -- a faulty library
  pub refused-right : (e n : ℕ) (f : Fault) → verdict library ≡ faulty e n → number_of f ≡ e → Right library before (Err (record { fault = f; line = n })) before
  unfolding translated translated_by listed listed_by buffer_after
  refused-right e n f v h = right_by (refused e n) (Err (record { fault = f; line = n })) before (ap (λ (w : Verdict). translated_by w (deck_of library) (length before)) v) (ap (λ (k : ℕ). listing k (n ∷ [])) h) refl

  module _ (v : verdict library ≡ accepted) (size : ℕ) (s : size ≡ length (deck_of library)) where
    is-accepted : translated library (length before) ≡ choose (leb (length (deck_of library)) (length before)) (deck (deck_of library)) (refused no_room 0)
    unfolding translated translated_by
    is-accepted = ap (λ (w : Verdict). translated_by w (deck_of library) (length before)) v

    -- no room for the deck
    pub short-right : length before < size → Right library before (Err (record { fault = NoRoom; line = 0 })) before
    unfolding listed listed_by buffer_after
    short-right h = right_by (refused no_room 0) (Err (record { fault = NoRoom; line = 0 })) before (is-accepted ∙ passed_over _ _ (lt-leb (length (deck_of library)) (length before) (omega arith))) refl refl

    -- the deck, copied from where it was written
    pub deck-right : (room out after : Bytes) → size ≤ length before → length (deck_of library) ≤ length room → out ≡ splice room 0 (deck_of library) → after ≡ splice before 0 (take (size - 0) (drop 0 out))
        → Right library before (Ok size) after
    unfolding listed listed_by buffer_after
    deck-right room out after h k w c =
        let cut : take (size - 0) (drop 0 out) ≡ deck_of library =
        ap (λ (n : ℕ). take n out) (sub-zero size ∙ s) ∙ (ap (take (length (deck_of library))) (w ∙ splice-whole room (deck_of library) k) ∙ take_at (deck_of library) (drop (length (deck_of library)) room) (length (deck_of library)) refl) in
        right_by (deck (deck_of library)) (Ok size) after (is-accepted ∙ chosen _ _ (le-leb (length (deck_of library)) (length before) (omega arith)))
        (ap (λ (n : ℕ). listing 0 (n ∷ [])) s) (c ∙ (ap (splice before 0) cut ∙ splice-whole before (deck_of library) (omega arith)))
