-- THE STEP: what the rules make of a model statement depends only on what is kept of its line. Assumes nothing.
use Prim.Native.Nat.{ℕ, zero, suc, ◌<◌}
use native.Mathlib.Omega.{arith}
use mathlib.Core.Path.{◌≡◌, refl, ap, sym, ◌∙◌}
use mathlib.Core.Bool.{Bool, true, false, ◌&&◌, ◌||◌, true≢false}
use mathlib.Core.List.{List, [], ◌∷◌}
use mathlib.Core.Option.{Option}
use lib.Dec.{eqb, ltb}
use lib.ListN.{length, take}
use lib.Seq.{take-take}
use borrow.Author.Tests.{ltb-true, ltb-false}
use Rattle.text.specs.Bytes.{Bytes, same}
use Rattle.text.specs.Words.{place_among, words}
use Rattle.rules.specs.Choice.{choose, every}
use Rattle.rules.specs.Limits.{line_limit, string_limit, too_long, language_word}
use Rattle.rules.specs.Fields.{is_empty}
use Rattle.rules.specs.Calls.{Operands, laid_out, trimmed}
use Rattle.rules.specs.Machine.{Machine, Level, State, refuses, calls, puts, is_title, is_language_word, states}
use Rattle.rules.proofs.Choices.{by, chosen, passed_over, and_left, and_right}
use Rattle.expand_laying.specs.Solid.{solid}
use Rattle.expand_laying.specs.Kept.{Kept, kept_of, kept_in, laid_kept, states_kept}
use Rattle.expand_laying.specs.declared.Field.{Field}
use Rattle.expand_laying.proofs.Solids.{trimmed-front}
use Rattle.expand_laying.proofs.Fronts.{laid-kept}

-- a line within its limit is among the bytes that are kept
kept_whole : (line : Bytes) → ltb line_limit (solid line) ≡ false → trimmed line ≡ take (solid line) (take line_limit line)
kept_whole line h = trimmed-front line ∙ sym (take-take (solid line) line_limit line (ltb-false line_limit (solid line) h))

or_right : (a b : Bool) → (a || b) ≡ false → b ≡ false
or_right true b h = absurd (true≢false h)
or_right false b h = h

pub states-digest : (m : Machine) (name operation operand : Bytes) (os : Option (Operands Bytes)) (ls : List Level) (s : State)
    → states m name operation operand os ls s ≡ states_kept m name operation (kept_of line_limit (laid_out name operation operand)) os ls s
unfolding states states_kept kept_of choose solid
states-digest m name operation operand os ls s = at (is_title m operation)
  where
    line : Bytes
    line = laid_out name operation operand

    at : (called : Bool)
        → choose (is_empty operation || ltb line_limit (length (choose called line (trimmed line)))) (refuses too_long s)
        (choose (is_language_word operation) (refuses language_word s) (choose called (calls m (place_among m.titles operation) name os ls s) (puts (trimmed line) ls s)))
        ≡ choose (is_empty operation || ltb line_limit (choose called (length line) (solid line))) (refuses too_long s)
        (choose (is_language_word operation) (refuses language_word s) (choose called (calls m (place_among m.titles operation) name os ls s) (puts (take (solid line) (take line_limit line)) ls s)))
    at true = refl
    at false = by (is_empty operation || ltb line_limit (solid line))
        (λ h. chosen _ _ h ∙ sym (chosen _ _ h))
        (λ h. passed_over _ _ h ∙ ap (λ t. choose (is_language_word operation) (refuses language_word s) (puts t ls s)) (kept_whole line (or_right (is_empty operation) (ltb line_limit (solid line)) h)) ∙ sym (passed_over _ _ h))

-- what a laid-out line in a buffer does: the lengths and the bytes that the code has are the rules'
pub states-laid : (m : Machine) (name operation operand line : Bytes) (l n o a : Field) (x y z : Bytes) (os : Option (Operands Bytes)) (ls : List Level) (s : State)
    → kept_in line_limit x n ≡ kept_of line_limit name → kept_in line_limit y o ≡ kept_of line_limit operation → kept_in line_limit z a ≡ kept_of line_limit operand
    → kept_in line_limit line l ≡ laid_kept (kept_in line_limit x n) (kept_in line_limit y o) (kept_in line_limit z a)
    → states m name operation operand os ls s ≡ states_kept m name operation (kept_in line_limit line l) os ls s
states-laid m name operation operand line l n o a x y z os ls s p q r e =
    states-digest m name operation operand os ls s
    ∙ ap (λ k. states_kept m name operation k os ls s) (sym (e ∙ (λ j. laid_kept (p j) (q j) (r j)) ∙ laid-kept name operation operand))

-- ---- the operation, by its front

same-front : (w s : Bytes) (k : ℕ) → length w < k → same w (take k s) ≡ same w s
same-front w s zero h = absurd (omega arith)
same-front [] [] (suc k) h = refl
same-front [] (d ∷ s) (suc k) h = refl
same-front (c ∷ w) [] (suc k) h = refl
same-front (c ∷ w) (d ∷ s) (suc k) h = ap (λ b. eqb c d && b) (same-front w s k (omega arith))

-- among texts that are all shorter than the front
among-front : (ws : List Bytes) (s : Bytes) (k : ℕ) → every (λ w. ltb (length w) k) ws ≡ true → place_among ws (take k s) ≡ place_among ws s
unfolding every
among-front [] s k h = refl
among-front (w ∷ ws) s k h =
    let short : length w < k = ltb-true (length w) k (and_left (ltb (length w) k) (every (λ v. ltb (length v) k) ws) h) in
    λ j. elim (same-front w s k short j) [ true ↦ 0 | false ↦ suc (among-front ws s k (and_right (ltb (length w) k) (every (λ v. ltb (length v) k) ws) h) j) ]

words-short : every (λ w. ltb (length w) string_limit) words ≡ true
unfolding every words
words-short = refl

empty-front : (s : Bytes) (k : ℕ) → is_empty (take (suc k) s) ≡ is_empty s
unfolding is_empty
empty-front [] k = refl
empty-front (c ∷ s) k = refl

-- so the 255 bytes that code keeps of an operation decide as all of it does, where no macro's name is so long
pub operation-front : (m : Machine) (name operation : Bytes) (line : Kept) (os : Option (Operands Bytes)) (ls : List Level) (s : State)
    → every (λ w. ltb (length w) string_limit) m.titles ≡ true
    → states_kept m name (take string_limit operation) line os ls s ≡ states_kept m name operation line os ls s
unfolding states_kept is_title is_language_word
operation-front m name operation line os ls s h = λ j.
    let called = ltb (among-front m.titles operation string_limit h j) (length m.titles) in
    choose (empty-front operation 254 j || ltb line_limit (choose called line.size line.solid)) (refuses too_long s)
    (choose (ltb (among-front words operation string_limit words-short j) (length words)) (refuses language_word s)
    (choose called (calls m (among-front m.titles operation string_limit h j) name os ls s) (puts (take line.solid line.front) ls s)))
