-- A line that is used as it stands: refused, a call, or copied. Assumes nothing.
use Prim.Native.Nat.{ℕ, ◌/◌}
use mathlib.Core.Path.{◌≡◌, refl, sym, ap, ◌∙◌, subst}
use mathlib.Core.Bool.{true, false}
use mathlib.Core.List.{List, map}
use native.Mathlib.Omega.{arith}
use lib.Dec.{ltb}
use lib.ListN.{length}
use Rattle.text.specs.Bytes.{Bytes}
use Rattle.text.specs.Words.{words, place_among, word_number}
use Rattle.rules.specs.Choice.{every}
use Rattle.rules.specs.Fields.{is_ill_written, statement_fields}
use Rattle.rules.specs.Library.{operation_of}
use Rattle.rules.specs.Machine.{State, Move, is_title, is_language_word, uses}
use Rattle.rules.proofs.Choices.{chosen, passed_over}
use Rattle.deck.specs.Slots.{Deck, machine_of_deck}
use Rattle.names.specs.Names.{titles_in, padded}
use Rattle.tables.specs.Titles.{fits_row}
use Rattle.expand_titles.proofs.Places.{rows-count}
use Rattle.expand_levels.specs.Stack.{Sized}
use Rattle.expand_levels.specs.declared.Running.{Running}
use Rattle.work_frames.specs.Frames.{index_in}
use Rattle.work_frames.specs.Indexed.{macros_in, title_rows}
use Rattle.expand_steps.specs.Moving.{StandsFor, Moves, unready}
use Rattle.expand_steps.specs.Writing.{Ready, Writes, Copied, Used}
use Rattle.expand_steps.specs.Runs.{stops_by}
use Rattle.refusals.specs.declared.Fault.TheVariants.{BadByte, LanguageWord}
use Rattle.expand_steps.specs.declared.Halt.{Halt}
use Rattle.expand_steps.specs.declared.Halt.TheVariants.{Refused, Unready}
use Rattle.expand_steps.specs.declared.Run.{Run}
use Rattle.expand_steps.specs.declared.Stepped.{Stepped}
use Rattle.expand_steps.proofs.Acting.{refused-so}

-- ---- titles

pub title-told : (deck w table op : Bytes) (k : ℕ) → table ≡ title_rows (index_in w) (macros_in deck)
    → ((titles : List Bytes) → titles_in table ≡ map padded titles → every fits_row titles ≡ true → k ≡ place_among titles op)
    → (d : Deck) → Ready d deck (index_in w) → ltb k (length table / 8) ≡ is_title (machine_of_deck d) op
unfolding is_title machine_of_deck
title-told deck w table op k is places d ready =
    let titles : List Bytes = map (λ m. m.title) d.macros in
    let rows : titles_in table ≡ map padded titles = ap titles_in (is ∙ ap (title_rows (index_in w)) ready.indexed.macros) ∙ ready.indexed.titles in
    λ j. ltb (places titles rows ready.words j) (rows-count table titles rows j)

pub word-told : (line op : Bytes) (k : ℕ) → op ≡ operation_of line → k ≡ word_number op → ltb k 16 ≡ is_language_word (statement_fields line).operation
unfolding is_language_word word_number operation_of words
word-told line op k is e = ap (λ n. ltb n 16) (e ∙ ap (place_among words) is)

-- ---- a line

none_so : (deck out w : Bytes) (run : Run) (running : Running) (e : Halt) (moving : Deck → State → Move)
    → ((d : Deck) (program : Bytes) (s : State) → Ready d deck (index_in w) → StandsFor d deck program out w run s → Moves d deck program out w (stops_by e run) (moving d s))
    → Writes deck out w run running out w (stops_by e run) moving
unfolding stops_by
none_so deck out w run running e moving h = record {
  sound = λ program s known fewer. s;
  kept = record { output-rest = refl; work-rest = refl; index = refl; output-long = refl; work-long = refl };
  further = omega arith;
  same-steps = refl;
  moved = h;
}

-- nothing is written
module _ (deck out w : Bytes) (run : Run) (running : Running) (r : Stepped) (e : Halt) (is : r ≡ stops_by e run) where
  pub writes-none : (moving : Deck → State → Move)
      → ((d : Deck) (program : Bytes) (s : State) → Ready d deck (index_in w) → StandsFor d deck program out w run s → Moves d deck program out w (stops_by e run) (moving d s))
      → Writes deck out w run running out w r moving
  writes-none moving h = subst (λ x. Writes deck out w run running out w x moving) (sym is) (none_so deck out w run running e moving h)

module _ (deck out w line : Bytes) (run : Run) (running : Running) (z : Sized run.running) (r : Stepped) where
  pub used-ill : is_ill_written line ≡ true → r ≡ stops_by (Refused BadByte 0) run → Used deck out w line run running out w r
  unfolding uses
  used-ill h e = writes-none deck out w run running r (Refused BadByte 0) e _
      (λ d program s ready k. subst (Moves d deck program out w (stops_by (Refused BadByte 0) run)) (sym (chosen _ _ h)) (refused-so d deck program out w run s BadByte 0 z k))

  module _ (good : is_ill_written line ≡ false) where
    pub used-word : is_language_word (statement_fields line).operation ≡ true → r ≡ stops_by (Refused LanguageWord 0) run → Used deck out w line run running out w r
    unfolding uses
    used-word h e = writes-none deck out w run running r (Refused LanguageWord 0) e _
        (λ d program s ready k. subst (Moves d deck program out w (stops_by (Refused LanguageWord 0) run)) (sym (passed_over _ _ good ∙ chosen _ _ h)) (refused-so d deck program out w run s LanguageWord 0 z k))

    -- a call
    pub used-unready : r ≡ stops_by Unready run → Used deck out w line run running out w r
    unfolding stops_by
    used-unready e = writes-none deck out w run running r Unready e _ (λ d program s ready k. unready refl)

    pub used-copied : (out' w' : Bytes) → is_language_word (statement_fields line).operation ≡ false → ((d : Deck) → Ready d deck (index_in w) → is_title (machine_of_deck d) (statement_fields line).operation ≡ false)
        → Copied deck out w line run running out' w' r → Used deck out w line run running out' w' r
    unfolding uses
    used-copied out' w' h t c = record {
      sound = c.sound;
      kept = c.kept;
      further = c.further;
      same-steps = c.same-steps;
      moved = λ d program s ready k. subst (Moves d deck program out' w' r) (sym (passed_over _ _ good ∙ passed_over _ _ h ∙ passed_over _ _ (t d ready))) (c.moved d program s ready k);
    }
