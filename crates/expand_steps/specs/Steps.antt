-- What a step says of the machine's move.
use Rattle.std.specs.Prelude.{ℕ, suc, ◌≤◌, ◌≡◌}
use Rattle.std.proofs.Math.Option.{some}
use Rattle.text.specs.Bytes.{Bytes}
use Rattle.rules.specs.Machine.{State, acts, act_at, move}
use Rattle.rules.specs.Statement.{map_line}
use Rattle.rules.specs.Evaluate.{Cell}
use Rattle.rules.specs.Decide.{Act, decide}
use Rattle.deck.specs.Slots.{Slot, Deck, machine_of_deck}
use Rattle.deck.specs.Good.{good_deck}
use Rattle.deck_reading.specs.Reading.{line_at}
use Rattle.work_frames.specs.Frames.{index_in}
use Rattle.work_frames.specs.Indexed.{Indexed}
use Rattle.expand_steps.specs.Moving.{StandsFor, top_in, others_in, Moves, Sound, Kept}
use Rattle.expand_steps.specs.Writing.{Writes}
use Rattle.expand_steps.specs.declared.Run.{Run}
use Rattle.expand_steps.specs.declared.Stepped.{Stepped}

pub record Steps (deck program out w : Bytes) (run : Run) (out' w' : Bytes) (r : Stepped) : Type 0 where
  pub sound : Sound program out r.run
  pub kept : Kept out w out' w' r.run.pos
  pub further : run.pos ≤ r.run.pos
  pub ticks : r.run.steps ≤ suc run.steps
  pub moved : (d : Deck) (s : State) → good_deck deck ≡ some d → Indexed d deck (index_in w) → StandsFor d deck program out w run s → Moves d deck program out' w' r (move (machine_of_deck d) s.levels s)

-- what the innermost level's line does, once its act is known; the state is one in which the step is counted
abbrev pub ActsBy : Bytes → Bytes → Bytes → Run → Bytes → Bytes → Stepped → (Deck → State → Act) → Type 0
ActsBy deck out w run out' w' r act =
    Writes deck out w run run.running out' w' r (λ d s. acts (machine_of_deck d) (act d s) (top_in d deck w run) (others_in d deck w run) s)

-- a line at a place of the deck, whatever its symbols hold
abbrev pub DoesLine : Bytes → ℕ → Bytes → Bytes → Run → Bytes → Bytes → Stepped → Type 0
DoesLine deck at out w run out' w' r = (f : Deck → State → Slot → Cell) → ActsBy deck out w run out' w' r (λ d s. decide (map_line (f d s) (λ t. t) (line_at deck at)))

-- the line that the level has come to
abbrev pub Bodily : Bytes → Bytes → Bytes → Run → Bytes → Bytes → Stepped → Type 0
Bodily deck out w run out' w' r = ActsBy deck out w run out' w' r (λ d s. act_at (machine_of_deck d) (top_in d deck w run) s.shared)
