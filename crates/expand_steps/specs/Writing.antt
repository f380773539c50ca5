-- What the arms that write say of the machine's move.
use Rattle.std.specs.Prelude.{ℕ, ◌≤◌, ◌<◌, ◌≡◌, true, List, [], map, length, get_or}
use Rattle.text.specs.Bytes.{Bytes}
use Rattle.rules.specs.Choice.{every}
use Rattle.rules.specs.Machine.{State, Move, puts, uses}
use Rattle.rules.specs.Machine.{Level as RunningLevel}
use Rattle.deck.specs.Slots.{Deck, no_macro, machine_of_deck}
use Rattle.expand_levels.specs.Stack.{levels_of, no_level}
use Rattle.expand_levels.specs.declared.Running.{Running}
use Rattle.tables.specs.Titles.{fits_row}
use Rattle.work_frames.specs.Frames.{waiting_in, index_in}
use Rattle.work_frames.specs.Indexed.{Indexed}
use Rattle.expand_steps.specs.Moving.{StandsFor, Moves, Sound, Kept}
use Rattle.expand_steps.specs.declared.Run.{Run}
use Rattle.expand_steps.specs.declared.Stepped.{Stepped}

-- what good form says of a deck's sizes
pub record Modest (d : Deck) : Type 0 where
  pub globals : length d.globals ≤ 16
  pub locals : (k : ℕ) → length (get_or d.macros k no_macro).locals ≤ 16

-- all that a step knows of its deck
pub record Ready (d : Deck) (deck index : Bytes) : Type 0 where
  pub modest : Modest d
  pub indexed : Indexed d deck index
  pub words : every fits_row (map (λ m. m.title) d.macros) ≡ true

-- the levels as which the code goes on
abbrev pub levels_in : Deck → Bytes → Bytes → Running → List RunningLevel
levels_in d deck w q = waiting_in w deck d 1 (levels_of q) []

-- what an arm that writes keeps, and what it makes of `moving`, a move of a state in which the step is counted
pub record Writes (deck out w : Bytes) (run : Run) (running : Running) (out' w' : Bytes) (r : Stepped) (moving : Deck → State → Move) : Type 0 where
  pub sound : (program : Bytes) → Sound program out run → ((i : ℕ) → (get_or running.levels i no_level).body < 32) → run.lines < run.steps → Sound program out r.run
  pub kept : Kept out w out' w' r.run.pos
  pub further : run.pos ≤ r.run.pos
  pub same-steps : r.run.steps ≡ run.steps
  pub moved : (d : Deck) (program : Bytes) (s : State) → Ready d deck (index_in w) → StandsFor d deck program out w run s → Moves d deck program out' w' r (moving d s)

-- a line that is copied
abbrev pub Copied : Bytes → Bytes → Bytes → Bytes → Run → Running → Bytes → Bytes → Stepped → Type 0
Copied deck out w line run running out' w' r = Writes deck out w run running out' w' r (λ d s. puts line (levels_in d deck w running) s)

-- a line that is used as it stands
abbrev pub Used : Bytes → Bytes → Bytes → Bytes → Run → Running → Bytes → Bytes → Stepped → Type 0
Used deck out w line run running out' w' r = Writes deck out w run running out' w' r (λ d s. uses (machine_of_deck d) line (levels_in d deck w running) s)
