-- What a step and a run of the code say of the machine's.
use Rattle.std.specs.Prelude.{ℕ, Option, Some, None, suc, ◌≤◌, ◌<◌, ◌≡◌, List, [], eqb, length, get_or, take, drop}
use Rattle.text.specs.Bytes.{Bytes}
use Rattle.rules.specs.Choice.{choose}
use Rattle.rules.specs.Limits.{steps_spent}
use Rattle.rules.specs.Decide.{Act}
use Rattle.rules.specs.Machine.{State, Answer, done, refused, Move, on, stop, acts, runs}
use Rattle.rules.specs.Machine.{Level as RunningLevel}
use Rattle.deck.specs.Slots.{Deck, machine_of_deck}
use Rattle.refusals.specs.Numbers.{number_of}
use Rattle.expand_levels.specs.Stack.{Sized, levels_of, no_level, top_of, popped}
use Rattle.expand_levels.specs.declared.Running.{Running}
use Rattle.work_frames.specs.Frames.{Holds, running_in, waiting_in, index_in}
use Rattle.expand_steps.specs.declared.Run.{Run}
use Rattle.expand_steps.specs.declared.Stepped.{Stepped}
use Rattle.expand_steps.specs.declared.Halt.{Halt}
use Rattle.expand_steps.specs.declared.Halt.TheVariants.{GoesOn, Done, Unready, Refused, StepsSpent}

-- the code's state stands for the machine's
abbrev pub StandsFor : Deck → Bytes → Bytes → Bytes → Bytes → Run → State → Type 0
StandsFor d deck program out w r s = Holds d deck program out w r.at r.line r.steps r.pos r.lines r.calls.given (levels_of r.running) s

-- the level that runs, and those that wait, innermost first
unfoldable pub top_in : Deck → Bytes → Bytes → Run → RunningLevel
top_in d deck w r = running_in w deck d r.running.depth (top_of r.running)

unfoldable pub others_in : Deck → Bytes → Bytes → Run → List RunningLevel
others_in d deck w r = waiting_in w deck d 1 (levels_of (popped r.running)) []

-- the number of the body line that the innermost level has come to, 0 in open code
unfoldable pub body_of : Running → ℕ
body_of r = choose (eqb r.depth 0) 0 (suc (top_of r).line)

-- a macro runs
abbrev pub InMacro : Run → Type 0
InMacro r = (0 < r.running.depth) × Sized r.running

-- it runs, and has come to a line behind which there may be one more
abbrev pub OnLine : Run → Type 0
OnLine r = (0 < r.running.depth) × Sized r.running × ((top_of r.running).line < 65535)

-- the number of the refusal that a step stops with
abbrev pub refusal_of : Halt → Option ℕ
refusal_of (Refused f at) = Some (number_of f)
refusal_of StepsSpent = Some steps_spent
refusal_of GoesOn = None
refusal_of Done = None
refusal_of Unready = None

-- the answer of a step that stops
pub data Listed (out : Bytes) (r : Stepped) : Answer → Type 0 where
  finished : r.halt ≡ Done → Listed out r (done r.run.lines r.run.steps (take r.run.pos out))
  stopped : (e : ℕ) → refusal_of r.halt ≡ Some e → Listed out r (refused e r.run.line (body_of r.run.running) r.run.steps)

-- what a step makes of the machine's move
pub data Moves (d : Deck) (deck program out w : Bytes) (r : Stepped) : Move → Type 0 where
  goes : {s : State} → r.halt ≡ GoesOn → StandsFor d deck program out w r.run s → Moves d deck program out w r (on s)
  halts : {a : Answer} → Listed out r a → Moves d deck program out w r (stop a)
  -- a line of a kind that no arm does yet
  unready : {m : Move} → r.halt ≡ Unready → Moves d deck program out w r m

-- what the code knows of its own numbers, whatever they stand for
pub record Sound (program out : Bytes) (r : Run) : Type 0 where
  pub sized : Sized r.running
  pub known : (i : ℕ) → (get_or r.running.levels i no_level).body < 32
  pub read : r.at ≤ length program
  pub written : r.pos ≤ length out
  pub few-lines : r.line ≤ r.steps
  pub few-put : r.lines ≤ r.steps

-- what is never written: behind the output's place, behind the workspace, and the index
pub record Kept (out w out' w' : Bytes) (pos : ℕ) : Type 0 where
  pub output-rest : drop pos out' ≡ drop pos out
  pub work-rest : drop 32768 w' ≡ drop 32768 w
  pub index : index_in w' ≡ index_in w
  pub output-long : length out' ≡ length out
  pub work-long : length w' ≡ length w

-- an arm that writes nothing: what it makes of a state in which the step is counted, once the line's act is known
pub record Arm (run : Run) (act : Act) (r : Stepped) : Type 0 where
  pub sound : (program out : Bytes) → Sound program out run → Sound program out r.run
  pub same-steps : r.run.steps ≡ run.steps
  pub same-pos : r.run.pos ≡ run.pos
  pub moved : (d : Deck) (deck program out w : Bytes) (s : State) → StandsFor d deck program out w run s
      → Moves d deck program out w r (acts (machine_of_deck d) act (top_in d deck w run) (others_in d deck w run) s)

-- a run that has come to `r` with `left` moves to go, on its way to the answer of the whole
pub record Going (d : Deck) (deck program out w : Bytes) (r : Run) (left : ℕ) (answer : Answer) : Type 0 where
  pub state : State
  pub holds : StandsFor d deck program out w r state
  pub answers : runs (machine_of_deck d) left state ≡ answer
