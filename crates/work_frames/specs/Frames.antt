-- What the workspace and a level's numbers stand for: levels, globals and cells of the rules.
use Rattle.std.specs.Prelude.{ℕ, zero, suc, ◌+◌, ◌*◌, ◌-◌, ◌≡◌, List, [], ◌∷◌, ◌++◌, eqb, length, get_or, take, drop}
use Rattle.text.specs.Bytes.{Bytes}
use Rattle.rules.specs.Choice.{choose}
use Rattle.rules.specs.Fields.{lines_of}
use Rattle.rules.specs.Evaluate.{Value, string, Cell}
use Rattle.rules.specs.Machine.{State, output_of}
use Rattle.rules.specs.Machine.{Level as Running}
use Rattle.deck.specs.Slots.{Slot, DeckMacro, Deck, no_macro, parameters, held}
use Rattle.spans.specs.Spans.{part_of}
use Rattle.work_cells.specs.Cells.{values_from}
use Rattle.expand_levels.specs.Stands.{Texts, level_of}
use Rattle.expand_levels.specs.declared.Level.{Level}
use Rattle.work_frames.specs.Layout.{global_cell, local_cell, lines_at, index_size, section_at, section_size, level_at, level_size, section_in, parameters_in, text_in}

-- a run of bytes behind its length
unfoldable pub run_at : Bytes → ℕ → Bytes
run_at w at = part_of w (at + 1) (get_or w at 0)

-- n runs, one behind the other
unfoldable pub runs_at : Bytes → ℕ → ℕ → List Bytes
runs_at w at zero = []
runs_at w at (suc n) = run_at w at ∷ runs_at w (at + 1 + get_or w at 0) n

-- a parameter's row: 1 for the deck (a default, where it stands: two bytes of length), 0 for the workspace (one byte of length); then the place in three bytes
unfoldable pub place_in : Bytes → ℕ → ℕ
place_in w at = (get_or w (at + 1) 0 * 256 + get_or w (at + 2) 0) * 256 + get_or w (at + 3) 0

unfoldable pub parameter_at : Bytes → Bytes → ℕ → Bytes
parameter_at w deck at =
    let p = place_in w at in
    choose (eqb (get_or w at 0) 0) (run_at w p) (part_of deck (p + 2) (get_or deck p 0 * 256 + get_or deck (p + 1) 0))

unfoldable pub parameters_from : Bytes → Bytes → ℕ → ℕ → List Value
parameters_from w deck at zero = []
parameters_from w deck at (suc n) = string (parameter_at w deck at) ∷ parameters_from w deck (at + 4) n

-- A level's 224 bytes, cut out: all that is read of it is read inside, so that no byte elsewhere is ever looked at.
unfoldable pub level_in : Bytes → ℕ → Bytes
level_in w depth = part_of w (level_at depth) level_size

-- the texts of the level at a depth, in which this macro runs: the call text starts with the count of the name and the positionals; a parameter's place is one
-- inside the level
unfoldable pub texts_in : Bytes → Bytes → ℕ → DeckMacro → Texts
texts_in w deck depth m =
    let v = level_in w depth in
    record {
      sect = run_at v section_in;
      list = runs_at v (text_in + 1) (get_or v text_in 0);
      own = parameters_from v deck parameters_in (parameters m) ++ values_from w (local_cell depth) m.locals;
    }

-- &SYSECT of open code now
unfoldable pub section_now : Bytes → Bytes
section_now w = run_at (part_of w section_at section_size) 0

-- where lines, macros and titles are found: written once, by the test of good form
unfoldable pub index_in : Bytes → Bytes
index_in w = part_of w lines_at index_size

unfoldable pub macro_of : Deck → Level → DeckMacro
macro_of d l = get_or d.macros l.body no_macro

unfoldable pub running_in : Bytes → Bytes → Deck → ℕ → Level → Running
running_in w deck d depth l = level_of l (texts_in w deck depth (macro_of d l))

-- the levels that wait, the outermost at the list's start, then the one that runs: innermost first
unfoldable pub waiting_in : Bytes → Bytes → Deck → ℕ → List Level → List Running → List Running
waiting_in w deck d depth [] inner = inner
waiting_in w deck d depth (l ∷ ls) inner = waiting_in w deck d (suc depth) ls (running_in w deck d depth l ∷ inner)

unfoldable pub shared_in : Bytes → Deck → List Value
shared_in w d = values_from w global_cell d.globals

-- what a slot stands for at the level that runs: the deck's own definition, over what the workspace holds
unfoldable pub cell_in : Bytes → Bytes → Deck → ℕ → Level → Slot → Cell
cell_in w deck d depth l = held d.globals (macro_of d l) (running_in w deck d depth l) (shared_in w d)

-- THE STATE of an expansion and what the code has of it. `lines` are those put out: the code has their bytes and their count.
pub record Holds (d : Deck) (deck program out w : Bytes) (at line steps pos count calls : ℕ) (levels : List Level) (s : State) : Type 0 where
  pub open-lines : s.reached.lines ≡ lines_of (drop at program)
  pub open-line : s.reached.line ≡ line
  pub steps-taken : s.reached.steps ≡ steps
  pub put-out : output_of s.output.lines [] ≡ take pos out
  pub line-count : length s.output.lines ≡ count
  pub room-left : s.output.room ≡ length out - pos
  pub section : s.output.sect ≡ section_now w
  pub levels-run : s.levels ≡ waiting_in w deck d 1 levels []
  pub shared-values : s.shared ≡ shared_in w d
  pub calls-given : s.calls ≡ calls
