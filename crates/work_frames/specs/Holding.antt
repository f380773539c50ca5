-- What evaluation may assume of the workspace: the one link between the cells that a field's bytes stand for and what the code reads.
use Rattle.std.specs.Prelude.{ℕ, ◌+◌, ◌*◌, ◌-◌, ◌≤◌, ◌<◌, ◌≡◌, map, eqb, ltb, get_or, pos}
use Rattle.text.specs.Bytes.{Bytes}
use Rattle.rules.specs.Choice.{choose}
use Rattle.rules.specs.Statement.{Set}
use Rattle.rules.specs.Grammar.{parameter, symbol, syslist, sysndx, sysect}
use Rattle.rules.specs.Evaluate.{number, string, Cell}
use Rattle.deck.specs.Slots.{Slot, own, shared, list, index, section}
use Rattle.grammar.specs.Tokens.{kind_of}
use Rattle.grammar.specs.Kinds.{number_of}
use Rattle.deck_reading.specs.Reading.{kinds_at}
use Rattle.deck_reading.specs.Heads.{globals_place}
use Rattle.work_cells.specs.Cells.{cell_of, value_in}
use Rattle.work_frames.specs.Layout.{local_cell, section_in, parameters_in, text_in}
use Rattle.work_frames.specs.Frames.{run_at, runs_at, parameter_at, level_in}
use Rattle.work_frames.specs.declared.Frame.{Frame}

-- the kind of the SET symbol at place q, of which a deck has the kinds from `at` on, as the grammar has kinds by number; behind the last there is none
unfoldable pub set_kind : Bytes → ℕ → ℕ → ℕ
set_kind deck at q = get_or (map (λ k. number_of (symbol k)) (kinds_at deck at)) q 4

-- the kind of a slot's byte from 128 to 223: parameters, then locals; from 192 on globals
unfoldable pub kind_in : Bytes → Frame → ℕ → ℕ
kind_in deck f b = choose (ltb b 192) (choose (ltb (b - 128) f.params) 0 (set_kind deck f.locals (b - 128 - f.params))) (set_kind deck globals_place (b - 192))

-- the slot of a byte from 128 to 226
unfoldable pub slot_at : ℕ → Slot
slot_at b = choose (ltb b 192) (own (b - 128)) (choose (ltb b 224) (shared (b - 192)) (choose (eqb b 224) list (choose (eqb b 225) index section)))

pub record Holding (deck w : Bytes) (f : Frame) (held : ℕ → Cell) : Type 0 where
  pub kinds : (b : ℕ) → 128 ≤ b → b < 224 → (held b).kind ≡ kind_of (kind_in deck f b)
  pub parameters : (p : ℕ) → p < 96 → (held (128 + p)).kind ≡ parameter → (held (128 + p)).value ≡ string (parameter_at (level_in w f.depth) deck (parameters_in + 4 * p))
  pub locals : (p : ℕ) (k : Set) → p < 64 → (held (128 + p)).kind ≡ symbol k
      → (f.params ≤ p) × ((held (128 + p)).value ≡ value_in k (cell_of w (local_cell f.depth + (p - f.params))))
  pub globals : (g : ℕ) (k : Set) → g < 32 → (held (192 + g)).kind ≡ symbol k → (held (192 + g)).value ≡ value_in k (cell_of w g)
  pub list-kind : (held 224).kind ≡ syslist
  pub list-is : (held 224).list ≡ runs_at (level_in w f.depth) (text_in + 1) (get_or (level_in w f.depth) text_in 0)
  pub number-kind : (held 225).kind ≡ sysndx
  pub number_is : (held 225).value ≡ number (pos f.number)
  pub section-kind : (held 226).kind ≡ sysect
  pub section-is : (held 226).value ≡ string (run_at (level_in w f.depth) section_in)
