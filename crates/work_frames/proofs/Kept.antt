-- A store to a local of one level changes that value and nothing else. Assumes nothing.
use Prim.Native.Nat.{ℕ, ◌+◌, ◌*◌, ◌≤◌, ◌<◌}
use mathlib.Core.Path.{◌≡◌, refl}
use mathlib.Core.List.{List}
use mathlib.Core.Logic.{◌⊎◌, inl, inr, ⊎_elim}
use native.Mathlib.Omega.{arith}
use lib.ListN.{length, get_or, set}
use Rattle.text.specs.Bytes.{Bytes}
use Rattle.rules.specs.Statement.{Set, set_a}
use Rattle.rules.specs.Evaluate.{Value}
use Rattle.deck.specs.Slots.{Deck}
use Rattle.lent.specs.Splice.{splice}
use Rattle.work_cells.specs.Cells.{cell_size, cell_of, value_in, values_from}
use Rattle.work_cells.proofs.Kept.{values-apart, values-kept}
use Rattle.work_frames.specs.Layout.{local_cell, global_cell}
use Rattle.work_frames.specs.Frames.{shared_in}

-- the layout adds up: each region ends where the next begins
pub adds-up : (256 * 96 ≡ 24576) × (24576 + 512 * 4 ≡ 26624) × (26624 + 32 * 16 ≡ 27136) × (27136 + 32 * 8 ≡ 27392) × (27392 + 72 ≡ 27240 + 224 * 1) × (27240 + 224 * 6 ≡ 28584)
adds-up = (refl, refl, refl, refl, refl, refl)

-- a store to a local of a level leaves the globals, and the locals of every other level
pub globals-stay : (w : Bytes) (d : Deck) (depth i : ℕ) (s : Bytes) → 1 ≤ depth → length d.globals ≤ 16
    → shared_in (splice w (cell_size * (local_cell depth + i)) s) d ≡ shared_in w d
unfolding shared_in
globals-stay w d depth i s h n = values-apart w _ s global_cell d.globals (inl (omega arith))

pub others-stay : (w : Bytes) (depth other i : ℕ) (s : Bytes) (ks : List Set) → length ks ≤ 16 → i < 16 → length s ≤ cell_size → (depth < other) ⊎ (other < depth)
    → values_from (splice w (cell_size * (local_cell depth + i)) s) (local_cell other) ks ≡ values_from w (local_cell other) ks
others-stay w depth other i s ks n l short p =
    values-apart w _ s (local_cell other) ks (⊎_elim (λ h. inr (omega arith)) (λ h. inl (omega arith)) p)

pub own-kept : (w : Bytes) (depth i : ℕ) (s : Bytes) (ks : List Set) (v : Value) → i < length ks → length s ≤ cell_size
    → value_in (get_or ks i set_a) (cell_of (splice w (cell_size * (local_cell depth + i)) s) (local_cell depth + i)) ≡ v
    → values_from (splice w (cell_size * (local_cell depth + i)) s) (local_cell depth) ks ≡ set (values_from w (local_cell depth) ks) i v
own-kept w depth i s ks v l short e = values-kept w (local_cell depth) i s ks v l short e
