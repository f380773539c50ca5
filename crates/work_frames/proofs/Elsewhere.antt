-- What is written in one place of the workspace leaves the levels, the section's name, the globals and the index that stand elsewhere. Assumes nothing.
use Prim.Native.Nat.{ℕ, suc, ◌+◌, ◌*◌, ◌≤◌, ◌<◌}
use mathlib.Core.Path.{◌≡◌, refl, ap, ◌∙◌}
use mathlib.Core.List.{List, [], ◌∷◌, ◌++◌}
use mathlib.Core.Logic.{inl, inr, ⊎_elim}
use native.Mathlib.Omega.{arith}
use lib.ListN.{length, get_or}
use Rattle.text.specs.Bytes.{Bytes}
use Rattle.rules.specs.Machine.{Level as RunningLevel}
use Rattle.deck.specs.Slots.{DeckMacro, Deck, no_macro, parameters}
use Rattle.lent.specs.Splice.{splice}
use Rattle.spans.specs.Spans.{part_of}
use Rattle.work_cells.specs.Cells.{cell_size}
use Rattle.work_cells.proofs.Kept.{Apart, part_apart, values-apart}
use Rattle.expand_levels.specs.Stands.{level_of}
use Rattle.expand_levels.specs.declared.Level.{Level}
use Rattle.work_frames.specs.Layout.{local_cell, global_cell, lines_at, index_size, section_at, section_size, level_at, level_size, section_in, parameters_in, text_in}
use Rattle.work_frames.specs.Frames.{run_at, runs_at, parameters_from, level_in, texts_in, section_now, index_in, macro_of, running_in, waiting_in, shared_in}

-- n bytes from a place on are none of a level's texts and of its cells
pub record Elsewhere (at n depth : ℕ) : Type 0 where
  pub texts : Apart at n (level_at depth) level_size
  pub cells : Apart at n (cell_size * local_cell depth) (cell_size * 16)

-- no macro has more locals than a level has cells
abbrev pub Few : Deck → Type 0
Few d = (k : ℕ) → length (get_or d.macros k no_macro).locals ≤ 16

fewer : (at n a m : ℕ) → Apart at n a (cell_size * 16) → m ≤ 16 → Apart at n a (cell_size * m)
fewer at n a m p h = ⊎_elim (λ q. inl (omega arith)) (λ q. inr q) p

module _ (w : Bytes) (at : ℕ) (s : Bytes) where
  abbrev after : Bytes
  after = splice w at s

  pub level-apart : (depth : ℕ) → Apart at (length s) (level_at depth) level_size → level_in after depth ≡ level_in w depth
  unfolding level_in part_of
  level-apart depth p = part_apart w at s (level_at depth) level_size p

  pub section-apart : Apart at (length s) section_at section_size → section_now after ≡ section_now w
  unfolding section_now part_of
  section-apart p = ap (λ v. run_at v 0) (part_apart w at s section_at section_size p)

  -- THE INDEX: lines, macros and titles stay
  pub rows_apart : Apart at (length s) lines_at index_size → index_in after ≡ index_in w
  unfolding index_in part_of
  rows_apart p = part_apart w at s lines_at index_size p

  pub shared-apart : (d : Deck) → length d.globals ≤ 16 → Apart at (length s) (cell_size * global_cell) (cell_size * 16) → shared_in after d ≡ shared_in w d
  unfolding shared_in
  shared-apart d few p = values-apart w at s global_cell d.globals (fewer at (length s) (cell_size * global_cell) (length d.globals) p few)

  -- A LEVEL'S TEXTS stay
  pub texts-apart : (deck : Bytes) (depth : ℕ) (m : DeckMacro) → length m.locals ≤ 16 → Elsewhere at (length s) depth → texts_in after deck depth m ≡ texts_in w deck depth m
  unfolding texts_in
  texts-apart deck depth m few e =
      let v = level-apart depth e.texts in
      let l = values-apart w at s (local_cell depth) m.locals (fewer at (length s) (cell_size * local_cell depth) (length m.locals) e.cells few) in
      λ j. record {
        sect = run_at (v j) section_in;
        list = runs_at (v j) (text_in + 1) (get_or (v j) text_in 0);
        own = parameters_from (v j) deck parameters_in (parameters m) ++ l j;
      }

  pub running-apart : (deck : Bytes) (d : Deck) (depth : ℕ) (l : Level) → Few d → Elsewhere at (length s) depth → running_in after deck d depth l ≡ running_in w deck d depth l
  unfolding running_in macro_of
  running-apart deck d depth l few e = ap (level_of l) (texts-apart deck depth (macro_of d l) (few l.body) e)

  -- THE LEVELS THAT WAIT stay
  pub waiting-apart : (deck : Bytes) (d : Deck) (depth : ℕ) (ls : List Level) (inner : List RunningLevel) → Few d
      → ((k : ℕ) → depth ≤ k → k < depth + length ls → Elsewhere at (length s) k)
      → waiting_in after deck d depth ls inner ≡ waiting_in w deck d depth ls inner
  unfolding waiting_in
  waiting-apart deck d depth [] inner few e = refl
  waiting-apart deck d depth (l ∷ ls) inner few e =
      waiting-apart deck d (suc depth) ls (running_in after deck d depth l ∷ inner) few (λ k a b. e k (omega arith) (omega arith))
      ∙ ap (λ x. waiting_in w deck d (suc depth) ls (x ∷ inner)) (running-apart deck d depth l few (e depth (omega arith) (omega arith)))

-- the innermost level stands behind the others, and first in the rules' list
pub waiting-behind : (w deck : Bytes) (d : Deck) (depth : ℕ) (ls : List Level) (l : Level) (inner : List RunningLevel)
    → waiting_in w deck d depth (ls ++ (l ∷ [])) inner ≡ running_in w deck d (depth + length ls) l ∷ waiting_in w deck d depth ls inner
unfolding waiting_in
waiting-behind w deck d depth [] l inner = let e : depth ≡ depth + 0 = omega arith in ap (λ k. running_in w deck d k l ∷ inner) e
waiting-behind w deck d depth (k ∷ ls) l inner =
    let e : suc depth + length ls ≡ depth + suc (length ls) = omega arith in
    waiting-behind w deck d (suc depth) ls l (running_in w deck d depth k ∷ inner)
    ∙ ap (λ n. running_in w deck d n l ∷ waiting_in w deck d (suc depth) ls (running_in w deck d depth k ∷ inner)) e

-- what is written to the section's name, to a global, to a level or to its cells is elsewhere for every other level
pub section-elsewhere : (n k : ℕ) → n ≤ section_size → 1 ≤ k → k ≤ 5 → Elsewhere section_at n k
unfolding level_at
section-elsewhere n k h a b = record { texts = inr (omega arith); cells = inl (omega arith) }

pub global-elsewhere : (g n k : ℕ) → g < 16 → n ≤ cell_size → 1 ≤ k → k ≤ 5 → Elsewhere (cell_size * g) n k
unfolding level_at
global-elsewhere g n k h a b c = record { texts = inr (omega arith); cells = inr (omega arith) }

pub local-elsewhere : (depth q n k : ℕ) → depth ≤ 5 → q < 16 → n ≤ cell_size → 1 ≤ k → k < depth → Elsewhere (cell_size * (local_cell depth + q)) n k
unfolding level_at
local-elsewhere depth q n k h i a b c = record { texts = inr (omega arith); cells = inl (omega arith) }

pub level-elsewhere : (depth at n k : ℕ) → at + n ≤ level_size → depth ≤ 5 → 1 ≤ k → k < depth → Elsewhere (level_at depth + at) n k
unfolding level_at
level-elsewhere depth at n k h i b c = record { texts = inl (omega arith); cells = inl (omega arith) }
