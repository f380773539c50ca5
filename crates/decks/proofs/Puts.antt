-- A deck's bytes one part after another: its front, and its macros by the places where they stand. Assumes nothing.
use Prim.Native.Nat.{ℕ, suc, ◌+◌, ◌≤◌, ◌<◌}
use mathlib.Core.Path.{◌≡◌, ap, sym, ◌∙◌, subst}
use mathlib.Core.List.{List, [], ◌∷◌, ◌++◌, map, append_assoc}
use lib.ListN.{length, length-append, length-map}
use Rattle.text.specs.Bytes.{Bytes}
use Rattle.rules.specs.Fields.{lines_of}
use Rattle.rules.specs.Statement.{Set}
use Rattle.rules.specs.Library.{Macro, outer, macros_from, seconds}
use Rattle.rules.specs.ByLines.{Reading, reading}
use Rattle.rules.specs.Faults.{accepted, verdict}
use Rattle.rules.proofs.Logic.{All}
use Rattle.rules.proofs.OneKind.{globals_in}
use Rattle.rules.proofs.Taken.{Taken, all-taken}
use Rattle.deck.specs.Coding.{two, pair, via, put_all, list_of}
use Rattle.deck.specs.Coders.{kind, macro, contents, version_byte, encoded}
use Rattle.deck.specs.Slots.{deck_macro, deck_in, resolved_library}
use Rattle.lent.specs.Splice.{splice}
use Rattle.lent.proofs.Writes.{splice-append}
use Rattle.labels.specs.Searches.{prototype_start}
use Rattle.labels.proofs.Macros.{macros-next, macros-none}
use Rattle.decks.specs.Decks.{body_from, macro_end, macro_at, macros_at, macro_put, macros_put, front_of, sized}
use Rattle.decks.proofs.Outside.{Outside, has-mend}

-- ---- the whole

-- the bytes behind a deck's count: the front, and the macros
pub deck-parts : (library : Bytes)
    → encoded (resolved_library library)
    ≡ sized (front_of (seconds (globals_in library)) (length (macros_at library 0)) ++ macros_put (globals_in library) library 0)
unfolding encoded contents via pair list_of resolved_library deck_in sized front_of macros_put macros_at
deck-parts library =
    let ms = macros_from outer (lines_of library) in
    let gs = globals_in library in
    let n = length-map (map reading ms) (deck_macro gs) ∙ length-map ms reading in
    ap (λ (s : Bytes). sized (version_byte ∷ s))
    (ap (λ (m : ℕ). (list_of kind).put (seconds gs) ++ (two.put m ++ macros_put gs library 0)) n
    ∙ sym (append_assoc ((list_of kind).put (seconds gs)) (two.put (length ms)) (macros_put gs library 0)))

-- ---- the macros from a place on

module _ (globals : List (Bytes × Set)) (library : Bytes) (at : ℕ) where
  pub none_left : length library ≤ prototype_start library at → macros_at library at ≡ []
  unfolding macros_at
  none_left h = macros-none library at h

  pub none-put : length library ≤ prototype_start library at → macros_put globals library at ≡ []
  unfolding macros_put put_all
  none-put h = ap (λ (ms : List Macro). put_all macro (map (deck_macro globals) (map reading ms))) (none_left h)

  module _ (g : Outside library at) (h : prototype_start library at < length library) where
    pub next-left : macros_at library at ≡ macro_at library at ∷ macros_at library (macro_end library at)
    unfolding macros_at macro_at macro_end body_from
    next-left = macros-next library at (has-mend library at g h)

    pub next-count : length (macros_at library at) ≡ suc (length (macros_at library (macro_end library at)))
    next-count = ap length next-left

    pub next-put : macros_put globals library at ≡ macro_put globals (macro_at library at) ++ macros_put globals library (macro_end library at)
    unfolding macros_put macro_put put_all
    next-put = ap (λ (ms : List Macro). put_all macro (map (deck_macro globals) (map reading ms))) next-left

    pub next-size : length (macros_put globals library at) ≡ length (macro_put globals (macro_at library at)) + length (macros_put globals library (macro_end library at))
    next-size = ap length next-put ∙ length-append (macro_put globals (macro_at library at)) (macros_put globals library (macro_end library at))

    -- finishing behind the next macro writes what finishing before it does
    pub next-splice : (out new : Bytes) (to end : ℕ) → end ≡ to + length (macro_put globals (macro_at library at)) → new ≡ splice out to (macro_put globals (macro_at library at))
        → splice new end (macros_put globals library (macro_end library at)) ≡ splice out to (macros_put globals library at)
    next-splice out new to end n w =
        (λ i. splice (w i) (n i) (macros_put globals library (macro_end library at)))
        ∙ (splice-append out to (macro_put globals (macro_at library at)) (macros_put globals library (macro_end library at)) ∙ ap (splice out to) (sym next-put))

    -- what is known of every macro from here on is known of the next and of those behind it
    pub next-holds : (P : Reading → Type 0) → All P (map reading (macros_at library at)) → P (reading (macro_at library at)) × All P (map reading (macros_at library (macro_end library at)))
    next-holds P a = subst (λ (ms : List Macro). All P (map reading ms)) next-left a

pub all_known : (library : Bytes) → verdict library ≡ accepted → All Taken (map reading (macros_at library 0))
unfolding macros_at
all_known library e = all-taken library e
