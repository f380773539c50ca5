-- What holds of the deck's form of every accepted macro holds of every macro of an accepted library's deck.
use Prim.Native.Nat.{ℕ, ◌<◌}
use mathlib.Core.Path.{◌≡◌}
use mathlib.Core.List.{List, [], map}
use lib.ListN.{length, get_or}
use Rattle.text.specs.Bytes.{Bytes}
use Rattle.rules.specs.Fields.{lines_of}
use Rattle.rules.specs.Statement.{Set}
use Rattle.rules.specs.Library.{Macro, outer, macros_from, globals_of}
use Rattle.rules.specs.ByLines.{reading}
use Rattle.rules.specs.Faults.{accepted, verdict}
use Rattle.rules.proofs.Logic.{all_map, all-at}
use Rattle.rules.proofs.Accepted.{readings}
use Rattle.rules.proofs.Walked.{all_found, Proper, each-proper}
use Rattle.deck.specs.Slots.{DeckMacro, no_macro, deck_macro, deck_in, resolved_library}

-- a library's globals
abbrev pub globals_in : Bytes → List (Bytes × Set)
globals_in library = globals_of [] (map (λ r. r.names) (readings library))

-- a fact of the library's deck macro at each place
abbrev pub Each : Bytes → (DeckMacro → Type 0) → Type 0
Each library P = (k : ℕ) → k < length (resolved_library library).macros → P (get_or (resolved_library library).macros k no_macro)

pub each-macro : (library : Bytes) → verdict library ≡ accepted → (P : DeckMacro → Type 0)
    → ((x : Macro) → Proper x → P (deck_macro (globals_in library) (reading x))) → Each library P
unfolding resolved_library deck_in
each-macro library e P h k lt =
    let ms = macros_from outer (lines_of library) in
    all-at P (map (deck_macro (globals_in library)) (map reading ms)) no_macro k
    (all_map (λ r. P (deck_macro (globals_in library) r)) P (deck_macro (globals_in library)) (λ r q. q) (map reading ms)
    (all_map Proper (λ r. P (deck_macro (globals_in library) r)) reading h ms (each-proper (all_found library e))))
    lt
