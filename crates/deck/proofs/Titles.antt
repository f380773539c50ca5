-- The macros of an accepted library have different names.
use Prim.Native.Nat.{ℕ}
use mathlib.Core.Path.{◌≡◌, refl, ap, ◌∙◌}
use mathlib.Core.Bool.{true, false, ◌&&◌, ◌||◌, not}
use mathlib.Core.List.{List, [], ◌∷◌, ◌++◌, map}
use Rattle.text.specs.Bytes.{Bytes, same}
use Rattle.rules.specs.Choice.{any}
use Rattle.rules.specs.Fields.{lines_of}
use Rattle.rules.specs.Statement.{Set}
use Rattle.rules.specs.Library.{Macro, outer, macros_from, operation_of, globals_of}
use Rattle.rules.specs.ByLines.{reading}
use Rattle.rules.specs.Faults.{accepted, verdict}
use Rattle.rules.proofs.Logic.{All, or_left}
use Rattle.rules.proofs.Symbols.{same-sym}
use Rattle.rules.proofs.Accepted.{readings}
use Rattle.rules.proofs.Walked.{Found, none, other, found, all_found}
use Rattle.rules.proofs.Prototypes.{title-new}
use Rattle.deck.specs.Slots.{deck_macro, deck_in, resolved_library}
use Rattle.deck.specs.Good.{are_distinct}
use Rattle.deck.proofs.Lists.{map-map}
use Rattle.deck.proofs.Tests.{none-in-parts}

abbrev title_of : Macro → Bytes
title_of x = operation_of x.prototype

-- no title of the macros is one of those before
abbrev New : List Bytes → List Macro → Type 0
New ts ms = All (λ x. any (same (title_of x)) ts ≡ false) ms

fewer : (ts us : List Bytes) (ms : List Macro) → New (ts ++ us) ms → New ts ms
fewer ts us [] h = tt
fewer ts us (x ∷ ms) h = ((none-in-parts (same (title_of x)) ts us h.0).0, fewer ts us ms h.1)

titles-new : {n m : ℕ} {ts : List Bytes} {gs : List (Bytes × Set)} {ms : List Macro} → Found n m ts gs ms → New ts ms
titles-new none = tt
titles-new (other l more e f h) = titles-new h
titles-new (found {ts = ts} {x = x} {ms = ms} l more more₂ e f g b h) = (title-new g, fewer ts (title_of x ∷ []) ms (titles-new h))

not-among : (ts : List Bytes) (t : Bytes) (ms : List Macro) → New (ts ++ (t ∷ [])) ms → any (same t) (map title_of ms) ≡ false
unfolding any
not-among ts t [] h = refl
not-among ts t (x ∷ ms) h = λ i. (same-sym t (title_of x) ∙ or_left (same (title_of x) t) false (none-in-parts (same (title_of x)) ts (t ∷ []) h.0).1) i || not-among ts t ms h.1 i

titles-distinct : {n m : ℕ} {ts : List Bytes} {gs : List (Bytes × Set)} {ms : List Macro} → Found n m ts gs ms → are_distinct (map title_of ms) ≡ true
unfolding are_distinct
titles-distinct none = refl
titles-distinct (other l more e f h) = titles-distinct h
titles-distinct (found {ts = ts} {x = x} {ms = ms} l more more₂ e f g b h) = λ i. not (not-among ts (title_of x) ms (titles-new h) i) && titles-distinct h i

pub distinct-titles : (library : Bytes) → verdict library ≡ accepted → are_distinct (map (λ m. m.title) (resolved_library library).macros) ≡ true
unfolding resolved_library deck_in deck_macro reading
distinct-titles library e =
    let ms = macros_from outer (lines_of library) in
    let globals = globals_of [] (map (λ r. r.names) (readings library)) in
    ap are_distinct (map-map (deck_macro globals) (λ m. m.title) (λ r. refl) (map reading ms) ∙ map-map reading (λ r. r.title) (λ x. refl) ms)
    ∙ titles-distinct (all_found library e)
