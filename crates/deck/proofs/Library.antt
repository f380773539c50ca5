-- The deck of an accepted library meets the test of good form, where its lexemes are in order.
use Prim.Native.Nat.{ℕ}
use mathlib.Core.Path.{◌≡◌, refl, ap, sym, ◌∙◌}
use mathlib.Core.Bool.{Bool, true, ◌&&◌}
use mathlib.Core.List.{List, [], ◌∷◌}
use lib.ListN.{length, get_or}
use Rattle.text.specs.Bytes.{Bytes}
use Rattle.rules.specs.Choice.{every}
use Rattle.rules.specs.Limits.{nest_limit}
use Rattle.rules.specs.Statement.{Set, Line, map_line}
use Rattle.rules.specs.Form.{is_formed}
use Rattle.rules.specs.Faults.{accepted, verdict}
use Rattle.rules.proofs.Choices.{and_left, and_right}
use Rattle.deck.specs.Slots.{Slot, DeckMacro, slot_kind, no_macro, resolved_library}
use Rattle.deck.specs.Good.{are_lexemes, is_in_order, is_line, actr_end, is_macro, is_sound}
use Rattle.deck.proofs.Tests.{every-each}
use Rattle.deck.proofs.Macros.{Each}
use Rattle.deck.proofs.Titles.{distinct-titles}
use Rattle.deck.proofs.Headers.{titles-named, few-parameters, few-locals}
use Rattle.deck.proofs.Keywords.{good-keywords, distinct-keywords}
use Rattle.deck.proofs.Lines.{end-once, count-once, all-in-order}
use Rattle.deck.proofs.Limits.{few-globals, few-macros, few-lines}
use Rattle.deck.proofs.SlotKinds.{OneKind, lines-formed}

-- the lexemes of a line's three fields
abbrev pub has_lexemes : Line Slot ℕ → Bool
has_lexemes l = are_lexemes l.name && (are_lexemes l.operation && are_lexemes l.operand)

-- the tests of each line, taken together
lines-good : (gs : List Set) (m : DeckMacro) (actr count : ℕ) (ls : List (Line Slot ℕ)) → count ≡ length m.lines → every (λ l. is_in_order actr count l.does) ls ≡ true
    → every has_lexemes ls ≡ true → every (λ l. is_formed nest_limit (map_line (slot_kind gs m) (λ t. t) l)) ls ≡ true → every (is_line gs m actr) ls ≡ true
unfolding every is_line
lines-good gs m a n [] c o x f = refl
lines-good gs m a n (l ∷ ls) c o x f =
    let formed = is_formed nest_limit (map_line (slot_kind gs m) (λ t. t) l) in
    let o₁ = ap (λ (k : ℕ). is_in_order a k l.does) (sym c) ∙ and_left (is_in_order a n l.does) _ o in
    let x₁ = and_left (has_lexemes l) _ x in
    let x₂ = and_left (are_lexemes l.name) _ x₁ in
    let x₃ = and_right (are_lexemes l.name) _ x₁ in
    let x₄ = and_left (are_lexemes l.operation) _ x₃ in
    let x₅ = and_right (are_lexemes l.operation) (are_lexemes l.operand) x₃ in
    let f₁ = and_left formed _ f in
    λ i. (o₁ i && (x₂ i && (x₄ i && (x₅ i && f₁ i))))
    && lines-good gs m a n ls c (and_right (is_in_order a n l.does) _ o) (and_right (has_lexemes l) _ x) (and_right formed _ f) i

pub good-but-lexemes : (library : Bytes) → verdict library ≡ accepted → OneKind library → Each library (λ m. every has_lexemes m.lines ≡ true) → is_sound (resolved_library library) ≡ true
unfolding is_sound is_macro
good-but-lexemes library e agree lexemes =
    let d = resolved_library library in
    let macros : every (is_macro d.globals) d.macros ≡ true =
    every-each (is_macro d.globals) d.macros no_macro
    (λ k h.
    let m = get_or d.macros k no_macro in
    let ls = lines-good d.globals m (actr_end m.lines) (length m.lines) m.lines refl (all-in-order library e k h) (lexemes k h) (lines-formed library e agree k h) in
    λ i. titles-named library e k h i
    && (few-parameters library e k h i && (few-locals library e k h i
    && (good-keywords library e k h i && (distinct-keywords library e k h i
    && (end-once library e k h i && (count-once library e k h i && ls i))))))) in
    λ i. few-globals library e i && (few-macros library e i && (few-lines library e i && (distinct-titles library e i && macros i)))
