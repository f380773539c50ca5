-- The lexemes of an accepted library's deck are in order: at most a line's in a field, text bytes in the set, no ampersand left over.
use Prim.Native.Nat.{ℕ, ◌≤◌, ◌<◌}
use native.Mathlib.Omega.{arith}
use mathlib.Core.Path.{◌≡◌, refl, ap, ◌∙◌}
use mathlib.Core.Bool.{Bool, true, false≢true, ◌&&◌}
use mathlib.Core.List.{List, [], ◌∷◌, map}
use lib.ListN.{length, get_or, length-map}
use borrow.Author.Tests.{le-leb}
use Rattle.text.specs.Bytes.{Bytes}
use Rattle.text.specs.Characters.{in_set}
use Rattle.rules.specs.Choice.{every}
use Rattle.rules.specs.Limits.{line_limit}
use Rattle.rules.specs.Lexemes.{ampersand, apostrophe, Lex, byte, mark, ref, lone, unlexed}
use Rattle.rules.specs.Statement.{Set, Line, map_lex, map_line, read}
use Rattle.rules.specs.Library.{globals_of}
use Rattle.rules.specs.ByLines.{Reading, no_reading}
use Rattle.rules.specs.Faults.{accepted, verdict}
use Rattle.rules.proofs.Choices.{and_left, and_right}
use Rattle.rules.proofs.NoLone.{NoLone}
use Rattle.rules.proofs.ReadLines.{InSet, every-behind, lexemes-short}
use Rattle.rules.proofs.BodyLines.{line-written, line-says, line_clean}
use Rattle.rules.proofs.Accepted.{Known, readings, known_at}
use Rattle.deck.specs.Slots.{Slot, resolved, resolved_line, deck_macro, deck_in, resolved_library}
use Rattle.deck.specs.Good.{is_lexeme, are_lexemes}
use Rattle.rules.proofs.Logic.{All}
use Rattle.deck.proofs.Lists.{all-mapped}

pub both : {a b : Bool} → a ≡ true → b ≡ true → (a && b) ≡ true
both {a} {b} e f = ap (λ (c : Bool). c && b) e ∙ f

every-lexeme : (f : Bytes → Slot) (x : List (Lex Bytes)) → InSet (unlexed x) → NoLone x → every is_lexeme (map (map_lex f) x) ≡ true
unfolding every is_lexeme map_lex unlexed
every-lexeme f [] h n = refl
every-lexeme f (byte c ∷ x) h n = both (and_left (in_set c) _ h) (every-lexeme f x (and_right (in_set c) _ h) n)
every-lexeme f (mark ∷ x) h n = every-lexeme f x (and_right (in_set apostrophe) _ h) n
every-lexeme f (ref m ∷ x) h n = every-lexeme f x (every-behind in_set m (unlexed x) (and_right (in_set ampersand) _ h)) n
every-lexeme f (lone ∷ x) h n = absurd (false≢true n)

field-in-order : (f : Bytes → Slot) (x : List (Lex Bytes)) → length (unlexed x) ≤ line_limit → InSet (unlexed x) → NoLone x → are_lexemes (map (map_lex f) x) ≡ true
unfolding are_lexemes
field-in-order f x k h n = both (le-leb (length (map (map_lex f) x)) line_limit (omega (arith, lexemes-short x, length-map x (map_lex f)))) (every-lexeme f x h n)

abbrev pub InOrder : Line Slot ℕ → Type 0
InOrder l = (are_lexemes l.name ≡ true) × ((are_lexemes l.operation ≡ true) × (are_lexemes l.operand ≡ true))

line-in-order : {r : Reading} (a : Known r) (globals : List (Bytes × Set)) (i : ℕ) → i < length r.body → InOrder (resolved_line r globals (get_or r.body i []))
unfolding resolved_line map_line
line-in-order {r} a globals i h =
    let f = resolved r.names globals in
    let l = read (get_or r.body i []) in
    let s = line-says a i h in
    let c = line_clean a i h in
    let w = (line-written a i h).0 in (
      field-in-order f l.name (omega (arith, s.total, w)) s.name-in c.0,
      (field-in-order f l.operation (omega (arith, s.total, w)) s.operation-in c.1.0, field-in-order f l.operand (omega (arith, s.total, w)) s.operand_in c.1.1),
    )

-- each line of each macro of the deck
pub lexemes-in-order : (library : Bytes) → verdict library ≡ accepted → All (λ m. All InOrder m.lines) (resolved_library library).macros
unfolding resolved_library deck_in deck_macro
lexemes-in-order library e =
    let globals = globals_of [] (map (λ r. r.names) (readings library)) in
    all-mapped (λ m. All InOrder m.lines) (deck_macro globals) (readings library) no_reading
    λ k hk. let r = get_or (readings library) k no_reading in
    all-mapped InOrder (resolved_line r globals) r.body [] λ i hi. line-in-order (known_at library e k i hi) globals i hi
