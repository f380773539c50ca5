-- A line's bytes by its shape are the deck's coding of the line. Assumes nothing.
use Prim.Native.Nat.{ℕ, ◌+◌, ◌≤◌}
use mathlib.Core.Path.{◌≡◌, refl, ap, sym, ◌∙◌}
use mathlib.Core.Bool.{true}
use mathlib.Core.List.{List, ◌∷◌, ◌++◌, map}
use lib.ListN.{length, take}
use Rattle.text.specs.Bytes.{Bytes}
use Rattle.rules.specs.Lexemes.{Lex, byte, mark, ref, lone}
use Rattle.rules.specs.Statement.{Set, map_lex, map_does, map_line, Line, Does, passes, ends, exits, text, models, sets, branches_if, branches, counts, read}
use Rattle.rules.specs.Library.{firsts, line_named}
use Rattle.rules.specs.ByLines.{own_names, Reading}
use Rattle.rules.proofs.Said.{is_text, text_in, text-kept, bytes-kept}
use Rattle.rules.proofs.Texts.{text-line}
use Rattle.kinds.specs.Kinds.{does_for}
use Rattle.kinds.specs.declared.Does.TheVariants.{Text}
use Rattle.kinds.proofs.Back.{set-back}
use Rattle.deck.specs.Coding.{two}
use Rattle.deck.specs.Coders.{lex_code, set_code, text_code, models_code, sets_code, branches_if_code, counts_code, put_line_by, line}
use Rattle.deck.specs.Slots.{Slot, resolved, resolved_line}
use Rattle.deck.proofs.Lists.{map-map}
use Rattle.names.specs.Names.{names_in, slot_byte}
use Rattle.names.proofs.Slots.{byte-resolved}
use Rattle.coding.specs.Coded.{code_by}
use Rattle.shapes.specs.declared.Shape.{Shape as Kept}
use Rattle.shapes.specs.Shapes.{part, Spelt}
use Rattle.writing.specs.Bytes.{counted, does_code, behind_first, line_bytes, target_of}
use Rattle.writing.proofs.Coded.{string-counted, field-counted}

by-does : (x : Line Slot ℕ) (d : Does ℕ) → put_line_by x d ≡ line_bytes (does_for d) (text_in d) (target_of d) (map lex_code x.name) (map lex_code x.operation) (map lex_code x.operand)
unfolding put_line_by line_bytes does_code behind_first target_of
by-does x passes = refl
by-does x ends = refl
by-does x exits = refl
by-does x (text s) = ap (text_code ∷◌) (string-counted s)
by-does x models = λ i. models_code ∷ (field-counted x.name i ++ (field-counted x.operation i ++ field-counted x.operand i))
by-does x (sets k) = λ i. (sets_code + set_code (sym (set-back k) i)) ∷ (field-counted x.name i ++ field-counted x.operand i)
by-does x (branches_if t) = ap (λ s. branches_if_code ∷ (two.put t ++ s)) (field-counted x.operand)
by-does x (branches t) = refl
by-does x counts = ap (counts_code ∷◌) (field-counted x.operand)

pub line-coded : (x : Line Slot ℕ) → line.put x ≡ line_bytes (does_for x.does) (text_in x.does) (target_of x.does) (map lex_code x.name) (map lex_code x.operation) (map lex_code x.operand)
unfolding line
line-coded x = by-does x x.does

-- ---- a line resolved by tables that hold a macro's names

-- what a line does is the same word for whatever its targets stand for
pub does-kept : {L M : Type 0} (g : L → M) (d : Does L) → does_for (map_does g d) ≡ does_for d
unfolding map_does
does-kept g passes = refl
does-kept g ends = refl
does-kept g exits = refl
does-kept g (text s) = refl
does-kept g models = refl
does-kept g (sets k) = refl
does-kept g (branches_if t) = refl
does-kept g (branches t) = refl
does-kept g counts = refl

-- the text of a line matters only where the line is used as it stands
text-matters : (d : Does ℕ) (l m : Bytes) (t : ℕ) (name operation operand : Bytes) → (is_text d ≡ true → l ≡ m) → line_bytes (does_for d) l t name operation operand ≡ line_bytes (does_for d) m t name operation operand
unfolding line_bytes behind_first
text-matters passes l m t name operation operand h = refl
text-matters ends l m t name operation operand h = refl
text-matters exits l m t name operation operand h = refl
text-matters (text s) l m t name operation operand h = ap (λ x. does_code Text ∷ counted x) (h refl)
text-matters models l m t name operation operand h = refl
text-matters (sets k) l m t name operation operand h = refl
text-matters (branches_if u) l m t name operation operand h = refl
text-matters (branches u) l m t name operation operand h = refl
text-matters counts l m t name operation operand h = refl

module _ (r : Reading) (globals : List (Bytes × Set)) (own global shared : Bytes)
    (o : names_in own ≡ own_names r.names) (g : names_in global ≡ firsts r.names.globals) (s : names_in shared ≡ firsts globals)
    (few : length (own_names r.names) ≤ 64) (fewer : length globals ≤ 32) where
  lexeme-written : (x : Lex Bytes) → lex_code (map_lex (resolved r.names globals) x) ≡ code_by (slot_byte own global shared) x
  unfolding lex_code map_lex code_by
  lexeme-written (byte c) = refl
  lexeme-written mark = refl
  lexeme-written (ref n) = sym (byte-resolved r.names globals n own global shared o g s few fewer)
  lexeme-written lone = refl

  codes-written : (x : List (Lex Bytes)) → map lex_code (map (map_lex (resolved r.names globals)) x) ≡ map (code_by (slot_byte own global shared)) x
  codes-written x = map-map (map_lex (resolved r.names globals)) lex_code lexeme-written x

  module _ (l target code : Bytes) (k : Kept) (h : Spelt (slot_byte own global shared) (read l) target code k) where
    abbrev number : Bytes → ℕ
    number t = line_named t r.body

    abbrev x : Line Slot ℕ
    x = map_line (resolved r.names globals) number (read l)

    does-written : k.does ≡ does_for x.does
    unfolding map_line
    does-written = h.does ∙ sym (does-kept number (read l).does)

    text-written : is_text x.does ≡ true → l ≡ text_in x.does
    unfolding map_line
    text-written e = sym (bytes-kept number (read l).does ∙ (text-line l (sym (text-kept number (read l).does) ∙ e)).0)

    name-written : take k.name code ≡ map lex_code x.name
    unfolding map_line
    name-written = h.name ∙ sym (codes-written (read l).name)

    operation-written : part code k.operation k.gap ≡ map lex_code x.operation
    unfolding map_line
    operation-written = h.operation ∙ sym (codes-written (read l).operation)

    operand-written : part code k.operand k.rest ≡ map lex_code x.operand
    unfolding map_line
    operand-written = h.operand ∙ sym (codes-written (read l).operand)

    pub line-written : line_bytes k.does l (target_of (resolved_line r globals l).does) (take k.name code) (part code k.operation k.gap) (part code k.operand k.rest) ≡ line.put (resolved_line r globals l)
    unfolding resolved_line
    line-written =
        (λ i. line_bytes (does-written i) l (target_of x.does) (name-written i) (operation-written i) (operand-written i))
        ∙ (text-matters x.does l (text_in x.does) (target_of x.does) (map lex_code x.name) (map lex_code x.operation) (map lex_code x.operand) text-written
        ∙ sym (line-coded x))
