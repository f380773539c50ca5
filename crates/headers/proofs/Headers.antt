-- A macro's head in a deck, by the fields of its prototype; a macro is its head, the kinds of its locals and its lines. Assumes nothing.
use Prim.Native.Nat.{ℕ, ◌+◌, ◌≤◌}
use native.Mathlib.Omega.{arith}
use mathlib.Core.Path.{◌≡◌, refl, ap, sym, ◌∙◌}
use mathlib.Core.Bool.{Bool, true, false, not}
use mathlib.Core.List.{List, [], ◌∷◌, ◌++◌, map, append_assoc}
use lib.ListN.{length, length-append}
use Rattle.text.specs.Bytes.{Bytes}
use Rattle.rules.specs.Choice.{choose}
use Rattle.rules.specs.Lexemes.{lexed}
use Rattle.rules.specs.Fields.{Fields, fields_of, no_fields, statement_fields, is_remark, is_empty}
use Rattle.rules.specs.Statement.{Set}
use Rattle.rules.specs.Calls.{divided, has_equals}
use Rattle.rules.specs.Library.{operation_of, start_symbol, start_symbols, positional_names, keyword_names, operand_parts, names_in, seconds}
use Rattle.rules.specs.ByLines.{Reading}
use Rattle.rules.proofs.Choices.{either}
use Rattle.rules.proofs.Lossless.{fields_back}
use Rattle.deck.specs.Coding.{two, pair, via, list_of}
use Rattle.deck.specs.Coders.{string, flag, kind, line, parts_of, macro}
use Rattle.deck.specs.Slots.{resolved_line, deck_macro}
use Rattle.std.specs.Prelude.{Option, Some, None, is_some}
use Rattle.std.specs.Borrow.{Bor}
use Rattle.declared.specs.Declared.{found}
use Rattle.operands.proofs.Rest.{Lexes}
use Rattle.declaring.specs.Declared.{symbols_in}
use Rattle.declaring.proofs.Symbols.{symbols-few}
use Rattle.lent.specs.Splice.{splice}
use Rattle.writing.specs.Bytes.{title_bytes}
use Rattle.writing.proofs.Writes.{both-written, counted-length}
use Rattle.writing.proofs.Coded.{title-length}
use Rattle.headers.specs.Headers.{header_of}

-- ---- the fields of a prototype

pub fields-short : (p : Bytes) → (length (fields_of p).operation ≤ length p) × (length (fields_of p).operand ≤ length p)
fields-short p =
    let f = fields_of p in
    let t₅ = f.operand ++ f.remarks in
    let t₄ = f.gap₂ ++ t₅ in
    let t₃ = f.operation ++ t₄ in
    let t₂ = f.gap ++ t₃ in
    let b = ap length (fields_back p) in
    let n = length-append f.name t₂ in
    let g = length-append f.gap t₃ in
    let o = length-append f.operation t₄ in
    let h = length-append f.gap₂ t₅ in
    let a = length-append f.operand f.remarks in
    (omega (arith, b, n, g, o), omega (arith, b, n, g, o, h, a))

pub operation-short : (p : Bytes) → length (operation_of p) ≤ length p
unfolding operation_of statement_fields no_fields
operation-short p = either (λ (f : Fields). length f.operation ≤ length p) (is_remark p) (λ e. omega arith) (λ e. (fields-short p).0)

-- a name that starts with a variable symbol
pub is-named : (o : Option (Bor Bytes)) → is_some o ≡ not (is_empty (found o))
unfolding is_empty
is-named None = refl
is-named (Some n) = refl

few-positionals : (ps : List Lexes) → length (positional_names ps) ≤ length (start_symbols ps)
unfolding positional_names start_symbols
few-positionals [] = omega arith
few-positionals (p ∷ ps) =
    let k = choose (has_equals p) [] (start_symbol p) in
    let one : length k ≤ length (start_symbol p) = either (λ (l : List Bytes). length l ≤ length (start_symbol p)) (has_equals p) (λ e. omega arith) (λ e. omega arith) in
    omega (arith, one, few-positionals ps, length-append k (positional_names ps), length-append (start_symbol p) (start_symbols ps))

pub positionals-few : (s : Bytes) → length (positional_names (divided (lexed true s))) ≤ length s
unfolding symbols_in
positionals-few s = omega (arith, few-positionals (divided (lexed true s)), symbols-few s)

-- ---- the head

abbrev pub keyword_bytes : Bytes → Bytes
keyword_bytes operand = (list_of (pair string string)).put (keyword_names (divided (lexed true operand)))

-- what is read of a prototype
pub record Told (p title name operand : Bytes) (named : Bool) (count : ℕ) : Type 0 where
  pub title-is : title ≡ operation_of p
  pub name-is : name ≡ (fields_of p).name
  pub operand-is : operand ≡ (fields_of p).operand
  pub symbol_is : named ≡ not (is_empty (start_symbol (lexed false name)))
  pub count-is : count ≡ length (positional_names (divided (lexed true operand)))

module _ {p title name operand : Bytes} {named : Bool} {count : ℕ} (told : Told p title name operand named count) where
  abbrev front : Bytes
  front = title_bytes title named count

  named_is : named ≡ not (is_empty (start_symbol (lexed false (fields_of p).name)))
  named_is = told.symbol_is ∙ ap (λ (m : Bytes). not (is_empty (start_symbol (lexed false m)))) told.name-is

  counts : count ≡ length (positional_names (divided (lexed true (fields_of p).operand)))
  counts = told.count-is ∙ ap (λ (m : Bytes). length (positional_names (divided (lexed true m)))) told.operand-is

  head-is : front ++ keyword_bytes operand ≡ header_of p
  unfolding header_of names_in operand_parts
  head-is =
      append_assoc (string.put title) (flag.put named ++ two.put count) (keyword_bytes operand)
      ∙ (ap (string.put title ++◌) (append_assoc (flag.put named) (two.put count) (keyword_bytes operand))
      ∙ (λ i. string.put (told.title-is i) ++ (flag.put (named_is i) ++ (two.put (counts i) ++ keyword_bytes (told.operand-is i)))))

  pub title-short : length title ≤ length p
  title-short = omega (arith, ap length told.title-is, operation-short p)

  pub operand_short : length operand ≤ length p
  operand_short = omega (arith, ap length told.operand-is, (fields-short p).1)

  pub count-short : count ≤ length p
  count-short = omega (arith, told.count-is, positionals-few operand, operand_short)

  pub front_length : length front ≡ length title + 5
  front_length = omega (arith, title-length title named count, counted-length title)

  pub head-length : length (header_of p) ≡ length front + length (keyword_bytes operand)
  head-length = sym (ap length head-is) ∙ length-append front (keyword_bytes operand)

  -- the front, and the keywords where it ends
  pub head-written : (out new new₂ : Bytes) (at end : ℕ) → end ≡ at + length front → new ≡ splice out at front → new₂ ≡ splice new end (keyword_bytes operand)
      → new₂ ≡ splice out at (header_of p)
  head-written out new new₂ at end e w v = both-written out at front (keyword_bytes operand) end e new new₂ w v ∙ ap (splice out at) head-is

-- ---- a macro

four-and : (a b c d x : Bytes) → (a ++ (b ++ (c ++ d))) ++ x ≡ a ++ (b ++ (c ++ (d ++ x)))
four-and a b c d x = append_assoc a (b ++ (c ++ d)) x ∙ (ap (a ++◌) (append_assoc b (c ++ d) x) ∙ ap (λ s. a ++ (b ++ s)) (append_assoc c d x))

module _ (globals : List (Bytes × Set)) (r : Reading) (p : Bytes) where
  abbrev rest : Bytes
  rest = (list_of kind).put (seconds r.names.locals) ++ (list_of line).put (map (resolved_line r globals) r.body)

  -- a macro's bytes: its head, the kinds of its locals, its lines
  pub macro-parts : r.title ≡ operation_of p → r.names ≡ names_in p r.body
      → macro.put (deck_macro globals r) ≡ header_of p ++ ((list_of kind).put (seconds r.names.locals) ++ (list_of line).put (map (resolved_line r globals) r.body))
  unfolding macro via pair parts_of deck_macro header_of names_in
  macro-parts t n =
      (λ i. string.put (t i) ++ (flag.put (not (is_empty (n i).name)) ++ (two.put (length (n i).positionals) ++ ((list_of (pair string string)).put (n i).keywords ++ rest))))
      ∙ sym (four-and (string.put (operation_of p)) (flag.put (not (is_empty (names_in p []).name))) (two.put (length (names_in p []).positionals))
      ((list_of (pair string string)).put (names_in p []).keywords) rest)
