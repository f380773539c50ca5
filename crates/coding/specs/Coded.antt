-- The bytes of a field's lexemes in a deck, and what one piece of a field comes to. Assumes nothing.
use Rattle.std.specs.Prelude.{ℕ, ◌+◌, ◌≤◌, ◌<◌, ◌≡◌, Bool, ◌++◌, map, length, drop, replicate}
use Rattle.text.specs.Bytes.{Bytes}
use Rattle.rules.specs.Lexemes.{Lex, byte, mark, ref, lone, Before, marked, in_text, symbols, lexed}
use Rattle.deck.specs.Coders.{mark_code, no_code}
use Rattle.names.specs.Names.{slot_byte}
use Rattle.coding.specs.declared.Before.{Before as Kept}
use Rattle.coding.specs.declared.Piece.{Piece}

-- the byte of a lexeme, where a variable symbol's byte is known: `lex_code` of the deck, for names (proofs/Resolved.antt)
unfoldable pub code_by : (Bytes → ℕ) → Lex Bytes → ℕ
code_by f (byte c) = c
code_by f mark = mark_code
code_by f (ref n) = f n
code_by f lone = no_code

-- the bytes of a field, by the tables of a macro's own names, of its GBL statements' names and of the library's globals
unfoldable pub field_code : Bool → Bytes → Bytes → Bytes → Bytes → Bytes
field_code quotes own global shared s = map (code_by (slot_byte own global shared)) (lexed quotes s)

-- the bytes of a field's rest, by what stands before it; no symbol is open there
unfoldable pub codes_from : (Bytes → ℕ) → Bool → Before → Bytes → Bytes
codes_from f quotes b s = map (code_by f) (symbols in_text (marked quotes b s))

-- what stands before a place, and behind a piece
abbrev pub before_of : Kept → Before
before_of b = record { second = b.second; first = b.first; quoted = b.quoted }

abbrev pub behind : Piece → Before
behind p = before_of p.behind

-- the field from `at` on is the piece, and then the field from the piece's end on
pub record Leads (f : Bytes → ℕ) (quotes : Bool) (field : Bytes) (at : ℕ) (b : Before) (p : Piece) : Type 0 where
  pub codes : codes_from f quotes b (drop at field) ≡ replicate p.count p.byte ++ codes_from f quotes (behind p) (drop p.next field)
  pub ahead : at < p.next
  pub inside : p.next ≤ length field
  pub few : at + p.count ≤ p.next
