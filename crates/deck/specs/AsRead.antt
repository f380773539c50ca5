-- Which fields, lines and defaults 01's reader can give: the lexical half of good form.
use Rattle.std.specs.Prelude.{ℕ, Bool, true, false, ◌&&◌, ◌||◌, not, List, [], ◌∷◌, map, eqb, length}
use Rattle.text.specs.Bytes.{Bytes, bytes, member}
use Rattle.text.specs.Characters.{letter, letter_or_digit}
use Rattle.rules.specs.Choice.{choose, every, passed}
use Rattle.rules.specs.Lexemes.{space, ampersand, apostrophe, comma, period, Lex, byte, mark, ref, lone, byte_of, is_plain, Before, field_start, lexed, Inside, outside, enters, is_bare}
use Rattle.rules.specs.Fields.{is_empty}
use Rattle.rules.specs.Statement.{set_a, set_b, set_c, Line, Does, passes, ends, exits, text, models, sets, branches_if, branches, counts}
use Rattle.rules.specs.Machine.{is_language_word}

module _ {R : Type 0} where
  -- the byte that a lexeme leaves behind it for the reader: 0 behind a variable symbol, which is followed by no letter or digit
  unfoldable pub last_byte : Lex R → ℕ
  last_byte (byte c) = c
  last_byte mark = apostrophe
  last_byte (ref r) = 0
  last_byte lone = ampersand

  -- "a letter or `&` follows it"
  unfoldable pub follows_in : List (Lex R) → Bool
  follows_in [] = false
  follows_in (byte c ∷ x) = letter c || eqb c ampersand
  follows_in (mark ∷ x) = false
  follows_in (ref r ∷ x) = true
  follows_in (lone ∷ x) = true

  -- an apostrophe that stands here would be an attribute mark
  unfoldable pub marks_here : Before → List (Lex R) → Bool
  marks_here b rest =
      not b.quoted && (follows_in rest && (member b.first (bytes "KNTL") && not (letter_or_digit b.second || eqb b.second ampersand)))

  unfoldable pub after_lexeme : Bool → Before → Lex R → Before
  after_lexeme quotes b x = record {
    second = b.first;
    first = last_byte x;
    quoted = choose (eqb (byte_of x) apostrophe) (quotes && not b.quoted) b.quoted;
  }

  -- a lexeme that the reader can give behind `b`: marks exactly where 01 has them; a variable symbol takes all letters and digits behind it; no ampersand is left over
  unfoldable pub is_read_at : Before → Lex R → List (Lex R) → Bool
  is_read_at b (byte c) rest = not (eqb b.first 0 && letter_or_digit c) && not (eqb c apostrophe && marks_here b rest)
  is_read_at b mark rest = marks_here b rest
  is_read_at b (ref r) rest = true
  is_read_at b lone rest = false

  -- `odd`: an ampersand stands before this place that is no pair yet
  unfoldable pub is_read : Bool → Bool → Before → List (Lex R) → Bool
  is_read quotes odd b [] = not odd
  is_read quotes odd b (x ∷ rest) =
      is_read_at b x rest && ((not odd || eqb (byte_of x) ampersand) && is_read quotes (eqb (byte_of x) ampersand && not odd) (after_lexeme quotes b x) rest)

  unfoldable pub is_field : Bool → List (Lex R) → Bool
  is_field quotes x = is_read quotes false field_start x

  -- a name or an operation has no space
  unfoldable pub is_word_field : List (Lex R) → Bool
  is_word_field x = is_field false x && every (λ y. not (eqb (byte_of y) space)) x

  -- an operand ends at a space outside quotes (and, if `holds`, outside parentheses), so it has none
  unfoldable pub is_end : Bool → Inside → Lex R → Bool
  is_end holds i x = eqb (byte_of x) space && (not i.quoted && (not holds || eqb i.depth 0))

  unfoldable pub is_operand : Bool → List (Lex R) → Bool
  is_operand holds x = is_field true x && eqb (passed (is_end holds) enters outside x) (length x)

  -- a line that begins with `*` is a remark, and a name that begins with `.` is a sequence symbol, which is left out
  unfoldable pub starts_plainly : List (Lex R) → Bool
  starts_plainly [] = true
  starts_plainly (x ∷ s) = not (eqb (byte_of x) period || eqb (byte_of x) 42)

  -- an operation is there, and as written it is no language word
  unfoldable pub is_model_operation : List (Lex R) → Bool
  is_model_operation x = not (is_empty x) && (is_word_field x && not (every is_plain x && is_language_word (map last_byte x)))

  unfoldable pub is_read_by : {L : Type 0} → Line R L → Does L → Bool
  is_read_by l passes = true
  is_read_by l ends = true
  is_read_by l exits = true
  is_read_by l (text s) = true
  is_read_by l models = is_word_field l.name && (starts_plainly l.name && (is_model_operation l.operation && is_operand false l.operand))
  is_read_by l (sets set_a) = is_operand false l.operand
  is_read_by l (sets set_b) = is_operand true l.operand
  is_read_by l (sets set_c) = is_operand false l.operand
  is_read_by l (branches_if t) = is_operand true l.operand
  is_read_by l (branches t) = true
  is_read_by l counts = is_operand false l.operand

  unfoldable pub is_read_line : {L : Type 0} → Line R L → Bool
  is_read_line l = is_read_by l l.does

-- a default stands between commas and before a space: it has neither outside quotes and parentheses, and no space outside quotes
unfoldable pub is_bare_comma : Inside → Lex Bytes → Bool
is_bare_comma i x = is_bare comma i x || is_end false i x

unfoldable pub is_read_default : Bytes → Bool
is_read_default s = let x = lexed true s in eqb (passed is_bare_comma enters outside x) (length x)
