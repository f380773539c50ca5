-- Document 01, "Lines and fields": what the bytes of a field are. Nothing is lost: `unlexed` gives the bytes back (proofs/Lossless.antt).
use Rattle.std.specs.Prelude.{ℕ, suc, pred, Bool, true, false, ◌&&◌, ◌||◌, not, List, [], ◌∷◌, ◌++◌, eqb, leb, ltb, length, take}
use Rattle.text.specs.Bytes.{Bytes, bytes, member}
use Rattle.text.specs.Characters.{letter, letter_or_digit}
use Rattle.rules.specs.Choice.{choose, run}
use Rattle.rules.specs.Limits.{name_limit}

abbrev pub space : ℕ
space = 32

abbrev pub ampersand : ℕ
ampersand = 38

abbrev pub apostrophe : ℕ
apostrophe = 39

abbrev pub opening : ℕ
opening = 40

abbrev pub closing : ℕ
closing = 41

abbrev pub comma : ℕ
comma = 44

abbrev pub period : ℕ
period = 46

abbrev pub equals : ℕ
equals = 61

-- A lexeme of a field: a byte that stands for itself, an apostrophe that is an attribute mark, a variable symbol, or an ampersand that starts no
-- symbol. R is what a variable symbol stands for: its name in a line, a slot in a deck, a cell when the line is carried out.
pub data Lex (R : Type 0) : Type 0 where
  byte : ℕ → Lex R
  mark : Lex R
  ref : R → Lex R
  lone : Lex R

-- the text byte that a lexeme is, 0 for any other
unfoldable pub byte_of : {R : Type 0} → Lex R → ℕ
byte_of (byte c) = c
byte_of mark = 0
byte_of (ref r) = 0
byte_of lone = 0

-- what stands before a place in a field: the two bytes before it (spaces at the field's start), and whether a quote is open
pub record Before : Type 0 where
  pub second : ℕ
  pub first : ℕ
  pub quoted : Bool

unfoldable pub field_start : Before
field_start = record { second = space; first = space; quoted = false }

unfoldable pub follows : Bytes → Bool
follows [] = false
follows (c ∷ s) = letter c || eqb c ampersand

-- 01: "An apostrophe outside quotes is an attribute mark, no quote, if a letter or `&` follows it, one of K N T L precedes it, and before that
-- letter stands the operand's start or a byte that is no letter, digit or `&`."
unfoldable pub is_mark : Before → ℕ → Bytes → Bool
is_mark b c s =
    eqb c apostrophe && (not b.quoted && (follows s && (member b.first (bytes "KNTL") && not (letter_or_digit b.second || eqb b.second ampersand))))

-- an apostrophe that is no mark opens a quote or closes it; a field without quotes never has one open
unfoldable pub after : Bool → Before → ℕ → Bytes → Before
after quotes b c s = record {
  second = b.first;
  first = c;
  quoted = choose (eqb c apostrophe && not (is_mark b c s)) (quotes && not b.quoted) b.quoted;
}

-- the bytes of a field with its attribute marks told apart; `quotes` says whether the field has quotes
unfoldable pub marked : {R : Type 0} → Bool → Before → Bytes → List (Lex R)
marked quotes b [] = []
marked quotes b (c ∷ s) = choose (is_mark b c s) mark (byte c) ∷ marked quotes (after quotes b c s) s

-- where a reader of symbols stands: in text, after an ampersand left over, or in a symbol that has these bytes so far
pub data Mode : Type 0 where
  in_text : Mode
  after_ampersand : Mode
  in_symbol : Bytes → Mode

-- 01: "In a run of ampersands, pairs from the left are text and stay two; one left over must start a variable symbol." "A variable symbol is `&`, a letter,
-- then up to 6 letters or digits, the longest that fits; one more is fault 3." (The letters and digits are all taken here; `is_long` tells the fault.)
unfoldable pub symbols : Mode → List (Lex Bytes) → List (Lex Bytes)
symbols in_text [] = []
symbols after_ampersand [] = lone ∷ []
symbols (in_symbol n) [] = ref n ∷ []
symbols in_text (x ∷ s) = choose (eqb (byte_of x) ampersand) (symbols after_ampersand s) (x ∷ symbols in_text s)
symbols after_ampersand (x ∷ s) =
    choose (eqb (byte_of x) ampersand) (byte ampersand ∷ (byte ampersand ∷ symbols in_text s))
    (choose (letter (byte_of x)) (symbols (in_symbol (byte_of x ∷ [])) s) (lone ∷ (x ∷ symbols in_text s)))
symbols (in_symbol n) (x ∷ s) =
    choose (letter_or_digit (byte_of x)) (symbols (in_symbol (n ++ (byte_of x ∷ []))) s)
    (choose (eqb (byte_of x) ampersand) (ref n ∷ symbols after_ampersand s) (ref n ∷ (x ∷ symbols in_text s)))

-- the lexemes of a name or operation field, which has no quotes, and of an operand
unfoldable pub lexed : Bool → Bytes → List (Lex Bytes)
lexed quotes s = symbols in_text (marked quotes field_start s)

-- the bytes that were read
unfoldable pub unlexed : List (Lex Bytes) → Bytes
unlexed [] = []
unlexed (byte c ∷ x) = c ∷ unlexed x
unlexed (mark ∷ x) = apostrophe ∷ unlexed x
unlexed (ref n ∷ x) = ampersand ∷ (n ++ unlexed x)
unlexed (lone ∷ x) = ampersand ∷ unlexed x

-- the variable symbols of a field, in their order
unfoldable pub refs_in : {R : Type 0} → List (Lex R) → List R
refs_in [] = []
refs_in (byte c ∷ x) = refs_in x
refs_in (mark ∷ x) = refs_in x
refs_in (ref r ∷ x) = r ∷ refs_in x
refs_in (lone ∷ x) = refs_in x

-- no variable symbol, and no ampersand left over
unfoldable pub is_plain : {R : Type 0} → Lex R → Bool
is_plain (byte c) = true
is_plain mark = true
is_plain (ref r) = false
is_plain lone = false

-- "one more is fault 3"
unfoldable pub is_long : Bytes → Bool
is_long n = ltb name_limit (length n)

-- a letter, then letters or digits, at most `limit` in all
unfoldable pub is_name : ℕ → Bytes → Bool
is_name limit [] = false
is_name limit (c ∷ s) = letter c && (eqb (run letter_or_digit s) (length s) && leb (length (c ∷ s)) limit)

-- 01: "A sequence symbol has `.` for `&`". The letters and digits after a `.` and a letter at the text's start, nothing where it does not start so
unfoldable pub sequence_start : Bytes → Bytes
sequence_start [] = []
sequence_start (p ∷ []) = []
sequence_start (p ∷ (c ∷ s)) = choose (eqb p period && letter c) (c ∷ take (run letter_or_digit s) s) []

-- a text that is exactly a sequence symbol
unfoldable pub is_sequence : Bytes → Bool
is_sequence [] = false
is_sequence (p ∷ n) = eqb p period && is_name name_limit n

-- where a scan stands: inside quotes, inside so many parentheses (a `)` with none open closes nothing)
pub record Inside : Type 0 where
  pub quoted : Bool
  pub depth : ℕ

unfoldable pub outside : Inside
outside = record { quoted = false; depth = 0 }

unfoldable pub enters : {R : Type 0} → Inside → Lex R → Inside
enters i x = record {
  quoted = choose (eqb (byte_of x) apostrophe) (not i.quoted) i.quoted;
  depth = choose i.quoted i.depth
      (choose (eqb (byte_of x) opening) (suc i.depth) (choose (eqb (byte_of x) closing) (pred i.depth) i.depth));
}

-- this byte, outside quotes and parentheses
unfoldable pub is_bare : {R : Type 0} → ℕ → Inside → Lex R → Bool
is_bare c i x = eqb (byte_of x) c && (not i.quoted && eqb i.depth 0)
