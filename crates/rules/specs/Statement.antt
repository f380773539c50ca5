-- What a line of a definition says: its statement, its fields as lexemes, its branch target.
use Rattle.std.specs.Prelude.{ℕ, suc, Bool, true, false, ◌&&◌, not, List, [], ◌∷◌, map, eqb, take, drop, get_or}
use Rattle.text.specs.Bytes.{Bytes}
use Rattle.text.specs.Words.{word_number}
use Rattle.rules.specs.Choice.{choose, passed, every}
use Rattle.rules.specs.Lexemes.{opening, closing, Lex, byte, mark, ref, lone, byte_of, is_plain, lexed, unlexed, is_sequence, Inside, outside, enters}
use Rattle.rules.specs.Fields.{Fields, fields_of, is_copied_remark, is_dropped_remark}

-- the three kinds of SET symbols
pub data Set : Type 0 where
  set_a : Set
  set_b : Set
  set_c : Set

-- the statements, by the operation as written: the sixteen language words, and model statements
pub data Statement : Type 0 where
  macro : Statement
  mend : Statement
  mexit : Statement
  local : Set → Statement
  global : Set → Statement
  set : Set → Statement
  aif : Statement
  ago : Statement
  anop : Statement
  actr : Statement
  model : Statement

-- in the order of 01's sixteen words
unfoldable pub statements : List Statement
statements =
    macro ∷ mend ∷ mexit ∷ local set_a ∷ local set_b ∷ local set_c ∷ global set_a ∷ global set_b ∷ global set_c
    ∷ set set_a ∷ set set_b ∷ set set_c ∷ aif ∷ ago ∷ anop ∷ actr ∷ []

unfoldable pub statement_of : Bytes → Statement
statement_of operation = get_or statements (word_number operation) model

-- What a line does when it is reached. L is what a branch target is: a sequence symbol's name in a line, the number of a body line in a deck.
pub data Does (L : Type 0) : Type 0 where
  passes : Does L
  ends : Does L
  exits : Does L
  -- a line that is used as it stands
  text : Bytes → Does L
  models : Does L
  sets : Set → Does L
  branches_if : L → Does L
  branches : L → Does L
  counts : Does L

pub record Line (R L : Type 0) : Type 0 where
  pub does : Does L
  pub name : List (Lex R)
  pub operation : List (Lex R)
  pub operand : List (Lex R)

unfoldable pub map_lex : {R S : Type 0} → (R → S) → Lex R → Lex S
map_lex f (byte c) = byte c
map_lex f mark = mark
map_lex f (ref r) = ref (f r)
map_lex f lone = lone

unfoldable pub map_does : {L M : Type 0} → (L → M) → Does L → Does M
map_does g passes = passes
map_does g ends = ends
map_does g exits = exits
map_does g (text s) = text s
map_does g models = models
map_does g (sets k) = sets k
map_does g (branches_if l) = branches_if (g l)
map_does g (branches l) = branches (g l)
map_does g counts = counts

unfoldable pub map_line : {R L S M : Type 0} → (R → S) → (L → M) → Line R L → Line S M
map_line f g l = record {
  does = map_does g l.does;
  name = map (map_lex f) l.name;
  operation = map (map_lex f) l.operation;
  operand = map (map_lex f) l.operand;
}

-- the `)` that pairs with the `(` at the start
unfoldable pub pairs_first : {R : Type 0} → Inside → Lex R → Bool
pairs_first i x = eqb (byte_of x) closing && (not i.quoted && eqb i.depth 1)

unfoldable pub starts_open : {R : Type 0} → List (Lex R) → Bool
starts_open [] = false
starts_open (x ∷ s) = eqb (byte_of x) opening

-- how many lexemes AIF's condition has, its outer pair of parentheses included; none where it does not start with one
unfoldable pub condition_end : {R : Type 0} → List (Lex R) → ℕ
condition_end x = choose (starts_open x) (suc (passed pairs_first enters outside x)) 0

-- a branch target, as written behind AIF's condition or as AGO's whole operand: the name behind the period
unfoldable pub target_in : List (Lex Bytes) → Bytes
target_in x = drop 1 (unlexed x)

-- 01: "In a body, a line with no variable symbol in its three fields and no sequence symbol as its name is copied byte for byte."
unfoldable pub is_copied : Fields → Bool
is_copied f =
    every is_plain (lexed false f.name) && (every is_plain (lexed false f.operation) && (every is_plain (lexed true f.operand) && not (is_sequence f.name)))

unfoldable pub doing : {R L : Type 0} → Does L → Line R L
doing d = record { does = d; name = []; operation = []; operand = [] }

-- a model statement that is laid out anew, its sequence symbol left out
unfoldable pub model_of : Fields → Line Bytes Bytes
model_of f = record {
  does = models;
  name = choose (is_sequence f.name) [] (lexed false f.name);
  operation = lexed false f.operation;
  operand = lexed true f.operand;
}

-- what a statement with these fields says
unfoldable pub says : Bytes → Fields → Statement → Line Bytes Bytes
says l f macro = doing passes
says l f mend = doing ends
says l f mexit = doing exits
says l f (local k) = doing passes
says l f (global k) = doing passes
says l f (set k) = record { does = sets k; name = lexed false f.name; operation = []; operand = lexed true f.operand }
says l f aif =
    let x = lexed true f.operand in
    record { does = branches_if (target_in (drop (condition_end x) x)); name = []; operation = []; operand = take (condition_end x) x }
says l f ago = doing (branches (target_in (lexed true f.operand)))
says l f anop = doing passes
says l f actr = record { does = counts; name = []; operation = []; operand = lexed true f.operand }
says l f model = choose (is_copied f) (doing (text l)) (model_of f)

-- what a body line says, read from its bytes
unfoldable pub read : Bytes → Line Bytes Bytes
read l = choose (is_copied_remark l) (doing (text l)) (choose (is_dropped_remark l) (doing passes) (let f = fields_of l in says l f (statement_of f.operation)))
