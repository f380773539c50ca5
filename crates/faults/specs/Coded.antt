-- A statement with its word, its fields and their codes. Assumes nothing.
use Rattle.std.specs.Prelude.{ℕ, ◌≤◌, ◌≡◌, Bool, true, false, ◌||◌, length, Option}
use Rattle.text.specs.Bytes.{Bytes}
use Rattle.text.specs.Characters.{in_set}
use Rattle.rules.specs.Choice.{every}
use Rattle.rules.specs.Fields.{is_remark, fields_of}
use Rattle.rules.specs.Statement.{statement_of}
use Rattle.kinds.specs.declared.Word.{Word}
use Rattle.kinds.specs.Kinds.{statement_by}
use Rattle.shapes.specs.declared.Codes.{Codes}
use Rattle.shapes.specs.declared.Shape.{Shape}
use Rattle.shapes.specs.Shapes.{ends_of}
use Rattle.faults.specs.declared.CodedStatement.{CodedStatement}
use Rattle.checking.specs.Body.{Tables, name_code, operation_code, operand_code, code_of}

-- one of four tests holds
unfoldable pub any_of : Bool → Bool → Bool → Bool → Bool
any_of a b c d = a || (b || (c || d))

-- a line that is well written and no remark
pub record Statement (l : Bytes) : Type 0 where
  pub in-set : every in_set l ≡ true
  pub short : length l ≤ 71
  pub no-remark : is_remark l ≡ false

-- the word, the name, the operand and the codes of this line
pub record Coded (t : Tables) (l : Bytes) (word : Option Word) (name operand : Bytes) (codes : Codes) (code : Bytes) : Type 0 where
  pub in-set : every in_set l ≡ true
  pub word-is : statement_by word ≡ statement_of (fields_of l).operation
  pub name-is : name ≡ (fields_of l).name
  pub operand-is : operand ≡ (fields_of l).operand
  pub codes-are : codes ≡ ends_of (name_code t (fields_of l)) (operation_code t (fields_of l)) (operand_code t (fields_of l))
  pub code_is : code ≡ code_of t (fields_of l)

-- what code has of a statement is this line's
abbrev pub CodedAs : Tables → Bytes → CodedStatement → Type 0
CodedAs t l s = Coded t l s.word s.name.now s.operand.now s.codes s.code.now

-- the ends of codes stand in order
pub record Ordered (codes : Codes) (n : ℕ) : Type 0 where
  pub first : codes.name ≤ codes.operation
  pub second : codes.operation ≤ codes.operand
  pub third : codes.operand ≤ n

-- what a shape keeps stands inside
pub record Inside (k : Shape) (n : ℕ) : Type 0 where
  pub name-in : k.name ≤ n
  pub operation-in : k.operation ≤ k.gap
  pub gap-in : k.gap ≤ n
  pub operand_in : k.operand ≤ k.rest
  pub rest-in : k.rest ≤ k.end
  pub end-in : k.end ≤ n
