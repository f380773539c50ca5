-- A body line's bytes in a deck, by the tables of names and the body's own bytes. That they are the deck's coding of the line is proofs/Coded.antt.
-- Assumes nothing.
use Rattle.std.specs.Prelude.{ℕ, true, false, List, [], ◌∷◌, ◌++◌, length, drop}
use Rattle.text.specs.Bytes.{Bytes}
use Rattle.rules.specs.Choice.{choose}
use Rattle.rules.specs.Lexemes.{is_sequence}
use Rattle.rules.specs.Fields.{fields_of, lines_of, is_copied_remark, is_dropped_remark}
use Rattle.rules.specs.Statement.{statement_of}
use Rattle.rules.specs.Library.{line_named}
use Rattle.deck.specs.Coding.{two}
use Rattle.kinds.specs.declared.Does.{Does}
use Rattle.kinds.specs.declared.Does.TheVariants.{Passes, Ends, Exits, Text, Models, BranchesIf, Branches, Counts, Sets}
use Rattle.coding.specs.Coded.{field_code}
use Rattle.shapes.specs.declared.Codes.{Codes}
use Rattle.shapes.specs.declared.Shape.{Shape as Kept}
use Rattle.shapes.specs.Shapes.{part, ends_of, shape_of}
use Rattle.writing.specs.Bytes.{line_bytes, shape_bytes}

-- the number of the line that a branch goes to, where the code of its target is `target`; 0 where the line is no branch
unfoldable pub target_by : Bytes → Does → Bytes → ℕ
target_by body Passes target = 0
target_by body Ends target = 0
target_by body Exits target = 0
target_by body Text target = 0
target_by body Models target = 0
target_by body BranchesIf target = line_named (drop 1 target) (lines_of body)
target_by body Branches target = line_named (drop 1 target) (lines_of body)
target_by body Counts target = 0
target_by body (Sets k) target = 0

-- the bytes of a line by its shape over codes, its target among the body's lines
unfoldable pub kept_bytes : Bytes → Bytes → Kept → Bytes → Bytes
kept_bytes body l k s = shape_bytes l k s (target_by body k.does (part s k.rest k.end))

-- a remark's bytes: it keeps no field
unfoldable pub remark_bytes : Does → Bytes → Bytes
remark_bytes does l = line_bytes does l 0 [] [] []

module _ (own global shared : Bytes) where
  -- the codes of a statement's three fields, one behind another, and where each ends
  unfoldable pub codes_of : Bytes → Bytes → Bytes → Bytes
  codes_of name operation operand = field_code false own global shared name ++ (field_code false own global shared operation ++ field_code true own global shared operand)

  unfoldable pub code_ends : Bytes → Bytes → Bytes → Codes
  code_ends name operation operand = ends_of (field_code false own global shared name) (field_code false own global shared operation) (field_code true own global shared operand)

  -- what it does, and which of the codes it keeps
  unfoldable pub kept_of : Bytes → Bytes → Bytes → Kept
  kept_of name operation operand = shape_of (statement_of operation) (is_sequence name) (code_ends name operation operand) (codes_of name operation operand)

  unfoldable pub fields_in : Bytes → Bytes → Bytes → Bytes → Bytes → Bytes
  fields_in body l name operation operand = kept_bytes body l (kept_of name operation operand) (codes_of name operation operand)

  unfoldable pub statement_in : Bytes → Bytes → Bytes
  statement_in body l = let f = fields_of l in fields_in body l f.name f.operation f.operand

  -- a body line's bytes: a remark with `*` is used as it stands, one with `.*` passes
  unfoldable pub line_in : Bytes → Bytes → Bytes
  line_in body l = choose (is_copied_remark l) (remark_bytes Text l) (choose (is_dropped_remark l) (remark_bytes Passes l) (statement_in body l))

  -- the bytes of lines in turn
  unfoldable pub lines_in : Bytes → List Bytes → Bytes
  lines_in body [] = []
  lines_in body (l ∷ ls) = line_in body l ++ lines_in body ls

  -- all lines of a body, counted
  unfoldable pub body_in : Bytes → Bytes
  body_in body = two.put (length (lines_of body)) ++ lines_in body (lines_of body)
