-- Document 01, "Lines and fields": lines, remarks, the fields of a statement.
use Rattle.std.specs.Prelude.{ℕ, Bool, true, false, ◌&&◌, ◌||◌, not, List, [], ◌∷◌, eqb, ltb, length, take, drop}
use Rattle.text.specs.Bytes.{Bytes, bytes, same}
use Rattle.text.specs.Characters.{in_set}
use Rattle.rules.specs.Choice.{choose, passed, run, every, on_first}
use Rattle.rules.specs.Limits.{line_limit}
use Rattle.rules.specs.Lexemes.{space, Lex, byte_of, field_start, marked, Inside, outside, enters}

abbrev pub newline : ℕ
newline = 10

-- 01: "A line ends at a newline; last bytes without one are a line too; an empty file has none."
unfoldable pub lines_of : Bytes → List Bytes
lines_of [] = []
lines_of (c ∷ s) = choose (eqb c newline) ([] ∷ lines_of s) (on_first c (lines_of s))

-- 01, refusal 1: "byte outside the set, or line over 71"
unfoldable pub is_ill_written : Bytes → Bool
is_ill_written l = ltb line_limit (length l) || not (every in_set l)

unfoldable pub starts_with : Bytes → Bytes → Bool
starts_with s l = same s (take (length s) l)

-- 01: "`*` in column 1 is a remark, copied with no replacement. `.*` is a remark, dropped in a definition, copied in open code."
unfoldable pub is_copied_remark : Bytes → Bool
is_copied_remark l = starts_with (bytes "*") l

unfoldable pub is_dropped_remark : Bytes → Bool
is_dropped_remark l = starts_with (bytes ".*") l

unfoldable pub is_remark : Bytes → Bool
is_remark l = is_copied_remark l || is_dropped_remark l

-- A line's fields, and the spaces between them, so that no byte is lost.
pub record Fields : Type 0 where
  pub name : Bytes
  pub gap : Bytes
  pub operation : Bytes
  pub gap₂ : Bytes
  pub operand : Bytes
  pub remarks : Bytes

unfoldable pub is_space : ℕ → Bool
is_space c = eqb c space

unfoldable pub is_no_space : ℕ → Bool
is_no_space c = not (eqb c space)

-- 01: "Operand: from the next non-space to a space outside quotes; for AIF and SETB, parentheses also hold spaces."
unfoldable pub ends_operand : Bool → Inside → Lex Bytes → Bool
ends_operand holds i x = eqb (byte_of x) space && (not i.quoted && (not holds || eqb i.depth 0))

-- "A quote left open runs to the line's end."
unfoldable pub operand_end : Bool → Bytes → ℕ
operand_end holds s = passed (ends_operand holds) enters outside (marked true field_start s)

unfoldable pub holds_spaces : Bytes → Bool
holds_spaces operation = same operation (bytes "AIF") || same operation (bytes "SETB")

-- 01: "Name: column 1 up to a space. Operation: the next run of non-spaces. Operand: from the next non-space .. The rest is the remarks field."
unfoldable pub fields_of : Bytes → Fields
fields_of l =
    let n = run is_no_space l in
    let l₁ = drop n l in
    let g = run is_space l₁ in
    let l₂ = drop g l₁ in
    let o = run is_no_space l₂ in
    let l₃ = drop o l₂ in
    let h = run is_space l₃ in
    let l₄ = drop h l₃ in
    let a = operand_end (holds_spaces (take o l₂)) l₄ in
    record { name = take n l; gap = take g l₁; operation = take o l₂; gap₂ = take h l₃; operand = take a l₄; remarks = drop a l₄ }

-- a remark has no fields
unfoldable pub no_fields : Fields
no_fields = record { name = []; gap = []; operation = []; gap₂ = []; operand = []; remarks = [] }

unfoldable pub statement_fields : Bytes → Fields
statement_fields l = choose (is_remark l) no_fields (fields_of l)

unfoldable pub is_empty : {A : Type 0} → List A → Bool
is_empty [] = true
is_empty (a ∷ l) = false
