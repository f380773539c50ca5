-- A call's operand field in a deck: one byte for each lexeme. How it divides does not depend on what its symbols stand for. Assumes nothing.
use Rattle.std.specs.Prelude.{ℕ, List, [], map, Option as Found, Some, None, eqb, leb, ltb, length, drop}
use Rattle.std.specs.Borrow.{Bor}
use Rattle.std.proofs.Math.Option.{Option, none, some}
use Rattle.text.specs.Bytes.{Bytes}
use Rattle.rules.specs.Choice.{choose, passed}
use Rattle.rules.specs.Lexemes.{Lex, byte, mark, ref, lone, outside, enters, is_bare}
use Rattle.rules.specs.Calls.{parts, divided, Operands}
use Rattle.rules.specs.Evaluate.{Cell}
use Rattle.value_sums.specs.Answers.{toks_by}
use Rattle.call_operands.specs.Calling.{split_at}
use Rattle.call_codes.specs.declared.Parts.{Parts}

-- the lexeme of a code byte; a symbol stands for its byte
unfoldable pub code_lex : ℕ → Lex ℕ
code_lex b = choose (ltb b 127) (byte b) (choose (eqb b 127) mark (choose (ltb b 227) (ref b) lone))

unfoldable pub lexemes : Bytes → List (Lex ℕ)
lexemes code = map code_lex code

-- how many bytes stand before the first text byte c outside quotes and parentheses; all of them where there is none
unfoldable pub cut_at : ℕ → Bytes → ℕ
cut_at c code = passed (is_bare c) enters outside (lexemes code)

-- the parts from a place on at which one starts; none starts behind the field's end
unfoldable pub parts_from : Bytes → ℕ → List (List (Lex ℕ))
parts_from code at = choose (leb at (length code)) (parts outside (lexemes (drop at code))) []

-- what is left of a field that is told part by part: nothing, or the field from the next part's start on
abbrev pub parts_of_rest : Found (Bor Bytes) → List (List (Lex ℕ))
parts_of_rest None = []
parts_of_rest (Some code) = parts outside (lexemes code.now)

-- the parts that are still to come
abbrev pub parts_left : Parts → List (List (Lex ℕ))
parts_left parts = parts_of_rest parts.rest

-- the operands that a division of a field stands for, where its symbols stand for these cells
unfoldable pub split_by : (ℕ → Cell) → Bytes → Found ℕ → Option (Operands (List (Lex Cell)))
split_by held code None = none
split_by held code (Some n) = some (split_at n (divided (toks_by held code 0)))
