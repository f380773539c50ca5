-- What the answers of string rules say.
use Rattle.std.specs.Prelude.{ℕ, List, [], ◌∷◌, ℤ, Result, Some, None}
use Rattle.std.specs.Prelude.{Option as Maybe}
use Rattle.std.proofs.Math.Option.{Option, none, some}
use Rattle.text.specs.Bytes.{Bytes}
use Rattle.rules.specs.Choice.{choose}
use Rattle.rules.specs.Lexemes.{Lex}
use Rattle.rules.specs.Fields.{is_empty}
use Rattle.rules.specs.Grammar.{Reference, Got, given, broken, after_t}
use Rattle.rules.specs.Evaluate.{Cell, Chars, chars, type_chars}
use Rattle.value_sums.specs.declared.Read.{Read}
use Rattle.value_sums.specs.declared.Refused.{Refused}
use Rattle.value_sums.specs.Answers.{tells_as}

unfoldable pub known_by : Maybe ℕ → Option Bytes
known_by (Some b) = some (b ∷ [])
known_by None = none

abbrev pub tells_type : (ℕ → List (Lex Cell)) → Result (Read ℕ) Refused → Got Chars Cell
tells_type = tells_as (λ b. chars (b ∷ []))

-- a reference that was read, as its type where it may stand after T'
unfoldable pub typed_by : List (Lex Cell) → Reference Cell ℤ → List (Lex Cell) → Got Chars Cell
typed_by here r y = choose (after_t r.of.kind (is_empty r.subscripts)) (given (type_chars r) here y) (broken here)
