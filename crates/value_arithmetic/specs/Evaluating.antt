-- What the functions of evaluation answer.
use Rattle.std.specs.Prelude.{ℕ, ◌≡◌, List, ℤ, Result}
use Rattle.text.specs.Bytes.{Bytes}
use Rattle.rules.specs.Choice.{choose}
use Rattle.rules.specs.Lexemes.{Lex}
use Rattle.rules.specs.Fields.{is_empty}
use Rattle.rules.specs.Grammar.{Reference, Got, given, broken}
use Rattle.rules.specs.Evaluate.{Cell}
use Rattle.kinds.specs.declared.Stand.{Stand}
use Rattle.kinds.specs.Kinds.{table_of}
use Rattle.value_sums.specs.declared.Read.{Read}
use Rattle.value_sums.specs.declared.Refused.{Refused}
use Rattle.value_sums.specs.Answers.{toks_by, tells}
use Rattle.work_frames.specs.Holding.{Holding}
use Rattle.value_references.specs.declared.Scene.{Scene}
use Rattle.value_references.specs.Referring.{meaning_of}

-- what the symbols of these cells stand for is held
abbrev pub Holds : Scene → (ℕ → Cell) → Type 0
Holds s = Holding s.deck.now s.work.now s.frame

-- the workspace holds what the symbols of some cells stand for
pub record Stands (s : Scene) : Type 0 where
  pub cells : ℕ → Cell
  pub holds : Holds s cells

-- a function's answer at a place of a field is what a rule gives for the lexemes from there on, whatever cells the workspace holds
abbrev pub Evaluated : (List (Lex Cell) → Got ℤ Cell) → Scene → Bytes → ℕ → Result (Read ℤ) Refused → Type 0
Evaluated rule s code at r = (held : ℕ → Cell) → Holds s held → tells (toks_by held code) r ≡ rule (toks_by held code at)

-- a reference that was read, as what it stands for where the table takes it
unfoldable pub judged_by : Stand → List (Lex Cell) → Reference Cell ℤ → List (Lex Cell) → Got ℤ Cell
judged_by stand here r y = choose (table_of stand r.of.kind (is_empty r.subscripts)) (given (meaning_of stand r) here y) (broken here)
