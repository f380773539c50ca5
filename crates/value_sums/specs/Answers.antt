-- What evaluation's answers say: a place in a field stands for the lexemes from there on.
use Rattle.std.specs.Prelude.{ℕ, List, map, eqb, ltb, length, drop, ℤ, Result, Ok, Err, Some, None}
use Rattle.std.specs.Prelude.{Option as Maybe}
use Rattle.std.proofs.Math.Option.{Option, none, some}
use Rattle.text.specs.Bytes.{Bytes}
use Rattle.rules.specs.Choice.{choose}
use Rattle.rules.specs.Lexemes.{Lex, byte, mark, ref, lone}
use Rattle.rules.specs.Grammar.{Got, got, refused}
use Rattle.rules.specs.Evaluate.{Cell}
use Rattle.refusals.specs.Numbers.{number_of}
use Rattle.value_sums.specs.declared.Read.{Read}
use Rattle.value_sums.specs.declared.Refused.{Refused}
use Rattle.value_sums.specs.declared.Numbered.{Numbered}

-- the code's option as the rules'
unfoldable pub option_of : {A : Type 0} → Maybe A → Option A
option_of (Some z) = some z
option_of None = none

-- a field as evaluation sees it: `held` has what each byte from 128 to 226 stands for
unfoldable pub lex_by : (ℕ → Cell) → ℕ → Lex Cell
lex_by held b = choose (ltb b 127) (byte b) (choose (eqb b 127) mark (choose (ltb b 227) (ref (held b)) lone))

unfoldable pub toks_by : (ℕ → Cell) → Bytes → ℕ → List (Lex Cell)
toks_by held code at = map (lex_by held) (drop at code)

-- what was read, as what `is` makes of its value, and the lexemes behind it; or a refusal's number, and how many lexemes were left
unfoldable pub tells_as : {A B : Type 0} → (A → B) → (ℕ → List (Lex Cell)) → Result (Read A) Refused → Got B Cell
tells_as is from (Ok r) = got (is r.value) (from r.next)
tells_as is from (Err r) = refused (number_of r.fault) (length (from r.at))

abbrev pub tells : (ℕ → List (Lex Cell)) → Result (Read ℤ) Refused → Got ℤ Cell
tells = tells_as (λ z. z)

-- where a refusal is told by its number
unfoldable pub numbered_read : {A : Type 0} → Result (Read A) Refused → Result (Read A) Numbered
numbered_read (Ok r) = Ok r
numbered_read (Err r) = Err (record { number = number_of r.fault; at = r.at })

unfoldable pub tells_by : {A B : Type 0} → (A → B) → (ℕ → List (Lex Cell)) → Result (Read A) Numbered → Got B Cell
tells_by is from (Ok r) = got (is r.value) (from r.next)
tells_by is from (Err r) = refused r.number (length (from r.at))
