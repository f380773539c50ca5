-- What functions answer: what a rule gives, and where the next operand of a chain stands.
use Rattle.std.specs.Prelude.{ℕ, ◌≡◌, ◌+◌, Bool, ◌||◌, not, List, eqb, length, Option, Some, None}
use Rattle.std.proofs.Math.Option.{some}
use Rattle.text.specs.Bytes.{Bytes}
use Rattle.rules.specs.Choice.{choose, while}
use Rattle.rules.specs.Fields.{is_empty}
use Rattle.rules.specs.Lexemes.{Lex, comma, period, apostrophe}
use Rattle.rules.specs.Grammar.{Kind, parameter, symbol, syslist, sysndx, sysect, unknown, Got, got, plain, rest, then, broken, closed, chain, is_doubled, goes_on_quoted, add_quoted, string}
use Rattle.rules.specs.Form.{Nothing, form}
use Rattle.grammar.specs.Tokens.{toks_at, Formed, tells}

-- a function's answer at a place of a field is what a rule of the grammar gives for the lexemes from there on
abbrev pub Tells : (List (Lex Kind) → Got Nothing Kind) → Bytes → Bytes → ℕ → Formed → Type 0
Tells rule kinds code at r = tells (toks_at kinds code) r ≡ rule (toks_at kinds code at)

-- the subscripts of a reference of this kind, where nothing is kept of them
unfoldable pub subscribed : (List (Lex Kind) → Got Nothing Kind) → Kind → List (Lex Kind) → Got Nothing Kind
subscribed inner parameter x = then (inner (rest x)) closed
subscribed inner (symbol k) x = broken x
subscribed inner syslist x = then (inner (rest x)) λ n y. choose (eqb (plain y) comma) (then (inner (rest y)) closed) (closed tt y)
subscribed inner sysndx x = broken x
subscribed inner sysect x = broken x
subscribed inner unknown x = broken x

-- a byte that must stand there
unfoldable pub expected : ℕ → List (Lex Kind) → Got Nothing Kind
expected c x = choose (eqb (plain x) c) (got tt (rest x)) (broken x)

-- the period that is removed after a reference in text
unfoldable pub past_period : Nothing → List (Lex Kind) → Got Nothing Kind
past_period v x = got tt (choose (eqb (plain x) period) (rest x) x)

-- what stands between quotes goes on, and is read up to the quote that closes it
unfoldable pub quote_goes : (List (Lex Kind) → Got Nothing Kind) → List (Lex Kind) → Bool
quote_goes inner x = is_doubled form inner x || not (is_empty x || eqb (plain x) apostrophe)

unfoldable pub quoted_run : (List (Lex Kind) → Got Nothing Kind) → List (Lex Kind) → Got Nothing Kind
quoted_run inner x = while (goes_on_quoted form inner) (add_quoted form inner) (length x) (got tt x)

-- strings joined by periods
unfoldable pub strings_by : (List (Lex Kind) → Got Nothing Kind) → List (Lex Kind) → Got Nothing Kind
strings_by inner x = chain (λ y. eqb (plain y) period) rest (string form inner) (λ y s t. some tt) x

-- where the next operand stands: behind an operator of `skip` lexemes, where one stands there
abbrev pub Operand : (List (Lex Kind) → Bool) → ℕ → Bytes → ℕ → Option ℕ → Type 0
Operand goes skip code at r = (kinds : Bytes) → r ≡ choose (goes (toks_at kinds code at)) (Some (at + skip)) None
