-- What the lexemes of a field leave behind them, and what one more makes of it: `deck` `AsRead.is_read`, a lexeme at a time. Assumes nothing.
use Rattle.std.specs.Prelude.{ℕ, Bool, false, ◌&&◌, ◌||◌, not, List, eqb}
use Rattle.rules.specs.Choice.{choose}
use Rattle.rules.specs.Lexemes.{space, ampersand, apostrophe, Lex, byte_of, Before}
use Rattle.deck.specs.Slots.{Slot}
use Rattle.deck.specs.AsRead.{last_byte, is_read_at}
use Rattle.coding.specs.Coded.{before_of as coded}
use Rattle.good_reading.specs.declared.Trail.{Trail as State}

unfoldable pub before_of : State → Before
before_of t = coded t.before

-- the reader can give this lexeme here, and an ampersand left over has its pair in it
unfoldable pub reads_by : State → Lex Slot → List (Lex Slot) → Bool
reads_by t x rest = is_read_at (before_of t) x rest && (not t.odd || eqb (byte_of x) ampersand)

unfoldable pub trail_after : Bool → State → Lex Slot → State
trail_after quotes t x = record {
  before = record { second = t.before.first; first = last_byte x; quoted = choose (eqb (byte_of x) apostrophe) (quotes && not t.before.quoted) t.before.quoted };
  odd = eqb (byte_of x) ampersand && not t.odd;
}

-- a field's start
unfoldable pub no_trail : State
no_trail = record { before = record { second = space; first = space; quoted = false }; odd = false }

-- an operand ends at this text byte, inside these quotes and parentheses
unfoldable pub ends_by : Bool → ℕ → Bool → ℕ → Bool
ends_by holds c quoted depth = eqb c space && (not quoted && (not holds || eqb depth 0))
