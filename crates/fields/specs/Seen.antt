-- What a scan of an operand has seen, and what one more byte makes of it. That this is 01's reading is proofs/. Assumes nothing.
use Rattle.std.specs.Prelude.{ℕ, suc, pred, Bool, false, ◌&&◌, ◌||◌, not, eqb}
use Rattle.text.specs.Characters.{letter, letter_or_digit}
use Rattle.rules.specs.Choice.{choose}
use Rattle.rules.specs.Lexemes.{space, ampersand, apostrophe, opening, closing, Before, Inside}
use Rattle.fields.specs.declared.Seen.{Seen as State}

unfoldable pub before_of : State → Before
before_of s = record { second = s.second; first = s.first; quoted = s.quoted }

unfoldable pub inside_of : State → Inside
inside_of s = record { quoted = s.quoted; depth = s.depth }

-- one of K N T L
unfoldable pub precedes : ℕ → Bool
precedes c = eqb c 75 || eqb c 78 || eqb c 84 || eqb c 76

-- an attribute mark, by the byte that follows (0 where nothing does)
unfoldable pub marks : State → ℕ → ℕ → Bool
marks s c next =
    eqb c apostrophe && not s.quoted && (letter next || eqb next ampersand) && precedes s.first && not (letter_or_digit s.second || eqb s.second ampersand)

-- a space outside quotes, and outside parentheses if these hold spaces
unfoldable pub closes_field : Bool → State → ℕ → Bool
closes_field holds s c = eqb c space && not s.quoted && (not holds || eqb s.depth 0)

-- parentheses outside quotes
unfoldable pub depth_after : State → ℕ → ℕ
depth_after s c = choose s.quoted s.depth (choose (eqb c opening) (suc s.depth) (choose (eqb c closing) (pred s.depth) s.depth))

-- an apostrophe that is no mark opens a quote or closes it
unfoldable pub quoted_after : State → ℕ → ℕ → Bool
quoted_after s c next = choose (eqb c apostrophe && not (marks s c next)) (not s.quoted) s.quoted

unfoldable pub seen_after : State → ℕ → ℕ → State
seen_after s c next = record { second = s.first; first = c; quoted = quoted_after s c next; depth = depth_after s c }

unfoldable pub nothing_seen : State
nothing_seen = record { second = space; first = space; quoted = false; depth = 0 }
