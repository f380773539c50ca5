-- docs/BATCH.md: what an answer says behind its id. Assumes nothing.
use Rattle.std.specs.Prelude.{ℕ, [], ◌∷◌, ◌++◌}
use Rattle.text.specs.Bytes.{Bytes, bytes}
use Rattle.rules.specs.Values.{decimal}
use Rattle.rules.specs.Lexemes.{space}
use Rattle.rules.specs.Fields.{newline}

-- a number in decimal, no leading zeros: 20 digits hold every number of 64 bits
unfoldable pub decimal_of : ℕ → Bytes
decimal_of n = decimal 20 n []

unfoldable pub spaced : ℕ → Bytes
spaced n = space ∷ decimal_of n

-- "ANSWER <id> LIBRARY <number> <line>\n"
unfoldable pub refused_answer : ℕ → ℕ → Bytes
refused_answer number line = ((bytes " LIBRARY" ++ spaced number) ++ spaced line) ++ (newline ∷ [])

-- "ANSWER <id> DECK <bytes>\n", before the deck's bytes
unfoldable pub deck_answer : ℕ → Bytes
deck_answer count = (bytes " DECK" ++ spaced count) ++ (newline ∷ [])
