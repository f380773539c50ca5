-- What a text starts with, by bytes: a variable symbol, or another piece. That these are 01's lexemes is proofs/. Assumes nothing.
use Rattle.std.specs.Prelude.{ℕ, suc, Bool, ◌&&◌, not, List, [], ◌∷◌, Option, Some, None, eqb, get_or, take, drop}
use Rattle.std.specs.Borrow.{Bor}
use Rattle.text.specs.Bytes.{Bytes}
use Rattle.text.specs.Characters.{letter, letter_or_digit}
use Rattle.rules.specs.Choice.{choose, run}
use Rattle.rules.specs.Lexemes.{ampersand}

-- how long the name is of the symbol that stands first; 0 where none does
unfoldable pub start_length : Bytes → ℕ
start_length s = choose (eqb (get_or s 0 0) ampersand && letter (get_or s 1 0)) (suc (run letter_or_digit (drop 2 s))) 0

-- the symbol that stands first, or none
unfoldable pub start_name : Bytes → List Bytes
start_name s = choose (eqb (start_length s) 0) [] (take (start_length s) (drop 1 s) ∷ [])

-- what was found, as 01 tells it: one name or none
abbrev pub found : Option (Bor Bytes) → List Bytes
found None = []
found (Some n) = n.now ∷ []

-- how many bytes stand first that are one piece: a pair of ampersands, a symbol, or a byte
unfoldable pub piece_length : Bytes → ℕ
piece_length s = choose (eqb (get_or s 0 0) ampersand && eqb (get_or s 1 0) ampersand) 2 (suc (start_length s))

-- no ampersand stands first that has no pair
unfoldable pub starts_plain : Bytes → Bool
starts_plain s = not (eqb (get_or s 0 0) ampersand && not (eqb (get_or s 1 0) ampersand))
