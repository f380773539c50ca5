-- The characters of document 01, "Lines and fields". Assumes nothing.
use Rattle.std.specs.Prelude.{ℕ, Bool, ◌&&◌, ◌||◌, eqb, leb}
use Prim.Native.Char.{Char, code}
use Rattle.text.specs.Bytes.{Bytes, bytes}

-- the byte is this character
abbrev pub is : Char → ℕ → Bool
is x c = eqb c (code x)

-- the byte is one of the characters from the one to the other
abbrev pub between : Char → Char → ℕ → Bool
between x y c = leb (code x) c && leb c (code y)

-- 01: "A letter is A-Z, `$ # @ _`."
unfoldable pub letter : ℕ → Bool
letter c = between "A" "Z" c || (is "$" c || (is "#" c || (is "@" c || is "_" c)))

unfoldable pub digit : ℕ → Bool
digit c = between "0" "9" c

-- what a symbol goes on with after its first letter
unfoldable pub letter_or_digit : ℕ → Bool
letter_or_digit c = letter c || digit c

-- 01: "Lines have 0 to 71 bytes from A-Z, 0-9, space and `$ # @ _ + - * = , . ( ) / ' &`."
unfoldable pub in_set : ℕ → Bool
in_set c =
    between "A" "Z" c || (between "0" "9" c || (is " " c || (is "$" c || (is "#" c || (is "@" c || (is "_" c || (is "+" c
    || (is "-" c || (is "*" c || (is "=" c || (is "," c || (is "." c || (is "(" c || (is ")" c || (is "/" c || (is "'" c || is "&" c))))))))))))))))

-- the set and the letters, character by character: the tests above are membership in these (proofs/Members.antt)
unfoldable pub characters : Bytes
characters = bytes "ABCDEFGHIJKLMNOPQRSTUVWXYZ0123456789 $#@_+-*=,.()/'&"

unfoldable pub letters : Bytes
letters = bytes "ABCDEFGHIJKLMNOPQRSTUVWXYZ$#@_"

unfoldable pub digits : Bytes
digits = bytes "0123456789"
