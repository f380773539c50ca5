-- Document 01, "Values": numbers, strings, sublists.
use Rattle.std.specs.Prelude.{ℕ, zero, suc, ◌+◌, ◌*◌, ◌-◌, ◌/◌, ◌%◌, Bool, true, false, ◌&&◌, not, List, [], ◌∷◌, eqb, leb, ltb, length, take, drop, get_or, ℤ, pos, negsuc, ◌+ℤ◌, ◌-ℤ◌, ◌*ℤ◌}
use Rattle.std.proofs.Math.Option.{Option, none, some}
use Rattle.std.specs.Int.Signed.{lt_z, quot_z}
use Rattle.text.specs.Bytes.{Bytes, bytes}
use Rattle.text.specs.Characters.{digit}
use Rattle.rules.specs.Choice.{choose, every, on_first}
use Rattle.rules.specs.Lexemes.{opening, closing, comma, Lex, byte_of, field_start, marked, Inside, outside, enters}

-- 01: "SETA: -2147483648 to 2147483647, every intermediate too."
abbrev pub least : ℤ
least = negsuc 2147483647

abbrev pub greatest : ℤ
greatest = pos 2147483647

-- the number itself where it is in range
unfoldable pub within : ℤ → Option ℤ
within z = choose (lt_z z least) none (choose (lt_z greatest z) none (some z))

-- the sign of an operation
abbrev pub plus_sign : ℕ
plus_sign = 43

abbrev pub minus_sign : ℕ
minus_sign = 45

abbrev pub times_sign : ℕ
times_sign = 42

abbrev pub over_sign : ℕ
over_sign = 47

-- 01: "Division drops the fraction toward zero; a zero divisor gives 0."
unfoldable pub operate : ℕ → ℤ → ℤ → Option ℤ
operate sign a b =
    choose (eqb sign plus_sign) (within (a +ℤ b)) (choose (eqb sign minus_sign) (within (a -ℤ b)) (choose (eqb sign times_sign) (within (a *ℤ b)) (within (quot_z a b))))

-- a number's decimal digits, no leading zeros, in front of s; a number of at most k digits
unfoldable pub decimal : ℕ → ℕ → Bytes → Bytes
decimal zero n s = s
decimal (suc k) n s = let t = (48 + n % 10) ∷ s in choose (ltb n 10) t (decimal k (n / 10) t)

unfoldable pub magnitude : ℤ → ℕ
magnitude (pos n) = n
magnitude (negsuc n) = suc n

-- 01: "In text a SETA value stands as its magnitude, no leading zeros; 0 is `0`."
unfoldable pub shown_number : ℤ → Bytes
shown_number z = decimal 10 (magnitude z) []

-- "SETB stands as 0 or 1."
unfoldable pub shown_truth : Bool → Bytes
shown_truth b = choose b (bytes "1") (bytes "0")

-- &SYSNDX in text: four digits
unfoldable pub four_digits : ℕ → Bytes
four_digits n = (48 + n / 1000 % 10) ∷ (48 + n / 100 % 10) ∷ (48 + n / 10 % 10) ∷ (48 + n % 10) ∷ []

-- the number that digits spell, after n for those before them
unfoldable pub spelt : ℕ → Bytes → ℕ
spelt n [] = n
spelt n (c ∷ s) = spelt (n * 10 + (c - 48)) s

-- 01: "whose value is 1 to 10 digits within range"
unfoldable pub number_in : Bytes → Option ℤ
number_in s = choose (every digit s && (ltb 0 (length s) && leb (length s) 10)) (within (pos (spelt 0 s))) none

-- 01: "T' is O when empty, N when 1 to 10 digits within range, else U."
unfoldable pub type_of : Bytes → Bytes
type_of [] = bytes "O"
type_of (c ∷ s) = elim (number_in (c ∷ s)) [ none ↦ bytes "U" | some z ↦ bytes "N" ]

-- 01: "Start must be 1 to the string's length, count 0 or more; a count past the end stops at the end."
unfoldable pub substring : Bytes → ℤ → ℤ → Option Bytes
substring s (pos zero) count = none
substring s (pos (suc before)) (pos count) = choose (ltb before (length s)) (some (take count (drop before s))) none
substring s (pos (suc before)) (negsuc n) = none
substring s (negsuc n) count = none

-- 01: "Of two strings the shorter is less; at equal length the first differing byte decides, by its stored code."
pub data Order : Type 0 where
  less : Order
  equal : Order
  greater : Order

unfoldable pub byte_order : ℕ → ℕ → Order
byte_order c d = choose (ltb c d) less (choose (ltb d c) greater equal)

unfoldable pub first_differing : Bytes → Bytes → Order
first_differing [] t = equal
first_differing (c ∷ s) [] = equal
first_differing (c ∷ s) (d ∷ t) = elim (byte_order c d) [ less ↦ less | greater ↦ greater | equal ↦ first_differing s t ]

unfoldable pub string_order : Bytes → Bytes → Order
string_order s t = choose (ltb (length s) (length t)) less (choose (ltb (length t) (length s)) greater (first_differing s t))

unfoldable pub number_order : ℤ → ℤ → Order
number_order a b = choose (lt_z a b) less (choose (lt_z b a) greater equal)

-- "comparisons EQ NE LT LE GT GE"
pub data Relation : Type 0 where
  eq : Relation
  ne : Relation
  lt : Relation
  le : Relation
  gt : Relation
  ge : Relation

unfoldable pub holds : Relation → Order → Bool
holds eq less = false
holds eq equal = true
holds eq greater = false
holds ne less = true
holds ne equal = false
holds ne greater = true
holds lt less = true
holds lt equal = false
holds lt greater = false
holds le less = true
holds le equal = true
holds le greater = false
holds gt less = false
holds gt equal = false
holds gt greater = true
holds ge less = false
holds ge equal = true
holds ge greater = true

-- the bytes of an operand, divided at commas that stand outside quotes and inside one pair of parentheses; what follows the `)` that closes it is no part.
-- None where the first byte's `(` is not paired with the last byte.
unfoldable pub divided_in : Inside → List (Lex Bytes) → Bytes → Option (List Bytes)
divided_in i [] s = none
divided_in i (x ∷ xs) [] = none
divided_in i (x ∷ xs) (c ∷ s) =
    choose (eqb (byte_of x) closing && (not i.quoted && eqb i.depth 1)) (elim xs [ [] ↦ some ([] ∷ []) | y ∷ ys ↦ none ])
    (elim (divided_in (enters i x) xs s) [
      | none ↦ none
      | some entries ↦ some (choose (eqb (byte_of x) comma && (not i.quoted && eqb i.depth 1)) ([] ∷ entries) (on_first c entries))
    ])

-- 01: "A sublist is an operand whose first byte is a `(` paired with its last byte. Entries divide at commas outside inner quotes and parentheses."
-- An operand's quotes and marks are those of its own bytes.
unfoldable pub entries_of : Bytes → Option (List Bytes)
entries_of [] = none
entries_of (c ∷ s) = choose (eqb c opening) (within_pair (marked true field_start (c ∷ s))) none
  where
    within_pair : List (Lex Bytes) → Option (List Bytes)
    within_pair [] = none
    within_pair (x ∷ xs) = divided_in (enters outside x) xs s

-- 01: "N' is the number of entries, 1 for another operand, 0 for an empty one."
unfoldable pub number_of_entries : Bytes → ℕ
number_of_entries [] = 0
number_of_entries (c ∷ s) = elim (entries_of (c ∷ s)) [ none ↦ 1 | some entries ↦ length entries ]

-- 01: "`&P(n)` is entry n, empty past the last; of another operand, entry 1 is all of it. n below 1 is refused."
unfoldable pub entry : Bytes → ℤ → Option Bytes
entry s (pos zero) = none
entry s (pos (suc n)) = some (elim (entries_of s) [ none ↦ get_or (s ∷ []) n [] | some entries ↦ get_or entries n [] ])
entry s (negsuc n) = none

-- 01: "&SYSLIST(0) is the name, &SYSLIST(n) positional n (empty past the last) .. A negative n .. is refused." The list has the name first.
unfoldable pub listed : List Bytes → ℤ → Option Bytes
listed l (pos n) = some (get_or l n [])
listed l (negsuc n) = none
