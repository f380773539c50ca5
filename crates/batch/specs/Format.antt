-- docs/BATCH.md: what stands at a place of a batch. Assumes nothing.
use Rattle.std.specs.Prelude.{ℕ, ◌+◌, ◌-◌, Bool, ◌&&◌, eqb, leb, ltb, length, take, drop, get_or}
use Rattle.text.specs.Bytes.{Bytes, bytes, same}
use Rattle.text.specs.Characters.{digit}
use Rattle.rules.specs.Choice.{choose, run}
use Rattle.rules.specs.Lexemes.{space}
use Rattle.rules.specs.Fields.{newline}
use Rattle.rules.specs.Values.{spelt}
use Rattle.batch.specs.declared.Number.{Number}
use Rattle.std.specs.Prelude.{Option, Some, None}
use Rattle.batch.specs.declared.Pair.{Pair}
use Rattle.batch.specs.declared.Case.{Case}
use Rattle.batch.specs.declared.Case.TheVariants.{Found, End, Broken}

-- "`<id>` is a run of printable non-space characters"
abbrev pub is_printable : ℕ → Bool
is_printable c = leb 33 c && leb c 126

unfoldable pub id_end : Bytes → ℕ → ℕ
id_end input at = at + run is_printable (drop at input)

-- "the four numbers are decimal": one over this limit is more than any file or buffer has bytes, and no number here
abbrev pub number_limit : ℕ
number_limit = 999999999999999999

-- the number `value`, whose digits stand from `at` to `end`, where the byte `stop` has to stand
unfoldable pub ended_at : ℕ → Bytes → ℕ → ℕ → ℕ → Option Number
ended_at stop input at end value =
    choose (ltb number_limit value) None (choose (eqb end at) None (choose (eqb (get_or input end 0) stop) (Some (record { value = value; next = (end + 1) })) None))

-- the digits that stand first
abbrev pub digits_of : Bytes → Bytes
digits_of s = take (run digit s) s

unfoldable pub number_at : ℕ → Bytes → ℕ → Option Number
number_at stop input at = ended_at stop input at (at + run digit (drop at input)) (spelt 0 (digits_of (drop at input)))

unfoldable pub second_to : ℕ → Option Number → Option Pair
second_to first (Some p) = Some (record { first = first; second = p.value; next = p.next })
second_to first None = None

unfoldable pub then_second : ℕ → Bytes → Option Number → Option Pair
then_second stop input (Some p) = second_to p.value (number_at stop input p.next)
then_second stop input None = None

-- two numbers with a space between them
unfoldable pub pair_at : ℕ → Bytes → ℕ → Option Pair
pair_at stop input at = then_second stop input (number_at space input at)

-- "<the library's bytes><the program's bytes>\n": "the counts say where they end. One newline follows the program's bytes"
unfoldable pub laid_out : Bytes → ℕ → ℕ → ℕ → ℕ → ℕ → ℕ → ℕ → Case
laid_out input id blank start library program output workspace =
    let middle = start + library in
    let stop = middle + program in
    choose (ltb (length input - start) library) Broken
    (choose (ltb (length input - middle) program) Broken
    (choose (eqb (get_or input stop 0) newline) (Found id blank start middle stop (stop + 1) output workspace) Broken))

unfoldable pub with_rooms : Bytes → ℕ → ℕ → ℕ → ℕ → Option Pair → Case
with_rooms input id blank library program (Some r) = laid_out input id blank r.next library program r.first r.second
with_rooms input id blank library program None = Broken

unfoldable pub with_sizes : Bytes → ℕ → ℕ → Option Pair → Case
with_sizes input id blank (Some r) = with_rooms input id blank r.first r.second (pair_at newline input r.next)
with_sizes input id blank None = Broken

-- "<library bytes> <program bytes> <output length> <workspace length>\n", behind an id and its space
unfoldable pub headed : Bytes → ℕ → ℕ → Case
headed input id blank = with_sizes input id blank (pair_at space input (blank + 1))

-- "CASE <id> .."
unfoldable pub case_at : Bytes → ℕ → Case
case_at input at =
    let id = at + 5 in
    let blank = id_end input id in
    choose (leb (length input) at) End
    (choose (same (take 5 (drop at input)) (bytes "CASE "))
    (choose (eqb blank id) Broken (choose (eqb (get_or input blank 0) space) (headed input id blank) Broken))
    Broken)
