-- A deck's lines where they stand in its bytes: total, so that they are read again without a test once the deck is known to be in good form.
use Rattle.std.specs.Prelude.{ℕ, ◌+◌, ◌*◌, ◌-◌, Bool, ◌&&◌, List, [], map, eqb, leb, ltb, length, get_or, drop, unwrap_or, Option as Found, Some, None}
use Rattle.std.proofs.Math.Option.{Option, none, some}
use Rattle.text.specs.Bytes.{Bytes}
use Rattle.rules.specs.Choice.{choose, every}
use Rattle.rules.specs.Lexemes.{Lex, lone}
use Rattle.rules.specs.Statement.{Set, set_a, Line, Does, passes, ends, exits, text, models, sets, branches_if, branches, counts, doing}
use Rattle.deck.specs.Slots.{Slot}
use Rattle.deck.specs.Coders.{lex_of, set_of, passes_code, ends_code, exits_code, text_code, models_code, branches_if_code, branches_code, counts_code, sets_code}
use Rattle.spans.specs.Spans.{part_of}
use Rattle.kinds.specs.Kinds.{set_for, set_of as meant}
use Rattle.kinds.specs.declared.Set.TheVariants.{A}
use Rattle.kinds.specs.declared.Does.{Does as Kept}
use Rattle.kinds.specs.declared.Does.TheVariants.{Passes, Ends, Exits, Text, Models, BranchesIf, Branches, Counts, Sets}
use Rattle.deck_reading.specs.declared.Fields.{Fields}

-- the lexeme of a byte; what is none is an ampersand left over, which no field in good form has
unfoldable pub or_lone : Option (Lex Slot) → Lex Slot
or_lone none = lone
or_lone (some x) = x

unfoldable pub slot_lex : ℕ → Lex Slot
slot_lex b = or_lone (lex_of b)

-- two bytes as a number, and a counted run of bytes: where they stand
unfoldable pub two_at : Bytes → ℕ → ℕ
two_at s at = get_or s at 0 * 256 + get_or s (at + 1) 0

unfoldable pub run_at : Bytes → ℕ → Bytes
run_at s at = part_of s (at + 2) (two_at s at)

unfoldable pub run_end : Bytes → ℕ → ℕ
run_end s at = at + 2 + two_at s at

unfoldable pub field_at : Bytes → ℕ → List (Lex Slot)
field_at s at = map slot_lex (run_at s at)

-- a place that is not behind the end
unfoldable pub found : Bytes → ℕ → Found ℕ
found s n = choose (leb n (length s)) (Some n) None

-- whether the run is all there, and where it then ends
unfoldable pub is_there : Bytes → ℕ → Bool
is_there s at = leb (at + 2) (length s) && leb (run_end s at) (length s)

unfoldable pub run_found : Bytes → ℕ → Found ℕ
run_found s at = choose (is_there s at) (Some (run_end s at)) None

-- where it ends if each of its bytes is below a limit
unfoldable pub below_found : ℕ → Bytes → ℕ → Found ℕ
below_found limit s at = choose (every (λ b. ltb b limit) (run_at s at)) (run_found s at) None

-- a yes or no, and the kinds of SET symbols; a byte that is none of the three is taken as SETA's
unfoldable pub flag_at : Bytes → ℕ → Bool
flag_at s at = eqb (get_or s at 0) 1

unfoldable pub or_first : Option Set → Set
or_first none = set_a
or_first (some k) = k

unfoldable pub set_at : ℕ → Set
set_at b = or_first (set_of b)

unfoldable pub kinds_at : Bytes → ℕ → List Set
kinds_at s at = map set_at (run_at s at)

-- a keyword: its name and its default
unfoldable pub keyword_at : Bytes → ℕ → Bytes × Bytes
keyword_at s at = (run_at s at, run_at s (run_end s at))

-- a line by the byte that says what it does, with the fields behind that byte
unfoldable pub fields_line : Does ℕ → List (Lex Slot) → List (Lex Slot) → List (Lex Slot) → Line Slot ℕ
fields_line d n o a = record { does = d; name = n; operation = o; operand = a }

unfoldable pub line_by : ℕ → Bytes → ℕ → Line Slot ℕ
line_by k s at =
    choose (eqb k passes_code) (doing passes)
    (choose (eqb k ends_code) (doing ends)
    (choose (eqb k exits_code) (doing exits)
    (choose (eqb k text_code) (doing (text (run_at s at)))
    (choose (eqb k models_code) (fields_line models (field_at s at) (field_at s (run_end s at)) (field_at s (run_end s (run_end s at))))
    (choose (eqb k branches_if_code) (fields_line (branches_if (two_at s at)) [] [] (field_at s (at + 2)))
    (choose (eqb k branches_code) (doing (branches (two_at s at)))
    (choose (eqb k counts_code) (fields_line counts [] [] (field_at s at))
    (fields_line (sets (set_at (k - sets_code))) (field_at s at) [] (field_at s (run_end s at))))))))))

unfoldable pub line_at : Bytes → ℕ → Line Slot ℕ
line_at s at = line_by (get_or s at 0) s (at + 1)

-- what a reader's answer says of a thing that it has read: it, and the bytes from the place on
unfoldable pub reads : {A : Type 0} → A → Bytes → Found ℕ → Option (A × Bytes)
reads a s (Some n) = some (a, drop n s)
reads a s None = none

-- what a line with this first byte does, if there is one
unfoldable pub sets_found : Option Set → Found Kept
sets_found none = None
sets_found (some k) = Some (Sets (set_for k))

unfoldable pub does_found : ℕ → Found Kept
does_found k =
    choose (eqb k passes_code) (Some Passes)
    (choose (eqb k ends_code) (Some Ends)
    (choose (eqb k exits_code) (Some Exits)
    (choose (eqb k text_code) (Some Text)
    (choose (eqb k models_code) (Some Models)
    (choose (eqb k branches_if_code) (Some BranchesIf)
    (choose (eqb k branches_code) (Some Branches) (choose (eqb k counts_code) (Some Counts) (sets_found (set_of (k - sets_code))))))))))

-- ---- a line by the places of its fields; a field that it does not have stands at the end, where nothing is

unfoldable pub does_in : Kept → Bytes → ℕ → Does ℕ
does_in Passes s at = passes
does_in Ends s at = ends
does_in Exits s at = exits
does_in Text s at = text (run_at s at)
does_in Models s at = models
does_in BranchesIf s at = branches_if (two_at s at)
does_in Branches s at = branches (two_at s at)
does_in Counts s at = counts
does_in (Sets k) s at = sets (meant k)

-- a byte that no line has is taken as SETA's
unfoldable pub does_taken : ℕ → Kept
does_taken k = unwrap_or (does_found k) (Sets A)

-- by the byte itself: what is none of a line's is taken as SETA's
unfoldable pub does_by : ℕ → Bytes → ℕ → Does ℕ
does_by k s at =
    choose (eqb k passes_code) passes
    (choose (eqb k ends_code) ends
    (choose (eqb k exits_code) exits
    (choose (eqb k text_code) (text (run_at s at))
    (choose (eqb k models_code) models
    (choose (eqb k branches_if_code) (branches_if (two_at s at))
    (choose (eqb k branches_code) (branches (two_at s at)) (choose (eqb k counts_code) counts (sets (set_at (k - sets_code))))))))))

unfoldable pub line_in : Bytes → Fields → Line Slot ℕ
line_in s f = fields_line (does_in f.does s f.first) (field_at s f.name) (field_at s f.operation) (field_at s f.operand)
