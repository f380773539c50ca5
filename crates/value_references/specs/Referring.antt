-- What a reference in a field says, and where what it stands for is kept.
use Rattle.std.specs.Prelude.{ℕ, zero, suc, ◌+◌, ◌-◌, Bool, true, false, List, [], ◌∷◌, ltb, get_or, ℤ, pos, negsuc, Result, Ok, Err, Some, None}
use Rattle.std.specs.Prelude.{Option as Maybe}
use Rattle.std.proofs.Math.Option.{Option, none}
use Rattle.text.specs.Bytes.{Bytes}
use Rattle.rules.specs.Choice.{choose}
use Rattle.rules.specs.Lexemes.{Lex, byte, mark, ref, lone}
use Rattle.rules.specs.Statement.{set_a, set_b, set_c}
use Rattle.rules.specs.Grammar.{Kind, parameter, symbol, syslist, sysndx, sysect, unknown, Reference, Got}
use Rattle.rules.specs.Evaluate.{Cell, shown, as_number, count_bytes, count_entries}
use Rattle.kinds.specs.declared.Kind.{Kind as Kept}
use Rattle.kinds.specs.declared.Stand.{Stand}
use Rattle.kinds.specs.declared.Stand.TheVariants.{Term, AfterK, AfterN, AfterT, Text}
use Rattle.kinds.specs.Kinds.{kind_for}
use Rattle.value_sums.specs.declared.Read.{Read}
use Rattle.value_sums.specs.declared.Refused.{Refused}
use Rattle.value_sums.specs.declared.Numbered.{Numbered}
use Rattle.value_sums.specs.Answers.{tells_as}
use Rattle.work_frames.specs.Layout.{local_cell}
use Rattle.work_frames.specs.declared.Frame.{Frame}
use Rattle.value_references.specs.declared.Subscripts.{Subscripts}
use Rattle.value_references.specs.declared.Subscripts.TheVariants.{Bare, One, Two}

-- a cell with subscripts
abbrev pub ref_to : Cell → List ℤ → Reference Cell ℤ
ref_to c l = record { of = c; subscripts = l }

-- subscripts as the rules list them
unfoldable pub listed : Subscripts → List ℤ
listed Bare = []
listed (One a) = a ∷ []
listed (Two a b) = a ∷ (b ∷ [])

-- what an answer says of the symbol that stands for c
abbrev pub tells_reference : Cell → (ℕ → List (Lex Cell)) → Result (Read Subscripts) Refused → Got (Reference Cell ℤ) Cell
tells_reference c = tells_as (λ s. ref_to c (listed s))

-- its first subscript as a place in a list, 0 where there is none
unfoldable pub place_of : ℤ → ℕ
place_of (pos n) = n
place_of (negsuc n) = 0

unfoldable pub first_of : Subscripts → ℕ
first_of Bare = 0
first_of (One a) = place_of a
first_of (Two a b) = place_of a

-- of what may have been read; 0 for a refusal
unfoldable pub first_read : Result (Read Subscripts) Numbered → ℕ
first_read (Ok r) = first_of r.value
first_read (Err e) = 0

-- the kind of the symbol that stands first, if one does
unfoldable pub kind_by : List (Lex Cell) → Maybe Kept
kind_by [] = None
kind_by (byte c ∷ x) = None
kind_by (mark ∷ x) = None
kind_by (ref c ∷ x) = Some (kind_for c.kind)
kind_by (lone ∷ x) = None

-- the cell of the workspace in which a SET symbol is kept
unfoldable pub cell_number : Frame → ℕ → ℕ
cell_number f b = choose (ltb b 192) (local_cell f.depth + (b - 128 - f.params)) (b - 192)

-- kinds whose text stands in the workspace or in the deck
unfoldable pub is_placed : Kind → Bool
is_placed parameter = true
is_placed (symbol set_a) = false
is_placed (symbol set_b) = false
is_placed (symbol set_c) = true
is_placed syslist = true
is_placed sysndx = false
is_placed sysect = true
is_placed unknown = false

-- the text of which a reference takes all or an entry: of &SYSLIST, the operand at place n
unfoldable pub basis_of : Cell → ℕ → Bytes
basis_of c n = elim c.kind [
  | parameter ↦ shown c.value
  | symbol k ↦ shown c.value
  | syslist ↦ get_or c.list n []
  | sysndx ↦ shown c.value
  | sysect ↦ shown c.value
  | unknown ↦ shown c.value
]

-- the place of the run behind n others
unfoldable pub run_place : Bytes → ℕ → ℕ → ℕ
run_place w at zero = at
run_place w at (suc n) = run_place w (at + 1 + get_or w at 0) n

-- what a reference stands for in arithmetic, where it stands
unfoldable pub meaning_of : Stand → Reference Cell ℤ → Option ℤ
meaning_of Term = as_number
meaning_of AfterK = count_bytes
meaning_of AfterN = count_entries
meaning_of AfterT = λ r. none
meaning_of Text = λ r. none
