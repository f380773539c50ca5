-- A body line's bytes in a deck, by what the line does and the codes that it keeps. That they are the deck's coding of the line is proofs/Lines.antt.
-- Assumes nothing.
use Rattle.std.specs.Prelude.{ℕ, ◌+◌, ◌-◌, ◌≤◌, ◌<◌, Bool, [], ◌∷◌, ◌++◌, map, eqb, ltb, length, take}
use Rattle.text.specs.Bytes.{Bytes}
use Rattle.rules.specs.Choice.{choose}
use Rattle.rules.specs.Statement.{Does as Doing, passes, ends, exits, text, models, sets, branches_if, branches, counts}
use Rattle.kinds.specs.Kinds.{set_of}
use Rattle.kinds.specs.declared.Does.{Does}
use Rattle.kinds.specs.declared.Does.TheVariants.{Passes, Ends, Exits, Text, Models, BranchesIf, Branches, Counts, Sets}
use Rattle.deck.specs.Coding.{two}
use Rattle.deck.specs.Coders.{set_code, passes_code, ends_code, exits_code, text_code, models_code, branches_if_code, branches_code, counts_code, sets_code, string, flag}
use Rattle.shapes.specs.declared.Shape.{Shape as Kept}
use Rattle.shapes.specs.Shapes.{part}

-- a text with its count before it
unfoldable pub counted : Bytes → Bytes
counted s = two.put (length s) ++ s

-- what a line does, as the first of its bytes
unfoldable pub does_code : Does → ℕ
does_code Passes = passes_code
does_code Ends = ends_code
does_code Exits = exits_code
does_code Text = text_code
does_code Models = models_code
does_code BranchesIf = branches_if_code
does_code Branches = branches_code
does_code Counts = counts_code
does_code (Sets k) = sets_code + set_code (set_of k)

-- the bytes behind the first: of the line's own text, the number of its target and the codes that it keeps, those that what it does has
unfoldable pub behind_first : Does → Bytes → ℕ → Bytes → Bytes → Bytes → Bytes
behind_first Passes line target name operation operand = []
behind_first Ends line target name operation operand = []
behind_first Exits line target name operation operand = []
behind_first Text line target name operation operand = counted line
behind_first Models line target name operation operand = counted name ++ (counted operation ++ counted operand)
behind_first BranchesIf line target name operation operand = two.put target ++ counted operand
behind_first Branches line target name operation operand = two.put target
behind_first Counts line target name operation operand = counted operand
behind_first (Sets k) line target name operation operand = counted name ++ counted operand

-- the bytes of a line in a deck
unfoldable pub line_bytes : Does → Bytes → ℕ → Bytes → Bytes → Bytes → Bytes
line_bytes does line target name operation operand = does_code does ∷ behind_first does line target name operation operand

-- the bytes of a line by its shape over codes
abbrev pub shape_bytes : Bytes → Kept → Bytes → ℕ → Bytes
shape_bytes line k s target =
    line_bytes k.does line target (take k.name s) (part s k.operation k.gap) (part s k.operand k.rest)

-- the shape is one over these codes, every count has two bytes, and the line's bytes have room
pub record Writable (line : Bytes) (k : Kept) (s : Bytes) (target : ℕ) (out : Bytes) (at : ℕ) : Type 0 where
  pub name-in : k.name ≤ length s
  pub operation-in : (k.operation ≤ k.gap) × (k.gap ≤ length s)
  pub operand_in : (k.operand ≤ k.rest) × (k.rest ≤ length s)
  pub codes-count : length s < 65536
  pub line-counts : length line < 65536
  pub target-counts : target < 65536
  pub room : at + length (shape_bytes line k s target) ≤ length out

-- the bytes of a line by the number in which they start, whatever number it is: where it stands for no line, those of a SET line
unfoldable pub line_bytes_by : ℕ → Bytes → ℕ → Bytes → Bytes → Bytes → Bytes
line_bytes_by does line target name operation operand =
    choose (ltb does text_code) (does ∷ [])
    (choose (eqb does text_code) (does ∷ counted line)
    (choose (eqb does models_code) (does ∷ (counted name ++ (counted operation ++ counted operand)))
    (choose (eqb does branches_if_code) (does ∷ (two.put target ++ counted operand))
    (choose (eqb does branches_code) (does ∷ two.put target)
    (choose (eqb does counts_code) (does ∷ counted operand) (does ∷ (counted name ++ counted operand)))))))

-- those by this number and the places of a shape over codes
abbrev pub numbered_bytes : ℕ → Bytes → Kept → Bytes → ℕ → Bytes
numbered_bytes number line k s target =
    line_bytes_by number line target (take k.name s) (part s k.operation k.gap) (part s k.operand k.rest)

-- the shape is one over these codes, every count has two bytes, and the bytes of the line by this number have room
pub record WritableBy (number : ℕ) (line : Bytes) (k : Kept) (s : Bytes) (target : ℕ) (out : Bytes) (at : ℕ) : Type 0 where
  pub name-in : k.name ≤ length s
  pub operation-in : (k.operation ≤ k.gap) × (k.gap ≤ length s)
  pub operand_in : (k.operand ≤ k.rest) × (k.rest ≤ length s)
  pub codes-count : length s < 65536
  pub line-counts : length line < 65536
  pub target-counts : target < 65536
  pub room : at + length (numbered_bytes number line k s target) ≤ length out

-- the number of a branch target; 0 where there is none
unfoldable pub target_of : Doing ℕ → ℕ
target_of passes = 0
target_of ends = 0
target_of exits = 0
target_of (text s) = 0
target_of models = 0
target_of (sets k) = 0
target_of (branches_if t) = t
target_of (branches t) = t
target_of counts = 0

-- every byte one less; 0 stays
unfoldable pub lessened : Bytes → Bytes
lessened s = map (λ (b : ℕ). b - 1) s

-- a macro's name, whether it has a name parameter, and the number of its positionals
abbrev pub title_bytes : Bytes → Bool → ℕ → Bytes
title_bytes title named positionals = string.put title ++ (flag.put named ++ two.put positionals)
