-- A statement in codes: the codes of its three fields stand one behind another, and its shape says what the line does and which of them it keeps. That a
-- shape says what the line says is proofs/Spelt.antt. Assumes nothing.
use Rattle.std.specs.Prelude.{ℕ, ◌+◌, ◌-◌, ◌≤◌, min, ◌≡◌, Bool, true, ◌&&◌, not, [], map, eqb, ltb, length, take, drop}
use Rattle.text.specs.Bytes.{Bytes}
use Rattle.rules.specs.Choice.{choose, every}
use Rattle.rules.specs.Lexemes.{lexed, sequence_start, is_sequence}
use Rattle.rules.specs.Fields.{Fields}
use Rattle.rules.specs.Statement.{Statement, macro, mend, mexit, local, global, set, aif, ago, anop, actr, model, condition_end, Line}
use Rattle.rules.specs.Faults.{target_behind}
use Rattle.kinds.specs.Kinds.{set_for, does_for}
use Rattle.kinds.specs.declared.Does.{Does}
use Rattle.kinds.specs.declared.Does.TheVariants.{Passes, Ends, Exits, Text, Models, BranchesIf, Branches, Counts, Sets}
use Rattle.deck.specs.Coders.{own_code}
use Rattle.coding.specs.Coded.{code_by}
use Rattle.grammar.specs.Tokens.{toks_at}
use Rattle.shapes.specs.declared.Codes.{Codes}
use Rattle.shapes.specs.declared.Shape.{Shape as Kept}

-- from one place up to another
unfoldable pub part : Bytes → ℕ → ℕ → Bytes
part s from to = take (to - from) (drop from s)

-- where the codes of the three fields end
unfoldable pub ends_of : Bytes → Bytes → Bytes → Codes
ends_of name operation operand = record {
  name = length name;
  operation = length name + length operation;
  operand = length name + length operation + length operand;
}

-- none of the codes is a variable symbol or an ampersand left over
unfoldable pub is_plain_code : Bytes → Bool
is_plain_code s = every (λ b. ltb b own_code) s

-- a line that keeps none of its fields
abbrev pub keeps_none : Does → Codes → Kept
keeps_none does e = record { does = does; name = 0; operation = e.name; gap = e.name; operand = e.operation; rest = e.operation; end = e.operation }

-- one that keeps its operand, and its name up to a place
abbrev pub keeps_operand : Does → ℕ → Codes → Kept
keeps_operand does name e = record { does = does; name = name; operation = e.name; gap = e.name; operand = e.operation; rest = e.operand; end = e.operand }

-- AGO's target is all of its operand; AIF's is what stands behind its condition, where it has one
abbrev pub branching : Codes → Kept
branching e = record { does = Branches; name = 0; operation = e.name; gap = e.name; operand = e.operation; rest = e.operation; end = e.operand }

abbrev pub branching_if : ℕ → Codes → Kept
branching_if condition e =
    let rest = e.operation + min condition (e.operand - e.operation) in
    record { does = BranchesIf; name = 0; operation = e.name; gap = e.name; operand = e.operation; rest = rest; end = choose (eqb condition 0) rest e.operand }

abbrev pub modelling : Bool → Codes → Kept
modelling label e = record { does = Models; name = choose label 0 e.name; operation = e.name; gap = e.operation; operand = e.operation; rest = e.operand; end = e.operand }

-- a statement's shape: `label` says that its name is a sequence symbol
unfoldable pub shape_of : Statement → Bool → Codes → Bytes → Kept
shape_of macro label e s = keeps_none Passes e
shape_of mend label e s = keeps_none Ends e
shape_of mexit label e s = keeps_none Exits e
shape_of (local k) label e s = keeps_none Passes e
shape_of (global k) label e s = keeps_none Passes e
shape_of (set k) label e s = keeps_operand (Sets (set_for k)) e.name e
shape_of aif label e s = branching_if (condition_end (toks_at [] (part s e.operation e.operand) 0)) e
shape_of ago label e s = branching e
shape_of anop label e s = keeps_none Passes e
shape_of actr label e s = keeps_operand Counts 0 e
shape_of model label e s = choose (is_plain_code s && not label) (keeps_none Text e) (modelling label e)

-- the text of a branch target, where the statement has one
unfoldable pub target_text : Fields → Statement → Bytes
target_text f macro = []
target_text f mend = []
target_text f mexit = []
target_text f (local k) = []
target_text f (global k) = []
target_text f (set k) = []
target_text f aif = target_behind (lexed true f.operand)
target_text f ago = f.operand
target_text f anop = []
target_text f actr = []
target_text f model = []

-- a shape over codes says what a line says, where g gives the byte of a variable symbol
pub record Spelt (g : Bytes → ℕ) (x : Line Bytes Bytes) (target : Bytes) (s : Bytes) (k : Kept) : Type 0 where
  pub does : k.does ≡ does_for x.does
  pub name : take k.name s ≡ map (code_by g) x.name
  pub operation : part s k.operation k.gap ≡ map (code_by g) x.operation
  pub operand : part s k.operand k.rest ≡ map (code_by g) x.operand
  pub start : sequence_start (part s k.rest k.end) ≡ sequence_start target
  pub is-sequence : is_sequence (part s k.rest k.end) ≡ is_sequence target
  pub name-in : k.name ≤ length s
  pub operation-in : (k.operation ≤ k.gap) × (k.gap ≤ length s)
  pub operand_in : (k.operand ≤ k.rest) × ((k.rest ≤ k.end) × (k.end ≤ length s))
