-- Tables of names when all lines of a body have declared their symbols. Assumes nothing.
use Rattle.std.specs.Prelude.{◌+◌, ◌≤◌, ◌≡◌, false, List, [], ◌∷◌, ◌++◌, length}
use Rattle.text.specs.Bytes.{Bytes}
use Rattle.rules.specs.Choice.{any}
use Rattle.rules.specs.Lexemes.{is_long}
use Rattle.rules.specs.Statement.{Set, global, statement_of}
use Rattle.rules.specs.Library.{operation_of, locals_on, globals_on, declared_in, names_in, firsts, with_globals}
use Rattle.rules.specs.Faults.{declares_wrongly, is_declared, has_other_kind}
use Rattle.collecting.specs.declared.Rows.{Rows as Counts}
use Rattle.collecting.specs.Collected.{Sizes, Declared}

-- a line that is not too long, and declares no symbol that is
pub record Short (l : Bytes) : Type 0 where
  pub line-length : length l ≤ 71
  pub short-locals : any is_long (firsts (locals_on l)) ≡ false
  pub short-globals : any is_long (firsts (globals_on l)) ≡ false

abbrev pub AllShort : List Bytes → Type 0
AllShort [] = Unit {0}
AllShort (l ∷ ls) = Short l × AllShort ls

-- what the lines declare fits behind the first rows
pub record Fits (ls : List Bytes) (rows : Counts) : Type 0 where
  pub short : AllShort ls
  pub few-own : rows.own + length (declared_in locals_on ls) ≤ 64
  pub few-global : rows.global + length (declared_in globals_on ls) ≤ 32
  pub few-shared : rows.shared + length (declared_in globals_on ls) ≤ 32

pub record RoomFor (ls : List Bytes) (rows : Counts) (own global shared kinds : Bytes) : Type 0 where
  pub sizes : Sizes own global shared kinds
  pub fits : Fits ls rows

-- what a line of a macro with this prototype, behind these lines of its body, declares of the library's globals agrees with those that there are
pub record Agreeing (p : Bytes) (globals : List (Bytes × Set)) (before : List Bytes) (l : Bytes) : Type 0 where
  pub few : length (with_globals globals (globals_on l)) ≤ 32
  pub one-kind : (k : Set) → statement_of (operation_of l) ≡ global k → any (has_other_kind k globals) (firsts (globals_on l)) ≡ false
  pub once : declares_wrongly (is_declared (names_in p before)) (firsts (globals_on l)) ≡ false

abbrev pub Agrees : Bytes → List (Bytes × Set) → List Bytes → List Bytes → Type 0
Agrees p globals before [] = Unit {0}
Agrees p globals before (l ∷ ls) = Agreeing p globals before l × Agrees p (with_globals globals (globals_on l)) (before ++ (l ∷ [])) ls

-- whatever macro's names and globals the first tables hold, with these lines before, the second hold them and those that the lines declare
abbrev pub DeclaresBehind : List Bytes → List Bytes → Counts → Bytes → Bytes → Bytes → Bytes → Counts → Bytes → Bytes → Bytes → Bytes → Type 0
DeclaresBehind before ls rows own₀ global₀ shared₀ kinds₀ r own₁ global₁ shared₁ kinds₁ =
    (p : Bytes) (globals : List (Bytes × Set)) → Declared (names_in p before) globals rows own₀ global₀ shared₀ kinds₀ → Agrees p globals before ls
    → Declared (names_in p (before ++ ls)) (with_globals globals (declared_in globals_on ls)) r own₁ global₁ shared₁ kinds₁
