-- What the check of a library answers, as the rules say it: verdict, number of a line's fault, and the globals at the library's end. Assumes nothing.
use Rattle.std.specs.Prelude.{ℕ, ◌*◌, ◌≡◌, List, [], ◌∷◌, map, length, take, drop, Result, Ok, Err}
use Rattle.text.specs.Bytes.{Bytes}
use Rattle.rules.specs.Fields.{lines_of, is_ill_written}
use Rattle.rules.specs.Statement.{Set}
use Rattle.rules.specs.Grammar.{symbol}
use Rattle.rules.specs.Library.{firsts}
use Rattle.rules.specs.Faults.{Around, no_lines, is_out_of_place, has_bad_name, is_ill_formed, is_past, is_over_limit, around_after, Verdict, accepted, faulty}
use Rattle.names.specs.Names.{names_in}
use Rattle.grammar.specs.Kinds.{number_of as kind_number}
use Rattle.refusals.specs.Numbers.{number_of}
use Rattle.refusals.specs.declared.Refused.{Refused}
use Rattle.prototypes.specs.Lowest.{lowest}

unfoldable pub told : Result ℕ Refused → Verdict
told (Ok globals) = accepted
told (Err r) = faulty (number_of r.fault) r.line

-- the lowest number that a line has, `ls` being the lines after it; 0 where it has none
unfoldable pub fault_number : Around → Bytes → List Bytes → ℕ
fault_number a l ls = lowest (is_ill_written l) (is_out_of_place a.place l) (has_bad_name a l ls a.place) (is_ill_formed l a.place) (is_over_limit a l)

-- and without the limit of lines
unfoldable pub own_number : Around → Bytes → List Bytes → ℕ
own_number a l ls = lowest (is_ill_written l) (is_out_of_place a.place l) (has_bad_name a l ls a.place) (is_ill_formed l a.place) (is_past a l a.place)

-- the globals that a walk over the lines has at their end
unfoldable pub globals_from : Around → List Bytes → List (Bytes × Set)
globals_from a [] = a.globals
globals_from a (l ∷ ls) = globals_from (around_after l a) ls

unfoldable pub globals_at : Bytes → List (Bytes × Set)
globals_at library = globals_from no_lines (lines_of library)

-- the library's globals stand in the first rows, their kinds from 64 on
pub record Shared (globals : List (Bytes × Set)) (rows : ℕ) (shared kinds : Bytes) : Type 0 where
  pub listed : names_in (take (rows * 8) shared) ≡ firsts globals
  pub numbered : take rows (drop 64 kinds) ≡ map (λ g. kind_number (symbol g.1)) globals
  pub counted : length globals ≡ rows

-- those of an accepted library do
abbrev pub Lists : Result ℕ Refused → Bytes → Bytes → Bytes → Type 0
Lists (Ok globals) library shared kinds = Shared (globals_at library) globals shared kinds
Lists (Err r) library shared kinds = Unit {0}
