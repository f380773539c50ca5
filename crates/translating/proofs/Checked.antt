-- What the check of a library says for the translation behind it. Assumes nothing.
use Prim.Native.Nat.{ℕ}
use mathlib.Core.Path.{◌≡◌, refl, ap, sym, ◌∙◌, subst}
use mathlib.Core.List.{List}
use Rattle.text.specs.Bytes.{Bytes}
use Rattle.rules.specs.Statement.{Set}
use Rattle.rules.specs.Faults.{accepted, verdict}
use Rattle.std.specs.Prelude.{Result, Ok, Err}
use Rattle.refusals.specs.declared.Refused.{Refused}
use Rattle.refusals.specs.Numbers.{number_of}
use Rattle.walking.specs.Verdicts.{told, globals_at, Shared, Lists}
use Rattle.walking.proofs.Globals.{globals-of-library}
use Rattle.macros.specs.Macros.{globals_of_library, Holds}
use Rattle.translating.specs.Answers.{Right}
use Rattle.translating.proofs.Outcomes.{refused-right}

-- the tables hold the globals of the library's macros
pub globals-held : (library : Bytes) (rows : ℕ) (shared kinds : Bytes) → verdict library ≡ accepted → Shared (globals_at library) rows shared kinds → Holds (globals_of_library library) rows shared kinds
globals-held library rows shared kinds v s =
    let e = globals-of-library library v in
    let t : Shared (globals_of_library library) rows shared kinds = subst (λ (gs : List (Bytes × Set)). Shared gs rows shared kinds) e s in
    record { counted = t.counted; listed = t.listed; numbered = t.numbered }

pub is-accepted : (library : Bytes) (r : Result ℕ Refused) (globals : ℕ) → told r ≡ verdict library → r ≡ Ok globals → verdict library ≡ accepted
unfolding told
is-accepted library r globals t e = sym t ∙ ap told e

pub lists-globals : (library shared kinds : Bytes) (r : Result ℕ Refused) (globals : ℕ) → Lists r library shared kinds → r ≡ Ok globals → Shared (globals_at library) globals shared kinds
lists-globals library shared kinds r globals l e = subst (λ (c : Result ℕ Refused). Lists c library shared kinds) e l

pub is-refused : (library before : Bytes) (r : Result ℕ Refused) (f : Refused) → told r ≡ verdict library → r ≡ Err f → Right library before (Err f) before
unfolding told
is-refused library before r f t e = refused-right library before (number_of f.fault) f.line f.fault (sym t ∙ ap told e) refl
