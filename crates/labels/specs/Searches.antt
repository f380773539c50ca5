-- Lines up to one that passes a test, and where they end, by place. What these places mean for 01's macros is proofs/Macros.antt. Assumes nothing.
use Rattle.std.specs.Prelude.{ℕ, suc, ◌+◌, ◌-◌, min, Bool, List, [], ◌∷◌, length, drop}
use Rattle.text.specs.Bytes.{Bytes, same}
use Rattle.rules.specs.Choice.{choose}
use Rattle.rules.specs.Fields.{lines_of}
use Rattle.rules.specs.Library.{operation_of, is_macro, is_mend}
pub use Rattle.lines.specs.Ends.{line_at}
unfoldable pub use Rattle.lines.specs.Ends.{past_newline}

unfoldable pub is_operation : Bytes → Bytes → Bool
is_operation word l = same (operation_of l) word

-- the lines up to the first that passes the test, this one included, and the lines behind it
unfoldable pub up_to : (Bytes → Bool) → List Bytes → List Bytes
up_to test [] = []
up_to test (l ∷ ls) = l ∷ choose (test l) [] (up_to test ls)

unfoldable pub beyond : (Bytes → Bool) → List Bytes → List Bytes
beyond test [] = []
beyond test (l ∷ ls) = choose (test l) ls (beyond test ls)

-- how many bytes lines take, each with a newline
unfoldable pub size_of : List Bytes → ℕ
size_of [] = 0
size_of (l ∷ ls) = suc (length l) + size_of ls

-- behind the first line from `at` on that passes the test; the file's end where none does (its last line may have no newline)
unfoldable pub behind : (Bytes → Bool) → Bytes → ℕ → ℕ
behind test file at = at + min (size_of (up_to test (lines_of (drop at file)))) (length file - at)

unfoldable pub body_end : Bytes → ℕ → ℕ
body_end library at = behind is_mend library at

unfoldable pub prototype_start : Bytes → ℕ → ℕ
prototype_start library at = behind is_macro library at
