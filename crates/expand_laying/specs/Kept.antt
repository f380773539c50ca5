-- What code keeps of a text that becomes part of a line: its first bytes, its true length, and its length without trailing spaces. Both lengths are those of the
-- whole text, however long it is; so a line that is laid out from what is kept has the rules' lengths (reading X4: trailing spaces, hundreds of them, may end it).
use Rattle.std.specs.Prelude.{ℕ, ◌+◌, ◌||◌, List, ◌++◌, eqb, ltb, length, take, replicate}
use Rattle.std.proofs.Math.Option.{Option}
use Rattle.text.specs.Bytes.{Bytes}
use Rattle.text.specs.Words.{place_among}
use Rattle.rules.specs.Choice.{choose}
use Rattle.rules.specs.Limits.{line_limit, too_long, language_word}
use Rattle.rules.specs.Lexemes.{space}
use Rattle.rules.specs.Fields.{is_empty}
use Rattle.rules.specs.Calls.{Operands}
use Rattle.rules.specs.Machine.{Machine, Level, State, Move, refuses, calls, puts, is_title, is_language_word}
use Rattle.expand_laying.specs.Solid.{solid, solid_both, gap}
use Rattle.expand_laying.specs.declared.Field.{Field}

pub record Kept : Type 0 where
  pub front : Bytes
  pub size : ℕ
  pub solid : ℕ

-- what is kept of a text, with its first k bytes
unfoldable pub kept_of : ℕ → Bytes → Kept
kept_of k s = record { front = take k s; size = length s; solid = solid s }

-- what a buffer and a field's lengths hold
unfoldable pub kept_in : ℕ → Bytes → Field → Kept
kept_in k out f = record { front = take k (take f.size out); size = f.size; solid = f.solid }

-- the smaller of two numbers
unfoldable pub at_most : ℕ → ℕ → ℕ
at_most k n = choose (ltb k n) k n

-- one text behind another
unfoldable pub joined_kept : ℕ → Kept → Kept → Kept
joined_kept k a b = record { front = take k (a.front ++ b.front); size = a.size + b.size; solid = solid_both a.size a.solid b.solid }

-- `put_at` and `laid_out` of the rules, over what is kept
unfoldable pub put_kept : ℕ → Kept → Kept → Kept
put_kept before l f = joined_kept line_limit (joined_kept line_limit l (kept_of line_limit (replicate (gap before l.size) space))) f

unfoldable pub laid_kept : Kept → Kept → Kept → Kept
laid_kept n o a =
    let l = put_kept 9 n o in
    choose (eqb a.size 0) l (put_kept 15 l a)

-- `states` of the rules, over what is kept of the line
unfoldable pub states_kept : Machine → Bytes → Bytes → Kept → Option (Operands Bytes) → List Level → State → Move
states_kept m name operation line os ls s =
    let called = is_title m operation in
    choose (is_empty operation || ltb line_limit (choose called line.size line.solid)) (refuses too_long s)
    (choose (is_language_word operation) (refuses language_word s)
    (choose called (calls m (place_among m.titles operation) name os ls s) (puts (take line.solid line.front) ls s)))
