-- Kinds of variable symbols: as numbers, what stands first, and which kinds may stand where, by a number.
use Rattle.std.specs.Prelude.{ℕ, Bool, List, [], ◌∷◌, Option, Some, None, eqb}
use Rattle.rules.specs.Choice.{choose}
use Rattle.rules.specs.Lexemes.{Lex, byte, mark, ref, lone}
use Rattle.rules.specs.Statement.{set_a, set_b, set_c}
use Rattle.rules.specs.Grammar.{Kind, parameter, symbol, syslist, sysndx, sysect, unknown, in_text, as_term, after_k, after_n, after_t}
use Rattle.kinds.specs.declared.Kind.{Kind as Kept}
use Rattle.kinds.specs.Kinds.{kind_for}

unfoldable pub number_of : Kind → ℕ
number_of parameter = 0
number_of (symbol set_a) = 1
number_of (symbol set_b) = 2
number_of (symbol set_c) = 3
number_of unknown = 4
number_of syslist = 5
number_of sysndx = 6
number_of sysect = 7

-- the kind of a lexeme that is a variable symbol
unfoldable pub kind_shown : Lex Kind → Option Kept
kind_shown (byte c) = None
kind_shown mark = None
kind_shown (ref k) = Some (kind_for k)
kind_shown lone = None

-- the kind of the variable symbol that stands first
unfoldable pub kind_first : List (Lex Kind) → Option Kept
kind_first [] = None
kind_first (y ∷ x) = kind_shown y

-- where a reference stands: 0 as a term, 1 after K', 2 after N', 3 after T', any other in text
unfoldable pub table_numbered : ℕ → Kind → Bool → Bool
table_numbered n = choose (eqb n 0) as_term (choose (eqb n 1) after_k (choose (eqb n 2) after_n (choose (eqb n 3) after_t in_text)))
