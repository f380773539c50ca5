-- Whether a line is well formed: the grammar, with nothing that its terms and operators would stand for.
use Rattle.std.specs.Prelude.{ℕ, ◌+◌, Bool, true, false, ◌&&◌, List, [], ◌∷◌, length}
use Rattle.std.proofs.Math.Option.{some}
use Rattle.rules.specs.Lexemes.{Lex, byte, mark, ref, lone}
use Rattle.rules.specs.Statement.{Set, set_a, set_b, set_c, Line, Does, passes, ends, exits, text, models, sets, branches_if, branches, counts}
use Rattle.rules.specs.Grammar.{Kind, parameter, symbol, syslist, sysndx, sysect, unknown, Got, got, refused, Sense, whole, arithmetic, text_within, string_within, condition}

abbrev pub Nothing : Type 0
Nothing = Unit {0}

unfoldable pub form : Sense Kind Nothing Nothing Nothing
form = record {
  kind = λ k. k;
  number = λ n. tt;
  term = λ r. some tt;
  bytes_in = λ r. some tt;
  entries_in = λ r. some tt;
  operation = λ c a b. some tt;
  empty = tt;
  character = λ c. tt;
  text_of = λ r. some tt;
  joined = λ s t. tt;
  measured = λ s. tt;
  substring_of = λ s a b. some tt;
  type_in = λ r. some tt;
  constant = λ b. tt;
  flag = λ k. tt;
  numbers = λ r a b. tt;
  strings = λ r s t. tt;
  negated = λ b. tt;
  both = λ a b. tt;
  either = λ a b. tt;
}

unfoldable pub is_got : {A R : Type 0} → Got A R → Bool
is_got (got v x) = true
is_got (refused e left) = false

unfoldable pub same_set : Set → Set → Bool
same_set set_a set_a = true
same_set set_a set_b = false
same_set set_a set_c = false
same_set set_b set_a = false
same_set set_b set_b = true
same_set set_b set_c = false
same_set set_c set_a = false
same_set set_c set_b = false
same_set set_c set_c = true

unfoldable pub is_symbol_of : Set → Kind → Bool
is_symbol_of k parameter = false
is_symbol_of k (symbol j) = same_set k j
is_symbol_of k syslist = false
is_symbol_of k sysndx = false
is_symbol_of k sysect = false
is_symbol_of k unknown = false

-- 01: "A SET line is named by a declared symbol of its kind."
unfoldable pub is_named_by : Set → List (Lex Kind) → Bool
is_named_by k [] = false
is_named_by k (byte c ∷ x) = false
is_named_by k (mark ∷ x) = false
is_named_by k (ref r ∷ []) = is_symbol_of k r
is_named_by k (ref r ∷ (y ∷ x)) = false
is_named_by k (lone ∷ x) = false

unfoldable pub is_operand_of : ℕ → Set → List (Lex Kind) → Bool
is_operand_of n set_a x = is_got (whole (arithmetic form n x))
is_operand_of n set_b x = is_got (whole (condition form n x))
is_operand_of n set_c x = is_got (whole (string_within form n x))

-- what a line does is well formed, with at most `n` pairs of parentheses open at once
unfoldable pub is_formed_by : {L : Type 0} → ℕ → Line Kind L → Does L → Bool
is_formed_by n l passes = true
is_formed_by n l ends = true
is_formed_by n l exits = true
is_formed_by n l (text s) = true
is_formed_by n l models = is_got (text_within form n l.name) && (is_got (text_within form n l.operation) && is_got (text_within form n l.operand))
is_formed_by n l (sets k) = is_named_by k l.name && is_operand_of n k l.operand
is_formed_by n l (branches_if t) = is_got (whole (condition form n l.operand))
is_formed_by n l (branches t) = true
is_formed_by n l counts = is_got (whole (arithmetic form n l.operand))

unfoldable pub is_formed : {L : Type 0} → ℕ → Line Kind L → Bool
is_formed n l = is_formed_by n l l.does

-- more pairs than the line can have
unfoldable pub any_nesting : {R L : Type 0} → Line R L → ℕ
any_nesting l = length l.name + (length l.operation + length l.operand)
