-- The operands of a call as they are told from its parts in one pass: which parts are keywords, whether all of them may stand so, how many are positional.
-- That these are 01's operands is proofs/Gathered. Assumes nothing.
use Rattle.std.specs.Prelude.{ℕ, suc, Bool, true, ◌&&◌, not, List, [], ◌∷◌, map, take, drop}
use Rattle.std.specs.Prelude.{Option as Found, Some, None}
use Rattle.std.proofs.Math.Option.{Option, none, some}
use Rattle.text.specs.Bytes.{Bytes, same}
use Rattle.rules.specs.Choice.{choose, any, run}
use Rattle.rules.specs.Limits.{name_limit}
use Rattle.rules.specs.Lexemes.{equals, Lex, byte_of, is_name}
use Rattle.rules.specs.Calls.{equals_at, has_equals, Operands}
use Rattle.parts.specs.Parts.{bare_at, parts_of}

module _ {R : Type 0} where
  -- what stands before a part's `=`, and behind it
  unfoldable pub name_of : List (Lex R) → Bytes
  name_of x = map byte_of (take (equals_at x) x)

  unfoldable pub value_of : List (Lex R) → List (Lex R)
  value_of x = drop (suc (equals_at x)) x

  unfoldable pub pair_of : List (Lex R) → Bytes × List (Lex R)
  pair_of x = (name_of x, value_of x)

  -- 01: "Keywords are written plainly. Outside quotes and parentheses `=` only ends a keyword."
  unfoldable pub is_keyword : List (Lex R) → Bool
  is_keyword x = is_name name_limit (name_of x) && not (has_equals (value_of x))

  unfoldable pub named_among : Bytes → List (List (Lex R)) → Bool
  named_among name xs = any (λ x. same (name_of x) name) xs

  -- a part may stand behind others and before these: `k`, a keyword has been met
  unfoldable pub may_stand : Bool → List (Lex R) → List (List (Lex R)) → Bool
  may_stand k x xs = choose (has_equals x) (is_keyword x && not (named_among (name_of x) xs)) (not k)

  -- 01: "Positionals come first". Each part with an `=` is a keyword, none is repeated, and none stands before a positional.
  unfoldable pub are_operands : Bool → List (List (Lex R)) → Bool
  are_operands k [] = true
  are_operands k (x ∷ xs) = may_stand k x xs && are_operands (has_equals x) xs

  -- how many positionals stand first
  unfoldable pub leading : List (List (Lex R)) → ℕ
  leading xs = run (λ x. not (has_equals x)) xs

  unfoldable pub split_at : ℕ → List (List (Lex R)) → Operands (List (Lex R))
  split_at n xs = record { positionals = take n xs; keywords = map pair_of (drop n xs) }

-- ---- by bytes

-- a keyword and its value, as written
unfoldable pub keyword_in : Bytes → Bytes × Bytes
keyword_in p = (take (bare_at equals p) p, drop (suc (bare_at equals p)) p)

-- the operands that a division of an operand stands for: the first so many parts are positional, the others keywords
unfoldable pub operands_in : Bytes → Found ℕ → Option (Operands Bytes)
operands_in s None = none
operands_in s (Some n) = some (record { positionals = take n (parts_of s); keywords = map keyword_in (drop n (parts_of s)) })
