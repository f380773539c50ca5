-- Where a part is cut at its first bare `=`, for any way to tell its lexemes. Assumes nothing.
use Rattle.std.specs.Prelude.{ℕ, ◌≡◌, ◌+◌, ◌<◌, ◌≤◌, Bool, true, false, not, List, ltb, length, take, drop}
use Rattle.text.specs.Bytes.{Bytes, same}
use Rattle.rules.specs.Limits.{name_limit}
use Rattle.rules.specs.Lexemes.{Lex, is_name}
use Rattle.rules.specs.Calls.{has_equals}
use Rattle.call_operands.specs.Calling.{name_of, named_among, may_stand}

-- a place that is the part's end, or else stands between a name and a value: what the lexemes say of the part is told by the bytes before it and behind it
pub record IsCut {R : Type 0} (lexemes : Bytes → List (Lex R)) (p : Bytes) (end : ℕ) : Type 0 where
  pub inside : end ≤ length p
  pub has : has_equals (lexemes p) ≡ ltb end (length p)
  pub named : (n : Bytes) → is_name name_limit n ≡ true → same (take end p) n ≡ same (name_of (lexemes p)) n
  pub plain : (k : Bool) (xs : List (List (Lex R))) → end ≡ length p → not k ≡ may_stand k (lexemes p) xs
  pub unnamed : (k : Bool) (xs : List (List (Lex R))) → end < length p → is_name name_limit (take end p) ≡ false → may_stand k (lexemes p) xs ≡ false
  pub again : (k : Bool) (xs : List (List (Lex R))) → end < length p → is_name name_limit (take end p) ≡ true → has_equals (lexemes (drop (end + 1) p)) ≡ true → may_stand k (lexemes p) xs ≡ false
  pub single : (k : Bool) (xs : List (List (Lex R))) → end < length p → is_name name_limit (take end p) ≡ true → has_equals (lexemes (drop (end + 1) p)) ≡ false
      → may_stand k (lexemes p) xs ≡ not (named_among (take end p) xs)
