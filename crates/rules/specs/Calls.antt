-- Document 01, "Expanding": the operands of a call, and the layout of a line.
use Rattle.std.specs.Prelude.{ℕ, suc, ◌-◌, Bool, false, ◌&&◌, ◌||◌, not, List, [], ◌∷◌, ◌++◌, map, eqb, ltb, length, take, drop, replicate}
use Rattle.std.proofs.Math.Option.{Option, none, some}
use Rattle.text.specs.Bytes.{Bytes, same}
use Rattle.rules.specs.Choice.{choose, passed, on_first}
use Rattle.rules.specs.Limits.{name_limit}
use Rattle.rules.specs.Lexemes.{space, closing, comma, equals, Lex, byte_of, Inside, outside, enters, is_bare, is_name}
use Rattle.rules.specs.Fields.{is_empty}

module _ {R : Type 0} where
  -- 01: "Quotes and parentheses pair as written"
  unfoldable pub pair_up : Inside → List (Lex R) → Bool
  pair_up i [] = not i.quoted && eqb i.depth 0
  pair_up i (x ∷ s) = not (is_bare closing i x) && pair_up (enters i x) s

  -- 01: "Call operands divide at written commas, before replacement; a comma from a value divides nothing."
  unfoldable pub parts : Inside → List (Lex R) → List (List (Lex R))
  parts i [] = [] ∷ []
  parts i (x ∷ s) = choose (is_bare comma i x) ([] ∷ parts i s) (on_first x (parts (enters i x) s))

  -- "An empty field has none."
  unfoldable pub divided : List (Lex R) → List (List (Lex R))
  divided [] = []
  divided (x ∷ s) = parts outside (x ∷ s)

  -- where an operand's first `=` outside quotes and parentheses stands; its length where there is none
  unfoldable pub equals_at : List (Lex R) → ℕ
  equals_at x = passed (is_bare equals) enters outside x

  unfoldable pub has_equals : List (Lex R) → Bool
  has_equals x = ltb (equals_at x) (length x)

-- an operand: positional, a keyword with its value, or ill-formed
pub data Operand (R : Type 0) : Type 0 where
  positional : List (Lex R) → Operand R
  keyword : Bytes → List (Lex R) → Operand R
  wrong : Operand R

-- the operands of a call, as they were written (X = List (Lex R)) or as values (X = Bytes)
pub record Operands (X : Type 0) : Type 0 where
  pub positionals : List X
  pub keywords : List (Bytes × X)

module _ {R : Type 0} where
  -- 01: "Keywords are written plainly. Outside quotes and parentheses `=` only ends a keyword."
  unfoldable pub keyword_of : Bytes → List (Lex R) → Operand R
  keyword_of name value = choose (is_name name_limit name && not (has_equals value)) (keyword name value) wrong

  unfoldable pub operand_of : List (Lex R) → Operand R
  operand_of x = choose (has_equals x) (keyword_of (map byte_of (take (equals_at x) x)) (drop (suc (equals_at x)) x)) (positional x)

unfoldable pub is_among : {X : Type 0} → Bytes → List (Bytes × X) → Bool
is_among name [] = false
is_among name (k ∷ ks) = same k.0 name || is_among name ks

-- 01: "Positionals come first; extra ones are legal." A repeated keyword is refused.
unfoldable pub add_operand : {X : Type 0} → Option (Operands X) → X → Option (Operands X)
add_operand none v = none
add_operand (some os) v = some (record { positionals = v ∷ os.positionals; keywords = os.keywords })

unfoldable pub add_keyword : {X : Type 0} → Option (Operands X) → Bytes → X → Option (Operands X)
add_keyword none k v = none
add_keyword (some os) k v =
    choose (is_empty os.positionals && not (is_among k os.keywords)) (some (record { positionals = []; keywords = (k, v) ∷ os.keywords })) none

unfoldable pub gathered : {R : Type 0} → List (List (Lex R)) → Option (Operands (List (Lex R)))
gathered [] = some (record { positionals = []; keywords = [] })
gathered (x ∷ xs) = elim (operand_of x) [ positional v ↦ add_operand (gathered xs) v | keyword k v ↦ add_keyword (gathered xs) k v | wrong ↦ none ]

-- the operands of a call's operand field; none where they break the call rules (6)
unfoldable pub operands_of : {R : Type 0} → List (Lex R) → Option (Operands (List (Lex R)))
operands_of x = choose (pair_up outside x) (gathered (divided x)) none

unfoldable pub map_keywords : {X Y : Type 0} → (X → Y) → List (Bytes × X) → List (Bytes × Y)
map_keywords f [] = []
map_keywords f (k ∷ ks) = (k.0, f k.1) ∷ map_keywords f ks

unfoldable pub map_operands : {X Y : Type 0} → (X → Y) → Option (Operands X) → Option (Operands Y)
map_operands f none = none
map_operands f (some os) = some (record { positionals = map f os.positionals; keywords = map_keywords f os.keywords })

-- 01: "name at 1, operation at 10, operand at 16, at least one space between, no trailing spaces"
unfoldable pub put_at : ℕ → Bytes → Bytes → Bytes
put_at before line field = line ++ (replicate (choose (ltb (length line) before) (before - length line) 1) space ++ field)

unfoldable pub laid_out : Bytes → Bytes → Bytes → Bytes
laid_out name operation operand =
    let l = put_at 9 name operation in
    choose (is_empty operand) l (put_at 15 l operand)

unfoldable pub trimmed : Bytes → Bytes
trimmed [] = []
trimmed (c ∷ s) = elim (trimmed s) [ [] ↦ choose (eqb c space) [] (c ∷ []) | d ∷ t ↦ c ∷ (d ∷ t) ]
