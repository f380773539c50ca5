-- What one body line does, once each variable symbol stands for its cell and each branch target for a line's number. No name, no slot and no deck occurs here.
use Rattle.std.specs.Prelude.{ℕ, Bool, List, [], ◌∷◌, leb, length, ℤ, pos, negsuc}
use Rattle.std.proofs.Math.Option.{Option}
use Rattle.text.specs.Bytes.{Bytes}
use Rattle.rules.specs.Choice.{choose}
use Rattle.rules.specs.Limits.{nest_limit, counter_limit, ill_formed, too_long, bad_value}
use Rattle.rules.specs.Lexemes.{Lex, byte, mark, ref, lone}
use Rattle.rules.specs.Statement.{Set, set_a, set_b, set_c, Line, Does, passes, ends, exits, text, models, sets, branches_if, branches, counts}
use Rattle.rules.specs.Grammar.{Got, got, refused, whole, arithmetic, text_within, string_within, condition}
use Rattle.rules.specs.Evaluate.{Value, number, truth, string, Store, Cell, Chars, values}
use Rattle.rules.specs.Calls.{Operands, operands_of, map_operands}

pub data Act : Type 0 where
  next : Act
  leave : Act
  jump : ℕ → Act
  renew : ℕ → Act
  keep : Store → Act
  -- a line that is used as it stands
  use' : Bytes → Act
  -- a model statement after replacement: name, operation, operand, and its operands if it is a call (none where they break the call rules)
  state : Bytes → Bytes → Bytes → Option (Operands Bytes) → Act
  -- a refusal's number, and how much of the field is left from the refused term or operator on
  refuse : ℕ → ℕ → Act

unfoldable pub when_got : {A : Type 0} → Got A Cell → (A → Act) → Act
when_got (got v x) k = k v
when_got (refused e left) k = refuse e left

-- 01: "ACTR's SETA expression must be 0 to 4096"
unfoldable pub renewed : ℕ → ℤ → Act
renewed left (pos n) = choose (leb n counter_limit) (renew n) (refuse bad_value left)
renewed left (negsuc n) = refuse bad_value left

-- a string or condition that was over 255 bytes on its way is refused, once nothing else is
unfoldable pub unless : Bool → ℕ → Act → Act
unless over left act = choose over (refuse too_long left) act

unfoldable pub value_of : Set → List (Lex Cell) → (Value → Act) → Act
value_of set_a x k = when_got (whole (arithmetic values nest_limit x)) λ n. k (number n)
value_of set_b x k = when_got (whole (condition values nest_limit x)) λ b. unless b.over (length x) (k (truth b.holds))
value_of set_c x k = when_got (whole (string_within values nest_limit x)) λ s. unless s.over (length x) (k (string s.bytes))

-- a SET line stores in the symbol that names it
unfoldable pub assigned : List (Lex Cell) → Set → List (Lex Cell) → Act
assigned [] k x = refuse ill_formed 0
assigned (byte c ∷ n) k x = refuse ill_formed 0
assigned (mark ∷ n) k x = refuse ill_formed 0
assigned (ref r ∷ n) k x = value_of k x λ v. keep (r.store v)
assigned (lone ∷ n) k x = refuse ill_formed 0

unfoldable pub replaced : List (Lex Cell) → Got Chars Cell
replaced x = text_within values nest_limit x

-- the value of a call's operand: its text, replaced by itself
unfoldable pub operand_value : List (Lex Cell) → Bytes
operand_value x = elim (replaced x) [ got s y ↦ s.bytes | refused e left ↦ [] ]

-- 01: "parts left to right, operands before operators, giving 8"
unfoldable pub modelled : Line Cell ℕ → Act
modelled l =
    when_got (replaced l.name) λ n. when_got (replaced l.operation) λ o. when_got (replaced l.operand) λ a.
    state n.bytes o.bytes a.bytes (map_operands operand_value (operands_of l.operand))

unfoldable pub decide_by : Line Cell ℕ → Does ℕ → Act
decide_by l passes = next
decide_by l ends = leave
decide_by l exits = leave
decide_by l (text s) = use' s
decide_by l models = modelled l
decide_by l (sets k) = assigned l.name k l.operand
decide_by l (branches_if t) = when_got (whole (condition values nest_limit l.operand)) λ b. unless b.over (length l.operand) (choose b.holds (jump t) next)
decide_by l (branches t) = jump t
decide_by l counts = when_got (whole (arithmetic values nest_limit l.operand)) (renewed (length l.operand))

unfoldable pub decide : Line Cell ℕ → Act
decide l = decide_by l l.does
