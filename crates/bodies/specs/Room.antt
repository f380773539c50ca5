-- What writing a body's lines needs: lines of the alphabet, buffers that hold them, counts of two bytes. Assumes nothing.
use Rattle.std.specs.Prelude.{ℕ, ◌+◌, ◌≤◌, ◌<◌, ◌≡◌, true, false, length}
use Rattle.text.specs.Bytes.{Bytes}
use Rattle.text.specs.Characters.{in_set}
use Rattle.rules.specs.Choice.{every, any}
use Rattle.rules.specs.Limits.{line_limit}
use Rattle.rules.specs.Fields.{lines_of, is_ill_written}
use Rattle.shapes.specs.declared.Shape.{Shape}
use Rattle.bodies.specs.Lines.{kept_bytes}

-- the shape is one over these codes, every count has two bytes, and the line's bytes have room
pub record Kept (line body : Bytes) (k : Shape) (s out : Bytes) (at : ℕ) : Type 0 where
  pub name-in : k.name ≤ length s
  pub operation-in : (k.operation ≤ k.gap) × (k.gap ≤ length s)
  pub operand_in : (k.operand ≤ k.rest) × ((k.rest ≤ k.end) × (k.end ≤ length s))
  pub codes-count : length s < 65536
  pub line-counts : length line < 65536
  pub lines-count : length (lines_of body) < 65536
  pub room : at + length (kept_bytes body line k s) ≤ length out

-- a line as translation takes it, in a body whose lines are counted in two bytes, and a buffer for the codes of its fields
pub record Ready (line body code : Bytes) : Type 0 where
  pub in-set : every in_set line ≡ true
  pub short : length line ≤ line_limit
  pub fits : line_limit ≤ length code
  pub lines-count : length (lines_of body) < 65536

-- a line's three fields, and a buffer for their codes
pub record Held (line body name operation operand code : Bytes) : Type 0 where
  pub name-in : every in_set name ≡ true
  pub operation-in : every in_set operation ≡ true
  pub operand_in : every in_set operand ≡ true
  pub total : length name + (length operation + length operand) ≤ length line
  pub short : length line ≤ line_limit
  pub fits : line_limit ≤ length code
  pub lines-count : length (lines_of body) < 65536

-- a body whose lines are all as translation takes them
pub record AllReady (body code : Bytes) : Type 0 where
  pub written : any is_ill_written (lines_of body) ≡ false
  pub fits : line_limit ≤ length code
  pub lines-count : length (lines_of body) < 65536
