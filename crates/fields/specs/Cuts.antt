-- Where the fields of a line begin, by place. That these are 01's fields is proofs/Cut.antt. Assumes nothing.
use Rattle.std.specs.Prelude.{ℕ, ◌+◌, ◌-◌, Bool, true, false, take, drop}
use Rattle.text.specs.Bytes.{Bytes}
use Rattle.rules.specs.Choice.{choose, run}
use Rattle.rules.specs.Fields.{Fields, is_space, is_no_space, operand_end, holds_spaces}
use Rattle.fields.specs.declared.Cuts.{Cuts as Places}

-- the end of a run of spaces, or of a run of anything else, from a place on
unfoldable pub in_run : Bool → ℕ → Bool
in_run spaces c = choose spaces (is_space c) (is_no_space c)

unfoldable pub run_end : Bool → Bytes → ℕ → ℕ
run_end spaces l at = at + run (in_run spaces) (drop at l)

unfoldable pub operand_end_at : Bool → Bytes → ℕ → ℕ
operand_end_at holds l at = at + operand_end holds (drop at l)

unfoldable pub cuts_of : Bytes → Places
cuts_of l =
    let g = run_end false l 0 in
    let o = run_end true l g in
    let s = run_end false l o in
    let a = run_end true l s in
    record { gap = g; operation = o; space = s; operand = a; remarks = operand_end_at (holds_spaces (take (s - o) (drop o l))) l a }

-- the fields that the places cut out
unfoldable pub fields_by : Bytes → Places → Fields
fields_by l c = record {
  name = take c.gap l;
  gap = take (c.operation - c.gap) (drop c.gap l);
  operation = take (c.space - c.operation) (drop c.operation l);
  gap₂ = take (c.operand - c.space) (drop c.space l);
  operand = take (c.remarks - c.operand) (drop c.operand l);
  remarks = drop c.remarks l;
}
