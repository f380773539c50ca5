use native.Mathlib.Omega.{arith}
use mathlib.Core.Path.{ap, sym, ◌∙◌}
use mathlib.Core.Bool.{true}
use Rattle.declared.specs.Declared.{found}
use Rattle.declared.proofs.Starts.{start_is, size_none, size-some, pair-length, other_length, piece-within}
use Rattle.declared.proofs.piece_length.Goals as goal

pub returns-then-s-second : goal.returns-then-s-second
returns-then-s-second c =
    let e = pair-length c.args.s.now c.byte-second.ensures c.if-s-second.true in
    let within = piece-within c.args.s.now c.requires in
    record { value = e; within = (omega arith, omega (arith, e, within.1)) }

pub returns-in-Some : goal.returns-in-Some
returns-in-Some c =
    let s = c.args.s.now in
    let size = size-some s _ (sym (ap found c.in-Some.is) ∙ (c.start_symbol.ensures true ∙ start_is true s)) in
    let e = other_length s c.byte-second.ensures c.if-s-second.false _ size in
    record { value = e; within = (omega arith, omega (arith, e, (piece-within s c.requires).1)) }

pub returns-in-None : goal.returns-in-None
returns-in-None c =
    let s = c.args.s.now in
    let size = size_none s (sym (ap found c.in-None.is) ∙ (c.start_symbol.ensures true ∙ start_is true s)) in
    let e = other_length s c.byte-second.ensures c.if-s-second.false 0 (sym size) in
    record { value = e; within = (omega arith, omega (arith, (piece-within s c.requires).1)) }
