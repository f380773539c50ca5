use Rattle.std.proofs.Common.{arith}
use Rattle.declared.proofs.Starts.{end-inside, named-found, none-found}
use Rattle.declared.proofs.start_symbol.Goals as goal

pub slice_bounds-result-end : goal.slice_bounds-result-end
slice_bounds-result-end c =
    let inside = end-inside c.args.s.now c.byte-first.ensures c.byte-second.ensures c.letter.ensures c.if-first-letter.true _ c.symbol_end-end.ensures.value in
    omega (arith, inside.0, inside.1)

pub returns-then-first-letter : goal.returns-then-first-letter
returns-then-first-letter c =
    named-found c.args.s.now c.byte-first.ensures c.byte-second.ensures c.letter.ensures c.if-first-letter.true _ c.symbol_end-end.ensures.value

pub returns : goal.returns
returns c = none-found c.args.s.now c.byte-first.ensures c.byte-second.ensures c.letter.ensures c.if-first-letter.false
