-- `statements::symbol_length` meets its contract: the end of the letters and digits behind a period and a letter. Assumes nothing.
use mathlib.Core.Path.{ap, sym, ◌∙◌}
use mathlib.Core.Bool.{◌&&◌}
use Prim.Native.Nat.{◌-◌}
use lib.Dec.{eqb}
use Rattle.text.specs.Characters.{letter}
use Rattle.statements.proofs.Symbols.{start-length, no_start}
use Rattle.statements.proofs.symbol_length.Goals as goal

pub returns-then-period-starts : goal.returns-then-period-starts
returns-then-period-starts c =
    let s = c.args.s.now in
    let starts = c.letter-starts.ensures ∙ ap letter c.byte.ensures in
    ap (λ n. n - 1) c.symbol_end.ensures.value ∙ start-length s (sym (λ i. eqb (c.byte-period.ensures i) 46 && starts i) ∙ c.if-period-starts.true)

pub returns : goal.returns
returns c =
    let s = c.args.s.now in
    let starts = c.letter-starts.ensures ∙ ap letter c.byte.ensures in
    no_start s (sym (λ i. eqb (c.byte-period.ensures i) 46 && starts i) ∙ c.if-period-starts.false)
