-- `next` gives the symbol of the first part that starts with one. Assumes nothing.
use Rattle.std.proofs.Common.{true, map, length, arith, ap, sym, ◌∙◌}
use Rattle.rules.specs.Lexemes.{lexed}
use Rattle.rules.specs.Library.{start_symbols}
use Rattle.declared.specs.Declared.{found}
use Rattle.operands.proofs.Rest.{starts-on, starts-with}
use Rattle.operands.proofs.SymbolsIterator.next.Goals as goal

pub returns-in-Some-start_symbol-clause-steps : goal.returns-in-Some-start_symbol-clause-steps
returns-in-Some-start_symbol-clause-steps c =
    c.loop-part.invariant
    ∙ (ap (λ ps. start_symbols (map (lexed true) ps)) c.in-Some.ensures.steps
    ∙ starts-with _ _ _ (sym (ap found c.in-Some-start_symbol.is) ∙ c.start_symbol.ensures true))

pub returns-in-Some-start_symbol-clause-goes : goal.returns-in-Some-start_symbol-clause-goes
returns-in-Some-start_symbol-clause-goes c =
    let first =
    c.loop-part.invariant
    ∙ (ap (λ ps. start_symbols (map (lexed true) ps)) c.in-Some.ensures.steps
    ∙ starts-with _ _ _ (sym (ap found c.in-Some-start_symbol.is) ∙ c.start_symbol.ensures true)) in
    record { on = λ _. (tt, tt, omega (arith, ap length first)); keeps = tt; rests = λ _. tt }

pub loop-part-preserved : goal.loop-part-preserved
loop-part-preserved c =
    c.loop-part.invariant
    ∙ (ap (λ ps. start_symbols (map (lexed true) ps)) c.in-Some.ensures.steps
    ∙ starts-on _ _ (sym (ap found c.in_default-start_symbol.is) ∙ c.start_symbol.ensures true))

pub returns-clause-steps : goal.returns-clause-steps
unfolding start_symbols
returns-clause-steps c =
    let none = ap (λ ps. start_symbols (map (lexed true) ps)) c.in_default.ensures.steps.0 in
    (c.loop-part.invariant ∙ none, ap (λ ps. start_symbols (map (lexed true) ps)) c.in_default.ensures.steps.1)
