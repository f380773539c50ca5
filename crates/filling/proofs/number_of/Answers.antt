use mathlib.Core.Path.{sym, ap}
use Rattle.rules.specs.Grammar.{symbol}
use Rattle.grammar.specs.Kinds.{number_of}
use Rattle.kinds.specs.Kinds.{set_of}
use Rattle.filling.proofs.number_of.Goals as goal

pub returns-in-A : goal.returns-in-A
unfolding number_of
returns-in-A c = sym (ap (λ k. number_of (symbol (set_of k))) c.in-A.is)

pub returns-in-B : goal.returns-in-B
unfolding number_of
returns-in-B c = sym (ap (λ k. number_of (symbol (set_of k))) c.in-B.is)

pub returns-in-C : goal.returns-in-C
unfolding number_of
returns-in-C c = sym (ap (λ k. number_of (symbol (set_of k))) c.in-C.is)
