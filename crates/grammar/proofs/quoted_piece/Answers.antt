use mathlib.Core.Path.{◌∙◌, sym}
use native.Mathlib.Omega.{arith}
use Rattle.rules.specs.Grammar.{deeper}
use Rattle.rules.specs.Form.{form}
use Rattle.grammar.proofs.Quotes.{doubled-inside, quoted-two, quoted-one}
use Rattle.grammar.proofs.quoted_piece.Goals as goal

pub overflow_add-result : goal.overflow_add-result
overflow_add-result c = let a = c.args in let inside = doubled-inside a.kinds.now a.code.now (deeper form a.nest) _ (sym (c.doubled.ensures a.kinds.now (deeper form a.nest)) ∙ c.if-doubled.true) in omega arith

pub returns-then-doubled : goal.returns-then-doubled
returns-then-doubled c = let a = c.args in quoted-two a.kinds.now a.code.now (deeper form a.nest) a.at (c.doubled.ensures a.kinds.now (deeper form a.nest)) c.if-doubled.true

pub returns : goal.returns
returns c = let a = c.args in c.piece.ensures ∙ quoted-one a.kinds.now a.code.now (deeper form a.nest) a.at (c.doubled.ensures a.kinds.now (deeper form a.nest)) c.if-doubled.false
