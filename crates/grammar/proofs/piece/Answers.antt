use mathlib.Core.Path.{◌≡◌, ◌∙◌}
use mathlib.Core.Option.{some}
use Prim.Native.Nat.{◌+◌}
use Rattle.rules.specs.Grammar.{got, then, referred, deeper}
use Rattle.rules.specs.Grammar.{piece as piece_by}
use Rattle.rules.specs.Form.{form}
use Rattle.grammar.specs.Tokens.{toks_at}
use Rattle.kinds.specs.declared.Stand.TheVariants.{Text}
use Rattle.kinds.specs.Kinds.{table_of}
use Rattle.grammar.specs.Operands.{past_period}
use Rattle.grammar.proofs.Places.{toks-end, text-lex, other-lex}
use Rattle.grammar.proofs.Answers.{tells_at, tells-broken, then-on, then-off}
use Rattle.grammar.proofs.Texts.{piece-end, piece_byte, piece-mark, piece-lone, piece-ref}
use Rattle.grammar.proofs.piece.Goals as goal

pub returns-then-code-at : goal.returns-then-code-at
returns-then-code-at c = tells-broken _ _ ∙ piece-end _ _ (toks-end _ _ _ c.if-code-at.true)

pub returns-then-code-at-lt128 : goal.returns-then-code-at-lt128
returns-then-code-at-lt128 c = let a = c.args in tells_at _ _ ∙ text-lex a.kinds.now a.code.now (λ x. got tt (toks_at a.kinds.now a.code.now (a.at + 1)) ≡ piece_by form (deeper form a.nest) x) a.at c.if-code-at.false c.if-code-at-lt128.true (λ b. piece_byte (deeper form a.nest) b _) (piece-mark (deeper form a.nest) _)

pub returns-in_err-end : goal.returns-in_err-end
returns-in_err-end c = let a = c.args in then-off (toks_at a.kinds.now a.code.now) past_period c.referred.ensures c.in_err-end.was _ c.from_residual.ensures.1 ∙ other-lex a.kinds.now a.code.now (λ x. then (referred form (deeper form a.nest) (table_of Text) (λ r. some tt) x x) past_period ≡ piece_by form (deeper form a.nest) x) a.at c.if-code-at.false c.if-code-at-lt128.false (λ k. piece-ref (deeper form a.nest) k _) (piece-lone (deeper form a.nest) _)

pub returns : goal.returns
returns c = let a = c.args in tells_at _ _ ∙ c.past_period.ensures a.kinds.now ∙ then-on (toks_at a.kinds.now a.code.now) past_period c.referred.ensures c.in_ok-end.was ∙ other-lex a.kinds.now a.code.now (λ x. then (referred form (deeper form a.nest) (table_of Text) (λ r. some tt) x x) past_period ≡ piece_by form (deeper form a.nest) x) a.at c.if-code-at.false c.if-code-at-lt128.false (λ k. piece-ref (deeper form a.nest) k _) (piece-lone (deeper form a.nest) _)
