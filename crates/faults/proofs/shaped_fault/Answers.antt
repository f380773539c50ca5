-- `faults::shaped_fault` meets its contract: the tests in turn. Assumes nothing.
use Prim.Native.Nat.{ℕ}
use mathlib.Core.Path.{ap, sym, ◌∙◌}
use Rattle.rules.specs.Fields.{lines_of}
use Rattle.checking.specs.Body.{tables_of, formed_code, does_on}
use Rattle.faults.proofs.Shaped.{does-is, bad-is, ill-is, past_is, is-three, is-four, also-four, is-five, also-five, is_none}
use Rattle.faults.proofs.shaped_fault.Goals as goal

pub returns-then-has_bad_name : goal.returns-then-has_bad_name
returns-then-has_bad_name c =
    let a = c.args in
    let t = tables_of a.tables in
    λ l d s. is-three _ _ _ _ (bad-is t l a.statement.word a.statement.name.now a.statement.operand.now a.statement.codes a.statement.code.now d a.shape s (lines_of a.lines.before.now) (lines_of a.lines.from.now)) (sym c.has_bad_name.ensures ∙ c.if-has_bad_name.true)

pub returns-then-not-are_fields_good : goal.returns-then-not-are_fields_good
returns-then-not-are_fields_good c =
    let a = c.args in
    let t = tables_of a.tables in
    λ l d s. is-four _ _ _ _ (bad-is t l a.statement.word a.statement.name.now a.statement.operand.now a.statement.codes a.statement.code.now d a.shape s (lines_of a.lines.before.now) (lines_of a.lines.from.now)) (sym c.has_bad_name.ensures ∙ c.if-has_bad_name.false) _ _ (ill-is t l a.statement.word a.statement.name.now a.statement.operand.now a.statement.codes a.statement.code.now d a.shape s) (sym c.are_fields_good.ensures ∙ c.if-not-are_fields_good.true)

pub returns-then-not-keeps_good : goal.returns-then-not-keeps_good
returns-then-not-keeps_good c =
    let a = c.args in
    let t = tables_of a.tables in
    λ l d s. also-four _ _ _ _ (bad-is t l a.statement.word a.statement.name.now a.statement.operand.now a.statement.codes a.statement.code.now d a.shape s (lines_of a.lines.before.now) (lines_of a.lines.from.now)) (sym c.has_bad_name.ensures ∙ c.if-has_bad_name.false) _ _ (ill-is t l a.statement.word a.statement.name.now a.statement.operand.now a.statement.codes a.statement.code.now d a.shape s) (sym c.are_fields_good.ensures ∙ c.if-not-are_fields_good.false) (sym (c.keeps_good.ensures (does_on l) (does-is t l a.statement.word a.statement.name.now a.statement.operand.now a.statement.codes a.statement.code.now d a.shape s) ∙ ap (λ (n : ℕ). formed_code n a.tables.kinds.now a.statement.code.now a.shape (does_on l)) c.nesting.ensures) ∙ c.if-not-keeps_good.true)

pub returns-then-not-keeps_good-2 : goal.returns-then-not-keeps_good-2
returns-then-not-keeps_good-2 c =
    let a = c.args in
    let t = tables_of a.tables in
    λ l d s. is-five _ _ _ _ (bad-is t l a.statement.word a.statement.name.now a.statement.operand.now a.statement.codes a.statement.code.now d a.shape s (lines_of a.lines.before.now) (lines_of a.lines.from.now)) (sym c.has_bad_name.ensures ∙ c.if-has_bad_name.false) _ _ (ill-is t l a.statement.word a.statement.name.now a.statement.operand.now a.statement.codes a.statement.code.now d a.shape s) (sym c.are_fields_good.ensures ∙ c.if-not-are_fields_good.false) (sym (c.keeps_good.ensures (does_on l) (does-is t l a.statement.word a.statement.name.now a.statement.operand.now a.statement.codes a.statement.code.now d a.shape s) ∙ ap (λ (n : ℕ). formed_code n a.tables.kinds.now a.statement.code.now a.shape (does_on l)) c.nesting.ensures) ∙ c.if-not-keeps_good.false) _ _ (past_is t l a.statement.word a.statement.name.now a.statement.operand.now a.statement.codes a.statement.code.now d a.shape s a.locals) (sym (c.keeps_good-2.ensures (does_on l) (does-is t l a.statement.word a.statement.name.now a.statement.operand.now a.statement.codes a.statement.code.now d a.shape s)) ∙ c.if-not-keeps_good-2.true)

pub declares_too_many-requires : goal.declares_too_many-requires
declares_too_many-requires c = let p = c.requires in (p.1.1.0, p.1.1.1.0)

pub returns-then-declares_too_many : goal.returns-then-declares_too_many
returns-then-declares_too_many c =
    let a = c.args in
    let t = tables_of a.tables in
    λ l d s. also-five _ _ _ _ (bad-is t l a.statement.word a.statement.name.now a.statement.operand.now a.statement.codes a.statement.code.now d a.shape s (lines_of a.lines.before.now) (lines_of a.lines.from.now)) (sym c.has_bad_name.ensures ∙ c.if-has_bad_name.false) _ _ (ill-is t l a.statement.word a.statement.name.now a.statement.operand.now a.statement.codes a.statement.code.now d a.shape s) (sym c.are_fields_good.ensures ∙ c.if-not-are_fields_good.false) (sym (c.keeps_good.ensures (does_on l) (does-is t l a.statement.word a.statement.name.now a.statement.operand.now a.statement.codes a.statement.code.now d a.shape s) ∙ ap (λ (n : ℕ). formed_code n a.tables.kinds.now a.statement.code.now a.shape (does_on l)) c.nesting.ensures) ∙ c.if-not-keeps_good.false) _ _ (past_is t l a.statement.word a.statement.name.now a.statement.operand.now a.statement.codes a.statement.code.now d a.shape s a.locals) (sym (c.keeps_good-2.ensures (does_on l) (does-is t l a.statement.word a.statement.name.now a.statement.operand.now a.statement.codes a.statement.code.now d a.shape s)) ∙ c.if-not-keeps_good-2.false) (sym (c.declares_too_many.ensures _ _ _) ∙ c.if-declares_too_many.true)

pub returns : goal.returns
returns c =
    let a = c.args in
    let t = tables_of a.tables in
    λ l d s. is_none _ _ _ _ (bad-is t l a.statement.word a.statement.name.now a.statement.operand.now a.statement.codes a.statement.code.now d a.shape s (lines_of a.lines.before.now) (lines_of a.lines.from.now)) (sym c.has_bad_name.ensures ∙ c.if-has_bad_name.false) _ _ (ill-is t l a.statement.word a.statement.name.now a.statement.operand.now a.statement.codes a.statement.code.now d a.shape s) (sym c.are_fields_good.ensures ∙ c.if-not-are_fields_good.false) (sym (c.keeps_good.ensures (does_on l) (does-is t l a.statement.word a.statement.name.now a.statement.operand.now a.statement.codes a.statement.code.now d a.shape s) ∙ ap (λ (n : ℕ). formed_code n a.tables.kinds.now a.statement.code.now a.shape (does_on l)) c.nesting.ensures) ∙ c.if-not-keeps_good.false) _ _ (past_is t l a.statement.word a.statement.name.now a.statement.operand.now a.statement.codes a.statement.code.now d a.shape s a.locals) (sym (c.keeps_good-2.ensures (does_on l) (does-is t l a.statement.word a.statement.name.now a.statement.operand.now a.statement.codes a.statement.code.now d a.shape s)) ∙ c.if-not-keeps_good-2.false) (sym (c.declares_too_many.ensures _ _ _) ∙ c.if-declares_too_many.false)
