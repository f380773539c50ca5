-- `spells` meets its contract. The loop's invariant: the row and the operation agree so far, so what is left decides. Assumes nothing.
use Rattle.std.proofs.Common.{rules, arith, ◌≡◌, ◌∙◌, ap, sym, refl, length}
use Rattle.std.specs.Prelude.{eqb, get_or}
use Rattle.text.proofs.Same.{shorter}
use Rattle.words.specs.Trimmed.{trimmed}
use Rattle.words.proofs.Laws.{trimmed-length, blank, differs, agrees, at-end, both_end}
use Rattle.words.proofs.spells.Goals as goal

pub returns-then-op-gt8 : goal.returns-then-op-gt8
returns-then-op-gt8 c = sym (shorter (trimmed c.args.row) c.args.op.now (omega (arith, trimmed-length c.args.row)))

pub loop-i-init : goal.loop-i-init
loop-i-init c = refl

pub returns-then-row-i-eq32 : goal.returns-then-row-i-eq32
returns-then-row-i-eq32 c = sym (c.loop-i.invariant ∙ blank c.args.row c.args.op.now c.loop-i.i (search rules) (search rules) c.if-row-i-eq32.true)

pub returns-then-row-i : goal.returns-then-row-i
returns-then-row-i c = sym (c.loop-i.invariant ∙ differs c.args.row c.args.op.now c.loop-i.i (search rules) (search rules) c.if-row-i-eq32.false c.if-row-i.true)

pub loop-i-preserved : goal.loop-i-preserved
loop-i-preserved c = c.loop-i.invariant ∙ agrees c.args.row c.args.op.now c.loop-i.i (search rules) (search rules) c.if-row-i-eq32.false c.if-row-i.false

pub returns-then-op-eq8 : goal.returns-then-op-eq8
returns-then-op-eq8 c = sym (c.loop-i.invariant ∙ both_end c.args.row c.args.op.now c.loop-i.i (search rules) (search rules))

pub returns : goal.returns
returns c =
    let end : length c.args.op.now ≡ c.loop-i.i = search rules in
    ap (λ n. eqb (get_or c.args.row n 0) 32) end ∙ sym (c.loop-i.invariant ∙ at-end c.args.row c.args.op.now c.loop-i.i (search rules) (search rules))
