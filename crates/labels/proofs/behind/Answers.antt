use Rattle.std.proofs.Common.{◌≡◌, length, sym, ap, refl, ◌∙◌, arith, false}
use Rattle.line_reader.specs.Reading.{has_line}
use Rattle.labels.specs.Searches.{is_operation, behind}
use Rattle.labels.proofs.Turns.{reader-source, reader-within, reader-found, reader-next, reader-stays, reader-none}
use Rattle.labels.proofs.behind.Goals as goal

pub loop-line-init : goal.loop-line-init
loop-line-init c = record { source = refl; within = (omega arith, omega arith); same = refl }

pub loop-line-smaller : goal.loop-line-smaller
loop-line-smaller c =
    let w = reader-within c.args.word.now _ _ _ _ c.in-Some.ensures.line c.next_line.ensures.reader c.operation_of.ensures in
    let n = ap length c.loop-line.invariant.source in
    omega (arith, w.0, w.1, n)

pub loop-line-preserved : goal.loop-line-preserved
loop-line-preserved c =
    let word = c.args.word.now in
    let i = c.loop-line.invariant in
    let h = c.in-Some.ensures.line in
    let w = reader-within word _ _ _ _ h c.next_line.ensures.reader c.operation_of.ensures in
    let n = ap length i.source in
    let next = reader-next word _ _ _ _ h c.next_line.ensures.reader c.operation_of.ensures (sym c.equal.ensures ∙ c.if-equal.false) in
    record {
      source = reader-source word _ _ _ _ h c.next_line.ensures.reader c.operation_of.ensures ∙ i.source;
      within = (omega (arith, w.0, i.within.0), omega (arith, w.1, n, i.within.0));
      same = i.same ∙ (λ j. behind (is_operation word) (sym i.source j) c.loop-line.reader.at) ∙ (next ∙ (λ j. behind (is_operation word) (i.source j) c.next_line.new.self.at));
    }

pub returns-then-equal-clause-value : goal.returns-then-equal-clause-value
returns-then-equal-clause-value c =
    let word = c.args.word.now in
    let i = c.loop-line.invariant in
    let found = reader-found word _ _ _ _ c.in-Some.ensures.line c.next_line.ensures.reader c.operation_of.ensures (sym c.equal.ensures ∙ c.if-equal.true) in
    found ∙ ((λ j. behind (is_operation word) (i.source j) c.loop-line.reader.at) ∙ sym i.same)

pub returns-then-equal-clause-lower_bound : goal.returns-then-equal-clause-lower_bound
returns-then-equal-clause-lower_bound c =
    let w = reader-within c.args.word.now _ _ _ _ c.in-Some.ensures.line c.next_line.ensures.reader c.operation_of.ensures in
    let i = c.loop-line.invariant in
    let n = ap length i.source in
    (omega (arith, w.0, i.within.0), omega (arith, w.1, n, i.within.0))

pub returns-in_default-clause-value : goal.returns-in_default-clause-value
returns-in_default-clause-value c =
    let none : has_line c.loop-line.reader ≡ false = c.in_default.ensures.line in
    let word = c.args.word.now in
    let i = c.loop-line.invariant in
    reader-none _ _ none c.next_line.ensures.reader (is_operation word) ∙ ((λ j. behind (is_operation word) (i.source j) c.loop-line.reader.at) ∙ sym i.same)

pub returns-in_default-clause-lower_bound : goal.returns-in_default-clause-lower_bound
returns-in_default-clause-lower_bound c =
    let none : has_line c.loop-line.reader ≡ false = c.in_default.ensures.line in
    let e = reader-stays _ _ none c.next_line.ensures.reader in
    let w = c.loop-line.invariant.within in
    (omega (arith, e, w.0), omega (arith, e, w.1))
