-- `place` meets its contract. The loop's invariant: none of the rows passed holds the name. Assumes nothing.
use borrow.Author.Rules.{rules}
use Prim.Native.Nat.{◌/◌, ◌<◌}
use native.Mathlib.Nat.{zero-add}
use native.Mathlib.Omega.{arith}
use mathlib.Core.Path.{◌≡◌, ap, sym, ◌∙◌}
use lib.ListN.{length}
use Rattle.text.specs.Bytes.{same}
use Rattle.names.specs.Names.{name_in, names_in}
use Rattle.names.proofs.Rows.{row-found, row_next, rows-ended, row_fits}
use Rattle.names.proofs.place.Goals as goal

pub loop-k-init : goal.loop-k-init
unfolding names_in
loop-k-init c = sym (zero-add _)

pub name_at-row-requires : goal.name_at-row-requires
name_at-row-requires c = row_fits c.args.table.now c.loop-k.k (search rules)

pub returns-then-equal : goal.returns-then-equal
returns-then-equal c =
    let table = c.args.table.now in
    let name = c.args.name.now in
    let h : c.loop-k.k < length table / 8 = search rules in
    sym (c.loop-k.invariant ∙ row-found name_in table name c.loop-k.k h (sym (ap (λ m. same m name) c.name_at-row.ensures) ∙ (sym c.equal.ensures ∙ c.if-equal.true)))

pub loop-k-preserved : goal.loop-k-preserved
loop-k-preserved c =
    let table = c.args.table.now in
    let name = c.args.name.now in
    let h : c.loop-k.k < length table / 8 = search rules in
    c.loop-k.invariant ∙ row_next name_in table name c.loop-k.k h (sym (ap (λ m. same m name) c.name_at-row.ensures) ∙ (sym c.equal.ensures ∙ c.if-equal.false))

pub returns : goal.returns
returns c =
    let table = c.args.table.now in
    let name = c.args.name.now in
    let end : length table / 8 ≡ c.loop-k.k = omega (arith, c.loop-k-test.false, c.loop-k.auto.k-end) in
    end ∙ sym (c.loop-k.invariant ∙ rows-ended name_in table name c.loop-k.k c.loop-k-test.false)
