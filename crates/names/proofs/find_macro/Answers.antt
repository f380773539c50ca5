-- `find_macro` meets its contract. Outer loop: no row passed holds the name. Inner loop: the row and the name agree so far. Assumes nothing.
use borrow.Author.Rules.{rules}
use Prim.Native.Nat.{◌<◌, ◌/◌}
use native.Mathlib.Nat.{zero-add}
use mathlib.Core.Path.{◌≡◌, sym, ◌∙◌}
use lib.ListN.{length, take}
use Rattle.text.specs.Words.{place_among}
use Rattle.names.specs.Names.{titles_in, padded}
use Rattle.names.proofs.Rows.{from, row-found, row_next, rows-ended}
use Rattle.names.proofs.Titles.{long-name, byte-differs, byte-agrees, whole}
use Rattle.names.proofs.find_macro.Goals as goal

pub returns-then-name-gt8 : goal.returns-then-name-gt8
returns-then-name-gt8 c = long-name c.args.table.now c.args.name.now (search rules)

pub search-init : goal.search-init
unfolding titles_in
search-init c = (search rules, sym (zero-add _))

pub search-preserved : goal.search-preserved
search-preserved c =
    let table = c.args.table.now in
    let name = c.args.name.now in
    let k = c.loop-i.number in
    let h : k < length table / 8 = search rules in
    let none_yet : place_among (titles_in table) (padded name) ≡ from (take 8) table (padded name) k = rw (← c.loop-i.invariant.0) at c.search.invariant.1 in
    let other = byte-differs table name k h (search rules) c.loop-i.i (search rules) (λ e. c.if-table-number.true (e ∙ sym c.padded_byte-b.ensures)) in
    (search rules, none_yet ∙ row_next (take 8) table (padded name) k h (c.loop-i.invariant.2 ∙ other))

pub loop-i-preserved : goal.loop-i-preserved
loop-i-preserved c =
    let table = c.args.table.now in
    let name = c.args.name.now in
    let k = c.loop-i.number in
    let h : k < length table / 8 = search rules in
    (search rules, search rules, c.loop-i.invariant.2 ∙ byte-agrees table name k h (search rules) c.loop-i.i (search rules) (c.if-table-number.false ∙ c.padded_byte-b.ensures))

pub returns-then-number-rows : goal.returns-then-number-rows
returns-then-number-rows c =
    let table = c.args.table.now in
    let name = c.args.name.now in
    sym (c.search.invariant.1 ∙ (rows-ended (take 8) table (padded name) c.search.number (search rules) ∙ search rules))

pub returns-after-loop-i : goal.returns-after-loop-i
returns-after-loop-i c =
    let table = c.args.table.now in
    let name = c.args.name.now in
    let k = c.loop-i.number in
    let h : k < length table / 8 = search rules in
    let none_yet : place_among (titles_in table) (padded name) ≡ from (take 8) table (padded name) k = rw (← c.loop-i.invariant.0) at c.search.invariant.1 in
    sym (none_yet ∙ row-found (take 8) table (padded name) k h (c.loop-i.invariant.2 ∙ whole table name k h (search rules) c.loop-i.i (search rules)))
