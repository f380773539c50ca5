-- `entries_of` meets its contract. Assumes nothing.
use Prim.Native.Nat.{◌+◌, ◌≤◌}
use mathlib.Core.Path.{ap, sym, ◌∙◌}
use lib.ListN.{length}
use Rattle.value_sublists.proofs.Divided.{scan-starts, not_opened, scan-last, scan-not, scan-next, scan-ends, cut-none, cut-some, closed_at}
use borrow.Author.Rules.{rules}
use Rattle.value_sublists.proofs.entries_of.Goals as goal

pub returns-then-byte-ne40 : goal.returns-then-byte-ne40
returns-then-byte-ne40 c = cut-none _ ∙ not_opened _ _ (λ e. c.if-byte-ne40.true (c.byte.ensures ∙ e))

pub loop-i-init : goal.loop-i-init
loop-i-init c = scan-starts _ _ (sym c.byte.ensures ∙ c.if-byte-ne40.false)

pub returns-then-i-s : goal.returns-then-i-s
returns-then-i-s c = cut-none _ ∙ scan-not _ _ _ _ _ c.loop-i.invariant c.loop-i-test.true (sym c.is_edge.ensures ∙ c.if-is_edge.true) c.if-i-s.true

pub past_entry-last-requires : goal.past_entry-last-requires
past_entry-last-requires c = let a = c.loop-i.invariant.begun in let b = c.loop-i.invariant.few in (a, b, search rules)

pub returns-then-is_edge : goal.returns-then-is_edge
returns-then-is_edge c = let end : length c.args.s.now ≤ c.loop-i.i + 1 = search rules in
    cut-some _ c.past_entry-last.result ∙ ap (closed_at c.args.s.now) c.past_entry-last.ensures ∙ scan-last _ _ _ _ _ c.loop-i.invariant c.loop-i-test.true (sym c.is_edge.ensures ∙ c.if-is_edge.true) end

pub past_entry-so_far-requires : goal.past_entry-so_far-requires
past_entry-so_far-requires c = let a = c.loop-i.invariant.begun in let b = c.loop-i.invariant.few in (a, b, search rules)

pub seen_after-seen-requires : goal.seen_after-seen-requires
seen_after-seen-requires c = let a = c.loop-i.invariant.shallow in search rules

pub loop-i-preserved : goal.loop-i-preserved
loop-i-preserved c = scan-next _ _ _ _ _ c.loop-i.invariant c.loop-i-test.true (sym c.is_edge.ensures ∙ c.if-is_edge.false) c.is_edge-divides.ensures c.byte-next.ensures c.seen_after-seen.ensures.0 c.seen_after-seen.ensures.1 c.past_entry-so_far.ensures

pub returns : goal.returns
returns c = let few = c.loop-i.invariant.begun in let end : length c.args.s.now ≤ c.loop-i.i = search rules in cut-none _ ∙ scan-ends _ _ _ _ _ c.loop-i.invariant end
