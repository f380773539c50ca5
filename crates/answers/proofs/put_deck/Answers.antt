-- `answers::put_deck` meets its contract: its parts stand one behind another. Assumes nothing.
use borrow.Author.Rules.{rules}
use Prim.Native.Nat.{◌≤◌}
use native.Mathlib.Omega.{arith}
use mathlib.Core.Path.{◌≡◌, ◌∙◌}
use lib.ListN.{length, length-set}
use Rattle.answers.proofs.Writing.{as_long, spaced-short, deck-written}
use Rattle.answers.proofs.put_deck.Goals as goal

pub bounds-out-end : goal.bounds-out-end
bounds-out-end c =
    let out = c.args.out.now in
    let n = c.args.count in
    let o = c.copy.ensures in
    let p = c.put_spaced-end.ensures in
    let long : length c.put_spaced-end.new.out ≡ length out = as_long _ _ _ p.out_after ∙ as_long _ _ _ o in
    let short = spaced-short n in
    let room : 64 ≤ length out = search rules in
    let end = p.value in
    omega (arith, long, short, room, end)

pub overflow_add-result : goal.overflow_add-result
overflow_add-result c =
    let out = c.args.out.now in
    let n = c.args.count in
    let o = c.copy.ensures in
    let p = c.put_spaced-end.ensures in
    let long : length c.put_spaced-end.new.out ≡ length out = as_long _ _ _ p.out_after ∙ as_long _ _ _ o in
    let short = spaced-short n in
    let room : 64 ≤ length out = search rules in
    let end = p.value in
    omega (arith, short, end)

pub shape_of-out : goal.shape_of-out
shape_of-out c = length-set c.put_spaced-end.new.out c.put_spaced-end.result 10 ∙ (as_long _ _ _ c.put_spaced-end.ensures.out_after ∙ as_long _ _ _ c.copy.ensures)

pub returns : goal.returns
returns c = let whole = deck-written _ _ _ c.copy.ensures c.put_spaced-end.ensures.out_after c.put_spaced-end.ensures.value in record { out_after = whole.0; value = whole.1 }
