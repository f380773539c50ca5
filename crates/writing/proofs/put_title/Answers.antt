-- `writing::put_title` meets its contract: the name, the flag, and then the number. Assumes nothing.
use borrow.Author.Rules.{rules}
use native.Mathlib.Omega.{arith}
use mathlib.Core.Path.{◌∙◌}
use lib.ListN.{length-set}
use Rattle.deck.specs.Coding.{two}
use Rattle.writing.proofs.Writes.{counted-length, kept-length, set-kept}
use Rattle.writing.proofs.Coded.{flag-byte, title-length, title-written}
use Rattle.writing.proofs.put_title.Goals as goal

pub bounds-out-end : goal.bounds-out-end
bounds-out-end c =
    let a = c.args in
    let e = c.put_counted-end.ensures in
    omega (arith, e.value, counted-length a.title.now, kept-length _ _ _ _ e.out_after)

pub overflow_add-end : goal.overflow_add-end
overflow_add-end c =
    let a = c.args in
    let e = c.put_counted-end.ensures in
    omega (arith, e.value, counted-length a.title.now)

pub put_two-requires : goal.put_two-requires
put_two-requires c =
    let a = c.args in
    let e = c.put_counted-end.ensures in
    (simp length-set (omega (arith, e.value, counted-length a.title.now, kept-length _ _ _ _ e.out_after)), search rules)

pub overflow_add-result : goal.overflow_add-result
overflow_add-result c =
    let a = c.args in
    let e = c.put_counted-end.ensures in
    omega (arith, e.value, counted-length a.title.now)

pub shape_of-out : goal.shape_of-out
shape_of-out c =
    let p = c.put_counted-end in
    set-kept p.new.out _ p.result c.from.result _ _ c.put_two.ensures ∙ kept-length _ _ _ _ p.ensures.out_after

pub returns : goal.returns
unfolding two
returns c =
    let a = c.args in
    let e = c.put_counted-end.ensures in
    record { value = omega (arith, e.value, title-length a.title.now a.named a.positionals); out_after = title-written _ _ _ _ _ _ _ _ _ e.out_after e.value (c.from.ensures ∙ flag-byte a.named) c.put_two.ensures }
