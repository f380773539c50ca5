-- `batch::keep` meets its contract: the front holds the bytes that were read so far. Assumes nothing.
use borrow.Author.Rules.{rules}
use Prim.Native.Nat.{ℕ, ◌+◌, ◌-◌, ◌<◌}
use native.Mathlib.Omega.{arith}
use mathlib.Core.Path.{◌≡◌, refl, ap, ◌∙◌}
use lib.ListN.{length, take, drop, length-set}
use Rattle.lent.specs.Splice.{splice}
use Rattle.batch.proofs.Keeping.{keep-on, keep-starts}
use Rattle.batch.proofs.keep.Goals as goal

pub loop-i-init : goal.loop-i-init
loop-i-init c = let a = c.args in (refl, keep-starts a.buffer.now a.from)

pub loop-i-preserved : goal.loop-i-preserved
loop-i-preserved c =
    let a = c.args in
    let here : a.from + c.loop-i.i < length a.buffer.now = search rules in
    (simp length-set c.loop-i.invariant.0, keep-on a.buffer.now a.from c.loop-i.i c.loop-i.buffer c.loop-i.invariant.1 here)

pub returns : goal.returns
returns c =
    let a = c.args in
    let all : c.loop-i.i ≡ a.end - a.from = search rules in
    c.loop-i.invariant.1 ∙ ap (λ (k : ℕ). splice a.buffer.now 0 (take k (drop a.from a.buffer.now))) all
