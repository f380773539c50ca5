-- What is kept stands first, and what is read behind it.
use Rattle.std.proofs.Common.{◌-◌, ◌≤◌, length, arith, ap, ◌∙◌, List, ℕ, ◌++◌, take, drop}
use Rattle.std.proofs.lemmas.Slice.{take-put_mid_below}
use Rattle.translate_batch.proofs.Reading.{grown, kept, left-kept}
use Rattle.translate_batch.proofs.refill.Goals as goal

pub returns-clause-front : goal.returns-clause-front
returns-clause-front g c =
    let n = c.args.place.used - c.args.place.at in
    let now = c.keep.new.buffer in
    take-put_mid_below n (length now - n) now c.read_full.new.buffer n (omega arith) (omega arith)
    ∙ kept c.args.window.now c.args.place.at c.args.place.used (omega arith) (omega arith) c.keep.ensures

pub returns-clause-left : goal.returns-clause-left
returns-clause-left g c =
    let n = c.args.place.used - c.args.place.at in
    let now = c.keep.new.buffer in
    let got = c.read_full.new.buffer in
    let fits : c.in_ok-count.count ≤ length got = c.in_ok-count.ensures.bound in
    left-kept _ _ (drop c.args.place.at (take c.args.place.used c.args.window.now)) (take c.in_ok-count.count got) _
    (grown n c.in_ok-count.count (length now - n) now got (omega arith) fits
    ∙ ap (λ (l : List ℕ). l ++ take c.in_ok-count.count got) (kept c.args.window.now c.args.place.at c.args.place.used (omega arith) (omega arith) c.keep.ensures))
    c.in_ok-count.ensures.bytes
