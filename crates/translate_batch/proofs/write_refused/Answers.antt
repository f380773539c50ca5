-- What is written lies in the buffer, and is the answer's text.
use Rattle.std.proofs.Common.{List, ℕ, arith, sym, subst, length-take-le, OnOk}
use Rattle.std.specs.Io.KnownBytes.{Appends}
use Rattle.answers.proofs.Writing.{refused-fits}
use Rattle.translate_batch.proofs.Telling.{read-back}
use Rattle.translate_batch.proofs.write_refused.Goals as goal

pub slice_bounds-text-end : goal.slice_bounds-text-end
slice_bounds-text-end g c =
    refused-fits _ (omega arith) _ _ c.put_refused-count.ensures.out_after c.put_refused-count.ensures.value

pub slice_bounds-write_all-end : goal.slice_bounds-write_all-end
slice_bounds-write_all-end g c =
    sym (length-take-le _ _ (refused-fits _ (omega arith) _ _ c.put_refused-count.ensures.out_after c.put_refused-count.ensures.value))

pub returns : goal.returns
returns g c =
    let put = c.put_refused-count in
    let fits = refused-fits _ (omega arith) _ _ put.ensures.out_after put.ensures.value in
    subst (λ (s : List ℕ). OnOk c.write_all.result (Appends (g.W.Write.contents c.args.output.now) (g.W.Write.contents c.write_all.new.self) s))
    (read-back _ _ put.ensures.out_after put.ensures.value fits)
    c.write_all.ensures.bytes
