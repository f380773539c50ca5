-- `line_at` meets its contract: the part up to the line's end; behind the source's end there are no bytes. Assumes nothing.
use borrow.Author.Rules.{rules}
use Prim.Native.Nat.{◌-◌, ◌≤◌}
use mathlib.Core.Path.{ap}
use lib.ListN.{length, take, drop}
use Rattle.line_reader.proofs.Lines.{no_bytes}
use Rattle.line_reader.proofs.line_at.Goals as goal

pub returns-then-end-src : goal.returns-then-end-src
returns-then-end-src c =
    let b = c.args in
    ap (λ n. take (n - b.at) (drop b.at b.src.now)) c.line_end-end.ensures.value

pub returns : goal.returns
returns c =
    let b = c.args in
    let behind : length b.src.now ≤ b.at = search rules in
    no_bytes b.src.now b.at behind
