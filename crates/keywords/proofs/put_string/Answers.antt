use Prim.Native.Nat.{◌+◌}
use mathlib.Core.Path.{◌≡◌, refl, ap, sym, ◌∙◌}
use lib.ListN.{length}
use Rattle.lent.specs.Splice.{splice}
use Rattle.keywords.proofs.Coded.{two_bytes, then-written, string-code}
use Rattle.keywords.proofs.put_string.Goals as goal

pub returns : goal.returns
returns c =
    let a = c.args in
    let s = a.s.now in
    let n : a.at + 2 ≡ a.at + length (two_bytes (length s)) = refl in
    record { value = refl; out_after = then-written a.out.now a.at (two_bytes (length s)) s c.put_two.ensures n c.copy.ensures ∙ ap (splice a.out.now a.at) (sym (string-code s)) }
