-- `keywords::put_keywords` meets its contract: the count and then the keywords. Assumes nothing.
use borrow.Author.Rules.{rules}
use Prim.Native.Nat.{ℕ, ◌+◌}
use native.Mathlib.Omega.{arith}
use mathlib.Core.Path.{◌≡◌, refl, ap, sym, ◌∙◌}
use mathlib.Core.Bool.{true}
use lib.ListN.{length}
use Rattle.rules.specs.Lexemes.{lexed}
use Rattle.rules.specs.Calls.{divided}
use Rattle.rules.specs.Library.{keyword_names}
use Rattle.lent.specs.Splice.{splice}
use Rattle.lent.proofs.Writes.{splice-length}
use Rattle.keywords.specs.Keywords.{keywords_in, keywords_code}
use Rattle.keywords.proofs.Parameters.{keywords-few}
use Rattle.keywords.proofs.Coded.{two_bytes, then-written, counted-code, counted-length}
use Rattle.keywords.proofs.put_keywords.Goals as goal

pub put_two-requires : goal.put_two-requires
put_two-requires c =
    let a = c.args in
    let s = a.operand.now in
    let n = counted-length (keyword_names (divided (lexed true s))) in
    (omega (arith, n), omega (arith, c.keyword_count-count.ensures, keywords-few s))

pub put_parts-requires : goal.put_parts-requires
unfolding keywords_in
put_parts-requires c =
    let a = c.args in
    let n = counted-length (keyword_names (divided (lexed true a.operand.now))) in
    let same = ap length c.put_two.ensures ∙ splice-length a.out.now a.at (two_bytes c.keyword_count-count.result) in
    (search rules, omega (arith, n, same))

pub returns : goal.returns
unfolding keywords_in
returns c =
    let a = c.args in
    let ks = keyword_names (divided (lexed true a.operand.now)) in
    let n = counted-length ks in
    let w = c.put_parts.ensures in
    let counted = c.put_two.ensures ∙ ap (λ (m : ℕ). splice a.out.now a.at (two_bytes m)) c.keyword_count-count.ensures in
    let next : a.at + 2 ≡ a.at + length (two_bytes (length ks)) = refl in
    record { value = omega (arith, n, w.value); out_after = then-written a.out.now a.at (two_bytes (length ks)) (keywords_code ks) counted next w.out_after ∙ ap (splice a.out.now a.at) (sym (counted-code ks)) }
