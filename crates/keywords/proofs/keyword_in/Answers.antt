use Rattle.std.proofs.Common.{true, length, drop, arith, ap, sym, ◌∙◌, ◌+◌, ◌-◌}
use lib.ListN.{length-take, length-drop}
use Rattle.declared.specs.Declared.{found}
use Rattle.declared.proofs.Starts.{start_is, start-inside, size-some}
use Rattle.keywords.specs.Keywords.{keyword_found}
use Rattle.keywords.proofs.Parameters.{positional-no-keyword, keyword-none, keyword-one}
use Rattle.keywords.proofs.keyword_in.Goals as goal

pub returns-then-part-end-clause-value : goal.returns-then-part-end-clause-value
returns-then-part-end-clause-value c = positional-no-keyword c.args.part.now _ c.bare_at-end.ensures.value c.if-part-end.true

pub returns : goal.returns
returns c =
    let p = c.args.part.now in
    let end = c.bare_at-end.result in
    let name = sym (ap found c.in_ok-name.was) ∙ c.start_symbol.ensures true in
    let size = size-some p _ (name ∙ start_is true p) in
    record {
      value = keyword-one p end c.bare_at-end.ensures.value c.if-part-end.false _ name;
      within = (omega (arith, size, start-inside p), omega (arith, length-take (length p - (end + 1)) (drop (end + 1) p), length-drop (end + 1) p));
    }

pub returns-in_err-name-clause-value : goal.returns-in_err-name-clause-value
returns-in_err-name-clause-value c =
    ap keyword_found c.from_residual.ensures ∙ keyword-none c.args.part.now _ c.bare_at-end.ensures.value c.if-part-end.false (sym (ap found c.in_err-name.was) ∙ c.start_symbol.ensures true)
