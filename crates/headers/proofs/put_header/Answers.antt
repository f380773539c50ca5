-- `headers::put_header` meets its contract: the title, and then the keywords. Assumes nothing.
use native.Mathlib.Omega.{arith}
use mathlib.Core.Path.{ap, ◌∙◌}
use mathlib.Core.Bool.{false, not}
use Rattle.rules.specs.Fields.{is_empty}
use Rattle.writing.proofs.Writes.{kept-length}
use Rattle.headers.proofs.Headers.{Told, is-named, title-short, operand_short, count-short, front_length, head-length, head-written}
use Rattle.headers.proofs.put_header.Goals as goal

pub put_title-end-requires : goal.put_title-end-requires
put_title-end-requires c =
    let a = c.args in
    let told : Told a.prototype.now _ _ _ _ _ = record { title-is = c.operation_of-title.ensures; name-is = c.name_field-name.ensures; operand-is = c.operand_field-operand.ensures; symbol_is = c.is_some-named.ensures ∙ (is-named c.start_symbol.result ∙ ap (λ ns. not (is_empty ns)) (c.start_symbol.ensures false)); count-is = c.positional_count-count.ensures } in
    (omega (arith, front_length told, head-length told), (omega (arith, title-short told), omega (arith, count-short told)))

pub put_keywords-requires : goal.put_keywords-requires
put_keywords-requires c =
    let a = c.args in
    let told : Told a.prototype.now _ _ _ _ _ = record { title-is = c.operation_of-title.ensures; name-is = c.name_field-name.ensures; operand-is = c.operand_field-operand.ensures; symbol_is = c.is_some-named.ensures ∙ (is-named c.start_symbol.result ∙ ap (λ ns. not (is_empty ns)) (c.start_symbol.ensures false)); count-is = c.positional_count-count.ensures } in
    let w = c.put_title-end.ensures in
    (omega (arith, operand_short told), omega (arith, w.value, head-length told, kept-length _ _ _ _ w.out_after))

pub returns : goal.returns
returns c =
    let a = c.args in
    let told : Told a.prototype.now _ _ _ _ _ = record { title-is = c.operation_of-title.ensures; name-is = c.name_field-name.ensures; operand-is = c.operand_field-operand.ensures; symbol_is = c.is_some-named.ensures ∙ (is-named c.start_symbol.result ∙ ap (λ ns. not (is_empty ns)) (c.start_symbol.ensures false)); count-is = c.positional_count-count.ensures } in
    let w = c.put_title-end.ensures in
    let v = c.put_keywords.ensures in
    record { value = omega (arith, w.value, v.value, head-length told); out_after = head-written told _ _ _ _ _ w.value w.out_after v.out_after }
