use Rattle.std.proofs.Common.{◌≡◌, [], refl, ap, ◌∙◌}
use Rattle.std.specs.Prelude.{Option, Some, None, unwrap_or}
use Rattle.std.specs.Option.{option_map}
use Rattle.std.proofs.lemmas.Option.{unwrap_or-slice_get}
use Rattle.std.proofs.lemmas.Iterator.Consumers.{nth_from_yields_List}
use denote.Ref.{Bor}
use Rattle.text.specs.Bytes.{Bytes}
use Rattle.rules.specs.Fields.{lines_of}
use Rattle.line_reader.proofs.Lines.{lines-road}
use Rattle.line_reader.proofs.line_of.Goals as goal

read-through : (r : Option (Bor Bytes)) (d : Bor Bytes) → d.now ≡ [] → (unwrap_or r d).now ≡ unwrap_or (option_map (λ x. x.now) r) []
read-through None d e = e
read-through (Some x) d e = refl

pub returns : goal.returns
returns c =
    let lines = lines_of c.args.src.now in
    ap (λ (x : Bor Bytes). x.now) c.unwrap_or.ensures
    ∙ (read-through c.nth.result _ refl
    ∙ (ap (λ o. unwrap_or o []) (nth_from_yields_List c.nth.result c.nth.new.self c.args.number c.nth.ensures.ran (lines-road c.new.result c.args.src c.new.ensures))
    ∙ unwrap_or-slice_get lines c.args.number []))
