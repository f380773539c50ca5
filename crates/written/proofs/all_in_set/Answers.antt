use Rattle.std.proofs.Common.{rules, tests, ◌∙◌}
use Rattle.std.proofs.lemmas.Iterator.{YieldsList-from_slice}
use Rattle.std.proofs.lemmas.Iterator.Search.{all_from_yields_List}
use Rattle.text.specs.Characters.{in_set}
use Rattle.rules.proofs.Listed.{every-listed}
use Rattle.written.proofs.all_in_set.Goals as goal

pub returns : goal.returns
returns c =
    let line = c.args.line.now in
    all_from_yields_List in_set c.all.new.self _ c.all.result c.all.ensures.ran (YieldsList-from_slice line (cc)) (λ x b q k. search (rules, tests)) ∙ every-listed in_set line
