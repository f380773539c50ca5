-- `shapes::is_plain` meets its contract. Assumes nothing.
use Rattle.std.proofs.Common.{rules, tests, ◌∙◌, nat_lt}
use Rattle.std.proofs.lemmas.Iterator.{YieldsList-from_slice}
use Rattle.std.proofs.lemmas.Iterator.Search.{all_from_yields_List}
use Rattle.shapes.proofs.Plain.{all-plain}
use Rattle.shapes.proofs.is_plain.Goals as goal

pub returns : goal.returns
returns c = all_from_yields_List (λ b. nat_lt b 128) _ _ _ c.all.ensures.ran (YieldsList-from_slice c.args.code.now c.iter.ensures.rest) (λ x b q k. search (rules, tests)) ∙ all-plain c.args.code.now
