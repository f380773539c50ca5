use Rattle.std.proofs.Common.{rules, tests, ◌∙◌, ℕ, Bool}
use Rattle.std.proofs.lemmas.Iterator.{YieldsList-from_slice}
use Rattle.std.proofs.lemmas.Iterator.Search.{all_from_yields_List}
use mathlib.Core.Bool.{not}
use lib.Dec.{eqb}
use Rattle.rules.proofs.Listed.{every-listed}
use Rattle.good_reading.proofs.Endless.{spaceless}
use Rattle.good_reading.proofs.is_spaceless.Goals as goal

pub returns : goal.returns
returns c =
    let code = c.args.code.now in
    let test : ℕ → Bool = λ b. not (eqb b 32) in
    all_from_yields_List test c.all.new.self _ c.all.result c.all.ensures.ran (YieldsList-from_slice code (cc)) (λ x b q k. search (rules, tests)) ∙ (every-listed test code ∙ spaceless code)
