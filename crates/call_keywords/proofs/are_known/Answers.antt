use Rattle.std.proofs.Common.{refl, rules, tests, ◌∙◌}
use Rattle.std.proofs.lemmas.Iterator.Search.{all_from_yields_List}
use Rattle.rules.specs.Calls.{is_among}
use Rattle.parts.proofs.Chains.{yields_parts, every-mapped}
use Rattle.call_operands.specs.Calling.{keyword_in}
use Rattle.call_keywords.specs.Defaults.{keywords_at, are_known}
use Rattle.call_keywords.proofs.are_known.Goals as goal

pub returns : goal.returns
unfolding are_known
returns c =
    let known = keywords_at c.args.deck.now c.args.at c.args.count in
    all_from_yields_List (λ p. is_among (keyword_in p).0 known) _ _ _ c.all.ensures.ran (yields_parts _ refl) (λ x b q k. search (rules, tests))
    ∙ every-mapped (λ k. is_among k.0 known) keyword_in _
