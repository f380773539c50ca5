use Rattle.std.proofs.Common.{map, ap, ◌∙◌}
use Rattle.call_operands.specs.Calling.{keyword_in}
use Rattle.call_keywords.specs.Defaults.{keywords_at, given_from, are_known}
use Rattle.call_keywords.proofs.are_known_from.Goals as goal

pub returns : goal.returns
unfolding given_from
returns c =
    let a = c.args in
    c.are_known.ensures ∙ ap (λ ps. are_known (keywords_at a.deck.now a.at a.count) (map keyword_in ps)) c.at.ensures
