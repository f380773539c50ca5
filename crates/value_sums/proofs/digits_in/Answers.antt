use mathlib.Core.Path.{sym, ◌∙◌}
use borrow.Author.Tests.{tests}
use Rattle.std.proofs.lemmas.Iterator.{YieldsList-from_slice}
use Rattle.std.proofs.lemmas.Iterator.Search.{all_from_yields_List}
use Rattle.text.specs.Characters.{digit}
use Rattle.value_sums.proofs.Answers.{option-none}
use Rattle.value_sums.proofs.Numbers.{every-all, number-empty, number-long, number-other, number-spelt}
use borrow.Author.Rules.{rules}
use Rattle.value_sums.proofs.digits_in.Goals.{then-is_empty-via-then-is_empty, then-is_empty-via-else-is_empty+then-s-gt10, then-is_empty-via-else-is_empty+else-s-gt10+then-not-all}
use Rattle.value_sums.proofs.digits_in.Goals as goal

pub returns-then-is_empty : goal.returns-then-is_empty
returns-then-is_empty c = option-none ∙ elim c.then-is_empty.branch [
  | then-is_empty-via-then-is_empty w ↦ number-empty _ (search (rules, tests))
  | then-is_empty-via-else-is_empty+then-s-gt10 w ↦ number-long _ w.if-s-gt10.true
  | then-is_empty-via-else-is_empty+else-s-gt10+then-not-all w ↦ number-other _ (sym (all_from_yields_List digit _ _ _ w.all.ensures.ran (YieldsList-from_slice c.args.s.now (search rules)) (λ x b q k. search (rules, tests)) ∙ every-all _) ∙ w.if-not-all.true)
]

pub spelt-requires : goal.spelt-requires
spelt-requires c = sym (all_from_yields_List digit _ _ _ c.all.ensures.ran (YieldsList-from_slice c.args.s.now (search rules)) (λ x b q k. search (rules, tests)) ∙ every-all _) ∙ c.if-not-all.false

pub returns : goal.returns
returns c = c.spelt.ensures ∙ number-spelt _ (sym (all_from_yields_List digit _ _ _ c.all.ensures.ran (YieldsList-from_slice c.args.s.now (search rules)) (λ x b q k. search (rules, tests)) ∙ every-all _) ∙ c.if-not-all.false) (search (rules, tests)) c.if-s-gt10.false
