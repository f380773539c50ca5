use Rattle.value_references.proofs.Parts.{by-term, by_length, by_count, none-after_t, none-text}
use Rattle.value_references.proofs.value_of.Goals as goal

pub returns-in-Term : goal.returns-in-Term
returns-in-Term c held h k t = by-term _ _ _ c.in-Term.is (λ u. c.term_of.ensures held h k u) t

pub returns-in-AfterK : goal.returns-in-AfterK
returns-in-AfterK c held h k t = by_length _ _ _ c.in-AfterK.is (λ u. c.length_of.ensures held h k u) t

pub returns-in-AfterN : goal.returns-in-AfterN
returns-in-AfterN c held h k t = by_count _ _ _ c.in-AfterN.is (λ u. c.count_of.ensures held h k u) t

pub returns-in-AfterT : goal.returns-in-AfterT
returns-in-AfterT c held h k t = none-after_t _ c.in-AfterT.is

pub returns-in-Text : goal.returns-in-Text
returns-in-Text c held h k t = none-text _ c.in-Text.is
