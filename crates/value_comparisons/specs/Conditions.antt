-- What a condition's answer says: a place in a field stands for the lexemes from there on.
use Rattle.std.specs.Prelude.{ℕ, List, Result}
use Rattle.rules.specs.Lexemes.{Lex}
use Rattle.rules.specs.Grammar.{Got}
use Rattle.rules.specs.Evaluate.{Cell}
use Rattle.rules.specs.Evaluate.{Truth as TruthOf}
use Rattle.value_sums.specs.declared.Read.{Read}
use Rattle.value_sums.specs.declared.Refused.{Refused}
use Rattle.value_sums.specs.declared.Numbered.{Numbered}
use Rattle.value_sums.specs.Answers.{tells_as, tells_by}
use Rattle.value_comparisons.specs.Truths.{truth_in}
use Rattle.value_comparisons.specs.declared.Truth.{Truth}

abbrev pub tells_truth : (ℕ → List (Lex Cell)) → Result (Read Truth) Refused → Got TruthOf Cell
tells_truth = tells_as truth_in

-- where a refusal is told by its number
abbrev pub truth_by : (ℕ → List (Lex Cell)) → Result (Read Truth) Numbered → Got TruthOf Cell
truth_by = tells_by truth_in
