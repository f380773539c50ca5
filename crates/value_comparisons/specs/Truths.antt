-- What code knows of a condition's truth: nothing of whether it holds, where a string on the way to it was over 255 bytes. `cutting` is the rules' own sense of
-- expressions with this alone left out, so that a condition in code is read by the rules' own grammar.
use Rattle.std.specs.Prelude.{◌&&◌, ◌||◌, not, ℤ}
use Rattle.text.specs.Bytes.{Bytes}
use Rattle.rules.specs.Values.{Relation, string_order, holds}
use Rattle.rules.specs.Grammar.{Got, got, refused, Sense}
use Rattle.rules.specs.Evaluate.{Cell, Chars, values}
use Rattle.rules.specs.Evaluate.{Truth as TruthOf}
use Rattle.value_texts.specs.Held.{Held}
use Rattle.value_comparisons.specs.declared.Truth.{Truth}

-- whether it holds counts only where nothing was over
unfoldable pub cut_truth : TruthOf → TruthOf
cut_truth t = record { holds = not t.over && t.holds; over = t.over }

unfoldable pub truth_in : Truth → TruthOf
truth_in t = cut_truth (record { holds = t.holds; over = t.over })

unfoldable pub cut_truth_got : Got TruthOf Cell → Got TruthOf Cell
cut_truth_got (got t x) = got (cut_truth t) x
cut_truth_got (refused e left) = refused e left

unfoldable pub cutting : Sense Cell ℤ Chars TruthOf
cutting = record {
  kind = values.kind;
  number = values.number;
  term = values.term;
  bytes_in = values.bytes_in;
  entries_in = values.entries_in;
  operation = values.operation;
  empty = values.empty;
  character = values.character;
  text_of = values.text_of;
  joined = values.joined;
  measured = values.measured;
  substring_of = values.substring_of;
  type_in = values.type_in;
  constant = λ b. cut_truth (values.constant b);
  flag = λ c. cut_truth (values.flag c);
  numbers = λ r a b. cut_truth (values.numbers r a b);
  strings = λ r s t. cut_truth (values.strings r s t);
  negated = λ b. cut_truth (values.negated b);
  both = λ a b. cut_truth (values.both a b);
  either = λ a b. cut_truth (values.either a b);
}

-- two strings compared, by what is kept of them
unfoldable pub bytes_held : Held → Bytes
bytes_held h = h.bytes

unfoldable pub strings_held : Relation → Held → Held → TruthOf
strings_held r a b = cut_truth (record { holds = holds r (string_order (bytes_held a) (bytes_held b)); over = a.over || b.over })
