use Rattle.std.proofs.Common.{◌≡◌, true, map, ◌+◌, length}
use Rattle.rules.specs.Lexemes.{lexed}
use Rattle.rules.specs.Library.{keyword_names}
use Rattle.lent.specs.Splice.{splice}
use Rattle.parts.specs.Parts.{parts_left}
use Rattle.keywords.specs.Keywords.{keywords_in, keywords_code}
use Rattle.keywords.proofs.Parameters.{Short}
use Rattle.keywords.proofs.put_parts.Given as goal

abbrev pub invariant-loop-part : goal.invariant-loop-part
invariant-loop-part l =
    let left = keywords_code (keyword_names (map (lexed true) (parts_left l.part-iterator))) in
    (length l.out ≡ length l.initial.out)
    × Short (length l.operand) (parts_left l.part-iterator)
    × (l.to + length left ≡ l.at + length (keywords_code (keywords_in l.operand)))
    × (splice l.out l.to left ≡ splice l.initial.out l.at (keywords_code (keywords_in l.operand)))
