-- What one part of a prototype's operand is: a positional or a keyword with its default; and keywords as a deck has them. Assumes nothing.
use Rattle.std.specs.Prelude.{suc, true, List, [], ◌∷◌, Option, Some, None, drop}
use Rattle.std.specs.Borrow.{Bor}
use Rattle.text.specs.Bytes.{Bytes}
use Rattle.rules.specs.Choice.{choose}
use Rattle.rules.specs.Lexemes.{lexed, unlexed}
use Rattle.rules.specs.Calls.{divided, equals_at, has_equals}
use Rattle.rules.specs.Library.{start_symbol, with_default, keyword_names}
use Rattle.deck.specs.Coding.{put_all, pair}
use Rattle.deck.specs.Coders.{string}

-- the positional that a part is, or none
unfoldable pub positional_in : Bytes → List Bytes
positional_in part = choose (has_equals (lexed true part)) [] (start_symbol (lexed true part))

-- the keyword with its default that a part is, or none
unfoldable pub keyword_in : Bytes → List (Bytes × Bytes)
keyword_in part =
    let p = lexed true part in
    choose (has_equals p) (with_default (start_symbol p) (unlexed (drop (suc (equals_at p)) p))) []

-- what was found, as 01 tells it: one keyword with its default, or none
abbrev pub keyword_found : Option (Bor Bytes × Bor Bytes) → List (Bytes × Bytes)
keyword_found None = []
keyword_found (Some k) = (k.0.now, k.1.now) ∷ []

-- the keywords of an operand
unfoldable pub keywords_in : Bytes → List (Bytes × Bytes)
keywords_in operand = keyword_names (divided (lexed true operand))

-- keywords one after another, as a deck has them behind their count
unfoldable pub keywords_code : List (Bytes × Bytes) → Bytes
keywords_code ks = put_all (pair string string) ks
