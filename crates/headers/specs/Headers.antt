-- What stands before a macro's locals and lines in a deck, by its prototype: name, name parameter, positionals, keywords. Assumes nothing.
use Rattle.std.specs.Prelude.{not, [], ◌++◌, length}
use Rattle.text.specs.Bytes.{Bytes}
use Rattle.rules.specs.Fields.{is_empty}
use Rattle.rules.specs.Library.{operation_of, names_in}
use Rattle.deck.specs.Coding.{two, pair, list_of}
use Rattle.deck.specs.Coders.{string, flag}

unfoldable pub header_of : Bytes → Bytes
header_of p =
    let n = names_in p [] in
    string.put (operation_of p) ++ (flag.put (not (is_empty n.name)) ++ (two.put (length n.positionals) ++ (list_of (pair string string)).put n.keywords))
