-- A macro's names with further ones declared. Assumes nothing.
use Rattle.std.specs.Prelude.{List, ◌++◌}
use Rattle.text.specs.Bytes.{Bytes}
use Rattle.rules.specs.Statement.{Set}
use Rattle.rules.specs.Library.{Names}

unfoldable pub add_locals : Names → List (Bytes × Set) → Names
add_locals n ls = record { name = n.name; positionals = n.positionals; keywords = n.keywords; locals = n.locals ++ ls; globals = n.globals }

unfoldable pub add_globals : Names → List (Bytes × Set) → Names
add_globals n gs = record { name = n.name; positionals = n.positionals; keywords = n.keywords; locals = n.locals; globals = n.globals ++ gs }
