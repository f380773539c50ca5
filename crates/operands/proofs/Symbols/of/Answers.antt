use Rattle.std.proofs.Common.{true, map, ap, sym, ◌∙◌}
use Rattle.rules.specs.Lexemes.{lexed}
use Rattle.rules.specs.Library.{start_symbols}
use Rattle.parts.proofs.Divided.{divided-cut}
use Rattle.operands.proofs.Symbols.of.Goals as goal

pub returns : goal.returns
returns c =
    ap (λ ps. start_symbols (map (lexed true) ps)) c.of.ensures ∙ ap start_symbols (sym (divided-cut c.args.operand.now))
