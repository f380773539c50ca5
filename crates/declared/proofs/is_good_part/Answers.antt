use borrow.Author.Rules.{rules}
use Prim.Native.Nat.{◌+◌, ◌≤◌, ◌<◌}
use mathlib.Core.Path.{ap, sym, ◌∙◌}
use mathlib.Core.Bool.{true}
use lib.ListN.{length}
use Rattle.rules.specs.Lexemes.{lexed}
use Rattle.rules.specs.Faults.{is_default}
use Rattle.declared.proofs.Starts.{part-all}
use Rattle.declared.proofs.Keyword.{no_symbol, only-symbol, with-default}
use Rattle.declared.proofs.is_good_part.Goals as goal

pub returns-then-not-is_one_symbol : goal.returns-then-not-is_one_symbol
returns-then-not-is_one_symbol c =
    let s = c.args.s.now in
    sym (no_symbol s _ c.bare_at-end.ensures.value (c.is_one_symbol.ensures true) c.if-not-is_one_symbol.true)

pub returns-then-end-s : goal.returns-then-end-s
returns-then-end-s c =
    let s = c.args.s.now in
    let end : length s ≤ c.bare_at-end.result = search rules in
    sym (only-symbol s _ c.bare_at-end.ensures.value (c.is_one_symbol.ensures true) c.if-not-is_one_symbol.false end)

pub returns : goal.returns
returns c =
    let s = c.args.s.now in
    let end = c.bare_at-end.result in
    let lt : end < length s = search rules in
    c.is_default.ensures
    ∙ (ap (λ t. is_default (lexed true t)) (part-all s (end + 1))
    ∙ sym (with-default s end c.bare_at-end.ensures.value (c.is_one_symbol.ensures true) c.if-not-is_one_symbol.false lt))
