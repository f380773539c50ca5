-- `add_globals` meets its contract: putting in the symbols still to come is putting in all. Assumes nothing.
use Rattle.std.proofs.Common.{List, [], ◌∷◌, refl, rules, length, arith, ap, sym, ◌∙◌}
use mathlib.Core.Path.{subst}
use Rattle.text.specs.Bytes.{Bytes}
use Rattle.rules.specs.Choice.{any}
use Rattle.rules.specs.Lexemes.{is_long}
use Rattle.deck.specs.Coders.{set_code}
use Rattle.kinds.specs.Kinds.{set_of}
use Rattle.operands.specs.Symbols.{symbols_left}
use Rattle.declaring.specs.Declared.{symbols_in}
use Rattle.declaring.proofs.Symbols.{symbols-few}
use Rattle.filling.specs.Added.{Adds}
use Rattle.filling.proofs.Symbols.{short, short-others}
use Rattle.filling.proofs.Adding.{adds-nothing, adds_then}
use Rattle.filling.proofs.add_globals.Goals as goal

pub loop-name-init : goal.loop-name-init
unfolding symbols_in
loop-name-init c =
    let a = c.args in
    let all = ap symbols_left c.into_iter-name-iterator.ensures.into_iter_gives ∙ c.of-name-items.ensures in
    let k = ap length all in (
      refl,
      refl,
      ap (any is_long) all ∙ c.requires.1.1,
      omega (arith, k),
      λ sh ki r h. subst (λ (ss : List Bytes). Adds (set_code (set_of a.set)) a.shared.now a.kinds.now a.rows ss sh ki r) all h,
    )

pub add_global-count-requires : goal.add_global-count-requires
add_global-count-requires c =
    let first = c.in-Some.ensures.steps in
    let k = ap length first in
    let few = symbols-few c.args.operand.now in
    let i = c.loop-name.invariant in (
      omega (arith, k, i.3, i.0, c.requires.0, few),
      (omega (arith, k, i.3, i.1, c.requires.1.0, few), short _ _ (ap (any is_long) (sym first) ∙ i.2)),
    )

pub loop-name-preserved : goal.loop-name-preserved
loop-name-preserved c =
    let first = c.in-Some.ensures.steps in
    let k = ap length first in
    let i = c.loop-name.invariant in
    let f = c.add_global-count.ensures in (
      search rules,
      search rules,
      short-others _ _ (ap (any is_long) (sym first) ∙ i.2),
      omega (arith, k, i.3, f.upper_bound),
      λ sh ki r g. i.4 sh ki r (adds_then (set_code (set_of c.args.set)) c.loop-name.shared c.loop-name.kinds c.loop-name.count _ _ _ sh ki r (c.in-Some.name.now ∷ []) _ first f.adds g),
    )

pub returns-clause-adds : goal.returns-clause-adds
returns-clause-adds c =
    c.loop-name.invariant.4 _ _ _ (adds-nothing (set_code (set_of c.args.set)) c.loop-name.shared c.loop-name.kinds c.loop-name.count c.in-None.ensures.steps.0)
