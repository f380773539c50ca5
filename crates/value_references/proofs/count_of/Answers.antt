use mathlib.Core.Path.{◌≡◌, ap, sym, ◌∙◌}
use mathlib.Core.Option.{some}
use Prim.Native.Nat.{pred}
use lib.IntN.{pos}
use lib.ListN.{length}
use mir.Syntax.{w32}
use mir.Val.{SFits}
use mir.Facts.{to_z-of_z}
use Rattle.rules.specs.Values.{number_of_entries}
use Rattle.rules.specs.Evaluate.{and_then}
use Rattle.kinds.specs.declared.Kind.TheVariants.{List as Listed}
use Rattle.kinds.specs.Kinds.{kind_for}
use Rattle.value_sums.proofs.Answers.{option-some}
use Rattle.value_references.specs.declared.Subscripts.TheVariants.{Bare}
use Rattle.value_references.proofs.Standing.{is-kind, holds-list, runs-long}
use Rattle.value_references.proofs.Parts.{count-placed, entries-list, entries-text, bare-said, bare-empty}
use Rattle.value_references.proofs.count_of.Goals.{in_default-via-in-List+in_default, in_default-via-in_default}
use Rattle.value_references.proofs.count_of.Goals as goal

pub returns-in-List-Bare : goal.returns-in-List-Bare
returns-in-List-Bare c held h k t =
    let list = is-kind k c.in-List-Bare.is-0 in
    let fits : SFits w32 c.positionals.result = record { sfits = c.positionals.type_inv } in
    rw (to_z-of_z fits) (option-some _ ∙ ap some (c.positionals.ensures ∙ ap (λ n. pos (pred n)) (sym (ap length (holds-list _ _ _ held h _ c.requires.0 c.requires.1 list) ∙ runs-long _ _ _))) ∙ entries-list (held _) _ list (bare-empty c.in-List-Bare.is-1))

pub entries_in-requires : goal.entries_in-requires
entries_in-requires c = c.text_of.ensures.1

pub returns-in_default : goal.returns-in_default
returns-in_default c held h k t =
    let other : c.args.kind ≡ Listed → c.args.subscripts ≡ Bare → ⊥ = λ z y. elim c.in_default.branch [
      | in_default-via-in-List+in_default w ↦ w.in_default.not-Bare-1 y
      | in_default-via-in_default w ↦ w.in_default.not-List-0 z
    ] in
    c.entries_in.ensures ∙ ap (λ o. and_then o (λ t. some (pos (number_of_entries t)))) (c.text_of.ensures.0 held h k (count-placed _ _ t)) ∙ entries-text (held _) _ (λ z y. other (k ∙ ap kind_for z) (bare-said _ y))
