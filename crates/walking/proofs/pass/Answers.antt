-- `walking::pass` meets its contract: each return is a law of proofs/Passing.antt. Assumes nothing.
use borrow.Author.Rules.{rules}
use native.Mathlib.Omega.{arith}
use mathlib.Core.Path.{sym, ◌∙◌}
use Rattle.walking.proofs.Passing.{line-inside, macro-walked, other-walked, title-room, prototype-fine, prototype-walked, line-room, mend-walked, line-walked}
use Rattle.walking.proofs.pass.Goals as goal

pub slice_bounds-line-count : goal.slice_bounds-line-count
slice_bounds-line-count c = let h = line-inside _ _ _ _ _ _ _ _ c.requires in omega (arith, h.0)

pub slice_bounds-line-start : goal.slice_bounds-line-start
slice_bounds-line-start c = let h = line-inside _ _ _ _ _ _ _ _ c.requires in omega (arith, h.0)

pub slice_bounds-line-end : goal.slice_bounds-line-end
slice_bounds-line-end c = let h = line-inside _ _ _ _ _ _ _ _ c.requires in omega (arith, h.1)

pub returns-then-is_macro : goal.returns-then-is_macro
returns-then-is_macro c = record {
  walked = macro-walked _ _ _ _ _ _ _ _ c.requires c.in-Outer.is _ c.past_newline-next.ensures (sym c.is_macro.ensures ∙ c.if-is_macro.true);
  at_value = c.past_newline-next.ensures;
}

pub returns-else-is_macro : goal.returns-else-is_macro
returns-else-is_macro c = record {
  walked = other-walked _ _ _ _ _ _ _ _ c.requires c.in-Outer.is _ c.past_newline-next.ensures (sym c.is_macro.ensures ∙ c.if-is_macro.false);
  at_value = c.past_newline-next.ensures;
}

pub entitle-requires : goal.entitle-requires
entitle-requires c = title-room _ _ _ _ _ _ _ _ c.requires c.in-Prototype.is _ c.operation_of-operation.ensures

pub declare_prototype-parameters-requires : goal.declare_prototype-parameters-requires
declare_prototype-parameters-requires c = prototype-fine _ _ _ _ _ _ _ _ c.requires c.in-Prototype.is

pub returns-in-Prototype : goal.returns-in-Prototype
returns-in-Prototype c =
    let d = c.declare_prototype-parameters in
    record {
      walked = prototype-walked _ _ _ _ _ _ _ _ c.requires c.in-Prototype.is _ _ _ _ _ d.result c.past_newline-next.ensures c.operation_of-operation.ensures c.entitle.ensures d.ensures.starts d.ensures.value d.ensures.kinds_unchanged (search rules) (search rules);
      at_value = c.past_newline-next.ensures;
    }

pub declare_line-rows-requires : goal.declare_line-rows-requires
declare_line-rows-requires c = line-room _ _ _ _ _ _ _ _ c.requires _ c.in-Inner.is

pub returns-then-is_mend : goal.returns-then-is_mend
returns-then-is_mend c = record {
  walked = mend-walked _ _ _ _ _ _ _ _ c.requires _ c.in-Inner.is _ _ _ _ _ c.declare_line-rows.ensures.declares (search rules) (search rules) (search rules) (search rules) _ c.past_newline-next.ensures (sym c.is_mend.ensures ∙ c.if-is_mend.true);
  at_value = c.past_newline-next.ensures;
}

pub returns-else-is_mend : goal.returns-else-is_mend
returns-else-is_mend c = record {
  walked = line-walked _ _ _ _ _ _ _ _ c.requires _ c.in-Inner.is _ _ _ _ _ c.declare_line-rows.ensures.declares (search rules) (search rules) (search rules) (search rules) _ c.past_newline-next.ensures (sym c.is_mend.ensures ∙ c.if-is_mend.false) _ c.ends_declarations-ends.ensures;
  at_value = c.past_newline-next.ensures;
}
