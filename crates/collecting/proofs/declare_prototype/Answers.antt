-- `declare_prototype` meets its contract: the parameters in their rows, and 0 as the kind of each. Assumes nothing.
use native.Mathlib.Omega.{arith}
use Rattle.collecting.proofs.Places.{ordered}
use Rattle.collecting.proofs.Prototypes.{parameters-fit, counted, few-rows, kinds-stay, starts}
use Rattle.collecting.proofs.declare_prototype.Goals as goal

pub slice_bounds-declare_parameters-end : goal.slice_bounds-declare_parameters-end
slice_bounds-declare_parameters-end c = (ordered c.args.line.now c.cuts_of-cuts.result c.cuts_of-cuts.ensures).name-inside

pub slice_bounds-declare_parameters-count-2 : goal.slice_bounds-declare_parameters-count-2
slice_bounds-declare_parameters-count-2 c = (ordered c.args.line.now c.cuts_of-cuts.result c.cuts_of-cuts.ensures).remarks-behind

pub slice_bounds-declare_parameters-start-2 : goal.slice_bounds-declare_parameters-start-2
slice_bounds-declare_parameters-start-2 c = (ordered c.args.line.now c.cuts_of-cuts.result c.cuts_of-cuts.ensures).remarks-behind

pub slice_bounds-declare_parameters-end-2 : goal.slice_bounds-declare_parameters-end-2
slice_bounds-declare_parameters-end-2 c = (ordered c.args.line.now c.cuts_of-cuts.result c.cuts_of-cuts.ensures).remarks-inside

pub declare_parameters-count-requires : goal.declare_parameters-count-requires
declare_parameters-count-requires c =
    let a = c.args in
    let k = c.cuts_of-cuts in
    parameters-fit a.line.now a.own.now a.kinds.now c.requires k.result k.ensures

pub fill-requires : goal.fill-requires
fill-requires c =
    let a = c.args in
    let k = c.cuts_of-cuts in
    omega (arith, few-rows a.line.now a.own.now a.kinds.now c.requires k.result k.ensures _ c.declare_parameters-count.ensures.value, c.requires.kinds-size)

pub returns : goal.returns
returns c =
    let a = c.args in
    let k = c.cuts_of-cuts in
    let e = c.declare_parameters-count.ensures in
    let w = c.fill.ensures in record { starts = starts a.line.now a.own.now a.kinds.now c.requires k.result k.ensures _ e.value _ w _ e.table_after; value = counted a.line.now a.own.now a.kinds.now c.requires k.result k.ensures _ e.value; kinds_unchanged = kinds-stay a.line.now a.own.now a.kinds.now c.requires k.result k.ensures _ e.value _ w }
