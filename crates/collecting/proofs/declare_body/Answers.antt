-- `declare_body` meets its contract: what the lines that are left bring completes the tables. Assumes nothing.
use Rattle.std.proofs.Common.{rules, ◌≡◌, [], refl, ap, sym, ◌∙◌}
use Rattle.rules.specs.Fields.{lines_of}
use Rattle.line_reader.specs.Reading.{lines_left}
use Rattle.collecting.proofs.Bodies.{fits-as, room-here, fits-then, brings-nothing, completes-then, completes-all, sizes-as}
use Rattle.collecting.proofs.declare_body.Goals as goal

pub loop-line-init : goal.loop-line-init
loop-line-init c =
    let a = c.args in
    let left : lines_left c.into_iter-line-iterator.result ≡ lines_of a.body.now = ap lines_left (c.into_iter-line-iterator.ensures.into_iter_gives ∙ c.new-line-items.ensures) in
    record {
      can = tt;
      finite = tt;
      own = refl;
      global = refl;
      shared = refl;
      kinds = refl;
      fits = fits-as a.rows (sym left) c.requires.fits;
      completes = completes-all (lines_of a.body.now) a.rows a.own.now a.global.now a.shared.now a.kinds.now _ left;
    }

pub declare_line-count-requires : goal.declare_line-count-requires
declare_line-count-requires c =
    let a = c.args in
    let b = c.loop-line in
    let i = b.invariant in
    room-here _ _ b.count (fits-as b.count c.in-Some.ensures.steps i.fits) _ _ _ _
    (sizes-as a.own.now a.global.now a.shared.now a.kinds.now _ _ _ _ c.requires.sizes i.own i.global i.shared i.kinds)

pub loop-line-preserved : goal.loop-line-preserved
loop-line-preserved c =
    let a = c.args in
    let b = c.loop-line in
    let i = b.invariant in
    let t = c.in-Some.ensures.steps in
    let e = c.declare_line-count.ensures in
    record {
      can = tt;
      finite = tt;
      own = search rules;
      global = search rules;
      shared = search rules;
      kinds = search rules;
      fits = fits-then _ _ b.count (fits-as b.count t i.fits) _ e.counted;
      completes = completes-then (lines_of a.body.now) a.rows a.own.now a.global.now a.shared.now a.kinds.now _ _ _ t _ _ _ _ _ i.completes _ _ _ _ _ e.declares;
    }

pub returns : goal.returns
returns c =
    let b = c.loop-line in
    b.invariant.completes _ _ _ _ _ (brings-nothing _ _ _ _ _ (lines_left b.line-iterator) c.in-None.ensures.steps.0) []
