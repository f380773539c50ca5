-- The places of a case lie in the window.
use Rattle.std.proofs.Common.{true, false, length, take, drop, arith}
use Rattle.translate_batch.proofs.Places.{found-placed}
use Rattle.translate_batch.proofs.Steps.{found-steps, at-end, at-broken, read-steps}
use Rattle.translate_batch.proofs.step.Goals as goal

pub slice_bounds-respond-count : goal.slice_bounds-respond-count
slice_bounds-respond-count g c =
    let placed = found-placed c.args.window.now c.args.place.used c.args.place.at c.in-Found.id c.in-Found.blank c.in-Found.library c.in-Found.program _ _ _ _ (omega arith) c.in-Found.ensures in
    placed.id_before

pub slice_bounds-respond-start : goal.slice_bounds-respond-start
slice_bounds-respond-start g c =
    let placed = found-placed c.args.window.now c.args.place.used c.args.place.at c.in-Found.id c.in-Found.blank c.in-Found.library c.in-Found.program _ _ _ _ (omega arith) c.in-Found.ensures in
    placed.id_before

pub slice_bounds-respond-end : goal.slice_bounds-respond-end
slice_bounds-respond-end g c =
    let placed = found-placed c.args.window.now c.args.place.used c.args.place.at c.in-Found.id c.in-Found.blank c.in-Found.library c.in-Found.program _ _ _ _ (omega arith) c.in-Found.ensures in
    placed.id_inside

pub slice_bounds-respond-count-in-Found : goal.slice_bounds-respond-count-in-Found
slice_bounds-respond-count-in-Found g c =
    let placed = found-placed c.args.window.now c.args.place.used c.args.place.at c.in-Found.id c.in-Found.blank c.in-Found.library c.in-Found.program _ _ _ _ (omega arith) c.in-Found.ensures in
    placed.library_before

pub slice_bounds-respond-start-in-Found : goal.slice_bounds-respond-start-in-Found
slice_bounds-respond-start-in-Found g c =
    let placed = found-placed c.args.window.now c.args.place.used c.args.place.at c.in-Found.id c.in-Found.blank c.in-Found.library c.in-Found.program _ _ _ _ (omega arith) c.in-Found.ensures in
    placed.library_before

pub slice_bounds-respond-end-in-Found : goal.slice_bounds-respond-end-in-Found
slice_bounds-respond-end-in-Found g c =
    let placed = found-placed c.args.window.now c.args.place.used c.args.place.at c.in-Found.id c.in-Found.blank c.in-Found.library c.in-Found.program _ _ _ _ (omega arith) c.in-Found.ensures in
    placed.library_inside

pub returns-in_ok-respond-in-Found : goal.returns-in_ok-respond-in-Found
returns-in_ok-respond-in-Found g c = λ whole place stands.
    found-steps whole place c.args.window.now c.args.place.at c.args.place.used _ stands c.in-Found.id c.in-Found.blank c.in-Found.library c.in-Found.program c.in-Found.stop c.in-Found.next c.in-Found.output c.in-Found.workspace c.in-Found.ensures
    (length c.args.deck.now) _ _ (g.E.Write.contents c.args.errors.now) c.in_ok-respond-in-Found.ensures

pub returns-in-End : goal.returns-in-End
returns-in-End g c = λ whole place stands.
    let here = at-end (take c.args.place.used c.args.window.now) c.args.place.at c.in-End.ensures in
    read-steps whole place (drop c.args.place.at (take c.args.place.used c.args.window.now)) true (length c.args.deck.now) _ _ _ _ _ _ here.0 here.1 c.more.result (c.more.ensures whole place stands)

pub returns-in-Broken : goal.returns-in-Broken
returns-in-Broken g c = λ whole place stands.
    let here = at-broken (take c.args.place.used c.args.window.now) c.args.place.at c.in-Broken.ensures in
    read-steps whole place (drop c.args.place.at (take c.args.place.used c.args.window.now)) false (length c.args.deck.now) _ _ _ _ _ _ here.0 here.1 c.more-in-Broken.result (c.more-in-Broken.ensures whole place stands)
