-- `declare_globals` meets its contract: the macro's globals, and then the library's. Assumes nothing.
use mathlib.Core.Path.{refl}
use Rattle.collecting.proofs.declare_globals.Goals as goal

pub returns : goal.returns
returns c =
    let e = c.append_symbols-mine.ensures in
    let f = c.add_globals-theirs.ensures in
    record { own_value = (refl, (e.value, f.upper_bound)); global_after = e.table_after; adds = f.adds }
