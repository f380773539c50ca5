-- `put_tables` meets its contract: the first rows of the tables are what `put_parts` is given. Assumes nothing.
use Prim.Native.Nat.{◌*◌}
use native.Mathlib.Omega.{arith}
use mathlib.Core.Path.{sym}
use lib.Seq.{length-take-le}
use Rattle.macros.proofs.put_tables.Goals as goal

pub slice_bounds-put_parts-end-2 : goal.slice_bounds-put_parts-end-2
slice_bounds-put_parts-end-2 c = sym (length-take-le (c.args.rows.own * 8) c.args.names.own.now (omega (arith, c.requires.few-own, c.requires.sizes.own-size)))

pub slice_bounds-put_parts-end-3 : goal.slice_bounds-put_parts-end-3
slice_bounds-put_parts-end-3 c = sym (length-take-le (c.args.rows.global * 8) c.args.names.global.now (omega (arith, c.requires.few-global, c.requires.sizes.global-size)))

pub slice_bounds-put_parts-end-4 : goal.slice_bounds-put_parts-end-4
slice_bounds-put_parts-end-4 c = sym (length-take-le (c.args.rows.shared * 8) c.args.names.shared.now (omega (arith, c.requires.few-shared, c.requires.sizes.shared-size)))
