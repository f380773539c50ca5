-- Names that a row of eight bytes tells apart, with blanks behind them. Assumes nothing.
use Rattle.std.specs.Prelude.{Bool, ◌&&◌, leb, length}
use Rattle.text.specs.Bytes.{Bytes}
use Rattle.rules.specs.Choice.{every}
use Rattle.rules.specs.Limits.{macro_name_limit}
use Rattle.rules.specs.Fields.{is_no_space}

-- at most eight bytes, none of them a space; every macro name is so (proofs/Among.antt)
unfoldable pub fits_row : Bytes → Bool
fits_row s = leb (length s) macro_name_limit && every is_no_space s
