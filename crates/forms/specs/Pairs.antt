-- How a scan for the `)` that pairs with the `(` at the start goes on, by a byte. Assumes nothing.
use Rattle.std.specs.Prelude.{ℕ, suc, pred, Bool, not, ◌&&◌, eqb}
use Rattle.rules.specs.Choice.{choose}
use Rattle.rules.specs.Lexemes.{apostrophe, opening, closing}

unfoldable pub pairs_by : ℕ → Bool → ℕ → Bool
pairs_by c quoted depth = eqb c closing && (not quoted && eqb depth 1)

unfoldable pub quoted_by : ℕ → Bool → Bool
quoted_by c quoted = choose (eqb c apostrophe) (not quoted) quoted

unfoldable pub depth_by : ℕ → Bool → ℕ → ℕ
depth_by c quoted depth = choose quoted depth (choose (eqb c opening) (suc depth) (choose (eqb c closing) (pred depth) depth))
