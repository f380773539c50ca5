-- A search for the byte of a symbol that is not known, one byte further. Assumes nothing.
use Prim.Native.Nat.{ℕ, ◌+◌, ◌≤◌, ◌<◌}
use native.Mathlib.Numerals.{add-one}
use mathlib.Core.Path.{◌≡◌, ap, sym, ◌∙◌}
use mathlib.Core.Bool.{true, false, ◌||◌}
use lib.Dec.{eqb}
use lib.ListN.{length, get_or, drop, drop_of_length-le}
use lib.Seq.{drop-cons}
use borrow.Author.Tests.{eq-eqb, ne_eqb}
use Rattle.text.specs.Bytes.{Bytes}
use Rattle.rules.specs.Choice.{any}
use Rattle.deck.specs.Coders.{unknown_code}
use Rattle.symbols.specs.Held.{unknown_in}

module _ (s : Bytes) (i : ℕ) where
  module _ (h : i < length s) where
    here : unknown_in (drop i s) ≡ (eqb (get_or s i 0) unknown_code || unknown_in (drop (i + 1) s))
    unfolding unknown_in any
    here = rw (drop-cons s i 0 h, add-one)

    pub unknown-found : get_or s i 0 ≡ unknown_code → unknown_in (drop i s) ≡ true
    unknown-found e = here ∙ ap (◌|| unknown_in (drop (i + 1) s)) (eq-eqb (get_or s i 0) unknown_code e)

    pub unknown-on : (get_or s i 0 ≡ unknown_code → ⊥) → unknown_in (drop (i + 1) s) ≡ unknown_in (drop i s)
    unknown-on d = sym (here ∙ ap (◌|| unknown_in (drop (i + 1) s)) (ne_eqb (get_or s i 0) unknown_code d))

  pub unknown-ended : length s ≤ i → unknown_in (drop i s) ≡ false
  unfolding unknown_in any
  unknown-ended h = ap unknown_in (drop_of_length-le s h)
