-- Where everything stands in a deck in good form, and what it is: total, like Reading.
use Rattle.std.specs.Prelude.{ℕ, zero, suc, ◌+◌, List, [], ◌∷◌, eqb, get_or}
use Rattle.text.specs.Bytes.{Bytes}
use Rattle.rules.specs.Choice.{choose}
use Rattle.deck.specs.Slots.{DeckMacro, Deck}
use Rattle.deck.specs.Coders.{passes_code, ends_code, exits_code, text_code, models_code, branches_if_code, branches_code, counts_code}
use Rattle.deck_reading.specs.Reading.{two_at, run_at, run_end, flag_at, kinds_at, keyword_at, line_at}

-- things one behind another: what they are, and the place of the n-th
module _ {A : Type 0} (value : Bytes → ℕ → A) (end : Bytes → ℕ → ℕ) where
  unfoldable pub things_from : Bytes → ℕ → ℕ → List A
  things_from s zero at = []
  things_from s (suc n) at = value s at ∷ things_from s n (end s at)

unfoldable pub place_of : (Bytes → ℕ → ℕ) → Bytes → ℕ → ℕ → ℕ
place_of end s zero at = at
place_of end s (suc n) at = place_of end s n (end s at)

-- as many as a count before them says
unfoldable pub list_at : {A : Type 0} → (Bytes → ℕ → A) → (Bytes → ℕ → ℕ) → Bytes → ℕ → List A
list_at value end s at = things_from value end s (two_at s at) (at + 2)

unfoldable pub list_end : (Bytes → ℕ → ℕ) → Bytes → ℕ → ℕ
list_end end s at = place_of end s (two_at s at) (at + 2)

unfoldable pub keyword_end : Bytes → ℕ → ℕ
keyword_end s at = run_end s (run_end s at)

-- where a line ends, by the byte that says what it does
unfoldable pub line_end_by : ℕ → Bytes → ℕ → ℕ
line_end_by k s at =
    choose (eqb k passes_code) at
    (choose (eqb k ends_code) at
    (choose (eqb k exits_code) at
    (choose (eqb k text_code) (run_end s at)
    (choose (eqb k models_code) (run_end s (run_end s (run_end s at)))
    (choose (eqb k branches_if_code) (run_end s (at + 2))
    (choose (eqb k branches_code) (at + 2)
    (choose (eqb k counts_code) (run_end s at) (run_end s (run_end s at)))))))))

unfoldable pub line_end : Bytes → ℕ → ℕ
line_end s at = line_end_by (get_or s at 0) s (at + 1)

-- a macro: its name, a flag, a number, its keywords, the kinds of its locals, its lines
unfoldable pub keywords_place : Bytes → ℕ → ℕ
keywords_place s at = run_end s at + 1 + 2

unfoldable pub locals_place : Bytes → ℕ → ℕ
locals_place s at = list_end keyword_end s (keywords_place s at)

unfoldable pub body_place : Bytes → ℕ → ℕ
body_place s at = run_end s (locals_place s at)

unfoldable pub macro_at : Bytes → ℕ → DeckMacro
macro_at s at = record {
  title = run_at s at;
  named = flag_at s (run_end s at);
  positionals = two_at s (run_end s at + 1);
  keywords = list_at keyword_at keyword_end s (keywords_place s at);
  locals = kinds_at s (locals_place s at);
  lines = list_at line_at line_end s (body_place s at);
}

unfoldable pub macro_end : Bytes → ℕ → ℕ
macro_end s at = list_end line_end s (body_place s at)

-- the deck: behind its length and version, the globals' kinds and the macros
abbrev pub globals_place : ℕ
globals_place = 5

unfoldable pub macros_place : Bytes → ℕ
macros_place s = run_end s globals_place

unfoldable pub deck_at : Bytes → Deck
deck_at s = record { globals = kinds_at s globals_place; macros = list_at macro_at macro_end s (macros_place s) }

-- THE INDEX: where macro k stands, and where its line i does
unfoldable pub macro_place : Bytes → ℕ → ℕ
macro_place s k = place_of macro_end s k (macros_place s + 2)

unfoldable pub line_place : Bytes → ℕ → ℕ → ℕ
line_place s k i = place_of line_end s i (body_place s (macro_place s k) + 2)
