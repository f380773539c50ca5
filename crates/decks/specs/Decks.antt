-- A library's macros by the places where they stand, and their bytes in a deck from a place on. Assumes nothing.
use Rattle.std.specs.Prelude.{ℕ, ◌≡◌, ◌-◌, ◌<◌, List, ◌∷◌, ◌++◌, map, length, take, drop}
use Rattle.text.specs.Bytes.{Bytes}
use Rattle.rules.specs.Fields.{lines_of}
use Rattle.rules.specs.Statement.{Set}
use Rattle.rules.specs.Library.{Macro, outer, macros_from}
use Rattle.rules.specs.ByLines.{reading}
use Rattle.deck.specs.Coding.{two, four, put_all, list_of}
use Rattle.deck.specs.Coders.{kind, macro, version_byte}
use Rattle.deck.specs.Slots.{deck_macro}
use Rattle.decks.specs.declared.Macro.{Macro as Piece}
use Rattle.lines.specs.Ends.{line_end}
use Rattle.labels.specs.Searches.{line_at, past_newline, body_end, prototype_start}

-- where the body of the next macro from `at` on starts, and where it ends
unfoldable pub body_from : Bytes → ℕ → ℕ
body_from library at = past_newline library (line_end library (prototype_start library at))

unfoldable pub macro_end : Bytes → ℕ → ℕ
macro_end library at = body_end library (body_from library at)

-- the next macro from `at` on
unfoldable pub macro_at : Bytes → ℕ → Macro
macro_at library at = record {
  prototype = line_at library (prototype_start library at);
  body = lines_of (take (macro_end library at - body_from library at) (drop (body_from library at) library));
}

-- the next macro's prototype is from `start` to `end`, its body from `body` to `next`
pub record Found (library : Bytes) (at start end body next : ℕ) : Type 0 where
  pub start_is : start ≡ prototype_start library at
  pub end_is : end ≡ line_end library start
  pub body_is : body ≡ past_newline library end
  pub next-is : next ≡ body_end library body

-- the next macro from `at` on, as the code finds it: its prototype, its body, and the place behind it
pub record Stands (library : Bytes) (at : ℕ) (m : Piece) : Type 0 where
  pub start : ℕ
  pub end : ℕ
  pub from : ℕ
  pub found : Found library at start end from m.next
  pub inside : start < length library
  pub prototype : m.prototype.now ≡ take (end - start) (drop start library)
  pub body : m.body.now ≡ take (m.next - from) (drop from library)

-- all macros from `at` on, where `at` stands outside definitions
unfoldable pub macros_at : Bytes → ℕ → List Macro
macros_at library at = macros_from outer (lines_of (drop at library))

-- one macro's bytes, and those of all macros from `at` on
unfoldable pub macro_put : List (Bytes × Set) → Macro → Bytes
macro_put globals m = macro.put (deck_macro globals (reading m))

unfoldable pub macros_put : List (Bytes × Set) → Bytes → ℕ → Bytes
macros_put globals library at = put_all macro (map (deck_macro globals) (map reading (macros_at library at)))

-- what stands between a deck's count of bytes and its macros: the version, the kinds of the globals, the number of macros
unfoldable pub front_of : List Set → ℕ → Bytes
front_of kinds macros = version_byte ∷ ((list_of kind).put kinds ++ two.put macros)

-- a deck's bytes: their count, and the bytes
unfoldable pub sized : Bytes → Bytes
sized s = four.put (length s) ++ s
