-- Names in tables of rows of eight bytes, and what a name is in a deck by such tables. Every list of bytes is a table. Assumes nothing.
use Rattle.std.specs.Prelude.{ℕ, zero, suc, ◌-◌, ◌/◌, min, List, [], ◌∷◌, ◌++◌, ltb, length, get_or, take, drop, replicate}
use Rattle.text.specs.Bytes.{Bytes}
use Rattle.text.specs.Words.{place_among}
use Rattle.rules.specs.Choice.{choose}
use Rattle.rules.specs.Lexemes.{space}
use Rattle.deck.specs.Slots.{Slot, own, shared, system_slot}
use Rattle.deck.specs.Coders.{slot_code, no_code}

-- what n rows hold, where a row's text is what `text` finds at its start
unfoldable pub rows_by : (Bytes → Bytes) → ℕ → Bytes → List Bytes
rows_by text zero t = []
rows_by text (suc n) t = text t ∷ rows_by text n (drop 8 t)

-- the name in a row: its length, at most 7, and then its bytes
unfoldable pub name_in : Bytes → Bytes
name_in row = take (min (get_or row 0 0) 7) (drop 1 row)

unfoldable pub names_in : Bytes → List Bytes
names_in t = rows_by name_in (length t / 8) t

-- What a name is, by a macro's own names, the names of its GBL statements and the library's globals: `resolved` of the deck, for names in lists
-- (proofs/Slots.antt).
unfoldable pub slot_in : List Bytes → List Bytes → List Bytes → Bytes → Slot
slot_in mine global globals n =
    let p = place_among mine n in
    choose (ltb p (length mine)) (own p) (choose (ltb (place_among global n) (length global)) (shared (place_among globals n)) (system_slot n))

-- The byte of a name in a deck, by three tables. It is the slot's code, or `no_code` where a table is so long that the code is no byte; with at most 64
-- own names and 32 globals it is always the slot's code (proofs/Slots.antt).
unfoldable pub slot_byte : Bytes → Bytes → Bytes → Bytes → ℕ
slot_byte mine global globals n = min (slot_code (slot_in (names_in mine) (names_in global) (names_in globals) n)) no_code

-- macros' names stand in rows with blanks behind them
unfoldable pub titles_in : Bytes → List Bytes
titles_in t = rows_by (take 8) (length t / 8) t

unfoldable pub padded : Bytes → Bytes
padded name = name ++ replicate (8 - length name) space
