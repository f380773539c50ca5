-- What the test of good form leaves in the index: where each line of each macro stands in the deck, what a call needs to know of a macro, and the titles.
use Rattle.std.specs.Prelude.{ℕ, Option, Some, None, ◌+◌, ◌*◌, ◌<◌, ◌≡◌, map, ltb, length, get_or}
use Rattle.text.specs.Bytes.{Bytes}
use Rattle.rules.specs.Choice.{choose}
use Rattle.deck.specs.Slots.{DeckMacro, Deck, no_macro, no_line, parameters}
use Rattle.deck.specs.Coders.{flag_code}
use Rattle.names.specs.Names.{titles_in, padded}
use Rattle.spans.specs.Spans.{part_of}
use Rattle.deck_reading.specs.Reading.{two_at, kinds_at, keyword_at, line_at}
use Rattle.deck_reading.specs.Heads.{things_from, keyword_end, globals_place, macros_place}
use Rattle.expand_levels.specs.declared.Level.{Level}
use Rattle.work_frames.specs.declared.Frame.{Frame}

unfoldable pub four_at : Bytes → ℕ → ℕ
four_at s at = two_at s at * 65536 + two_at s (at + 2)

-- A macro's row in the index, 16 bytes: where its keywords stand (4), the number of its first line (2) and how many it has (2), whether it has a name
-- parameter, how many positionals, keywords and parameters (1 each), where the kinds of its locals stand (4).
unfoldable pub keywords_in : Bytes → ℕ → ℕ
keywords_in index k = four_at index (2048 + 16 * k)

unfoldable pub first_in : Bytes → ℕ → ℕ
first_in index k = two_at index (2052 + 16 * k)

unfoldable pub count_in : Bytes → ℕ → ℕ
count_in index k = two_at index (2054 + 16 * k)

unfoldable pub named_in : Bytes → ℕ → ℕ
named_in index k = get_or index (2056 + 16 * k) 0

unfoldable pub positionals_in : Bytes → ℕ → ℕ
positionals_in index k = get_or index (2057 + 16 * k) 0

unfoldable pub keyword_count_in : Bytes → ℕ → ℕ
keyword_count_in index k = get_or index (2058 + 16 * k) 0

unfoldable pub parameter_count_in : Bytes → ℕ → ℕ
parameter_count_in index k = get_or index (2059 + 16 * k) 0

unfoldable pub locals_in : Bytes → ℕ → ℕ
locals_in index k = four_at index (2060 + 16 * k)

-- where line i of macro k stands in the deck, if there is one
unfoldable pub found_in : Bytes → ℕ → ℕ → Option ℕ
found_in index k i = choose (ltb i (count_in index k)) (Some (four_at index (4 * (first_in index k + i)))) None

-- how many macros a deck has: it says so behind the kinds of its globals
unfoldable pub macros_in : Bytes → ℕ
macros_in deck = two_at deck (macros_place deck)

unfoldable pub title_rows : Bytes → ℕ → Bytes
title_rows index n = part_of index 2560 (8 * n)

-- what evaluation is told of the level at a depth
unfoldable pub frame_in : Bytes → Level → ℕ → Frame
frame_in index l depth = record { depth = depth; params = parameter_count_in index l.body; number = l.number; locals = locals_in index l.body }

-- what row k says of a macro
pub record Row (deck index : Bytes) (k : ℕ) (m : DeckMacro) : Type 0 where
  pub named : named_in index k ≡ flag_code m.named
  pub positionals : positionals_in index k ≡ m.positionals
  pub keyword-count : keyword_count_in index k ≡ length m.keywords
  pub keywords : things_from keyword_at keyword_end deck (length m.keywords) (keywords_in index k) ≡ m.keywords
  pub parameter-count : parameter_count_in index k ≡ parameters m
  pub locals : kinds_at deck (locals_in index k) ≡ m.locals

pub record Indexed (d : Deck) (deck index : Bytes) : Type 0 where
  pub counts : (k : ℕ) → k < 32 → count_in index k ≡ length (get_or d.macros k no_macro).lines
  pub lines : (k i : ℕ) → k < 32 → i < length (get_or d.macros k no_macro).lines → line_at deck (four_at index (4 * (first_in index k + i))) ≡ get_or (get_or d.macros k no_macro).lines i no_line
  pub rows : (k : ℕ) → k < length d.macros → Row deck index k (get_or d.macros k no_macro)
  pub globals : kinds_at deck globals_place ≡ d.globals
  pub macros : macros_in deck ≡ length d.macros
  pub titles : titles_in (title_rows index (length d.macros)) ≡ map padded (map (λ m. m.title) d.macros)
