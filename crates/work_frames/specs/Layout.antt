-- The workspace's 32,768 bytes, region after region. Assumes nothing.
use Rattle.std.specs.Prelude.{ℕ, ◌+◌, ◌*◌}

-- cells of 256 bytes: 16 globals, then 16 locals for each of the levels 1 to 5; the first cell of a level
abbrev pub global_cell : ℕ
global_cell = 0

abbrev pub local_cell : ℕ → ℕ
local_cell depth = 16 * depth

-- where each body line starts in the deck: 512 rows of 4
abbrev pub lines_at : ℕ
lines_at = 24576

-- macros: 32 rows of 16, and their titles: 32 rows of 8
abbrev pub macros_at : ℕ
macros_at = 26624

abbrev pub titles_at : ℕ
titles_at = 27136

-- all three are written once, by the test of good form
abbrev pub index_size : ℕ
index_size = 2816

-- the section's name: its length and at most 71 bytes
abbrev pub section_at : ℕ
section_at = 27392

abbrev pub section_size : ℕ
section_size = 72

-- levels 1 to 5, 224 bytes each: section 72, parameters 16 rows of 4, call text 88
unfoldable pub level_at : ℕ → ℕ
level_at depth = 27240 + 224 * depth

abbrev pub level_size : ℕ
level_size = 224

abbrev pub section_in : ℕ
section_in = 0

abbrev pub parameters_in : ℕ
parameters_in = 72

abbrev pub text_in : ℕ
text_in = 136

-- behind the last level: 4,184 bytes are free
abbrev pub free_at : ℕ
free_at = 28584
