-- The numbers of document 01, each once: limits, and refusals by what they say. Assumes nothing.
use Rattle.std.specs.Prelude.{ℕ}

-- "Lines have 0 to 71 bytes"
abbrev pub line_limit : ℕ
line_limit = 71

-- "a letter, then up to 6 letters or digits"
abbrev pub name_limit : ℕ
name_limit = 7

-- "macro name (a letter, up to 7 more letters or digits)"
abbrev pub macro_name_limit : ℕ
macro_name_limit = 8

-- "Limits: 512 lines, 32 MACRO lines, 16 parameters a macro (name parameter included), 16 locals a macro, 16 globals a library,
-- parentheses and subscripts nested 8 deep"
abbrev pub library_limit : ℕ
library_limit = 512

abbrev pub macro_limit : ℕ
macro_limit = 32

abbrev pub parameter_limit : ℕ
parameter_limit = 16

abbrev pub local_limit : ℕ
local_limit = 16

abbrev pub global_limit : ℕ
global_limit = 16

abbrev pub nest_limit : ℕ
nest_limit = 8

-- "SETC: 0 to 255 bytes"
abbrev pub string_limit : ℕ
string_limit = 255

-- "ACTR's SETA expression must be 0 to 4096; without it 4096"
abbrev pub counter_limit : ℕ
counter_limit = 4096

-- "Calls are numbered 0001 to 9999 across all levels"
abbrev pub call_limit : ℕ
call_limit = 9999

-- "Levels run 1 to 5"
abbrev pub level_limit : ℕ
level_limit = 5

-- "open code over 65,535 bytes"
abbrev pub open_limit : ℕ
open_limit = 65535

-- "The workspace has 32,768 bytes or more"
abbrev pub workspace_size : ℕ
workspace_size = 32768

-- "Refusal numbers and places"
abbrev pub bad_byte : ℕ
bad_byte = 1

abbrev pub out_of_place : ℕ
out_of_place = 2

abbrev pub bad_name : ℕ
bad_name = 3

abbrev pub ill_formed : ℕ
ill_formed = 4

abbrev pub over_limit : ℕ
over_limit = 5

abbrev pub bad_call : ℕ
bad_call = 6

abbrev pub too_long : ℕ
too_long = 7

abbrev pub bad_value : ℕ
bad_value = 8

abbrev pub counter_spent : ℕ
counter_spent = 9

abbrev pub level_six : ℕ
level_six = 10

abbrev pub calls_spent : ℕ
calls_spent = 11

abbrev pub bad_deck : ℕ
bad_deck = 12

abbrev pub short_workspace : ℕ
short_workspace = 13

abbrev pub no_room : ℕ
no_room = 14

abbrev pub language_word : ℕ
language_word = 15

-- a run that is lent its steps and has spent them; no answer of the base version (`ends`)
abbrev pub steps_spent : ℕ
steps_spent = 16
