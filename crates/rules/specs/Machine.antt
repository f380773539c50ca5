-- Document 01, "Expanding", "Deck and workspace", "Refusal numbers and places": a program is expanded by a machine. The machine is what is the same whether
-- a library's lines or a deck are read: levels, counters, call numbers, &SYSECT, room, steps, places.
use Rattle.std.specs.Prelude.{ℕ, zero, suc, pred, ◌+◌, ◌*◌, ◌-◌, Bool, true, false, ◌||◌, List, [], ◌∷◌, ◌++◌, map, eqb, ltb, length, drop, get_or, replicate, pos}
use Rattle.std.proofs.Math.Option.{Option, none, some}
use Rattle.text.specs.Bytes.{Bytes, bytes, same}
use Rattle.text.specs.Words.{place_among, words}
use Rattle.rules.specs.Choice.{choose, every}
use Rattle.rules.specs.Limits.{line_limit, counter_limit, call_limit, level_limit, open_limit, workspace_size, bad_byte, over_limit, bad_call, too_long, counter_spent, level_six, calls_spent, short_workspace, no_room, language_word, steps_spent}
use Rattle.rules.specs.Lexemes.{is_plain, lexed, unlexed, is_sequence}
use Rattle.rules.specs.Fields.{newline, lines_of, is_ill_written, statement_fields, is_empty}
use Rattle.rules.specs.Statement.{Set, set_a, set_b, set_c, Line}
use Rattle.rules.specs.Evaluate.{Value, number, truth, string, Cell}
use Rattle.rules.specs.Calls.{Operands, operands_of, map_operands, is_among, laid_out, trimmed}
use Rattle.rules.specs.Decide.{Act, next, leave, jump, renew, keep, use', state, refuse, decide}

-- what a call needs to know of a macro
pub record Header : Type 0 where
  pub named : Bool
  pub positionals : ℕ
  pub keywords : List (Bytes × Bytes)
  pub locals : List Set
  pub lines : ℕ

-- A level: a macro that runs. `list` is &SYSLIST (the call's name, then its positionals), `sect` &SYSECT, `number` &SYSNDX.
pub record Level : Type 0 where
  pub macro : ℕ
  pub line : ℕ
  pub counter : ℕ
  pub number : ℕ
  pub sect : Bytes
  pub list : List Bytes
  pub own : List Value

-- What expansion asks of a library or a deck: the names of its macros in their order, a macro's header, what a macro's line says at a level with these globals,
-- and the kinds of the globals.
pub record Machine : Type 0 where
  pub titles : List Bytes
  pub header : ℕ → Header
  pub line : ℕ → ℕ → Level → List Value → Line Cell ℕ
  pub globals : List Set

-- 01: "Locals start at 0, 0 or empty at each call. Globals start so once an expansion"
unfoldable pub start_of : Set → Value
start_of set_a = number (pos 0)
start_of set_b = truth false
start_of set_c = string []

-- a call: the name, and the operands as values
pub record Call : Type 0 where
  pub name : Bytes
  pub operands : Operands Bytes

unfoldable pub positional_values : ℕ → List Bytes → List Value
positional_values zero vs = []
positional_values (suc n) vs = string (get_or vs 0 []) ∷ positional_values n (drop 1 vs)

unfoldable pub keyword_value : Bytes → Bytes → List (Bytes × Bytes) → Bytes
keyword_value name default [] = default
keyword_value name default (k ∷ ks) = choose (same k.0 name) k.1 (keyword_value name default ks)

-- 01: "An omitted keyword takes its default."
unfoldable pub keyword_values : List (Bytes × Bytes) → List (Bytes × Bytes) → List Value
keyword_values [] given = []
keyword_values (k ∷ ks) given = string (keyword_value k.0 k.1 given) ∷ keyword_values ks given

unfoldable pub own_values : Header → Call → List Value
own_values h c =
    choose h.named (string c.name ∷ []) []
    ++ (positional_values h.positionals c.operands.positionals ++ (keyword_values h.keywords c.operands.keywords ++ map start_of h.locals))

unfoldable pub knows_keywords : Header → Call → Bool
knows_keywords h c = every (λ k. is_among k.0 h.keywords) c.operands.keywords

-- how far an expansion has come: the open lines still to be read, the number of the last one read, the steps taken
pub record Reached : Type 0 where
  pub lines : List Bytes
  pub line : ℕ
  pub steps : ℕ

-- what it has put out: the lines (the last one first), the room that is left, and the name of the last section among them
pub record Output : Type 0 where
  pub lines : List Bytes
  pub room : ℕ
  pub sect : Bytes

-- the state of an expansion; the innermost level is the first, `calls` counts the numbers given out
pub record State : Type 0 where
  pub reached : Reached
  pub output : Output
  pub levels : List Level
  pub shared : List Value
  pub calls : ℕ

-- what an expansion answers: lines, steps and output; or number, open line, body line and steps
pub data Answer : Type 0 where
  done : ℕ → ℕ → Bytes → Answer
  refused : ℕ → ℕ → ℕ → ℕ → Answer

pub data Move : Type 0 where
  on : State → Move
  stop : Answer → Move

-- 01: "Place: open line and body line of the innermost running macro, 0 in open code; the first line after the prototype is 1."
unfoldable pub body_line : List Level → ℕ
body_line [] = 0
body_line (l ∷ ls) = suc l.line

unfoldable pub refused_at : ℕ → State → Answer
refused_at e s = refused e s.reached.line (body_line s.levels) s.reached.steps

unfoldable pub refuses : ℕ → State → Move
refuses e s = stop (refused_at e s)

unfoldable pub with_levels : List Level → State → State
with_levels ls s = record { reached = s.reached; output = s.output; levels = ls; shared = s.shared; calls = s.calls }

-- 01: "&SYSECT is the name on the last output line read as CSECT, DSECT or START before the call"
unfoldable pub is_section : Bytes → Bool
is_section o = same o (bytes "CSECT") || (same o (bytes "DSECT") || same o (bytes "START"))

unfoldable pub sect_after : Bytes → Bytes → Bytes
sect_after line sect = let f = statement_fields line in choose (is_section f.operation) f.name sect

unfoldable pub put_out : Bytes → Output → Output
put_out line o = record { lines = line ∷ o.lines; room = o.room - suc (length line); sect = sect_after line o.sect }

-- 01: "Each output line ends in a newline." 14: "no room .. for the next output line". The levels go on as `ls`.
unfoldable pub puts : Bytes → List Level → State → Move
puts line ls s =
    choose (ltb (length line) s.output.room)
    (on (record { reached = s.reached; output = put_out line s.output; levels = ls; shared = s.shared; calls = s.calls })) (refuses no_room s)

-- a new level: its own values, counter, number and section name
unfoldable pub entered : Header → ℕ → Call → State → Level
entered h k c s = record {
  macro = k;
  line = 0;
  counter = counter_limit;
  number = suc s.calls;
  sect = s.output.sect;
  list = c.name ∷ c.operands.positionals;
  own = own_values h c;
}

-- 01: "then 7, 15, 6, 10, 11, 14". Macro `k` is called; its caller goes on as `ls` when it returns. "A refused call has its caller's place."
unfoldable pub enters : Machine → ℕ → Call → List Level → State → Move
enters m k c ls s =
    choose (knows_keywords (m.header k) c)
    (choose (ltb (length ls) level_limit)
    (choose (ltb s.calls call_limit)
    (on (record { reached = s.reached; output = s.output; levels = entered (m.header k) k c s ∷ ls; shared = s.shared; calls = suc s.calls }))
    (refuses calls_spent s))
    (refuses level_six s))
    (refuses bad_call s)

unfoldable pub calls : Machine → ℕ → Bytes → Option (Operands Bytes) → List Level → State → Move
calls m k name none ls s = refuses bad_call s
calls m k name (some os) ls s = enters m k (record { name = name; operands = os }) ls s

-- 01: "An open line is a call if its operation is a macro's name; else it is copied."
unfoldable pub is_title : Machine → Bytes → Bool
is_title m o = ltb (place_among m.titles o) (length m.titles)

unfoldable pub is_language_word : Bytes → Bool
is_language_word o = ltb (place_among words o) (length words)

-- 01: "A written sequence symbol is no name for the called macro."
unfoldable pub call_name : Bytes → Bytes
call_name name = choose (is_sequence name) [] name

-- the operands of a call whose values are the written bytes; "in open code `&` runs are even"
unfoldable pub written_operands : Bytes → Option (Operands Bytes)
written_operands operand = let x = lexed true operand in choose (every is_plain x) (map_operands unlexed (operands_of x)) none

-- A line that is used as it stands: an open line (X1: "1; a remark or a line with no operation is copied; a language word as operation is 15; a macro's name is a
-- call; else copied"), or a body line without symbols.
unfoldable pub uses : Machine → Bytes → List Level → State → Move
uses m line ls s =
    let f = statement_fields line in
    choose (is_ill_written line) (refuses bad_byte s)
    (choose (is_language_word f.operation) (refuses language_word s)
    (choose (is_title m f.operation) (calls m (place_among m.titles f.operation) (call_name f.name) (written_operands f.operand) ls s) (puts line ls s)))

-- A model statement after replacement. 01: "The operation after replacement decides whether it is a call." "A call's values keep their trailing spaces, and
-- these count in its line's length." 7, then 15, then the call or the output.
unfoldable pub states : Machine → Bytes → Bytes → Bytes → Option (Operands Bytes) → List Level → State → Move
states m name operation operand os ls s =
    let line = laid_out name operation operand in
    let called = is_title m operation in
    choose (is_empty operation || ltb line_limit (length (choose called line (trimmed line)))) (refuses too_long s)
    (choose (is_language_word operation) (refuses language_word s)
    (choose called (calls m (place_among m.titles operation) name os ls s) (puts (trimmed line) ls s)))

unfoldable pub advanced : Level → Level
advanced l = record { macro = l.macro; line = suc l.line; counter = l.counter; number = l.number; sect = l.sect; list = l.list; own = l.own }

unfoldable pub jumped : ℕ → Level → Level
jumped t l = record { macro = l.macro; line = t; counter = pred l.counter; number = l.number; sect = l.sect; list = l.list; own = l.own }

unfoldable pub renewed_to : ℕ → Level → Level
renewed_to n l = record { macro = l.macro; line = suc l.line; counter = n; number = l.number; sect = l.sect; list = l.list; own = l.own }

unfoldable pub keeping : List Value → Level → Level
keeping vs l = record { macro = l.macro; line = suc l.line; counter = l.counter; number = l.number; sect = l.sect; list = l.list; own = vs }

unfoldable pub with_shared : List Value → State → State
with_shared vs s = record { reached = s.reached; output = s.output; levels = s.levels; shared = vs; calls = s.calls }

-- what a body line makes of the state; `l` is the innermost level, `ls` the others
unfoldable pub acts : Machine → Act → Level → List Level → State → Move
acts m next l ls s = on (with_levels (advanced l ∷ ls) s)
acts m leave l ls s = on (with_levels ls s)
-- 01: "A taken AIF or AGO lowers the counter; one taken at 0 is refused."
acts m (jump t) l ls s = choose (eqb l.counter 0) (refuses counter_spent s) (on (with_levels (jumped t l ∷ ls) s))
acts m (renew n) l ls s = on (with_levels (renewed_to n l ∷ ls) s)
acts m (keep st) l ls s = on (with_levels (keeping st.own l ∷ ls) (with_shared st.shared s))
acts m (use' line) l ls s = uses m line (advanced l ∷ ls) s
acts m (state n o a os) l ls s = states m n o a os (advanced l ∷ ls) s
acts m (refuse e left) l ls s = refuses e s

-- 01: "Every open line and every body line reached, remarks, declarations and MEND included, is one step, a refused one too."
unfoldable pub reaching : List Bytes → ℕ → State → State
reaching ls n s = record {
  reached = record { lines = ls; line = n; steps = suc s.reached.steps };
  output = s.output;
  levels = s.levels;
  shared = s.shared;
  calls = s.calls;
}

unfoldable pub stepped : State → State
stepped s = reaching s.reached.lines s.reached.line s

unfoldable pub opened : List Bytes → State → State
opened ls s = reaching ls (suc s.reached.line) s

-- the lines put out, each with its newline; the last one stands first in the list
unfoldable pub output_of : List Bytes → Bytes → Bytes
output_of [] after = after
output_of (l ∷ ls) after = output_of ls (l ++ (newline ∷ after))

unfoldable pub open_move : Machine → List Bytes → State → Move
open_move m [] s = stop (done (length s.output.lines) s.reached.steps (output_of s.output.lines []))
open_move m (l ∷ ls) s = uses m l [] (opened ls s)

-- what the line that a level has come to does. (Behind its last line a macro ends; no accepted library and no deck in good form comes to that.)
unfoldable pub act_at : Machine → Level → List Value → Act
act_at m l shared = choose (ltb l.line (m.header l.macro).lines) (decide (m.line l.macro l.line l shared)) leave

unfoldable pub move : Machine → List Level → State → Move
move m [] s = open_move m s.reached.lines s
move m (l ∷ ls) s = acts m (act_at m l s.shared) l ls (stepped s)

-- A run that is lent a number of moves: each is one line reached, and the last one finds no more.
unfoldable pub runs : Machine → ℕ → State → Answer
runs m zero s = refused_at steps_spent s
runs m (suc n) s = elim (move m s.levels s) [ on s₁ ↦ runs m n s₁ | stop a ↦ a ]

unfoldable pub begun : Machine → List Bytes → ℕ → State
begun m program room = record {
  reached = record { lines = program; line = 0; steps = 0 };
  output = record { lines = []; room = room; sect = [] };
  levels = [];
  shared = map start_of m.globals;
  calls = 0;
}

unfoldable pub longest_in : (ℕ → Header) → ℕ → ℕ
longest_in h zero = 0
longest_in h (suc k) = let n = longest_in h k in choose (ltb n (h k).lines) (h k).lines n

-- 02, R-6: "at most the number of open lines plus calls times 4,097 times the longest body"; and the move that finds no line
unfoldable pub enough : Machine → ℕ → ℕ
enough m open-lines = suc (open-lines + call_limit * (suc counter_limit * longest_in m.header (length m.titles)))

unfoldable pub expands : Machine → Bytes → ℕ → Answer
expands m program room = let ls = lines_of program in runs m (enough m (length ls)) (begun m ls room)

-- 01: "Expansion: 13, 12, 5 (all line 0), then as run."
unfoldable pub at_once : ℕ → Answer
at_once e = refused e 0 0 0

unfoldable pub expansion : Machine → Bytes → ℕ → ℕ → Answer
expansion m program room work =
    choose (ltb work workspace_size) (at_once short_workspace) (choose (ltb open_limit (length program)) (at_once over_limit) (expands m program room))

-- 01: "A refusal zeroes all of the output; success changes only the bytes written."
unfoldable pub output_after : Answer → Bytes → Bytes
output_after (done n k s) out = s ++ drop (length s) out
output_after (refused e i j k) out = replicate (length out) 0

-- 01: "its first 32,768 are zero after every expansion, the others unchanged. Too short, it stays unchanged."
unfoldable pub workspace_after : Bytes → Bytes
workspace_after w = choose (ltb (length w) workspace_size) w (replicate workspace_size 0 ++ drop workspace_size w)

-- what an expansion leaves: its answer, and every byte of the two buffers
pub record Outcome : Type 0 where
  pub answer : Answer
  pub output : Bytes
  pub workspace : Bytes

unfoldable pub outcome : Machine → Bytes → Bytes → Bytes → Outcome
outcome m program out work =
    let a = expansion m program (length out) (length work) in
    record { answer = a; output = output_after a out; workspace = workspace_after work }
