-- The deck of an accepted library has at most 65,536 bytes: a line's code is at most 7 bytes longer than the line, and a macro's head is short.
use Prim.Native.Nat.{ℕ, ◌+◌, ◌*◌, ◌≤◌, ◌<◌}
use native.Mathlib.Omega.{arith}
use mathlib.Core.Path.{◌≡◌, refl, ap}
use mathlib.Core.List.{List, [], ◌∷◌, ◌++◌, map}
use lib.ListN.{length, get_or, length-map, length-append}
use Rattle.text.specs.Bytes.{Bytes}
use Rattle.rules.specs.Limits.{line_limit, parameter_limit, local_limit}
use Rattle.rules.specs.Lexemes.{Lex, unlexed}
use Rattle.rules.specs.Fields.{lines_of}
use Rattle.rules.specs.Statement.{Set, Line, Does, passes, ends, exits, text, models, sets, branches_if, branches, counts, map_lex, map_does, map_line, read}
use Rattle.rules.specs.Library.{Macro, outer, macros_from, seconds, line_named}
use Rattle.rules.specs.ByLines.{Reading, reading}
use Rattle.rules.specs.Faults.{accepted, verdict}
use Rattle.rules.proofs.Symbols.{length-seconds}
use Rattle.rules.proofs.ReadLines.{lexemes-short, Shape, Reads}
use Rattle.rules.proofs.BodyLines.{line-written, line-says}
use Rattle.rules.proofs.Accepted.{readings}
use Rattle.rules.proofs.OneKind.{globals_in, few-globals}
use Rattle.rules.proofs.Within.{bodies, few-macros, few-body-lines}
use Rattle.rules.proofs.Keywords.{keyword_bytes}
use Rattle.rules.proofs.Taken.{Taken, all-taken, is_known, title-written, own-locals, positionals-and-keywords, own-keywords}
use Rattle.deck.specs.Coding.{Coder, byte, two, four, pair, via, put_all, list_of}
use Rattle.deck.specs.Slots.{Slot, DeckMacro, resolved, resolved_line, deck_macro, deck_in, resolved_library}
use Rattle.deck.specs.Coders.{lexeme, field, string, kind, flag, put_line_by, line, parts_of, macro, contents, encoded}
use Rattle.deck.specs.Translation.{deck_of}
use Rattle.rules.proofs.Logic.{All}
use Rattle.deck.proofs.Lists.{all-mapped}

-- ---- fields: a byte for each element, and two for the count

-- what a coder of one byte writes of a list
ones : {A : Type 0} (c : Coder A) → ((a : A) → length (c.put a) ≡ 1) → (l : List A) → length (put_all c l) ≡ length l
unfolding put_all
ones c h [] = refl
ones c h (a ∷ l) = omega (arith, h a, ones c h l, length-append (c.put a) (put_all c l))

list-size : {A : Type 0} (c : Coder A) → ((a : A) → length (c.put a) ≡ 1) → (l : List A) → length ((list_of c).put l) ≡ 2 + length l
unfolding list_of two
list-size c h l = omega (arith, ones c h l)

field-size : (x : List (Lex Slot)) → length (field.put x) ≡ 2 + length x
unfolding field lexeme via byte
field-size = list-size lexeme (λ a. refl)

string-size : (s : Bytes) → length (string.put s) ≡ 2 + length s
unfolding string byte
string-size = list-size byte (λ a. refl)

kinds-size : (ks : List Set) → length ((list_of kind).put ks) ≡ 2 + length ks
unfolding kind via byte
kinds-size = list-size kind (λ a. refl)

-- ---- lines

lexemes-size : (f : Bytes → Slot) (x : List (Lex Bytes)) → length (field.put (map (map_lex f) x)) ≤ 2 + length (unlexed x)
lexemes-size f x = omega (arith, field-size (map (map_lex f) x), length-map x (map_lex f), lexemes-short x)

abbrev line_cost : ℕ
line_cost = 7

module _ (l : Bytes) (r : Line Bytes Bytes) (f : Bytes → Slot) (g : Bytes → ℕ) (h : Reads l r) where
  abbrev m : Line Slot ℕ
  m = map_line f g r

  name-size : length (field.put m.name) ≤ 2 + length (unlexed r.name)
  unfolding map_line
  name-size = lexemes-size f r.name

  operation-size : length (field.put m.operation) ≤ 2 + length (unlexed r.operation)
  unfolding map_line
  operation-size = lexemes-size f r.operation

  operand-size : length (field.put m.operand) ≤ 2 + length (unlexed r.operand)
  unfolding map_line
  operand-size = lexemes-size f r.operand

  doing-size : (d : Does Bytes) → Shape l r d → length (put_line_by m (map_does g d)) ≤ line_cost + length l
  unfolding put_line_by map_does two
  doing-size passes s = omega arith
  doing-size ends s = omega arith
  doing-size exits s = omega arith
  doing-size (text t) s = omega (arith, string-size t, ap length s.0)
  doing-size models s = omega (
    arith,
    h.total,
    name-size,
    operation-size,
    operand-size,
    length-append (field.put m.name) (field.put m.operation ++ field.put m.operand),
    length-append (field.put m.operation) (field.put m.operand),
  )
  doing-size (sets k) s = omega (arith, h.total, name-size, operand-size, length-append (field.put m.name) (field.put m.operand))
  doing-size (branches_if t) s = omega (arith, h.total, operand-size)
  doing-size (branches t) s = omega arith
  doing-size counts s = omega (arith, h.total, operand-size)

abbrev line_size : ℕ
line_size = line_cost + line_limit

lines-size : (ls : List (Line Slot ℕ)) → All (λ l. length (line.put l) ≤ line_size) ls → length (put_all line ls) ≤ line_size * length ls
unfolding put_all
lines-size [] h = omega arith
lines-size (l ∷ ls) h = omega (arith, h.0, lines-size ls h.1, length-append (line.put l) (put_all line ls))

-- ---- macros

keywords-size : (ks : List (Bytes × Bytes)) → length (put_all (pair string string) ks) ≡ 4 * length ks + keyword_bytes ks
unfolding put_all pair
keywords-size [] = refl
keywords-size (k ∷ ks) = omega (
  arith,
  string-size k.0,
  string-size k.1,
  keywords-size ks,
  length-append (string.put k.0) (string.put k.1),
  length-append (string.put k.0 ++ string.put k.1) (put_all (pair string string) ks),
)

-- a macro's head: name, flag, positionals, keywords, locals, and the count of its lines
abbrev head_size : ℕ
head_size = (2 + line_limit) + (1 + (2 + ((2 + (4 * parameter_limit + line_limit)) + ((2 + local_limit) + 2))))

module _ {r : Reading} (a : Taken r) (globals : List (Bytes × Set)) where
  line-size : (i : ℕ) → i < length r.body → length (line.put (resolved_line r globals (get_or r.body i []))) ≤ line_size
  unfolding line resolved_line map_line
  line-size i h =
      let l = get_or r.body i [] in
      let s = line-says (is_known a) i h in
      omega (arith, (line-written (is_known a) i h).0, doing-size l (read l) (resolved r.names globals) (λ t. line_named t r.body) s (read l).does s.shape)

  abbrev d : DeckMacro
  d = deck_macro globals r

  abbrev keywords_put : Bytes
  keywords_put = (list_of (pair string string)).put d.keywords

  abbrev locals_put : Bytes
  locals_put = (list_of kind).put d.locals

  abbrev lines_put : Bytes
  lines_put = (list_of line).put d.lines

  keywords-put : length keywords_put ≤ 2 + (4 * parameter_limit + line_limit)
  unfolding deck_macro list_of two
  keywords-put = omega (arith, keywords-size r.names.keywords, positionals-and-keywords a, (own-keywords a).0)

  locals-put : length locals_put ≤ 2 + local_limit
  unfolding deck_macro
  locals-put = omega (arith, kinds-size (seconds r.names.locals), own-locals a, length-seconds r.names.locals)

  lines-put : length lines_put ≤ 2 + line_size * length r.body
  unfolding deck_macro list_of two
  lines-put =
      let ls = map (resolved_line r globals) r.body in
      omega (arith, lines-size ls (all-mapped (λ l. length (line.put l) ≤ line_size) (resolved_line r globals) r.body [] line-size), length-map r.body (resolved_line r globals))

  macro-size : length (macro.put d) ≤ head_size + line_size * length r.body
  unfolding macro via pair parts_of flag byte two deck_macro
  macro-size =
      omega (
        arith,
        string-size r.title,
        (title-written a).0,
        keywords-put,
        locals-put,
        lines-put,
        length-append (string.put r.title) (flag.put d.named ++ (two.put d.positionals ++ (keywords_put ++ (locals_put ++ lines_put)))),
        length-append keywords_put (locals_put ++ lines_put),
        length-append locals_put lines_put,
      )

-- ---- the deck

bodies_in : List Reading → ℕ
bodies_in [] = 0
bodies_in (r ∷ rs) = length r.body + bodies_in rs

bodies-same : (ms : List Macro) → bodies_in (map reading ms) ≡ bodies ms
unfolding bodies_in reading
bodies-same [] = refl
bodies-same (m ∷ ms) = ap (λ (n : ℕ). length m.body + n) (bodies-same ms)

macros-size : (globals : List (Bytes × Set)) (rs : List Reading) → All Taken rs
    → length (put_all macro (map (deck_macro globals) rs)) ≤ head_size * length rs + line_size * bodies_in rs
unfolding put_all bodies_in
macros-size globals [] h = omega arith
macros-size globals (r ∷ rs) h =
    omega (arith, macro-size h.0 globals, macros-size globals rs h.1, length-append (macro.put (deck_macro globals r)) (put_all macro (map (deck_macro globals) rs)))

count-and-macros : (globals : List (Bytes × Set)) (rs : List Reading) → All Taken rs
    → length ((list_of macro).put (map (deck_macro globals) rs)) ≤ 2 + (head_size * length rs + line_size * bodies_in rs)
unfolding list_of two
count-and-macros globals rs h = omega (arith, macros-size globals rs h)

pub deck-size : (library : Bytes) → verdict library ≡ accepted → length (deck_of library) ≤ 65536
unfolding deck_of encoded contents resolved_library deck_in via pair four
deck-size library e =
    let ms = macros_from outer (lines_of library) in
    let rs = readings library in
    let globals = globals_in library in
    let kinds_put = (list_of kind).put (seconds globals) in
    let macros_put = (list_of macro).put (map (deck_macro globals) rs) in
    omega (
      arith,
      kinds-size (seconds globals),
      length-seconds globals,
      few-globals library e,
      count-and-macros globals rs (all-taken library e),
      length-map ms reading,
      bodies-same ms,
      few-macros library e,
      few-body-lines library e,
      length-append kinds_put macros_put,
    )
