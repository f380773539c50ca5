-- An accepted library's deck is within the limits of 01: its globals, its macros, its lines.
use Prim.Native.Nat.{ℕ, ◌+◌, ◌≤◌, ◌<◌}
use native.Mathlib.Omega.{arith}
use mathlib.Core.Path.{◌≡◌, refl, ap, sym, ◌∙◌, subst}
use mathlib.Core.Bool.{true, false, ◌&&◌, not}
use mathlib.Core.List.{List, [], ◌∷◌, map, append-nil}
use lib.Dec.{leb, ltb}
use lib.ListN.{length, length-map}
use borrow.Author.Tests.{le-leb, leb-false, ltb-false}
use Rattle.text.specs.Bytes.{Bytes}
use Rattle.rules.specs.Limits.{library_limit, macro_limit, local_limit, global_limit, nest_limit}
use Rattle.rules.specs.Fields.{lines_of, is_empty}
use Rattle.rules.specs.Statement.{Set}
use Rattle.rules.specs.Form.{is_formed}
use Rattle.rules.specs.Library.{Macro, outer, in_body, macros_from, is_macro, locals_on, globals_on, declared_in, names_in, with_globals, globals_of}
use Rattle.rules.specs.ByLines.{reading}
use Rattle.rules.specs.Faults.{Around, kinds_of, is_past, is_over_limit, accepted, verdict}
use Rattle.rules.proofs.Logic.{or_left, or_right, then-not}
use Rattle.rules.proofs.Symbols.{length-seconds}
use Rattle.rules.proofs.Accepted.{Faultless, around}
use Rattle.rules.proofs.Walked.{with_append, Lines, end, next, Found, none, other, found, all_found}
use Rattle.deck.specs.Slots.{deck_macro, resolved_line, deck_in, resolved_library}
use Rattle.deck.specs.Good.{total_lines}
use Rattle.deck.proofs.Macros.{globals_in}

-- ---- lines

-- there is room for one more line
line-counted : {a : Around} {l : Bytes} {more : List Bytes} → Faultless a l more → a.lines < library_limit
unfolding is_over_limit
line-counted {a} h = leb-false library_limit a.lines (or_left _ _ h.within)

lines-counted : {p : Bytes} {m : ℕ} {ts : List Bytes} {n : ℕ} {gs : List (Bytes × Set)} {before rest : List Bytes} → Lines p m ts n gs before rest → n + length rest ≤ library_limit
lines-counted (end more e f) = omega (arith, line-counted f)
lines-counted (next more e f b) = omega (arith, lines-counted b)

abbrev body_lines : List Macro → ℕ
body_lines [] = 0
body_lines (x ∷ ms) = length x.body + body_lines ms

all-counted : {n m : ℕ} {ts : List Bytes} {gs : List (Bytes × Set)} {ms : List Macro} → Found n m ts gs ms → n ≤ library_limit → n + body_lines ms ≤ library_limit
all-counted none h = omega (arith, h)
all-counted (other l more e f r) h = omega (arith, all-counted r (line-counted f))
all-counted (found l more more₂ e f g b r) h = omega (arith, all-counted r (lines-counted b))

total-is : (gs : List (Bytes × Set)) (ms : List Macro) → total_lines (map (deck_macro gs) (map reading ms)) ≡ body_lines ms
unfolding total_lines deck_macro reading
total-is gs [] = refl
total-is gs (x ∷ ms) = λ i. length-map x.body (resolved_line (reading x) gs) i + total-is gs ms i

pub few-lines : (library : Bytes) → verdict library ≡ accepted → leb (total_lines (resolved_library library).macros) library_limit ≡ true
unfolding resolved_library deck_in
few-lines library e =
    let ms = macros_from outer (lines_of library) in
    ap (λ (n : ℕ). leb n library_limit) (total-is (globals_in library) ms)
    ∙ le-leb (body_lines ms) library_limit (omega (arith, all-counted (all_found library e) (omega arith)))

-- ---- macros

macro-counted : {n m : ℕ} {ts : List Bytes} {gs : List (Bytes × Set)} {l : Bytes} {more : List Bytes} → Faultless (around n m ts gs outer) l more → is_macro l ≡ true → m < macro_limit
unfolding is_over_limit is_past
macro-counted {n = n} {m = m} {l = l} h e = leb-false macro_limit m (then-not (is_macro l) _ (or_right (leb library_limit n) _ h.within) e)

macros-counted : {n m : ℕ} {ts : List Bytes} {gs : List (Bytes × Set)} {ms : List Macro} → Found n m ts gs ms → m ≤ macro_limit → m + length ms ≤ macro_limit
macros-counted none h = omega (arith, h)
macros-counted (other l more e f r) h = macros-counted r h
macros-counted (found l more more₂ e f g b r) h = omega (arith, macros-counted r (macro-counted f e))

pub few-macros : (library : Bytes) → verdict library ≡ accepted → leb (length (resolved_library library).macros) macro_limit ≡ true
unfolding resolved_library deck_in
few-macros library e =
    let ms = macros_from outer (lines_of library) in
    ap (λ (n : ℕ). leb n macro_limit) (length-map (map reading ms) (deck_macro (globals_in library)) ∙ length-map ms reading)
    ∙ le-leb (length ms) macro_limit (omega (arith, macros-counted (all_found library e) (omega arith)))

-- ---- globals

within_new : (gs new : List (Bytes × Set)) → length gs ≤ global_limit → (not (is_empty new) && ltb global_limit (length (with_globals gs new))) ≡ false
    → length (with_globals gs new) ≤ global_limit
unfolding is_empty with_globals
within_new gs [] h e = h
within_new gs (g ∷ new) h e = ltb-false global_limit (length (with_globals gs (g ∷ new))) e

globals-within : {p : Bytes} {n m : ℕ} {ts : List Bytes} {gs : List (Bytes × Set)} {before : List Bytes} {l : Bytes} {more : List Bytes}
    → Faultless (around n m ts gs (in_body p before)) l more → length gs ≤ global_limit → length (with_globals gs (globals_on l)) ≤ global_limit
unfolding is_over_limit is_past
globals-within {p = p} {n = n} {gs = gs} {before = before} {l = l} h few =
    within_new gs (globals_on l) few
    (or_right (not (is_empty (locals_on l)) && ltb local_limit (length (names_in p before).locals + length (locals_on l))) _
    (or_right (not (is_formed nest_limit (kinds_of (names_in p before) l))) _ (or_right (leb library_limit n) _ h.within)))

lines-globals : {p : Bytes} {m : ℕ} {ts : List Bytes} {n : ℕ} {gs : List (Bytes × Set)} {before rest : List Bytes} → Lines p m ts n gs before rest
    → length gs ≤ global_limit → length (with_globals gs (declared_in globals_on rest)) ≤ global_limit
unfolding declared_in
lines-globals (end {gs = gs} {l = l} more e f) h =
    subst (λ (new : List (Bytes × Set)). length (with_globals gs new) ≤ global_limit) (sym (append-nil (globals_on l))) (globals-within f h)
lines-globals (next {gs = gs} {l = l} {ls = ls} more e f b) h =
    subst (λ (all : List (Bytes × Set)). length all ≤ global_limit) (sym (with_append gs (globals_on l) (declared_in globals_on ls))) (lines-globals b (globals-within f h))

all-globals : {n m : ℕ} {ts : List Bytes} {gs : List (Bytes × Set)} {ms : List Macro} → Found n m ts gs ms → length gs ≤ global_limit
    → length (globals_of gs (map (λ r. r.names) (map reading ms))) ≤ global_limit
unfolding globals_of reading names_in
all-globals none h = h
all-globals (other l more e f r) h = all-globals r h
all-globals (found l more more₂ e f g b r) h = all-globals r (lines-globals b h)

pub few-globals : (library : Bytes) → verdict library ≡ accepted → leb (length (resolved_library library).globals) global_limit ≡ true
unfolding resolved_library deck_in
few-globals library e =
    ap (λ (n : ℕ). leb n global_limit) (length-seconds (globals_in library))
    ∙ le-leb (length (globals_in library)) global_limit (all-globals (all_found library e) (omega arith))
