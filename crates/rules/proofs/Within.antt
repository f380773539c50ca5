-- In an accepted library the limits are kept: its lines, its macros, each macro's parameters and locals; and each prototype stands without fault.
use Prim.Native.Nat.{ℕ, suc, ◌+◌, ◌≤◌, ◌<◌}
use native.Mathlib.Omega.{arith}
use mathlib.Core.Path.{◌≡◌, refl, ap, ◌∙◌, subst}
use mathlib.Core.Bool.{Bool, true, false, ◌&&◌, not}
use mathlib.Core.List.{List, [], ◌∷◌, ◌++◌, append_assoc, append-nil}
use lib.Dec.{leb, ltb}
use lib.ListN.{length, drop, length-append}
use borrow.Author.Tests.{leb-false, ltb-false}
use Rattle.text.specs.Bytes.{Bytes}
use Rattle.rules.specs.Choice.{choose}
use Rattle.rules.specs.Limits.{nest_limit, library_limit, macro_limit, parameter_limit, local_limit}
use Rattle.rules.specs.Lexemes.{Lex, byte, mark, ref, lone, lexed, unlexed}
use Rattle.rules.specs.Fields.{lines_of, fields_of, is_empty}
use Rattle.rules.specs.Statement.{Set}
use Rattle.rules.specs.Form.{is_formed}
use Rattle.rules.specs.Calls.{equals_at, has_equals}
use Rattle.rules.specs.Library.{Macro, Place, outer, at_prototype, in_body, is_macro, is_mend, macros_from, start_symbol, positional_names, with_default, keyword_names, operand_parts, locals_on, globals_on, declared_in, names_in, firsts, parameter_names, with_globals}
use Rattle.rules.specs.Faults.{Around, no_lines, kinds_of, is_past, is_over_limit, place_after, titles_after, globals_after, macros_after, around_after, accepted, at_end, verdict_from, verdict}
use Rattle.rules.proofs.Choices.{either}
use Rattle.rules.proofs.Logic.{or_left, or_right, then-not, All}
use Rattle.rules.proofs.Symbols.{length-firsts}
use Rattle.rules.proofs.OneKind.{declared-in-turn}
use Rattle.rules.proofs.Accepted.{Faultless, refused, first-line, around, Stands, Body, last, line}

-- ---- lines and macros

-- a prototype that stands without fault
pub record Prototype (p : Bytes) : Type 0 where
  pub lines : ℕ
  pub macros : ℕ
  pub titles : List Bytes
  pub globals : List (Bytes × Set)
  pub more : List Bytes
  pub is-faultless : Faultless (around lines macros titles globals at_prototype) p more

-- the macro that has been started, and its prototype
abbrev started : Place → ℕ
started outer = 0
started at_prototype = 1
started (in_body p before) = 1

abbrev Begun : Place → Type 0
Begun outer = Unit {0}
Begun at_prototype = Unit {0}
Begun (in_body p before) = Prototype p

record Kept (n m : ℕ) (w : Place) (ls : List Bytes) (found : List Macro) : Type 0 where
  few-lines : n + length ls ≤ library_limit
  few-macros : m + length found ≤ macro_limit + started w
  prototypes : All (λ x. Prototype x.prototype) found

abbrev Tells : List Bytes → Place → Type 0
Tells ls w = (n m : ℕ) (ts : List Bytes) (gs : List (Bytes × Set)) → verdict_from (around n m ts gs w) ls ≡ accepted → n ≤ library_limit → m ≤ macro_limit → Begun w
    → Kept n m w ls (macros_from w ls)

-- one more line is within the limit
line-within : {a : Around} {l : Bytes} {ls : List Bytes} → Faultless a l ls → a.lines < library_limit
unfolding is_over_limit
line-within {a} x = leb-false library_limit a.lines (or_left (leb library_limit a.lines) _ x.within)

-- and so is one more MACRO line
macro-within : {n m : ℕ} {ts : List Bytes} {gs : List (Bytes × Set)} {l : Bytes} {ls : List Bytes} → Faultless (around n m ts gs outer) l ls → is_macro l ≡ true → m < macro_limit
unfolding is_over_limit is_past
macro-within {n} {m} {l = l} x e = leb-false macro_limit m (then-not (is_macro l) _ (or_right (leb library_limit n) _ x.within) e)

tells : (ls : List Bytes) (w : Place) → Tells ls w
unfolding verdict_from macros_from at_end around_after place_after macros_after titles_after globals_after choose
tells [] outer n m ts gs h hn hm b = record { few-lines = omega arith; few-macros = omega arith; prototypes = tt }
tells [] at_prototype n m ts gs h hn hm b = refused h
tells [] (in_body p before) n m ts gs h hn hm b = refused h
tells (l ∷ ls) outer n m ts gs h hn hm b =
    let r = first-line (around n m ts gs outer) l ls h in
    go (is_macro l) (macro-within r.0) (line-within r.0) r.1 (tells ls outer) (tells ls at_prototype)
  where
    go : (b : Bool) → (b ≡ true → m < macro_limit) → n < library_limit → verdict_from (around (suc n) (choose b (suc m) m) ts gs (choose b at_prototype outer)) ls ≡ accepted
        → Tells ls outer → Tells ls at_prototype → Kept n m outer (l ∷ ls) (choose b (macros_from at_prototype ls) (macros_from outer ls))
    go true hm' hn' h f g =
        let k = g (suc n) (suc m) ts gs h hn' (hm' refl) tt in
        record { few-lines = omega (arith, k.few-lines); few-macros = omega (arith, k.few-macros); prototypes = k.prototypes }
    go false hm' hn' h f g =
        let k = f (suc n) m ts gs h hn' hm tt in
        record { few-lines = omega (arith, k.few-lines); few-macros = omega (arith, k.few-macros); prototypes = k.prototypes }
tells (l ∷ ls) at_prototype n m ts gs h hn hm b =
    let r = first-line (around n m ts gs at_prototype) l ls h in
    let k = tells ls (in_body l []) (suc n) m _ gs r.1 (line-within r.0) hm
    (record { lines = n; macros = m; titles = ts; globals = gs; more = ls; is-faultless = r.0 }) in
    record { few-lines = omega (arith, k.few-lines); few-macros = omega (arith, k.few-macros); prototypes = k.prototypes }
tells (l ∷ ls) (in_body p before) n m ts gs h hn hm b =
    let r = first-line (around n m ts gs (in_body p before)) l ls h in
    go (is_mend l) (line-within r.0) r.1 (tells ls outer) (tells ls (in_body p (before ++ (l ∷ []))))
  where
    go : (e : Bool) → n < library_limit
        → verdict_from (around (suc n) m ts (with_globals gs (globals_on l)) (choose e outer (in_body p (before ++ (l ∷ []))))) ls ≡ accepted
        → Tells ls outer → Tells ls (in_body p (before ++ (l ∷ [])))
        → Kept n m (in_body p before) (l ∷ ls) (choose e (record { prototype = p; body = before ++ (l ∷ []) } ∷ macros_from outer ls) (macros_from (in_body p (before ++ (l ∷ []))) ls))
    go true hn' h f g =
        let k = f (suc n) m ts (with_globals gs (globals_on l)) h hn' hm tt in
        record { few-lines = omega (arith, k.few-lines); few-macros = omega (arith, k.few-macros); prototypes = (b, k.prototypes) }
    go false hn' h f g =
        let k = g (suc n) m ts (with_globals gs (globals_on l)) h hn' hm b in
        record { few-lines = omega (arith, k.few-lines); few-macros = omega (arith, k.few-macros); prototypes = k.prototypes }

abbrev macros_in : Bytes → List Macro
macros_in library = macros_from outer (lines_of library)

kept : (library : Bytes) → verdict library ≡ accepted → Kept 0 0 outer (lines_of library) (macros_in library)
unfolding verdict no_lines
kept library e = tells (lines_of library) outer 0 0 [] [] e (omega arith) (omega arith) tt

pub few-lines : (library : Bytes) → verdict library ≡ accepted → length (lines_of library) ≤ library_limit
few-lines library e = omega (arith, (kept library e).few-lines)

pub few-macros : (library : Bytes) → verdict library ≡ accepted → length (macros_in library) ≤ macro_limit
few-macros library e = omega (arith, (kept library e).few-macros)

pub all-prototypes : (library : Bytes) → verdict library ≡ accepted → All (λ x. Prototype x.prototype) (macros_in library)
all-prototypes library e = (kept library e).prototypes

-- ---- the lines of all bodies are lines of the library

abbrev pub bodies : List Macro → ℕ
bodies [] = 0
bodies (m ∷ ms) = length m.body + bodies ms

abbrev held : Place → ℕ
held outer = 0
held at_prototype = 0
held (in_body p before) = length before

bodies-bound : (w : Place) (ls : List Bytes) → bodies (macros_from w ls) ≤ held w + length ls
unfolding macros_from
bodies-bound outer [] = omega arith
bodies-bound at_prototype [] = omega arith
bodies-bound (in_body p b) [] = omega arith
bodies-bound outer (l ∷ ls) =
    either (λ ms. bodies ms ≤ 0 + suc (length ls)) (is_macro l) (λ e. omega (arith, bodies-bound at_prototype ls)) (λ e. omega (arith, bodies-bound outer ls))
bodies-bound at_prototype (l ∷ ls) = omega (arith, bodies-bound (in_body l []) ls)
bodies-bound (in_body p b) (l ∷ ls) =
    either (λ ms. bodies ms ≤ length b + suc (length ls)) (is_mend l)
    (λ e. omega (arith, bodies-bound outer ls, length-append b (l ∷ [])))
    (λ e. omega (arith, bodies-bound (in_body p (b ++ (l ∷ []))) ls, length-append b (l ∷ [])))

pub few-body-lines : (library : Bytes) → verdict library ≡ accepted → bodies (macros_in library) ≤ library_limit
few-body-lines library e = omega (arith, bodies-bound outer (lines_of library), few-lines library e)

-- ---- parameters

one_at_most : (x : List (Lex Bytes)) → length (start_symbol x) ≤ 1
unfolding start_symbol
one_at_most [] = omega arith
one_at_most (byte c ∷ x) = omega arith
one_at_most (mark ∷ x) = omega arith
one_at_most (ref n ∷ x) = omega arith
one_at_most (lone ∷ x) = omega arith

default-for : (ns : List Bytes) (d : Bytes) → length (with_default ns d) ≤ length ns
unfolding with_default
default-for [] d = omega arith
default-for (n ∷ ns) d = omega arith

-- a part of a prototype's operand is one parameter at most
part-names : (ps : List (List (Lex Bytes))) → length (positional_names ps) + length (keyword_names ps) ≤ length ps
unfolding positional_names keyword_names choose
part-names [] = omega arith
part-names (p ∷ ps) = go (has_equals p) (unlexed (drop (suc (equals_at p)) p)) (part-names ps)
  where
    go : (b : Bool) (d : Bytes) → length (positional_names ps) + length (keyword_names ps) ≤ length ps
        → length (choose b [] (start_symbol p) ++ positional_names ps) + length (choose b (with_default (start_symbol p) d) [] ++ keyword_names ps) ≤ suc (length ps)
    go true d h =
        omega (arith, h, length-append (with_default (start_symbol p) d) (keyword_names ps), default-for (start_symbol p) d, one_at_most p)
    go false d h = omega (arith, h, length-append (start_symbol p) (positional_names ps), one_at_most p)

pub few-parameters : (p : Bytes) (body : List Bytes) → Prototype p → length (parameter_names (names_in p body)) ≤ parameter_limit
unfolding parameter_names names_in is_over_limit is_past
few-parameters p body x =
    let f = fields_of p in
    let ps = operand_parts f in
    let n = start_symbol (lexed false f.name) in
    let w = ltb-false parameter_limit (length ps + length n) (or_right (leb library_limit x.lines) _ x.is-faultless.within) in
    omega (
      arith,
      w,
      part-names ps,
      length-append n (positional_names ps ++ firsts (keyword_names ps)),
      length-append (positional_names ps) (firsts (keyword_names ps)),
      length-firsts (keyword_names ps),
    )

-- ---- locals

line-locals : {p : Bytes} {before : List Bytes} {l : Bytes} {after : List Bytes} → Stands p before l after → length (declared_in locals_on before) ≤ local_limit
    → length (declared_in locals_on before) + length (locals_on l) ≤ local_limit
unfolding is_over_limit is_past names_in is_empty
line-locals {p} {before} {l} x h =
    let k = length (declared_in locals_on before) + length (locals_on l) in
    let formed = is_formed nest_limit (kinds_of (names_in p before) l) in
    go (locals_on l) (or_left (not (is_empty (locals_on l)) && ltb local_limit k) _ (or_right (not formed) _ (or_right (leb library_limit x.lines) _ x.is-faultless.within)))
  where
    go : (new : List (Bytes × Set)) → (not (is_empty new) && ltb local_limit (length (declared_in locals_on before) + length new)) ≡ false
        → length (declared_in locals_on before) + length new ≤ local_limit
    go [] e = omega arith
    go (n ∷ new) e = ltb-false local_limit (length (declared_in locals_on before) + suc (length new)) e

declared-length : (before : List Bytes) (l : Bytes) → length (declared_in locals_on (before ++ (l ∷ []))) ≡ length (declared_in locals_on before) + length (locals_on l)
unfolding declared_in
declared-length before l =
    ap length (declared-in-turn locals_on before (l ∷ []))
    ∙ (length-append (declared_in locals_on before) (locals_on l ++ []) ∙ ap (λ (x : List (Bytes × Set)). length (declared_in locals_on before) + length x) (append-nil (locals_on l)))

body-locals : {p : Bytes} {before rest : List Bytes} → Body p before rest → length (declared_in locals_on before) ≤ local_limit → length (declared_in locals_on (before ++ rest)) ≤ local_limit
body-locals {before = before} (last {l = l} e x) h = omega (arith, line-locals x h, declared-length before l)
body-locals (line {before = before} {l = l} {ls = ls} e x b) h =
    subst (λ (s : List Bytes). length (declared_in locals_on s) ≤ local_limit) (append_assoc before (l ∷ []) ls)
    (body-locals b (omega (arith, line-locals x h, declared-length before l)))

pub few-locals : (p : Bytes) (body : List Bytes) → Body p [] body → length (names_in p body).locals ≤ local_limit
unfolding names_in declared_in
few-locals p body b = body-locals b (omega arith)
