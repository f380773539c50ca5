-- What acceptance says of a macro: its prototype and the lines of its body are such that their symbols fit into tables and agree. Assumes nothing.
use Prim.Native.Nat.{ℕ, ◌+◌, ◌≤◌}
use native.Mathlib.Omega.{arith}
use mathlib.Core.Path.{◌≡◌, refl, ap, sym, ◌∙◌, subst}
use mathlib.Core.Bool.{Bool, true, false, ◌&&◌, ◌||◌, not}
use mathlib.Core.List.{List, [], ◌∷◌, ◌++◌, append-nil}
use lib.Dec.{leb, ltb}
use lib.ListN.{length}
use borrow.Author.Tests.{not-false, ltb-false}
use Rattle.text.specs.Bytes.{Bytes, bytes, same}
use Rattle.rules.specs.Choice.{any}
use Rattle.rules.specs.Limits.{library_limit, parameter_limit, local_limit, global_limit, nest_limit}
use Rattle.rules.specs.Lexemes.{lexed, is_long}
use Rattle.rules.specs.Fields.{Fields, fields_of, statement_fields, is_empty, starts_with}
use Rattle.rules.specs.Statement.{Set, set_a, Statement, macro, mend, mexit, local, global, set, aif, ago, anop, actr, model, statement_of}
use Rattle.rules.specs.Form.{is_formed}
use Rattle.rules.specs.Library.{operation_of, at_prototype, in_body, is_one_symbol, start_symbols, of_kind, operand_parts, locals_by, globals_by, locals_on, globals_on, declared_in, Names, names_in, firsts, parameter_names, with_globals}
use Rattle.rules.specs.Faults.{has_long_symbol, is_long_sequence, declares_wrongly, is_macro_name, before_equals, has_bad_prototype_name, set_names, is_declared, has_other_kind, has_bad_body_name, has_bad_name, is_good_prototype, is_ill_formed, kinds_of, is_past, is_over_limit}
use Rattle.rules.proofs.Choices.{and_right}
use Rattle.rules.proofs.Logic.{or_left, or_right}
use Rattle.rules.proofs.Symbols.{firsts-append, length-firsts}
use Rattle.rules.proofs.OneKind.{declared-in-turn}
use Rattle.rules.proofs.ReadLines.{written_in}
use Rattle.rules.proofs.Accepted.{Faultless, around, good-names}
use Rattle.rules.proofs.Walked.{with_append, Lines, end, next, body_of}
use Rattle.rules.proofs.Within.{few-locals}
use Rattle.declaring.specs.Declared.{symbols_in}
use Rattle.filling.proofs.Prototypes.{not-long-in}
use Rattle.collecting.specs.declared.Rows.{Rows as Counts}
use Rattle.collecting.specs.Collected.{Prototype}
use Rattle.collecting.specs.Bodies.{Short, AllShort, Fits, Agreeing, Agrees}
use Rattle.collecting.proofs.Lines.{names-back}
use Rattle.collecting.proofs.Distinct.{Fresh, fresh-append, not_behind, fresh-few, right-fresh, all_there}

-- ---- a statement of a body

none-of-either : (a b : Bytes → Bool) (ns : List Bytes) → declares_wrongly (λ n. a n || b n) ns ≡ false → (declares_wrongly a ns ≡ false) × (any b ns ≡ false)
unfolding declares_wrongly any
none-of-either a b [] h = (refl, refl)
none-of-either a b (n ∷ ns) h =
    let s = starts_with (bytes "SYS") n in
    let h₁ = or_right s _ h in
    let e = or_left (a n || b n) _ h₁ in
    let h₂ = or_right (a n || b n) _ h₁ in
    let r = none-of-either a b ns (or_right (any (same n) ns) _ h₂) in
    (λ i. or_left s _ h i || (or_left (a n) _ e i || (or_left (any (same n) ns) _ h₂ i || r.0 i)), λ i. or_right (a n) _ e i || r.1 i)

kind_of : Statement → Set
kind_of macro = set_a
kind_of mend = set_a
kind_of mexit = set_a
kind_of (local k) = k
kind_of (global k) = k
kind_of (set k) = k
kind_of aif = set_a
kind_of ago = set_a
kind_of anop = set_a
kind_of actr = set_a
kind_of model = set_a

module _ (gs : List (Bytes × Set)) (names : Names) (before from : List Bytes) (f : Fields) where
  abbrev Good : Statement → Type 0
  Good st = has_bad_body_name gs names before from f st ≡ false

  short-by : (st : Statement) → Good st → (any is_long (firsts (locals_by f st)) ≡ false) × (any is_long (firsts (globals_by f st)) ≡ false)
  unfolding has_bad_body_name locals_by globals_by firsts any symbols_in operand_parts
  short-by macro h = (refl, refl)
  short-by mend h = (refl, refl)
  short-by mexit h = (refl, refl)
  short-by (local k) h = (ap (any is_long) (names-back k (symbols_in f.operand)) ∙ not-long-in f.operand (or_left (has_long_symbol (lexed true f.operand)) _ h), refl)
  short-by (global k) h = (refl, ap (any is_long) (names-back k (symbols_in f.operand)) ∙ not-long-in f.operand (or_left (has_long_symbol (lexed true f.operand)) _ h))
  short-by (set k) h = (refl, refl)
  short-by aif h = (refl, refl)
  short-by ago h = (refl, refl)
  short-by anop h = (refl, refl)
  short-by actr h = (refl, refl)
  short-by model h = (refl, refl)

  agrees-by : (st : Statement) → Good st
      → ((k : Set) → st ≡ global k → any (has_other_kind k gs) (firsts (globals_by f st)) ≡ false) × (declares_wrongly (is_declared names) (firsts (globals_by f st)) ≡ false)
  unfolding has_bad_body_name globals_by firsts any declares_wrongly kind_of
  agrees-by macro h = (λ k e. refl, refl)
  agrees-by mend h = (λ k e. refl, refl)
  agrees-by mexit h = (λ k e. refl, refl)
  agrees-by (local k) h = (λ k e. refl, refl)
  agrees-by (global j) h =
      let ns = start_symbols (operand_parts f) in
      let r = none-of-either (is_declared names) (has_other_kind j gs) ns (or_right (has_long_symbol (lexed true f.operand)) _ h) in
      let b = names-back j ns in (
        λ k e. subst (λ (i : Set). any (has_other_kind i gs) (firsts (of_kind j ns)) ≡ false) (ap kind_of e) (ap (any (has_other_kind j gs)) b ∙ r.1),
        ap (declares_wrongly (is_declared names)) b ∙ r.0,
      )
  agrees-by (set k) h = (λ k e. refl, refl)
  agrees-by aif h = (λ k e. refl, refl)
  agrees-by ago h = (λ k e. refl, refl)
  agrees-by anop h = (λ k e. refl, refl)
  agrees-by actr h = (λ k e. refl, refl)
  agrees-by model h = (λ k e. refl, refl)

-- ---- a line of a body

within_new : (gs new : List (Bytes × Set)) → length gs ≤ global_limit → (not (is_empty new) && ltb global_limit (length (with_globals gs new))) ≡ false
    → length (with_globals gs new) ≤ global_limit
unfolding is_empty with_globals
within_new gs [] h e = h
within_new gs (g ∷ new) h e = ltb-false global_limit (length (with_globals gs (g ∷ new))) e

module _ {p : Bytes} {n m : ℕ} {ts : List Bytes} {gs : List (Bytes × Set)} {before : List Bytes} {l : Bytes} {more : List Bytes} (f : Faultless (around n m ts gs (in_body p before)) l more) where
  named-well : has_bad_body_name gs (names_in p before) before (l ∷ more) (statement_fields l) (statement_of (statement_fields l).operation) ≡ false
  named-well = good-names {after = []} (record { lines = n; macros = m; titles = ts; globals = gs; more = more; is-faultless = f })

  line-short : Short l
  unfolding locals_on globals_on
  line-short =
      let s = short-by gs (names_in p before) before (l ∷ more) (statement_fields l) (statement_of (statement_fields l).operation) named-well in
      record { line-length = (written_in l f.written).0; short-locals = s.0; short-globals = s.1 }

  globals-within : length gs ≤ global_limit → length (with_globals gs (globals_on l)) ≤ global_limit
  unfolding is_over_limit is_past
  globals-within few =
      within_new gs (globals_on l) few
      (or_right (not (is_empty (locals_on l)) && ltb local_limit (length (names_in p before).locals + length (locals_on l))) _
      (or_right (not (is_formed nest_limit (kinds_of (names_in p before) l))) _ (or_right (leb library_limit n) _ f.within)))

  line-agrees : length gs ≤ global_limit → Agreeing p gs before l
  unfolding globals_on operation_of
  line-agrees few =
      let a = agrees-by gs (names_in p before) before (l ∷ more) (statement_fields l) (statement_of (statement_fields l).operation) named-well in
      record { few = omega (arith, globals-within few); one-kind = a.0; once = a.1 }

  line-fresh : Fresh (firsts (declared_in globals_on before)) (firsts (globals_on l))
  unfolding globals_on is_declared set_names names_in
  line-fresh =
      let names = names_in p before in
      let a = agrees-by gs names before (l ∷ more) (statement_fields l) (statement_of (statement_fields l).operation) named-well in
      right-fresh (is_declared names) (firsts (declared_in globals_on before)) (firsts (globals_on l))
      (λ z e. not_behind z (firsts names.locals) (firsts names.globals)
      (ap (any (same z)) (sym (firsts-append names.locals names.globals)) ∙ not_behind z (parameter_names names) (firsts (set_names names)) e)) a.1

-- ---- all lines

pub lines-short : {p : Bytes} {m : ℕ} {ts : List Bytes} {n : ℕ} {gs : List (Bytes × Set)} {before ls : List Bytes} → Lines p m ts n gs before ls → AllShort ls
lines-short (end more e f) = (line-short f, tt)
lines-short (next more e f b) = (line-short f, lines-short b)

pub lines-agree : {p : Bytes} {m : ℕ} {ts : List Bytes} {n : ℕ} {gs : List (Bytes × Set)} {before ls : List Bytes} → Lines p m ts n gs before ls → length gs ≤ global_limit
    → Agrees p gs before ls
lines-agree (end more e f) h = (line-agrees f h, tt)
lines-agree (next more e f b) h = (line-agrees f h, lines-agree b (globals-within f h))

lines-globals : {p : Bytes} {m : ℕ} {ts : List Bytes} {n : ℕ} {gs : List (Bytes × Set)} {before ls : List Bytes} → Lines p m ts n gs before ls → length gs ≤ global_limit
    → length (with_globals gs (declared_in globals_on ls)) ≤ global_limit
unfolding declared_in
lines-globals (end {gs = gs} {l = l} more e f) h =
    subst (λ (new : List (Bytes × Set)). length (with_globals gs new) ≤ global_limit) (sym (append-nil (globals_on l))) (globals-within f h)
lines-globals (next {gs = gs} {l = l} {ls = ls} more e f b) h =
    subst (λ (all : List (Bytes × Set)). length all ≤ global_limit) (sym (with_append gs (globals_on l) (declared_in globals_on ls))) (lines-globals b (globals-within f h))

lines-fresh : {p : Bytes} {m : ℕ} {ts : List Bytes} {n : ℕ} {gs : List (Bytes × Set)} {before ls : List Bytes} → Lines p m ts n gs before ls
    → Fresh (firsts (declared_in globals_on before)) (firsts (declared_in globals_on ls))
unfolding declared_in
lines-fresh (end {before = before} {l = l} more e f) =
    subst (λ (new : List (Bytes × Set)). Fresh (firsts (declared_in globals_on before)) (firsts new)) (sym (append-nil (globals_on l))) (line-fresh f)
lines-fresh (next {before = before} {l = l} {ls = ls} more e f b) =
    let xs = firsts (declared_in globals_on before) in
    let t = firsts (declared_in globals_on ls) in
    let q : firsts (declared_in globals_on (before ++ (l ∷ []))) ≡ xs ++ firsts (globals_on l) =
    ap firsts (declared-in-turn globals_on before (l ∷ []) ∙ ap (declared_in globals_on before ++◌) (append-nil (globals_on l))) ∙ firsts-append (declared_in globals_on before) (globals_on l) in
    subst (Fresh xs) (sym (firsts-append (globals_on l) (declared_in globals_on ls)))
    (fresh-append xs (firsts (globals_on l)) t (line-fresh f) (subst (λ (x : List Bytes). Fresh x t) q (lines-fresh b)))

-- ---- a body

module _ {p : Bytes} {n m : ℕ} {ts : List Bytes} {gs : List (Bytes × Set)} {ls : List Bytes} (h : Lines p m ts n gs [] ls) (few : length gs ≤ global_limit) where
  -- a macro has no more globals than its library
  pub few-globals : length (declared_in globals_on ls) ≤ global_limit
  unfolding firsts declared_in
  few-globals =
      let new = declared_in globals_on ls in
      let all = with_globals gs new in
      let f = fresh-few (firsts all) (firsts new) (lines-fresh h) (all_there gs new) in
      omega (arith, f, length-firsts new, length-firsts all, lines-globals h few)

  pub body-fits : (rows : Counts) → rows.own ≤ parameter_limit → rows.global ≡ 0 → rows.shared ≡ length gs → Fits ls rows
  unfolding names_in
  body-fits rows o g s =
      let k : length (declared_in locals_on ls) ≤ local_limit = few-locals p ls (body_of h) in
      record {
        short = lines-short h;
        few-own = omega (arith, o, k);
        few-global = omega (arith, g, few-globals);
        few-shared = omega (arith, s, few, few-globals);
      }

-- ---- a prototype

pub prototype-known : {p : Bytes} {n m : ℕ} {ts : List Bytes} {gs : List (Bytes × Set)} {more : List Bytes} → Faultless (around n m ts gs at_prototype) p more
    → (own kinds : Bytes) → 1024 ≤ length own → 192 ≤ length kinds → Prototype p own kinds
unfolding has_bad_name has_bad_prototype_name is_ill_formed is_good_prototype is_over_limit is_past
prototype-known {p = p} {n = n} {ts = ts} h own kinds a b =
    let f = fields_of p in
    let h₁ = or_right (not (is_macro_name f.operation)) _ h.named in
    let h₂ = or_right (any (same f.operation) ts) _ h₁ in
    let h₃ = or_right (is_long_sequence f.name) _ h₂ in
    let h₄ = or_right (has_long_symbol (lexed false f.name)) _ h₃ in
    record {
      own-size = a;
      kinds-size = b;
      line-length = (written_in p h.written).0;
      short-parts = or_left (any (λ part. has_long_symbol (before_equals part)) (operand_parts f)) _ h₄;
      short-name = or_left (has_long_symbol (lexed false f.name)) _ h₃;
      good-parts = and_right (is_empty f.name || is_one_symbol (lexed false f.name)) _ (not-false _ h.formed);
      few = ltb-false parameter_limit _ (or_right (leb library_limit n) _ h.within);
    }
