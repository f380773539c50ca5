-- A walk goes on over a line without fault: it says then what the rules say behind that line. One law for each kind of line. Assumes nothing.
use Prim.Native.Nat.{ℕ, suc, ◌+◌, ◌-◌, ◌*◌, ◌≤◌, ◌<◌}
use native.Mathlib.Omega.{arith}
use mathlib.Core.Path.{◌≡◌, refl, ap, sym, ◌∙◌, subst}
use mathlib.Core.Bool.{Bool, true, false, ◌&&◌, ◌||◌, not, or-false, or_assoc}
use mathlib.Core.List.{List, [], ◌∷◌, ◌++◌, map-append, append-nil}
use lib.Dec.{leb}
use lib.ListN.{length, take, drop, length-append}
use borrow.Author.Tests.{leb-true, leb-false, ltb-false, not-false}
use Rattle.text.specs.Bytes.{Bytes, same}
use Rattle.rules.specs.Choice.{every, any}
use Rattle.rules.specs.Limits.{line_limit, library_limit, macro_limit, macro_name_limit, parameter_limit, local_limit, global_limit}
use Rattle.rules.specs.Lexemes.{lexed}
use Rattle.rules.specs.Fields.{Fields, fields_of, is_empty, lines_of}
use Rattle.rules.specs.Statement.{Set}
use Rattle.rules.specs.Library.{outer, at_prototype, in_body, operation_of, is_macro, is_mend, is_one_symbol, start_symbol, operand_parts, locals_on, globals_on, declared_in, Names, names_in as names_of, firsts, parameter_names, with_globals}
use Rattle.rules.specs.ByLines.{own_names}
use Rattle.rules.specs.Faults.{Around, ends_declarations, is_out_of_place, is_long_sequence, has_long_symbol, before_equals, is_macro_name, has_bad_prototype_name, has_bad_name, are_good_parts, is_good_prototype, is_ill_formed, is_past, is_over_limit, place_after, titles_after, globals_after, macros_after, around_after}
use Rattle.rules.proofs.Choices.{chosen, passed_over, and_left, and_right}
use Rattle.rules.proofs.Logic.{or_left, or_right, then-not}
use Rattle.rules.proofs.Symbols.{firsts-append, length-firsts, known-place}
use Rattle.rules.proofs.Accepted.{Faultless, around}
use Rattle.rules.proofs.ReadLines.{written_in}
use Rattle.rules.proofs.Within.{Prototype, few-parameters}
use Rattle.deck.specs.Good.{are_distinct}
use Rattle.lent.specs.Splice.{splice}
use Rattle.lines.specs.Ends.{line_end}
use Rattle.labels.specs.Searches.{past_newline}
use Rattle.labels.proofs.Turns.{past-within}
use Rattle.names.specs.Names.{titles_in, padded}
use Rattle.tables.specs.Titles.{fits_row}
use Rattle.tables.proofs.Grown.{entitled}
use Rattle.tables.proofs.Among.{macro-name-fits}
use Rattle.symbols.specs.Held.{Held}
use Rattle.symbols.specs.Declared.{add_locals, add_globals}
use Rattle.symbols.proofs.Kept.{line-more}
use Rattle.prototypes.proofs.Parameters.{operation-there}
use Rattle.collecting.specs.declared.Rows.{Rows as Counts}
use Rattle.walking.specs.declared.Body.{Body as Kept}
use Rattle.walking.specs.declared.Place.TheVariants.{Outer, Inner, Prototype as Before}
use Rattle.walking.specs.declared.Walk.{Walk as Stand}
use Rattle.walking.specs.Verdicts.{Shared}
use Rattle.walking.specs.Walks.{Titled, Whole, part, Inside, Placed, Follows}
use Rattle.walking.proofs.Few.{no_more, place-known}
use Rattle.walking.proofs.Growth.{grown, whole-next}
use Rattle.walking.proofs.Declarations as declarations

-- ---- where a walk stands behind a line

-- a MACRO line
abbrev pub behind_macro : Stand → ℕ → Stand
behind_macro w next = record { at = next; lines = w.lines + 1; macros = w.macros + 1; titles = w.titles; place = Before; rows = w.rows }

-- another line outside definitions
abbrev pub behind_other : Stand → ℕ → Stand
behind_other w next = record { at = next; lines = w.lines + 1; macros = w.macros; titles = w.titles; place = w.place; rows = w.rows }

-- a prototype with so many parameters
abbrev pub behind_prototype : Stand → ℕ → ℕ → Stand
behind_prototype w next count = record {
  at = next;
  lines = w.lines + 1;
  macros = w.macros;
  titles = w.titles + 1;
  place = Inner (record { start = next; parameters = count; ended = false });
  rows = record { own = count; global = 0; shared = w.rows.shared };
}

-- MEND, with so many rows in the tables
abbrev pub behind_mend : Stand → ℕ → Counts → Stand
behind_mend w next r = record { at = next; lines = w.lines + 1; macros = w.macros; titles = w.titles; place = Outer; rows = r }

-- another line of a body
abbrev pub behind_line : Stand → Kept → ℕ → Bool → Counts → Stand
behind_line w here next ends r = record {
  at = next;
  lines = w.lines + 1;
  macros = w.macros;
  titles = w.titles;
  place = Inner (record { start = here.start; parameters = here.parameters; ended = here.ended || ends });
  rows = r;
}

-- ---- every line

-- one more line is within the limit
line-within : {a : Around} {l : Bytes} {ls : List Bytes} → Faultless a l ls → a.lines < library_limit
unfolding is_over_limit
line-within {a} x = leb-false library_limit a.lines (or_left (leb library_limit a.lines) _ x.within)

pub line-short : {a : Around} {l : Bytes} {ls : List Bytes} → Faultless a l ls → length l ≤ line_limit
line-short {l = l} x = (written_in l x.written).0

-- ---- a line outside definitions

module _ (library : Bytes) (w : Stand) (titles own global shared kinds : Bytes) (n m : ℕ) (ts : List Bytes) (gs : List (Bytes × Set)) (next : ℕ) (l : Bytes) (ls : List Bytes)
    (g : Follows library w titles own global shared kinds (around n m ts gs outer)) (x : Faultless (around n m ts gs outer) l ls) (inside : next ≤ length library) where
  pub macro-passed : is_macro l ≡ true
      → Follows library (behind_macro w next) titles own global shared kinds (around_after l (around n m ts gs outer))
  unfolding around_after macros_after titles_after globals_after place_after is_over_limit is_past
  macro-passed e =
      let few : m < macro_limit = leb-false macro_limit m (then-not (is_macro l) _ (or_right (leb library_limit n) _ x.within) e) in
      record {
        inside = inside;
        lines_are = omega (arith, g.lines_are);
        macros-are = chosen (suc m) m e ∙ omega (arith, g.macros-are);
        few-lines = omega (arith, line-within x, g.lines_are);
        few-macros = omega (arith, few, g.macros-are);
        titled = g.titled;
        globals-in = g.globals-in;
        few-globals = g.few-globals;
        placed = subst (Placed library _ own global shared kinds gs) (sym (chosen at_prototype outer e)) (refl, omega (arith, g.placed.1));
      }

  pub other-passed : is_macro l ≡ false
      → Follows library (behind_other w next) titles own global shared kinds (around_after l (around n m ts gs outer))
  unfolding around_after macros_after titles_after globals_after place_after
  other-passed e = record {
    inside = inside;
    lines_are = omega (arith, g.lines_are);
    macros-are = passed_over (suc m) m e ∙ g.macros-are;
    few-lines = omega (arith, line-within x, g.lines_are);
    few-macros = g.few-macros;
    titled = g.titled;
    globals-in = g.globals-in;
    few-globals = g.few-globals;
    placed = subst (Placed library _ own global shared kinds gs) (sym (passed_over at_prototype outer e)) g.placed;
  }

-- ---- a prototype

-- what it says
module _ (n m : ℕ) (ts : List Bytes) (gs : List (Bytes × Set)) (l : Bytes) (ls : List Bytes) (x : Faultless (around n m ts gs at_prototype) l ls) where
  abbrev f : Fields
  f = fields_of l

  bad : has_bad_prototype_name ts f ≡ false
  unfolding has_bad_name
  bad = x.named

  pub title-fits : fits_row (operation_of l) ≡ true
  unfolding has_bad_prototype_name is_out_of_place
  title-fits =
      ap fits_row (sym (operation-there l x.placed))
      ∙ macro-name-fits f.operation (not-false _ (or_left (not (is_macro_name f.operation)) _ bad))

  pub title-short : length (operation_of l) ≤ macro_name_limit
  unfolding fits_row
  title-short = leb-true (length (operation_of l)) macro_name_limit (and_left (leb (length (operation_of l)) macro_name_limit) _ title-fits)

  pub short-name : has_long_symbol (lexed false (fields_of l).name) ≡ false
  unfolding has_bad_prototype_name
  short-name =
      or_left (has_long_symbol (lexed false f.name)) _
      (or_right (is_long_sequence f.name) _ (or_right (any (same f.operation) ts) _ (or_right (not (is_macro_name f.operation)) _ bad)))

  pub short-parts : any (λ part. has_long_symbol (before_equals part)) (operand_parts (fields_of l)) ≡ false
  unfolding has_bad_prototype_name
  short-parts =
      or_left (any (λ part. has_long_symbol (before_equals part)) (operand_parts f)) _ (or_right (has_long_symbol (lexed false f.name)) _
      (or_right (is_long_sequence f.name) _ (or_right (any (same f.operation) ts) _ (or_right (not (is_macro_name f.operation)) _ bad))))

  pub good-parts : are_good_parts false (operand_parts (fields_of l)) ≡ true
  unfolding is_ill_formed is_good_prototype
  good-parts = and_right (is_empty f.name || is_one_symbol (lexed false f.name)) _ (not-false _ x.formed)

  pub few-symbols : length (operand_parts (fields_of l)) + length (start_symbol (lexed false (fields_of l).name)) ≤ parameter_limit
  unfolding is_over_limit is_past
  few-symbols = ltb-false parameter_limit (length (operand_parts f) + length (start_symbol (lexed false f.name))) (or_right (leb library_limit n) _ x.within)

  stands : Prototype l
  stands = record { lines = n; macros = m; titles = ts; globals = gs; more = ls; is-faultless = x }

every-one-more : {A : Type 0} (test : A → Bool) (s : List A) (a : A) → every test s ≡ true → test a ≡ true → every test (s ++ (a ∷ [])) ≡ true
unfolding every
every-one-more test [] a h e = λ i. e i && true
every-one-more test (b ∷ s) a h e = λ i. and_left (test b) _ h i && every-one-more test s a (and_right (test b) _ h) e i

-- where a body starts
module _ (l : Bytes) where
  start-own : length (own_names (names_of l [])) ≡ length (parameter_names (names_of l []))
  unfolding own_names names_of declared_in firsts
  start-own = ap length (append-nil (parameter_names (names_of l [])))

  start-globals : length (names_of l []).globals ≡ 0
  unfolding names_of declared_in
  start-globals = refl

  start-locals : length (names_of l []).locals ≤ local_limit
  unfolding names_of declared_in
  start-locals = omega arith

  start-once : are_distinct (firsts (names_of l []).globals) ≡ true
  unfolding names_of declared_in firsts are_distinct
  start-once = refl

no-lines : lines_of [] ≡ []
unfolding lines_of
no-lines = refl

whole-nothing : Whole []
unfolding lines_of
whole-nothing t = refl

none-ends : false ≡ any ends_declarations []
unfolding any
none-ends = refl

-- one more title
title-more : (ts : List Bytes) (rows : ℕ) (titles new name : Bytes) → Titled ts rows titles → new ≡ splice titles (rows * 8) (padded name) → fits_row name ≡ true
    → length name ≤ 8 → rows * 8 + 8 ≤ length titles → Titled (ts ++ (name ∷ [])) (rows + 1) new
title-more ts rows titles new name t e fits short room = record {
  listed = ap (λ (s : Bytes). titles_in (take ((rows + 1) * 8) s)) e ∙ (entitled titles rows name room short ∙ (ap (◌++ (padded name ∷ [])) t.listed ∙ sym (map-append padded ts (name ∷ []))));
  fitting = every-one-more fits_row ts name t.fitting fits;
  counted = length-append ts (name ∷ []) ∙ ap (◌+ 1) t.counted;
}

module _ (library : Bytes) (w : Stand) (titles own global shared kinds : Bytes) (n m : ℕ) (ts : List Bytes) (gs : List (Bytes × Set)) (next : ℕ) (l : Bytes) (ls : List Bytes)
    (g : Follows library w titles own global shared kinds (around n m ts gs at_prototype)) (x : Faultless (around n m ts gs at_prototype) l ls) (inside : next ≤ length library) where
  nothing : part library next next ≡ []
  nothing = let z : next - next ≡ 0 = omega arith in ap (λ (k : ℕ). take k (drop next library)) z

  pub prototype-passed : (titles' own' kinds' : Bytes) (r : ℕ) → titles' ≡ splice titles (w.titles * 8) (padded (operation_of l)) → 264 ≤ length titles
      → Held (names_of l []) gs (take (r * 8) own') [] (take (w.rows.shared * 8) shared) kinds' → r ≡ length (own_names (names_of l [])) → drop 64 kinds' ≡ drop 64 kinds
      → Follows library (behind_prototype w next r) titles' own' global shared kinds' (around_after l (around n m ts gs at_prototype))
  unfolding around_after macros_after titles_after globals_after place_after
  prototype-passed titles' own' kinds' r e size held q same-kinds =
      let many = start-own l in
      record {
        inside = inside;
        lines_are = omega (arith, g.lines_are);
        macros-are = g.macros-are;
        few-lines = omega (arith, line-within x, g.lines_are);
        few-macros = g.few-macros;
        titled = title-more ts w.titles titles titles' (operation_of l) g.titled e (title-fits n m ts gs l ls x) (title-short n m ts gs l ls x)
            (omega (arith, g.placed.1, g.few-macros, size));
        globals-in = record {
          listed = g.globals-in.listed;
          numbered = ap (take w.rows.shared) same-kinds ∙ g.globals-in.numbered;
          counted = g.globals-in.counted;
        };
        few-globals = g.few-globals;
        placed = (
          _,
          record {
            is_body = refl;
            few-titles = omega (arith, g.placed.1);
            starts = omega arith;
            before-are = ap lines_of nothing ∙ no-lines;
            ends-line = λ h. subst Whole (sym nothing) whole-nothing;
            has_ended = none-ends;
            held = held;
            mine = sym q;
            theirs = start-globals l;
            parameters-are = sym (q ∙ many);
            few-parameters = omega (arith, few-parameters l [] (stands n m ts gs l ls x), q, many);
            few-locals = start-locals l;
            once = start-once l;
          },
        );
      }

-- ---- a line of a body

any-one-more : {A : Type 0} (test : A → Bool) (s : List A) (a : A) {b d : Bool} → b ≡ any test s → d ≡ test a → (b || d) ≡ any test (s ++ (a ∷ []))
unfolding any
any-one-more test [] a e f = (λ i. e i || f i) ∙ sym (or-false (test a))
any-one-more test (c ∷ s) a e f = (λ i. e i || f i) ∙ (or_assoc (test c) (any test s) (test a) ∙ ap (test c ||◌) (any-one-more test s a refl refl))

module _ (library : Bytes) (w : Stand) (own global shared kinds : Bytes) (gs : List (Bytes × Set)) (p : Bytes) (before : List Bytes)
    {here : Kept} (b : Inside library w here own global shared kinds gs p before) where
  abbrev names : Names
  names = names_of p before

  pub own-are : w.rows.own ≡ here.parameters + length (names_of p before).locals
  unfolding own_names
  own-are = omega (arith, b.mine, b.parameters-are, length-append (parameter_names names) (firsts names.locals), length-firsts names.locals)

  -- each of the macro's globals is one of the library's
  pub few-global : length gs ≤ global_limit → w.rows.global ≤ global_limit
  few-global h =
      let m = no_more (firsts names.globals) (firsts gs) b.once
      (λ n e. place-known n (firsts gs) (let k = known-place n (firsts names.globals) e in
      let i = b.held.agree n (omega (arith, k, length-firsts names.globals)) in omega (arith, i.0, length-firsts gs))) in
      omega (arith, m, h, b.theirs, length-firsts names.globals, length-firsts gs)

module _ (library : Bytes) (w : Stand) (titles own global shared kinds : Bytes) (n m : ℕ) (ts : List Bytes) (gs : List (Bytes × Set)) (p : Bytes) (before : List Bytes) (end : ℕ)
    (ls : List Bytes) (g : Follows library w titles own global shared kinds (around n m ts gs (in_body p before)))
    (in-file : w.at < length library) (e : end ≡ line_end library w.at)
    (x : Faultless (around n m ts gs (in_body p before)) (take (end - w.at) (drop w.at library)) ls) where
  abbrev l : Bytes
  l = take (end - w.at) (drop w.at library)

  abbrev next : ℕ
  next = past_newline library end

  abbrev pub here : Kept
  here = g.placed.0

  abbrev b : Inside library w here own global shared kinds gs p before
  b = g.placed.1

  pub room-own : w.rows.own + length (locals_on l) ≤ 64
  room-own =
      omega (arith, own-are library w own global shared kinds gs p before b, b.few-parameters, declarations.few-locals n m ts gs p before l ls x b.few-locals)

  pub more-globals : length (with_globals gs (globals_on l)) ≤ global_limit
  more-globals = declarations.few-globals n m ts gs p before l ls x (omega (arith, g.globals-in.counted, g.few-globals))

  module _ (own' global' shared' kinds' : Bytes) (r : Counts)
      (held : Held (add_globals (add_locals (names_of p before) (locals_on l)) (globals_on l)) (with_globals gs (globals_on l)) (take (r.own * 8) own') (take (r.global * 8) global') (take (r.shared * 8) shared') kinds')
      (owns : length (own_names (add_globals (add_locals (names_of p before) (locals_on l)) (globals_on l))) ≡ r.own)
      (globals-are : length (add_globals (add_locals (names_of p before) (locals_on l)) (globals_on l)).globals ≡ r.global) (shares : length (with_globals gs (globals_on l)) ≡ r.shared) where
    shared-in : Shared (with_globals gs (globals_on l)) r.shared shared' kinds'
    shared-in = record { listed = held.ours; numbered = ap (λ (k : ℕ). take k (drop 64 kinds')) (sym shares) ∙ held.our-kinds; counted = shares }

    pub mend-passed : is_mend l ≡ true
        → Follows library (behind_mend w (past_newline library end) r) titles own' global' shared' kinds' (around_after l (around n m ts gs (in_body p before)))
    unfolding around_after macros_after titles_after globals_after place_after
    mend-passed q = record {
      inside = (past-within library w.at end in-file e).1;
      lines_are = omega (arith, g.lines_are);
      macros-are = g.macros-are;
      few-lines = omega (arith, line-within x, g.lines_are);
      few-macros = g.few-macros;
      titled = g.titled;
      globals-in = shared-in;
      few-globals = omega (arith, shares, more-globals);
      placed = subst (Placed library _ own' global' shared' kinds' (with_globals gs (globals_on l))) (sym (chosen outer (in_body p (before ++ (l ∷ []))) q)) (refl, b.few-titles);
    }

    more-locals : length (add_globals (add_locals (names_of p before) (locals_on l)) (globals_on l)).locals ≤ local_limit
    unfolding add_globals add_locals
    more-locals =
        omega (arith, length-append (names_of p before).locals (locals_on l), declarations.few-locals n m ts gs p before l ls x b.few-locals)

    once_more : are_distinct (firsts (add_globals (add_locals (names_of p before) (locals_on l)) (globals_on l)).globals) ≡ true
    unfolding add_globals add_locals
    once_more = ap are_distinct (firsts-append (names_of p before).globals (globals_on l)) ∙ declarations.once_more n m ts gs p before l ls x b.once

    same-parameters : length (parameter_names (add_globals (add_locals (names_of p before) (locals_on l)) (globals_on l))) ≡ here.parameters
    unfolding add_globals add_locals parameter_names
    same-parameters = b.parameters-are

    pub line-passed : is_mend l ≡ false → {ends : Bool} → ends ≡ ends_declarations l
        → Follows library (behind_line w here (past_newline library end) ends r) titles own' global' shared' kinds' (around_after l (around n m ts gs (in_body p before)))
    unfolding around_after macros_after titles_after globals_after place_after
    line-passed q {ends} d =
        let z = past-within library w.at end in-file e in
        let whole = b.ends-line in-file in
        let new = sym (line-more p before l) in
        record {
          inside = z.1;
          lines_are = omega (arith, g.lines_are);
          macros-are = g.macros-are;
          few-lines = omega (arith, line-within x, g.lines_are);
          few-macros = g.few-macros;
          titled = g.titled;
          globals-in = shared-in;
          few-globals = omega (arith, shares, more-globals);
          placed = subst (Placed library _ own' global' shared' kinds' (with_globals gs (globals_on l))) (sym (passed_over outer (in_body p (before ++ (l ∷ []))) q)) (
            _,
            record {
              is_body = refl;
              few-titles = b.few-titles;
              starts = omega (arith, b.starts, z.0);
              before-are = grown library here.start w.at end in-file b.starts e whole ∙ ap (◌++ (l ∷ [])) b.before-are;
              ends-line = whole-next library here.start w.at end in-file b.starts e whole;
              has_ended = any-one-more ends_declarations before l b.has_ended d;
              held = subst (λ (k : Names). Held k (with_globals gs (globals_on l)) (take (r.own * 8) own') (take (r.global * 8) global') (take (r.shared * 8) shared') kinds') new held;
              mine = subst (λ (k : Names). length (own_names k) ≡ r.own) new owns;
              theirs = subst (λ (k : Names). length k.globals ≡ r.global) new globals-are;
              parameters-are = subst (λ (k : Names). length (parameter_names k) ≡ here.parameters) new same-parameters;
              few-parameters = b.few-parameters;
              few-locals = subst (λ (k : Names). length k.locals ≤ local_limit) new more-locals;
              once = subst (λ (k : Names). are_distinct (firsts k.globals) ≡ true) new once_more;
            },
          );
        }
