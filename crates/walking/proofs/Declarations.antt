-- What a body line without fault declares: symbols that are not too long, none of them declared before, no global with another kind, and not too many. Assumes
-- nothing.
use Prim.Native.Nat.{ℕ, ◌+◌, ◌≤◌}
use native.Mathlib.Omega.{arith}
use mathlib.Core.Path.{◌≡◌, refl, ap, sym, ◌∙◌}
use mathlib.Core.Bool.{Bool, true, false, ◌&&◌, ◌||◌, not}
use mathlib.Core.List.{List, [], ◌∷◌, ◌++◌}
use lib.Dec.{leb, ltb}
use lib.ListN.{length}
use borrow.Author.Tests.{ltb-false}
use Rattle.text.specs.Bytes.{Bytes, same, bytes}
use Rattle.rules.specs.Choice.{any}
use Rattle.rules.specs.Limits.{library_limit, nest_limit, local_limit, global_limit}
use Rattle.rules.specs.Lexemes.{lexed, is_long}
use Rattle.rules.specs.Fields.{Fields, starts_with, statement_fields, is_empty}
use Rattle.rules.specs.Statement.{Set, Statement, macro, mend, mexit, local, global, set, aif, ago, anop, actr, model, statement_of}
use Rattle.rules.specs.Form.{is_formed}
use Rattle.rules.specs.Library.{in_body, operation_of, of_kind, start_symbols, operand_parts, locals_by, globals_by, locals_on, globals_on, Names, names_in, firsts, parameter_names, with_globals}
use Rattle.rules.specs.Faults.{has_long_symbol, declares_wrongly, set_names, is_declared, has_other_kind, is_long_sequence, has_unknown, is_used_twice, has_bad_body_name, has_bad_name, kinds_of, is_past, is_over_limit}
use Rattle.rules.proofs.Logic.{or_left, or_right}
use Rattle.rules.proofs.Symbols.{firsts-append}
use Rattle.rules.proofs.Accepted.{Faultless, around}
use Rattle.deck.specs.Good.{are_distinct}
use Rattle.declaring.specs.Declared.{symbols_in}
use Rattle.filling.proofs.Prototypes.{not-long-in}
use Rattle.walking.proofs.Few.{both-distinct}

-- ---- symbols of one kind

names-back : (k : Set) (ns : List Bytes) → firsts (of_kind k ns) ≡ ns
unfolding firsts of_kind
names-back k [] = refl
names-back k (n ∷ ns) = ap (n ∷◌) (names-back k ns)

-- ---- symbols that are rightly declared

none_before : (test : Bytes → Bool) (ns : List Bytes) → declares_wrongly test ns ≡ false → any test ns ≡ false
unfolding declares_wrongly any
none_before test [] h = refl
none_before test (n ∷ ns) h =
    let g = or_right (starts_with (bytes "SYS") n) _ h in
    λ i. or_left (test n) _ g i || none_before test ns (or_right (any (same n) ns) _ (or_right (test n) _ g)) i

told-apart : (test : Bytes → Bool) (ns : List Bytes) → declares_wrongly test ns ≡ false → are_distinct ns ≡ true
unfolding declares_wrongly are_distinct
told-apart test [] h = refl
told-apart test (n ∷ ns) h =
    let g = or_right (test n) _ (or_right (starts_with (bytes "SYS") n) _ h) in
    λ i. not (or_left (any (same n) ns) _ g i) && told-apart test ns (or_right (any (same n) ns) _ g) i

module _ (p q : Bytes → Bool) where
  fewer-tests : (ns : List Bytes) → declares_wrongly (λ n. p n || q n) ns ≡ false → declares_wrongly p ns ≡ false
  unfolding declares_wrongly
  fewer-tests [] h = refl
  fewer-tests (n ∷ ns) h =
      let sys = or_left (starts_with (bytes "SYS") n) _ h in
      let g = or_right (starts_with (bytes "SYS") n) _ h in
      let one = or_left (p n) _ (or_left (p n || q n) _ g) in
      let rest = or_right (p n || q n) _ g in
      λ i. sys i || (one i || (or_left (any (same n) ns) _ rest i || fewer-tests ns (or_right (any (same n) ns) _ rest) i))

  second-test : (ns : List Bytes) → any (λ n. p n || q n) ns ≡ false → any q ns ≡ false
  unfolding any
  second-test [] h = refl
  second-test (n ∷ ns) h = λ i. or_right (p n) _ (or_left (p n || q n) _ h) i || second-test ns (or_right (p n || q n) _ h) i

any-less : (p q : Bytes → Bool) → ((n : Bytes) → p n ≡ false → q n ≡ false) → (ns : List Bytes) → any p ns ≡ false → any q ns ≡ false
unfolding any
any-less p q f [] h = refl
any-less p q f (n ∷ ns) h = λ i. f n (or_left (p n) _ h) i || any-less p q f ns (or_right (p n) _ h) i

-- a name that is not declared is no global of the macro
no-global : (names : Names) (n : Bytes) → is_declared names n ≡ false → any (same n) (firsts names.globals) ≡ false
unfolding is_declared set_names any
no-global names n h =
    behind (firsts names.locals) _ (ap (any (same n)) (sym (firsts-append names.locals names.globals)) ∙ behind (parameter_names names) _ h)
  where
    behind : (s t : List Bytes) → any (same n) (s ++ t) ≡ false → any (same n) t ≡ false
    behind [] t h = h
    behind (m ∷ s) t h = behind s t (or_right (same n m) _ h)

-- ---- by the line's statement

module _ (globals : List (Bytes × Set)) (names : Names) (before from : List Bytes) (f : Fields) where
  short : (s : Set) → has_long_symbol (lexed true f.operand) ≡ false → any is_long (firsts (of_kind s (start_symbols (operand_parts f)))) ≡ false
  unfolding operand_parts symbols_in
  short s h = ap (any is_long) (names-back s (start_symbols (operand_parts f))) ∙ not-long-in f.operand h

  short-locals-by : (s : Statement) → has_bad_body_name globals names before from f s ≡ false → any is_long (firsts (locals_by f s)) ≡ false
  unfolding has_bad_body_name locals_by firsts any
  short-locals-by macro h = refl
  short-locals-by mend h = refl
  short-locals-by mexit h = refl
  short-locals-by (local k) h = short k (or_left (has_long_symbol (lexed true f.operand)) _ h)
  short-locals-by (global k) h = refl
  short-locals-by (set k) h = refl
  short-locals-by aif h = refl
  short-locals-by ago h = refl
  short-locals-by anop h = refl
  short-locals-by actr h = refl
  short-locals-by model h = refl

  short-globals-by : (s : Statement) → has_bad_body_name globals names before from f s ≡ false → any is_long (firsts (globals_by f s)) ≡ false
  unfolding has_bad_body_name globals_by firsts any
  short-globals-by macro h = refl
  short-globals-by mend h = refl
  short-globals-by mexit h = refl
  short-globals-by (local k) h = refl
  short-globals-by (global k) h = short k (or_left (has_long_symbol (lexed true f.operand)) _ h)
  short-globals-by (set k) h = refl
  short-globals-by aif h = refl
  short-globals-by ago h = refl
  short-globals-by anop h = refl
  short-globals-by actr h = refl
  short-globals-by model h = refl

  rightly-by : (s : Statement) → has_bad_body_name globals names before from f s ≡ false → declares_wrongly (is_declared names) (firsts (globals_by f s)) ≡ false
  unfolding has_bad_body_name globals_by firsts declares_wrongly
  rightly-by macro h = refl
  rightly-by mend h = refl
  rightly-by mexit h = refl
  rightly-by (local k) h = refl
  rightly-by (global k) h =
      ap (declares_wrongly (is_declared names)) (names-back k (start_symbols (operand_parts f)))
      ∙ fewer-tests (is_declared names) (has_other_kind k globals) (start_symbols (operand_parts f)) (or_right (has_long_symbol (lexed true f.operand)) _ h)
  rightly-by (set k) h = refl
  rightly-by aif h = refl
  rightly-by ago h = refl
  rightly-by anop h = refl
  rightly-by actr h = refl
  rightly-by model h = refl

  one-kind-by : (k : Set) → has_bad_body_name globals names before from f (global k) ≡ false → any (has_other_kind k globals) (firsts (globals_by f (global k))) ≡ false
  unfolding has_bad_body_name globals_by
  one-kind-by k h =
      ap (any (has_other_kind k globals)) (names-back k (start_symbols (operand_parts f)))
      ∙ second-test (is_declared names) (has_other_kind k globals) (start_symbols (operand_parts f))
      (none_before _ (start_symbols (operand_parts f)) (or_right (has_long_symbol (lexed true f.operand)) _ h))

-- ---- a body line without fault

module _ (n m : ℕ) (ts : List Bytes) (gs : List (Bytes × Set)) (p : Bytes) (before : List Bytes) (l : Bytes) (ls : List Bytes) (x : Faultless (around n m ts gs (in_body p before)) l ls) where
  abbrev f : Fields
  f = statement_fields l

  good : has_bad_body_name gs (names_in p before) before (l ∷ ls) f (statement_of f.operation) ≡ false
  unfolding has_bad_name
  good = or_right (is_used_twice before f.name) _ (or_right (has_unknown (names_in p before) _) _ (or_right (is_long_sequence f.name) _ x.named))

  pub short-locals : any is_long (firsts (locals_on l)) ≡ false
  unfolding locals_on
  short-locals = short-locals-by gs (names_in p before) before (l ∷ ls) f (statement_of f.operation) good

  pub short-globals : any is_long (firsts (globals_on l)) ≡ false
  unfolding globals_on
  short-globals = short-globals-by gs (names_in p before) before (l ∷ ls) f (statement_of f.operation) good

  pub rightly : declares_wrongly (is_declared (names_in p before)) (firsts (globals_on l)) ≡ false
  unfolding globals_on
  rightly = rightly-by gs (names_in p before) before (l ∷ ls) f (statement_of f.operation) good

  pub one-kind : (k : Set) → statement_of (operation_of l) ≡ global k → any (has_other_kind k gs) (firsts (globals_on l)) ≡ false
  unfolding globals_on operation_of
  one-kind k e =
      ap (λ (s : Statement). any (has_other_kind k gs) (firsts (globals_by f s))) e
      ∙ one-kind-by gs (names_in p before) before (l ∷ ls) f k (ap (has_bad_body_name gs (names_in p before) before (l ∷ ls) f) (sym e) ∙ good)

  -- its globals and those of the lines before are told apart
  pub once_more : are_distinct (firsts (names_in p before).globals) ≡ true → are_distinct (firsts (names_in p before).globals ++ firsts (globals_on l)) ≡ true
  once_more d =
      both-distinct (firsts (names_in p before).globals) (firsts (globals_on l)) d (told-apart _ (firsts (globals_on l)) rightly)
      (any-less (is_declared (names_in p before)) _ (no-global (names_in p before)) (firsts (globals_on l)) (none_before _ (firsts (globals_on l)) rightly))

  past : is_past (around n m ts gs (in_body p before)) l (in_body p before) ≡ false
  unfolding is_over_limit
  past = or_right (leb library_limit n) _ x.within

  few-by : (limit now : ℕ) (new : List (Bytes × Set)) (k : ℕ) → now ≤ limit → (length new ≡ 0 → k ≡ now) → (not (is_empty new) && ltb limit k) ≡ false → k ≤ limit
  unfolding is_empty
  few-by limit now [] k h z e = let q = z refl in omega (arith, h, q)
  few-by limit now (g ∷ new) k h z e = ltb-false limit k e

  pub few-locals : length (names_in p before).locals ≤ local_limit → length (names_in p before).locals + length (locals_on l) ≤ local_limit
  unfolding is_past
  few-locals h =
      let now = length (names_in p before).locals in
      few-by local_limit now (locals_on l) (now + length (locals_on l)) h (λ z. omega (arith, z))
      (or_left (not (is_empty (locals_on l)) && ltb local_limit (now + length (locals_on l))) _ (or_right (not (is_formed nest_limit (kinds_of (names_in p before) l))) _ past))

  nothing-new : (new : List (Bytes × Set)) → length new ≡ 0 → length (with_globals gs new) ≡ length gs
  unfolding with_globals
  nothing-new [] z = refl
  nothing-new (g ∷ new) z = absurd (omega (arith, z))

  pub few-globals : length gs ≤ global_limit → length (with_globals gs (globals_on l)) ≤ global_limit
  unfolding is_past
  few-globals h =
      few-by global_limit (length gs) (globals_on l) (length (with_globals gs (globals_on l))) h (nothing-new (globals_on l))
      (or_right (not (is_empty (locals_on l)) && ltb local_limit (length (names_in p before).locals + length (locals_on l))) _
      (or_right (not (is_formed nest_limit (kinds_of (names_in p before) l))) _ past))
