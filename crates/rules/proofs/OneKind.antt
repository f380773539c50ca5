-- In an accepted library a global has one kind: the one that a macro declares is the one that the library gives it.
use Prim.Native.Nat.{ℕ, zero, suc, ◌+◌, ◌≤◌, ◌<◌}
use native.Mathlib.Nat.{le_of_suc-le-suc, not-suc-le-zero}
use native.Mathlib.Omega.{arith}
use mathlib.Core.Path.{◌≡◌, refl, ap, sym, ◌∙◌, subst}
use mathlib.Core.Bool.{Bool, true, false, ◌&&◌, ◌||◌, not, and-false}
use mathlib.Core.List.{List, [], ◌∷◌, ◌++◌, map, append_assoc, append-nil}
use mathlib.Core.Option.{Option, none, some}
use lib.ListN.{length, get_or}
use lib.Dec.{leb, ltb}
use borrow.Author.Tests.{eq-eqb, ltb-false}
use Rattle.text.specs.Bytes.{Bytes, bytes, same}
use Rattle.text.specs.Words.{place_among}
use Rattle.text.proofs.Same.{same-is}
use Rattle.rules.specs.Choice.{choose, any}
use Rattle.rules.specs.Limits.{nest_limit, library_limit, local_limit, global_limit}
use Rattle.rules.specs.Lexemes.{lexed}
use Rattle.rules.specs.Fields.{lines_of, starts_with, Fields, statement_fields, is_empty}
use Rattle.rules.specs.Statement.{Set, set_a, set_b, set_c, Statement, macro, mend, mexit, local, global, set, aif, ago, anop, actr, model, statement_of}
use Rattle.rules.specs.Grammar.{symbol, unknown}
use Rattle.rules.specs.Form.{same_set, is_formed}
use Rattle.rules.specs.Calls.{is_among}
use Rattle.rules.specs.Library.{Macro, Place, outer, at_prototype, in_body, is_macro, is_mend, macros_from, start_symbols, of_kind, operand_parts, globals_by, locals_on, globals_on, declared_in, Names, names_in, firsts, seconds, with_globals, globals_of}
use Rattle.rules.specs.ByLines.{Reading, reading, no_reading}
use Rattle.rules.specs.Faults.{no_lines, declares_wrongly, is_declared, has_long_symbol, has_other_kind, is_long_sequence, has_unknown, is_used_twice, has_bad_body_name, has_bad_name, kinds_of, is_past, is_over_limit, place_after, titles_after, globals_after, macros_after, around_after, accepted, at_end, verdict_from, verdict}
use Rattle.rules.proofs.Choices.{either, passed_over}
use Rattle.rules.proofs.Logic.{clash, or_left, or_right, All, all_same}
use Rattle.rules.proofs.Accepted.{Faultless, refused, first-line, around, readings}

abbrev pub Globals : Type 0
Globals = List (Bytes × Set)

-- ---- the kind that the first entry of a name gives

abbrev pub kind_in : Globals → Bytes → Option Set
kind_in [] n = none
kind_in (g ∷ gs) n = choose (same g.0 n) (some g.1) (kind_in gs n)

abbrev is_none : Option Set → Type 0
is_none none = Unit {0}
is_none (some k) = ⊥

pub none-is-not : {P : Type 0} {k : Set} → none ≡ some k → P
none-is-not h = absurd (subst is_none h tt)

pub same_kind : {j k : Set} → some j ≡ some k → j ≡ k
same_kind h = ap (λ (o : Option Set). elim o [ none ↦ set_a | some k ↦ k ]) h

-- ---- lists of globals that are joined

pub in-front : (s t : Globals) (n : Bytes) (k : Set) → kind_in s n ≡ some k → kind_in (s ++ t) n ≡ some k
unfolding choose
in-front [] t n k h = none-is-not h
in-front (g ∷ s) t n k h = go (same g.0 n) h (in-front s t n k)
  where
    go : (b : Bool) → choose b (some g.1) (kind_in s n) ≡ some k → (kind_in s n ≡ some k → kind_in (s ++ t) n ≡ some k)
        → choose b (some g.1) (kind_in (s ++ t) n) ≡ some k
    go true h ih = h
    go false h ih = ih h

pub in-part : {P : Type 0} (s t : Globals) (n : Bytes) (k : Set) → kind_in (s ++ t) n ≡ some k → (kind_in s n ≡ some k → P) → (kind_in t n ≡ some k → P) → P
unfolding choose
in-part [] t n k h f g = g h
in-part {P} (e ∷ s) t n k h f g = go (same e.0 n) h f (λ r p. in-part s t n k r p g)
  where
    go : (b : Bool) → choose b (some e.1) (kind_in (s ++ t) n) ≡ some k → (choose b (some e.1) (kind_in s n) ≡ some k → P)
        → (kind_in (s ++ t) n ≡ some k → (kind_in s n ≡ some k → P) → P) → P
    go true h f r = f h
    go false h f r = r h f

-- a name keeps its kind where globals are added
kept : (gs new : Globals) (n : Bytes) (k : Set) → kind_in gs n ≡ some k → kind_in (with_globals gs new) n ≡ some k
unfolding with_globals
kept gs [] n k h = h
kept gs (g ∷ new) n k h =
    kept (choose (is_among g.0 gs) gs (gs ++ (g ∷ []))) new n k
    (either (λ (x : Globals). kind_in x n ≡ some k) (is_among g.0 gs) (λ e. h) (λ e. in-front gs (g ∷ []) n k h))

added-in-turn : (gs s t : Globals) → with_globals gs (s ++ t) ≡ with_globals (with_globals gs s) t
unfolding with_globals
added-in-turn gs [] t = refl
added-in-turn gs (g ∷ s) t = added-in-turn (choose (is_among g.0 gs) gs (gs ++ (g ∷ []))) s t

pub declared-in-turn : (on : Bytes → List (Bytes × Set)) (s t : List Bytes) → declared_in on (s ++ t) ≡ declared_in on s ++ declared_in on t
unfolding declared_in
declared-in-turn on [] t = refl
declared-in-turn on (l ∷ s) t = ap (λ (x : Globals). on l ++ x) (declared-in-turn on s t) ∙ sym (append_assoc (on l) _ _)

declared-one : (l : Bytes) → declared_in globals_on (l ∷ []) ≡ globals_on l
unfolding declared_in
declared-one l = append-nil (globals_on l)

-- ---- a line that declares globals

same-set : (j k : Set) → not (same_set j k) ≡ false → j ≡ k
unfolding same_set
same-set set_a set_a h = refl
same-set set_a set_b h = clash refl h
same-set set_a set_c h = clash refl h
same-set set_b set_a h = clash refl h
same-set set_b set_b h = refl
same-set set_b set_c h = clash refl h
same-set set_c set_a h = clash refl h
same-set set_c set_b h = clash refl h
same-set set_c set_c h = refl

itself : (k : Set) → not (same_set k k) ≡ false
unfolding same_set
itself set_a = refl
itself set_b = refl
itself set_c = refl

-- a name with no other kind has this one, once it is there
pub has-this : (k : Set) (gs : Globals) (n : Bytes) → is_among n gs ≡ true → has_other_kind k gs n ≡ false → kind_in gs n ≡ some k
unfolding is_among has_other_kind any choose
has-this k [] n h o = clash h refl
has-this k (g ∷ gs) n h o =
    go (same g.0 n) h (or_left (same g.0 n && not (same_set g.1 k)) _ o) (λ a. has-this k gs n a (or_right (same g.0 n && not (same_set g.1 k)) _ o))
  where
    go : (b : Bool) → (b || is_among n gs) ≡ true → (b && not (same_set g.1 k)) ≡ false → (is_among n gs ≡ true → kind_in gs n ≡ some k)
        → choose b (some g.1) (kind_in gs n) ≡ some k
    go true h o ih = ap some (same-set g.1 k o)
    go false h o ih = ih h

is-itself : (n : Bytes) → same n n ≡ true
is-itself [] = refl
is-itself (c ∷ n) = ap (λ (b : Bool). b && same n n) (eq-eqb c c refl) ∙ is-itself n

-- a new name has the kind that it is added with
pub comes-in : (k : Set) (gs : Globals) (n : Bytes) → is_among n gs ≡ false → kind_in (gs ++ ((n, k) ∷ [])) n ≡ some k
unfolding is_among choose
comes-in k [] n h = ap (λ (b : Bool). choose b (some k) none) (is-itself n)
comes-in k (g ∷ gs) n h = passed_over _ _ (or_left (same g.0 n) _ h) ∙ comes-in k gs n (or_right (same g.0 n) _ h)

-- one more of the same kind gives no name another
still_one : (k : Set) (gs : Globals) (m n : Bytes) → has_other_kind k gs n ≡ false → has_other_kind k (gs ++ ((m, k) ∷ [])) n ≡ false
unfolding has_other_kind any
still_one k [] m n h = ap (λ (b : Bool). (same m n && b) || false) (itself k) ∙ ap (λ (b : Bool). b || false) (and-false (same m n))
still_one k (g ∷ gs) m n h = go (same g.0 n && not (same_set g.1 k)) h (still_one k gs m n)
  where
    go : (b : Bool) → (b || has_other_kind k gs n) ≡ false → (has_other_kind k gs n ≡ false → has_other_kind k (gs ++ ((m, k) ∷ [])) n ≡ false)
        → (b || has_other_kind k (gs ++ ((m, k) ∷ [])) n) ≡ false
    go true h ih = h
    go false h ih = ih h

-- names of one kind, of which none has another, are added with it
added : (k : Set) (gs : Globals) (ns : List Bytes) → All (λ m. has_other_kind k gs m ≡ false) ns → (n : Bytes) (j : Set) → kind_in (of_kind k ns) n ≡ some j
    → kind_in (with_globals gs (of_kind k ns)) n ≡ some j
unfolding of_kind with_globals choose
added k gs [] o n j h = none-is-not h
added k gs (m ∷ ms) o n j h = go (same m n) refl h (added k more ms others n j)
  where
    more : Globals
    more = choose (is_among m gs) gs (gs ++ ((m, k) ∷ []))

    others : All (λ m. has_other_kind k more m ≡ false) ms
    others =
        either (λ (x : Globals). All (λ m. has_other_kind k x m ≡ false) ms) (is_among m gs) (λ e. o.1)
        (λ e. all_same (λ n. has_other_kind k gs n ≡ false) (λ n. has_other_kind k (gs ++ ((m, k) ∷ [])) n ≡ false) (λ n. still_one k gs m n) ms o.1)

    first : kind_in more m ≡ some k
    first = either (λ (x : Globals). kind_in x m ≡ some k) (is_among m gs) (λ e. has-this k gs m e o.0) (λ e. comes-in k gs m e)

    go : (b : Bool) → same m n ≡ b → choose b (some k) (kind_in (of_kind k ms) n) ≡ some j
        → (kind_in (of_kind k ms) n ≡ some j → kind_in (with_globals more (of_kind k ms)) n ≡ some j)
        → kind_in (with_globals more (of_kind k ms)) n ≡ some j
    go true e h ih = kept more (of_kind k ms) n j (subst (λ (x : Bytes). kind_in more x ≡ some k) (same-is m n e) first ∙ h)
    go false e h ih = ih h

no_other : (k : Set) (gs : Globals) (before : Bytes → Bool) (ns : List Bytes) → declares_wrongly (λ n. before n || has_other_kind k gs n) ns ≡ false
    → All (λ m. has_other_kind k gs m ≡ false) ns
unfolding declares_wrongly
no_other k gs before [] h = tt
no_other k gs before (n ∷ ns) h =
    let h₁ = or_right (starts_with (bytes "SYS") n) _ h in
    let h₂ = or_right (before n || has_other_kind k gs n) _ h₁ in
    (or_right (before n) _ (or_left (before n || has_other_kind k gs n) _ h₁), no_other k gs before ns (or_right (any (same n) ns) _ h₂))

-- what a faultless line declares is there afterwards, with the kind that it gives
abbrev Declares : Globals → Globals → Type 0
Declares gs new = (n : Bytes) (j : Set) → kind_in new n ≡ some j → kind_in (with_globals gs new) n ≡ some j

statement-declares : (gs : Globals) (names : Names) (before from : List Bytes) (f : Fields) (s : Statement) → has_bad_body_name gs names before from f s ≡ false
    → Declares gs (globals_by f s)
unfolding has_bad_body_name globals_by
statement-declares gs names before from f macro h n j e = none-is-not e
statement-declares gs names before from f mend h n j e = none-is-not e
statement-declares gs names before from f mexit h n j e = none-is-not e
statement-declares gs names before from f (local k) h n j e = none-is-not e
statement-declares gs names before from f (global k) h n j e =
    added k gs (start_symbols (operand_parts f)) (no_other k gs (is_declared names) (start_symbols (operand_parts f)) (or_right (has_long_symbol (lexed true f.operand)) _ h)) n j e
statement-declares gs names before from f (set k) h n j e = none-is-not e
statement-declares gs names before from f aif h n j e = none-is-not e
statement-declares gs names before from f ago h n j e = none-is-not e
statement-declares gs names before from f anop h n j e = none-is-not e
statement-declares gs names before from f actr h n j e = none-is-not e
statement-declares gs names before from f model h n j e = none-is-not e

line-declares : (n m : ℕ) (ts : List Bytes) (gs : Globals) (p : Bytes) (before : List Bytes) (l : Bytes) (ls : List Bytes)
    → Faultless (around n m ts gs (in_body p before)) l ls → Declares gs (globals_on l)
unfolding has_bad_name globals_on
line-declares n m ts gs p before l ls x =
    let f = statement_fields l in
    statement-declares gs (names_in p before) before (l ∷ ls) f (statement_of f.operation)
    (or_right (is_used_twice before f.name) _ (or_right (has_unknown (names_in p before) _) _ (or_right (is_long_sequence f.name) _ x.named)))

abbrev Few : Globals → Type 0
Few gs = length gs ≤ global_limit

-- what a faultless line declares leaves no more globals than 01 allows
line-globals : (n m : ℕ) (ts : List Bytes) (gs : Globals) (p : Bytes) (before : List Bytes) (l : Bytes) (ls : List Bytes)
    → Faultless (around n m ts gs (in_body p before)) l ls → Few gs → Few (with_globals gs (globals_on l))
unfolding is_over_limit is_past is_empty with_globals
line-globals n m ts gs p before l ls x few =
    let formed = is_formed nest_limit (kinds_of (names_in p before) l) in
    let locals = not (is_empty (locals_on l)) && ltb local_limit (length (names_in p before).locals + length (locals_on l)) in
    go (globals_on l) (or_right locals _ (or_right (not formed) _ (or_right (leb library_limit n) _ x.within)))
  where
    go : (new : Globals) → (not (is_empty new) && ltb global_limit (length (with_globals gs new))) ≡ false → Few (with_globals gs new)
    go [] e = few
    go (g ∷ new) e = ltb-false global_limit (length (with_globals gs (g ∷ new))) e

-- ---- all lines

-- each macro's globals are there behind it, with their kinds, and there are no more than 01 allows
abbrev Agree : Globals → List Macro → Type 0
Agree gs [] = Few gs
Agree gs (m ∷ ms) = Declares gs (declared_in globals_on m.body) × Agree (with_globals gs (declared_in globals_on m.body)) ms

-- so far in a body: the globals are those before it and what it has declared
record SoFar (first : Globals) (before : List Bytes) (gs : Globals) : Type 0 where
  globals-are : gs ≡ with_globals first (declared_in globals_on before)
  declares : (n : Bytes) (j : Set) → kind_in (declared_in globals_on before) n ≡ some j → kind_in gs n ≡ some j
  few : Few gs

one_further : (first : Globals) (before : List Bytes) (gs : Globals) (l : Bytes) → SoFar first before gs → Declares gs (globals_on l) → Few (with_globals gs (globals_on l))
    → SoFar first (before ++ (l ∷ [])) (with_globals gs (globals_on l))
one_further first before gs l s d k =
    let e : declared_in globals_on (before ++ (l ∷ [])) ≡ declared_in globals_on before ++ globals_on l =
    declared-in-turn globals_on before (l ∷ []) ∙ ap (λ (x : Globals). declared_in globals_on before ++ x) (declared-one l) in
    record {
      globals-are =
          ap (λ (x : Globals). with_globals x (globals_on l)) s.globals-are
          ∙ (sym (added-in-turn first (declared_in globals_on before) (globals_on l)) ∙ ap (λ (x : Globals). with_globals first x) (sym e));
      declares = λ n j h.
          in-part (declared_in globals_on before) (globals_on l) n j (ap (λ (x : Globals). kind_in x n) (sym e) ∙ h)
          (λ a. kept gs (globals_on l) n j (s.declares n j a)) (d n j);
      few = k;
    }

abbrev Told : List Bytes → Place → Globals → Globals → Type 0
Told ls outer first gs = Few gs → Agree gs (macros_from outer ls)
Told ls at_prototype first gs = Few gs → Agree gs (macros_from at_prototype ls)
Told ls (in_body p before) first gs = SoFar first before gs → Agree first (macros_from (in_body p before) ls)

abbrev Tells : List Bytes → Place → Type 0
Tells ls w = (n m : ℕ) (ts : List Bytes) (first gs : Globals) → verdict_from (around n m ts gs w) ls ≡ accepted → Told ls w first gs

body-done : (first : Globals) (p : Bytes) (body : List Bytes) (gs : Globals) (ms : List Macro) → SoFar first body gs → Agree gs ms
    → Agree first (record { prototype = p; body = body } ∷ ms)
body-done first p body gs ms s a = (
  λ n j h. ap (λ (x : Globals). kind_in x n) (sym s.globals-are) ∙ s.declares n j h,
  subst (λ (x : Globals). Agree x ms) s.globals-are a,
)

tells : (ls : List Bytes) (w : Place) → Tells ls w
unfolding verdict_from macros_from at_end around_after place_after macros_after titles_after globals_after choose declared_in with_globals
tells [] outer n m ts first gs h = λ few. few
tells [] at_prototype n m ts first gs h = refused h
tells [] (in_body p before) n m ts first gs h = refused h
tells (l ∷ ls) outer n m ts first gs h = λ few. go (is_macro l) few (first-line (around n m ts gs outer) l ls h).1 (tells ls outer) (tells ls at_prototype)
  where
    go : (b : Bool) → Few gs → verdict_from (around (suc n) (choose b (suc m) m) ts gs (choose b at_prototype outer)) ls ≡ accepted
        → Tells ls outer → Tells ls at_prototype → Agree gs (choose b (macros_from at_prototype ls) (macros_from outer ls))
    go true few h f g = g (suc n) (suc m) ts gs gs h few
    go false few h f g = f (suc n) m ts gs gs h few
tells (l ∷ ls) at_prototype n m ts first gs h = λ few.
    tells ls (in_body l []) (suc n) m _ gs gs (first-line (around n m ts gs at_prototype) l ls h).1 (record { globals-are = refl; declares = λ n j e. none-is-not e; few = few })
tells (l ∷ ls) (in_body p before) n m ts first gs h = λ s.
    let r = first-line (around n m ts gs (in_body p before)) l ls h in
    go (is_mend l) (one_further first before gs l s (line-declares n m ts gs p before l ls r.0) (line-globals n m ts gs p before l ls r.0 s.few)) r.1 (tells ls outer) (tells ls (in_body p (before ++ (l ∷ []))))
  where
    go : (b : Bool) → SoFar first (before ++ (l ∷ [])) (with_globals gs (globals_on l))
        → verdict_from (around (suc n) m ts (with_globals gs (globals_on l)) (choose b outer (in_body p (before ++ (l ∷ []))))) ls ≡ accepted
        → Tells ls outer → Tells ls (in_body p (before ++ (l ∷ [])))
        → Agree first (choose b (record { prototype = p; body = before ++ (l ∷ []) } ∷ macros_from outer ls) (macros_from (in_body p (before ++ (l ∷ []))) ls))
    go true s h f g =
        let gs' = with_globals gs (globals_on l) in
        body-done first p (before ++ (l ∷ [])) gs' (macros_from outer ls) s (f (suc n) m ts first gs' h s.few)
    go false s h f g = g (suc n) m ts first (with_globals gs (globals_on l)) h s

-- ---- the macro at a place

abbrev names_of : List Reading → List Names
names_of rs = map (λ r. r.names) rs

stays : (ns : List Names) (gs : Globals) (n : Bytes) (j : Set) → kind_in gs n ≡ some j → kind_in (globals_of gs ns) n ≡ some j
unfolding globals_of
stays [] gs n j h = h
stays (x ∷ ns) gs n j h = stays ns (with_globals gs x.globals) n j (kept gs x.globals n j h)

-- a macro's global has its kind in the library
agrees_at : (ms : List Macro) (gs : Globals) → Agree gs ms → (k : ℕ) (n : Bytes) (j : Set) → kind_in (get_or (map reading ms) k no_reading).names.globals n ≡ some j
    → kind_in (globals_of gs (names_of (map reading ms))) n ≡ some j
unfolding globals_of reading no_reading names_in
agrees_at [] gs a k n j h = none-is-not h
agrees_at (m ∷ ms) gs a zero n j h = stays (names_of (map reading ms)) _ n j (a.0 n j h)
agrees_at (m ∷ ms) gs a (suc k) n j h = agrees_at ms _ a.1 k n j h

-- ---- by place

pub found-kind : (gs : Globals) (n : Bytes) → place_among (firsts gs) n < length gs → kind_in gs n ≡ some (get_or (seconds gs) (place_among (firsts gs) n) set_a)
unfolding firsts seconds choose
found-kind [] n h = absurd (not-suc-le-zero h)
found-kind (g ∷ gs) n h = go (same g.0 n) h (found-kind gs n)
  where
    go : (b : Bool) → elim b [ true ↦ 0 | false ↦ suc (place_among (firsts gs) n) ] < suc (length gs)
        → (place_among (firsts gs) n < length gs → kind_in gs n ≡ some (get_or (seconds gs) (place_among (firsts gs) n) set_a))
        → choose b (some g.1) (kind_in gs n) ≡ some (get_or (g.1 ∷ seconds gs) (elim b [ true ↦ 0 | false ↦ suc (place_among (firsts gs) n) ]) set_a)
    go true h ih = refl
    go false h ih = ih (le_of_suc-le-suc h)

kind_at : (gs : Globals) (n : Bytes) (j : Set) → kind_in gs n ≡ some j → get_or (map symbol (seconds gs)) (place_among (firsts gs) n) unknown ≡ symbol j
unfolding firsts seconds choose
kind_at [] n j h = none-is-not h
kind_at (g ∷ gs) n j h = go (same g.0 n) h (kind_at gs n j)
  where
    go : (b : Bool) → choose b (some g.1) (kind_in gs n) ≡ some j
        → (kind_in gs n ≡ some j → get_or (map symbol (seconds gs)) (place_among (firsts gs) n) unknown ≡ symbol j)
        → get_or (symbol g.1 ∷ map symbol (seconds gs)) (elim b [ true ↦ 0 | false ↦ suc (place_among (firsts gs) n) ]) unknown ≡ symbol j
    go true h ih = ap symbol (same_kind h)
    go false h ih = ih h

pub in-range : (gs : Globals) (n : Bytes) (j : Set) → kind_in gs n ≡ some j → place_among (firsts gs) n < length gs
unfolding firsts choose
in-range [] n j h = none-is-not h
in-range (g ∷ gs) n j h = go (same g.0 n) h (in-range gs n j)
  where
    go : (b : Bool) → choose b (some g.1) (kind_in gs n) ≡ some j → (kind_in gs n ≡ some j → place_among (firsts gs) n < length gs)
        → elim b [ true ↦ 0 | false ↦ suc (place_among (firsts gs) n) ] < suc (length gs)
    go true h ih = omega arith
    go false h ih = omega (arith, ih h)

few-at-end : (ms : List Macro) (gs : Globals) → Agree gs ms → Few (globals_of gs (names_of (map reading ms)))
unfolding globals_of reading names_in
few-at-end [] gs a = a
few-at-end (m ∷ ms) gs a = few-at-end ms _ a.1

-- the library's globals
abbrev pub globals_in : Bytes → List (Bytes × Set)
globals_in library = globals_of [] (map (λ r. r.names) (readings library))

library-agrees : (library : Bytes) → verdict library ≡ accepted → Agree [] (macros_from outer (lines_of library))
unfolding verdict no_lines
library-agrees library e = tells (lines_of library) outer 0 0 [] [] [] e (omega arith)

pub few-globals : (library : Bytes) → verdict library ≡ accepted → length (globals_in library) ≤ global_limit
few-globals library e = few-at-end (macros_from outer (lines_of library)) [] (library-agrees library e)

pub one-kind : (library : Bytes) → verdict library ≡ accepted → (k : ℕ) (n : Bytes)
    → let names = (get_or (readings library) k no_reading).names in
    let p = place_among (firsts names.globals) n in
    p < length names.globals → get_or (map symbol (seconds (globals_in library))) (place_among (firsts (globals_in library)) n) unknown ≡ symbol (get_or (seconds names.globals) p set_a)
one-kind library e k n h =
    kind_at (globals_in library) n _
    (agrees_at (macros_from outer (lines_of library)) [] (library-agrees library e) k n _
    (found-kind (get_or (readings library) k no_reading).names.globals n h))

-- where a macro's global is in range, so is the library's
pub global-in-range : (library : Bytes) → verdict library ≡ accepted → (k : ℕ) (n : Bytes)
    → let names = (get_or (readings library) k no_reading).names in
    place_among (firsts names.globals) n < length names.globals → place_among (firsts (globals_in library)) n < length (globals_in library)
global-in-range library e k n h =
    in-range (globals_in library) n _
    (agrees_at (macros_from outer (lines_of library)) [] (library-agrees library e) k n _
    (found-kind (get_or (readings library) k no_reading).names.globals n h))
