-- What acceptance says, as facts: of each line of each macro's body, in the place where it stands.
use Prim.Native.Nat.{ℕ, zero, suc, ◌<◌}
use native.Mathlib.Nat.{le_of_suc-le-suc, not-suc-le-zero}
use native.Mathlib.Omega.{arith}
use mathlib.Core.Path.{◌≡◌, refl, ap, sym, ◌∙◌, subst}
use mathlib.Core.Bool.{Bool, true, false, not}
use mathlib.Core.List.{List, [], ◌∷◌, ◌++◌, map, append_assoc, append-nil}
use mathlib.Core.Option.{Option, none, some}
use lib.ListN.{length, get_or, take, drop}
use lib.Dec.{leb}
use lib.Seq.{drop-cons}
use borrow.Author.Tests.{not-false}
use Rattle.text.specs.Bytes.{Bytes}
use Rattle.rules.specs.Choice.{choose}
use Rattle.rules.specs.Limits.{nest_limit, library_limit, bad_byte, out_of_place, bad_name, ill_formed, over_limit}
use Rattle.rules.specs.Fields.{lines_of, is_ill_written, is_remark, statement_fields}
use Rattle.rules.specs.Statement.{Set, statement_of}
use Rattle.rules.specs.Form.{is_formed}
use Rattle.rules.specs.Library.{Macro, Place, outer, at_prototype, in_body, operation_of, is_macro, is_mend, macros_from, names_in}
use Rattle.rules.specs.ByLines.{Reading, reading, no_reading}
use Rattle.rules.specs.Faults.{Around, no_lines, is_misplaced, is_out_of_place, is_long_sequence, has_unknown, is_used_twice, has_bad_body_name, has_bad_name, are_fields_good, kinds_of, is_ill_formed, is_past, is_over_limit, fault_of, place_after, titles_after, globals_after, macros_after, around_after, Verdict, accepted, faulty, at_end, verdict_from, verdict}
use Rattle.rules.proofs.Choices.{and_left}
use Rattle.rules.proofs.Logic.{or_left, or_right, then-not, All, all_map, all-at}

-- ---- one line

-- a line in which no fault of the five is found
pub record Faultless (a : Around) (l : Bytes) (ls : List Bytes) : Type 0 where
  pub written : is_ill_written l ≡ false
  pub placed : is_out_of_place a.place l ≡ false
  pub named : has_bad_name a l ls a.place ≡ false
  pub formed : is_ill_formed l a.place ≡ false
  pub within : is_over_limit a l ≡ false

abbrev is_none : Option ℕ → Type 0
is_none none = Unit {0}
is_none (some e) = ⊥

-- a choice that gives no fault
unchosen : (b : Bool) (e : ℕ) (r : Option ℕ) → choose b (some e) r ≡ none → (b ≡ false) × (r ≡ none)
unfolding choose
unchosen true e r h = absurd (subst is_none (sym h) tt)
unchosen false e r h = (refl, h)

faultless : (a : Around) (l : Bytes) (ls : List Bytes) → fault_of a l ls ≡ none → Faultless a l ls
unfolding fault_of
faultless a l ls h =
    let h₁ = unchosen (is_ill_written l) bad_byte _ h in
    let h₂ = unchosen (is_out_of_place a.place l) out_of_place _ h₁.1 in
    let h₃ = unchosen (has_bad_name a l ls a.place) bad_name _ h₂.1 in
    let h₄ = unchosen (is_ill_formed l a.place) ill_formed _ h₃.1 in
    let h₅ = unchosen (is_over_limit a l) over_limit _ h₄.1 in
    record { written = h₁.0; placed = h₂.0; named = h₃.0; formed = h₄.0; within = h₅.0 }

-- a body line of the macro with prototype `p`, between the lines `before` and `after` of its body
pub record Stands (p : Bytes) (before : List Bytes) (l : Bytes) (after : List Bytes) : Type 0 where
  pub lines : ℕ
  pub macros : ℕ
  pub titles : List Bytes
  pub globals : List (Bytes × Set)
  -- the library's lines behind the body
  pub more : List Bytes
  pub is-faultless : Faultless (record { lines = lines; macros = macros; titles = titles; globals = globals; place = in_body p before }) l (after ++ more)

module _ {p : Bytes} {before : List Bytes} {l : Bytes} {after : List Bytes} (s : Stands p before l after) where
  pub well-written : is_ill_written l ≡ false
  well-written = s.is-faultless.written

  pub in_place : is_remark l ≡ false → is_misplaced before (operation_of l) (statement_of (operation_of l)) ≡ false
  unfolding is_out_of_place
  in_place e = then-not (not (is_remark l)) _ s.is-faultless.placed (ap not e)

  pub good-names : has_bad_body_name s.globals (names_in p before) before (l ∷ (after ++ s.more)) (statement_fields l) (statement_of (statement_fields l).operation) ≡ false
  unfolding has_bad_name
  good-names =
      let f = statement_fields l in
      or_right (is_used_twice before f.name) _
      (or_right (has_unknown (names_in p before) _) _ (or_right (is_long_sequence f.name) _ s.is-faultless.named))

  pub good-fields : is_remark l ≡ false → are_fields_good (statement_fields l) (statement_of (statement_fields l).operation) ≡ true
  unfolding is_ill_formed
  good-fields e =
      and_left _ _ (not-false _ (then-not (not (is_remark l)) _ s.is-faultless.formed (ap not e)))

  pub formed-in-limits : is_formed nest_limit (kinds_of (names_in p before) l) ≡ true
  unfolding is_over_limit is_past
  formed-in-limits = not-false _ (or_left _ _ (or_right (leb library_limit s.lines) _ s.is-faultless.within))

-- ---- a body, line by line: MEND is its last line, and no earlier one

pub data Body (p : Bytes) : List Bytes → List Bytes → Type 0 where
  last : {before : List Bytes} {l : Bytes} → is_mend l ≡ true → Stands p before l [] → Body p before (l ∷ [])
  line : {before : List Bytes} {l : Bytes} {ls : List Bytes} → is_mend l ≡ false → Stands p before l ls → Body p (before ++ (l ∷ [])) ls → Body p before (l ∷ ls)

-- the lines behind one that is not the last
behind : {p : Bytes} {before : List Bytes} {l : Bytes} {ls : List Bytes} → Body p before (l ∷ ls) → 0 < length ls → Body p (before ++ (l ∷ [])) ls
behind (last e s) lt = absurd (not-suc-le-zero lt)
behind (line e s b) lt = b

-- the body from a line on
body-from : (p : Bytes) (before b : List Bytes) (i : ℕ) → Body p before b → i < length b → Body p (before ++ take i b) (drop i b)
body-from p before [] i h lt = absurd (not-suc-le-zero lt)
body-from p before (l ∷ ls) zero h lt = subst (λ s. Body p s (l ∷ ls)) (sym (append-nil before)) h
body-from p before (l ∷ ls) (suc i) h lt =
    subst (λ s. Body p s (drop i ls)) (append_assoc before (l ∷ []) (take i ls))
    (body-from p (before ++ (l ∷ [])) ls i (behind h (omega arith)) (le_of_suc-le-suc lt))

-- ---- all lines

abbrev is_accepted : Verdict → Type 0
is_accepted accepted = Unit {0}
is_accepted (faulty e n) = ⊥

pub refused : {P : Type 0} {e n : ℕ} → faulty e n ≡ accepted → P
refused h = absurd (subst is_accepted (sym h) tt)

-- where lines are accepted, the first has no fault, and those after it are accepted
pub first-line : (a : Around) (l : Bytes) (ls : List Bytes) → verdict_from a (l ∷ ls) ≡ accepted → Faultless a l ls × (verdict_from (around_after l a) ls ≡ accepted)
unfolding verdict_from
first-line a l ls h = let r = go (fault_of a l ls) h in (faultless a l ls r.0, r.1)
  where
    go : (o : Option ℕ) → elim o [ none ↦ verdict_from (around_after l a) ls | some e ↦ faulty e (suc a.lines) ] ≡ accepted
        → (o ≡ none) × (verdict_from (around_after l a) ls ≡ accepted)
    go none h = (refl, h)
    go (some e) h = refused h

-- a macro whose body's lines have no fault
abbrev pub Sound : Macro → Type 0
Sound m = Body m.prototype [] m.body

-- the macros found from a line inside a body on: that body goes on, and others follow
record Rest (p : Bytes) (before ls : List Bytes) (found : List Macro) : Type 0 where
  rest : List Bytes
  more : List Bytes
  others : List Macro
  lines_are : ls ≡ rest ++ more
  found-are : found ≡ record { prototype = p; body = before ++ rest } ∷ others
  goes-on : Body p before rest
  follow : All Sound others

abbrev Told : Place → List Bytes → List Macro → Type 0
Told outer ls ms = All Sound ms
Told at_prototype ls ms = All Sound ms
Told (in_body p before) ls ms = Rest p before ls ms

abbrev pub around : ℕ → ℕ → List Bytes → List (Bytes × Set) → Place → Around
around n m ts gs w = record { lines = n; macros = m; titles = ts; globals = gs; place = w }

-- the macros found from a place on are sound, if the lines there are accepted, whatever came before
abbrev Tells : List Bytes → Place → Type 0
Tells ls w = (n m : ℕ) (ts : List Bytes) (gs : List (Bytes × Set)) → verdict_from (around n m ts gs w) ls ≡ accepted → Told w ls (macros_from w ls)

from_first : (p : Bytes) (ls : List Bytes) (ms : List Macro) → Rest p [] ls ms → All Sound ms
from_first p ls ms r = subst (All Sound) (sym r.found-are) (r.goes-on, r.follow)

-- the line before the rest of a body
one_more : (p : Bytes) (before : List Bytes) (l : Bytes) (ls : List Bytes) (ms : List Macro) (n m : ℕ) (ts : List Bytes) (gs : List (Bytes × Set))
    → is_mend l ≡ false → Faultless (around n m ts gs (in_body p before)) l ls → Rest p (before ++ (l ∷ [])) ls ms → Rest p before (l ∷ ls) ms
one_more p before l ls ms n m ts gs e f r = record {
  rest = l ∷ r.rest;
  more = r.more;
  others = r.others;
  lines_are = ap (λ (s : List Bytes). l ∷ s) r.lines_are;
  found-are = r.found-are ∙ ap (λ (s : List Bytes). record { prototype = p; body = s } ∷ r.others) (append_assoc before (l ∷ []) r.rest);
  goes-on = line e
      (record {
        lines = n;
        macros = m;
        titles = ts;
        globals = gs;
        more = r.more;
        is-faultless = subst (λ s. Faultless (around n m ts gs (in_body p before)) l s) r.lines_are f;
      })
      r.goes-on;
  follow = r.follow;
}

tells : (ls : List Bytes) (w : Place) → Tells ls w
unfolding verdict_from macros_from at_end around_after place_after macros_after titles_after globals_after choose
tells [] outer n m ts gs h = tt
tells [] at_prototype n m ts gs h = refused h
tells [] (in_body p before) n m ts gs h = refused h
tells (l ∷ ls) outer n m ts gs h = go (is_macro l) (first-line (around n m ts gs outer) l ls h).1 (tells ls outer) (tells ls at_prototype)
  where
    go : (b : Bool) → verdict_from (around (suc n) (choose b (suc m) m) ts gs (choose b at_prototype outer)) ls ≡ accepted
        → Tells ls outer → Tells ls at_prototype → All Sound (choose b (macros_from at_prototype ls) (macros_from outer ls))
    go true h f g = g (suc n) (suc m) ts gs h
    go false h f g = f (suc n) m ts gs h
tells (l ∷ ls) at_prototype n m ts gs h =
    from_first l ls (macros_from (in_body l []) ls) (tells ls (in_body l []) (suc n) m _ gs (first-line (around n m ts gs at_prototype) l ls h).1)
tells (l ∷ ls) (in_body p before) n m ts gs h =
    let r = first-line (around n m ts gs (in_body p before)) l ls h in
    go (is_mend l) refl r.0 r.1 (tells ls outer) (tells ls (in_body p (before ++ (l ∷ []))))
  where
    go : (b : Bool) → is_mend l ≡ b → Faultless (around n m ts gs (in_body p before)) l ls
        → verdict_from (around (suc n) m ts (globals_after l (in_body p before) gs) (choose b outer (in_body p (before ++ (l ∷ []))))) ls ≡ accepted
        → Tells ls outer → Tells ls (in_body p (before ++ (l ∷ [])))
        → Rest p before (l ∷ ls) (choose b (record { prototype = p; body = before ++ (l ∷ []) } ∷ macros_from outer ls) (macros_from (in_body p (before ++ (l ∷ []))) ls))
    go true e f h s t = record {
      rest = l ∷ [];
      more = ls;
      others = macros_from outer ls;
      lines_are = refl;
      found-are = refl;
      goes-on = last e (record { lines = n; macros = m; titles = ts; globals = gs; more = ls; is-faultless = f });
      follow = s (suc n) m ts _ h;
    }
    go false e f h s t = one_more p before l ls _ n m ts gs e f (t (suc n) m ts _ h)

-- an accepted library: every line of every body stands without fault
pub all_sound : (library : Bytes) → verdict library ≡ accepted → All Sound (macros_from outer (lines_of library))
unfolding verdict no_lines
all_sound library h = tells (lines_of library) outer 0 0 [] [] h

-- ---- the line at a place

first-stands : {p : Bytes} {before : List Bytes} {l : Bytes} {ls : List Bytes} → Body p before (l ∷ ls) → Stands p before l ls
first-stands (last e s) = s
first-stands (line e s b) = s

-- a macro as it is read, whose body's lines have no fault
pub record Known (r : Reading) : Type 0 where
  pub prototype : Bytes
  pub names-are : r.names ≡ names_in prototype r.body
  pub is-sound : Body prototype [] r.body

module _ {r : Reading} (a : Known r) (i : ℕ) (h : i < length r.body) where
  pub from-line : Body a.prototype (take i r.body) (get_or r.body i [] ∷ drop (suc i) r.body)
  from-line = subst (Body a.prototype (take i r.body)) (drop-cons r.body i [] h) (body-from a.prototype [] r.body i a.is-sound h)

  pub line-stands : Stands a.prototype (take i r.body) (get_or r.body i []) (drop (suc i) r.body)
  line-stands = first-stands from-line

abbrev pub readings : Bytes → List Reading
readings library = map reading (macros_from outer (lines_of library))

-- a macro that has a line is a macro of the library
in-range : (rs : List Reading) (k i : ℕ) → i < length (get_or rs k no_reading).body → k < length rs
unfolding no_reading
in-range [] k i h = absurd (not-suc-le-zero h)
in-range (r ∷ rs) zero i h = omega arith
in-range (r ∷ rs) (suc k) i h = omega (arith, in-range rs k i h)

pub known_at : (library : Bytes) → verdict library ≡ accepted → (k i : ℕ) → i < length (get_or (readings library) k no_reading).body → Known (get_or (readings library) k no_reading)
unfolding reading
known_at library e k i h =
    let ms = macros_from outer (lines_of library) in
    all-at Known (map reading ms) no_reading k
    (all_map Sound Known reading (λ m s. record { prototype = m.prototype; names-are = refl; is-sound = s }) ms (all_sound library e))
    (in-range (map reading ms) k i h)
