-- What acceptance says of a library as a whole: its macros one after another, each with what the lines before it have brought.
use Prim.Native.Nat.{ℕ, suc, ◌+◌}
use native.Mathlib.Omega.{arith}
use mathlib.Core.Path.{◌≡◌, refl, ap, sym, ◌∙◌, subst}
use mathlib.Core.Bool.{Bool, true, false}
use mathlib.Core.List.{List, [], ◌∷◌, ◌++◌, append_assoc, append-nil}
use lib.ListN.{length}
use Rattle.text.specs.Bytes.{Bytes}
use Rattle.rules.specs.Choice.{choose}
use Rattle.rules.specs.Fields.{lines_of}
use Rattle.rules.specs.Statement.{Set}
use Rattle.rules.specs.Calls.{is_among}
use Rattle.rules.specs.Library.{Macro, Place, outer, at_prototype, in_body, operation_of, is_macro, is_mend, macros_from, globals_on, declared_in, with_globals}
use Rattle.rules.specs.Faults.{no_lines, place_after, titles_after, globals_after, macros_after, around_after, accepted, at_end, verdict_from, verdict}
use Rattle.rules.proofs.Logic.{All}
use Rattle.rules.proofs.Accepted.{Faultless, first-line, refused, around, Body, last, line}

-- globals one line after another are those of the lines together
pub with_append : (gs s t : List (Bytes × Set)) → with_globals gs (s ++ t) ≡ with_globals (with_globals gs s) t
unfolding with_globals
with_append gs [] t = refl
with_append gs (g ∷ s) t = with_append (choose (is_among g.0 gs) gs (gs ++ (g ∷ []))) s t

-- The lines `rest` of a body whose lines before are `before`, up to its MEND: none has a fault. `n` lines of the library stand before them, `m` of them MACRO
-- lines, with these titles and globals.
pub data Lines (p : Bytes) (m : ℕ) (ts : List Bytes) : ℕ → List (Bytes × Set) → List Bytes → List Bytes → Type 0 where
  end : {n : ℕ} {gs : List (Bytes × Set)} {before : List Bytes} {l : Bytes} (more : List Bytes) → is_mend l ≡ true
      → Faultless (around n m ts gs (in_body p before)) l more → Lines p m ts n gs before (l ∷ [])
  next : {n : ℕ} {gs : List (Bytes × Set)} {before : List Bytes} {l : Bytes} {ls : List Bytes} (more : List Bytes) → is_mend l ≡ false
      → Faultless (around n m ts gs (in_body p before)) l (ls ++ more) → Lines p m ts (suc n) (with_globals gs (globals_on l)) (before ++ (l ∷ [])) ls
      → Lines p m ts n gs before (l ∷ ls)

-- the macros of a library from a line outside definitions on
pub data Found : ℕ → ℕ → List Bytes → List (Bytes × Set) → List Macro → Type 0 where
  none : {n m : ℕ} {ts : List Bytes} {gs : List (Bytes × Set)} → Found n m ts gs []
  other : {n m : ℕ} {ts : List Bytes} {gs : List (Bytes × Set)} {ms : List Macro} (l : Bytes) (more : List Bytes) → is_macro l ≡ false
      → Faultless (around n m ts gs outer) l more → Found (suc n) m ts gs ms → Found n m ts gs ms
  found : {n m : ℕ} {ts : List Bytes} {gs : List (Bytes × Set)} {x : Macro} {ms : List Macro} (l : Bytes) (more more₂ : List Bytes) → is_macro l ≡ true
      → Faultless (around n m ts gs outer) l more → Faultless (around (suc n) (suc m) ts gs at_prototype) x.prototype more₂
      → Lines x.prototype (suc m) (ts ++ (operation_of x.prototype ∷ [])) (suc (suc n)) gs [] x.body
      → Found (suc (suc n) + length x.body) (suc m) (ts ++ (operation_of x.prototype ∷ [])) (with_globals gs (declared_in globals_on x.body)) ms
      → Found n m ts gs (x ∷ ms)

-- the macros found from a prototype on
record First (n m : ℕ) (ts : List Bytes) (gs : List (Bytes × Set)) (ms : List Macro) : Type 0 where
  one : Macro
  others : List Macro
  more : List Bytes
  found-are : ms ≡ one ∷ others
  is-faultless : Faultless (around n m ts gs at_prototype) one.prototype more
  lines : Lines one.prototype m (ts ++ (operation_of one.prototype ∷ [])) (suc n) gs [] one.body
  follow : Found (suc n + length one.body) m (ts ++ (operation_of one.prototype ∷ [])) (with_globals gs (declared_in globals_on one.body)) others

-- and from a body line on
record Rest (p : Bytes) (n m : ℕ) (ts : List Bytes) (gs : List (Bytes × Set)) (before ls : List Bytes) (ms : List Macro) : Type 0 where
  rest : List Bytes
  more : List Bytes
  others : List Macro
  lines_are : ls ≡ rest ++ more
  found-are : ms ≡ record { prototype = p; body = before ++ rest } ∷ others
  goes-on : Lines p m ts n gs before rest
  follow : Found (n + length rest) m ts (with_globals gs (declared_in globals_on rest)) others

abbrev Told : Place → ℕ → ℕ → List Bytes → List (Bytes × Set) → List Bytes → List Macro → Type 0
Told outer n m ts gs ls ms = Found n m ts gs ms
Told at_prototype n m ts gs ls ms = First n m ts gs ms
Told (in_body p before) n m ts gs ls ms = Rest p n m ts gs before ls ms

abbrev Tells : List Bytes → Place → Type 0
Tells ls w = (n m : ℕ) (ts : List Bytes) (gs : List (Bytes × Set)) → verdict_from (around n m ts gs w) ls ≡ accepted → Told w n m ts gs ls (macros_from w ls)

from_first : (l : Bytes) (more : List Bytes) (n m : ℕ) (ts : List Bytes) (gs : List (Bytes × Set)) (ms : List Macro) → is_macro l ≡ true
    → Faultless (around n m ts gs outer) l more → First (suc n) (suc m) ts gs ms → Found n m ts gs ms
from_first l more n m ts gs ms e f r = subst (Found n m ts gs) (sym r.found-are) (found l more r.more e f r.is-faultless r.lines r.follow)

from-body : (p : Bytes) (ls : List Bytes) (n m : ℕ) (ts : List Bytes) (gs : List (Bytes × Set)) (ms : List Macro) → Faultless (around n m ts gs at_prototype) p ls
    → Rest p (suc n) m (ts ++ (operation_of p ∷ [])) gs [] ls ms → First n m ts gs ms
from-body p ls n m ts gs ms f r = record {
  one = record { prototype = p; body = r.rest };
  others = r.others;
  more = ls;
  found-are = r.found-are;
  is-faultless = f;
  lines = r.goes-on;
  follow = r.follow;
}

one_more : (p : Bytes) (before : List Bytes) (l : Bytes) (ls : List Bytes) (ms : List Macro) (n m : ℕ) (ts : List Bytes) (gs : List (Bytes × Set))
    → is_mend l ≡ false → Faultless (around n m ts gs (in_body p before)) l ls → Rest p (suc n) m ts (with_globals gs (globals_on l)) (before ++ (l ∷ [])) ls ms
    → Rest p n m ts gs before (l ∷ ls) ms
unfolding declared_in
one_more p before l ls ms n m ts gs e f r = record {
  rest = l ∷ r.rest;
  more = r.more;
  others = r.others;
  lines_are = ap (λ (s : List Bytes). l ∷ s) r.lines_are;
  found-are = r.found-are ∙ ap (λ (s : List Bytes). record { prototype = p; body = s } ∷ r.others) (append_assoc before (l ∷ []) r.rest);
  goes-on = next r.more e (subst (λ s. Faultless (around n m ts gs (in_body p before)) l s) r.lines_are f) r.goes-on;
  follow =
      let q : suc n + length r.rest ≡ n + suc (length r.rest) = omega arith in
      let g = sym (with_append gs (globals_on l) (declared_in globals_on r.rest)) in
      subst (λ k. Found k m ts (with_globals gs (globals_on l ++ declared_in globals_on r.rest)) r.others) q
      (subst (λ k. Found (suc n + length r.rest) m ts k r.others) g r.follow);
}

-- MEND, the last line of a body
last_line : (p : Bytes) (before : List Bytes) (l : Bytes) (ls : List Bytes) (ms : List Macro) (n m : ℕ) (ts : List Bytes) (gs : List (Bytes × Set))
    → is_mend l ≡ true → Faultless (around n m ts gs (in_body p before)) l ls → Found (suc n) m ts (with_globals gs (globals_on l)) ms
    → Rest p n m ts gs before (l ∷ ls) (record { prototype = p; body = before ++ (l ∷ []) } ∷ ms)
unfolding declared_in
last_line p before l ls ms n m ts gs e f r = record {
  rest = l ∷ [];
  more = ls;
  others = ms;
  lines_are = refl;
  found-are = refl;
  goes-on = end ls e f;
  follow =
      let q : suc n ≡ n + 1 = omega arith in
      subst (λ k. Found k m ts (with_globals gs (globals_on l ++ [])) ms) q
      (subst (λ k. Found (suc n) m ts (with_globals gs k) ms) (sym (append-nil (globals_on l))) r);
}

tells : (ls : List Bytes) (w : Place) → Tells ls w
unfolding verdict_from macros_from at_end around_after place_after macros_after titles_after globals_after choose
tells [] outer n m ts gs h = none
tells [] at_prototype n m ts gs h = refused h
tells [] (in_body p before) n m ts gs h = refused h
tells (l ∷ ls) outer n m ts gs h =
    let r = first-line (around n m ts gs outer) l ls h in
    go (is_macro l) refl r.0 r.1 (tells ls outer) (tells ls at_prototype)
  where
    go : (b : Bool) → is_macro l ≡ b → Faultless (around n m ts gs outer) l ls
        → verdict_from (around (suc n) (choose b (suc m) m) ts gs (choose b at_prototype outer)) ls ≡ accepted
        → Tells ls outer → Tells ls at_prototype → Found n m ts gs (choose b (macros_from at_prototype ls) (macros_from outer ls))
    go true e q h f g = from_first l ls n m ts gs _ e q (g (suc n) (suc m) ts gs h)
    go false e q h f g = other l ls e q (f (suc n) m ts gs h)
tells (l ∷ ls) at_prototype n m ts gs h =
    let r = first-line (around n m ts gs at_prototype) l ls h in
    from-body l ls n m ts gs _ r.0 (tells ls (in_body l []) (suc n) m _ gs r.1)
tells (l ∷ ls) (in_body p before) n m ts gs h =
    let r = first-line (around n m ts gs (in_body p before)) l ls h in
    go (is_mend l) refl r.0 r.1 (tells ls outer) (tells ls (in_body p (before ++ (l ∷ []))))
  where
    go : (b : Bool) → is_mend l ≡ b → Faultless (around n m ts gs (in_body p before)) l ls
        → verdict_from (around (suc n) m ts (globals_after l (in_body p before) gs) (choose b outer (in_body p (before ++ (l ∷ []))))) ls ≡ accepted
        → Tells ls outer → Tells ls (in_body p (before ++ (l ∷ [])))
        → Rest p n m ts gs before (l ∷ ls) (choose b (record { prototype = p; body = before ++ (l ∷ []) } ∷ macros_from outer ls) (macros_from (in_body p (before ++ (l ∷ []))) ls))
    go true e f h s t = last_line p before l ls _ n m ts gs e f (s (suc n) m ts _ h)
    go false e f h s t = one_more p before l ls _ n m ts gs e f (t (suc n) m ts _ h)

-- an accepted library's macros, found without fault
pub all_found : (library : Bytes) → verdict library ≡ accepted → Found 0 0 [] [] (macros_from outer (lines_of library))
unfolding verdict no_lines
all_found library h = tells (lines_of library) outer 0 0 [] [] h

-- ---- one macro

-- a macro whose prototype and body lines have no fault
pub record Proper (x : Macro) : Type 0 where
  pub lines : ℕ
  pub macros : ℕ
  pub titles : List Bytes
  pub globals : List (Bytes × Set)
  pub more : List Bytes
  pub prototype-faultless : Faultless (around lines macros titles globals at_prototype) x.prototype more
  pub body-faultless : Lines x.prototype macros (titles ++ (operation_of x.prototype ∷ [])) (suc lines) globals [] x.body

pub each-proper : {n m : ℕ} {ts : List Bytes} {gs : List (Bytes × Set)} {ms : List Macro} → Found n m ts gs ms → All Proper ms
each-proper none = tt
each-proper (other l more e f h) = each-proper h
each-proper (found {n = n} {m = m} {ts = ts} {gs = gs} l more more₂ e f g b h) = (
  record { lines = suc n; macros = suc m; titles = ts; globals = gs; more = more₂; prototype-faultless = g; body-faultless = b },
  each-proper h,
)

pub body_of : {p : Bytes} {m : ℕ} {ts : List Bytes} {n : ℕ} {gs : List (Bytes × Set)} {before rest : List Bytes} → Lines p m ts n gs before rest → Body p before rest
body_of {m = m} {ts = ts} {n = n} {gs = gs} (end more e f) =
    last e (record { lines = n; macros = m; titles = ts; globals = gs; more = more; is-faultless = f })
body_of {m = m} {ts = ts} {n = n} {gs = gs} (next more e f b) =
    line e (record { lines = n; macros = m; titles = ts; globals = gs; more = more; is-faultless = f }) (body_of b)
