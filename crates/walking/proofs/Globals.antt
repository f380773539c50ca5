-- The globals that a walk over an accepted library has at its end are the library's. Assumes nothing.
use Prim.Native.Nat.{ℕ, suc}
use mathlib.Core.Path.{◌≡◌, refl, ap, sym, ◌∙◌}
use mathlib.Core.Bool.{Bool, true, false}
use mathlib.Core.List.{List, [], ◌∷◌, ◌++◌, map, append-nil}
use Rattle.text.specs.Bytes.{Bytes}
use Rattle.rules.specs.Choice.{choose}
use Rattle.rules.specs.Fields.{lines_of}
use Rattle.rules.specs.Library.{Macro, Place, outer, at_prototype, in_body, is_macro, is_mend, macros_from, globals_on, declared_in, Names, names_in, with_globals, globals_of}
use Rattle.rules.specs.ByLines.{reading}
use Rattle.rules.specs.Faults.{no_lines, place_after, titles_after, globals_after, macros_after, around_after, accepted, at_end, verdict_from, verdict}
use Rattle.rules.proofs.Accepted.{around, first-line, refused}
use Rattle.rules.proofs.Walked.{with_append}
use Rattle.rules.proofs.OneKind.{Globals, declared-in-turn, globals_in}
use Rattle.walking.specs.Verdicts.{globals_from, globals_at}

abbrev names_of : List Macro → List Names
names_of ms = map (λ r. r.names) (map reading ms)

-- in a body: the globals are those before it and what it has declared
abbrev Told : List Bytes → Place → ℕ → ℕ → List Bytes → Globals → Globals → Type 0
Told ls outer n m ts first gs = globals_from (around n m ts gs outer) ls ≡ globals_of gs (names_of (macros_from outer ls))
Told ls at_prototype n m ts first gs = globals_from (around n m ts gs at_prototype) ls ≡ globals_of gs (names_of (macros_from at_prototype ls))
Told ls (in_body p before) n m ts first gs =
    gs ≡ with_globals first (declared_in globals_on before) → globals_from (around n m ts gs (in_body p before)) ls ≡ globals_of first (names_of (macros_from (in_body p before) ls))

abbrev Tells : List Bytes → Place → Type 0
Tells ls w = (n m : ℕ) (ts : List Bytes) (first gs : Globals) → verdict_from (around n m ts gs w) ls ≡ accepted → Told ls w n m ts first gs

one_further : (first gs : Globals) (before : List Bytes) (l : Bytes) → gs ≡ with_globals first (declared_in globals_on before)
    → with_globals gs (globals_on l) ≡ with_globals first (declared_in globals_on (before ++ (l ∷ [])))
unfolding declared_in
one_further first gs before l e =
    ap (λ (x : Globals). with_globals x (globals_on l)) e
    ∙ (sym (with_append first (declared_in globals_on before) (globals_on l))
    ∙ ap (with_globals first) (sym (declared-in-turn globals_on before (l ∷ []) ∙ ap (declared_in globals_on before ++◌) (append-nil (globals_on l)))))

tells : (ls : List Bytes) (w : Place) → Tells ls w
unfolding verdict_from macros_from at_end around_after place_after macros_after titles_after globals_after choose declared_in with_globals globals_of globals_from reading names_in
tells [] outer n m ts first gs h = refl
tells [] at_prototype n m ts first gs h = refused h
tells [] (in_body p before) n m ts first gs h = refused h
tells (l ∷ ls) outer n m ts first gs h = go (is_macro l) (first-line (around n m ts gs outer) l ls h).1 (tells ls outer) (tells ls at_prototype)
  where
    go : (b : Bool) → verdict_from (around (suc n) (choose b (suc m) m) ts gs (choose b at_prototype outer)) ls ≡ accepted → Tells ls outer → Tells ls at_prototype
        → globals_from (around (suc n) (choose b (suc m) m) ts gs (choose b at_prototype outer)) ls ≡ globals_of gs (names_of (choose b (macros_from at_prototype ls) (macros_from outer ls)))
    go true h f g = g (suc n) (suc m) ts gs gs h
    go false h f g = f (suc n) m ts gs gs h
tells (l ∷ ls) at_prototype n m ts first gs h = tells ls (in_body l []) (suc n) m _ gs gs (first-line (around n m ts gs at_prototype) l ls h).1 refl
tells (l ∷ ls) (in_body p before) n m ts first gs h = λ e.
    go (is_mend l) (one_further first gs before l e) (first-line (around n m ts gs (in_body p before)) l ls h).1 (tells ls outer) (tells ls (in_body p (before ++ (l ∷ []))))
  where
    go : (b : Bool) → with_globals gs (globals_on l) ≡ with_globals first (declared_in globals_on (before ++ (l ∷ [])))
        → verdict_from (around (suc n) m ts (with_globals gs (globals_on l)) (choose b outer (in_body p (before ++ (l ∷ []))))) ls ≡ accepted
        → Tells ls outer → Tells ls (in_body p (before ++ (l ∷ [])))
        → globals_from (around (suc n) m ts (with_globals gs (globals_on l)) (choose b outer (in_body p (before ++ (l ∷ []))))) ls
        ≡ globals_of first (names_of (choose b (record { prototype = p; body = before ++ (l ∷ []) } ∷ macros_from outer ls) (macros_from (in_body p (before ++ (l ∷ []))) ls)))
    go true e h f g = f (suc n) m ts first (with_globals gs (globals_on l)) h ∙ ap (λ (x : Globals). globals_of x (names_of (macros_from outer ls))) e
    go false e h f g = g (suc n) m ts first (with_globals gs (globals_on l)) h e

pub globals-of-library : (library : Bytes) → verdict library ≡ accepted → globals_at library ≡ globals_in library
unfolding globals_at verdict no_lines
globals-of-library library h = tells (lines_of library) outer 0 0 [] [] [] h
