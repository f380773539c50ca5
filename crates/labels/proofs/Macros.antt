-- The macros of a library, by the places where their prototypes start and their bodies end. Assumes nothing.
use Prim.Native.Nat.{ℕ, ◌-◌, ◌≤◌, ◌<◌}
use mathlib.Core.Path.{◌≡◌, refl, ap, sym, ◌∙◌}
use mathlib.Core.Bool.{true, false, false≢true, ◌||◌}
use mathlib.Core.List.{List, [], ◌∷◌, ◌++◌, append_assoc}
use lib.Dec.{ltb}
use lib.ListN.{length, take, drop}
use borrow.Author.Tests.{ltb-true, ltb-false}
use Rattle.text.specs.Bytes.{Bytes}
use Rattle.rules.specs.Choice.{any}
use Rattle.rules.specs.Fields.{lines_of}
use Rattle.rules.specs.Library.{Macro, outer, at_prototype, in_body, is_macro, is_mend, macros_from}
use Rattle.rules.proofs.Choices.{chosen, passed_over, by}
use Rattle.lines.specs.Ends.{line_end}
use Rattle.lines.proofs.Found.{no-line}
use Rattle.labels.specs.Searches.{line_at, past_newline, up_to, beyond, body_end, prototype_start}
use Rattle.labels.proofs.Turns.{turn, none_named, past_end, past-lines}
use Rattle.labels.proofs.Bodies.{lines-up-to, lines-beyond}

-- ---- over lines

abbrev macro_of : Bytes → List Bytes → Macro
macro_of p b = record { prototype = p; body = b }

-- what stands before the next MACRO line is passed over
outer-from : (ls : List Bytes) → macros_from outer ls ≡ macros_from at_prototype (beyond is_macro ls)
unfolding macros_from beyond
outer-from [] = refl
outer-from (l ∷ ls) = by (is_macro l)
    (λ e. chosen _ _ e ∙ sym (ap (macros_from at_prototype) (chosen ls (beyond is_macro ls) e)))
    (λ e. passed_over _ _ e ∙ (outer-from ls ∙ sym (ap (macros_from at_prototype) (passed_over ls (beyond is_macro ls) e))))

-- a body goes on up to its MEND
body-from : (p : Bytes) (ls b : List Bytes) → any is_mend ls ≡ true → macros_from (in_body p b) ls ≡ macro_of p (b ++ up_to is_mend ls) ∷ macros_from outer (beyond is_mend ls)
unfolding macros_from any up_to beyond
body-from p [] b h = absurd (false≢true h)
body-from p (l ∷ ls) b h = by (is_mend l)
    (λ e. chosen _ _ e ∙ sym (λ i. macro_of p (b ++ (l ∷ chosen [] (up_to is_mend ls) e i)) ∷ macros_from outer (chosen ls (beyond is_mend ls) e i)))
    (λ e.
    let k : any is_mend ls ≡ true = sym (ap (λ a. a || any is_mend ls) e) ∙ h in
    passed_over _ _ e ∙ (body-from p ls (b ++ (l ∷ [])) k
    ∙ ((λ i. macro_of p (append_assoc b (l ∷ []) (up_to is_mend ls) i) ∷ macros_from outer (beyond is_mend ls))
    ∙ sym (λ i. macro_of p (b ++ (l ∷ passed_over [] (up_to is_mend ls) e i)) ∷ macros_from outer (passed_over ls (beyond is_mend ls) e i)))))

-- and without one it is no macro's
body_open : (p : Bytes) (ls b : List Bytes) → any is_mend ls ≡ false → macros_from (in_body p b) ls ≡ []
unfolding macros_from any
body_open p [] b h = refl
body_open p (l ∷ ls) b h = by (is_mend l)
    (λ e. absurd (false≢true (sym h ∙ ap (λ a. a || any is_mend ls) e)))
    (λ e. passed_over _ _ e ∙ body_open p ls (b ++ (l ∷ [])) (sym (ap (λ a. a || any is_mend ls) e) ∙ h))

-- ---- by place

module _ (library : Bytes) (at : ℕ) where
  abbrev start : ℕ
  start = prototype_start library at

  -- the body's first line stands behind the prototype
  abbrev pub body_start : ℕ
  body_start = past_newline library (line_end library start)

  abbrev end : ℕ
  end = body_end library body_start

  from-prototype : macros_from outer (lines_of (drop at library)) ≡ macros_from at_prototype (lines_of (drop start library))
  unfolding prototype_start
  from-prototype = outer-from (lines_of (drop at library)) ∙ sym (ap (macros_from at_prototype) (lines-beyond is_macro library at))

  -- no line stands behind a MACRO line: there is none from `at` on, or it is the last line
  pub macros-none : length library ≤ start → macros_from outer (lines_of (drop at library)) ≡ []
  unfolding macros_from
  macros-none h = from-prototype ∙ ap (macros_from at_prototype) (no-line library start h)

  module _ (h : start < length library) where
    from-body : macros_from outer (lines_of (drop at library)) ≡ macros_from (in_body (line_at library start) []) (lines_of (drop body_start library))
    unfolding macros_from
    from-body =
        from-prototype ∙ (ap (macros_from at_prototype) (turn library start (line_end library start) h refl)
        ∙ ap (macros_from (in_body (line_at library start) [])) (past-lines library start (line_end library start) h refl))

  -- the next macro, and the macros behind its body
  pub macros-next : any is_mend (lines_of (drop body_start library)) ≡ true
      → macros_from outer (lines_of (drop at library))
      ≡ record { prototype = line_at library start; body = lines_of (take (end - body_start) (drop body_start library)) } ∷ macros_from outer (lines_of (drop end library))
  unfolding body_end
  macros-next m =
      from-body (there m) ∙ (body-from (line_at library start) (lines_of (drop body_start library)) [] m
      ∙ sym (λ i. macro_of (line_at library start) (lines-up-to is_mend library body_start i) ∷ macros_from outer (lines-beyond is_mend library body_start i)))
    where
      there : any is_mend (lines_of (drop body_start library)) ≡ true → start < length library
      there m = by (ltb start (length library)) (ltb-true start (length library))
          (λ e. absurd (false≢true (none_named library body_start (past_end library start (ltb-false start (length library) e)) is_mend ∙ m)))

  -- a prototype whose body has no MEND: no macro
  pub macros-open : start < length library → any is_mend (lines_of (drop body_start library)) ≡ false → macros_from outer (lines_of (drop at library)) ≡ []
  macros-open h m = from-body h ∙ body_open (line_at library start) (lines_of (drop body_start library)) [] m
