-- Where lines are accepted from a place outside definitions on, the next MACRO line has its prototype and its MEND, and the place behind MEND is one as well.
-- Assumes nothing.
use Prim.Native.Nat.{ℕ, ◌<◌}
use native.Mathlib.Omega.{arith}
use mathlib.Core.Path.{◌≡◌, refl, ap, sym, ◌∙◌, subst}
use mathlib.Core.Bool.{true, ◌||◌}
use mathlib.Core.List.{List, [], ◌∷◌, ◌++◌}
use lib.ListN.{length, drop}
use Rattle.text.specs.Bytes.{Bytes}
use Rattle.rules.specs.Choice.{any}
use Rattle.rules.specs.Fields.{lines_of}
use Rattle.rules.specs.Statement.{Set}
use Rattle.rules.specs.Library.{Place, outer, at_prototype, in_body, is_macro, is_mend}
use Rattle.rules.specs.Faults.{no_lines, place_after, titles_after, globals_after, macros_after, around_after, accepted, at_end, verdict_from, verdict}
use Rattle.rules.proofs.Choices.{chosen, passed_over, by}
use Rattle.rules.proofs.Accepted.{first-line, refused, around}
use Rattle.rules.proofs.Within.{Prototype}
use Rattle.lines.specs.Ends.{line_end}
use Rattle.labels.specs.Searches.{line_at, beyond, body_end, prototype_start}
use Rattle.labels.proofs.Turns.{turn, past-lines}
use Rattle.labels.proofs.Bodies.{lines-beyond}
use Rattle.decks.specs.Decks.{body_from, macro_end}

-- ---- over lines

-- lines that are accepted where they stand, for some lines before them
pub record Goes (w : Place) (ls : List Bytes) : Type 0 where
  pub lines : ℕ
  pub macros : ℕ
  pub titles : List Bytes
  pub globals : List (Bytes × Set)
  pub is-accepted : verdict_from (around lines macros titles globals w) ls ≡ accepted

-- behind the first of them
goes_after : (w : Place) (l : Bytes) (ls : List Bytes) → Goes w (l ∷ ls) → Goes (place_after l w) ls
unfolding around_after
goes_after w l ls g = record {
  lines = _;
  macros = macros_after l w g.macros;
  titles = titles_after l w g.titles;
  globals = globals_after l w g.globals;
  is-accepted = (first-line (around g.lines g.macros g.titles g.globals w) l ls g.is-accepted).1;
}

stands : (p : Bytes) (ls : List Bytes) → Goes at_prototype (p ∷ ls) → Prototype p
stands p ls g = record {
  lines = g.lines;
  macros = g.macros;
  titles = g.titles;
  globals = g.globals;
  more = ls;
  is-faultless = (first-line (around g.lines g.macros g.titles g.globals at_prototype) p ls g.is-accepted).0;
}

-- from outside definitions to the next prototype
to-prototype : (ls : List Bytes) (p : Bytes) (more : List Bytes) → Goes outer ls → beyond is_macro ls ≡ p ∷ more → Goes at_prototype (p ∷ more)
unfolding beyond place_after
to-prototype [] p more g e = absurd (let z = ap length e in omega (arith, z))
to-prototype (l ∷ ls) p more g e = by (is_macro l)
    (λ t. subst (Goes at_prototype) (sym (chosen ls (beyond is_macro ls) t) ∙ e) (subst (λ w. Goes w ls) (chosen at_prototype outer t) (goes_after outer l ls g)))
    (λ t.
    to-prototype ls p more (subst (λ w. Goes w ls) (passed_over at_prototype outer t) (goes_after outer l ls g)) (sym (passed_over ls (beyond is_macro ls) t) ∙ e))

to-body : (p : Bytes) (ls : List Bytes) → Goes at_prototype (p ∷ ls) → Goes (in_body p []) ls
unfolding place_after
to-body p ls g = goes_after at_prototype p ls g

-- from a body to behind its MEND
to-outer : (p : Bytes) (ls before : List Bytes) → Goes (in_body p before) ls → (any is_mend ls ≡ true) × Goes outer (beyond is_mend ls)
unfolding any beyond place_after verdict_from at_end
to-outer p [] before g = refused g.is-accepted
to-outer p (l ∷ ls) before g = by (is_mend l)
    (λ t. (
      ap (◌|| any is_mend ls) t,
      subst (Goes outer) (sym (chosen ls (beyond is_mend ls) t)) (subst (λ w. Goes w ls) (chosen outer (in_body p (before ++ (l ∷ []))) t) (goes_after (in_body p before) l ls g)),
    ))
    (λ t.
    let r = to-outer p ls (before ++ (l ∷ [])) (subst (λ w. Goes w ls) (passed_over outer (in_body p (before ++ (l ∷ []))) t) (goes_after (in_body p before) l ls g)) in
    (ap (◌|| any is_mend ls) t ∙ r.0, subst (Goes outer) (sym (passed_over ls (beyond is_mend ls) t)) r.1))

-- ---- by place

-- `at` stands outside definitions, and the lines from there on are accepted
abbrev pub Outside : Bytes → ℕ → Type 0
Outside library at = Goes outer (lines_of (drop at library))

pub outside-start : (library : Bytes) → verdict library ≡ accepted → Outside library 0
unfolding verdict no_lines
outside-start library e = record { lines = 0; macros = 0; titles = []; globals = []; is-accepted = e }

module _ (library : Bytes) (at : ℕ) (g : Outside library at) (h : prototype_start library at < length library) where
  abbrev start : ℕ
  start = prototype_start library at

  at-prototype : Goes at_prototype (line_at library start ∷ lines_of (drop (body_from library at) library))
  unfolding body_from prototype_start
  at-prototype =
      to-prototype (lines_of (drop at library)) (line_at library start) (lines_of (drop (body_from library at) library)) g
      (sym (lines-beyond is_macro library at) ∙ (turn library start (line_end library start) h refl
      ∙ ap (λ (ls : List Bytes). line_at library start ∷ ls) (past-lines library start (line_end library start) h refl)))

  pub prototype-stands : Prototype (line_at library start)
  prototype-stands = stands (line_at library start) (lines_of (drop (body_from library at) library)) at-prototype

  behind-body : (any is_mend (lines_of (drop (body_from library at) library)) ≡ true) × Goes outer (beyond is_mend (lines_of (drop (body_from library at) library)))
  behind-body = to-outer (line_at library start) (lines_of (drop (body_from library at) library)) [] (to-body (line_at library start) (lines_of (drop (body_from library at) library)) at-prototype)

  pub has-mend : any is_mend (lines_of (drop (body_from library at) library)) ≡ true
  has-mend = behind-body.0

  pub outside-next : Outside library (macro_end library at)
  unfolding macro_end body_end
  outside-next = subst (Goes outer) (sym (lines-beyond is_mend library (body_from library at))) behind-body.1
