-- Tables when the lines of a body were put into them one after another. Assumes nothing.
use native.Mathlib.Omega.{arith}
use mathlib.Core.Path.{◌≡◌, ap, sym, ◌∙◌, subst}
use mathlib.Core.List.{List, [], ◌∷◌, ◌++◌, append_assoc, append-nil}
use lib.ListN.{length, length-append}
use Rattle.text.specs.Bytes.{Bytes}
use Rattle.rules.specs.Library.{locals_on, globals_on, declared_in, names_in, with_globals}
use Rattle.rules.proofs.Walked.{with_append}
use Rattle.collecting.specs.declared.Rows.{Rows as Counts}
use Rattle.collecting.specs.Collected.{Sizes, Room, Declares, Counted}
use Rattle.collecting.specs.Bodies.{Fits, DeclaresBehind}
use Rattle.collecting.proofs.Lines.{declared-as, declared-line}

-- the lines of a place on, when the lines are told otherwise
pub fits-as : {ls ks : List Bytes} (rows : Counts) → ls ≡ ks → Fits ls rows → Fits ks rows
fits-as rows e h = subst (λ (x : List Bytes). Fits x rows) e h

-- ---- the first line, and those behind it

module _ (l : Bytes) (ls : List Bytes) (rows : Counts) (h : Fits (l ∷ ls) rows) where
  pub room-here : (own global shared kinds : Bytes) → Sizes own global shared kinds → Room l rows own global shared kinds
  unfolding declared_in
  room-here own global shared kinds s = record {
    sizes = s;
    line-length = h.short.0.line-length;
    few-own = omega (arith, h.few-own, length-append (locals_on l) (declared_in locals_on ls));
    few-global = omega (arith, h.few-global);
    few-shared = omega (arith, h.few-shared);
    short-locals = h.short.0.short-locals;
    short-globals = h.short.0.short-globals;
  }

  pub fits-then : (r : Counts) → Counted l rows r → Fits ls r
  unfolding declared_in
  fits-then r k = record {
    short = h.short.1;
    few-own = omega (arith, h.few-own, k.0, length-append (locals_on l) (declared_in locals_on ls));
    few-global = omega (arith, h.few-global, k.1.0, length-append (globals_on l) (declared_in globals_on ls));
    few-shared = omega (arith, h.few-shared, k.1.1, length-append (globals_on l) (declared_in globals_on ls));
  }

-- ---- what the lines from here on bring completes the tables

-- whatever the lines before are
abbrev pub Brings : List Bytes → Counts → Bytes → Bytes → Bytes → Bytes → Counts → Bytes → Bytes → Bytes → Bytes → Type 0
Brings ls rows own₀ global₀ shared₀ kinds₀ r own₁ global₁ shared₁ kinds₁ =
    (before : List Bytes) → DeclaresBehind before ls rows own₀ global₀ shared₀ kinds₀ r own₁ global₁ shared₁ kinds₁

module _ (rows : Counts) (own global shared kinds : Bytes) where
  pub brings-nothing : (ls : List Bytes) → ls ≡ [] → Brings ls rows own global shared kinds rows own global shared kinds
  unfolding declared_in with_globals
  brings-nothing ls e before p globals d a =
      declared-as (ap (names_in p) (sym (append-nil before) ∙ ap (before ++◌) (sym e))) (ap (λ (x : List Bytes). with_globals globals (declared_in globals_on x)) (sym e)) d

  pub brings-then : (l : Bytes) (ls : List Bytes) (rows₁ : Counts) (own₁ global₁ shared₁ kinds₁ : Bytes) → Declares l rows own global shared kinds rows₁ own₁ global₁ shared₁ kinds₁
      → (r : Counts) (own₂ global₂ shared₂ kinds₂ : Bytes) → Brings ls rows₁ own₁ global₁ shared₁ kinds₁ r own₂ global₂ shared₂ kinds₂
      → Brings (l ∷ ls) rows own global shared kinds r own₂ global₂ shared₂ kinds₂
  unfolding declared_in
  brings-then l ls rows₁ own₁ global₁ shared₁ kinds₁ f r own₂ global₂ shared₂ kinds₂ g before p globals d a =
      let x = declared-line p before l globals rows₁ own₁ global₁ shared₁ kinds₁ (f (names_in p before) globals d.held d.own d.global d.shared a.0.few a.0.one-kind a.0.once) in
      declared-as (ap (names_in p) (append_assoc before (l ∷ []) ls)) (sym (with_append globals (globals_on l) (declared_in globals_on ls)))
      (g (before ++ (l ∷ [])) p (with_globals globals (globals_on l)) x a.1)

-- ---- a turn of a loop over the lines

module _ (all : List Bytes) (first : Counts) (own₀ global₀ shared₀ kinds₀ : Bytes) where
  -- what the lines from here on bring is all that was asked
  abbrev pub Completes : List Bytes → Counts → Bytes → Bytes → Bytes → Bytes → Type 0
  Completes ls rows own global shared kinds =
      (r : Counts) (own₂ global₂ shared₂ kinds₂ : Bytes) → Brings ls rows own global shared kinds r own₂ global₂ shared₂ kinds₂
      → Brings all first own₀ global₀ shared₀ kinds₀ r own₂ global₂ shared₂ kinds₂

  -- all lines are left
  pub completes-all : (ls : List Bytes) → ls ≡ all → Completes ls first own₀ global₀ shared₀ kinds₀
  completes-all ls e r own₂ global₂ shared₂ kinds₂ g = subst (λ (x : List Bytes). Brings x first own₀ global₀ shared₀ kinds₀ r own₂ global₂ shared₂ kinds₂) e g

  pub completes-then : (ks : List Bytes) (l : Bytes) (ls : List Bytes) → ks ≡ l ∷ ls → (rows : Counts) (own global shared kinds : Bytes) → Completes ks rows own global shared kinds
      → (rows₁ : Counts) (own₁ global₁ shared₁ kinds₁ : Bytes) → Declares l rows own global shared kinds rows₁ own₁ global₁ shared₁ kinds₁
      → Completes ls rows₁ own₁ global₁ shared₁ kinds₁
  completes-then ks l ls e rows own global shared kinds h rows₁ own₁ global₁ shared₁ kinds₁ d r own₂ global₂ shared₂ kinds₂ g =
      h r own₂ global₂ shared₂ kinds₂
      (subst (λ (x : List Bytes). Brings x rows own global shared kinds r own₂ global₂ shared₂ kinds₂) (sym e)
      (brings-then rows own global shared kinds l ls rows₁ own₁ global₁ shared₁ kinds₁ d r own₂ global₂ shared₂ kinds₂ g))

pub sizes-as : (own global shared kinds own₁ global₁ shared₁ kinds₁ : Bytes) → Sizes own global shared kinds → length own₁ ≡ length own → length global₁ ≡ length global
    → length shared₁ ≡ length shared → length kinds₁ ≡ length kinds → Sizes own₁ global₁ shared₁ kinds₁
sizes-as own global shared kinds own₁ global₁ shared₁ kinds₁ h a b c d = record {
  own-size = omega (arith, h.own-size, a);
  global-size = omega (arith, h.global-size, b);
  shared-size = omega (arith, h.shared-size, c);
  kinds-size = omega (arith, h.kinds-size, d);
}
