-- One turn of the loop that writes a library's macros: the macro that stands there may be written, and what is left is what was left behind it. Assumes nothing.
use Prim.Native.Nat.{ℕ, ◌+◌, ◌≤◌, ◌<◌}
use native.Mathlib.Omega.{arith}
use mathlib.Core.Path.{◌≡◌, refl, ap, sym, ◌∙◌, subst}
use mathlib.Core.List.{List, [], ◌∷◌, ◌++◌, append_assoc}
use lib.ListN.{length}
use Rattle.text.specs.Bytes.{Bytes}
use Rattle.rules.specs.Library.{Macro}
use Rattle.rules.specs.Faults.{accepted, verdict}
use Rattle.rules.proofs.OneKind.{Globals, few-globals}
use Rattle.lent.specs.Splice.{splice}
use Rattle.labels.specs.Searches.{prototype_start}
use Rattle.decks.specs.Decks.{macro_end, macro_at, macros_at, macro_put, macros_put, Stands}
use Rattle.decks.proofs.Outside.{Outside, outside-start, outside-next}
use Rattle.decks.proofs.Puts.{none-put, next-left, next-size, next-splice}
use Rattle.decks.specs.declared.Macro.{Macro as Piece}
use Rattle.decks.proofs.Turns.{next-at, macro-there}
use Rattle.macros.specs.Macros.{globals_of_library, Member, macro_of, Holds, globals_at, Lent, Writable}
use Rattle.macros.proofs.Tables.{told}

-- from `next` on the macros are still to be written, from `to` on; `done` are those before
pub record Going (library : Bytes) (rows at : ℕ) (out₀ shared kinds out : Bytes) (next to : ℕ) : Type 0 where
  pub outside : Outside library next
  pub done : List Macro
  pub done-are : macros_at library 0 ≡ done ++ macros_at library next
  pub holds : Holds (globals_of_library library) rows shared kinds
  pub total : to + length (macros_put (globals_of_library library) library next) ≡ at + length (macros_put (globals_of_library library) library 0)
  pub written : splice out to (macros_put (globals_of_library library) library next) ≡ splice out₀ at (macros_put (globals_of_library library) library 0)

module _ (library : Bytes) (e : verdict library ≡ accepted) (rows at : ℕ) where
  abbrev all : Globals
  all = globals_of_library library

  pub going_start : (out shared kinds : Bytes) → Holds (globals_of_library library) rows shared kinds → Going library rows at out shared kinds out 0 at
  going_start out shared kinds h = record { outside = outside-start library e; done = []; done-are = refl; holds = h; total = refl; written = refl }

  module _ (out₀ shared kinds out : Bytes) (next to : ℕ) (g : Going library rows at out₀ shared kinds out next to) where
    abbrev Ended : Type 0
    Ended = (to ≡ at + length (macros_put all library 0)) × (out ≡ splice out₀ at (macros_put all library 0))

    nothing_left : macros_put all library next ≡ [] → Ended
    unfolding splice
    nothing_left z = (omega (arith, g.total, ap length z), sym (ap (splice out to) z) ∙ g.written)

    pub none_found : (start : ℕ) → start ≡ prototype_start library next → length library ≤ start
        → (to ≡ at + length (macros_put (globals_of_library library) library 0)) × (out ≡ splice out₀ at (macros_put (globals_of_library library) library 0))
    none_found start s h = nothing_left (none-put all library next (omega (arith, s, h)))

    module _ (m : Piece) (h : Stands library next m) where
      abbrev one : Macro
      one = macro_at library next

      abbrev found : Macro
      found = macro_of m.prototype.now m.body.now

      there : prototype_start library next < length library
      there = subst (λ (n : ℕ). n < length library) h.found.start_is h.inside

      is-one : one ≡ found
      is-one = macro-there h.found ∙ (λ i. macro_of (sym h.prototype i) (sym h.body i))

      globals-told : globals_at rows shared kinds ≡ all
      globals-told = told (omega (arith, few-globals library e)) g.holds

      member : Member all one
      unfolding macros_at
      member = record {
        library = library;
        is-accepted = e;
        globals-are = refl;
        before = g.done;
        behind = macros_at library (macro_end library next);
        macros-are = g.done-are ∙ ap (g.done ++◌) (next-left all library next g.outside there);
      }

      pub writable : (own global code : Bytes) → Lent own global shared kinds code → at + length (macros_put (globals_of_library library) library 0) ≤ length out₀ → length out ≡ length out₀
          → Writable (globals_at rows shared kinds) (macro_of m.prototype.now m.body.now) rows own global shared kinds code out to
      writable own global code z room l =
          subst (λ (gs : Globals). Writable gs found rows own global shared kinds code out to) (sym globals-told)
          (subst (λ (x : Macro). Writable all x rows own global shared kinds code out to) is-one (record {
            member = member;
            holds = g.holds;
            lent = z;
            room = omega (arith, room, l, g.total, next-size all library next g.outside there);
          }))

      pub going_on : (new shared₁ kinds₁ : Bytes) (to₁ : ℕ)
          → (to₁ ≡ to + length (macro_put (globals_at rows shared kinds) (macro_of m.prototype.now m.body.now)))
          × ((new ≡ splice out to (macro_put (globals_at rows shared kinds) (macro_of m.prototype.now m.body.now)))
          × Holds (globals_at rows shared kinds) rows shared₁ kinds₁)
          → Going library rows at out₀ shared₁ kinds₁ new m.next to₁
      going_on new shared₁ kinds₁ to₁ w =
          let q : macro_put (globals_at rows shared kinds) found ≡ macro_put all one = λ i. macro_put (globals-told i) (sym is-one i) in
          let n = w.0 ∙ ap (λ (s : Bytes). to + length s) q in
          let k = w.1.0 ∙ ap (splice out to) q in
          subst (λ (p : ℕ). Going library rows at out₀ shared₁ kinds₁ new p to₁) (sym (next-at h.found)) (record {
            outside = outside-next library next g.outside there;
            done = g.done ++ (one ∷ []);
            done-are = g.done-are ∙ (ap (g.done ++◌) (next-left all library next g.outside there) ∙ sym (append_assoc g.done (one ∷ []) (macros_at library (macro_end library next))));
            holds = subst (λ (gs : Globals). Holds gs rows shared₁ kinds₁) globals-told w.1.1;
            total = omega (arith, n, g.total, next-size all library next g.outside there);
            written = next-splice all library next g.outside there out new to to₁ n k ∙ g.written;
          })

pub lent-as : (own global shared kinds code own₁ global₁ shared₁ kinds₁ code₁ : Bytes) → Lent own global shared kinds code → length own₁ ≡ length own → length global₁ ≡ length global
    → length shared₁ ≡ length shared → length kinds₁ ≡ length kinds → length code₁ ≡ length code → Lent own₁ global₁ shared₁ kinds₁ code₁
lent-as own global shared kinds code own₁ global₁ shared₁ kinds₁ code₁ h a b c d e = record {
  sizes = record {
    own-size = omega (arith, h.sizes.own-size, a);
    global-size = omega (arith, h.sizes.global-size, b);
    shared-size = omega (arith, h.sizes.shared-size, c);
    kinds-size = omega (arith, h.sizes.kinds-size, d);
  };
  codes = omega (arith, h.codes, e);
}
