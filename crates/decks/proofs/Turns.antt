-- One turn of a loop over a library's macros: the places that it finds, and what stands there. Assumes nothing.
use Prim.Native.Nat.{ℕ, suc, ◌-◌, ◌≤◌, ◌<◌}
use native.Mathlib.Omega.{arith}
use mathlib.Core.Path.{◌≡◌, ap, sym, ◌∙◌, subst}
use mathlib.Core.List.{[]}
use lib.ListN.{length, take, drop}
use Rattle.text.specs.Bytes.{Bytes}
use Rattle.rules.specs.Fields.{lines_of}
use Rattle.lines.specs.Ends.{line_end}
use Rattle.labels.specs.Searches.{past_newline, behind, body_end, prototype_start}
use Rattle.labels.proofs.Turns.{past-within}
use Rattle.decks.specs.declared.Macro.{Macro as Piece}
use Rattle.decks.specs.Decks.{Found, Stands, body_from, macro_end, macro_at, macros_at}
use Rattle.decks.proofs.Outside.{Outside, outside-next}
use Rattle.decks.proofs.Puts.{none_left, next-count}

module _ {library : Bytes} {at start end body next : ℕ} (f : Found library at start end body next) where
  body_at : body ≡ body_from library at
  unfolding body_from
  body_at = f.body_is ∙ ap (past_newline library) (f.end_is ∙ ap (line_end library) f.start_is)

  pub next-at : next ≡ macro_end library at
  unfolding macro_end
  next-at = f.next-is ∙ ap (body_end library) body_at

  -- the macro that stands there
  pub macro-there : macro_at library at ≡ record { prototype = take (end - start) (drop start library); body = lines_of (take (next - body) (drop body library)) }
  unfolding macro_at
  macro-there =
      let s = sym f.start_is in
      let e = ap (line_end library) s ∙ sym f.end_is in
      let b = sym body_at in
      let n = sym next-at in
      λ i. record { prototype = take (e i - s i) (drop (s i) library); body = lines_of (take (n i - b i) (drop (b i) library)) }

  module _ (h : start < length library) where
    there : prototype_start library at < length library
    there = subst (λ (n : ℕ). n < length library) f.start_is h

    pub body-behind : start < body
    body-behind = let w = past-within library start end h f.end_is in omega (arith, w.0, f.body_is)

    pub body-within : body ≤ length library
    body-within = omega (arith, f.body_is, (past-within library start end h f.end_is).1)

    pub outside-on : Outside library at → Outside library next
    outside-on g = subst (Outside library) (sym next-at) (outside-next library at g there)

    pub count-on : Outside library at → length (macros_at library at) ≡ suc (length (macros_at library next))
    count-on g = next-count [] library at g there ∙ ap (λ (n : ℕ). suc (length (macros_at library n))) (sym next-at)

pub count_none : (library : Bytes) (at start : ℕ) → start ≡ prototype_start library at → length library ≤ start → length (macros_at library at) ≡ 0
count_none library at start e h = ap length (none_left [] library at (omega (arith, e, h)))

-- a macro that stands from `at` on ends behind that place
pub stands-on : {library : Bytes} {at : ℕ} {m : Piece} → Stands library at m → (at < m.next) × (at < length library)
unfolding prototype_start body_end behind
stands-on h = let b = body-behind h.found h.inside in (omega (arith, h.found.start_is, h.found.next-is, b), omega (arith, h.found.start_is, h.inside))
