-- A walk from the library's start, its way, and its end: the verdict that it gives. Assumes nothing.
use Prim.Native.Nat.{ℕ, suc, ◌+◌, ◌-◌, ◌≤◌, ◌<◌}
use native.Mathlib.Omega.{arith}
use mathlib.Core.Path.{◌≡◌, refl, ap, sym, ◌∙◌, subst}
use lib.ListN.{length, take, drop}
use Rattle.text.specs.Bytes.{Bytes}
use Rattle.rules.specs.Choice.{every}
use Rattle.rules.specs.Limits.{out_of_place}
use Rattle.rules.specs.Fields.{lines_of}
use Rattle.rules.specs.Library.{Place, outer, at_prototype, in_body, firsts}
use Rattle.rules.specs.Faults.{Around, no_lines, faulty, at_end, verdict_from, verdict}
use Rattle.lines.specs.Ends.{line_end}
use Rattle.lines.proofs.Found.{no-line}
use Rattle.labels.proofs.Turns.{turn}
use Rattle.names.specs.Names.{rows_by, names_in, titles_in}
use Rattle.walking.specs.declared.Walk.{Walk as Stand}
use Rattle.walking.specs.declared.Place.TheVariants.{Outer}
use Rattle.std.specs.Prelude.{Ok, Err}
use Rattle.refusals.specs.declared.Fault.{Fault}
use Rattle.refusals.specs.declared.Fault.TheVariants.{OutOfPlace}
use Rattle.refusals.specs.Numbers.{number_of}
use Rattle.refusals.proofs.Apart.{numbered-from-1}
use Rattle.walking.specs.Verdicts.{told, fault_number, globals_from, globals_at, Shared, Lists}
use Rattle.walking.specs.Walks.{Placed, Sizes, Walked, AtLine, Ready}
use Rattle.walking.proofs.Answers.{verdict-faulty}
use Rattle.walking.proofs.Passing.{is-outer}

pub starts : (library titles own global shared kinds : Bytes) → Sizes titles own global shared kinds
    → Walked library (record { at = 0; lines = 0; macros = 0; titles = 0; place = Outer; rows = record { own = 0; global = 0; shared = 0 } }) titles own global shared kinds
unfolding verdict no_lines globals_at titles_in names_in rows_by every firsts
starts library titles own global shared kinds s = record {
  around = no_lines;
  follows = record {
    inside = omega arith;
    lines_are = refl;
    macros-are = refl;
    few-lines = omega arith;
    few-macros = omega arith;
    titled = record { listed = refl; fitting = refl; counted = refl };
    globals-in = record { listed = refl; numbered = refl; counted = refl };
    few-globals = omega arith;
    placed = (refl, omega arith);
  };
  sizes = s;
  verdict-is = refl;
  globals-are = refl;
}

module _ (library : Bytes) (w : Stand) (titles own global shared kinds : Bytes) (x : Walked library w titles own global shared kinds) where
  abbrev a : Around
  a = x.around

  -- ---- a line

  module _ (end : ℕ) (in-file : w.at < length library) (e : end ≡ line_end library w.at) where
    pub is-faulty : (found : Fault) → number_of found ≡ fault_number x.around (take (end - w.at) (drop w.at library)) (lines_of (drop (end + 1) library))
        → told (Err (record { fault = found; line = w.lines + 1 })) ≡ verdict library
    unfolding told
    is-faulty found n =
        let l = take (end - w.at) (drop w.at library) in
        let ls = lines_of (drop (end + 1) library) in
        let k : suc a.lines ≡ w.lines + 1 = omega (arith, x.follows.lines_are) in
        sym (sym x.verdict-is ∙ (ap (verdict_from a) (turn library w.at end in-file e) ∙ (verdict-faulty a l ls (number_of found) n (numbered-from-1 found) ∙ ap (faulty (number_of found)) k)))

    pub is-ready : 0 ≡ fault_number x.around (take (end - w.at) (drop w.at library)) (lines_of (drop (end + 1) library)) → Ready library w end titles own global shared kinds
    is-ready n = record { walked = x; in-file = in-file; end_is = e; no-fault = sym n }

  pub at-line : (end : ℕ) → w.at < length library → end ≡ line_end library w.at → AtLine library w end titles own global shared kinds
  at-line end h e = record { walked = x; in-file = h; end_is = e }

  -- ---- the library's end

  module _ (h : length library ≤ w.at) where
    verdict-there : at_end a a.place ≡ verdict library
    unfolding verdict_from
    verdict-there = ap (verdict_from a) (sym (no-line library w.at h)) ∙ x.verdict-is

    pub is-accepted : w.place ≡ Outer → told (Ok w.rows.shared) ≡ verdict library
    unfolding told at_end
    is-accepted z = ap (at_end a) (sym (is-outer library w own global shared kinds a.globals a.place x.follows.placed z)) ∙ verdict-there

    pub are-listed : Lists (Ok w.rows.shared) library shared kinds
    unfolding globals_from
    are-listed =
        subst (λ gs. Shared gs w.rows.shared shared kinds) (ap (globals_from a) (sym (no-line library w.at h)) ∙ x.globals-are) x.follows.globals-in

    missing : (pl : Place) → Placed library w own global shared kinds a.globals pl → (w.place ≡ Outer → ⊥) → faulty out_of_place (w.lines + 1) ≡ at_end a pl
    unfolding at_end
    missing outer p z = absurd (z p.0)
    missing at_prototype p z = let k : w.lines + 1 ≡ suc a.lines = omega (arith, x.follows.lines_are) in ap (faulty out_of_place) k
    missing (in_body p b) q z = let k : w.lines + 1 ≡ suc a.lines = omega (arith, x.follows.lines_are) in ap (faulty out_of_place) k

    -- no other place is outside definitions
    pub is-missing : (w.place ≡ Outer → ⊥) → told (Err (record { fault = OutOfPlace; line = w.lines + 1 })) ≡ verdict library
    unfolding told
    is-missing z = missing a.place x.follows.placed z ∙ verdict-there

  pub few-lines : w.lines ≤ 512
  few-lines = x.follows.few-lines
