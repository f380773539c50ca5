-- Lines found one after another by `line_end` are the lines of 01. Assumes nothing.
use Prim.Native.Nat.{ℕ, suc, ◌+◌, ◌-◌, ◌≤◌, ◌<◌}
use native.Mathlib.Omega.{arith}
use mathlib.Core.Path.{◌≡◌, refl, ap, sym, ◌∙◌}
use mathlib.Core.Bool.{Bool, true, false, not}
use mathlib.Core.List.{List, [], ◌∷◌}
use lib.Dec.{eqb}
use lib.ListN.{length, take, drop, length-drop, drop_of_length-le}
use lib.Seq.{drop-drop}
use Rattle.text.specs.Bytes.{Bytes}
use Rattle.rules.specs.Choice.{choose, run, on_first}
use Rattle.rules.specs.Fields.{newline, lines_of}
use Rattle.rules.proofs.Choices.{by, chosen, passed_over}
use Rattle.lines.specs.Ends.{in_line, line_end}

-- a file that is not empty: its first line, and the lines behind its newline
abbrev Found : Bytes → Type 0
Found s = lines_of s ≡ take (run in_line s) s ∷ lines_of (drop (suc (run in_line s)) s)

at-newline : (c : ℕ) (s : Bytes) → eqb c newline ≡ true → Found (c ∷ s)
unfolding lines_of run
at-newline c s e =
    let r : choose (not (eqb c newline)) (suc (run in_line s)) 0 ≡ 0 = passed_over _ _ (ap not e) in
    chosen ([] ∷ lines_of s) (on_first c (lines_of s)) e ∙ sym (ap (λ n. take n (c ∷ s) ∷ lines_of (drop n s)) r)

longer : (c : ℕ) (s : Bytes) → eqb c newline ≡ false → on_first c (lines_of s) ≡ (c ∷ take (run in_line s) s) ∷ lines_of (drop (suc (run in_line s)) s) → Found (c ∷ s)
unfolding lines_of run
longer c s e h =
    let r : choose (not (eqb c newline)) (suc (run in_line s)) 0 ≡ suc (run in_line s) = chosen _ _ (ap not e) in
    passed_over ([] ∷ lines_of s) (on_first c (lines_of s)) e ∙ (h ∙ sym (ap (λ n. take n (c ∷ s) ∷ lines_of (drop n s)) r))

first-line : (c : ℕ) (s : Bytes) → Found (c ∷ s)
unfolding lines_of run on_first
first-line c [] = by (eqb c newline) (at-newline c []) (λ e. longer c [] e refl)
first-line c (d ∷ s) = let ih = first-line d s in by (eqb c newline) (at-newline c (d ∷ s)) (λ e. longer c (d ∷ s) e (ap (on_first c) ih))

module _ (file : Bytes) (at : ℕ) where
  -- from a place inside the file on: the line up to `line_end`, and the lines behind it
  pub line-found : at < length file → lines_of (drop at file) ≡ take (line_end file at - at) (drop at file) ∷ lines_of (drop (suc (line_end file at)) file)
  unfolding line_end
  line-found h =
      let r = run in_line (drop at file) in
      let n : at + r - at ≡ r = omega arith in
      let m : suc (at + r) ≡ at + suc r = omega arith in
      found (drop at file) (rw (length-drop at file) (omega arith)) ∙ (λ j. take (sym n j) (drop at file) ∷ lines_of ((drop-drop (suc r) at file ∙ ap (λ k. drop k file) (sym m)) j))
    where
      found : (s : Bytes) → 0 < length s → Found s
      found [] h = absurd (omega arith)
      found (c ∷ s) h = first-line c s

  -- behind the file's end there is none
  pub no-line : length file ≤ at → lines_of (drop at file) ≡ []
  unfolding lines_of
  no-line h = ap lines_of (drop_of_length-le file h)

first-longer : (c : ℕ) (ls : List Bytes) (n : ℕ) → length ls ≤ n → length (on_first c ls) ≤ suc n
unfolding on_first
first-longer c [] n h = omega arith
first-longer c (l ∷ ls) n h = omega (arith, h)

one-longer : (c : ℕ) (ls : List Bytes) (b : Bool) (n : ℕ) → length ls ≤ n → length (choose b ([] ∷ ls) (on_first c ls)) ≤ suc n
unfolding choose
one-longer c ls true n h = omega (arith, h)
one-longer c ls false n h = first-longer c ls n h

-- no more lines than bytes
pub lines-few : (s : Bytes) → length (lines_of s) ≤ length s
unfolding lines_of
lines-few [] = omega arith
lines-few (c ∷ s) = one-longer c (lines_of s) (eqb c newline) (length s) (lines-few s)
