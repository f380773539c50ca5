-- The places of a line's fields stand in order, and a declaration's operand is at least six bytes shorter than its line. Assumes nothing.
use Prim.Native.Nat.{ℕ, suc, ◌-◌, ◌≤◌, ◌<◌}
use native.Mathlib.Nat.{not-suc-le-zero}
use native.Mathlib.Omega.{arith}
use mathlib.Core.Path.{◌≡◌, refl, ap, sym, subst}
use mathlib.Core.Bool.{Bool, true, false, not}
use mathlib.Core.List.{List, [], ◌∷◌}
use lib.Dec.{eqb, ltb}
use lib.ListN.{length, take, drop, length-drop, length-take}
use lib.Seq.{drop-drop}
use borrow.Author.Tests.{ltb-true, ltb-false}
use Rattle.text.specs.Bytes.{Bytes}
use Rattle.rules.specs.Choice.{choose, passed, run}
use Rattle.rules.specs.Lexemes.{space, Lex, Before, field_start, marked, outside, enters, after}
use Rattle.rules.specs.Fields.{is_space, is_no_space, ends_operand, operand_end, holds_spaces}
use Rattle.rules.proofs.Choices.{by, chosen, passed_over}
use Rattle.fields.specs.declared.Cuts.{Cuts as Marks}
use Rattle.fields.specs.Cuts.{in_run, run_end, operand_end_at, cuts_of}
use Rattle.statements.proofs.Symbols.{run-within}

-- ---- ends are inside the line

passed-within : {A S : Type 0} (stop : S → A → Bool) (next : S → A → S) (st : S) (l : List A) → passed stop next st l ≤ length l
unfolding passed
passed-within stop next st [] = omega arith
passed-within stop next st (a ∷ l) =
    by (stop st a) (λ e. let c = chosen 0 (suc (passed stop next (next st a) l)) e in omega (arith, c))
    (λ e. let c = passed_over 0 (suc (passed stop next (next st a) l)) e in omega (arith, c, passed-within stop next (next st a) l))

marked-length : (quotes : Bool) (b : Before) (s : Bytes) → length (marked {R = Bytes} quotes b s) ≡ length s
unfolding marked
marked-length quotes b [] = refl
marked-length quotes b (c ∷ s) = ap suc (marked-length quotes (after quotes b c s) s)

module _ (l : Bytes) (at : ℕ) (h : at ≤ length l) where
  run_inside : (spaces : Bool) → (at ≤ run_end spaces l at) × (run_end spaces l at ≤ length l)
  unfolding run_end
  run_inside spaces = let w = run-within (in_run spaces) (drop at l) in (omega arith, omega (arith, w, h, length-drop at l))

  operand-inside : (holds : Bool) → (at ≤ operand_end_at holds l at) × (operand_end_at holds l at ≤ length l)
  unfolding operand_end_at operand_end
  operand-inside holds =
      let x : List (Lex Bytes) = marked true field_start (drop at l) in
      let w = passed-within (ends_operand holds) enters outside x in
      (omega arith, omega (arith, w, h, marked-length true field_start (drop at l), length-drop at l))

pub record Ordered (l : Bytes) (c : Marks) : Type 0 where
  pub name-inside : c.gap ≤ length l
  pub operation-first : c.operation ≤ c.space
  pub operand-behind : c.space ≤ c.operand
  pub remarks-behind : c.operand ≤ c.remarks
  pub remarks-inside : c.remarks ≤ length l

pub ordered : (l : Bytes) (c : Marks) → c ≡ cuts_of l → Ordered l c
unfolding cuts_of
ordered l c e = subst (Ordered l) (sym e) (
    let g = run_inside l 0 (omega arith) false in
    let o = run_inside l (run_end false l 0) g.1 true in
    let s = run_inside l (run_end true l (run_end false l 0)) o.1 false in
    let a = run_inside l (run_end false l (run_end true l (run_end false l 0))) s.1 true in
    let r = operand-inside l (run_end true l (run_end false l (run_end true l (run_end false l 0)))) a.1 _ in
    record { name-inside = g.1; operation-first = s.0; operand-behind = a.0; remarks-behind = r.0; remarks-inside = r.1 }
    )

-- ---- spaces between fields

-- where anything but spaces ends before the text does, there is a space
spaced : (s : Bytes) → run is_no_space s < length s → 0 < run is_space (drop (run is_no_space s) s)
unfolding run is_space is_no_space choose
spaced [] h = absurd (not-suc-le-zero h)
spaced (c ∷ s) h = go (eqb c space) refl h (spaced s)
  where
    go : (b : Bool) → eqb c space ≡ b → choose (not b) (suc (run is_no_space s)) 0 < suc (length s) → (run is_no_space s < length s → 0 < run is_space (drop (run is_no_space s) s))
        → 0 < run is_space (drop (choose (not b) (suc (run is_no_space s)) 0) (c ∷ s))
    go true e h ih = let k = chosen (suc (run is_space s)) 0 e in omega (arith, k)
    go false e h ih = ih (omega (arith, h))

gap-behind : (l : Bytes) (at : ℕ) → at ≤ length l → run_end false l at < length l → run_end false l at < run_end true l (run_end false l at)
unfolding run_end in_run choose
gap-behind l at i h =
    let n = run is_no_space (drop at l) in
    let k = spaced (drop at l) (omega (arith, h, i, length-drop at l)) in
    let e = ap (run is_space) (drop-drop n at l) in
    omega (arith, k, e)

-- a name of any length, a space, four letters, a space
pub operand_short : (l : Bytes) (c : Marks) → c ≡ cuts_of l → length (take (c.space - c.operation) (drop c.operation l)) ≡ 4 → c.remarks - c.operand ≤ length l - 6
unfolding cuts_of
operand_short l c e = subst (λ (m : Marks). length (take (m.space - m.operation) (drop m.operation l)) ≡ 4 → m.remarks - m.operand ≤ length l - 6) (sym e) (λ four.
    let g = run_inside l 0 (omega arith) false in
    let gap = run_end false l 0 in
    let o = run_inside l gap g.1 true in
    let operation = run_end true l gap in
    let s = run_inside l operation o.1 false in
    let room = run_end false l operation in
    let a = run_inside l room s.1 true in
    let operand = run_end true l room in
    let r = operand-inside l operand a.1 (holds_spaces (take (room - operation) (drop operation l))) in
    let t = length-take (room - operation) (drop operation l) in
    let b : gap < operation = gap-behind l 0 (omega arith) (omega (arith, g.1, o.0, s.1, t, four)) in
    by (ltb room (length l))
    (λ q. let d = gap-behind l operation o.1 (ltb-true room (length l) q) in omega (arith, b, t, four, d, r.0, r.1))
    (λ q. let d = ltb-false room (length l) q in omega (arith, b, t, four, d, s.1, a.0, r.0, r.1)))
