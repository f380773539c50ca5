-- The lines of a part of a file grow by the line behind it, where the part ends with a line. Assumes nothing.
use Prim.Native.Nat.{ℕ, suc, ◌+◌, ◌-◌, ◌≤◌, ◌<◌}
use native.Mathlib.Nat.{not-suc-le-zero}
use native.Mathlib.Omega.{arith}
use mathlib.Core.Path.{◌≡◌, ap, sym, ◌∙◌}
use mathlib.Core.Bool.{not}
use mathlib.Core.List.{[], ◌∷◌, ◌++◌, append_assoc, append-nil}
use lib.Dec.{eqb, ltb}
use lib.ListN.{length, take, drop, length-drop, drop_of_length-le}
use lib.Seq.{drop-drop, take-add, take_all}
use borrow.Author.Tests.{lt-ltb, ltb-true, ltb-false}
use Rattle.text.specs.Bytes.{Bytes}
use Rattle.rules.specs.Choice.{choose, run, on_first}
use Rattle.rules.specs.Fields.{newline, lines_of}
use Rattle.rules.proofs.Choices.{by, chosen, passed_over}
use Rattle.lines.specs.Ends.{in_line, line_end}
use Rattle.labels.specs.Searches.{past_newline}
use Rattle.labels.proofs.Turns.{turn, past-within}
use Rattle.walking.specs.Walks.{Whole, part}

-- a line with its newline, before other bytes
first-whole : (u t : Bytes) → run in_line u < length u → lines_of (take (suc (run in_line u)) u ++ t) ≡ take (run in_line u) u ∷ lines_of t
unfolding run lines_of on_first
first-whole [] t h = absurd (not-suc-le-zero h)
first-whole (c ∷ u) t h = by (eqb c newline)
    (λ e.
    let r : choose (not (eqb c newline)) (suc (run in_line u)) 0 ≡ 0 = passed_over _ _ (ap not e) in
    ap (λ (n : ℕ). lines_of (take (suc n) (c ∷ u) ++ t)) r ∙ (chosen ([] ∷ lines_of t) (on_first c (lines_of t)) e ∙ sym (ap (λ (n : ℕ). take n (c ∷ u) ∷ lines_of t) r)))
    (λ e.
    let r : choose (not (eqb c newline)) (suc (run in_line u)) 0 ≡ suc (run in_line u) = chosen _ _ (ap not e) in
    let rest = take (suc (run in_line u)) u ++ t in
    ap (λ (n : ℕ). lines_of (take (suc n) (c ∷ u) ++ t)) r
    ∙ (passed_over ([] ∷ lines_of rest) (on_first c (lines_of rest)) e
    ∙ (ap (on_first c) (first-whole u t (omega (arith, h, r))) ∙ sym (ap (λ (n : ℕ). take n (c ∷ u) ∷ lines_of t) r))))

module _ (file : Bytes) (body at end : ℕ) (in-file : at < length file) (starts : body ≤ at) (e : end ≡ line_end file at) (whole : Whole (part file body at)) where
  abbrev next : ℕ
  next = past_newline file end

  abbrev line : Bytes
  line = take (end - at) (drop at file)

  -- what stands between the two places
  behind : part file body next ≡ part file body at ++ take (next - at) (drop at file)
  behind =
      let w = past-within file at end in-file e in
      let k : next - body ≡ (at - body) + (next - at) = omega (arith, w.0, starts) in
      let j : body + (at - body) ≡ at = omega (arith, starts) in
      ap (λ (n : ℕ). take n (drop body file)) k
      ∙ (take-add (at - body) (next - at) (drop body file)
      ∙ ap (λ (s : Bytes). part file body at ++ take (next - at) s) (drop-drop (at - body) body file ∙ ap (λ (n : ℕ). drop n file) j))

  run_is : run in_line (drop at file) ≡ end - at
  unfolding line_end
  run_is = omega (arith, e)

  -- the line has a newline
  module _ (h : end < length file) where
    next-is : next - at ≡ suc (run in_line (drop at file))
    unfolding past_newline line_end
    next-is = let k = chosen (end + 1) end (lt-ltb end (length file) h) in omega (arith, k, e)

    with_newline : (t : Bytes) → lines_of (take (next - at) (drop at file) ++ t) ≡ line ∷ lines_of t
    with_newline t =
        ap (λ (n : ℕ). lines_of (take n (drop at file) ++ t)) next-is
        ∙ (first-whole (drop at file) t (let n = length-drop at file in omega (arith, run_is, n, h, in-file)) ∙ ap (λ (n : ℕ). take n (drop at file) ∷ lines_of t) run_is)

  line-alone : lines_of (take (next - at) (drop at file)) ≡ line ∷ []
  unfolding lines_of past_newline
  line-alone = by (ltb end (length file))
      (λ f. ap lines_of (sym (append-nil (take (next - at) (drop at file)))) ∙ with_newline (ltb-true end (length file) f) [])
      (λ f.
      let h = ltb-false end (length file) f in
      let k = passed_over (end + 1) end f in
      let n = length-drop at file in
      let w = past-within file at end in-file e in
      ap lines_of (take_all (next - at) (drop at file) (omega (arith, n, k, h, in-file)))
      ∙ (turn file at end in-file e ∙ ap (λ (s : Bytes). line ∷ lines_of s) (drop_of_length-le file {i = end + 1} (omega (arith, h)))))

  pub grown : lines_of (part file body next) ≡ lines_of (part file body at) ++ (line ∷ [])
  grown = ap lines_of behind ∙ (whole (take (next - at) (drop at file)) ∙ ap (lines_of (part file body at) ++◌) line-alone)

  pub whole-next : next < length file → Whole (part file body next)
  unfolding past_newline
  whole-next h t =
      let front = part file body at in
      let new = take (next - at) (drop at file) in
      let inner : end < length file = by (ltb end (length file)) (λ f. ltb-true end (length file) f)
      (λ f. let k = passed_over (end + 1) end f in omega (arith, k, h)) in
      ap (λ (s : Bytes). lines_of (s ++ t)) behind
      ∙ (ap lines_of (append_assoc front new t)
      ∙ (whole (new ++ t)
      ∙ (ap (lines_of front ++◌) (with_newline inner t)
      ∙ (sym (append_assoc (lines_of front) (line ∷ []) (lines_of t)) ∙ ap (◌++ lines_of t) (sym grown)))))
