-- From one line to the next, by place. Assumes nothing.
use Prim.Native.Nat.{ℕ, ◌+◌, ◌-◌, ◌≤◌, ◌<◌}
use native.Mathlib.Numerals.{add-one}
use native.Mathlib.Omega.{arith}
use mathlib.Core.Path.{◌≡◌, refl, ap, sym, ◌∙◌}
use mathlib.Core.List.{◌∷◌}
use lib.Dec.{ltb}
use lib.ListN.{length, take, drop, length-drop}
use lib.Seq.{length-take-le}
use borrow.Author.Tests.{ltb-true, ltb-false}
use Rattle.text.specs.Bytes.{Bytes}
use Rattle.rules.specs.Fields.{lines_of}
use Rattle.rules.proofs.Choices.{either}
use Rattle.rules.proofs.Scanning.{run-within}
use Rattle.lines.specs.Ends.{in_line, line_end, past_newline}
use Rattle.lines.proofs.Found.{line-found, no-line}

-- the line that starts at `at` ends at `end`
module _ (file : Bytes) (at end : ℕ) (h : at < length file) (e : end ≡ line_end file at) where
  pub turn : lines_of (drop at file) ≡ take (end - at) (drop at file) ∷ lines_of (drop (end + 1) file)
  turn = line-found file at h ∙ (λ i. take (sym e i - at) (drop at file) ∷ lines_of (drop ((sym (add-one (line_end file at)) ∙ ap (◌+ 1) (sym e)) i) file))

  pub end-within : (at ≤ end) × (end ≤ length file)
  unfolding line_end
  end-within = let w = run-within in_line (drop at file) in let n = length-drop at file in (omega (arith, e), omega (arith, e, w, n))

  pub line-length : length (take (end - at) (drop at file)) ≡ end - at
  line-length = length-take-le (end - at) (drop at file) (let n = length-drop at file in omega (arith, end-within.1, n))

  -- a place behind the line, inside the file or at its end
  pub past-within : (at < past_newline file end) × (past_newline file end ≤ length file)
  unfolding past_newline
  past-within =
      either (λ n. (at < n) × (n ≤ length file)) (ltb end (length file)) (λ t. let l = ltb-true end (length file) t in (omega (arith, end-within.0), omega arith))
      (λ t. let l = ltb-false end (length file) t in (omega (arith, end-within.1), end-within.1))

  pub past-lines : lines_of (drop (end + 1) file) ≡ lines_of (drop (past_newline file end) file)
  unfolding past_newline
  past-lines =
      either (λ n. lines_of (drop (end + 1) file) ≡ lines_of (drop n file)) (ltb end (length file)) (λ t. refl)
      (λ t. let l = ltb-false end (length file) t in no-line file (end + 1) (omega arith) ∙ sym (no-line file end l))
