-- Searches over lines by place: what one more line decides. These are the steps of every loop over lines. Assumes nothing.
use Prim.Native.Nat.{ℕ, suc, ◌+◌, ◌-◌, ◌≤◌, ◌<◌}
use native.Mathlib.Omega.{arith}
use mathlib.Core.Path.{◌≡◌, refl, ap, sym, ◌∙◌}
use mathlib.Core.Bool.{Bool, true, false, not, cond}
use mathlib.Core.List.{List, [], ◌∷◌}
use lib.Dec.{ltb}
use lib.ListN.{length, take, drop}
use borrow.Author.Tests.{ltb-true, ltb-false, le-ltb}
use Rattle.text.specs.Bytes.{Bytes, same}
use Rattle.rules.specs.Choice.{choose, any}
use Rattle.rules.specs.Fields.{lines_of}
use Rattle.rules.specs.Library.{operation_of, is_named, line_named}
use Rattle.rules.proofs.Choices.{chosen, passed_over, either}
use Rattle.std.specs.List.{prefix_len}
use Rattle.lines.specs.Ends.{in_line, line_end}
use Rattle.lines.proofs.Found.{no-line}
pub use Rattle.lines.proofs.Turns.{turn, past-within, past-lines}
use Rattle.lines.proofs.Turns.{end-within, line-length}
use Rattle.rules.proofs.Scanning.{run-end}
use Rattle.line_reader.specs.declared.LineReader.{LineReader}
use Rattle.line_reader.specs.Reading.{next_at, has_line, next_line, behind_line}
use Rattle.labels.specs.Searches.{past_newline, is_operation, up_to, size_of, behind}

-- behind the last line there is none
module _ (file : Bytes) (at : ℕ) (h : length file ≤ at) where
  pub none_named : (test : Bytes → Bool) → false ≡ any test (lines_of (drop at file))
  unfolding any
  none_named test = sym (ap (any test) (no-line file at h))

  pub none-behind : (test : Bytes → Bool) → behind test file at ≡ at
  unfolding behind
  none-behind test = omega arith

  pub past_end : length file ≤ past_newline file (line_end file at)
  unfolding past_newline line_end
  past_end = either (λ n. length file ≤ n) (ltb (line_end file at) (length file)) (λ t. omega (arith, h)) (λ t. omega (arith, h))

-- the lines before the first that a symbol names
first-counted : (b : Bool) (m n : ℕ) → m ≡ n → cond (not b) (1 + m) 0 ≡ choose b 0 (suc n)
unfolding choose
first-counted true m n e = refl
first-counted false m n e = omega (arith, e)

pub named-count : (symbol : Bytes) (ls : List Bytes) → prefix_len (λ l. not (is_named symbol l)) ls ≡ line_named symbol ls
unfolding line_named
named-count symbol [] = refl
named-count symbol (l ∷ ls) = first-counted (is_named symbol l) _ _ (named-count symbol ls)

-- an operation that was compared
pub operation-is : (word o l : Bytes) {b : Bool} → o ≡ operation_of l → same o word ≡ b → is_operation word l ≡ b
unfolding is_operation
operation-is word o l e t = ap (λ x. same x word) (sym e) ∙ t

-- the line that starts at `at` ends at `end`
module _ (file : Bytes) (at end : ℕ) (h : at < length file) (e : end ≡ line_end file at) where
  module _ (test : Bytes → Bool) where
    abbrev rest : List Bytes
    rest = up_to test (lines_of (drop (end + 1) file))

    size_is : {x : List Bytes} → choose (test (take (end - at) (drop at file))) [] rest ≡ x → size_of (up_to test (lines_of (drop at file))) ≡ suc (end - at) + size_of x
    unfolding up_to size_of
    size_is q = ap (λ ls. size_of (up_to test ls)) (turn file at end h e) ∙ (λ i. suc (line-length file at end h e i) + size_of (q i))

    pub behind-found : test (take (end - at) (drop at file)) ≡ true → behind test file at ≡ past_newline file end
    unfolding behind past_newline size_of
    behind-found t =
        let z = size_is (chosen [] rest t) in
        let w = end-within file at end h e in
        either (λ n. behind test file at ≡ n) (ltb end (length file)) (λ u. let l = ltb-true end (length file) u in omega (arith, z, w.0))
        (λ u. let l = ltb-false end (length file) u in omega (arith, z, w.0, w.1))

    pub behind-next : test (take (end - at) (drop at file)) ≡ false → behind test file at ≡ behind test file (past_newline file end)
    unfolding behind past_newline
    behind-next t =
        let z = size_is (passed_over [] rest t) in
        let w = end-within file at end h e in
        either (λ n. behind test file at ≡ behind test file n) (ltb end (length file)) (λ u. let l = ltb-true end (length file) u in omega (arith, z, w.0))
        (λ u. let l = ltb-false end (length file) u in omega (arith, z, w.0, w.1))

-- a reader that was at s handed out `line` and is at t
module _ (word : Bytes) (s t : LineReader) (line operation : Bytes) (h : (has_line s ≡ true) × (line ≡ next_line s)) (moved : t ≡ behind_line s) (o : operation ≡ operation_of line) where
  abbrev src : Bytes
  src = s.src.now

  there : s.at < length src
  there = ltb-true s.at (length src) h.0

  moved-to : t.at ≡ past_newline src (line_end src s.at)
  unfolding next_at
  moved-to = ap (λ (r : LineReader). r.at) moved

  tested : (b : Bool) → same operation word ≡ b → is_operation word (next_line s) ≡ b
  tested b e = ap (is_operation word) (sym h.1) ∙ operation-is word operation line o e

  pub reader-source : t.src.now ≡ src
  reader-source = ap (λ (r : LineReader). r.src.now) moved

  pub reader-within : (s.at < t.at) × (t.at ≤ length src)
  reader-within = let w = past-within src s.at (line_end src s.at) there refl in (omega (arith, moved-to, w.0), omega (arith, moved-to, w.1))

  pub reader-found : same operation word ≡ true → t.at ≡ behind (is_operation word) src s.at
  reader-found e = moved-to ∙ sym (behind-found src s.at (line_end src s.at) there refl (is_operation word) (tested true e))

  pub reader-next : same operation word ≡ false → behind (is_operation word) src s.at ≡ behind (is_operation word) src t.at
  reader-next e = behind-next src s.at (line_end src s.at) there refl (is_operation word) (tested false e) ∙ ap (behind (is_operation word) src) (sym moved-to)

-- one that has none left
module _ (s t : LineReader) (h : has_line s ≡ false) (moved : t ≡ behind_line s) where
  ended : length s.src.now ≤ s.at
  ended = ltb-false s.at (length s.src.now) h

  pub reader-stays : t.at ≡ s.at
  unfolding next_at past_newline line_end
  reader-stays =
      let stop = run-end in_line s.src.now s.at ended in
      ap (λ (r : LineReader). r.at) moved
      ∙ (passed_over _ _ (le-ltb _ _ (omega (arith, ended, stop))) ∙ stop)

  pub reader-none : (test : Bytes → Bool) → t.at ≡ behind test s.src.now s.at
  reader-none test = reader-stays ∙ sym (none-behind s.src.now s.at ended test)
