-- What a line of output means for the rules' output: its bytes, its room, the section's name. Assumes nothing.
use Prim.Native.Nat.{ℕ, suc, ◌+◌, ◌-◌, ◌≤◌, ◌<◌}
use mathlib.Core.Path.{◌≡◌, refl, sym, ap, ◌∙◌}
use mathlib.Core.Bool.{Bool, true, false, true≢false}
use mathlib.Core.List.{List, [], ◌∷◌, ◌++◌, append_assoc}
use native.Mathlib.Omega.{arith}
use lib.Dec.{ltb}
use lib.ListN.{length, take, drop, set, length-append, length-take}
use lib.Seq.{take_at, take-take, length-take-le, take-append_seam}
use borrow.Author.Tests.{ltb-true, ltb-false, le-ltb, lt-ltb}
use Rattle.std.specs.Prelude.{Option, Some, None}
use Rattle.text.specs.Bytes.{Bytes}
use Rattle.rules.specs.Choice.{choose, run}
use Rattle.rules.specs.Fields.{newline, is_no_space, is_remark, no_fields, fields_of, statement_fields}
use Rattle.rules.specs.Machine.{is_section, sect_after, output_of}
use Rattle.rules.proofs.Choices.{by, chosen, passed_over, into, either}
use Rattle.lent.specs.Splice.{splice}
use Rattle.lent.proofs.Writes.{splice-append, splice-is, splice-drop, splice-cons, splice-drop-behind}
use Rattle.spans.specs.Spans.{part_of}
use Rattle.work_frames.specs.Layout.{section_at, section_size}
use Rattle.work_frames.specs.Frames.{run_at, section_now}
use Rattle.expand_output.specs.Puts.{put_at, with_line, noted}

-- ---- what the code writes

pub line-written : (out after : Bytes) (pos end : ℕ) (line : Bytes) → after ≡ splice out pos line → end ≡ pos + length line → length line < length out - pos
    → set after end newline ≡ with_line out pos line
unfolding with_line splice
line-written out after pos end line e f h =
    ap (λ o. set o end newline) e ∙ ap (λ i. set (splice out pos line) i newline) f
    ∙ splice-append out pos line (newline ∷ []) ∙ sym (chosen _ _ (lt-ltb _ _ h))

pub line-left : (out : Bytes) (pos : ℕ) (line : Bytes) → length out - pos ≤ length line → out ≡ with_line out pos line
unfolding with_line
line-left out pos line h = sym (passed_over _ _ (le-ltb _ _ h))

pub put-to : (room pos n : ℕ) → n < room - pos → Some (pos + n + 1) ≡ put_at room pos n
unfolding put_at
put-to room pos n h = let e : pos + n + 1 ≡ pos + suc n = omega arith in ap Some e ∙ sym (chosen _ _ (lt-ltb _ _ h))

pub put-not : (room pos n : ℕ) → room - pos ≤ n → None ≡ put_at room pos n
unfolding put_at
put-not room pos n h = sym (passed_over _ _ (le-ltb _ _ h))

pub name-short : (line : Bytes) → length (statement_fields line).name ≤ length line
unfolding statement_fields fields_of no_fields choose
name-short line = go (is_remark line)
  where
    go : (b : Bool) → length (choose b no_fields (fields_of line)).name ≤ length line
    go true = omega arith
    go false = let n = run is_no_space line in rw (length-take n line) (omega arith)

pub section-written : (w line name : Bytes) (t : Bool) → t ≡ is_section (statement_fields line).operation → t ≡ true → name ≡ (statement_fields line).name
    → splice (set w section_at (length name)) (section_at + 1) name ≡ noted w line
unfolding noted
section-written w line name t is e f =
    splice-cons w section_at (length name) name ∙ ap (λ n. splice w section_at (length n ∷ n)) f
    ∙ sym (chosen _ _ (sym is ∙ e))

pub section-stays : (w line : Bytes) (t : Bool) → t ≡ is_section (statement_fields line).operation → t ≡ false → w ≡ noted w line
unfolding noted
section-stays w line t is e = sym (passed_over _ _ (sym is ∙ e))

-- ---- what is read back

run-back : (s rest : Bytes) (k : ℕ) → length s ≤ k → run_at (take (suc k) (length s ∷ (s ++ rest))) 0 ≡ s
unfolding run_at part_of
run-back s rest k h = take-take (length s) k (s ++ rest) h ∙ take-append_seam s rest

section-back : (w name : Bytes) → length name ≤ 71 → 27464 ≤ length w → section_now (splice w section_at (length name ∷ name)) ≡ name
unfolding section_now part_of
section-back w name h big =
    ap (λ v. run_at (take section_size v) 0) (splice-drop w section_at (length name ∷ name) (omega arith)) ∙ run-back name _ 71 h

-- the section's name is the rules'
pub noted-section : (w line : Bytes) → 27464 ≤ length w → length line ≤ 71 → section_now (noted w line) ≡ sect_after line (section_now w)
unfolding noted sect_after
noted-section w line big short =
    let f = statement_fields line in
    let h : length f.name ≤ 71 = omega (arith, name-short line) in
    into section_now (is_section f.operation) (splice w section_at (length f.name ∷ f.name)) w
    ∙ ap (λ s. choose (is_section f.operation) s (section_now w)) (section-back w f.name h big)

-- nothing but the section's bytes is written
pub noted-there : (P : Bytes → Type 0) (w line : Bytes) → length line ≤ 71 → P w → ((s : Bytes) → length s ≤ section_size → P (splice w section_at s)) → P (noted w line)
unfolding noted
noted-there P w line short h k =
    let f = statement_fields line in
    either P (is_section f.operation) (λ e. k (length f.name ∷ f.name) (omega (arith, name-short line))) (λ e. h)

-- the lines put out, with one more
outputs-join : (ls : List Bytes) (s t : Bytes) → output_of ls (s ++ t) ≡ output_of ls s ++ t
unfolding output_of
outputs-join [] s t = refl
outputs-join (l ∷ ls) s t = ap (output_of ls) (sym (append_assoc l (newline ∷ s) t)) ∙ outputs-join ls (l ++ (newline ∷ s)) t

pub output-more : (ls : List Bytes) (line : Bytes) → output_of (line ∷ ls) [] ≡ output_of ls [] ++ (line ++ (newline ∷ []))
unfolding output_of
output-more ls line = outputs-join ls [] (line ++ (newline ∷ []))

module _ (out : Bytes) (pos : ℕ) (line : Bytes) (h : length line < length out - pos) where
  pub line-there : with_line out pos line ≡ splice out pos (line ++ (newline ∷ []))
  unfolding with_line
  line-there = chosen _ _ (lt-ltb _ _ h)

  whole : length (line ++ (newline ∷ [])) ≡ suc (length line)
  whole = length-append line (newline ∷ []) ∙ (let e : length line + 1 ≡ suc (length line) = omega arith in e)

  pub line-behind : drop (pos + suc (length line)) (with_line out pos line) ≡ drop (pos + suc (length line)) out
  line-behind = ap (drop (pos + suc (length line))) line-there ∙ splice-drop-behind out pos (line ++ (newline ∷ [])) (pos + suc (length line)) (omega (arith, whole))

  pub line-front : take (pos + suc (length line)) (with_line out pos line) ≡ take pos out ++ (line ++ (newline ∷ []))
  line-front =
      let s = line ++ (newline ∷ []) in
      let fits : pos + length s ≤ length out = omega (arith, whole) in
      let n : length (take pos out ++ s) ≡ pos + suc (length line) = length-append (take pos out) s ∙ (let a : length (take pos out) ≡ pos = length-take-le pos out (omega arith) in omega (arith, a, whole)) in
      ap (take (pos + suc (length line))) (line-there ∙ splice-is out pos s fits ∙ sym (append_assoc (take pos out) s (drop (pos + length s) out)))
      ∙ take_at (take pos out ++ s) (drop (pos + length s) out) (pos + suc (length line)) n

-- what an answer says
module _ (r : Option ℕ) (room pos n : ℕ) (is : r ≡ put_at room pos n) where
  to_put : Option ℕ → ℕ
  to_put (Some k) = k
  to_put None = 0

  is_to : Option ℕ → Bool
  is_to (Some k) = true
  is_to None = false

  pub put-fits : (k : ℕ) → r ≡ Some k → (n < room - pos) × (k ≡ pos + suc n)
  unfolding put_at to_put is_to
  put-fits k e =
      by (ltb n (room - pos))
      (λ t. (ltb-true n (room - pos) t, ap to_put (sym e ∙ is ∙ chosen (Some (pos + suc n)) None t)))
      (λ t. absurd (true≢false (ap is_to (sym e ∙ is ∙ passed_over (Some (pos + suc n)) None t))))

  pub put_refused : r ≡ None → room - pos ≤ n
  unfolding put_at is_to
  put_refused e =
      by (ltb n (room - pos))
      (λ t. absurd (true≢false (sym (ap is_to (sym e ∙ is ∙ chosen (Some (pos + suc n)) None t)))))
      (λ t. ltb-false n (room - pos) t)
