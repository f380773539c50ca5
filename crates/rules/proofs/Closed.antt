-- Every macro of a library ends in MEND, whether the library is accepted or not: what `ends` asks of a machine.
use Prim.Native.Nat.{ℕ, zero, suc, ◌<◌}
use mathlib.Core.Path.{◌≡◌, refl, ap, sym, ◌∙◌}
use mathlib.Core.Bool.{Bool, true, false, ◌||◌}
use mathlib.Core.List.{List, [], ◌∷◌, ◌++◌, map}
use native.Mathlib.Omega.{arith}
use lib.ListN.{length, get_or, length-append, length-map}
use lib.Seq.{get_or-append_seam}
use Rattle.text.specs.Bytes.{Bytes, bytes, same}
use Rattle.text.specs.Words.{words, word_number}
use Rattle.text.proofs.Same.{same-is}
use Rattle.rules.specs.Choice.{choose}
use Rattle.rules.specs.Fields.{lines_of, is_copied_remark, is_dropped_remark, is_remark, fields_of, no_fields, statement_fields}
use Rattle.rules.specs.Statement.{Line, ends, map_does, map_line, doing, statements, statement_of, says, read}
use Rattle.rules.specs.Library.{Macro, Place, outer, at_prototype, in_body, operation_of, is_macro, is_mend, macros_from}
use Rattle.rules.specs.ByLines.{reading, no_reading, header_of, line_in, machine_of, machine_of_lines}
use Rattle.rules.proofs.Choices.{passed_over, either}
use Rattle.rules.proofs.Ends.{Closed}

-- a MEND line is no remark
mend-operation : (l : Bytes) → is_mend l ≡ true → (is_remark l ≡ false) × ((fields_of l).operation ≡ bytes "MEND")
unfolding is_mend operation_of statement_fields choose no_fields
mend-operation l h = go (is_remark l) h
  where
    go : (b : Bool) → same (choose b no_fields (fields_of l)).operation (bytes "MEND") ≡ true → (b ≡ false) × ((fields_of l).operation ≡ bytes "MEND")
    go true e = (sym e, cc e)
    go false e = (refl, same-is (fields_of l).operation (bytes "MEND") e)

none_of : (a b : Bool) → (a || b) ≡ false → (a ≡ false) × (b ≡ false)
none_of true b h = (h, cc h)
none_of false b h = (refl, h)

-- and ends its macro
pub mend-ends : (l : Bytes) → is_mend l ≡ true → (read l).does ≡ ends
unfolding is_remark read statement_of statements says doing words word_number
mend-ends l h =
    let o = mend-operation l h in
    let n = none_of (is_copied_remark l) (is_dropped_remark l) o.0 in
    ap (λ (x : Line Bytes Bytes). x.does) (passed_over _ _ n.0 ∙ passed_over _ _ n.1) ∙ ap (λ w. (says l (fields_of l) (statement_of w)).does) o.1

-- lines whose last one is MEND
record Ended (body : List Bytes) : Type 0 where
  before : List Bytes
  end : Bytes
  whole : body ≡ before ++ (end ∷ [])
  is-end : is_mend end ≡ true

abbrev AllEnded : List Macro → Type 0
AllEnded [] = Unit {0}
AllEnded (x ∷ xs) = Ended x.body × AllEnded xs

macros-ended : (p : Place) (ls : List Bytes) → AllEnded (macros_from p ls)
unfolding macros_from
macros-ended outer [] = tt
macros-ended at_prototype [] = tt
macros-ended (in_body p b) [] = tt
macros-ended outer (l ∷ ls) = either AllEnded (is_macro l) (λ e. macros-ended at_prototype ls) (λ e. macros-ended outer ls)
macros-ended at_prototype (l ∷ ls) = macros-ended (in_body l []) ls
macros-ended (in_body p b) (l ∷ ls) =
    either AllEnded (is_mend l) (λ e. (record { before = b; end = l; whole = refl; is-end = e }, macros-ended outer ls))
    (λ e. macros-ended (in_body p (b ++ (l ∷ []))) ls)

reading-ended : (xs : List Macro) (k : ℕ) → AllEnded xs → k < length (map reading xs) → Ended (get_or (map reading xs) k no_reading).body
unfolding reading
reading-ended [] k h e = absurd (omega arith)
reading-ended (x ∷ xs) zero h e = h.0
reading-ended (x ∷ xs) (suc k) h e = reading-ended xs k h.1 (omega arith)

ended_some : (body : List Bytes) → Ended body → 0 < length body
ended_some body h = rw (h.whole, length-append) (omega arith)

ended-last : (body : List Bytes) (i : ℕ) → Ended body → suc i ≡ length body → (read (get_or body i [])).does ≡ ends
ended-last body i h e =
    let at : i ≡ length h.before = omega (arith, e, ap length h.whole, length-append h.before (h.end ∷ [])) in
    rw (h.whole, at, get_or-append_seam) (mend-ends h.end h.is-end)

pub lines-closed : (library : Bytes) → Closed (machine_of_lines library)
unfolding machine_of_lines machine_of header_of line_in map_line map_does
lines-closed library =
    let xs = macros_from outer (lines_of library) in
    let there : (k : ℕ) → k < length (map (λ r. r.title) (map reading xs)) → Ended (get_or (map reading xs) k no_reading).body =
    λ k kn. reading-ended xs k (macros-ended outer (lines_of library)) (rw length-map at kn) in
    record {
      some-line = λ k kn. ended_some _ (there k kn);
      last = λ k i l vs kn e. ap (map_does _) (ended-last _ i (there k kn) e);
    }
