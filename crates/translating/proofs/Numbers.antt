-- The numbers that the verdict on a library has. Assumes nothing.
use Prim.Native.Nat.{ℕ, suc, ◌≤◌}
use native.Mathlib.Omega.{arith}
use mathlib.Core.Path.{◌≡◌, subst}
use mathlib.Core.List.{List, [], ◌∷◌}
use mathlib.Core.Option.{Option, none, some}
use Rattle.text.specs.Bytes.{Bytes}
use Rattle.rules.specs.Fields.{lines_of, is_ill_written}
use Rattle.rules.specs.Library.{Place, outer, at_prototype, in_body}
use Rattle.rules.specs.Faults.{Around, no_lines, is_out_of_place, has_bad_name, is_ill_formed, is_over_limit, fault_of, around_after, Verdict, accepted, faulty, at_end, verdict_from, verdict}
use Rattle.rules.proofs.Choices.{either}

abbrev InTable : ℕ → Type 0
InTable e = (1 ≤ e) × (e ≤ 5)

abbrev IsFault : Option ℕ → Type 0
IsFault none = Unit {0}
IsFault (some e) = InTable e

abbrev IsJudged : Verdict → Type 0
IsJudged accepted = Unit {0}
IsJudged (faulty e n) = InTable e

fault-number : (a : Around) (l : Bytes) (ls : List Bytes) → IsFault (fault_of a l ls)
unfolding fault_of
fault-number a l ls =
    either IsFault (is_ill_written l) (λ h. (omega arith, omega arith))
    (λ h. either IsFault (is_out_of_place a.place l) (λ h. (omega arith, omega arith))
    (λ h. either IsFault (has_bad_name a l ls a.place) (λ h. (omega arith, omega arith))
    (λ h. either IsFault (is_ill_formed l a.place) (λ h. (omega arith, omega arith)) (λ h. either IsFault (is_over_limit a l) (λ h. (omega arith, omega arith)) (λ h. tt)))))

end-judged : (a : Around) (p : Place) → IsJudged (at_end a p)
unfolding at_end
end-judged a outer = tt
end-judged a at_prototype = (omega arith, omega arith)
end-judged a (in_body p before) = (omega arith, omega arith)

lines-judged : (ls : List Bytes) (a : Around) → IsJudged (verdict_from a ls)
unfolding verdict_from
lines-judged [] a = end-judged a a.place
lines-judged (l ∷ ls) a = judged (fault_of a l ls) (fault-number a l ls) (lines-judged ls (around_after l a))
  where
    judged : (f : Option ℕ) → IsFault f → IsJudged (verdict_from (around_after l a) ls) → IsJudged (elim f [ none ↦ verdict_from (around_after l a) ls | some e ↦ faulty e (suc a.lines) ])
    judged none h t = t
    judged (some e) h t = h

-- 1 to 5
pub verdict-number : (library : Bytes) (e n : ℕ) → verdict library ≡ faulty e n → (1 ≤ e) × (e ≤ 5)
unfolding verdict
verdict-number library e n h = subst IsJudged h (lines-judged (lines_of library) no_lines)
