-- What holds for every library, program and buffers, with no deck in sight: the run ends, and every refusal is one of 01's for its place.
use Prim.Native.Nat.{ℕ, suc}
use mathlib.Core.Path.{◌≡◌, refl, subst}
use mathlib.Core.Bool.{true}
use mathlib.Core.List.{List, [], ◌∷◌}
use mathlib.Core.Option.{Option, none, some}
use lib.ListN.{length}
use Rattle.text.specs.Bytes.{Bytes, member}
use Rattle.rules.specs.Limits.{bad_byte, out_of_place, bad_name, ill_formed, over_limit}
use Rattle.rules.specs.Fields.{lines_of, is_ill_written}
use Rattle.rules.specs.Machine.{Answer, begun, enough, outcome}
use Rattle.rules.specs.Places.{is_of01}
use Rattle.rules.specs.Library.{Place, outer, at_prototype, in_body}
use Rattle.rules.specs.ByLines.{machine_of_lines, by_lines}
use Rattle.rules.specs.Faults.{Around, Verdict, accepted, faulty, is_out_of_place, has_bad_name, is_ill_formed, is_over_limit, fault_of, around_after, at_end, verdict_from, no_lines, verdict}
use Rattle.rules.specs.Meaning.{Meaning, refused_library, expanded, meaning}
use Rattle.rules.proofs.Choices.{either}
use Rattle.rules.proofs.Formed.{formed-decides}
use Rattle.rules.proofs.Ends.{Stops, ends}
use Rattle.rules.proofs.Closed.{lines-closed}
use Rattle.rules.proofs.Texts.{good-texts}
use Rattle.rules.proofs.Counting.{steady}
use Rattle.rules.proofs.FormedLines.{formed-lines}
use Rattle.rules.proofs.Refusals.{Sound, refusals}

-- the lines of an accepted library are never refused as ill-formed, and its copied lines are good
pub lines-sound : (library : Bytes) → verdict library ≡ accepted → Sound (machine_of_lines library)
lines-sound library e = record {
  fine = λ k i l vs hk hi. formed-decides ((machine_of_lines library).line k i l vs) (formed-lines library e k i l vs hk hi);
  texts = λ k i l vs s hk hi d. good-texts library e k i l vs s hk hi d;
}

-- every run of an accepted library reaches its answer within `enough` moves
pub lines_end : (library : Bytes) → verdict library ≡ accepted → (program : List Bytes) (room : ℕ)
    → (a : Answer) × Stops (machine_of_lines library) (enough (machine_of_lines library) (length program)) (begun (machine_of_lines library) program room) a
lines_end library e program room = ends (steady library e) (lines-closed library) program room

-- translation's numbers
abbrev pub fault_numbers : List ℕ
fault_numbers = bad_byte ∷ out_of_place ∷ bad_name ∷ ill_formed ∷ over_limit ∷ []

abbrev IsFault : Option ℕ → Type 0
IsFault none = Unit {0}
IsFault (some e) = member e fault_numbers ≡ true

fault-number : (a : Around) (l : Bytes) (ls : List Bytes) → IsFault (fault_of a l ls)
unfolding fault_of
fault-number a l ls =
    either IsFault (is_ill_written l) (λ h. refl)
    (λ h. either IsFault (is_out_of_place a.place l) (λ h. refl)
    (λ h. either IsFault (has_bad_name a l ls a.place) (λ h. refl)
    (λ h. either IsFault (is_ill_formed l a.place) (λ h. refl) (λ h. either IsFault (is_over_limit a l) (λ h. refl) (λ h. tt)))))

abbrev IsJudged : Verdict → Type 0
IsJudged accepted = Unit {0}
IsJudged (faulty e n) = member e fault_numbers ≡ true

end-judged : (a : Around) (p : Place) → IsJudged (at_end a p)
unfolding at_end
end-judged a outer = tt
end-judged a at_prototype = refl
end-judged a (in_body p before) = refl

lines-judged : (ls : List Bytes) (a : Around) → IsJudged (verdict_from a ls)
unfolding verdict_from
lines-judged [] a = end-judged a a.place
lines-judged (l ∷ ls) a = judged (fault_of a l ls) (fault-number a l ls) (lines-judged ls (around_after l a))
  where
    judged : (f : Option ℕ) → IsFault f → IsJudged (verdict_from (around_after l a) ls) → IsJudged (elim f [ none ↦ verdict_from (around_after l a) ls | some e ↦ faulty e (suc a.lines) ])
    judged none h t = t
    judged (some e) h t = h

-- the meaning of every library, program and buffers: a result, or a refusal of 01
abbrev pub IsOf01 : Meaning → Type 0
IsOf01 (refused_library e n) = member e fault_numbers ≡ true
IsOf01 (expanded o) = is_of01 o.answer ≡ true

pub meaning-of-01 : (library program out work : Bytes) → IsOf01 (meaning library program out work)
unfolding meaning by_lines outcome verdict
meaning-of-01 library program out work = told (verdict library) refl
  where
    told : (v : Verdict) → verdict library ≡ v
        → IsOf01 (elim v [ accepted ↦ expanded (by_lines library program out work) | faulty e n ↦ refused_library e n ])
    told accepted h = refusals (steady library h) (lines-closed library) (lines-sound library h) program (length out) (length work)
    told (faulty e n) h = subst IsJudged h (lines-judged (lines_of library) no_lines)
