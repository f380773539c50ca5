-- A macro's lines in one pass: MEND by its place, ACTR as it is met, each line in order, well formed and as the reader gives it. Assumes nothing.
use Prim.Native.Nat.{ℕ, suc}
use mathlib.Core.Path.{◌≡◌, refl, sym, ap, ◌∙◌}
use mathlib.Core.Bool.{Bool, true, false, ◌&&◌, ◌||◌, not, and-false}
use mathlib.Core.List.{List, [], ◌∷◌}
use lib.Dec.{eqb, ltb}
use lib.ListN.{length}
use Rattle.rules.specs.Choice.{choose, every}
use Rattle.rules.specs.Statement.{Set, Line}
use Rattle.deck.specs.Slots.{Slot, DeckMacro}
use Rattle.deck.specs.AsRead.{is_read_line}
use Rattle.deck.specs.Good.{is_line, does_end, does_count, may_precede, actr_end, counts_once, ends_once}
use Rattle.good_tests.specs.Walks.{walked, ends_where, passes_lines}
use Rattle.good_tests.proofs.Ended.{ends-walked}
use Rattle.good_tests.proofs.Walked.{walked_by, line-free, line-own}

abbrev Lines : Type 0
Lines = List (Line Slot ℕ)

apart : (e c t f w : Bool) → (e && (c && (t && (f && w)))) ≡ ((e && f) && (c && (t && w)))
apart true true true f w = refl
apart true true false f w = sym (and-false f)
apart true false t f w = sym (and-false f)
apart false c t f w = refl

nested : (a b c : Bool) → (a && (b && c)) ≡ ((a && b) && c)
nested true b c = refl
nested false b c = refl

four : (p q r s : Bool) → ((p && q) && (r && s)) ≡ ((p && r) && (q && s))
four true true r s = refl
four true false true s = refl
four true false false s = refl
four false q r s = refl

every-both : (p q : Line Slot ℕ → Bool) (ls : Lines) → every (λ l. p l && q l) ls ≡ (every p ls && every q ls)
unfolding every
every-both p q [] = refl
every-both p q (l ∷ ls) = ap (λ (b : Bool). (p l && q l) && b) (every-both p q ls) ∙ four (p l) (q l) (every p ls) (every q ls)

both : (test : ℕ → Line Slot ℕ → Bool) (i count a : ℕ) (b : Bool) (ls : Lines) → passes_lines test i count a b ls ≡ (ends_where i count ls && walked test i a b ls)
unfolding passes_lines ends_where walked
both test i count a b [] = refl
both test i count a b (l ∷ ls) =
    let e = choose (eqb (suc i) count) (does_end l.does) (not (does_end l.does)) in
    let a' = choose (does_count l.does) (suc i) a in
    let b' = b && may_precede l.does in
    ap (λ (on : Bool). e && ((not (does_count l.does) || b) && (test a l && on))) (both test (suc i) count a' b' ls)
    ∙ apart e (not (does_count l.does) || b) (test a l) (ends_where (suc i) count ls) (walked test (suc i) a' b' ls)

-- ONE PASS: what `is_macro` and `is_read_macro` ask of a macro's lines
module _ (globals : List Set) (m : DeckMacro) where
  abbrev pub is_good_line : ℕ → Line Slot ℕ → Bool
  is_good_line a l = is_line globals m a l && is_read_line l

  pub lines-passed : (ls : Lines) → (ltb 0 (length ls) && passes_lines is_good_line 0 (length ls) 0 true ls)
      ≡ ((ends_once ls && (counts_once ls && every (is_line globals m (actr_end ls)) ls)) && every is_read_line ls)
  lines-passed ls =
      let some = ltb 0 (length ls) in
      let lined = every (is_line globals m (actr_end ls)) ls in
      let walk : walked is_good_line 0 0 true ls ≡ (counts_once ls && every (is_good_line (actr_end ls)) ls) =
      walked_by is_good_line (λ l a b h. ap (λ (t : Bool). t && is_read_line l) (line-free globals m l a b h)) (λ l a b h. ap (λ (t : Bool). t && is_read_line l) (line-own globals m l a b h)) ls in
      ap (λ (b : Bool). some && b) (both is_good_line 0 (length ls) 0 true ls)
      ∙ (nested some (ends_where 0 (length ls) ls) (walked is_good_line 0 0 true ls)
      ∙ ((λ j. ends-walked ls j && walk j)
      ∙ (ap (λ (b : Bool). ends_once ls && (counts_once ls && b)) (every-both (is_line globals m (actr_end ls)) is_read_line ls)
      ∙ (ap (λ (b : Bool). ends_once ls && b) (nested (counts_once ls) lined (every is_read_line ls)) ∙ nested (ends_once ls) (counts_once ls && lined) (every is_read_line ls)))))
