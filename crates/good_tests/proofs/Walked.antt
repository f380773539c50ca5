-- ACTR in one pass: a branch that is met before ACTR makes ACTR bad, so each line may be tested with what is known of ACTR when it is met. Assumes nothing.
use Prim.Native.Nat.{ℕ, suc, ◌+◌}
use native.Mathlib.Omega.{arith}
use mathlib.Core.Path.{◌≡◌, refl, sym, ap, ◌∙◌}
use mathlib.Core.Bool.{Bool, true, false, false≢true, ◌&&◌, ◌||◌, not, and-false, and-true}
use mathlib.Core.List.{List, [], ◌∷◌}
use lib.Dec.{eqb}
use lib.ListN.{length}
use borrow.Author.Tests.{eqb-true, eq-eqb, ne_eqb}
use Rattle.rules.specs.Choice.{choose, every, any}
use Rattle.rules.specs.Limits.{nest_limit}
use Rattle.rules.specs.Statement.{Set, Line, map_line, Does, passes, ends, exits, text, models, sets, branches_if, branches, counts}
use Rattle.rules.specs.Form.{is_formed}
use Rattle.rules.proofs.Choices.{by, chosen, passed_over}
use Rattle.rules.proofs.Logic.{or_left, or_right}
use Rattle.deck.specs.Slots.{Slot, DeckMacro, slot_kind}
use Rattle.deck.specs.Good.{is_in_order, are_lexemes, is_line, does_count, may_precede, actr_end, counts_once}
use Rattle.good_tests.specs.Walks.{walked}

abbrev Lines : Type 0
Lines = List (Line Slot ℕ)

abbrev has_actr : Lines → Bool
has_actr ls = any (λ k. does_count k.does) ls

swap : (a b c : Bool) → (a && (b && c)) ≡ (b && (a && c))
swap true b c = refl
swap false true c = refl
swap false false c = refl

or-true : (a : Bool) → (a || true) ≡ true
or-true true = refl
or-true false = refl

-- ACTR does not stand before ACTR
actr-late : (d : Does ℕ) → does_count d ≡ true → may_precede d ≡ false
unfolding does_count may_precede
actr-late passes h = absurd (false≢true h)
actr-late ends h = refl
actr-late exits h = refl
actr-late (text s) h = absurd (false≢true h)
actr-late models h = refl
actr-late (sets k) h = refl
actr-late (branches_if t) h = refl
actr-late (branches t) h = refl
actr-late counts h = refl

-- ---- lines without ACTR

none-ends : (ls : Lines) → has_actr ls ≡ false → actr_end ls ≡ 0
unfolding any actr_end
none-ends [] h = refl
none-ends (l ∷ ls) h =
    passed_over _ _ (or_left (does_count l.does) (has_actr ls) h) ∙ chosen _ _ (eq-eqb (actr_end ls) 0 (none-ends ls (or_right (does_count l.does) (has_actr ls) h)))

none-once : (ls : Lines) → has_actr ls ≡ false → counts_once ls ≡ true
unfolding any counts_once
none-once [] h = refl
none-once (l ∷ ls) h =
    let k = or_right (does_count l.does) (has_actr ls) h in
    passed_over _ _ (or_left (does_count l.does) (has_actr ls) h) ∙ ((λ j. none-once ls k j && (may_precede l.does || not (k j))) ∙ or-true (may_precede l.does))

-- ---- where ACTR ends, counted from place i on

ending : ℕ → ℕ → ℕ
ending i n = choose (eqb n 0) 0 (i + n)

ending-none : (i : ℕ) → ending i 0 ≡ 0
unfolding ending
ending-none i = chosen _ _ (eq-eqb 0 0 refl)

ending_here : (i : ℕ) → ending i 1 ≡ suc i
unfolding ending
ending_here i = passed_over _ _ (ne_eqb 1 0 (λ e. omega (arith, e))) ∙ omega arith

ending-on : (i n : ℕ) → ending i (choose (eqb n 0) 0 (suc n)) ≡ ending (suc i) n
unfolding ending
ending-on i n = by (eqb n 0)
    (λ e. ap (ending i) (chosen 0 (suc n) e) ∙ (ending-none i ∙ sym (chosen _ _ e)))
    (λ e. ap (ending i) (passed_over 0 (suc n) e) ∙ (passed_over _ _ (ne_eqb (suc n) 0 (λ z. omega (arith, z))) ∙ ((let p : i + suc n ≡ suc i + n = omega arith in p) ∙ sym (passed_over _ _ e))))

ending-start : (n : ℕ) → ending 0 n ≡ n
unfolding ending
ending-start n = by (eqb n 0) (λ e. chosen _ _ e ∙ sym (eqb-true n 0 e)) (λ e. passed_over _ _ e ∙ omega arith)

module _ (test : ℕ → Line Slot ℕ → Bool) where
  -- behind a line that may not stand before ACTR
  late : (i a : ℕ) (ls : Lines) → walked test i a false ls ≡ (not (has_actr ls) && every (test a) ls)
  unfolding walked any every choose
  late i a [] = refl
  late i a (l ∷ ls) = by (does_count l.does)
      (λ e. (λ j. (not (e j) || false) && (test a l && walked test (suc i) (choose (e j) (suc i) a) false ls))
      ∙ sym (λ j. not (e j || has_actr ls) && (test a l && every (test a) ls)))
      (λ e. (λ j. (not (e j) || false) && (test a l && walked test (suc i) (choose (e j) (suc i) a) false ls))
      ∙ (ap (λ (b : Bool). test a l && b) (late (suc i) a ls)
      ∙ (swap (test a l) (not (has_actr ls)) (every (test a) ls) ∙ sym (λ j. not (e j || has_actr ls) && (test a l && every (test a) ls)))))

  module _ (free : (l : Line Slot ℕ) (a b : ℕ) → may_precede l.does ≡ true → test a l ≡ test b l) (own : (l : Line Slot ℕ) (a b : ℕ) → does_count l.does ≡ true → test a l ≡ test b l) where
    early : (i : ℕ) (ls : Lines) → walked test i 0 true ls ≡ (counts_once ls && every (test (ending i (actr_end ls))) ls)
    unfolding walked any every choose counts_once actr_end
    early i [] = refl
    early i (l ∷ ls) = by (does_count l.does)
        (λ e.
        let ends-here : ending i (actr_end (l ∷ ls)) ≡ suc i = ap (ending i) (chosen _ _ e) ∙ ending_here i in
        (λ j. (not (e j) || true) && (test 0 l && walked test (suc i) (choose (e j) (suc i) 0) (actr-late l.does e j) ls))
        ∙ (ap (λ (b : Bool). test 0 l && b) (late (suc i) (suc i) ls)
        ∙ (swap (test 0 l) (not (has_actr ls)) (every (test (suc i)) ls)
        ∙ ((λ j. not (has_actr ls) && (own l 0 (suc i) e j && every (test (suc i)) ls))
        ∙ sym (λ j. choose (e j) (not (has_actr ls)) (counts_once ls && (may_precede l.does || not (has_actr ls))) && every (test (ends-here j)) (l ∷ ls))))))
        (λ e.
        let s = ending (suc i) (actr_end ls) in
        let ends_on : ending i (actr_end (l ∷ ls)) ≡ ending (suc i) (actr_end ls) = ap (ending i) (passed_over _ _ e) ∙ ending-on i (actr_end ls) in
        (λ j. (not (e j) || true) && (test 0 l && walked test (suc i) (choose (e j) (suc i) 0) (may_precede l.does) ls))
        ∙ (by (may_precede l.does)
        (λ f. ap (λ (b : Bool). test 0 l && walked test (suc i) 0 b ls) f
        ∙ (ap (λ (b : Bool). test 0 l && b) (early (suc i) ls)
        ∙ (swap (test 0 l) (counts_once ls) (every (test s) ls)
        ∙ ((λ j. sym (and-true (counts_once ls)) j && (free l 0 s f j && every (test s) ls))
        ∙ sym (λ j. (counts_once ls && (f j || not (has_actr ls))) && (test s l && every (test s) ls))))))
        (λ f. ap (λ (b : Bool). test 0 l && walked test (suc i) 0 b ls) f
        ∙ (ap (λ (b : Bool). test 0 l && b) (late (suc i) 0 ls)
        ∙ by (has_actr ls)
        (λ g. (λ j. test 0 l && (not (g j) && every (test 0) ls)) ∙ (and-false (test 0 l)
        ∙ sym ((λ j. (counts_once ls && (f j || not (g j))) && (test s l && every (test s) ls)) ∙ ap (λ (b : Bool). b && (test s l && every (test s) ls)) (and-false (counts_once ls)))))
        (λ g.
        let nowhere : s ≡ 0 = ap (ending (suc i)) (none-ends ls g) ∙ ending-none (suc i) in
        (λ j. test 0 l && (not (g j) && every (test 0) ls))
        ∙ sym (λ j. (none-once ls g j && (f j || not (g j))) && (test (nowhere j) l && every (test (nowhere j)) ls)))))
        ∙ sym (λ j. choose (e j) (not (has_actr ls)) (counts_once ls && (may_precede l.does || not (has_actr ls))) && every (test (ends_on j)) (l ∷ ls))))

    pub walked_by : (ls : Lines) → walked test 0 0 true ls ≡ (counts_once ls && every (test (actr_end ls)) ls)
    walked_by ls = early 0 ls ∙ ap (λ n. counts_once ls && every (test n) ls) (ending-start (actr_end ls))

-- ---- the test of good form

module _ (a b n : ℕ) where
  order-free : (d : Does ℕ) → may_precede d ≡ true → is_in_order a n d ≡ is_in_order b n d
  unfolding may_precede is_in_order
  order-free passes h = refl
  order-free ends h = refl
  order-free exits h = refl
  order-free (text s) h = refl
  order-free models h = refl
  order-free (sets k) h = refl
  order-free (branches_if t) h = absurd (false≢true h)
  order-free (branches t) h = absurd (false≢true h)
  order-free counts h = refl

  order-own : (d : Does ℕ) → does_count d ≡ true → is_in_order a n d ≡ is_in_order b n d
  unfolding does_count is_in_order
  order-own passes h = refl
  order-own ends h = refl
  order-own exits h = refl
  order-own (text s) h = refl
  order-own models h = refl
  order-own (sets k) h = refl
  order-own (branches_if t) h = absurd (false≢true h)
  order-own (branches t) h = absurd (false≢true h)
  order-own counts h = refl

module _ (globals : List Set) (m : DeckMacro) where
  line-with : (a b : ℕ) (l : Line Slot ℕ) → is_in_order a (length m.lines) l.does ≡ is_in_order b (length m.lines) l.does → is_line globals m a l ≡ is_line globals m b l
  unfolding is_line
  line-with a b l e = ap (λ (o : Bool). o && (are_lexemes l.name && (are_lexemes l.operation && (are_lexemes l.operand && is_formed nest_limit (map_line (slot_kind globals m) (λ t. t) l))))) e

  pub line-free : (l : Line Slot ℕ) (a b : ℕ) → may_precede l.does ≡ true → is_line globals m a l ≡ is_line globals m b l
  line-free l a b h = line-with a b l (order-free a b (length m.lines) l.does h)

  pub line-own : (l : Line Slot ℕ) (a b : ℕ) → does_count l.does ≡ true → is_line globals m a l ≡ is_line globals m b l
  line-own l a b h = line-with a b l (order-own a b (length m.lines) l.does h)

  -- ACTR WALKED
  pub actr-walked : (ls : Lines) → walked (is_line globals m) 0 0 true ls ≡ (counts_once ls && every (is_line globals m (actr_end ls)) ls)
  actr-walked ls = walked_by (is_line globals m) line-free line-own ls
