-- The tests of a body's lines one after another are the tests of all of them. Assumes nothing.
use Prim.Native.Nat.{ℕ, zero, suc, ◌+◌}
use mathlib.Core.Path.{◌≡◌, refl, sym, ap, subst, ◌∙◌}
use mathlib.Core.Bool.{Bool, true, false, ◌&&◌, ◌||◌, not, true≢false, or-and_distrib_right, or-true}
use mathlib.Core.List.{List, [], ◌∷◌}
use native.Mathlib.Omega.{arith}
use lib.Dec.{eqb}
use lib.ListN.{length}
use borrow.Author.Tests.{eqb-true, eq-eqb, ne_eqb}
use Rattle.rules.specs.Choice.{choose, every, any}
use Rattle.rules.specs.Statement.{Set, Line, map_line, Does, passes, ends, exits, text, models, sets, branches_if, branches, counts}
use Rattle.rules.specs.Limits.{nest_limit}
use Rattle.rules.specs.Form.{is_formed}
use Rattle.rules.proofs.Choices.{by, chosen, passed_over}
use Rattle.deck.specs.Slots.{Slot, DeckMacro, slot_kind}
use Rattle.deck.specs.AsRead.{is_read_line}
use Rattle.deck.specs.Good.{are_lexemes, is_in_order, does_end, ends_once, does_count, may_precede, actr_end, counts_once}
use Rattle.good_decks.specs.declared.Seen.{Seen}
use Rattle.good_decks.specs.Walk.{hold_from, unseen, seen_after, ends_where, counts_where, is_line_of, is_line_here}

-- ---- tests joined

module _ {A S : Type 0} (next : S → A → S) where
  -- both of two tests hold of all where each does
  pub hold-both : (P Q : S → A → Bool) (st : S) (l : List A) → hold_from (λ st a. P st a && Q st a) next st l ≡ (hold_from P next st l && hold_from Q next st l)
  unfolding hold_from
  hold-both P Q st [] = refl
  hold-both P Q st (a ∷ l) = ap (λ (b : Bool). (P st a && Q st a) && b) (hold-both P Q (next st a) l) ∙ swap (P st a) (Q st a) (hold_from P next (next st a) l) (hold_from Q next (next st a) l)
    where
      swap : (p q v w : Bool) → ((p && q) && (v && w)) ≡ ((p && v) && (q && w))
      swap true true v w = refl
      swap true false true w = refl
      swap true false false w = refl
      swap false q v w = refl

  -- a test that looks at nothing before
  pub hold-plain : (P : A → Bool) (st : S) (l : List A) → hold_from (λ st a. P a) next st l ≡ every P l
  unfolding hold_from every
  hold-plain P st [] = refl
  hold-plain P st (a ∷ l) = ap (λ (b : Bool). P a && b) (hold-plain P (next st a) l)

-- ---- MEND

pub ends-walked : (count : ℕ) (p : Seen) (l : Line Slot ℕ) (ls : List (Line Slot ℕ)) → p.lines + length (l ∷ ls) ≡ count → hold_from (ends_where count) seen_after p (l ∷ ls) ≡ ends_once (l ∷ ls)
unfolding hold_from ends_where ends_once seen_after
ends-walked count p l [] e = last (does_end l.does) (choose (eqb (suc p.lines) count) (does_end l.does) (not (does_end l.does))) (chosen _ _ (eq-eqb (suc p.lines) count (omega arith)))
  where
    last : (x y : Bool) → y ≡ x → (y && true) ≡ x
    last x true e = e
    last x false e = e
ends-walked count p l (k ∷ ls) e =
    let far : eqb (suc p.lines) count ≡ false = ne_eqb (suc p.lines) count (λ f. omega (arith, f)) in
    λ j. passed_over (does_end l.does) (not (does_end l.does)) far j && ends-walked count (seen_after p l) k ls (omega arith) j

-- ---- ACTR

abbrev any_counts : List (Line Slot ℕ) → Bool
any_counts ls = any (λ k. does_count k.does) ls

no-actr : (ls : List (Line Slot ℕ)) → any_counts ls ≡ false → actr_end ls ≡ 0
unfolding any actr_end choose
no-actr [] e = refl
no-actr (l ∷ ls) e = by (does_count l.does)
    (λ h. absurd (true≢false (sym (ap (λ (b : Bool). b || any_counts ls) h) ∙ e)))
    (λ h. rw (h, no-actr ls (sym (ap (λ (b : Bool). b || any_counts ls) h) ∙ e)))

none-counts : (ls : List (Line Slot ℕ)) → any_counts ls ≡ false → counts_once ls ≡ true
unfolding any counts_once choose
none-counts [] e = refl
none-counts (l ∷ ls) e = by (does_count l.does)
    (λ h. absurd (true≢false (sym (ap (λ (b : Bool). b || any_counts ls) h) ∙ e)))
    (λ h. let f : any_counts ls ≡ false = sym (ap (λ (b : Bool). b || any_counts ls) h) ∙ e in rw (h, none-counts ls f, f) (or_yes (may_precede l.does)))
  where
    or_yes : (b : Bool) → (b || true) ≡ true
    or_yes true = refl
    or_yes false = refl

actr-not-before : (d : Does ℕ) → does_count d ≡ true → may_precede d ≡ false
unfolding does_count may_precede
actr-not-before passes h = sym h
actr-not-before ends h = refl
actr-not-before exits h = refl
actr-not-before (text s) h = absurd (true≢false (sym h))
actr-not-before models h = refl
actr-not-before (sets k) h = refl
actr-not-before (branches_if t) h = refl
actr-not-before (branches t) h = refl
actr-not-before counts h = refl

-- choices of tests
at-actr-only : (clear o o' c once e e' : Bool) → o ≡ o' → (c ≡ false → once ≡ true) → (c ≡ false → e ≡ e') → ((clear && o) && (once && ((clear && false || not c) && e))) ≡ (not c && ((clear || false) && (o' && e')))
at-actr-only true o o' true once e e' h f g = nothing o once
  where
    nothing : (o once : Bool) → (o && (once && false)) ≡ false
    nothing true true = refl
    nothing true false = refl
    nothing false once = refl
at-actr-only true o o' false once e e' h f g = λ j. h j && (f refl j && g refl j)
at-actr-only false o o' true once e e' h f g = refl
at-actr-only false o o' false once e e' h f g = refl

on-others : (clear m o o' c once e : Bool) → ((m || not c) ≡ true → o ≡ o') → (o && (once && ((clear && m || not c) && e))) ≡ ((once && (m || not c)) && ((clear || not c) && (o' && e)))
on-others clear m o o' c once e h = ap (λ (b : Bool). o && (once && (b && e))) (or-and_distrib_right clear m (not c)) ∙ (around (clear || not c) (m || not c) o once e ∙ guarded (m || not c) once (clear || not c) h)
  where
    around : (y x o once e : Bool) → (o && (once && ((y && x) && e))) ≡ ((once && x) && (y && (o && e)))
    around y x true false e = refl
    around y x false false e = refl
    around true x true true e = refl
    around false true true true e = refl
    around false false true true e = refl
    around true true false true e = refl
    around true false false true e = refl
    around false true false true e = refl
    around false false false true e = refl

    guarded : (x once y : Bool) → (x ≡ true → o ≡ o') → ((once && x) && (y && (o && e))) ≡ ((once && x) && (y && (o' && e)))
    guarded true true y h = λ j. y && (h refl j && e)
    guarded true false y h = refl
    guarded false true y h = refl
    guarded false false y h = refl

-- how many lines there are up to ACTR, for one that has seen some of them
abbrev actr_from : ℕ → ℕ → List (Line Slot ℕ) → ℕ
actr_from i actr ls = choose (eqb (actr_end ls) 0) actr (i + actr_end ls)

-- a test of lines by the place behind ACTR, which asks no line that may stand before ACTR, and not ACTR, about it
pub record ByActr (order : ℕ → Line Slot ℕ → Bool) : Type 0 where
  pub at-actr : (x y : ℕ) (l : Line Slot ℕ) → does_count l.does ≡ true → order x l ≡ order y l
  pub before-actr : (x y : ℕ) (l : Line Slot ℕ) → may_precede l.does ≡ true → order x l ≡ order y l

module _ (order : ℕ → Line Slot ℕ → Bool) (o : ByActr order) where
  abbrev here : Seen → Line Slot ℕ → Bool
  here p l = counts_where p l && order p.actr l

  abbrev Walked : Seen → List (Line Slot ℕ) → Type 0
  Walked p ls = hold_from here seen_after p ls ≡ (counts_once ls && ((p.clear || not (any_counts ls)) && every (order (actr_from p.lines p.actr ls)) ls))

  -- ACTR itself, where nothing forbids it
  turn-actr : (p : Seen) (l : Line Slot ℕ) (ls : List (Line Slot ℕ)) → does_count l.does ≡ true → Walked (seen_after p l) ls → Walked p (l ∷ ls)
  unfolding hold_from counts_where seen_after counts_once any every choose actr_end
  turn-actr p l ls h again =
      let m = actr-not-before l.does h in
      let end : actr_end (l ∷ ls) ≡ 1 = chosen _ _ h in
      let one : p.lines + 1 ≡ suc p.lines = omega arith in
      let behind : actr_from p.lines p.actr (l ∷ ls) ≡ suc p.lines = ap (λ (n : ℕ). choose (eqb n 0) p.actr (p.lines + n)) end ∙ one in
      let so : (seen_after p l).actr ≡ suc p.lines = chosen _ _ h in
      let rest : hold_from here seen_after (seen_after p l) ls ≡ (counts_once ls && ((p.clear && may_precede l.does || not (any_counts ls)) && every (order (actr_from (suc p.lines) (suc p.lines) ls)) ls)) =
      subst (λ (n : ℕ). hold_from here seen_after (seen_after p l) ls ≡ (counts_once ls && ((p.clear && may_precede l.does || not (any_counts ls)) && every (order (actr_from (suc p.lines) n ls)) ls))) so again in
      subst (λ (n : ℕ). hold_from here seen_after p (l ∷ ls) ≡ (counts_once (l ∷ ls) && ((p.clear || not (any_counts (l ∷ ls))) && every (order n) (l ∷ ls)))) (sym behind)
      (rw (rest, h, m)
      (at-actr-only p.clear (order p.actr l) (order (suc p.lines) l) (any_counts ls) (counts_once ls) _ _ (o.at-actr p.actr (suc p.lines) l h) (none-counts ls)
      (λ f. ap (λ (n : ℕ). every (order n) ls) (ap (λ (n : ℕ). choose (eqb n 0) (suc p.lines) (suc p.lines + n)) (no-actr ls f)))))

  -- another line
  turn-other : (p : Seen) (l : Line Slot ℕ) (ls : List (Line Slot ℕ)) → does_count l.does ≡ false → Walked (seen_after p l) ls → Walked p (l ∷ ls)
  unfolding hold_from counts_where seen_after counts_once any every choose actr_end
  turn-other p l ls h again =
      let behind = actr_from (suc p.lines) p.actr ls in
      let end : actr_end (l ∷ ls) ≡ choose (eqb (actr_end ls) 0) 0 (suc (actr_end ls)) = passed_over _ _ h in
      let there : actr_from p.lines p.actr (l ∷ ls) ≡ behind =
      ap (λ (n : ℕ). choose (eqb n 0) p.actr (p.lines + n)) end ∙ one_more (actr_end ls) p.lines p.actr in
      let so : (seen_after p l).actr ≡ p.actr = passed_over _ _ h in
      let rest : hold_from here seen_after (seen_after p l) ls ≡ (counts_once ls && ((p.clear && may_precede l.does || not (any_counts ls)) && every (order behind) ls)) =
      subst (λ (n : ℕ). hold_from here seen_after (seen_after p l) ls ≡ (counts_once ls && ((p.clear && may_precede l.does || not (any_counts ls)) && every (order (actr_from (suc p.lines) n ls)) ls))) so again in
      subst (λ (n : ℕ). hold_from here seen_after p (l ∷ ls) ≡ (counts_once (l ∷ ls) && ((p.clear || not (any_counts (l ∷ ls))) && every (order n) (l ∷ ls)))) (sym there)
      (rw (rest, h)
      (on-others p.clear (may_precede l.does) (order p.actr l) (order behind l) (any_counts ls) (counts_once ls) (every (order behind) ls)
      (alike (may_precede l.does) (any_counts ls) (o.before-actr p.actr behind l) (λ f. ap (λ (n : ℕ). order (choose (eqb n 0) p.actr (suc p.lines + n)) l) (sym (no-actr ls f))))))
    where
      one_more : (n i actr : ℕ) → choose (eqb (choose (eqb n 0) 0 (suc n)) 0) actr (i + choose (eqb n 0) 0 (suc n)) ≡ choose (eqb n 0) actr (suc i + n)
      one_more zero i actr = refl
      one_more (suc n) i actr =
          let x = ne_eqb (suc n) 0 (λ e. omega arith) in
          let y = ne_eqb (suc (suc n)) 0 (λ e. omega arith) in
          let z : i + suc (suc n) ≡ suc i + suc n = omega arith in
          rw (x, y, z)

      alike : {P : Type 0} (m c : Bool) → (m ≡ true → P) → (c ≡ false → P) → (m || not c) ≡ true → P
      alike true c f g e = f refl
      alike false true f g e = absurd (true≢false (sym e))
      alike false false f g e = g refl

  -- the tests of lines with what has been seen of ACTR are those with what there is of it
  pub actr-walked : (p : Seen) (ls : List (Line Slot ℕ)) → Walked p ls
  unfolding hold_from counts_once any every
  actr-walked p [] = done p.clear
    where
      done : (b : Bool) → true ≡ ((b || true) && true)
      done true = refl
      done false = refl
  actr-walked p (l ∷ ls) =
      let again = actr-walked (seen_after p l) ls in by (does_count l.does) (λ h. turn-actr p l ls h again) (λ h. turn-other p l ls h again)

-- ---- all of a line's tests

module _ (globals : List Set) (h : DeckMacro) (count : ℕ) where
  -- only a branch asks where ACTR stands
  no-branch : (x y : ℕ) (d : Does ℕ) → (does_count d || may_precede d) ≡ true → is_in_order x count d ≡ is_in_order y count d
  unfolding does_count may_precede is_in_order
  no-branch x y passes e = refl
  no-branch x y ends e = refl
  no-branch x y exits e = refl
  no-branch x y (text s) e = refl
  no-branch x y models e = refl
  no-branch x y (sets k) e = refl
  no-branch x y (branches_if t) e = absurd (true≢false (sym e))
  no-branch x y (branches t) e = absurd (true≢false (sym e))
  no-branch x y counts e = refl

  line-by-actr : ByActr (is_line_of globals h count)
  unfolding is_line_of
  line-by-actr = record {
    at-actr = λ x y l e. ap (λ (b : Bool). b && rest l) (no-branch x y l.does (ap (λ (b : Bool). b || may_precede l.does) e));
    before-actr = λ x y l e. ap (λ (b : Bool). b && rest l) (no-branch x y l.does (ap (λ (b : Bool). does_count l.does || b) e ∙ or-true (does_count l.does)));
  }
    where
      rest : Line Slot ℕ → Bool
      rest l = are_lexemes l.name && (are_lexemes l.operation && (are_lexemes l.operand && is_formed nest_limit (map_line (slot_kind globals h) (λ t. t) l)))

  -- one line after another, a body passes as a whole
  pub lines-walked : (l : Line Slot ℕ) (ls : List (Line Slot ℕ)) → length (l ∷ ls) ≡ count
      → hold_from (is_line_here globals h count) seen_after unseen (l ∷ ls) ≡ (ends_once (l ∷ ls) && (counts_once (l ∷ ls) && (every (is_line_of globals h count (actr_end (l ∷ ls))) (l ∷ ls) && every is_read_line (l ∷ ls))))
  unfolding is_line_here unseen choose
  lines-walked l ls e =
      let body = l ∷ ls in
      let order = is_line_of globals h count in
      let z : 0 + length body ≡ count = omega arith in
      let at_last = ends-walked count unseen l ls z in
      let at-actr = actr-walked order line-by-actr unseen body ∙ ap (λ (n : ℕ). counts_once body && every (order n) body) (from_start (actr_end body)) in
      let as_read = hold-plain seen_after is_read_line unseen body in
      hold-both seen_after (ends_where count) (λ p l. (counts_where p l && order p.actr l) && is_read_line l) unseen body
      ∙ (ap (λ (b : Bool). hold_from (ends_where count) seen_after unseen body && b) (hold-both seen_after (λ p l. counts_where p l && order p.actr l) (λ p l. is_read_line l) unseen body)
      ∙ ((λ j. at_last j && (at-actr j && as_read j)) ∙ ap (λ (b : Bool). ends_once body && b) (regroup (counts_once body) (every (order (actr_end body)) body) (every is_read_line body))))
    where
      from_start : (n : ℕ) → choose (eqb n 0) 0 (0 + n) ≡ n
      from_start n = by (eqb n 0) (λ f. rw (eqb-true n 0 f)) (λ f. let k : 0 + n ≡ n = omega arith in rw (f, k))

      regroup : (a b c : Bool) → ((a && b) && c) ≡ (a && (b && c))
      regroup true b c = refl
      regroup false b c = refl
