-- What the functions that walk a body's lines tell where they return. Assumes nothing.
use Prim.Native.Nat.{ℕ, suc, ◌+◌, ◌-◌, ◌≤◌, ◌<◌}
use mathlib.Core.Path.{◌≡◌, refl, sym, ap, ◌∙◌}
use mathlib.Core.Bool.{Bool, true, false, ◌&&◌, ◌||◌, not}
use mathlib.Core.List.{List, ◌∷◌}
use mathlib.Core.Option.{Option, none, some}
use native.Mathlib.Omega.{arith}
use lib.ListN.{length, length-replicate, replicate, drop}
use borrow.Author.Tests.{eq-eqb, ne_eqb}
use Rattle.text.specs.Bytes.{Bytes}
use Rattle.rules.specs.Choice.{choose}
use Rattle.rules.specs.Statement.{Set, Line, Does}
use Rattle.rules.proofs.Choices.{chosen, passed_over}
use Rattle.deck.specs.Slots.{Slot, DeckMacro, own_kinds_of, parameters, no_line}
use Rattle.deck.specs.Coding.{Read, after}
use Rattle.deck.specs.Coders.{line}
use Rattle.deck.specs.Good.{does_end, does_count, may_precede, is_line}
use Rattle.deck_reading.specs.Reading.{two_at, run_at, fields_line, does_in, line_in, line_at, reads}
use Rattle.std.specs.Prelude.{Option as Stop, Some, None}
use Rattle.deck_reading.specs.declared.Fields.{Fields as Places}
use Rattle.kinds.specs.Kinds.{does_for}
use Rattle.good_tests.specs.Carried.{Carries}
use Rattle.good_forms.proofs.Forms.{does-kept}
use Rattle.good_forms.proofs.Texts.{carried}
use Rattle.good_forms.specs.Kinded.{Kinded}
use Rattle.good_decks.specs.declared.Seen.{Seen}
use Rattle.good_decks.specs.Walk.{sift, walk, unseen, seen_after, is_line_of, ends_where, counts_where, is_placed_here, placed_lines, rest_of, stops, with_lines}
use Rattle.good_decks.proofs.Macros.{line_of}

-- ---- what a line does

pub precedes-told : (s : Bytes) (at : ℕ) (f : Places) → line_in s f ≡ line_at s at → {t : Bytes} → t ≡ run_at s f.first → {r : Bool}
    → ((d : Does ℕ) (n : ℕ) → f.does ≡ does_for d → Carries t n d → r ≡ may_precede d) → r ≡ may_precede (line_at s at).does
unfolding line_in fields_line
precedes-told s at f e et g =
    g (does_in f.does s f.first) (two_at s f.first) (does-kept f.does s f.first) (carried s f.first et refl f.does) ∙ ap (λ (l : Line Slot ℕ). may_precede l.does) e

-- ---- what has been seen

module _ (l : Line Slot ℕ) (p : Seen) {c b : Bool} (e : c ≡ may_precede l.does) (f : b ≡ does_count l.does) where
  pub seen-actr : b ≡ true → record { lines = p.lines + 1; actr = p.lines + 1; clear = p.clear && c } ≡ seen_after p l
  unfolding seen_after choose
  seen-actr h =
      let is : does_count l.does ≡ true = sym f ∙ h in
      let n : p.lines + 1 ≡ suc p.lines = omega arith in
      rw is (λ j. record { lines = n j; actr = n j; clear = p.clear && e j })

  pub seen_other : b ≡ false → record { lines = p.lines + 1; actr = p.actr; clear = p.clear && c } ≡ seen_after p l
  unfolding seen_after choose
  seen_other h =
      let is : does_count l.does ≡ false = sym f ∙ h in
      let n : p.lines + 1 ≡ suc p.lines = omega arith in
      rw is (λ j. record { lines = n j; actr = p.actr; clear = p.clear && e j })

-- ---- a line's tests

module _ (l : Line Slot ℕ) (p : Seen) (count : ℕ) {b : Bool} (f : b ≡ does_end l.does) where
  pub last_line : p.lines + 1 ≡ count → b ≡ ends_where count p l
  unfolding ends_where
  last_line h = let k : suc p.lines ≡ count = omega arith in f ∙ sym (chosen _ _ (eq-eqb (suc p.lines) count k))

  pub inner-line : (p.lines + 1 ≡ count → ⊥) → not b ≡ ends_where count p l
  unfolding ends_where
  inner-line h =
      let n : suc p.lines ≡ p.lines + 1 = omega arith in
      ap not f ∙ sym (passed_over _ _ (ne_eqb (suc p.lines) count (λ g. h (sym n ∙ g))))

pub counts-here : (l : Line Slot ℕ) (p : Seen) {b : Bool} → b ≡ does_count l.does → (not b || p.clear) ≡ counts_where p l
unfolding counts_where
counts-here l p f = ap (λ (b : Bool). not b || p.clear) f

-- a macro with as many lines as are to come
module _ (kinds : Bytes) (globals : List Set) (h : DeckMacro) (k : Kinded kinds globals h) (count : ℕ) where
  abbrev to_come : DeckMacro
  to_come = with_lines h (replicate count no_line)

  come-kinded : Kinded kinds globals to_come
  unfolding own_kinds_of parameters with_lines
  come-kinded = record { own-kinds = k.own-kinds; shared-kinds = k.shared-kinds }

  come-count : length to_come.lines ≡ count
  unfolding with_lines
  come-count = length-replicate count no_line

  pub line-placed : (actr : ℕ) (l : Line Slot ℕ) (p : Seen) → p.actr ≡ actr → (x y z : Bool) → x ≡ ends_where count p l → y ≡ counts_where p l
      → ((globals : List Set) (m : DeckMacro) → Kinded kinds globals m → length m.lines ≡ count → z ≡ is_line globals m actr l) → (x && (y && z)) ≡ is_placed_here globals h count p l
  unfolding is_placed_here
  line-placed actr l p e x y z ex ey ez =
      λ j. ex j && (ey j && (ez globals to_come come-kinded come-count ∙ (sym (line_of globals h (replicate count no_line) actr l) ∙ λ j. is_line_of globals h (length-replicate count no_line j) (sym e j) l)) j)

-- ---- the loop

module _ (s : Bytes) (globals : List Set) (h : DeckMacro) (count : ℕ) where
  abbrev Left : ℕ → Seen → ℕ → Option Bytes
  Left n p at = rest_of (placed_lines globals h count n p (drop at s))

  pub all-walked : (n : ℕ) (p : Seen) (at : ℕ) → n ≡ 0 → Left n p at ≡ stops s (Some at)
  unfolding placed_lines walk rest_of stops
  all-walked n p at e = rw e refl

  module _ (n k : ℕ) (p : Seen) (at : ℕ) (e : n ≡ suc k) where
    pub line-unread : reads (line_at s at) s None ≡ line.get (drop at s) → Left n p at ≡ stops s None
    unfolding placed_lines walk rest_of stops reads sift after
    line-unread f = rw (e, sym f) refl

    module _ (to : ℕ) (f : reads (line_at s at) s (Some to) ≡ line.get (drop at s)) where
      pub line_refused : is_placed_here globals h count p (line_at s at) ≡ false → Left n p at ≡ stops s None
      unfolding placed_lines walk rest_of stops reads sift after choose
      line_refused g = rw (e, sym f, g) refl

      pub line-walked : is_placed_here globals h count p (line_at s at) ≡ true → Left n p at ≡ Left k (seen_after p (line_at s at)) to
      unfolding placed_lines walk rest_of stops reads sift after choose
      line-walked g = rw (e, sym f, g) (behind (walk (λ p s. sift (is_placed_here globals h count p) (line.get s)) seen_after k (seen_after p (line_at s at)) (drop to s)))
        where
          behind : (r : Read (List (Line Slot ℕ))) → rest_of (after r λ l u. some (line_at s at ∷ l, u)) ≡ rest_of r
          behind none = refl
          behind (some r) = refl

-- the loop's turns, for one that has walked i lines
module _ (s kinds : Bytes) (count : ℕ) where
  abbrev pub Promised : ℕ → Seen → ℕ → ℕ → Type 0
  Promised i p at start = (globals : List Set) (h : DeckMacro) → Kinded kinds globals h → rest_of (placed_lines globals h count count unseen (drop start s)) ≡ rest_of (placed_lines globals h count (count - i) p (drop at s))

  pub walk-starts : (at : ℕ) → Promised 0 (record { lines = 0; actr = 0; clear = true }) at at
  unfolding unseen
  walk-starts at globals h k = let z : count ≡ count - 0 = omega arith in ap (λ (n : ℕ). rest_of (placed_lines globals h count n unseen (drop at s))) z

  module _ (i : ℕ) (p : Seen) (at start : ℕ) (inv : Promised i p at start) where
    pub walk_ends : count ≤ i → (globals : List Set) (h : DeckMacro) → Kinded kinds globals h → stops s (Some at) ≡ rest_of (placed_lines globals h count count unseen (drop start s))
    walk_ends l globals h k = let z : count - i ≡ 0 = omega arith in sym (inv globals h k ∙ all-walked s globals h count (count - i) p at z)

    module _ (less : i < count) (r : Stop ℕ) (read : reads (line_at s at) s r ≡ line.get (drop at s)) where
      one_less : count - i ≡ suc (count - (i + 1))
      one_less = omega arith

      pub walk-unread : r ≡ None → (globals : List Set) (h : DeckMacro) → Kinded kinds globals h → stops s None ≡ rest_of (placed_lines globals h count count unseen (drop start s))
      walk-unread e globals h k = sym (inv globals h k ∙ line-unread s globals h count (count - i) (count - (i + 1)) p at one_less (rw e at read))

      module _ (to : ℕ) (e : r ≡ Some to) (b : Bool) (test : (globals : List Set) (h : DeckMacro) → Kinded kinds globals h → b ≡ is_placed_here globals h count p (line_at s at)) where
        pub walk_refused : b ≡ false → (globals : List Set) (h : DeckMacro) → Kinded kinds globals h → stops s None ≡ rest_of (placed_lines globals h count count unseen (drop start s))
        walk_refused f globals h k = sym (inv globals h k ∙ line_refused s globals h count (count - i) (count - (i + 1)) p at one_less to (rw e at read) (sym (test globals h k) ∙ f))

        pub walk-on : b ≡ true → (q : Seen) → q ≡ seen_after p (line_at s at) → Promised (i + 1) q to start
        walk-on f q g globals h k =
            inv globals h k ∙ (line-walked s globals h count (count - i) (count - (i + 1)) p at one_less to (rw e at read) (sym (test globals h k) ∙ f)
            ∙ ap (λ (p : Seen). rest_of (placed_lines globals h count (count - (i + 1)) p (drop to s))) (sym g))

pub seen_more : (p q : Seen) (l : Line Slot ℕ) (i : ℕ) → p.lines ≡ i → q ≡ seen_after p l → q.lines ≡ i + 1
unfolding seen_after
seen_more p q l i e f = let n : suc i ≡ i + 1 = omega arith in ap (λ (q : Seen). q.lines) f ∙ (ap suc e ∙ n)
