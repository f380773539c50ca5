-- The loop's lines are the pass's but for one test: whether each is as the reader gives it. Assumes nothing.
use Prim.Native.Nat.{ℕ}
use mathlib.Core.Path.{◌≡◌, refl, sym, ap, ◌∙◌}
use mathlib.Core.Bool.{Bool, true, false, ◌&&◌}
use mathlib.Core.List.{List}
use mathlib.Core.Option.{none, some}
use Rattle.text.specs.Bytes.{Bytes}
use Rattle.rules.specs.Choice.{choose, every}
use Rattle.rules.specs.Statement.{Set, Line}
use Rattle.deck.specs.Slots.{Slot, DeckMacro}
use Rattle.deck.specs.Coding.{Read, get_all}
use Rattle.deck.specs.Coders.{line}
use Rattle.deck.specs.AsRead.{is_read_line}
use Rattle.good_decks.specs.declared.Seen.{Seen}
use Rattle.good_decks.specs.Walk.{sift, hold_from, unseen, seen_after, ends_where, counts_where, is_line_of, is_placed_here, is_line_here, good_line, good_lines, placed_lines}
use Rattle.good_decks.proofs.Passes.{walk-all}
use Rattle.good_decks.proofs.Bodies.{hold-both, hold-plain}
use Rattle.good_decks.proofs.Macros.{sift-same}

sift-sift : {A : Type 0} (f g : A → Bool) (r : Read A) → sift (λ a. f a && g a) r ≡ sift g (sift f r)
unfolding sift choose
sift-sift f g none = refl
sift-sift f g (some r) = cases (f r.0) (g r.0) refl
  where
    cases : (x y : Bool) → g r.0 ≡ y → choose (x && y) (some r) none ≡ sift g (choose x (some r) none)
    cases true y e = ap (λ (b : Bool). choose b (some r) none) (sym e)
    cases false y e = refl

module _ (globals : List Set) (h : DeckMacro) (count : ℕ) where
  here-is : (p : Seen) (l : Line Slot ℕ) → is_line_here globals h count p l ≡ (is_placed_here globals h count p l && is_read_line l)
  unfolding is_line_here is_placed_here
  here-is p l = regroup (ends_where count p l) (counts_where p l && is_line_of globals h count p.actr l) (is_read_line l)
    where
      regroup : (a b c : Bool) → (a && (b && c)) ≡ ((a && b) && c)
      regroup true b c = refl
      regroup false b c = refl

  pub lines-placed : (s : Bytes) → good_lines globals h count s ≡ sift (every is_read_line) (placed_lines globals h count count unseen s)
  unfolding good_lines good_line placed_lines
  lines-placed s =
      let r = get_all line count s in
      let placed = hold_from (is_placed_here globals h count) seen_after unseen in
      walk-all line (is_line_here globals h count) seen_after (good_line globals h count) (λ p s. refl) count unseen s
      ∙ (sift-same (λ ls. (λ j. hold_from (λ p l. here-is p l j) seen_after unseen ls) ∙ (hold-both seen_after (is_placed_here globals h count) (λ p l. is_read_line l) unseen ls ∙ ap (λ (b : Bool). placed ls && b) (hold-plain seen_after is_read_line unseen ls))) r
      ∙ (sift-sift placed (every is_read_line) r
      ∙ ap (sift (every is_read_line)) (sym (walk-all line (is_placed_here globals h count) seen_after (λ p s. sift (is_placed_here globals h count p) (line.get s)) (λ p s. refl) count unseen s))))
