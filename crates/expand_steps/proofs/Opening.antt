-- An open line: what it makes of the machine's state. Assumes nothing.
use Prim.Native.Nat.{ℕ, suc, ◌+◌, ◌-◌, ◌≤◌, ◌<◌}
use mathlib.Core.Path.{◌≡◌, refl, sym, ap, ◌∙◌, subst}
use mathlib.Core.List.{[], ◌∷◌}
use native.Mathlib.Omega.{arith}
use native.Mathlib.Numerals.{add-one}
use lib.Dec.{ltb}
use lib.ListN.{length, take, drop, drop_of_length-le}
use borrow.Author.Tests.{lt-ltb, le-ltb, ltb-true, ltb-false}
use Rattle.text.specs.Bytes.{Bytes}
use Rattle.rules.specs.Fields.{lines_of}
use Rattle.rules.specs.Machine.{State, uses, reaching, opened, open_move, move}
use Rattle.rules.specs.Choice.{choose}
use Rattle.rules.proofs.Choices.{by, chosen, passed_over}
use Rattle.deck.specs.Slots.{Deck, machine_of_deck}
use Rattle.lines.specs.Ends.{line_end, past_newline}
use Rattle.lines.proofs.Found.{line-found}
use Rattle.expand_levels.specs.Stack.{Sized, levels_of}
use Rattle.expand_levels.proofs.Stacks.{empty-run}
use Rattle.work_frames.specs.Frames.{waiting_in}
use Rattle.expand_steps.specs.Moving.{StandsFor, Moves, Sound}
use Rattle.expand_steps.specs.Writing.{levels_in, Used}
use Rattle.expand_steps.specs.Steps.{Steps}
use Rattle.expand_steps.specs.Runs.{opened_at, past_of}
use Rattle.expand_steps.specs.declared.Run.{Run}
use Rattle.expand_steps.specs.declared.Stepped.{Stepped}
use Rattle.expand_steps.proofs.Readied.{good-is, good-ready}

-- behind a newline, or at the end
pub past-is : (s : Bytes) (end : ℕ) → past_newline s end ≡ past_of end (length s)
unfolding past_newline past_of
past-is s end = ap (λ n. choose (ltb end (length s)) n end) (add-one end)

pub past-told : (end size : ℕ) → end < size → end + 1 ≡ past_of end size
unfolding past_of
past-told end size h = add-one end ∙ sym (chosen _ _ (lt-ltb end size h))

pub past_end : (end size : ℕ) → size ≤ end → end ≡ past_of end size
unfolding past_of
past_end end size h = sym (passed_over _ _ (le-ltb end size h))

module _ (s : Bytes) (end : ℕ) (within : end ≤ length s) where
  past-within : past_of end (length s) ≤ length s
  past-within =
      by (ltb end (length s))
      (λ e. let h = ltb-true end (length s) e in let q = sym (past-told end (length s) h) in omega (arith, q, h))
      (λ e. let h = ltb-false end (length s) e in let q = sym (past_end end (length s) h) in omega (arith, q, within))

  past-drop : drop (suc end) s ≡ drop (past_of end (length s)) s
  past-drop =
      by (ltb end (length s))
      (λ e. ap (λ n. drop n s) (sym (add-one end) ∙ past-told end (length s) (ltb-true end (length s) e)))
      (λ e. let h = ltb-false end (length s) e in
      let later : length s ≤ suc end = omega arith in
      drop_of_length-le s later ∙ sym (drop_of_length-le s h) ∙ ap (λ n. drop n s) (past_end end (length s) h))

module _ (deck program out w : Bytes) (run : Run) (h : Sound program out run) (none : run.running.depth ≡ 0) (more : run.at < length program)
    (end : ℕ) (ends : end ≡ line_end program run.at) (within : end ≤ length program)
  where
    abbrev at' : ℕ
    at' = past_of end (length program)

    abbrev line : Bytes
    line = take (end - run.at) (drop run.at program)

    abbrev next : Run
    next = opened_at at' run

    next-sound : Sound program out next
    unfolding opened_at
    next-sound = record {
      sized = h.sized;
      known = h.known;
      read = past-within program end within;
      written = h.written;
      few-lines = let c = h.few-lines in omega (arith, c);
      few-put = let c = h.few-put in omega (arith, c);
    }

    lines_are : lines_of (drop run.at program) ≡ line ∷ lines_of (drop at' program)
    lines_are =
        line-found program run.at more
        ∙ (λ j. take (sym ends j - run.at) (drop run.at program) ∷ lines_of (drop (suc (sym ends j)) program))
        ∙ ap (λ t. line ∷ lines_of t) (past-drop program end within)

    next-stands : (d : Deck) (s : State) → StandsFor d deck program out w run s → StandsFor d deck program out w next (opened (lines_of (drop at' program)) s)
    unfolding opened_at opened reaching
    next-stands d s k = record {
      open-lines = refl;
      open-line = let c = k.open-line in omega (arith, c);
      steps-taken = let c = k.steps-taken in omega (arith, c);
      put-out = k.put-out;
      line-count = k.line-count;
      room-left = k.room-left;
      section = k.section;
      levels-run = k.levels-run;
      shared-values = k.shared-values;
      calls-given = k.calls-given;
    }

    opened-steps : (out' w' : Bytes) (r : Stepped) → Used deck out w line next run.running out' w' r → Steps deck program out w run out' w' r
    unfolding move open_move opened_at waiting_in
    opened-steps out' w' r u = record {
      sound = u.sound program next-sound h.known (let c = h.few-put in omega (arith, c));
      kept = u.kept;
      further = u.further;
      ticks = let e = u.same-steps in omega (arith, e);
      moved = λ d s good x k.
          let empty : waiting_in w deck d 1 (levels_of run.running) [] ≡ [] = ap (λ l. waiting_in w deck d 1 l []) (empty-run run.running h.sized none) in
          let is : move (machine_of_deck d) s.levels s ≡ uses (machine_of_deck d) line (levels_in d deck w run.running) (opened (lines_of (drop at' program)) s) =
          ap (λ l. move (machine_of_deck d) l s) (k.levels-run ∙ empty) ∙ ap (λ l. open_move (machine_of_deck d) l s) (k.open-lines ∙ lines_are)
          ∙ ap (λ l. uses (machine_of_deck d) line l (opened (lines_of (drop at' program)) s)) (sym empty) in
          subst (Moves d deck program out' w' r) (sym is) (u.moved d program (opened (lines_of (drop at' program)) s) (good-ready d (good-is deck d good) deck _ x) (next-stands d s k));
    }

    pub steps-open : (out' w' : Bytes) (t : Run) (r : Stepped) → t ≡ next → Used deck out w line t run.running out' w' r → Steps deck program out w run out' w' r
    steps-open out' w' t r is u = opened-steps out' w' r (subst (λ (x : Run). Used deck out w line x run.running out' w' r) is u)

asked : (program out : Bytes) (run : Run) (at : ℕ) → Sound program out run → run.steps < 4611686018427387904
    → ((opened_at at run).pos ≤ length out) × ((opened_at at run).lines < 9223372036854775808) × Sized (opened_at at run).running
unfolding opened_at
asked program out run at h few = (h.written, (let c = h.few-put in omega (arith, c)), h.sized)

-- what a line that is used asks of the state at an open line
pub open-asks : (program out : Bytes) (run t : Run) (at : ℕ) → Sound program out run → run.steps < 4611686018427387904 → t ≡ opened_at at run
    → (t.pos ≤ length out) × (t.lines < 9223372036854775808) × Sized t.running
open-asks program out run t at h few is = subst (λ (x : Run). (x.pos ≤ length out) × (x.lines < 9223372036854775808) × Sized x.running) (sym is) (asked program out run at h few)
