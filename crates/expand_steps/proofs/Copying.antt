-- A line that is copied: what it makes of the machine's state. Assumes nothing.
use Prim.Native.Nat.{ℕ, suc, ◌+◌, ◌-◌, ◌≤◌, ◌<◌}
use mathlib.Core.Path.{◌≡◌, refl, sym, ap, ◌∙◌, subst}
use mathlib.Core.Bool.{true, false}
use mathlib.Core.List.{[], ◌∷◌, ◌++◌}
use mathlib.Core.Logic.{inl}
use native.Mathlib.Omega.{arith}
use lib.Dec.{ltb}
use lib.ListN.{length, drop}
use borrow.Author.Tests.{lt-ltb, le-ltb}
use Rattle.std.specs.Prelude.{Option, Some, None}
use Rattle.text.specs.Bytes.{Bytes}
use Rattle.rules.specs.Fields.{newline}
use Rattle.rules.specs.Machine.{State, sect_after, put_out, puts}
use Rattle.rules.proofs.Choices.{chosen, passed_over}
use Rattle.deck.specs.Slots.{Deck}
use Rattle.lent.proofs.Writes.{splice-drop-behind, splice-length}
use Rattle.expand_levels.specs.Stack.{Sized, levels_of}
use Rattle.expand_levels.specs.declared.Running.{Running}
use Rattle.expand_levels.proofs.Stacks.{count-run}
use Rattle.work_frames.specs.Layout.{section_at}
use Rattle.work_frames.specs.Frames.{index_in, shared_in}
use Rattle.work_frames.proofs.Elsewhere.{section-elsewhere, waiting-apart, shared-apart, rows_apart}
use Rattle.expand_output.specs.Puts.{put_at, with_line, noted}
use Rattle.refusals.specs.declared.Fault.TheVariants.{NoRoom}
use Rattle.expand_steps.specs.declared.Halt.TheVariants.{Refused}
use Rattle.expand_output.proofs.Laid.{noted-section, noted-there, output-more, line-there, line-front, line-behind, line-left, put-fits, put_refused}
use Rattle.expand_steps.specs.Moving.{StandsFor, Moves, goes}
use Rattle.expand_steps.specs.Writing.{Modest, levels_in, Copied}
use Rattle.expand_steps.specs.Runs.{put_to, goes_on, stops_by}
use Rattle.expand_steps.specs.declared.Run.{Run}
use Rattle.expand_steps.specs.declared.Stepped.{Stepped}
use Rattle.expand_steps.proofs.Acting.{refused-so}

-- the section's name is noted, and nothing else changes in the workspace
module _ (w line : Bytes) (short : length line ≤ 71) where
  noted-levels : (d : Deck) (deck : Bytes) (q : Running) → Modest d → Sized q → levels_in d deck (noted w line) q ≡ levels_in d deck w q
  noted-levels d deck q m z =
      let few : length (levels_of q) ≤ 5 = omega (arith, count-run q z) in
      noted-there (λ v. levels_in d deck v q ≡ levels_in d deck w q) w line short refl
      (λ s h. waiting-apart w section_at s deck d 1 (levels_of q) [] m.locals (λ k a b. section-elsewhere (length s) k h a (omega arith)))

  noted-shared : (d : Deck) → Modest d → shared_in (noted w line) d ≡ shared_in w d
  noted-shared d m = noted-there (λ v. shared_in v d ≡ shared_in w d) w line short refl (λ s h. shared-apart w section_at s d m.globals (inl (omega arith)))

  noted-index : index_in (noted w line) ≡ index_in w
  noted-index = noted-there (λ v. index_in v ≡ index_in w) w line short refl (λ s h. rows_apart w section_at s (inl (omega arith)))

  noted-rest : drop 32768 (noted w line) ≡ drop 32768 w
  noted-rest = noted-there (λ v. drop 32768 v ≡ drop 32768 w) w line short refl (λ s h. splice-drop-behind w section_at s 32768 (omega arith))

  noted-length : length (noted w line) ≡ length w
  noted-length = noted-there (λ v. length v ≡ length w) w line short refl (λ s h. splice-length w section_at s)

module _ (deck out w line : Bytes) (run : Run) (running : Running) (written : run.pos ≤ length out) (big : 32768 ≤ length w) (short : length line ≤ 71) (z : Sized run.running) (z' : Sized running) where
  -- there is room
  module _ (h : length line < length out - run.pos) where
    abbrev out' : Bytes
    out' = with_line out run.pos line

    abbrev w' : Bytes
    w' = noted w line

    abbrev run' : Run
    run' = put_to (run.pos + suc (length line)) running run

    long : length out' ≡ length out
    long = ap length (line-there out run.pos line h) ∙ splice-length out run.pos (line ++ (newline ∷ []))

    stands : (d : Deck) (program : Bytes) (s : State) → Modest d → StandsFor d deck program out w run s
        → StandsFor d deck program out' w' run' (record { reached = s.reached; output = put_out line s.output; levels = levels_in d deck w running; shared = s.shared; calls = s.calls })
    unfolding put_to put_out
    stands d program s m k = record {
      open-lines = k.open-lines;
      open-line = k.open-line;
      steps-taken = k.steps-taken;
      put-out = output-more s.output.lines line ∙ ap (λ o. o ++ (line ++ (newline ∷ []))) k.put-out ∙ sym (line-front out run.pos line h);
      line-count = let c = k.line-count in omega (arith, c);
      room-left = let c = k.room-left in omega (arith, c, long);
      section = ap (sect_after line) k.section ∙ sym (noted-section w line (omega arith) short);
      levels-run = sym (noted-levels w line short d deck running m z');
      shared-values = k.shared-values ∙ sym (noted-shared w line short d m);
      calls-given = k.calls-given;
    }

    pub copied : Copied deck out w line run running out' w' (goes_on run')
    unfolding goes_on puts put_to
    copied = record {
      sound = λ program s known fewer. record {
        sized = z';
        known = known;
        read = s.read;
        written = omega arith;
        few-lines = s.few-lines;
        few-put = omega arith;
      };
      kept = record {
        output-rest = line-behind out run.pos line h;
        work-rest = noted-rest w line short;
        index = noted-index w line short;
        output-long = long;
        work-long = noted-length w line short;
      };
      further = omega arith;
      same-steps = refl;
      moved = λ d program s m k.
          let room : ltb (length line) s.output.room ≡ true = ap (ltb (length line)) k.room-left ∙ lt-ltb _ _ h in
          subst (Moves d deck program out' w' (goes_on run')) (sym (chosen _ _ room)) (goes refl (stands d program s m.modest k));
    }

  -- there is none
  pub not-copied : length out - run.pos ≤ length line → Copied deck out w line run running out w (stops_by (Refused NoRoom 0) run)
  unfolding stops_by puts
  not-copied h = record {
    sound = λ program s known fewer. s;
    kept = record { output-rest = refl; work-rest = refl; index = refl; output-long = refl; work-long = refl };
    further = omega arith;
    same-steps = refl;
    moved = λ d program s m k.
        let room : ltb (length line) s.output.room ≡ false = ap (ltb (length line)) k.room-left ∙ le-ltb _ _ h in
        subst (Moves d deck program out w (stops_by (Refused NoRoom 0) run)) (sym (passed_over _ _ room)) (refused-so d deck program out w run s NoRoom 0 z k);
  }

  -- from what the code's functions say
  module _ (put : Option ℕ) (is : put ≡ put_at (length out) run.pos (length line)) (r : Stepped) (o v : Bytes) (wrote : o ≡ with_line out run.pos line) where
    pub copied-told : (end : ℕ) → put ≡ Some end → v ≡ noted w line → r ≡ goes_on (put_to end running run) → Copied deck out w line run running o v r
    copied-told end e n g =
        let f = put-fits put (length out) run.pos (length line) is end e in
        let g' : r ≡ goes_on (put_to (run.pos + suc (length line)) running run) = g ∙ ap (λ k. goes_on (put_to k running run)) f.1 in
        subst (λ x. Copied deck out w line run running x v r) (sym wrote) (subst (λ x. Copied deck out w line run running (with_line out run.pos line) x r) (sym n)
        (subst (Copied deck out w line run running (with_line out run.pos line) (noted w line)) (sym g') (copied f.0)))

    pub not-copied-told : put ≡ None → v ≡ w → r ≡ stops_by (Refused NoRoom 0) run → Copied deck out w line run running o v r
    not-copied-told e n g =
        let f = put_refused put (length out) run.pos (length line) is e in
        subst (λ x. Copied deck out w line run running x v r) (sym (wrote ∙ sym (line-left out run.pos line f))) (subst (λ x. Copied deck out w line run running out x r) (sym n)
        (subst (Copied deck out w line run running out w) (sym g) (not-copied f)))
