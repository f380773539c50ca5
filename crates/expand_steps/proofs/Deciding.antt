-- A body line by its kind, and a step by the levels. Assumes nothing.
use Prim.Native.Nat.{ℕ, ◌-◌, ◌≤◌, ◌<◌}
use mathlib.Core.Path.{◌≡◌, refl, sym, ap, ◌∙◌, subst}
use mathlib.Core.Bool.{true}
use mathlib.Core.List.{List, [], ◌∷◌}
use native.Mathlib.Omega.{arith}
use lib.Dec.{ltb}
use lib.ListN.{length, get_or, take}
use borrow.Author.Tests.{ltb-true, lt-ltb}
use Rattle.std.specs.Prelude.{Option, Some, None}
use Rattle.text.specs.Bytes.{Bytes}
use Rattle.rules.specs.Choice.{choose}
use Rattle.rules.specs.Statement.{map_does, map_line, doing}
use Rattle.rules.specs.Evaluate.{Value, Cell}
use Rattle.rules.specs.Decide.{Act, next, leave, jump, use', decide, decide_by}
use Rattle.rules.specs.Machine.{State, done, stop, uses, advanced, acts, reaching, stepped, open_move, act_at, move}
use Rattle.rules.specs.Machine.{Level as RunningLevel}
use Rattle.rules.proofs.Choices.{chosen, passed_over}
use Rattle.deck.specs.Slots.{Slot, Deck, DeckMacro, no_macro, no_line, held, deck_header, machine_of_deck}
use Rattle.kinds.specs.declared.Does.{Does}
use Rattle.kinds.specs.declared.Does.TheVariants.{Passes, Ends, Exits, Text, Branches}
use Rattle.deck_reading.specs.Reading.{two_at, run_at, line_at, fields_line, does_in, line_in}
use Rattle.deck_reading.specs.declared.Fields.{Fields}
use Rattle.expand_levels.specs.Stands.{Texts, level_of}
use Rattle.expand_levels.specs.Stack.{Sized, no_level, top_of, topped}
use Rattle.expand_levels.specs.declared.Level.{Level}
use Rattle.expand_levels.specs.declared.Running.{Running}
use Rattle.expand_levels.proofs.Stacks.{empty-run}
use Rattle.work_frames.specs.Frames.{index_in, running_in, waiting_in}
use Rattle.work_frames.specs.Indexed.{found_in, Indexed}
use Rattle.work_frames.proofs.Places.{found-told, behind-told}
use Rattle.lines.proofs.Found.{no-line}
use Rattle.expand_steps.specs.Moving.{StandsFor, top_in, others_in, finished, Moves, halts, unready, Sound, Kept, Arm}
use Rattle.expand_steps.specs.Writing.{Ready, levels_in, Used}
use Rattle.expand_steps.specs.Steps.{Steps, ActsBy, DoesLine, Bodily}
use Rattle.expand_steps.specs.Runs.{ticked, with_running, stops_by}
use Rattle.expand_steps.specs.declared.Halt.TheVariants.{Done, Unready}
use Rattle.expand_steps.specs.declared.Run.{Run}
use Rattle.expand_steps.specs.declared.Stepped.{Stepped}
use Rattle.expand_steps.proofs.Acting.{levels-are, topped-are, changed, sound-topped, top-known}
use Rattle.expand_steps.proofs.Readied.{good-is, good-ready}

-- ---- what a line does, by its first byte

module _ (s : Bytes) (l : Fields) (f : Slot → Cell) where
  abbrev act_of : Act
  act_of = decide (map_line f (λ t. t) (line_in s l))

  by_kind : (k : Does) → l.does ≡ k
      → act_of ≡ decide (map_line f (λ t. t) (line_in s (record { does = k; first = l.first; name = l.name; operation = l.operation; operand = l.operand })))
  by_kind k e = ap (λ m. decide (map_line f (λ t. t) (line_in s (record { does = m; first = l.first; name = l.name; operation = l.operation; operand = l.operand })))) e

  pub act-passes : l.does ≡ Passes → act_of ≡ next
  unfolding line_in does_in fields_line choose decide decide_by map_line map_does doing
  act-passes e = by_kind Passes e

  pub act-ends : l.does ≡ Ends → act_of ≡ leave
  unfolding line_in does_in fields_line choose decide decide_by map_line map_does doing
  act-ends e = by_kind Ends e

  pub act-exits : l.does ≡ Exits → act_of ≡ leave
  unfolding line_in does_in fields_line choose decide decide_by map_line map_does doing
  act-exits e = by_kind Exits e

  pub act-text : l.does ≡ Text → act_of ≡ use' (run_at s l.first)
  unfolding line_in does_in fields_line choose decide decide_by map_line map_does doing
  act-text e = by_kind Text e

  pub act-branches : l.does ≡ Branches → act_of ≡ jump (two_at s l.first)
  unfolding line_in does_in fields_line choose decide decide_by map_line map_does doing
  act-branches e = by_kind Branches e

pub arm-as : (run : Run) (r : Stepped) {a b : Act} → a ≡ b → Arm run b r → Arm run a r
arm-as run r e h = subst (λ x. Arm run x r) (sym e) h

-- no arm yet
still : (run : Run) (act : Act) → Arm run act (stops_by Unready run)
unfolding stops_by
still run act = record {
  sound = λ program out h. h;
  same-steps = refl;
  same-pos = refl;
  moved = λ d deck program out w s h. unready refl;
}

pub unready-arm : (run : Run) (r : Stepped) (act : Act) → r ≡ stops_by Unready run → Arm run act r
unready-arm run r act e = subst (Arm run act) (sym e) (still run act)

-- an arm that writes nothing
pub arm-writes : (deck out w : Bytes) (run : Run) (r : Stepped) {act : Act} → Arm run act r → (acting : Deck → State → Act) → ((d : Deck) (s : State) → Ready d deck (index_in w) → acting d s ≡ act) → ActsBy deck out w run out w r acting
arm-writes deck out w run r {act} arm acting is = record {
  sound = λ program h known fewer. arm.sound program out h;
  kept = record { output-rest = refl; work-rest = refl; index = refl; output-long = refl; work-long = refl };
  further = let e = arm.same-pos in omega (arith, e);
  same-steps = arm.same-steps;
  moved = λ d program s ready h.
      subst (λ x. Moves d deck program out w r (acts (machine_of_deck d) x (top_in d deck w run) (others_in d deck w run) s)) (sym (is d s ready)) (arm.moved d deck program out w s h);
}

pub arms-write : (deck : Bytes) (at : ℕ) (l : Fields) (out w : Bytes) (run : Run) (r : Stepped) → line_in deck l ≡ line_at deck at
    → ((f : Slot → Cell) → Arm run (decide (map_line f (λ t. t) (line_in deck l))) r) → DoesLine deck at out w run out w r
arms-write deck at l out w run r is arms = λ f. let one = arms no_cells in record {
  sound = λ program h known fewer. one.sound program out h;
  kept = record { output-rest = refl; work-rest = refl; index = refl; output-long = refl; work-long = refl };
  further = let e = one.same-pos in omega (arith, e);
  same-steps = one.same-steps;
  moved = λ d program s ready h. (arm-as run r (ap (λ x. decide (map_line (f d s) (λ t. t) x)) (sym is)) (arms (f d s))).moved d deck program out w s h;
}
  where
    no_cells : Slot → Cell
    no_cells = held [] no_macro (top_in (record { globals = []; macros = [] }) deck w run) []

-- a text line of a body
module _ (deck out w out' w' : Bytes) (run : Run) (z : Sized run.running) (there : 0 < run.running.depth) (line : Bytes) (r : Stepped) (q' : Running) (top l : Level)
    (is : top ≡ top_of run.running) (put : q' ≡ topped l run.running) (small : (top_of run.running).line < 65535)
    (e : (t : Texts) → level_of l t ≡ choose (ltb top.line 65535) (advanced (level_of top t)) (level_of top t))
  where
    goes_to : (t : Texts) → level_of l t ≡ advanced (level_of (top_of run.running) t)
    goes_to t =
        let less : top.line < 65535 = rw is small in
        e t ∙ chosen _ _ (lt-ltb top.line 65535 less) ∙ ap (λ k. advanced (level_of k t)) is

    same_body : l.body ≡ (top_of run.running).body
    unfolding level_of advanced
    same_body = ap (λ (x : RunningLevel). x.macro) (goes_to (record { sect = []; list = []; own = [] }))

    pub text-writes : Used deck out w line run q' out' w' r → ActsBy deck out w run out' w' r (λ d s. use' line)
    unfolding acts with_running
    text-writes u = record {
      sound = λ program h known fewer. u.sound program h (λ i. subst (λ (x : Running). (get_or x.levels i no_level).body < 32) (sym put) ((sound-topped run z there program out l h (rw same_body (top-known run z there program out h))).known i)) fewer;
      kept = u.kept;
      further = u.further;
      same-steps = u.same-steps;
      moved = λ d program s ready h.
          let ls : levels_in d deck w q' ≡ advanced (top_in d deck w run) ∷ others_in d deck w run =
          ap (λ q. levels_in d deck w q) put ∙ topped-are run z there d deck w l ∙ ap (λ x. x ∷ others_in d deck w run) (changed run z there d deck w l advanced goes_to same_body) in
          subst (λ x. Moves d deck program out' w' r (uses (machine_of_deck d) line x s)) ls (u.moved d program s ready h);
    }

pub text-told : (deck : Bytes) (at : ℕ) (out w out' w' line : Bytes) (run : Run) (r : Stepped) → line ≡ run_at deck at → ActsBy deck out w run out' w' r (λ d s. use' line)
    → ActsBy deck out w run out' w' r (λ d s. use' (run_at deck at))
text-told deck at out w out' w' line run r e a = subst (λ x. ActsBy deck out w run out' w' r (λ d s. use' x)) e a

-- by its kind
pub text-line : (deck : Bytes) (at : ℕ) (l : Fields) (out w out' w' : Bytes) (run : Run) (r : Stepped) → line_in deck l ≡ line_at deck at → l.does ≡ Text
    → ActsBy deck out w run out' w' r (λ d s. use' (run_at deck l.first)) → DoesLine deck at out w run out' w' r
text-line deck at l out w out' w' run r is e a = λ f. record {
  sound = a.sound;
  kept = a.kept;
  further = a.further;
  same-steps = a.same-steps;
  moved = λ d program s ready h.
      subst (λ x. Moves d deck program out' w' r (acts (machine_of_deck d) x (top_in d deck w run) (others_in d deck w run) s))
      (sym (ap (λ x. decide (map_line (f d s) (λ t. t) x)) (sym is) ∙ act-text deck l (f d s) e)) (a.moved d program s ready h);
}

-- ---- the line that a level has come to

module _ (deck w : Bytes) (run : Run) (r : Stepped) (found : Option ℕ) (is : found ≡ found_in (index_in w) (top_of run.running).body (top_of run.running).line) (small : (top_of run.running).body < 32) where
  abbrev top : Level
  top = top_of run.running

  module _ (d : Deck) (x : Indexed d deck (index_in w)) (vs : List Value) where
    abbrev m : DeckMacro
    m = get_or d.macros top.body no_macro

    abbrev act : Act
    act = act_at (machine_of_deck d) (top_in d deck w run) vs

    act-is : act ≡ choose (ltb top.line (length m.lines)) (decide (map_line (held d.globals m (top_in d deck w run) vs) (λ t. t) (get_or m.lines top.line no_line))) leave
    unfolding act_at machine_of_deck deck_header top_in running_in level_of
    act-is = refl

    act-there : (at : ℕ) → found ≡ Some at → act ≡ decide (map_line (held d.globals m (top_in d deck w run) vs) (λ t. t) (line_at deck at))
    act-there at e =
        let t = found-told (index_in w) top.body top.line found is at e in
        let less : ltb top.line (length m.lines) ≡ true = ap (ltb top.line) (sym (x.counts top.body small)) ∙ t.0 in
        let line = x.lines top.body top.line small (ltb-true top.line (length m.lines) less) in
        act-is ∙ chosen _ _ less ∙ ap (λ l. decide (map_line (held d.globals m (top_in d deck w run) vs) (λ t. t) l)) (sym line ∙ ap (line_at deck) (sym t.1))

    act-behind : found ≡ None → act ≡ leave
    act-behind e = act-is ∙ passed_over _ _ (ap (ltb top.line) (sym (x.counts top.body small)) ∙ behind-told (index_in w) top.body top.line found is e)

  module _ (out out' w' : Bytes) where
    pub bodily-there : (at : ℕ) → found ≡ Some at → DoesLine deck at out w run out' w' r → Bodily deck out w run out' w' r
    bodily-there at e b =
        let a = b (λ d s. held d.globals (get_or d.macros top.body no_macro) (top_in d deck w run) s.shared) in
        record {
          sound = a.sound;
          kept = a.kept;
          further = a.further;
          same-steps = a.same-steps;
          moved = λ d program s ready h.
              subst (λ x. Moves d deck program out' w' r (acts (machine_of_deck d) x (top_in d deck w run) (others_in d deck w run) s)) (sym (act-there d ready.indexed s.shared at e)) (a.moved d program s ready h);
        }

  pub bodily-behind : (out : Bytes) → found ≡ None → Arm run leave r → Bodily deck out w run out w r
  bodily-behind out e arm = arm-writes deck out w run r arm (λ d s. act_at (machine_of_deck d) (top_in d deck w run) s.shared) (λ d s ready. act-behind d ready.indexed s.shared e)

-- ---- a step

pub ticked-stands : (d : Deck) (deck program out w : Bytes) (run : Run) (s : State) → StandsFor d deck program out w run s → StandsFor d deck program out w (ticked run) (stepped s)
unfolding ticked stepped reaching
ticked-stands d deck program out w run s h = record {
  open-lines = h.open-lines;
  open-line = h.open-line;
  steps-taken = let c = h.steps-taken in omega (arith, c);
  put-out = h.put-out;
  line-count = h.line-count;
  room-left = h.room-left;
  section = h.section;
  levels-run = h.levels-run;
  shared-values = h.shared-values;
  calls-given = h.calls-given;
}

pub ticked-sound : (program out : Bytes) (run : Run) → Sound program out run → Sound program out (ticked run)
unfolding ticked
ticked-sound program out run h = record {
  sized = h.sized;
  known = h.known;
  read = h.read;
  written = h.written;
  few-lines = let c = h.few-lines in omega (arith, c);
  few-put = let c = h.few-put in omega (arith, c);
}

asked : (program out : Bytes) (run : Run) → Sound program out run → run.steps < 4611686018427387904 → 0 < run.running.depth
    → ((ticked run).pos ≤ length out) × ((ticked run).lines < 9223372036854775808) × (0 < (ticked run).running.depth) × Sized (ticked run).running × ((top_of (ticked run).running).body < 32)
unfolding ticked top_of
asked program out run h few there = (h.written, (let c = h.few-put in omega (arith, c)), there, h.sized, h.known (run.running.depth - 1))

-- what a body line asks of a state in which the step is counted
pub body-asks : (program out : Bytes) (run : Run) → Sound program out run → run.steps < 4611686018427387904 → (t : Run) → t ≡ ticked run → 0 < run.running.depth
    → (t.pos ≤ length out) × (t.lines < 9223372036854775808) × (0 < t.running.depth) × Sized t.running × ((top_of t.running).body < 32)
body-asks program out run h few t is there =
    subst (λ (x : Run). (x.pos ≤ length out) × (x.lines < 9223372036854775808) × (0 < x.running.depth) × Sized x.running × ((top_of x.running).body < 32)) (sym is) (asked program out run h few there)

pub none_written : (out w : Bytes) (pos : ℕ) → Kept out w out w pos
none_written out w pos = record { output-rest = refl; work-rest = refl; index = refl; output-long = refl; work-long = refl }

module _ (deck program out w : Bytes) (run : Run) (h : Sound program out run) where
  body-steps : (out' w' : Bytes) (r : Stepped) → 0 < run.running.depth → Bodily deck out w (ticked run) out' w' r → Steps deck program out w run out' w' r
  unfolding move ticked top_in others_in stepped reaching
  body-steps out' w' r there b = record {
    sound = b.sound program (ticked-sound program out run h) h.known (let c = h.few-put in omega (arith, c));
    kept = b.kept;
    further = b.further;
    ticks = let e = b.same-steps in omega (arith, e);
    moved = λ d s good x k.
        let ls : s.levels ≡ top_in d deck w run ∷ others_in d deck w run = k.levels-run ∙ levels-are run h.sized there d deck w in
        subst (Moves d deck program out' w' r) (ap (λ l. move (machine_of_deck d) l s) (sym ls))
        (b.moved d program (stepped s) (good-ready d (good-is deck d good) deck _ x) (ticked-stands d deck program out w run s k));
  }

  done-steps : run.running.depth ≡ 0 → length program ≤ run.at → Steps deck program out w run out w (stops_by Done run)
  unfolding stops_by move open_move waiting_in
  done-steps none behind = record {
    sound = h;
    kept = none_written out w run.pos;
    further = omega arith;
    ticks = omega arith;
    moved = λ d s good x k.
        let ls : s.levels ≡ [] = k.levels-run ∙ ap (λ l. waiting_in w deck d 1 l []) (empty-run run.running h.sized none) in
        let os : s.reached.lines ≡ [] = k.open-lines ∙ no-line program run.at behind in
        let is : move (machine_of_deck d) s.levels s ≡ stop (done run.lines run.steps (take run.pos out)) =
        ap (λ l. move (machine_of_deck d) l s) ls ∙ ap (λ l. open_move (machine_of_deck d) l s) os ∙ (λ j. stop (done (k.line-count j) (k.steps-taken j) (k.put-out j))) in
        subst (Moves d deck program out w (stops_by Done run)) (sym is) (halts (finished refl));
  }

module _ (deck program out w : Bytes) (run : Run) (h : Sound program out run) (r : Stepped) where
  -- a line of the macro that runs
  pub steps-body : (out' w' : Bytes) (there : 0 < run.running.depth) (t : Run) → t ≡ ticked run → Bodily deck out w t out' w' r → Steps deck program out w run out' w' r
  steps-body out' w' there t is b = body-steps deck program out w run h out' w' r there (subst (λ x. Bodily deck out w x out' w' r) is b)

  -- no open line is left
  pub steps-done : run.running.depth ≡ 0 → length program ≤ run.at → r ≡ stops_by Done run → Steps deck program out w run out w r
  steps-done none behind e = subst (Steps deck program out w run out w) (sym e) (done-steps deck program out w run h none behind)
