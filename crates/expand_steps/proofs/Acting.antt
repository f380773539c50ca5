-- What the arms that write nothing make of the machine's state. Assumes nothing.
use Prim.Native.Nat.{ℕ, zero, suc, ◌+◌, ◌-◌, ◌<◌}
use mathlib.Core.Path.{◌≡◌, refl, sym, ap, ◌∙◌, subst}
use mathlib.Core.Bool.{Bool, true, false}
use mathlib.Core.List.{List, [], ◌∷◌, ◌++◌}
use native.Mathlib.Omega.{arith}
use lib.Dec.{eqb, ltb}
use lib.ListN.{length, get_or, set}
use lib.Seq.{get_or-set_same, get_or-set_other}
use borrow.Author.Tests.{eqb-true, eqb-false, lt-ltb}
use Rattle.text.specs.Bytes.{Bytes}
use Rattle.rules.specs.Choice.{choose}
use Rattle.rules.specs.Limits.{counter_spent, steps_spent}
use Rattle.rules.specs.Decide.{Act, next, leave, jump, renew, refuse}
use Rattle.rules.specs.Machine.{State, refused, on, body_line, refused_at, refuses, with_levels, advanced, jumped, renewed_to, acts}
use Rattle.rules.specs.Machine.{Level as RunningLevel}
use Rattle.rules.proofs.Choices.{by, chosen, passed_over}
use Rattle.deck.specs.Slots.{Deck, no_macro, machine_of_deck}
use Rattle.expand_levels.specs.Stands.{Texts, level_of}
use Rattle.expand_levels.specs.Stack.{Sized, levels_of, no_level, top_of, popped, topped}
use Rattle.expand_levels.specs.declared.Level.{Level}
use Rattle.expand_levels.specs.declared.Running.{Running}
use Rattle.expand_levels.proofs.Stacks.{count-run, empty-run, top-run, topped-run, popped-sized, topped-sized}
use Rattle.work_frames.specs.Frames.{texts_in, macro_of, running_in, waiting_in}
use Rattle.work_frames.proofs.Elsewhere.{waiting-behind}
use Rattle.expand_steps.specs.Moving.{StandsFor, top_in, others_in, body_of, Listed, stopped, Moves, goes, halts, Sound, Arm}
use Rattle.expand_steps.specs.Runs.{with_running, goes_on, stops_by}
use Rattle.refusals.specs.declared.Fault.{Fault}
use Rattle.refusals.specs.declared.Fault.TheVariants.{CounterSpent}
use Rattle.refusals.specs.Numbers.{number_of}
use Rattle.expand_steps.specs.declared.Halt.TheVariants.{Refused, StepsSpent}
use Rattle.expand_steps.specs.declared.Run.{Run}
use Rattle.expand_steps.specs.declared.Stepped.{Stepped}

-- the levels go on as these
pub levels-go : (d : Deck) (deck program out w : Bytes) (run : Run) (s : State) (q : Running) (ls : List RunningLevel) → StandsFor d deck program out w run s
    → waiting_in w deck d 1 (levels_of q) [] ≡ ls → StandsFor d deck program out w (with_running q run) (with_levels ls s)
unfolding with_running with_levels
levels-go d deck program out w run s q ls h e = record {
  open-lines = h.open-lines;
  open-line = h.open-line;
  steps-taken = h.steps-taken;
  put-out = h.put-out;
  line-count = h.line-count;
  room-left = h.room-left;
  section = h.section;
  levels-run = sym e;
  shared-values = h.shared-values;
  calls-given = h.calls-given;
}

module _ (run : Run) (z : Sized run.running) (some : 0 < run.running.depth) where
  abbrev q : Running
  q = run.running

  under : 1 + length (levels_of (popped q)) ≡ q.depth
  unfolding popped
  under = let e = count-run (popped q) (popped-sized q z some) in omega (arith, e)

  module _ (d : Deck) (deck w : Bytes) where
    behind : (l : Level) → waiting_in w deck d 1 (levels_of (popped q) ++ (l ∷ [])) [] ≡ running_in w deck d q.depth l ∷ others_in d deck w run
    unfolding others_in
    behind l = waiting-behind w deck d 1 (levels_of (popped q)) l [] ∙ ap (λ n. running_in w deck d n l ∷ others_in d deck w run) under

    -- the rules' levels: the one that runs, and those that wait
    pub levels-are : waiting_in w deck d 1 (levels_of q) [] ≡ top_in d deck w run ∷ others_in d deck w run
    unfolding top_in
    levels-are = ap (λ ls. waiting_in w deck d 1 ls []) (top-run q z some) ∙ behind (top_of q)

    pub topped-are : (l : Level) → waiting_in w deck d 1 (levels_of (topped l q)) [] ≡ running_in w deck d q.depth l ∷ others_in d deck w run
    topped-are l = ap (λ ls. waiting_in w deck d 1 ls []) (topped-run q z some l) ∙ behind l

    -- a level of the same macro has the same texts
    pub changed : (l : Level) (f : RunningLevel → RunningLevel) → ((t : Texts) → level_of l t ≡ f (level_of (top_of q) t)) → l.body ≡ (top_of q).body
        → running_in w deck d q.depth l ≡ f (top_in d deck w run)
    unfolding running_in top_in macro_of
    changed l f e same = ap (λ k. level_of l (texts_in w deck q.depth (get_or d.macros k no_macro))) same ∙ e _

  pub top-known : (program out : Bytes) → Sound program out run → (top_of q).body < 32
  unfolding top_of
  top-known program out h = h.known (q.depth - 1)

  pub sound-topped : (program out : Bytes) (l : Level) → Sound program out run → l.body < 32 → Sound program out (with_running (topped l q) run)
  unfolding with_running topped
  sound-topped program out l h small = record {
    sized = topped-sized q z some l;
    known = λ i. by (eqb i (q.depth - 1))
        (λ e. let j : i ≡ q.depth - 1 = eqb-true i (q.depth - 1) e in
        let less : q.depth - 1 < length q.levels = omega arith in
        let is : get_or (set q.levels (q.depth - 1) l) i no_level ≡ l = ap (λ k. get_or (set q.levels (q.depth - 1) l) k no_level) j ∙ get_or-set_same q.levels (q.depth - 1) l no_level less in
        rw is small)
        (λ e. let is : get_or (set q.levels (q.depth - 1) l) i no_level ≡ get_or q.levels i no_level = get_or-set_other q.levels (q.depth - 1) i l no_level (eqb-false i (q.depth - 1) e) in
        rw is (h.known i));
    read = h.read;
    written = h.written;
    few-lines = h.few-lines;
    few-put = h.few-put;
  }

  pub sound-popped : (program out : Bytes) → Sound program out run → Sound program out (with_running (popped q) run)
  unfolding with_running popped
  sound-popped program out h = record {
    sized = popped-sized q z some;
    known = h.known;
    read = h.read;
    written = h.written;
    few-lines = h.few-lines;
    few-put = h.few-put;
  }

  counter-is : (d : Deck) (deck w : Bytes) → (top_in d deck w run).counter ≡ (top_of q).counter
  unfolding top_in running_in level_of
  counter-is d deck w = refl

  line-is : (d : Deck) (deck w : Bytes) → body_line (top_in d deck w run ∷ others_in d deck w run) ≡ suc (top_of q).line
  unfolding body_line top_in running_in level_of
  line-is d deck w = refl

  -- THE ARM of a level that goes on in its macro
  module _ (l : Level) (f : RunningLevel → RunningLevel) (e : (t : Texts) → level_of l t ≡ f (level_of (top_of q) t)) (same : l.body ≡ (top_of q).body) where
    pub going-topped : (act : Act) → ((d : Deck) (t : RunningLevel) (ls : List RunningLevel) (s : State) → t.counter ≡ (top_of q).counter → acts (machine_of_deck d) act t ls s ≡ on (with_levels (f t ∷ ls) s))
        → Arm run act (goes_on (with_running (topped l q) run))
    unfolding goes_on with_running
    going-topped act a = record {
      sound = λ program out h. sound-topped program out l h (rw same (top-known program out h));
      same-steps = refl;
      same-pos = refl;
      moved = λ d deck program out w s h.
          let ls : waiting_in w deck d 1 (levels_of (topped l q)) [] ≡ f (top_in d deck w run) ∷ others_in d deck w run = topped-are d deck w l ∙ ap (λ x. x ∷ others_in d deck w run) (changed d deck w l f e same) in
          subst (Moves d deck program out w (goes_on (with_running (topped l q) run))) (sym (a d (top_in d deck w run) (others_in d deck w run) s (counter-is d deck w)))
          (goes refl (levels-go d deck program out w run s (topped l q) _ h ls));
    }

  pub leaving : Arm run leave (goes_on (with_running (popped q) run))
  unfolding goes_on with_running acts others_in
  leaving = record {
    sound = λ program out h. sound-popped program out h;
    same-steps = refl;
    same-pos = refl;
    moved = λ d deck program out w s h. goes refl (levels-go d deck program out w run s (popped q) _ h refl);
  }

nonzero : (n : ℕ) → (n ≡ 0 → ⊥) → 0 < n
nonzero zero e = absurd (e refl)
nonzero (suc n) e = omega arith

none_runs : (d : Deck) (deck w : Bytes) → body_line (waiting_in w deck d 1 [] []) ≡ 0
unfolding waiting_in body_line
none_runs d deck w = refl

-- the place of a refusal
pub body_is : (d : Deck) (deck program out w : Bytes) (run : Run) (s : State) → Sized run.running → StandsFor d deck program out w run s → body_line s.levels ≡ body_of run.running
unfolding body_line body_of
body_is d deck program out w run s z h =
    ap body_line h.levels-run ∙ by (eqb run.running.depth 0)
    (λ e. ap (λ ls. body_line (waiting_in w deck d 1 ls [])) (empty-run run.running z (eqb-true run.running.depth 0 e)) ∙ none_runs d deck w ∙ sym (chosen 0 (suc (top_of run.running).line) e))
    (λ e. let some : 0 < run.running.depth = omega (arith, nonzero run.running.depth (eqb-false run.running.depth 0 e)) in
    ap body_line (levels-are run z some d deck w) ∙ line-is run z some d deck w ∙ sym (passed_over 0 (suc (top_of run.running).line) e))

pub refused-listed : (d : Deck) (deck program out w : Bytes) (run : Run) (s : State) (f : Fault) (at : ℕ) → Sized run.running → StandsFor d deck program out w run s
    → Listed out (stops_by (Refused f at) run) (refused_at (number_of f) s)
unfolding stops_by refused_at
refused-listed d deck program out w run s f at z h =
    let b = body_is d deck program out w run s z h in
    subst (Listed out (stops_by (Refused f at) run)) (λ j. refused (number_of f) (sym h.open-line j) (sym b j) (sym h.steps-taken j)) (stopped (number_of f) refl)

pub refused-so : (d : Deck) (deck program out w : Bytes) (run : Run) (s : State) (f : Fault) (at : ℕ) → Sized run.running → StandsFor d deck program out w run s
    → Moves d deck program out w (stops_by (Refused f at) run) (refuses (number_of f) s)
unfolding refuses
refused-so d deck program out w run s f at z h = halts (refused-listed d deck program out w run s f at z h)

-- a run whose steps are spent stops with that refusal
pub spent-listed : (d : Deck) (deck program out w : Bytes) (run : Run) (s : State) → Sized run.running → StandsFor d deck program out w run s
    → Listed out (stops_by StepsSpent run) (refused_at steps_spent s)
unfolding stops_by refused_at
spent-listed d deck program out w run s z h =
    let b = body_is d deck program out w run s z h in
    subst (Listed out (stops_by StepsSpent run)) (λ j. refused steps_spent (sym h.open-line j) (sym b j) (sym h.steps-taken j)) (stopped steps_spent refl)

pub refusing : (run : Run) (z : Sized run.running) (f : Fault) (at : ℕ) (act : Act)
    → ((d : Deck) (deck program out w : Bytes) (s : State) → StandsFor d deck program out w run s → acts (machine_of_deck d) act (top_in d deck w run) (others_in d deck w run) s ≡ refuses (number_of f) s)
    → Arm run act (stops_by (Refused f at) run)
unfolding stops_by
refusing run z f at act a = record {
  sound = λ program out h. h;
  same-steps = refl;
  same-pos = refl;
  moved = λ d deck program out w s h. subst (Moves d deck program out w (stops_by (Refused f at) run)) (sym (a d deck program out w s h)) (refused-so d deck program out w run s f at z h);
}

-- ---- each act, from what the code's functions say

module _ (run : Run) (z : Sized run.running) (some : 0 < run.running.depth) (r : Stepped) (q' : Running) (goes-on : r ≡ goes_on (with_running q' run)) where
  pub leaving-told : q' ≡ popped run.running → Arm run leave r
  leaving-told e = subst (Arm run leave) (sym (goes-on ∙ ap (λ x. goes_on (with_running x run)) e)) (leaving run z some)

  module _ (top l : Level) (is : top ≡ top_of run.running) (put : q' ≡ topped l run.running) where
    abbrev no-texts : Texts
    no-texts = record { sect = []; list = []; own = [] }

    told : (act : Act) → Arm run act (goes_on (with_running (topped l run.running) run)) → Arm run act r
    told act a = subst (Arm run act) (sym (goes-on ∙ ap (λ x. goes_on (with_running x run)) put)) a

    pub passing : (top_of run.running).line < 65535 → ((t : Texts) → level_of l t ≡ choose (ltb top.line 65535) (advanced (level_of top t)) (level_of top t)) → Arm run next r
    unfolding acts level_of advanced
    passing h e =
        let less : top.line < 65535 = rw is h in
        let f : (t : Texts) → level_of l t ≡ advanced (level_of (top_of run.running) t) = λ t. e t ∙ chosen _ _ (lt-ltb top.line 65535 less) ∙ ap (λ k. advanced (level_of k t)) is in
        told next (going-topped run z some l advanced f (ap (λ (x : RunningLevel). x.macro) (f no-texts)) next (λ d t ls s c. refl))

    pub renewing : (n : ℕ) → (top_of run.running).line < 65535 → ((t : Texts) → level_of l t ≡ choose (ltb top.line 65535) (renewed_to n (level_of top t)) (level_of top t)) → Arm run (renew n) r
    unfolding acts level_of renewed_to
    renewing n h e =
        let less : top.line < 65535 = rw is h in
        let f : (t : Texts) → level_of l t ≡ renewed_to n (level_of (top_of run.running) t) = λ t. e t ∙ chosen _ _ (lt-ltb top.line 65535 less) ∙ ap (λ k. renewed_to n (level_of k t)) is in
        told (renew n) (going-topped run z some l (renewed_to n) f (ap (λ (x : RunningLevel). x.macro) (f no-texts)) (renew n) (λ d t ls s c. refl))

    pub jumping : (to : ℕ) (b : Bool) → b ≡ eqb top.counter 0 → b ≡ false → ((t : Texts) → level_of l t ≡ jumped to (level_of top t)) → Arm run (jump to) r
    unfolding acts level_of jumped
    jumping to b tests h e =
        let f : (t : Texts) → level_of l t ≡ jumped to (level_of (top_of run.running) t) = λ t. e t ∙ ap (λ k. jumped to (level_of k t)) is in
        told (jump to) (going-topped run z some l (jumped to) f (ap (λ (x : RunningLevel). x.macro) (f no-texts)) (jump to)
        (λ d t ls s c. passed_over (refuses counter_spent s) (on (with_levels (jumped to t ∷ ls) s)) (ap (λ n. eqb n 0) (c ∙ ap (λ (k : Level). k.counter) (sym is)) ∙ sym tests ∙ h)))

module _ (run : Run) (z : Sized run.running) (r : Stepped) where
  pub spent : (to at : ℕ) (top : Level) (b : Bool) → top ≡ top_of run.running → b ≡ eqb top.counter 0 → b ≡ true → r ≡ stops_by (Refused CounterSpent at) run → Arm run (jump to) r
  unfolding acts top_in running_in level_of
  spent to at top b is tests h e =
      let zero_left : eqb (top_of run.running).counter 0 ≡ true = ap (λ (k : Level). eqb k.counter 0) (sym is) ∙ sym tests ∙ h in
      subst (Arm run (jump to)) (sym e) (refusing run z CounterSpent at (jump to) (λ d deck program out w s k. chosen _ _ zero_left))

  pub refused-line : (f : Fault) (at left : ℕ) → r ≡ stops_by (Refused f at) run → Arm run (refuse (number_of f) left) r
  unfolding acts
  refused-line f at left is = subst (Arm run (refuse (number_of f) left)) (sym is) (refusing run z f at (refuse (number_of f) left) (λ d deck program out w s k. refl))

  pub spent-line : (left : ℕ) → r ≡ stops_by StepsSpent run → Arm run (refuse steps_spent left) r
  unfolding acts refuses stops_by
  spent-line left is =
      subst (Arm run (refuse steps_spent left)) (sym is) (record {
        sound = λ program out h. h;
        same-steps = refl;
        same-pos = refl;
        moved = λ d deck program out w s h. halts (spent-listed d deck program out w run s z h);
      })
