-- Every refusal of an expansion is one of 01 for its place: before the first line, in open code, or in a macro.
use Prim.Native.Nat.{ℕ, zero, suc, ◌<◌}
use mathlib.Core.Path.{◌≡◌, refl, ap, sym, subst, ◌∙◌}
use mathlib.Core.Bool.{Bool, true, false, true≢false, ◌||◌}
use mathlib.Core.List.{List, [], ◌∷◌}
use mathlib.Core.Option.{Option, none, some}
use native.Mathlib.Omega.{arith}
use lib.Dec.{eqb, leb, ltb}
use lib.IntN.{ℤ, pos, negsuc}
use lib.ListN.{length}
use borrow.Author.Tests.{ltb-true}
use Rattle.text.specs.Bytes.{Bytes, member}
use Rattle.text.specs.Words.{place_among}
use Rattle.rules.specs.Choice.{choose}
use Rattle.rules.specs.Limits.{line_limit, counter_limit, call_limit, level_limit, open_limit, workspace_size, bad_byte, bad_call, too_long, bad_value, counter_spent, level_six, calls_spent, no_room, language_word}
use Rattle.rules.specs.Lexemes.{Lex, byte, mark, ref, lone}
use Rattle.rules.specs.Fields.{lines_of, statement_fields, is_ill_written, is_empty}
use Rattle.rules.specs.Statement.{Set, set_a, set_b, set_c, Line, Does, passes, exits, text, models, sets, branches_if, branches, counts}
use Rattle.rules.specs.Grammar.{Got, got, refused}
use Rattle.rules.specs.Evaluate.{Value, Cell}
use Rattle.rules.specs.Calls.{Operands}
use Rattle.rules.specs.Decide.{Act, next, leave, jump, renew, keep, use', state, refuse, when_got, renewed, unless, value_of, assigned, modelled, decide_by, decide}
use Rattle.rules.specs.Machine.{Level, Machine, Call, knows_keywords, State, Answer, Move, on, stop, body_line, refused_at, refuses, with_levels, puts, entered, enters, calls, is_title, is_language_word, uses, states, advanced, jumped, renewed_to, keeping, with_shared, acts, reaching, stepped, opened, open_move, act_at, move, begun, expands, at_once, expansion}
use Rattle.rules.specs.Places.{numbers_at, is_of01}
use Rattle.rules.proofs.Choices.{either}
use Rattle.rules.proofs.Formed.{is_fine}
use Rattle.rules.proofs.Ends.{Stops, now, later, stops-runs, Steady, Closed, ends}

pub record Sound (m : Machine) : Type 0 where
  -- a line of a macro is never refused as ill-formed or too deep
  pub fine : (k i : ℕ) (l : Level) (vs : List Value) → k < length m.titles → i < (m.header k).lines → is_fine (decide (m.line k i l vs)) ≡ true
  -- a line that is used as it stands is well written, and no language word is its operation
  pub texts : (k i : ℕ) (l : Level) (vs : List Value) (s : Bytes) → k < length m.titles → i < (m.header k).lines
      → (m.line k i l vs).does ≡ text s → (is_ill_written s ≡ false) × (is_language_word (statement_fields s).operation ≡ false)

-- ---- which line is used as it stands

-- only a text, and as that text
abbrev UsedAs : Does ℕ → Act → Type 0
UsedAs d next = Unit {0}
UsedAs d leave = Unit {0}
UsedAs d (jump t) = Unit {0}
UsedAs d (renew n) = Unit {0}
UsedAs d (keep st) = Unit {0}
UsedAs d (use' s) = d ≡ text s
UsedAs d (state n o a os) = Unit {0}
UsedAs d (refuse e left) = Unit {0}

got-used : {A : Type 0} (d : Does ℕ) (g : Got A Cell) (k : A → Act) → ((a : A) → UsedAs d (k a)) → UsedAs d (when_got g k)
unfolding when_got
got-used d (got v x) k h = h v
got-used d (refused e left) k h = tt

unless-used : (d : Does ℕ) (over : Bool) (left : ℕ) (a : Act) → UsedAs d a → UsedAs d (unless over left a)
unfolding unless
unless-used d over left a h = either (UsedAs d) over (λ e. tt) (λ e. h)

renewed-used : (d : Does ℕ) (left : ℕ) (z : ℤ) → UsedAs d (renewed left z)
unfolding renewed
renewed-used d left (pos n) = either (UsedAs d) (leb n counter_limit) (λ e. tt) (λ e. tt)
renewed-used d left (negsuc n) = tt

value-used : (d : Does ℕ) (k : Set) (x : List (Lex Cell)) (f : Value → Act) → ((v : Value) → UsedAs d (f v)) → UsedAs d (value_of k x f)
unfolding value_of
value-used d set_a x f h = got-used d _ _ λ n. h _
value-used d set_b x f h = got-used d _ _ λ b. unless-used d b.over _ _ (h _)
value-used d set_c x f h = got-used d _ _ λ s. unless-used d s.over _ _ (h _)

assigned-used : (d : Does ℕ) (n : List (Lex Cell)) (k : Set) (x : List (Lex Cell)) → UsedAs d (assigned n k x)
unfolding assigned
assigned-used d [] k x = tt
assigned-used d (byte c ∷ n) k x = tt
assigned-used d (mark ∷ n) k x = tt
assigned-used d (ref r ∷ n) k x = value-used d k x _ λ v. tt
assigned-used d (lone ∷ n) k x = tt

used-by : (l : Line Cell ℕ) (d : Does ℕ) → UsedAs d (decide_by l d)
unfolding decide_by modelled
used-by l passes = tt
used-by l Does.ends = tt
used-by l exits = tt
used-by l (text s) = refl
used-by l models = got-used models _ _ λ n. got-used models _ _ λ o. got-used models _ _ λ a. tt
used-by l (sets k) = assigned-used (sets k) l.name k l.operand
used-by l (branches_if t) =
    got-used (branches_if t) _ _ λ b. unless-used (branches_if t) b.over _ _ (either (UsedAs (branches_if t)) b.holds (λ e. tt) (λ e. tt))
used-by l (branches t) = tt
used-by l counts = got-used counts _ _ (renewed-used counts (length l.operand))

used : (l : Line Cell ℕ) → UsedAs l.does (decide l)
unfolding decide
used l = used-by l l.does

-- ---- which numbers a state can be refused with

-- refusal `e` of this state is one of 01 for its place
abbrev Gives : ℕ → State → Type 0
Gives e s = is_of01 (refused_at e s) ≡ true

-- in open code, an open line is read and no level runs
open_gives : (e : ℕ) (lines : List Bytes) (s : State) → s.levels ≡ [] → member e (numbers_at 1 0) ≡ true → Gives e (opened lines s)
unfolding is_of01 refused_at opened reaching body_line numbers_at
open_gives e lines s q b = ap (λ ls. member e (numbers_at (suc s.reached.line) (body_line ls))) q ∙ b

body-numbers : (i j : ℕ) → 0 < i → numbers_at i (suc j) ≡ numbers_at 1 1
unfolding numbers_at
body-numbers zero j h = absurd (omega arith)
body-numbers (suc i) j h = refl

-- in a macro, a level runs
body-gives : (e : ℕ) (l : Level) (ls : List Level) (s : State) → s.levels ≡ l ∷ ls → 0 < s.reached.line → member e (numbers_at 1 1) ≡ true → Gives e s
unfolding is_of01 refused_at body_line
body-gives e l ls s q h b =
    ap (λ x. member e (numbers_at s.reached.line (body_line x))) q ∙ ap (member e) (body-numbers s.reached.line l.line h) ∙ b

-- the refusals of a call or of a line to put out, in open code and in a macro alike; that of the sixth level only if the levels `up` are so many
record Common (up : List Level) (s : State) : Type 0 where
  word : Gives language_word s
  call : Gives bad_call s
  six : ltb (length up) level_limit ≡ false → Gives level_six s
  spent : Gives calls_spent s
  full : Gives no_room s

-- in open code there are none
open-common : (lines : List Bytes) (s : State) → s.levels ≡ [] → Common [] (opened lines s)
unfolding numbers_at
open-common lines s q = record {
  word = open_gives language_word lines s q refl;
  call = open_gives bad_call lines s q refl;
  six = λ e. absurd (true≢false e);
  spent = open_gives calls_spent lines s q refl;
  full = open_gives no_room lines s q refl;
}

body-common : (up : List Level) (l : Level) (ls : List Level) (s : State) → s.levels ≡ l ∷ ls → 0 < s.reached.line → Common up s
unfolding numbers_at
body-common up l ls s q h = record {
  word = body-gives language_word l ls s q h refl;
  call = body-gives bad_call l ls s q h refl;
  six = λ e. body-gives level_six l ls s q h refl;
  spent = body-gives calls_spent l ls s q h refl;
  full = body-gives no_room l ls s q h refl;
}

-- the refusals of a line that is fine
fine-refusal : (e left : ℕ) → is_fine (refuse e left) ≡ true → member e (numbers_at 1 1) ≡ true
unfolding is_fine numbers_at
fine-refusal e left h = go (eqb e bad_value) (eqb e too_long) _ h
  where
    go : (a b c : Bool) → (a || b) ≡ true → (a || (b || c)) ≡ true
    go true b c h = refl
    go false true c h = refl
    go false false c h = absurd (true≢false (sym h))

-- ---- each move keeps to them

module _ (m : Machine) where
  -- every level runs a macro of the machine, and an open line is read before
  abbrev Within : ℕ → List Level → Type 0
  Within n [] = Unit {0}
  Within n (l ∷ ls) = ((0 < n) × (l.macro < length m.titles)) × Within n ls

  -- a move goes on so, or is the last and answers by 01
  abbrev Right : Move → Type 0
  Right (on s) = Within s.reached.line s.levels
  Right (stop a) = is_of01 a ≡ true

  puts-right : (line : Bytes) (ls : List Level) (s : State) → Common ls s → Within s.reached.line ls → Right (puts line ls s)
  unfolding puts refuses
  puts-right line ls s c g = either Right (ltb (length line) s.output.room) (λ e. g) (λ e. c.full)

  enters-right : (k : ℕ) (call : Call) (ls : List Level) (s : State) → Common ls s → 0 < s.reached.line → k < length m.titles
      → Within s.reached.line ls → Right (enters m k call ls s)
  unfolding enters refuses entered
  enters-right k call ls s c h kn g =
      either Right (knows_keywords (m.header k) call)
      (λ e. either Right (ltb (length ls) level_limit)
      (λ e. either Right (ltb s.calls call_limit) (λ e. ((h, kn), g)) (λ e. c.spent))
      c.six)
      (λ e. c.call)

  calls-right : (k : ℕ) (name : Bytes) (os : Option (Operands Bytes)) (ls : List Level) (s : State) → Common ls s → 0 < s.reached.line
      → k < length m.titles → Within s.reached.line ls → Right (calls m k name os ls s)
  unfolding calls refuses
  calls-right k name none ls s c h kn g = c.call
  calls-right k name (some os) ls s c h kn g = enters-right k _ ls s c h kn g

  title-known : (o : Bytes) → is_title m o ≡ true → place_among m.titles o < length m.titles
  unfolding is_title
  title-known o e = ltb-true _ _ e

  uses-right : (line : Bytes) (ls : List Level) (s : State) → Common ls s → (is_ill_written line ≡ true → Gives bad_byte s)
      → 0 < s.reached.line → Within s.reached.line ls → Right (uses m line ls s)
  unfolding uses refuses
  uses-right line ls s c ill h g =
      let o = (statement_fields line).operation in
      either Right (is_ill_written line) ill
      (λ e. either Right (is_language_word o) (λ e. c.word)
      (λ e. either Right (is_title m o) (λ t. calls-right _ _ _ ls s c h (title-known o t) g) (λ t. puts-right line ls s c g)))

  states-right : (name operation operand : Bytes) (os : Option (Operands Bytes)) (ls : List Level) (s : State) → Common ls s → Gives too_long s
      → 0 < s.reached.line → Within s.reached.line ls → Right (states m name operation operand os ls s)
  unfolding states refuses
  states-right name operation operand os ls s c long h g =
      either Right (is_empty operation || ltb line_limit (length (choose (is_title m operation) _ _))) (λ e. long)
      (λ e. either Right (is_language_word operation) (λ e. c.word)
      (λ e. either Right (is_title m operation)
      (λ t. calls-right _ name os ls s c h (title-known operation t) g) (λ t. puts-right _ ls s c g)))

  open-right : (lines : List Bytes) (s : State) → s.levels ≡ [] → Right (open_move m lines s)
  unfolding open_move opened reaching is_of01 numbers_at
  open-right [] s q = refl
  open-right (l ∷ lines) s q =
      uses-right l [] (opened lines s) (open-common lines s q) (λ e. open_gives bad_byte lines s q refl) (omega arith) tt

  acts-right : Sound m → (a : Act) (l : Level) (vs : List Value) (ls : List Level) (s : State) → s.levels ≡ l ∷ ls
      → l.line < (m.header l.macro).lines → is_fine a ≡ true → UsedAs (m.line l.macro l.line l vs).does a
      → Within s.reached.line (l ∷ ls) → Right (acts m a l ls s)
  unfolding acts with_levels advanced jumped renewed_to keeping with_shared refuses numbers_at
  acts-right so next l vs ls s q b f u g = g
  acts-right so leave l vs ls s q b f u g = g.1
  acts-right so (jump t) l vs ls s q b f u g = either Right (eqb l.counter 0) (λ e. body-gives counter_spent l ls s q g.0.0 refl) (λ e. g)
  acts-right so (renew n) l vs ls s q b f u g = g
  acts-right so (keep st) l vs ls s q b f u g = g
  acts-right so (use' line) l vs ls s q b f u g =
      let h = g.0.0 in
      uses-right line (advanced l ∷ ls) s (body-common _ l ls s q h)
      (λ e. absurd (true≢false (sym e ∙ (so.texts l.macro l.line l vs line g.0.1 b u).0))) h g
  acts-right so (state n o a os) l vs ls s q b f u g =
      let h = g.0.0 in
      states-right n o a os (advanced l ∷ ls) s (body-common _ l ls s q h) (body-gives too_long l ls s q h refl) h g
  acts-right so (refuse e left) l vs ls s q b f u g = body-gives e l ls s q g.0.0 (fine-refusal e left f)

  -- behind its last line a level is left
  line-right : Sound m → (l : Level) (ls : List Level) (s : State) → s.levels ≡ l ∷ ls → Within s.reached.line (l ∷ ls)
      → Right (acts m (act_at m l s.shared) l ls (stepped s))
  unfolding act_at acts with_levels stepped reaching
  line-right so l ls s q g =
      let k = l.macro in
      let i = l.line in
      either (λ a. Right (acts m a l ls (stepped s))) (ltb i (m.header k).lines)
      (λ e. let b = ltb-true i (m.header k).lines e in
      acts-right so _ l s.shared ls (stepped s) q b (so.fine k i l s.shared g.0.1 b) (used (m.line k i l s.shared)) g)
      (λ e. g.1)

  move-right : Sound m → (ls : List Level) (s : State) → s.levels ≡ ls → Within s.reached.line ls → Right (move m ls s)
  unfolding move
  move-right so [] s q g = open-right s.reached.lines s q
  move-right so (l ∷ ls) s q g = line-right so l ls s q g

  -- and so does the run
  stops-right : Sound m → {n : ℕ} {s : State} {a : Answer} → Stops m n s a → Within s.reached.line s.levels → is_of01 a ≡ true
  stops-right so (now {s = s} e) g = subst Right e (move-right so s.levels s refl g)
  stops-right so (later {s = s} e r) g = stops-right so r (subst Right e (move-right so s.levels s refl g))

-- ---- the two theorems

-- a run that reaches a `stop` answers a result, or a refusal of 01 for its place
pub only-01 : {m : Machine} → Sound m → {n : ℕ} {a : Answer} (program : List Bytes) (room : ℕ) → Stops m n (begun m program room) a → is_of01 a ≡ true
unfolding begun
only-01 {m} so program room r = stops-right m so r tt

-- and every expansion does
pub refusals : {m : Machine} → Steady m → Closed m → Sound m → (program : Bytes) (room work : ℕ) → is_of01 (expansion m program room work) ≡ true
unfolding expansion expands at_once is_of01 numbers_at
refusals {m} st c so program room work =
    let r = ends st c (lines_of program) room in
    either (λ a. is_of01 a ≡ true) (ltb work workspace_size) (λ e. refl)
    (λ e. either (λ a. is_of01 a ≡ true) (ltb open_limit (length program)) (λ e. refl)
    (λ e. ap is_of01 (stops-runs r.1) ∙ only-01 so (lines_of program) room r.1))
