-- Every run ends (02, R-6): each move lowers a number, made of the open lines, the calls, and each level's counter and lines that are left.
use Prim.Native.Nat.{ℕ, zero, suc, pred, ◌+◌, ◌*◌, ◌-◌, ◌≤◌, ◌<◌}
use mathlib.Core.Path.{◌≡◌, refl, ap, ◌∙◌}
use mathlib.Core.Bool.{Bool, true, ◌||◌}
use mathlib.Core.Logic.{◌⊎◌, inl, inr}
use mathlib.Core.List.{List, [], ◌∷◌}
use mathlib.Core.Option.{Option, none, some}
use native.Mathlib.Nat.{suc-mul, mul-le-mul_right}
use native.Mathlib.Omega.{arith}
use lib.Dec.{eqb, leb, ltb}
use lib.IntN.{ℤ, pos, negsuc}
use lib.ListN.{length}
use borrow.Author.Tests.{ltb-true, ltb-false, leb-true, eqb-false}
use Rattle.text.specs.Bytes.{Bytes}
use Rattle.text.specs.Words.{place_among}
use Rattle.rules.specs.Choice.{choose}
use Rattle.rules.specs.Limits.{line_limit, counter_limit, call_limit, level_limit}
use Rattle.rules.specs.Lexemes.{Lex, byte, mark, ref, lone}
use Rattle.rules.specs.Fields.{statement_fields, is_ill_written, is_empty}
use Rattle.rules.specs.Statement.{Set, set_a, set_b, set_c, Line, Does, passes, exits, text, models, sets, branches_if, branches, counts}
use Rattle.rules.specs.Grammar.{Got, got, refused}
use Rattle.rules.specs.Evaluate.{Value, Cell}
use Rattle.rules.specs.Calls.{Operands}
use Rattle.rules.specs.Decide.{Act, next, leave, jump, renew, keep, use', state, refuse, when_got, renewed, unless, value_of, assigned, modelled, decide_by, decide}
use Rattle.rules.specs.Machine.{Header, Level, Machine, Call, knows_keywords, State, Answer, Move, on, stop, refuses, with_levels, puts, entered, enters, calls, is_title, is_language_word, uses, states, advanced, jumped, renewed_to, keeping, with_shared, acts, reaching, stepped, opened, open_move, act_at, move, runs, begun, longest_in, enough}
use Rattle.rules.proofs.Choices.{by, either}

-- ---- what is to be proved

-- a `stop` is reached within so many moves
pub data Stops (m : Machine) : ℕ → State → Answer → Type 0 where
  now : {n : ℕ} {s : State} {a : Answer} → move m s.levels s ≡ stop a → Stops m (suc n) s a
  later : {n : ℕ} {s t : State} {a : Answer} → move m s.levels s ≡ on t → Stops m n t a → Stops m (suc n) s a

-- such a run does not spend its moves
pub stops-runs : {m : Machine} {n : ℕ} {s : State} {a : Answer} → Stops m n s a → runs m n s ≡ a
unfolding runs
stops-runs (now e) = rw (e, runs) refl
stops-runs (later e h) = rw (e, runs) (stops-runs h)

pub record Steady (m : Machine) : Type 0 where
  -- ACTR stands on one line at most
  pub once : (k i j : ℕ) (l l' : Level) (vs vs' : List Value) → i < (m.header k).lines → j < (m.header k).lines
      → (m.line k i l vs).does ≡ counts → (m.line k j l' vs').does ≡ counts → i ≡ j
  -- and every branch goes behind it
  pub behind : (k i j t : ℕ) (l l' : Level) (vs vs' : List Value) → i < (m.header k).lines → j < (m.header k).lines
      → (m.line k i l vs).does ≡ counts → ((m.line k j l' vs').does ≡ branches t) ⊎ ((m.line k j l' vs').does ≡ branches_if t) → i < t

-- Every macro has a last line, and that is MEND. A macro without it ends by a further move, that finds no line, and 02's bound has none for that
-- (`ends-unclosed`). The lines of a library are so (proofs/Closed.antt).
pub record Closed (m : Machine) : Type 0 where
  pub some-line : (k : ℕ) → k < length m.titles → 0 < (m.header k).lines
  pub last : (k i : ℕ) (l : Level) (vs : List Value) → k < length m.titles → suc i ≡ (m.header k).lines → (m.line k i l vs).does ≡ Does.ends

-- ---- what a line may do

-- a branch only to the line's target, a new counter only by ACTR and only up to its limit
abbrev Allowed : Does ℕ → Act → Type 0
Allowed d next = Unit {0}
Allowed d leave = Unit {0}
Allowed d (jump t) = (d ≡ branches t) ⊎ (d ≡ branches_if t)
Allowed d (renew n) = (d ≡ counts) × (n ≤ counter_limit)
Allowed d (keep st) = Unit {0}
Allowed d (use' s) = Unit {0}
Allowed d (state n o a os) = Unit {0}
Allowed d (refuse e left) = Unit {0}

got-allowed : {A : Type 0} (d : Does ℕ) (g : Got A Cell) (k : A → Act) → ((a : A) → Allowed d (k a)) → Allowed d (when_got g k)
unfolding when_got
got-allowed d (got v x) k h = h v
got-allowed d (refused e left) k h = tt

unless_allowed : (d : Does ℕ) (over : Bool) (left : ℕ) (a : Act) → Allowed d a → Allowed d (unless over left a)
unfolding unless
unless_allowed d over left a h = either (Allowed d) over (λ e. tt) (λ e. h)

renewed-allowed : (left : ℕ) (z : ℤ) → Allowed counts (renewed left z)
unfolding renewed
renewed-allowed left (pos n) = either (Allowed counts) (leb n counter_limit) (λ e. (refl, leb-true n counter_limit e)) (λ e. tt)
renewed-allowed left (negsuc n) = tt

value-allowed : (d : Does ℕ) (k : Set) (x : List (Lex Cell)) (f : Value → Act) → ((v : Value) → Allowed d (f v)) → Allowed d (value_of k x f)
unfolding value_of
value-allowed d set_a x f h = got-allowed d _ _ λ n. h _
value-allowed d set_b x f h = got-allowed d _ _ λ b. unless_allowed d b.over _ _ (h _)
value-allowed d set_c x f h = got-allowed d _ _ λ s. unless_allowed d s.over _ _ (h _)

assigned-allowed : (d : Does ℕ) (n : List (Lex Cell)) (k : Set) (x : List (Lex Cell)) → Allowed d (assigned n k x)
unfolding assigned
assigned-allowed d [] k x = tt
assigned-allowed d (byte c ∷ n) k x = tt
assigned-allowed d (mark ∷ n) k x = tt
assigned-allowed d (ref r ∷ n) k x = value-allowed d k x _ λ v. tt
assigned-allowed d (lone ∷ n) k x = tt

decided-by : (l : Line Cell ℕ) (d : Does ℕ) → Allowed d (decide_by l d)
unfolding decide_by modelled
decided-by l passes = tt
decided-by l Does.ends = tt
decided-by l exits = tt
decided-by l (text s) = tt
decided-by l models = got-allowed models _ _ λ n. got-allowed models _ _ λ o. got-allowed models _ _ λ a. tt
decided-by l (sets k) = assigned-allowed (sets k) l.name k l.operand
decided-by l (branches_if t) =
    got-allowed (branches_if t) _ _ λ b. unless_allowed (branches_if t) b.over _ _ (either (Allowed (branches_if t)) b.holds (λ e. inr refl) (λ e. tt))
decided-by l (branches t) = inl refl
decided-by l counts = got-allowed counts _ _ (renewed-allowed (length l.operand))

decided : (l : Line Cell ℕ) → Allowed l.does (decide l)
unfolding decide
decided l = decided-by l l.does

end_leaves : (l : Line Cell ℕ) → l.does ≡ Does.ends → decide l ≡ leave
unfolding decide decide_by
end_leaves l e = ap (decide_by l) e

-- the longest body is as long as each
longest : (h : ℕ → Header) (n k : ℕ) → k < n → (h k).lines ≤ longest_in h n
unfolding longest_in
longest h zero k e = absurd (omega arith)
longest h (suc n) k e = by (ltb k n) (λ t. before (longest h n k (ltb-true k n t))) (λ f. same (omega (arith, ltb-false k n f)))
  where
    before : (h k).lines ≤ longest_in h n → (h k).lines ≤ longest_in h (suc n)
    before b = either (λ x. (h k).lines ≤ x) (ltb (longest_in h n) (h n).lines) (λ t. omega (arith, b, ltb-true (longest_in h n) (h n).lines t)) (λ f. b)

    same : k ≡ n → (h k).lines ≤ longest_in h (suc n)
    same q = rw q
        (either (λ x. (h n).lines ≤ x) (ltb (longest_in h n) (h n).lines) (λ t. omega arith) (λ f. ltb-false (longest_in h n) (h n).lines f))

-- ---- what is left

-- A macro has its lines and so many moves more. With 0 more, no line before MEND is the last; with 1 more, a level may also come behind its last line.
record Roomy (m : Machine) (more : ℕ) : Type 0 where
  some-line : (k : ℕ) → k < length m.titles → 0 < more + (m.header k).lines
  goes-on : (k i : ℕ) (l : Level) (vs : List Value) → k < length m.titles → i < (m.header k).lines
      → ((m.line k i l vs).does ≡ Does.ends) ⊎ (suc i < more + (m.header k).lines)

-- a level of macro `k` at line `i` with counter `c`: its ACTR lies behind it, or its counter is as it was at the call
record Sound (m : Machine) (k i c : ℕ) : Type 0 where
  known : k < length m.titles
  fresh : (j : ℕ) (l : Level) (vs : List Value) → j < (m.header k).lines → (m.line k j l vs).does ≡ counts → (j < i) ⊎ (c ≡ counter_limit)

module _ (m : Machine) (more : ℕ) where
  abbrev AllSound : List Level → Type 0
  AllSound [] = Unit {0}
  AllSound (l ∷ ls) = Sound m l.macro l.line l.counter × AllSound ls

  -- the moves that a level has at most: its line, those behind it, and all lines again for each branch that its counter has left
  abbrev level_left : ℕ → ℕ → ℕ → ℕ
  level_left k i c = c * (m.header k).lines + suc (pred (more + ((m.header k).lines - i)))

  abbrev levels_left : List Level → ℕ
  levels_left [] = 0
  levels_left (l ∷ ls) = level_left l.macro l.line l.counter + levels_left ls

  abbrev call_left : ℕ
  call_left = more + suc counter_limit * longest_in m.header (length m.titles)

  abbrev left : List Bytes → ℕ → List Level → ℕ
  left lines given ls = length lines + (call_limit - given) * call_left + levels_left ls

  -- a move lowers what is left below n, or is the last
  abbrev Lowers : ℕ → Move → Type 0
  Lowers n (on s) = (left s.reached.lines s.calls s.levels < n) × AllSound s.levels
  Lowers n (stop a) = Unit {0}

  puts-lowers : (n : ℕ) (line : Bytes) (ls : List Level) (s : State) → left s.reached.lines s.calls ls < n → AllSound ls → Lowers n (puts line ls s)
  unfolding puts refuses
  puts-lowers n line ls s h g = either (Lowers n) (ltb (length line) s.output.room) (λ e. (h, g)) (λ e. tt)

  -- a call costs one of the calls, and that is all that its level has
  call-pays : (k given : ℕ) → Roomy m more → k < length m.titles → given < call_limit
      → (call_limit - suc given) * call_left + level_left k 0 counter_limit ≤ (call_limit - given) * call_left
  call-pays k given r kn h =
      let one : call_limit - given ≡ suc (call_limit - suc given) = omega arith in
      omega (arith, ap (λ x. x * call_left) one ∙ suc-mul (call_limit - suc given) call_left, longest m.header (length m.titles) k kn, r.some-line k kn)

  enters-lowers : Roomy m more → (n k : ℕ) (c : Call) (ls : List Level) (s : State) → k < length m.titles
      → left s.reached.lines s.calls ls < n → AllSound ls → Lowers n (enters m k c ls s)
  unfolding enters refuses entered
  enters-lowers r n k c ls s kn h g =
      either (Lowers n) (knows_keywords (m.header k) c)
      (λ e. either (Lowers n) (ltb (length ls) level_limit)
      (λ e. either (Lowers n) (ltb s.calls call_limit)
      (λ e. (omega (arith, h, call-pays k s.calls r kn (ltb-true s.calls call_limit e)), (record { known = kn; fresh = λ j l vs b d. inr refl }, g)))
      (λ e. tt))
      (λ e. tt))
      (λ e. tt)

  calls-lowers : Roomy m more → (n k : ℕ) (name : Bytes) (os : Option (Operands Bytes)) (ls : List Level) (s : State) → k < length m.titles
      → left s.reached.lines s.calls ls < n → AllSound ls → Lowers n (calls m k name os ls s)
  unfolding calls refuses
  calls-lowers r n k name none ls s kn h g = tt
  calls-lowers r n k name (some os) ls s kn h g = enters-lowers r n k _ ls s kn h g

  title-known : (o : Bytes) → is_title m o ≡ true → place_among m.titles o < length m.titles
  unfolding is_title
  title-known o e = ltb-true _ _ e

  uses-lowers : Roomy m more → (n : ℕ) (line : Bytes) (ls : List Level) (s : State)
      → left s.reached.lines s.calls ls < n → AllSound ls → Lowers n (uses m line ls s)
  unfolding uses refuses
  uses-lowers r n line ls s h g =
      let o = (statement_fields line).operation in
      either (Lowers n) (is_ill_written line) (λ e. tt)
      (λ e. either (Lowers n) (is_language_word o) (λ e. tt)
      (λ e. either (Lowers n) (is_title m o) (λ t. calls-lowers r n _ _ _ ls s (title-known o t) h g) (λ t. puts-lowers n line ls s h g)))

  states-lowers : Roomy m more → (n : ℕ) (name operation operand : Bytes) (os : Option (Operands Bytes)) (ls : List Level) (s : State)
      → left s.reached.lines s.calls ls < n → AllSound ls → Lowers n (states m name operation operand os ls s)
  unfolding states refuses
  states-lowers r n name operation operand os ls s h g =
      either (Lowers n) (is_empty operation || ltb line_limit (length (choose (is_title m operation) _ _))) (λ e. tt)
      (λ e. either (Lowers n) (is_language_word operation) (λ e. tt)
      (λ e. either (Lowers n) (is_title m operation)
      (λ t. calls-lowers r n _ name os ls s (title-known operation t) h g) (λ t. puts-lowers n _ ls s h g)))

  -- ---- a level's own moves: each is lower, and the level is sound after it

  next-lower : (k i c : ℕ) → i < (m.header k).lines → suc i < more + (m.header k).lines → level_left k (suc i) c < level_left k i c
  next-lower k i c h e = omega arith

  jump-lower : (k i t c : ℕ) → i < (m.header k).lines → (c ≡ 0 → ⊥) → level_left k t (pred c) < level_left k i c
  jump-lower k i t zero h e = absurd (e refl)
  jump-lower k i t (suc c) h e = omega (arith, h, suc-mul c (m.header k).lines)

  renew-lower : (k i n c : ℕ) → i < (m.header k).lines → suc i < more + (m.header k).lines → n ≤ c → level_left k (suc i) n < level_left k i c
  renew-lower k i n c h e b = omega (arith, h, e, mul-le-mul_right (m.header k).lines b)

  next-sound : (k i c : ℕ) → Sound m k i c → Sound m k (suc i) c
  next-sound k i c s = record { known = s.known; fresh = λ j l vs b d. go j (s.fresh j l vs b d) }
    where
      go : (j : ℕ) → (j < i) ⊎ (c ≡ counter_limit) → (j < suc i) ⊎ (c ≡ counter_limit)
      go j (inl h) = inl (omega arith)
      go j (inr h) = inr h

  jump-sound : (k i t c : ℕ) (l : Level) (vs : List Value) → Steady m → i < (m.header k).lines
      → ((m.line k i l vs).does ≡ branches t) ⊎ ((m.line k i l vs).does ≡ branches_if t) → Sound m k i c → Sound m k t (pred c)
  jump-sound k i t c l vs st h d s = record { known = s.known; fresh = λ j l' vs' b e. inl (st.behind k j i t l' l vs' vs b h e d) }

  renew-sound : (k i n c : ℕ) (l : Level) (vs : List Value) → Steady m → i < (m.header k).lines → (m.line k i l vs).does ≡ counts → Sound m k i c → Sound m k (suc i) n
  renew-sound k i n c l vs st h d s =
      record { known = s.known; fresh = λ j l' vs' b e. inl (omega (arith, st.once k j i l' l vs' vs b h e d)) }

  -- at its ACTR a level's counter is as it was at the call
  unspent : (k i c : ℕ) (l : Level) (vs : List Value) → i < (m.header k).lines → (m.line k i l vs).does ≡ counts → Sound m k i c → c ≡ counter_limit
  unspent k i c l vs h d s = go (s.fresh i l vs h d)
    where
      go : (i < i) ⊎ (c ≡ counter_limit) → c ≡ counter_limit
      go (inl b) = absurd (omega arith)
      go (inr e) = e

  leave-lowers : (l : Level) (ls : List Level) (s : State) → AllSound ls → Lowers (left s.reached.lines s.calls (l ∷ ls)) (acts m leave l ls s)
  unfolding acts with_levels
  leave-lowers l ls s g = (omega arith, g)

  -- what is left of a state whose innermost level goes on lower
  lower : {x y : ℕ} (lines : List Bytes) (given : ℕ) (ls : List Level) → x < y
      → length lines + (call_limit - given) * call_left + (x + levels_left ls) < length lines + (call_limit - given) * call_left + (y + levels_left ls)
  lower lines given ls h = omega arith

  acts-lowers : Steady m → Roomy m more → (a : Act) (l : Level) (vs : List Value) (ls : List Level) (s : State)
      → l.line < (m.header l.macro).lines → suc l.line < more + (m.header l.macro).lines
      → Allowed (m.line l.macro l.line l vs).does a → AllSound (l ∷ ls)
      → Lowers (left s.reached.lines s.calls (l ∷ ls)) (acts m a l ls s)
  unfolding acts with_levels advanced jumped renewed_to keeping with_shared refuses
  acts-lowers st r next l vs ls s h e d g =
      (lower s.reached.lines s.calls ls (next-lower l.macro l.line l.counter h e), (next-sound l.macro l.line l.counter g.0, g.1))
  acts-lowers st r leave l vs ls s h e d g = leave-lowers l ls s g.1
  acts-lowers st r (jump t) l vs ls s h e d g =
      either (Lowers (left s.reached.lines s.calls (l ∷ ls))) (eqb l.counter 0) (λ z. tt)
      (λ z. (
        lower s.reached.lines s.calls ls (jump-lower l.macro l.line t l.counter h (eqb-false l.counter 0 z)),
        (jump-sound l.macro l.line t l.counter l vs st h d g.0, g.1),
      ))
  acts-lowers st r (renew n) l vs ls s h e d g =
      let full = unspent l.macro l.line l.counter l vs h d.0 g.0 in (
        lower s.reached.lines s.calls ls (renew-lower l.macro l.line n l.counter h e (omega (arith, full, d.1))),
        (renew-sound l.macro l.line n l.counter l vs st h d.0 g.0, g.1),
      )
  acts-lowers st r (keep v) l vs ls s h e d g =
      (lower s.reached.lines s.calls ls (next-lower l.macro l.line l.counter h e), (next-sound l.macro l.line l.counter g.0, g.1))
  acts-lowers st r (use' line) l vs ls s h e d g =
      uses-lowers r _ line (advanced l ∷ ls) s (lower s.reached.lines s.calls ls (next-lower l.macro l.line l.counter h e))
      (next-sound l.macro l.line l.counter g.0, g.1)
  acts-lowers st r (state n o a os) l vs ls s h e d g =
      states-lowers r _ n o a os (advanced l ∷ ls) s (lower s.reached.lines s.calls ls (next-lower l.macro l.line l.counter h e))
      (next-sound l.macro l.line l.counter g.0, g.1)
  acts-lowers st r (refuse n at) l vs ls s h e d g = tt

  open-lowers : Roomy m more → (lines : List Bytes) (s : State) → Lowers (left lines s.calls []) (open_move m lines s)
  unfolding open_move opened reaching
  open-lowers r [] s = tt
  open-lowers r (l ∷ lines) s = uses-lowers r _ l [] (opened lines s) (omega arith) tt

  line-lowers : Steady m → Roomy m more → (l : Level) (ls : List Level) (s : State) → AllSound (l ∷ ls)
      → Lowers (left s.reached.lines s.calls (l ∷ ls)) (acts m (act_at m l s.shared) l ls (stepped s))
  unfolding act_at stepped reaching
  line-lowers st r l ls s g =
      either (λ a. Lowers (left s.reached.lines s.calls (l ∷ ls)) (acts m a l ls (stepped s))) (ltb l.line (m.header l.macro).lines)
      (λ e. let h = ltb-true l.line (m.header l.macro).lines e in
      at h (r.goes-on l.macro l.line l s.shared g.0.known h))
      (λ e. leave-lowers l ls (stepped s) g.1)
    where
      at : l.line < (m.header l.macro).lines
          → ((m.line l.macro l.line l s.shared).does ≡ Does.ends) ⊎ (suc l.line < more + (m.header l.macro).lines)
          → Lowers (left s.reached.lines s.calls (l ∷ ls)) (acts m (decide (m.line l.macro l.line l s.shared)) l ls (stepped s))
      at h (inl e) = rw (end_leaves (m.line l.macro l.line l s.shared) e) (leave-lowers l ls (stepped s) g.1)
      at h (inr e) =
          acts-lowers st r (decide (m.line l.macro l.line l s.shared)) l s.shared ls (stepped s) h e
          (decided (m.line l.macro l.line l s.shared)) g

  move-lowers : Steady m → Roomy m more → (ls : List Level) (s : State) → AllSound ls → Lowers (left s.reached.lines s.calls ls) (move m ls s)
  unfolding move
  move-lowers st r [] s g = open-lowers r s.reached.lines s
  move-lowers st r (l ∷ ls) s g = line-lowers st r l ls s g

  -- the loop: more moves than are left reach a `stop`
  ends-from : Steady m → Roomy m more → (n : ℕ) (s : State) → left s.reached.lines s.calls s.levels < n → AllSound s.levels → (a : Answer) × Stops m n s a
  ends-from st r zero s h g = absurd (omega arith)
  ends-from st r (suc n) s h g = go (move m s.levels s) refl (move-lowers st r s.levels s g) (ends-from st r n)
    where
      go : (v : Move) → move m s.levels s ≡ v → Lowers (left s.reached.lines s.calls s.levels) v
          → ((t : State) → left t.reached.lines t.calls t.levels < n → AllSound t.levels → (a : Answer) × Stops m n t a)
          → (a : Answer) × Stops m (suc n) s a
      go (on t) e k ih = let r = ih t (omega (arith, h, k.0)) k.1 in (r.0, later e r.1)
      go (stop a) e k ih = (a, now e)

-- ---- the two bounds

closed-roomy : (m : Machine) → Closed m → Roomy m 0
closed-roomy m c = record {
  some-line = λ k kn. omega (arith, c.some-line k kn);
  goes-on = λ k i l vs kn h. by (ltb (suc i) (m.header k).lines) (λ t. inr (omega (arith, ltb-true (suc i) (m.header k).lines t)))
      (λ f. inl (c.last k i l vs kn (omega (arith, h, ltb-false (suc i) (m.header k).lines f))));
}

-- where every macro ends in MEND the run of `expands` never spends its moves
pub ends : {m : Machine} → Steady m → Closed m → (program : List Bytes) (room : ℕ) → (a : Answer) × Stops m (enough m (length program)) (begun m program room) a
unfolding enough begun
ends {m} st c program room = ends-from m 0 st (closed-roomy m c) _ (begun m program room) (omega arith) tt

-- where one may not, a call may cost one move more: the one that finds no line
pub ends-unclosed : {m : Machine} → Steady m → (program : List Bytes) (room : ℕ)
    → (a : Answer) × Stops m (suc (length program + call_limit * suc (suc counter_limit * longest_in m.header (length m.titles)))) (begun m program room) a
unfolding begun
ends-unclosed {m} st program room =
    ends-from m 1 st (record { some-line = λ k kn. omega arith; goes-on = λ k i l vs kn h. inr (omega arith) }) _ (begun m program room) (omega arith) tt
