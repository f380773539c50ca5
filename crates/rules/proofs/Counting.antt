-- In an accepted library a body has at most one ACTR line, and every branch goes behind it.
use Prim.Native.Nat.{ℕ, suc, ◌<◌}
use native.Mathlib.Omega.{arith}
use mathlib.Core.Path.{◌≡◌, refl, ap, sym, ◌∙◌, subst}
use mathlib.Core.Logic.{⊎_elim}
use mathlib.Core.Bool.{Bool, true, false, false≢true, ◌&&◌, ◌||◌, not}
use mathlib.Core.List.{List, [], ◌∷◌, ◌++◌, map}
use lib.Dec.{eqb, ltb}
use lib.Seq.{take-length, split_at, get_or-take, length-take-le}
use lib.ListN.{length, get_or, take, drop}
use borrow.Author.Tests.{not-true, not-false, eqb-true, ltb-true, ltb-false}
use Rattle.text.specs.Bytes.{Bytes}
use Rattle.text.specs.Characters.{letter, letter_or_digit}
use Rattle.rules.specs.Choice.{run, any}
use Rattle.rules.specs.Lexemes.{period, Lex, lexed, is_long, is_name, sequence_start, is_sequence}
use Rattle.rules.specs.Fields.{is_remark, Fields, no_fields, statement_fields, is_empty}
use Rattle.rules.specs.Statement.{Set, Statement, macro, mend, mexit, local, global, set, aif, ago, anop, actr, model, counts, Line, map_line, map_does, condition_end, target_in, is_copied, doing, model_of, says, read}
use Rattle.rules.specs.Library.{Names, operation_of, is_mend, names_in, is_named, line_named}
use Rattle.rules.specs.ByLines.{Reading, no_reading, header_of, line_in, machine_of, machine_of_lines}
use Rattle.rules.specs.Faults.{at_statement, ends_declarations, is_misplaced, has_unknown, is_named_up_to_mend, is_bad_target, target_behind, has_bad_body_name, is_named_or_empty, is_declaration, are_fields_good, accepted, verdict}
use Rattle.rules.proofs.Choices.{by, either, chosen, and_left, and_right}
use Rattle.rules.proofs.Logic.{clash, or_right, then-not, else-so, any-first, any-later, any-in-front, any-behind, none-at}
use Rattle.rules.proofs.Ends.{Steady}
use Rattle.rules.proofs.Said.{is_count, count_kept, targets, targets-mapped, statement_on, remark-says, remark-fields, statement-says, ends_there}
use Rattle.rules.proofs.Lossless.{lexed-back}
use Rattle.rules.proofs.Accepted.{Stands, in_place, good-names, good-fields, Body, last, line, Known, from-line, line-stands, readings, known_at}

-- ---- a target that is exactly a sequence symbol

-- what `sequence_start` and the readers of a target take for the name is the same
target_name : (t : Bytes) → is_sequence t ≡ true → sequence_start t ≡ drop 1 t
unfolding is_sequence is_name sequence_start
target_name [] h = absurd (false≢true h)
target_name (p ∷ []) h = refl
target_name (p ∷ (c ∷ s)) h =
    let a = and_left (eqb p period) _ h in
    let h₁ = and_right (eqb p period) _ h in
    let b = and_left (letter c) _ h₁ in
    let h₂ = and_right (letter c) _ h₁ in
    let e = eqb-true (run letter_or_digit s) (length s) (and_left _ _ h₂) in
    chosen _ _ (ap (λ (x : Bool). x && letter c) a ∙ b) ∙ ap (λ (r : Bytes). c ∷ r) (ap (λ (n : ℕ). take n s) e ∙ take-length s)

-- such a symbol, and such a name, is not empty
target-not-empty : (t : Bytes) → is_sequence t ≡ true → is_empty (drop 1 t) ≡ false
unfolding is_sequence is_name is_empty
target-not-empty [] h = absurd (false≢true h)
target-not-empty (p ∷ []) h = absurd (false≢true (and_right (eqb p period) false h))
target-not-empty (p ∷ (c ∷ s)) h = refl

named-not-empty : (n : Bytes) → is_sequence n ≡ true → is_empty n ≡ false
unfolding is_sequence is_empty
named-not-empty [] h = absurd (false≢true h)
named-not-empty (p ∷ n) h = refl

-- a good target names a line before, or one up to MEND
target-named : (before from : List Bytes) (t : Bytes) → is_sequence t ≡ true → is_bad_target before from t ≡ false
    → (any (is_named (drop 1 t)) before || is_named_up_to_mend (drop 1 t) from) ≡ true
unfolding is_bad_target
target-named before from t e h =
    let s = drop 1 t in
    let h₁ = subst (λ s. (not (is_empty s) && (is_long s || not (any (is_named s) before || is_named_up_to_mend s from))) ≡ false) (target_name t e) h in
    not-false _ (or_right (is_long s) _ (then-not (not (is_empty s)) _ h₁ (ap not (target-not-empty t e))))

-- ---- the line that a sequence symbol names

-- where some line has the name, `line_named` gives one that has it
line-found : (s : Bytes) (b : List Bytes) → any (is_named s) b ≡ true → (line_named s b < length b) × (is_named s (get_or b (line_named s b) []) ≡ true)
unfolding line_named any
line-found s [] h = absurd (false≢true h)
line-found s (l ∷ ls) h =
    either (λ n. (n < suc (length ls)) × (is_named s (get_or (l ∷ ls) n []) ≡ true)) (is_named s l)
    (λ e. (omega arith, e))
    (λ e. let r = line-found s ls (else-so (is_named s l) _ h e) in (omega (arith, r.0), r.1))

-- a body has its MEND, so what is named up to MEND is in the body
up-to-mend : {p : Bytes} {before rest : List Bytes} (s : Bytes) (more : List Bytes) → Body p before rest → is_named_up_to_mend s (rest ++ more) ≡ true → any (is_named s) rest ≡ true
unfolding is_named_up_to_mend
up-to-mend s more (last {l = l} e x) h =
    by (is_named s l) (any-first (is_named s) l [])
    (λ f. clash e (not-true (is_mend l) (and_left (not (is_mend l)) _ (else-so (is_named s l) _ h f))))
up-to-mend s more (line {l = l} {ls = ls} e x b) h =
    by (is_named s l) (any-first (is_named s) l ls)
    (λ f. any-later (is_named s) l ls (up-to-mend s more b (and_right (not (is_mend l)) _ (else-so (is_named s l) _ h f))))

-- ---- ACTR lines

abbrev is_actr : Statement → Bool
is_actr macro = false
is_actr mend = false
is_actr mexit = false
is_actr (local k) = false
is_actr (global k) = false
is_actr (set k) = false
is_actr aif = false
is_actr ago = false
is_actr anop = false
is_actr actr = true
is_actr model = false

count-is-actr : (l : Bytes) (f : Fields) (s : Statement) → is_count (says l f s).does ≡ is_actr s
unfolding says doing model_of
count-is-actr l f macro = refl
count-is-actr l f mend = refl
count-is-actr l f mexit = refl
count-is-actr l f (local k) = refl
count-is-actr l f (global k) = refl
count-is-actr l f (set k) = refl
count-is-actr l f aif = refl
count-is-actr l f ago = refl
count-is-actr l f anop = refl
count-is-actr l f actr = refl
count-is-actr l f model = either (λ (x : Line Bytes Bytes). is_count x.does ≡ false) (is_copied f) (λ e. refl) (λ e. refl)

-- an ACTR line is no remark
pub count-line : (l : Bytes) → is_count (read l).does ≡ true → (is_remark l ≡ false) × (is_actr (statement_on l) ≡ true)
unfolding doing
count-line l h = by (is_remark l)
    (λ e. clash h (⊎_elim (λ q. ap (λ x. is_count x.does) q) (λ q. ap (λ x. is_count x.does) q) (remark-says l e)))
    (λ e. (e, sym (ap (λ x. is_count x.does) (statement-says l e) ∙ count-is-actr l (statement_fields l) (statement_on l)) ∙ h))

pub actr-at-statement : (s : Statement) → is_actr s ≡ true → at_statement s ≡ true
unfolding at_statement
actr-at-statement macro h = h
actr-at-statement mend h = refl
actr-at-statement mexit h = refl
actr-at-statement (local k) h = h
actr-at-statement (global k) h = h
actr-at-statement (set k) h = refl
actr-at-statement aif h = refl
actr-at-statement ago h = refl
actr-at-statement anop h = refl
actr-at-statement actr h = refl
actr-at-statement model h = refl

pub actr-misplaced : (before : List Bytes) (o : Bytes) (s : Statement) → is_actr s ≡ true → is_misplaced before o s ≡ any ends_declarations before
unfolding is_misplaced
actr-misplaced before o macro h = absurd (false≢true h)
actr-misplaced before o mend h = absurd (false≢true h)
actr-misplaced before o mexit h = absurd (false≢true h)
actr-misplaced before o (local k) h = refl
actr-misplaced before o (global k) h = refl
actr-misplaced before o (set k) h = absurd (false≢true h)
actr-misplaced before o aif h = absurd (false≢true h)
actr-misplaced before o ago h = absurd (false≢true h)
actr-misplaced before o anop h = absurd (false≢true h)
actr-misplaced before o actr h = refl
actr-misplaced before o model h = absurd (false≢true h)

-- ---- named lines

-- a statement that has a name is no declaration and no ACTR
named-statement : (f : Fields) (before : List Bytes) (o : Bytes) (s : Statement) → is_sequence f.name ≡ true → are_fields_good f s ≡ true → is_misplaced before o s ≡ false
    → (at_statement s ≡ true) × (is_actr s ≡ false)
unfolding are_fields_good at_statement is_misplaced is_declaration
named-statement f before o macro n g m = clash refl m
named-statement f before o mend n g m = (refl, refl)
named-statement f before o mexit n g m = (refl, refl)
named-statement f before o (local k) n g m = clash (and_left (is_empty f.name) _ g) (named-not-empty f.name n)
named-statement f before o (global k) n g m = clash (and_left (is_empty f.name) _ g) (named-not-empty f.name n)
named-statement f before o (set k) n g m = (refl, refl)
named-statement f before o aif n g m = (refl, refl)
named-statement f before o ago n g m = (refl, refl)
named-statement f before o anop n g m = (refl, refl)
named-statement f before o actr n g m = clash g (named-not-empty f.name n)
named-statement f before o model n g m = (refl, refl)

named-is-no-remark : (s l : Bytes) → is_named s l ≡ true → is_remark l ≡ false
unfolding is_named is_sequence no_fields
named-is-no-remark s l h =
    by (is_remark l)
    (λ e. clash (and_left (is_sequence (statement_fields l).name) _ h) (ap (λ f. is_sequence f.name) (remark-fields l e)))
    (λ e. e)

named-line : {p : Bytes} {before : List Bytes} {l : Bytes} {after : List Bytes} (s : Bytes) → Stands p before l after → is_named s l ≡ true
    → (ends_declarations l ≡ true) × (is_actr (statement_on l) ≡ false)
unfolding is_named operation_of
named-line {before = before} {l = l} s x h =
    let e = named-is-no-remark s l h in
    let r = named-statement (statement_fields l) before (operation_of l) (statement_on l) (and_left (is_sequence (statement_fields l).name) _ h) (good-fields x e) (in_place x e) in
    (ends_there l e r.0, r.1)

-- ---- branches

abbrev is_nil : {A : Type 0} → List A → Type 0
is_nil [] = Unit {0}
is_nil (a ∷ l) = ⊥

nil-is-not : {P A : Type 0} {a : A} {l : List A} → [] ≡ a ∷ l → P
nil-is-not h = absurd (subst is_nil h tt)

same_target : {s t : Bytes} → s ∷ [] ≡ t ∷ [] → s ≡ t
same_target h = ap (λ (l : List Bytes). get_or l 0 []) h

-- the two readings of AIF's target
aif-target : (x : List (Lex Bytes)) → is_sequence (target_behind x) ≡ true → drop 1 (target_behind x) ≡ target_in (drop (condition_end x) x)
unfolding target_behind target_in is_sequence
aif-target x h =
    either (λ (y : Bytes). is_sequence y ≡ true → drop 1 y ≡ target_in (drop (condition_end x) x)) (eqb (condition_end x) 0)
    (λ e q. absurd (false≢true q)) (λ e q. refl) h

-- and of AGO's
ago-target : (operand : Bytes) → drop 1 operand ≡ target_in (lexed true operand)
unfolding target_in
ago-target operand = ap (λ (s : Bytes). drop 1 s) (sym (lexed-back true operand))

-- a branching statement's target names a line
module _ (l : Bytes) (f : Fields) (globals : List (Bytes × Set)) (names : Names) (before from : List Bytes) (t : Bytes) where
  abbrev NamesLine : Bytes → Type 0
  NamesLine s = (any (is_named s) before || is_named_up_to_mend s from) ≡ true

  branch-target : (s : Statement) → targets (says l f s).does ≡ t ∷ [] → are_fields_good f s ≡ true → has_bad_body_name globals names before from f s ≡ false → NamesLine t
  unfolding says doing model_of are_fields_good has_bad_body_name
  branch-target macro h g n = nil-is-not h
  branch-target mend h g n = nil-is-not h
  branch-target mexit h g n = nil-is-not h
  branch-target (local k) h g n = nil-is-not h
  branch-target (global k) h g n = nil-is-not h
  branch-target (set k) h g n = nil-is-not h
  branch-target aif h g n =
      let x = lexed true f.operand in
      let q = and_right (is_named_or_empty f.name) (is_sequence (target_behind x)) g in
      subst NamesLine (aif-target x q ∙ same_target h) (target-named before from (target_behind x) q (or_right (has_unknown names x) _ n))
  branch-target ago h g n =
      subst NamesLine (ago-target f.operand ∙ same_target h)
      (target-named before from f.operand (and_right (is_named_or_empty f.name) (is_sequence f.operand) g) (or_right (has_unknown names (lexed true f.operand)) _ n))
  branch-target anop h g n = nil-is-not h
  branch-target actr h g n = nil-is-not h
  branch-target model h g n =
      either (λ (x : Line Bytes Bytes). targets x.does ≡ t ∷ [] → NamesLine t) (is_copied f) (λ e q. nil-is-not q) (λ e q. nil-is-not q) h

branch-line : (l : Bytes) (t : Bytes) → targets (read l).does ≡ t ∷ [] → is_remark l ≡ false
unfolding doing
branch-line l t h =
    by (is_remark l)
    (λ e. ⊎_elim (λ q. nil-is-not (sym (ap (λ x. targets x.does) q) ∙ h)) (λ q. nil-is-not (sym (ap (λ x. targets x.does) q) ∙ h)) (remark-says l e))
    (λ e. e)

-- ---- a body

module _ {r : Reading} (a : Known r) where
  abbrev at : ℕ → Bytes
  at i = get_or r.body i []

  abbrev Counts : ℕ → Type 0
  Counts i = is_count (read (at i)).does ≡ true

  -- no line before an ACTR line ends the declarations
  before-actr : (i j : ℕ) → i < length r.body → Counts i → j < i → ends_declarations (at j) ≡ false
  unfolding operation_of
  before-actr i j h c lt =
      let x = line-stands a i h in
      let q = count-line (at i) c in
      let m = sym (actr-misplaced (take i r.body) (operation_of (at i)) (statement_on (at i)) q.1) ∙ in_place x q.0 in
      ap ends_declarations (sym (get_or-take i r.body j [] lt))
      ∙ none-at ends_declarations (take i r.body) [] j m (omega (arith, length-take-le i r.body (omega arith)))

  actr-ends : (i : ℕ) → Counts i → ends_declarations (at i) ≡ true
  actr-ends i c = let q = count-line (at i) c in ends_there (at i) q.0 (actr-at-statement (statement_on (at i)) q.1)

  -- what a branch goes to is a line of the body that is named
  pub target_found : (j : ℕ) (t : Bytes) → j < length r.body → targets (read (at j)).does ≡ t ∷ []
      → (line_named t r.body < length r.body) × (is_named t (at (line_named t r.body)) ≡ true)
  target_found j t h e =
      let x = line-stands a j h in
      let before = take j r.body in
      let rest = at j ∷ drop (suc j) r.body in
      let k = branch-line (at j) t e in
      let n = branch-target (at j) (statement_fields (at j)) x.globals (names_in a.prototype before) before (rest ++ x.more) t (statement_on (at j))
      (sym (ap (λ y. targets y.does) (statement-says (at j) k)) ∙ e) (good-fields x k) (good-names x) in
      let s : any (is_named t) (before ++ rest) ≡ true =
      by (any (is_named t) before) (any-in-front (is_named t) before rest)
      (λ f. any-behind (is_named t) before rest (up-to-mend t x.more (from-line a j h) (else-so (any (is_named t) before) _ n f))) in
      line-found t r.body (subst (λ b. any (is_named t) b ≡ true) (sym (split_at r.body j [] h)) s)

  one-actr : (i j : ℕ) → i < length r.body → j < length r.body → Counts i → Counts j → i ≡ j
  one-actr i j hi hj ci cj =
      by (ltb i j) (λ e. clash (actr-ends i ci) (before-actr j i hj cj (ltb-true i j e)))
      (λ e. by (ltb j i) (λ f. clash (actr-ends j cj) (before-actr i j hi ci (ltb-true j i f)))
      (λ f. omega (arith, ltb-false i j e, ltb-false j i f)))

  pub goes-behind : (i j : ℕ) (t : Bytes) → i < length r.body → j < length r.body → Counts i → targets (read (at j)).does ≡ t ∷ [] → i < line_named t r.body
  goes-behind i j t hi hj ci e =
      let n = line_named t r.body in
      let q = target_found j t hj e in
      let d = named-line t (line-stands a n q.0) q.1 in
      by (ltb i n) (ltb-true i n)
      (λ f. by (ltb n i) (λ g. clash d.0 (before-actr i n hi ci (ltb-true n i g)))
      (λ g.
      let s : i ≡ n = omega (arith, ltb-false i n f, ltb-false n i g) in
      clash (count-line (at i) ci).1 (ap (λ (k : ℕ). is_actr (statement_on (at k))) s ∙ d.1)))

-- the one target of a line whose targets stand for numbers
one-target : (g : Bytes → ℕ) (ts : List Bytes) (n : ℕ) → map g ts ≡ n ∷ [] → (t : Bytes) × (ts ≡ t ∷ []) × (g t ≡ n)
one-target g [] n h = nil-is-not h
one-target g (t ∷ []) n h = (t, refl, ap (λ (l : List ℕ). get_or l 0 0) h)
one-target g (t ∷ (u ∷ ts)) n h = absurd (subst is_nil (sym (ap (λ (l : List ℕ). drop 1 l) h)) tt)

pub steady : (library : Bytes) → verdict library ≡ accepted → Steady (machine_of_lines library)
unfolding machine_of_lines machine_of header_of line_in map_line
steady library e = record {
  once = λ k i j l l' vs vs' hi hj ci cj. one-actr (known_at library e k i hi) i j hi hj (counting k i ci) (counting k j cj);
  behind = λ k i j t l l' vs vs' hi hj ci b.
      let g = goes k in
      let d = (read (get_or (body k) j [])).does in
      let q = one-target g (targets d) t (sym (targets-mapped g d) ∙ ⊎_elim (ap targets) (ap targets) b) in
      subst (λ (n : ℕ). i < n) q.2 (goes-behind (known_at library e k i hi) i j q.0 hi hj (counting k i ci) q.1);
}
  where
    body : ℕ → List Bytes
    body k = (get_or (readings library) k no_reading).body

    goes : ℕ → Bytes → ℕ
    goes k t = line_named t (body k)

    counting : (k i : ℕ) → map_does (goes k) (read (get_or (body k) i [])).does ≡ counts → is_count (read (get_or (body k) i [])).does ≡ true
    counting k i c = sym (count_kept (goes k) (read (get_or (body k) i [])).does) ∙ ap is_count c
