-- Reading one thing after another: what the readers of keywords and lines tell where they return. Assumes nothing.
use Prim.Native.Nat.{ℕ, suc, ◌+◌, ◌-◌, ◌≤◌, ◌<◌}
use mathlib.Core.Path.{◌≡◌, refl, sym, ap, ◌∙◌}
use mathlib.Core.Bool.{Bool, true, false, true≢false}
use mathlib.Core.List.{List, [], map}
use mathlib.Core.Option.{Option, none, some}
use native.Mathlib.Omega.{arith}
use native.Mathlib.Numerals.{add-one}
use lib.Dec.{eqb, leb}
use lib.ListN.{length, get_or, drop, drop_of_length-le}
use lib.Seq.{drop-cons}
use borrow.Author.Tests.{leb-true, leb-false, eqb-true, eqb-false, ne_eqb}
use Rattle.text.specs.Bytes.{Bytes}
use Rattle.rules.specs.Choice.{choose}
use Rattle.rules.specs.Lexemes.{Lex}
use Rattle.rules.specs.Statement.{Set, set_a, set_b, set_c, Line, text, models, sets, branches_if, branches, counts, doing}
use Rattle.rules.proofs.Choices.{by, either}
use Rattle.deck.specs.Coding.{after, Coder, get_byte, two, pair}
use Rattle.deck.specs.Slots.{Slot}
use Rattle.deck.specs.Coders.{field, string, set_of, line, get_line_by, get_text, get_models, get_branch_if, get_branch, get_counts, get_sets, sets_line}
use Rattle.deck_reading.specs.Reading.{slot_lex, two_at, run_at, run_end, field_at, set_at, or_first, keyword_at, fields_line, line_by, line_at, found, sets_found, does_found, reads}
use Rattle.std.specs.Prelude.{Option as Found, Some, None}
use mathlib.Core.Logic.{◌⊎◌, inl, inr}
use Rattle.kinds.specs.declared.Set.{Set as Kind}
use Rattle.kinds.specs.declared.Set.TheVariants.{A, B, C}
use Rattle.kinds.specs.declared.Does.{Does as Kept}
use Rattle.kinds.specs.declared.Does.TheVariants.{Passes, Ends, Exits, Text, Models, BranchesIf, Branches, Counts, Sets}
use Rattle.deck_reading.proofs.Runs.{is_to, found-is, found-in, found-out, run-same, end_same, two-there, two-missing, read-ends}
use Rattle.deck_reading.proofs.Readers.{lexeme-one, byte_one, set-none}

-- a reader that goes on where another stopped, or is not asked
unfoldable pub field_from : Bytes → Found ℕ → List (Lex Slot)
field_from s (Some n) = field_at s n
field_from s None = []

unfoldable pub run_from : Bytes → Found ℕ → Bytes
run_from s (Some n) = run_at s n
run_from s None = []

unfoldable pub get_from : {A : Type 0} → Coder A → Bytes → Found ℕ → Option (A × Bytes)
get_from c s (Some n) = c.get (drop n s)
get_from c s None = none

module _ (s : Bytes) where
  -- a reader that is not asked, and one that goes on
  pub no_field : reads (field_from s None) s None ≡ get_from field s None
  unfolding reads get_from
  no_field = refl

  pub next_field : (n : ℕ) (q : Found ℕ) → reads (field_at s n) s q ≡ field.get (drop n s) → reads (field_from s (Some n)) s q ≡ get_from field s (Some n)
  unfolding field_from get_from
  next_field n q e = e

  pub no_run : reads (run_from s None) s None ≡ get_from string s None
  unfolding reads get_from
  no_run = refl

  pub next_run : (n : ℕ) (q : Found ℕ) → reads (run_at s n) s q ≡ string.get (drop n s) → reads (run_from s (Some n)) s q ≡ get_from string s (Some n)
  unfolding run_from get_from
  next_run n q e = e

is_some : {A : Type 0} → Option A → Bool
is_some none = false
is_some (some x) = true

rest : {A : Type 0} → Option (A × Bytes) → Bytes
rest none = []
rest (some r) = r.1

-- ---- one after another

module _ {B : Type 0} (s : Bytes) (c : Coder B) (b : B) (r q : Found ℕ) (e : reads b s q ≡ get_from c s r) where
  -- what is read behind the first is what the second reader read
  pub then-on : {A C : Type 0} (a : A) (k : A → B → Bytes → Option (C × Bytes)) → after (reads a s r) (λ a t. after (c.get t) (k a)) ≡ after (reads b s q) (k a)
  unfolding after reads get_from
  then-on {A} {C} a k = asked r ∙ ap (λ x. after x (k a)) (sym e)
    where
      asked : (r : Found ℕ) → after (reads a s r) (λ a t. after (c.get t) (k a)) ≡ after (get_from c s r) (k a)
      asked (Some n) = refl
      asked None = refl

  -- nothing is read behind what was not
  pub was_read : is_to q ≡ true → is_to r ≡ true
  unfolding reads get_from is_to is_some
  was_read = cases r q e
    where
      cases : (r q : Found ℕ) → reads b s q ≡ get_from c s r → is_to q ≡ true → is_to r ≡ true
      cases (Some m) q e h = refl
      cases None (Some n) e h = ap is_some (sym e)
      cases None None e h = h

module _ {A : Type 0} (s : Bytes) where
  pub last-read : {B : Type 0} (f : A → B) (a : A) (r : Found ℕ) → after (reads a s r) (λ a t. some (f a, t)) ≡ reads (f a) s r
  unfolding after reads
  last-read f a (Some n) = refl
  last-read f a None = refl

  -- only a thing that was read is asked for
  pub reads_same : {a b : A} (r : Found ℕ) → (is_to r ≡ true → a ≡ b) → reads a s r ≡ reads b s r
  unfolding reads is_to
  reads_same (Some n) h = ap (λ a. some (a, drop n s)) (h refl)
  reads_same None h = refl

-- ---- where a run ends that was read

-- a reader stopped at a place, or read nothing
unfoldable pub stops_at : Bytes → Found ℕ → ℕ → Type 0
stops_at s (Some n) m = drop n s ≡ drop m s
stops_at s None m = m ≡ m

module _ (s : Bytes) where
  pub field-same : (m n : ℕ) → drop m s ≡ drop n s → field_at s m ≡ field_at s n
  unfolding field_at
  field-same m n e = ap (map slot_lex) (run-same s m n e)

  pub field-stops : (at : ℕ) (r : Found ℕ) → reads (field_at s at) s r ≡ field.get (drop at s) → stops_at s r (run_end s at)
  unfolding reads stops_at field
  field-stops at (Some n) e = read-ends lexeme-one s at e
  field-stops at None e = refl

  pub string-stops : (at : ℕ) (r : Found ℕ) → reads (run_at s at) s r ≡ string.get (drop at s) → stops_at s r (run_end s at)
  unfolding reads stops_at string
  string-stops at (Some n) e = read-ends byte_one s at e
  string-stops at None e = refl

  two-stops : (at : ℕ) (r : Found ℕ) → reads (two_at s at) s r ≡ two.get (drop at s) → stops_at s r (at + 2)
  unfolding reads stops_at rest is_some
  two-stops at (Some n) e = by (leb (at + 2) (length s))
      (λ h. let k = leb-true (at + 2) (length s) h in let l : at + 1 < length s = omega arith in ap rest (e ∙ two-there s at l))
      (λ h. let k = leb-false (at + 2) (length s) h in let l : length s - at < 2 = omega arith in absurd (true≢false (ap is_some (e ∙ two-missing s at l))))
  two-stops at None e = refl

  then-stops : (m : ℕ) (r q : Found ℕ) → stops_at s r m → reads (field_from s r) s q ≡ get_from field s r → stops_at s q (run_end s m)
  unfolding stops_at field_from get_from reads is_some
  then-stops m (Some n) (Some i) e f = field-stops n (Some i) f ∙ end_same s n m e
  then-stops m (Some n) None e f = refl
  then-stops m None (Some i) e f = absurd (true≢false (ap is_some f))
  then-stops m None None e f = refl

  -- the next thing stands where the one before it ends
  field_next : (m : ℕ) (r : Found ℕ) → stops_at s r m → is_to r ≡ true → field_from s r ≡ field_at s m
  unfolding stops_at field_from is_to
  field_next m (Some n) e h = field-same n m e
  field_next m None e h = absurd (true≢false (sym h))

  run-next : (m : ℕ) (r : Found ℕ) → stops_at s r m → is_to r ≡ true → run_from s r ≡ run_at s m
  unfolding stops_at run_from is_to
  run-next m (Some n) e h = run-same s n m e
  run-next m None e h = absurd (true≢false (sym h))

-- ---- keywords

module _ (s : Bytes) (at : ℕ) (r q : Found ℕ) where
  pub keyword-read : reads (run_at s at) s r ≡ string.get (drop at s) → reads (run_from s r) s q ≡ get_from string s r → reads (keyword_at s at) s q ≡ (pair string string).get (drop at s)
  unfolding keyword_at pair
  keyword-read e f =
      let first = run_at s at in
      let second = run-next s (run_end s at) r (string-stops s at r e) in
      let k : Bytes → Bytes → Bytes → Option ((Bytes × Bytes) × Bytes) = λ a b u. some ((a, b), u) in
      reads_same s q (λ h. ap (λ b. (first, b)) (sym (second (was_read s string (run_from s r) r q f h))))
      ∙ (sym (last-read s (λ b. (first, b)) (run_from s r) q)
      ∙ (sym (then-on s string (run_from s r) r q f first k) ∙ ap (λ x. after x λ a t. after (string.get t) (k a)) e))

-- ---- what a line does, by its first byte

abbrev pub code_of : Kept → ℕ
code_of Passes = 0
code_of Ends = 1
code_of Exits = 2
code_of Text = 3
code_of Models = 4
code_of BranchesIf = 5
code_of Branches = 6
code_of Counts = 7
code_of (Sets A) = 8
code_of (Sets B) = 9
code_of (Sets C) = 10

taken : Found Kept → Kept
taken (Some d) = d
taken None = Passes

is_taken : Found Kept → Bool
is_taken (Some d) = true
is_taken None = false

more : (k n : ℕ) → n ≤ k → (k ≡ n → ⊥) → suc n ≤ k
more k n h d = omega (arith, d)

module _ (k : ℕ) where
  big : eqb k 0 ≡ false → eqb k 1 ≡ false → eqb k 2 ≡ false → eqb k 3 ≡ false → eqb k 4 ≡ false → eqb k 5 ≡ false → eqb k 6 ≡ false → eqb k 7 ≡ false → 8 ≤ k
  big a b c d e f g h = more k 7 (more k 6 (more k 5 (more k 4 (more k 3 (more k 2 (more k 1 (more k 0 (omega arith) (eqb-false k 0 a)) (eqb-false k 1 b)) (eqb-false k 2 c)) (eqb-false k 3 d)) (eqb-false k 4 e)) (eqb-false k 5 f)) (eqb-false k 6 g)) (eqb-false k 7 h)

  pub coded : (d : Kept) → Some d ≡ does_found k → k ≡ code_of d
  unfolding does_found sets_found set_of choose taken is_taken
  coded d = either P (eqb k 0) (here 0 Passes refl) λ a. either P (eqb k 1) (here 1 Ends refl) λ b. either P (eqb k 2) (here 2 Exits refl) λ c. either P (eqb k 3) (here 3 Text refl) λ d.
      either P (eqb k 4) (here 4 Models refl) λ e. either P (eqb k 5) (here 5 BranchesIf refl) λ f. either P (eqb k 6) (here 6 Branches refl) λ g. either P (eqb k 7) (here 7 Counts refl) λ h.
      let l = big a b c d e f g h in
      either Q (eqb (k - 8) 0) (λ x. there l 0 (Sets A) refl x) λ x. either Q (eqb (k - 8) 1) (λ x. there l 1 (Sets B) refl x) λ y. either Q (eqb (k - 8) 2) (λ x. there l 2 (Sets C) refl x) λ z.
      λ q. absurd (true≢false (ap is_taken q))
    where
      P : Found Kept → Type 0
      P o = Some d ≡ o → k ≡ code_of d

      Q : Option Set → Type 0
      Q o = P (sets_found o)

      here : (i : ℕ) (w : Kept) → code_of w ≡ i → eqb k i ≡ true → Some d ≡ Some w → k ≡ code_of d
      here i w c e q = eqb-true k i e ∙ (sym c ∙ ap code_of (sym (ap taken q)))

      there : 8 ≤ k → (i : ℕ) (w : Kept) → code_of w ≡ 8 + i → eqb (k - 8) i ≡ true → Some d ≡ Some w → k ≡ code_of d
      there l i w c e q = let x = eqb-true (k - 8) i e in let y : k ≡ 8 + i = omega arith in y ∙ (sym c ∙ ap code_of (sym (ap taken q)))

  pub uncoded : None ≡ does_found k → 11 ≤ k
  unfolding does_found sets_found set_of choose is_taken
  uncoded = either P (eqb k 0) (λ e. no) λ a. either P (eqb k 1) (λ e. no) λ b. either P (eqb k 2) (λ e. no) λ c. either P (eqb k 3) (λ e. no) λ d.
      either P (eqb k 4) (λ e. no) λ e. either P (eqb k 5) (λ e. no) λ f. either P (eqb k 6) (λ e. no) λ g. either P (eqb k 7) (λ e. no) λ h.
      let l = big a b c d e f g h in
      either Q (eqb (k - 8) 0) (λ x. no) λ x. either Q (eqb (k - 8) 1) (λ x. no) λ y. either Q (eqb (k - 8) 2) (λ x. no) λ z.
      λ q. let m = more (k - 8) 2 (more (k - 8) 1 (more (k - 8) 0 (omega arith) (eqb-false (k - 8) 0 x)) (eqb-false (k - 8) 1 y)) (eqb-false (k - 8) 2 z) in omega arith
    where
      P : Found Kept → Type 0
      P o = None ≡ o → 11 ≤ k

      Q : Option Set → Type 0
      Q o = P (sets_found o)

      no : {d : Kept} → None ≡ Some d → 11 ≤ k
      no q = absurd (true≢false (sym (ap is_taken q)))

-- ---- lines

module _ (s : Bytes) (at : ℕ) where
  abbrev Reads : ℕ → Found ℕ → Type 0
  Reads k r = reads (line_by k s at) s r ≡ get_line_by k (drop at s)

  pub by_word : (k : ℕ) → k < 3 → Reads k (Some at)
  unfolding line_by get_line_by reads choose
  by_word k h = by (eqb k 0) (λ e. rw e) λ x. by (eqb k 1) (λ e. rw (x, e)) λ y. by (eqb k 2) (λ e. rw (x, y, e))
      λ z. let a = eqb-false k 0 x in let b = eqb-false k 1 y in let c = eqb-false k 2 z in absurd (omega (arith, a, b, c))

  pub by-text : (r : Found ℕ) → reads (run_at s at) s r ≡ string.get (drop at s) → Reads 3 r
  unfolding line_by get_line_by choose get_text
  by-text r e = sym (last-read s (λ b. doing (text b)) (run_at s at) r) ∙ ap (λ x. after x λ l t. some (doing (text l), t)) e

  pub by-branch : (r : Found ℕ) → reads (two_at s at) s r ≡ two.get (drop at s) → Reads 6 r
  unfolding line_by get_line_by choose get_branch
  by-branch r e = sym (last-read s (λ n. doing (branches n)) (two_at s at) r) ∙ ap (λ x. after x λ n t. some (doing (branches n), t)) e

  pub by-counts : (r : Found ℕ) → reads (field_at s at) s r ≡ field.get (drop at s) → Reads 7 r
  unfolding line_by get_line_by choose get_counts fields_line
  by-counts r e = sym (last-read s (λ a. fields_line counts [] [] a) (field_at s at) r) ∙ ap (λ x. after x λ a t. some (fields_line counts [] [] a, t)) e

  module _ (r q : Found ℕ) (f : reads (field_from s r) s q ≡ get_from field s r) where
    pub by-branch-if : reads (two_at s at) s r ≡ two.get (drop at s) → Reads 5 q
    unfolding line_by get_line_by choose get_branch_if fields_line
    by-branch-if e =
        let n = two_at s at in
        let k : ℕ → List (Lex Slot) → Bytes → Option (Line Slot ℕ × Bytes) = λ n a u. some (fields_line (branches_if n) [] [] a, u) in
        reads_same s q (λ h. ap (fields_line (branches_if n) [] []) (sym (field_next s (at + 2) r (two-stops s at r e) (was_read s field (field_from s r) r q f h))))
        ∙ (sym (last-read s (fields_line (branches_if n) [] []) (field_from s r) q)
        ∙ (sym (then-on s field (field_from s r) r q f n k) ∙ ap (λ x. after x λ a t. after (field.get t) (k a)) e))

    module _ (e : reads (field_at s at) s r ≡ field.get (drop at s)) where
      sets-read : (d : Set) → reads (fields_line (sets d) (field_at s at) [] (field_at s (run_end s at))) s q ≡ sets_line d (drop at s)
      unfolding sets_line fields_line
      sets-read d =
          let n = field_at s at in
          let k : List (Lex Slot) → List (Lex Slot) → Bytes → Option (Line Slot ℕ × Bytes) = λ n a u. some (fields_line (sets d) n [] a, u) in
          reads_same s q (λ h. ap (fields_line (sets d) n []) (sym (field_next s (run_end s at) r (field-stops s at r e) (was_read s field (field_from s r) r q f h))))
          ∙ (sym (last-read s (fields_line (sets d) n []) (field_from s r) q)
          ∙ (sym (then-on s field (field_from s r) r q f n k) ∙ ap (λ x. after x λ a t. after (field.get t) (k a)) e))

      by-set-a : Reads 8 q
      unfolding line_by get_line_by choose get_sets set_of set_at or_first
      by-set-a = sets-read set_a

      by-set-b : Reads 9 q
      unfolding line_by get_line_by choose get_sets set_of set_at or_first
      by-set-b = sets-read set_b

      by-set-c : Reads 10 q
      unfolding line_by get_line_by choose get_sets set_of set_at or_first
      by-set-c = sets-read set_c

      pub by-sets : (d : Kind) → Reads (code_of (Sets d)) q
      by-sets A = by-set-a
      by-sets B = by-set-b
      by-sets C = by-set-c

      pub by-models : (p : Found ℕ) → reads (field_from s q) s p ≡ get_from field s q → Reads 4 p
      unfolding line_by get_line_by choose get_models fields_line
      by-models p g =
          let n = field_at s at in
          let o = field_from s r in
          let a = field_from s q in
          let stop = field-stops s at r e in
          let k : List (Lex Slot) → List (Lex Slot) → Bytes → Option (Line Slot ℕ × Bytes) = λ n o u. after (field.get u) λ a v. some (fields_line models n o a, v) in
          let l : List (Lex Slot) → List (Lex Slot) → Bytes → Option (Line Slot ℕ × Bytes) = λ o a v. some (fields_line models n o a, v) in
          reads_same s p (λ h. let h' = was_read s field a q p g h in let h'' = was_read s field o r q f h' in
          let x = sym (field_next s (run_end s at) r stop h'') in
          let y = sym (field_next s (run_end s (run_end s at)) q (then-stops s (run_end s at) r q stop f) h') in
          λ j. fields_line models n (x j) (y j))
          ∙ (sym (last-read s (fields_line models n o) a p)
          ∙ (sym (then-on s field a q p g o l)
          ∙ (sym (then-on s field o r q f n k) ∙ ap (λ x. after x λ a t. after (field.get t) (k a)) e)))

  pub by-none : (k : ℕ) → 11 ≤ k → Reads k None
  unfolding get_line_by reads choose get_sets
  by-none k h =
      let x : 3 ≤ k - 8 = omega arith in
      let n : (i : ℕ) → i < 11 → eqb k i ≡ false = λ i l. ne_eqb k i (λ e. omega (arith, e)) in
      rw (n 0 (omega arith), n 1 (omega arith), n 2 (omega arith), n 3 (omega arith), n 4 (omega arith), n 5 (omega arith), n 6 (omega arith), n 7 (omega arith), set-none (k - 8) x)

-- what the code tells at its returns, for the byte that it has read
module _ (s : Bytes) (at : ℕ) where
  pub line-not : None ≡ found s (at + 1) → reads (line_at s at) s None ≡ line.get (drop at s)
  unfolding reads line get_byte after
  line-not e = let h : length s < at + 1 = found-out s e in let k : length s ≤ at = omega arith in rw (drop_of_length-le s k)

  module _ {from : ℕ} (e : Some from ≡ found s (at + 1)) (r : Found ℕ) where
    line-by : (k : ℕ) → get_or s at 0 ≡ k → Reads s from k r → reads (line_at s at) s r ≡ line.get (drop at s)
    unfolding line_at line get_byte after
    line-by k same g =
        let h : at + 1 ≤ length s = found-in s e in
        let l : at < length s = omega arith in
        let f : at + 1 ≡ suc at = add-one at in
        let m : from ≡ at + 1 = found-is s e in
        rw same (sym (ap (λ (i : ℕ). reads (line_by k s i) s r) m) ∙ (g ∙ (ap (λ (i : ℕ). get_line_by k (drop i s)) m ∙ rw (drop-cons s at 0 l, f, same))))

    pub line-does : {b : ℕ} → b ≡ get_or s at 0 → {f : Kept} → Some f ≡ does_found b → (d : Kept) → f ≡ d → Reads s from (code_of d) r → reads (line_at s at) s r ≡ line.get (drop at s)
    line-does {b} eb {f} c d is g = line-by (code_of d) (coded (get_or s at 0) d (ap Some (sym is) ∙ (c ∙ ap does_found eb))) g

  -- a line that has no more than its first byte
  pub line-word : {from : ℕ} → Some from ≡ found s (at + 1) → {b : ℕ} → b ≡ get_or s at 0 → {f : Kept} → Some f ≡ does_found b → (f ≡ Passes) ⊎ ((f ≡ Ends) ⊎ (f ≡ Exits)) → reads (line_at s at) s (Some from) ≡ line.get (drop at s)
  line-word {from} e eb c (inl is) = line-does e (Some from) eb c Passes is (by_word s from 0 (omega arith))
  line-word {from} e eb c (inr (inl is)) = line-does e (Some from) eb c Ends is (by_word s from 1 (omega arith))
  line-word {from} e eb c (inr (inr is)) = line-does e (Some from) eb c Exits is (by_word s from 2 (omega arith))

  pub line-none : {from : ℕ} → Some from ≡ found s (at + 1) → {b : ℕ} → b ≡ get_or s at 0 → None ≡ does_found b → reads (line_at s at) s None ≡ line.get (drop at s)
  line-none {from} e {b} eb c = line-by e None (get_or s at 0) refl (by-none s from (get_or s at 0) (uncoded (get_or s at 0) (c ∙ ap does_found eb)))
