-- What the functions that find a line's fields tell where they return. Assumes nothing.
use Prim.Native.Nat.{ℕ, zero, suc, ◌+◌, ◌-◌, ◌≤◌, ◌<◌}
use mathlib.Core.Path.{◌≡◌, refl, sym, ap, ◌∙◌}
use mathlib.Core.Bool.{Bool, true, ◌&&◌, true≢false}
use mathlib.Core.List.{[], map}
use mathlib.Core.Option.{Option, none, some}
use native.Mathlib.Omega.{arith}
use lib.Dec.{eqb, leb}
use lib.ListN.{length, get_or, take, drop, drop_of_length-le}
use lib.Seq.{drop-drop}
use borrow.Author.Tests.{leb-false}
use Rattle.std.specs.Prelude.{Option as Found, Some, None}
use Rattle.std.specs.Option.{unwrap_or}
use mathlib.Core.Logic.{◌⊎◌, inl, inr}
use Rattle.text.specs.Bytes.{Bytes}
use Rattle.rules.specs.Choice.{choose}
use Rattle.rules.specs.Statement.{Set, set_a, set_b, set_c, Line, passes, ends, exits, text, models, sets, branches_if, branches, counts, doing}
use Rattle.rules.proofs.Choices.{by, either, chosen}
use Rattle.deck.specs.Slots.{Slot}
use Rattle.deck.specs.Coders.{set_of as kind_of}
use Rattle.spans.specs.Spans.{part_of}
use Rattle.kinds.specs.Kinds.{set_for, set_of as meant, does_for}
use Rattle.kinds.specs.declared.Set.{Set as Kind}
use Rattle.kinds.specs.declared.Set.TheVariants.{A}
use Rattle.kinds.specs.declared.Does.{Does as Kept}
use Rattle.kinds.specs.declared.Does.TheVariants.{Passes, Ends, Exits, Text, Models, BranchesIf, Branches, Counts, Sets}
use Rattle.deck_reading.specs.Reading.{slot_lex, two_at, run_at, run_end, found, is_there, run_found, field_at, set_at, or_first, fields_line, line_by, line_at, sets_found, does_found, does_taken, does_by, does_in, line_in}
use Rattle.deck_reading.proofs.Runs.{is_to, found-is, found-out, two-same, run-same, end_same, found-there}
use Rattle.deck_reading.proofs.Lines.{field-same}

take_none : (n : ℕ) → take {A = ℕ} n [] ≡ []
take_none zero = refl
take_none (suc n) = refl

module _ (s : Bytes) where
  -- behind the last byte nothing is
  gone : {n : ℕ} → length s ≤ n → drop (length s) s ≡ drop n s
  gone h = let l : length s ≤ length s = omega arith in drop_of_length-le s l ∙ sym (drop_of_length-le s h)

  pub past-place : (n : ℕ) (r : Found ℕ) → r ≡ found s n → drop (unwrap_or r (length s)) s ≡ drop n s
  past-place n (Some m) e = ap (λ (i : ℕ). drop i s) (found-is s e)
  past-place n None e = let h : length s < n = found-out s e in let k : length s ≤ n = omega arith in gone k

  module _ (at : ℕ) where
    pub run-cut : (m n : ℕ) → drop m s ≡ drop (at + 2) s → n ≡ two_at s at → part_of s m n ≡ run_at s at
    unfolding run_at part_of
    run-cut m n e f = λ j. take (f j) (e j)

    pub past-run : (r : Found ℕ) → r ≡ run_found s at → drop (unwrap_or r (length s)) s ≡ drop (run_end s at) s
    unfolding run_found is_there run_end is_to
    past-run (Some m) e = ap (λ (i : ℕ). drop i s) (found-there s at e).is-end
    past-run None e = by (leb (at + 2) (length s))
        (λ h. by (leb (at + 2 + two_at s at) (length s))
        (λ k. absurd (true≢false (sym (ap is_to (e ∙ chosen (Some (at + 2 + two_at s at)) None (both h k))))))
        (λ k. let x = leb-false (at + 2 + two_at s at) (length s) k in let y : length s ≤ at + 2 + two_at s at = omega arith in gone y))
        (λ h. let x = leb-false (at + 2) (length s) h in let y : length s ≤ at + 2 + two_at s at = omega arith in gone y)
      where
        both : {x y : Bool} → x ≡ true → y ≡ true → (x && y) ≡ true
        both h k = λ j. h j && k j

-- ---- what a line does

-- what is none is taken as SETA's
pub does-told : (k : ℕ) (s : Bytes) (at : ℕ) → does_taken k ≡ does_for (line_by k s at).does
unfolding does_taken does_found line_by choose doing fields_line set_at sets_found or_first
does-told k s at =
    by (eqb k 0) (λ e. rw e) λ a. by (eqb k 1) (λ e. rw (a, e)) λ b. by (eqb k 2) (λ e. rw (a, b, e)) λ c. by (eqb k 3) (λ e. rw (a, b, c, e)) λ d. by (eqb k 4) (λ e. rw (a, b, c, d, e)) λ f.
    by (eqb k 5) (λ e. rw (a, b, c, d, f, e)) λ g. by (eqb k 6) (λ e. rw (a, b, c, d, f, g, e)) λ h. by (eqb k 7) (λ e. rw (a, b, c, d, f, g, h, e)) λ i. rw (a, b, c, d, f, g, h, i) (set (kind_of (k - 8)))
  where
    set : (o : Option Set) → unwrap_or (sets_found o) (Sets A) ≡ Sets (set_for (or_first o))
    set none = refl
    set (some k) = refl

-- what a byte is taken as means what the byte means
pub taken-meant : (k : ℕ) (s : Bytes) (at : ℕ) → does_in (does_taken k) s at ≡ does_by k s at
unfolding does_taken does_found does_by does_in choose set_at sets_found or_first
taken-meant k s at =
    by (eqb k 0) (λ e. rw e) λ a. by (eqb k 1) (λ e. rw (a, e)) λ b. by (eqb k 2) (λ e. rw (a, b, e)) λ c. by (eqb k 3) (λ e. rw (a, b, c, e)) λ d. by (eqb k 4) (λ e. rw (a, b, c, d, e)) λ f.
    by (eqb k 5) (λ e. rw (a, b, c, d, f, e)) λ g. by (eqb k 6) (λ e. rw (a, b, c, d, f, g, e)) λ h. by (eqb k 7) (λ e. rw (a, b, c, d, f, g, h, e)) λ i. rw (a, b, c, d, f, g, h, i) (set (kind_of (k - 8)))
  where
    set : (o : Option Set) → does_in (unwrap_or (sets_found o) (Sets A)) s at ≡ sets (or_first o)
    set none = refl
    set (some set_a) = refl
    set (some set_b) = refl
    set (some set_c) = refl

-- ---- a line's fields

-- a line with what it has behind its first byte
line_of : Kept → Bytes → ℕ → Line Slot ℕ
line_of Passes s at = doing passes
line_of Ends s at = doing ends
line_of Exits s at = doing exits
line_of Text s at = doing (text (run_at s at))
line_of Models s at = fields_line models (field_at s at) (field_at s (run_end s at)) (field_at s (run_end s (run_end s at)))
line_of BranchesIf s at = fields_line (branches_if (two_at s at)) [] [] (field_at s (at + 2))
line_of Branches s at = doing (branches (two_at s at))
line_of Counts s at = fields_line counts [] [] (field_at s at)
line_of (Sets k) s at = fields_line (sets (meant k)) (field_at s at) [] (field_at s (run_end s at))

kept : (k : Set) → k ≡ meant (set_for k)
kept set_a = refl
kept set_b = refl
kept set_c = refl

line-told : (k : ℕ) (s : Bytes) (at : ℕ) → line_by k s at ≡ line_of (does_for (line_by k s at).does) s at
unfolding line_by choose doing fields_line line_of
line-told k s at = either P (eqb k 0) (λ e. refl) λ e. either P (eqb k 1) (λ e. refl) λ e. either P (eqb k 2) (λ e. refl) λ e. either P (eqb k 3) (λ e. refl) λ e. either P (eqb k 4) (λ e. refl) λ e.
    either P (eqb k 5) (λ e. refl) λ e. either P (eqb k 6) (λ e. refl) λ e. either P (eqb k 7) (λ e. refl) λ e. ap (λ (k : Set). fields_line (sets k) (field_at s at) [] (field_at s (run_end s at))) (kept (set_at (k - 8)))
  where
    P : Line Slot ℕ → Type 0
    P l = l ≡ line_of (does_for l.does) s at

module _ (s : Bytes) where
  -- a field that is not there
  absent : field_at s (length s) ≡ []
  unfolding field_at run_at part_of
  absent = let h : length s ≤ length s + 2 = omega arith in ap (map slot_lex) (ap (take (two_at s (length s))) (drop_of_length-le s h) ∙ take_none (two_at s (length s)))

  two_behind : (m n : ℕ) → drop m s ≡ drop n s → drop (m + 2) s ≡ drop (n + 2) s
  two_behind m n e = sym (drop-drop 2 m s) ∙ (ap (drop 2) e ∙ drop-drop 2 n s)

  moved : (m n : ℕ) → drop m s ≡ drop n s → (d : Kept) → line_of d s m ≡ line_of d s n
  unfolding line_of
  moved m n e Passes = refl
  moved m n e Ends = refl
  moved m n e Exits = refl
  moved m n e Text = ap (λ t. doing (text t)) (run-same s m n e)
  moved m n e Models =
      let f = end_same s m n e in
      λ j. fields_line models (field-same s m n e j) (field-same s (run_end s m) (run_end s n) f j) (field-same s (run_end s (run_end s m)) (run_end s (run_end s n)) (end_same s (run_end s m) (run_end s n) f) j)
  moved m n e BranchesIf = λ j. fields_line (branches_if (two-same s m n e j)) [] [] (field-same s (m + 2) (n + 2) (two_behind m n e) j)
  moved m n e Branches = ap (λ t. doing (branches t)) (two-same s m n e)
  moved m n e Counts = ap (λ a. fields_line counts [] [] a) (field-same s m n e)
  moved m n e (Sets k) = λ j. fields_line (sets (meant k)) (field-same s m n e j) [] (field-same s (run_end s m) (run_end s n) (end_same s m n e) j)

  module _ (at first : ℕ) (e : drop first s ≡ drop (at + 1) s) where
    -- a line by what it does, read from where its first byte ends
    does-line : (d : Kept) → d ≡ does_for (line_at s at).does → line_of d s first ≡ line_at s at
    unfolding line_at
    does-line d g = moved first (at + 1) e d ∙ (ap (λ (d : Kept). line_of d s (at + 1)) g ∙ sym (line-told (get_or s at 0) s (at + 1)))

    module _ {d : Kept} (k : Kept) (is : d ≡ k) (h : d ≡ does_for (line_at s at).does) where
      told : (n o a : ℕ) → fields_line (does_in k s first) (field_at s n) (field_at s o) (field_at s a) ≡ line_of k s first
          → line_in s (record { does = d; first = first; name = n; operation = o; operand = a }) ≡ line_at s at
      unfolding line_in
      told n o a f = ap (λ (d : Kept). fields_line (does_in d s first) (field_at s n) (field_at s o) (field_at s a)) is ∙ (f ∙ does-line k (sym is ∙ h))

    abbrev pub Told : Kept → ℕ → ℕ → ℕ → Type 0
    Told d n o a = d ≡ does_for (line_at s at).does → line_in s (record { does = d; first = first; name = n; operation = o; operand = a }) ≡ line_at s at

    pub bare-line : (d : Kept) → (d ≡ Passes) ⊎ ((d ≡ Ends) ⊎ ((d ≡ Exits) ⊎ ((d ≡ Text) ⊎ (d ≡ Branches)))) → Told d (length s) (length s) (length s)
    unfolding does_in fields_line doing line_of
    bare-line d (inl e) h = told Passes e h (length s) (length s) (length s) (λ j. record { does = passes; name = absent j; operation = absent j; operand = absent j })
    bare-line d (inr (inl e)) h = told Ends e h (length s) (length s) (length s) (λ j. record { does = ends; name = absent j; operation = absent j; operand = absent j })
    bare-line d (inr (inr (inl e))) h = told Exits e h (length s) (length s) (length s) (λ j. record { does = exits; name = absent j; operation = absent j; operand = absent j })
    bare-line d (inr (inr (inr (inl e)))) h = told Text e h (length s) (length s) (length s) (λ j. record { does = text (run_at s first); name = absent j; operation = absent j; operand = absent j })
    bare-line d (inr (inr (inr (inr e)))) h = told Branches e h (length s) (length s) (length s) (λ j. record { does = branches (two_at s first); name = absent j; operation = absent j; operand = absent j })

    pub models-line : (d : Kept) → d ≡ Models → (o a : ℕ) → drop o s ≡ drop (run_end s first) s → drop a s ≡ drop (run_end s o) s → Told d first o a
    unfolding does_in line_of
    models-line d is o a e f h = told Models is h first o a (λ j. fields_line models (field_at s first) (field-same s o (run_end s first) e j) (field-same s a (run_end s (run_end s first)) (f ∙ end_same s o (run_end s first) e) j))

    pub branch-if-line : (d : Kept) → d ≡ BranchesIf → (a : ℕ) → drop a s ≡ drop (first + 2) s → Told d (length s) (length s) a
    unfolding does_in line_of
    branch-if-line d is a e h = told BranchesIf is h (length s) (length s) a (λ j. fields_line (branches_if (two_at s first)) (absent j) (absent j) (field-same s a (first + 2) e j))

    pub counts-line : (d : Kept) → d ≡ Counts → Told d (length s) (length s) first
    unfolding does_in line_of
    counts-line d is h = told Counts is h (length s) (length s) first (λ j. fields_line counts (absent j) (absent j) (field_at s first))

    pub sets-line : (d : Kept) (k : Kind) → d ≡ Sets k → (a : ℕ) → drop a s ≡ drop (run_end s first) s → Told d first (length s) a
    unfolding does_in line_of
    sets-line d k is a e h = told (Sets k) is h first (length s) a (λ j. fields_line (sets (meant k)) (field_at s first) (absent j) (field-same s a (run_end s first) e j))
