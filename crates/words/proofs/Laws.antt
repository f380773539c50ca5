-- A row against an operation, byte by byte; the rows are the sixteen words, each beside its place; and `word-is`, what the number of a word says. Assumes nothing.
use Prim.Native.Nat.{ℕ, zero, suc, ◌+◌, ◌≤◌, ◌<◌, suc-le-suc}
use native.Mathlib.Nat.{le_of_suc-le-suc, not-suc-le-zero}
use native.Mathlib.Numerals.{add-one}
use native.Mathlib.Omega.{arith}
use mathlib.Core.Path.{◌≡◌, refl, ap, sym, ◌∙◌}
use mathlib.Core.Bool.{Bool, true, false, cond, not}
use mathlib.Core.List.{List, [], ◌∷◌}
use lib.Dec.{eqb, ltb}
use borrow.Author.Tests.{eq-eqb, ne_eqb}
use lib.ListN.{length, get_or, drop, drop_of_length-le}
use lib.Seq.{drop-cons}
use Rattle.std.specs.Prelude.{Option, Some, None}
use Rattle.std.specs.Option.{is_some}
use Rattle.text.specs.Bytes.{Bytes, bytes, same}
use Rattle.text.specs.Words.{place_among, words, word_number}
use Rattle.text.proofs.Same.{same-is}
use Rattle.rules.specs.Statement.{statements, model, statement_of}
use Rattle.kinds.specs.Kinds.{statement_by}
use Rattle.kinds.specs.declared.Set.TheVariants.{A, B, C}
use Rattle.kinds.specs.declared.Word.{Word}
use Rattle.kinds.specs.declared.Word.TheVariants.{Macro, Mend, Mexit, Lcl, Gbl, Set, Aif, Ago, Anop, Actr}
use Rattle.words.specs.Trimmed.{trimmed}
use Rattle.words.specs.Places.{place_of}

-- ---- a row and an operation, byte by byte

trim : (b : Bool) (c : ℕ) (s t : Bytes) → length t ≤ length s → length (cond b [] (c ∷ t)) ≤ suc (length s)
trim true c s t h = omega arith
trim false c s t h = suc-le-suc h

pub trimmed-length : (s : Bytes) → length (trimmed s) ≤ length s
trimmed-length [] = omega arith
trimmed-length (c ∷ s) = trim (eqb c 32) c s (trimmed s) (trimmed-length s)

ended : (b : Bool) (c : ℕ) (s : Bytes) → same (cond b [] (c ∷ s)) [] ≡ b
ended true c s = refl
ended false c s = refl

-- the row and the operation, both read from place i on
module _ (row op : Bytes) (i : ℕ) where
  abbrev pub rest : Bool
  rest = same (trimmed (drop i row)) (drop i op)

  module _ (hr : i < length row) (ho : i < length op) where
    pub blank : get_or row i 0 ≡ 32 → rest ≡ false
    blank e = rw (drop-cons row i 0, drop-cons op i 0) (simp (eq-eqb _ _ e))

    pub differs : (get_or row i 0 ≡ 32 → ⊥) → (get_or row i 0 ≡ get_or op i 0 → ⊥) → rest ≡ false
    differs n d = rw (drop-cons row i 0, drop-cons op i 0) (simp (ne_eqb _ _ n, ne_eqb _ _ d))

    pub agrees : (get_or row i 0 ≡ 32 → ⊥) → get_or row i 0 ≡ get_or op i 0 → rest ≡ same (trimmed (drop (i + 1) row)) (drop (i + 1) op)
    agrees n e = rw (add-one, drop-cons row i 0, drop-cons op i 0) (simp (ne_eqb _ _ n, eq-eqb _ _ e))

  pub at-end : i < length row → length op ≤ i → rest ≡ eqb (get_or row i 0) 32
  at-end hr ho = rw (drop-cons row i 0, drop_of_length-le op ho) (ended (eqb (get_or row i 0) 32) (get_or row i 0) (trimmed (drop (suc i) row)))

  pub both_end : length row ≤ i → length op ≤ i → rest ≡ true
  both_end hr ho = rw (drop_of_length-le row hr, drop_of_length-le op ho)

-- ---- the sixteen rows

abbrev pub rows : List (Bytes × Word)
rows =
    (bytes "MACRO   ", Macro) ∷ (bytes "MEND    ", Mend) ∷ (bytes "MEXIT   ", Mexit)
    ∷ (bytes "LCLA    ", Lcl A) ∷ (bytes "LCLB    ", Lcl B) ∷ (bytes "LCLC    ", Lcl C)
    ∷ (bytes "GBLA    ", Gbl A) ∷ (bytes "GBLB    ", Gbl B) ∷ (bytes "GBLC    ", Gbl C)
    ∷ (bytes "SETA    ", Set A) ∷ (bytes "SETB    ", Set B) ∷ (bytes "SETC    ", Set C)
    ∷ (bytes "AIF     ", Aif) ∷ (bytes "AGO     ", Ago) ∷ (bytes "ANOP    ", Anop) ∷ (bytes "ACTR    ", Actr) ∷ []

-- rows and texts agree, the first row's word having place n
abbrev Placed : List (Bytes × Word) → List Bytes → ℕ → Type 0
Placed [] ws n = Unit {0}
Placed (r ∷ rs) [] n = Unit {0}
Placed (r ∷ rs) (w ∷ ws) n = (trimmed r.0 ≡ w) × (place_of (Some r.1) ≡ n) × Placed rs ws (suc n)

all_placed : Placed rows words 0
unfolding words
all_placed = (refl, refl, (refl, refl, (refl, refl, (refl, refl, (refl, refl, (refl, refl, (refl, refl, (refl, refl, (refl, refl, (refl, refl, (refl, refl, (refl, refl, (refl, refl, (refl, refl, (refl, refl, (refl, refl, tt))))))))))))))))

placed-at : (rs : List (Bytes × Word)) (ws : List Bytes) (n k : ℕ) (d : Bytes × Word) → Placed rs ws n → k < length rs → k < length ws
    → (trimmed (get_or rs k d).0 ≡ get_or ws k []) × (place_of (Some (get_or rs k d).1) ≡ n + k)
placed-at [] ws n k d p h l = absurd (not-suc-le-zero h)
placed-at (r ∷ rs) [] n k d p h l = absurd (not-suc-le-zero l)
placed-at (r ∷ rs) (w ∷ ws) n zero d p h l = (p.0, omega (arith, p.1))
placed-at (r ∷ rs) (w ∷ ws) n (suc k) d p h l =
    let q = placed-at rs ws (suc n) k d p.2 (le_of_suc-le-suc h) (le_of_suc-le-suc l) in
    (q.0, omega (arith, q.1))

-- ---- a search of a list of texts, one text further

module _ (ws : List Bytes) (op : Bytes) (k : ℕ) (h : k < length ws) where
  found : same (get_or ws k []) op ≡ true → k + place_among (drop k ws) op ≡ k
  found e = rw (drop-cons ws k [], e, place_among) (omega arith)

  next : same (get_or ws k []) op ≡ false → k + place_among (drop k ws) op ≡ k + 1 + place_among (drop (k + 1) ws) op
  next e = rw (add-one, drop-cons ws k [], e, place_among) (omega arith)

-- ---- the statement by its word

by-place : (w : Option Word) → statement_by w ≡ get_or statements (place_of w) model
unfolding statements
by-place (Some Macro) = refl
by-place (Some Mend) = refl
by-place (Some Mexit) = refl
by-place (Some (Lcl A)) = refl
by-place (Some (Lcl B)) = refl
by-place (Some (Lcl C)) = refl
by-place (Some (Gbl A)) = refl
by-place (Some (Gbl B)) = refl
by-place (Some (Gbl C)) = refl
by-place (Some (Set A)) = refl
by-place (Some (Set B)) = refl
by-place (Some (Set C)) = refl
by-place (Some Aif) = refl
by-place (Some Ago) = refl
by-place (Some Anop) = refl
by-place (Some Actr) = refl
by-place None = refl

-- the word of each row, and none behind the last
pub by-row : (k : ℕ) (d : Bytes × Word) → k < 16 → statement_by (Some (get_or rows k d).1) ≡ get_or statements k model
unfolding words
by-row k d h =
    let place : place_of (Some (get_or rows k d).1) ≡ k = omega (arith, (placed-at rows words 0 k d all_placed h h).1) in
    by-place (Some (get_or rows k d).1) ∙ ap (λ n. get_or statements n model) place

-- a word whose place is the operation's number is the word of its statement
pub by-number : (w : Option Word) (op : Bytes) → place_of w ≡ word_number op → statement_by w ≡ statement_of op
unfolding statement_of
by-number w op h = by-place w ∙ ap (λ n. get_or statements n model) h

-- the search of the words stands at word k, and row k was tested
module _ (op : Bytes) (k : ℕ) (d : Bytes × Word) (b : Bool) (within : k < 16) (so-far : place_among words op ≡ k + place_among (drop k words) op) (e : b ≡ same (trimmed (get_or rows k d).0) op) where
  tested : same (get_or words k []) op ≡ b
  unfolding words
  tested = ap (λ w. same w op) (sym (placed-at rows words 0 k d all_placed within within).0) ∙ sym e

  pub found-number : b ≡ true → place_of (Some (get_or rows k d).1) ≡ word_number op
  unfolding words word_number
  found-number t = omega (arith, (placed-at rows words 0 k d all_placed within within).1, so-far, found words op k within (tested ∙ t))

  pub found-statement : b ≡ true → statement_by (Some (get_or rows k d).1) ≡ statement_of op
  found-statement t = by-number (Some (get_or rows k d).1) op (found-number t)

  pub next-number : b ≡ false → place_among words op ≡ k + 1 + place_among (drop (k + 1) words) op
  unfolding words
  next-number f = so-far ∙ next words op k within (tested ∙ f)

pub none-number : (op : Bytes) (k : ℕ) → 16 ≤ k → k ≤ 16 → place_among words op ≡ k + place_among (drop k words) op → 16 ≡ word_number op
unfolding words word_number
none-number op k h l e = rw e (rw (drop_of_length-le words h) (omega (arith, h, l)))

-- ---- the number of a word is the place of that word

placed : (ws : List Bytes) (op : Bytes) → place_among ws op < length ws → get_or ws (place_among ws op) [] ≡ op
placed [] op h = absurd (not-suc-le-zero h)
placed (w ∷ ws) op h = by (same w op) refl (placed ws op) h
  where
    place : Bool → ℕ
    place t = elim t [ true ↦ 0 | false ↦ suc (place_among ws op) ]

    by : (t : Bool) → same w op ≡ t → (place_among ws op < length ws → get_or ws (place_among ws op) [] ≡ op) → place t < suc (length ws) → get_or (w ∷ ws) (place t) [] ≡ op
    by true e later l = same-is w op e
    by false e later l = later (le_of_suc-le-suc l)

pub word-is : (op : Bytes) → word_number op < 16 → get_or words (word_number op) [] ≡ op
unfolding word_number words
word-is op h = placed words op h

-- ---- which operations are words

known-word : (w : Option Word) (op : Bytes) → place_of w ≡ word_number op → (is_some w ≡ ltb (word_number op) 16) × (not (is_some w) ≡ eqb (word_number op) 16)
known-word w op h = ((by w).0 ∙ ap (λ n. ltb n 16) h, (by w).1 ∙ ap (λ n. eqb n 16) h)
  where
    by : (w : Option Word) → (is_some w ≡ ltb (place_of w) 16) × (not (is_some w) ≡ eqb (place_of w) 16)
    by (Some Macro) = (refl, refl)
    by (Some Mend) = (refl, refl)
    by (Some Mexit) = (refl, refl)
    by (Some (Lcl A)) = (refl, refl)
    by (Some (Lcl B)) = (refl, refl)
    by (Some (Lcl C)) = (refl, refl)
    by (Some (Gbl A)) = (refl, refl)
    by (Some (Gbl B)) = (refl, refl)
    by (Some (Gbl C)) = (refl, refl)
    by (Some (Set A)) = (refl, refl)
    by (Some (Set B)) = (refl, refl)
    by (Some (Set C)) = (refl, refl)
    by (Some Aif) = (refl, refl)
    by (Some Ago) = (refl, refl)
    by (Some Anop) = (refl, refl)
    by (Some Actr) = (refl, refl)
    by None = (refl, refl)

-- the tests for a word and for none, by the number of the operation
pub some-word : (w : Option Word) (some : Bool) (op : Bytes) → place_of w ≡ word_number op → some ≡ is_some w → some ≡ ltb (word_number op) 16
some-word w some op h e = e ∙ (known-word w op h).0

turned : (some none : Bool) → some ≡ not none → none ≡ not some
turned some true e = sym (ap not e)
turned some false e = sym (ap not e)

pub no-word : (w : Option Word) (none : Bool) (op : Bytes) → place_of w ≡ word_number op → is_some w ≡ not none → (none ≡ not (ltb (word_number op) 16)) × (none ≡ eqb (word_number op) 16)
no-word w none op h e = (turned (is_some w) none e ∙ ap not (known-word w op h).0, turned (is_some w) none e ∙ (known-word w op h).1)
