-- What a field's bytes stand for is where the code reads it: the workspace by kinds. Assumes nothing.
use Prim.Native.Nat.{ℕ, zero, suc, pred, ◌+◌, ◌*◌, ◌-◌, ◌≤◌, ◌<◌}
use native.Mathlib.Omega.{arith}
use native.Mathlib.Numerals.{add-one}
use mathlib.Core.Path.{◌≡◌, refl, ap, sym, ◌∙◌}
use mathlib.Core.Bool.{Bool, true, false, true≢false}
use mathlib.Core.Logic.{◌⊎◌, inl, inr}
use mathlib.Core.List.{List, [], ◌∷◌, map}
use lib.Dec.{eqb, ltb}
use lib.ListN.{length, get_or, take, drop, drop_of_length-le, get_or-eq_default}
use lib.Seq.{drop-cons}
use lib.IntN.{ℤ, pos}
use borrow.Author.Tests.{ltb-true, ltb-false, lt-ltb, le-ltb, eqb-true, eqb-false, ne_eqb, eq-eqb}
use Rattle.text.specs.Bytes.{Bytes}
use Rattle.rules.specs.Choice.{choose}
use Rattle.rules.specs.Lexemes.{Lex, byte, mark, ref, lone}
use Rattle.rules.specs.Statement.{Set, set_a, set_b, set_c}
use Rattle.rules.specs.Grammar.{Kind, parameter, symbol, syslist, sysndx, sysect, unknown}
use Rattle.rules.specs.Evaluate.{number, string, Cell, shown}
use Rattle.rules.proofs.Choices.{by, chosen, passed_over, either}
use Rattle.deck.specs.Coders.{set_of}
use Rattle.grammar.specs.Tokens.{kind_of}
use Rattle.grammar.specs.Kinds.{number_of}
use Rattle.std.specs.Prelude.{Some, None}
use Rattle.std.specs.Prelude.{Option as Maybe}
use Rattle.kinds.specs.declared.Set.{Set as Kept-set}
use Rattle.kinds.specs.declared.Set.TheVariants.{A, B, C}
use Rattle.kinds.specs.declared.Kind.{Kind as Kept}
use Rattle.kinds.specs.declared.Kind.TheVariants.{Parameter, Symbol, List as Listed, Index, Section, Unknown}
use Rattle.kinds.specs.Kinds.{kind_for, kind_of as kind_meant, set_of as set_meant}
use Rattle.kinds.proofs.Back.{kind-back}
use Rattle.deck_reading.specs.Reading.{or_first, set_at, kinds_at}
use Rattle.deck_reading.specs.Reading.{run_at as deck_run}
use Rattle.deck_reading.specs.Heads.{globals_place}
use Rattle.value_sums.specs.Answers.{lex_by, toks_by}
use Rattle.spans.specs.Spans.{part_of}
use Rattle.work_cells.specs.Cells.{cell_of, value_in, string_in, integer_in}
use Rattle.work_frames.specs.Layout.{level_at, section_in, parameters_in, text_in}
use Rattle.work_frames.specs.Frames.{run_at, runs_at, place_in, parameter_at, level_in}
use Rattle.work_frames.specs.Holding.{set_kind, kind_in, Holding}
use Rattle.work_frames.specs.declared.Frame.{Frame}
use Rattle.value_references.specs.Referring.{kind_by, cell_number, is_placed, basis_of, run_place}

-- ---- kinds by their numbers

kind-small : (n : ℕ) → number_of (kind_of n) < 5
unfolding number_of kind_of
kind-small n = either P (eqb n 0) (λ e. omega arith) λ e. either P (eqb n 1) (λ e. omega arith) λ e. either P (eqb n 2) (λ e. omega arith) λ e. either P (eqb n 3) (λ e. omega arith) λ e. omega arith
  where
    P : Kind → Type 0
    P k = number_of k < 5

set-small : (s : Set) → number_of (symbol s) < 5
unfolding number_of
set-small set_a = omega arith
set-small set_b = omega arith
set-small set_c = omega arith

-- the code's word for a kind says which it is
module _ {k : Kind} {n : Kept} (e : n ≡ kind_for k) where
  pub is-kind : {x : Kept} → n ≡ x → k ≡ kind_meant x
  is-kind h = sym (kind-back k) ∙ ap kind_meant (sym e ∙ h)

  pub is-string : {x : Kept-set} → is_placed k ≡ true → n ≡ Symbol x → k ≡ symbol set_c
  unfolding is_placed
  is-string {x} p h = let it = is-kind h in go x it (sym (ap is_placed it) ∙ p)
    where
      go : (x : Kept-set) → k ≡ symbol (set_meant x) → is_placed (symbol (set_meant x)) ≡ true → k ≡ symbol set_c
      go A it p = absurd (true≢false (sym p))
      go B it p = absurd (true≢false (sym p))
      go C it p = it

-- a kind that is not placed
pub unplaced : (k : Kind) {n x : Kept} {P : Type 0} → n ≡ kind_for k → n ≡ x → is_placed k ≡ true → is_placed (kind_meant x) ≡ false → P
unplaced k e h p f = absurd (true≢false (sym p ∙ ap is_placed (is-kind e h) ∙ f))

-- the kinds of which a reference may take an entry
is_divided : Kept → Bool
is_divided Parameter = true
is_divided (Symbol x) = false
is_divided Listed = true
is_divided Index = false
is_divided Section = false
is_divided Unknown = false

-- one of the others is neither of these
module _ {n : Kept} (h : ((x : Kept-set) × n ≡ Symbol x) ⊎ (n ≡ Index ⊎ (n ≡ Section ⊎ n ≡ Unknown))) where
  undivided : is_divided n ≡ false
  unfolding is_divided
  undivided = elim h [
    | inl w ↦ ap is_divided w.1
    | inr u ↦ elim u [ inl e ↦ ap is_divided e | inr v ↦ elim v [ inl e ↦ ap is_divided e | inr e ↦ ap is_divided e ] ]
  ]

  pub not-parameter : n ≡ Parameter → ⊥
  unfolding is_divided
  not-parameter z = true≢false (sym (ap is_divided z) ∙ undivided)

  pub not-list : n ≡ Listed → ⊥
  unfolding is_divided
  not-list z = true≢false (sym (ap is_divided z) ∙ undivided)

-- the kinds of a deck's slots
module _ (deck : Bytes) (at q : ℕ) where
  pub unknown-set : 4 ≡ set_kind deck at q → Unknown ≡ kind_for (kind_of (set_kind deck at q))
  unfolding kind_of choose
  unknown-set e = ap (λ n. kind_for (kind_of n)) e

  pub set-a-is : 1 ≡ set_kind deck at q → Symbol A ≡ kind_for (kind_of (set_kind deck at q))
  unfolding kind_of choose
  set-a-is e = ap (λ n. kind_for (kind_of n)) e

  pub set-b-is : 2 ≡ set_kind deck at q → Symbol B ≡ kind_for (kind_of (set_kind deck at q))
  unfolding kind_of choose
  set-b-is e = ap (λ n. kind_for (kind_of n)) e

  pub set-c-is : 3 ≡ set_kind deck at q → Symbol C ≡ kind_for (kind_of (set_kind deck at q))
  unfolding kind_of choose
  set-c-is e = ap (λ n. kind_for (kind_of n)) e

pub set-kind-none : (deck kinds : Bytes) (at q : ℕ) → kinds ≡ deck_run deck at → length kinds ≤ q → 4 ≡ set_kind deck at q
unfolding set_kind kinds_at
set-kind-none deck kinds at q e h = sym (ap (λ r. get_or (map (λ k. number_of (symbol k)) (map set_at r)) q 4) (sym e) ∙ none kinds q h)
  where
    none : (r : Bytes) (q : ℕ) → length r ≤ q → get_or (map (λ k. number_of (symbol k)) (map set_at r)) q 4 ≡ 4
    none [] q h = refl
    none (b ∷ r) zero h = absurd (omega arith)
    none (b ∷ r) (suc q) h = none r q (omega arith)

pub set-kind-is : (deck kinds : Bytes) (at q b n : ℕ) → kinds ≡ deck_run deck at → q < length kinds → b ≡ get_or kinds q 0 → number_of (symbol (set_at b)) ≡ n → n ≡ set_kind deck at q
unfolding set_kind kinds_at
set-kind-is deck kinds at q b n e h is f =
    sym (ap (λ r. get_or (map (λ k. number_of (symbol k)) (map set_at r)) q 4) (sym e) ∙ one kinds q h ∙ ap (λ i. number_of (symbol (set_at i))) (sym is) ∙ f)
  where
    one : (r : Bytes) (q : ℕ) → q < length r → get_or (map (λ k. number_of (symbol k)) (map set_at r)) q 4 ≡ number_of (symbol (set_at (get_or r q 0)))
    one [] q h = absurd (omega arith)
    one (b ∷ r) zero h = refl
    one (b ∷ r) (suc q) h = one r q (omega arith)

module _ (b : ℕ) where
  pub set-b : b ≡ 1 → number_of (symbol (set_at b)) ≡ 2
  unfolding set_at or_first set_of choose number_of
  set-b e = rw e

  pub set-c : b ≡ 2 → number_of (symbol (set_at b)) ≡ 3
  unfolding set_at or_first set_of choose number_of
  set-c e = rw e

  pub set-a : (b ≡ 1 → ⊥) → (b ≡ 2 → ⊥) → number_of (symbol (set_at b)) ≡ 1
  unfolding set_at or_first set_of choose number_of
  set-a n m = by (eqb b 0) (λ e. rw e) λ e. rw (e, ne_eqb b 1 n, ne_eqb b 2 m)

-- the kind of a slot, by where its symbol stands
module _ (deck : Bytes) (f : Frame) (b place : ℕ) (is : place ≡ b) where
  pub kind-shared : 192 ≤ place → set_kind deck globals_place (place - 192) ≡ kind_in deck f b
  unfolding kind_in
  kind-shared h = let l : 192 ≤ b = omega (arith, is) in ap (λ i. set_kind deck globals_place (i - 192)) is ∙ sym (passed_over _ _ (le-ltb b 192 l))

  pub kind-parameter : place < 192 → place - 128 < f.params → Parameter ≡ kind_for (kind_of (kind_in deck f b))
  unfolding kind_in kind_of choose
  kind-parameter h k = ap (λ n. kind_for (kind_of n)) (parameter-first h k)
    where
      parameter-first : place < 192 → place - 128 < f.params → 0 ≡ kind_in deck f b
      parameter-first h k = let l : b < 192 = omega (arith, is) in let m : b - 128 < f.params = omega (arith, is) in
          sym (chosen _ _ (lt-ltb b 192 l) ∙ chosen _ _ (lt-ltb (b - 128) f.params m))

  pub kind-local : place < 192 → f.params ≤ place - 128 → set_kind deck f.locals (place - 128 - f.params) ≡ kind_in deck f b
  unfolding kind_in
  kind-local h k = let l : b < 192 = omega (arith, is) in let m : f.params ≤ b - 128 = omega (arith, is) in
      ap (λ i. set_kind deck f.locals (i - 128 - f.params)) is ∙ sym (chosen _ _ (lt-ltb b 192 l) ∙ passed_over _ _ (le-ltb (b - 128) f.params m))

module _ (deck w : Bytes) (f : Frame) (held : ℕ → Cell) (h : Holding deck w f held) where
  -- ---- the grammar's table of kinds is that of the cells

  told : Lex Cell → Maybe Kept
  told (byte c) = None
  told mark = None
  told (ref c) = Some (kind_for c.kind)
  told lone = None

  first : (y : Lex Cell) (x : List (Lex Cell)) → kind_by (y ∷ x) ≡ told y
  unfolding kind_by told
  first (byte c) x = refl
  first mark x = refl
  first (ref c) x = refl
  first lone x = refl

  system : (b : ℕ) → 224 ≤ b → b < 227 → number_of (held b).kind ≡ b - 219
  unfolding number_of
  system b low high = by (eqb b 224) (λ e. rw (eqb-true b 224 e, h.list-kind)) λ e. by (eqb b 225) (λ f. rw (eqb-true b 225 f, h.number-kind)) λ f. rw (last e f, h.section-kind)
    where
      last : eqb b 224 ≡ false → eqb b 225 ≡ false → b ≡ 226
      last e f = let x = eqb-false b 224 e in let y = eqb-false b 225 f in omega arith

  module _ (code : Bytes) (at b : ℕ) (is : b ≡ get_or code at 0) where
    by_kind : kind_by (toks_by held code at) ≡ told (lex_by held b)
    unfolding toks_by told kind_by lex_by choose
    by_kind = by (ltb at (length code))
        (λ s. let less = ltb-true at (length code) s in ap (λ l. kind_by (map (lex_by held) l)) (drop-cons code at 0 less) ∙ first (lex_by held (get_or code at 0)) (map (lex_by held) (drop (suc at) code)) ∙ ap (λ i. told (lex_by held i)) (sym is))
        (λ s. let more = ltb-false at (length code) s in ap (λ l. kind_by (map (lex_by held) l)) (drop_of_length-le code more) ∙ nothing ∙ ap (λ i. told (lex_by held i)) (sym (is ∙ get_or-eq_default code 0 more)))
      where
        nothing : kind_by [] ≡ told (lex_by held 0)
        nothing = refl

    pub kind-low : b < 128 → None ≡ kind_by (toks_by held code at)
    unfolding lex_by told choose
    kind-low l = sym (by_kind ∙ by (ltb b 127) (λ e. rw e) λ e. let high = ltb-false b 127 e in let m : b ≡ 127 = omega arith in rw (e, eq-eqb b 127 m))

    past-text : 128 ≤ b → lex_by held b ≡ choose (ltb b 227) (ref (held b)) lone
    unfolding lex_by choose
    past-text low = let l : 127 ≤ b = omega arith in let n : b ≡ 127 → ⊥ = λ e. omega arith in rw (le-ltb b 127 l, ne_eqb b 127 n)

    shown-kind : 128 ≤ b → b < 227 → Some (kind_for (held b).kind) ≡ kind_by (toks_by held code at)
    unfolding told
    shown-kind low less = sym (by_kind ∙ ap told (past-text low ∙ chosen _ _ (lt-ltb b 227 less)))

    pub kind-slot : 128 ≤ b → b < 224 → Some (kind_for (kind_of (kind_in deck f b))) ≡ kind_by (toks_by held code at)
    kind-slot low less = ap (λ k. Some (kind_for k)) (sym (h.kinds b low less)) ∙ shown-kind low (omega arith)

    -- the symbols of the system
    system-kind : (n : ℕ) → 224 ≤ n → n < 227 → b ≡ n → {k : Kind} → (held n).kind ≡ k → Some (kind_for k) ≡ kind_by (toks_by held code at)
    system-kind n low high e k = ap (λ k. Some (kind_for k)) (sym k ∙ ap (λ i. (held i).kind) (sym e)) ∙ shown-kind (omega arith) (omega arith)

    pub kind-list : b ≡ 224 → Some Listed ≡ kind_by (toks_by held code at)
    kind-list e = system-kind 224 (omega arith) (omega arith) e h.list-kind

    pub kind-index : b ≡ 225 → Some Index ≡ kind_by (toks_by held code at)
    kind-index e = system-kind 225 (omega arith) (omega arith) e h.number-kind

    pub kind-section : b ≡ 226 → Some Section ≡ kind_by (toks_by held code at)
    kind-section e = system-kind 226 (omega arith) (omega arith) e h.section-kind

    pub kind-none : 227 ≤ b → None ≡ kind_by (toks_by held code at)
    unfolding told
    kind-none low = let l : 128 ≤ b = omega arith in sym (by_kind ∙ ap told (past-text l ∙ passed_over _ _ (le-ltb b 227 low)))

  -- ---- values, by kinds

  module _ (b : ℕ) (low : 128 ≤ b) (high : b < 227) where
    slot : number_of (held b).kind < 5 → b < 224
    slot k = by (ltb b 224) (ltb-true b 224) λ s. let more = ltb-false b 224 s in let e = system b more high in absurd (omega arith)

    no_slot : 5 ≤ number_of (held b).kind → 224 ≤ b
    no_slot k = by (ltb b 224) (λ s. let e = ap number_of (h.kinds b low (ltb-true b 224 s)) in let small = kind-small (kind_in deck f b) in absurd (omega arith)) (ltb-false b 224)

    pub holds-parameter : (held b).kind ≡ parameter → (held b).value ≡ string (parameter_at (level_in w f.depth) deck (parameters_in + 4 * (b - 128)))
    unfolding number_of
    holds-parameter k =
        let n : number_of (held b).kind ≡ 0 = ap number_of k in
        let less = slot (omega arith) in
        let z : 128 + (b - 128) ≡ b = omega arith in
        let p : b - 128 < 96 = omega arith in
        ap (λ i. (held i).value) (sym z) ∙ h.parameters (b - 128) p (ap (λ i. (held i).kind) z ∙ k)

    pub holds-set : (s : Set) → (held b).kind ≡ symbol s → (held b).value ≡ value_in s (cell_of w (cell_number f b))
    unfolding cell_number
    holds-set s k =
        let n = set-small s in
        let m : number_of (held b).kind ≡ number_of (symbol s) = ap number_of k in
        let less = slot (omega arith) in
        by (ltb b 192)
        (λ t. let own = ltb-true b 192 t in let z : 128 + (b - 128) ≡ b = omega arith in let p : b - 128 < 64 = omega arith in
        ap (λ i. (held i).value) (sym z) ∙ (h.locals (b - 128) s p (ap (λ i. (held i).kind) z ∙ k)).1 ∙ ap (λ i. value_in s (cell_of w i)) (sym (chosen _ _ t)))
        (λ t. let shared = ltb-false b 192 t in let z : 192 + (b - 192) ≡ b = omega arith in let p : b - 192 < 32 = omega arith in
        ap (λ i. (held i).value) (sym z) ∙ h.globals (b - 192) s p (ap (λ i. (held i).kind) z ∙ k) ∙ ap (λ i. value_in s (cell_of w i)) (sym (passed_over _ _ t)))

    pub holds-list : (held b).kind ≡ syslist → (held b).list ≡ runs_at (level_in w f.depth) (text_in + 1) (get_or (level_in w f.depth) text_in 0)
    unfolding number_of
    holds-list k =
        let n : number_of (held b).kind ≡ 5 = ap number_of k in
        let more = no_slot (omega arith) in
        let e = system b more high in
        let z : b ≡ 224 = omega arith in
        ap (λ i. (held i).list) z ∙ h.list-is

    pub holds-index : (held b).kind ≡ sysndx → (held b).value ≡ number (pos f.number)
    unfolding number_of
    holds-index k =
        let n : number_of (held b).kind ≡ 6 = ap number_of k in
        let more = no_slot (omega arith) in
        let e = system b more high in
        let z : b ≡ 225 = omega arith in
        ap (λ i. (held i).value) z ∙ h.number_is

    pub holds-section : (held b).kind ≡ sysect → (held b).value ≡ string (run_at (level_in w f.depth) section_in)
    unfolding number_of
    holds-section k =
        let n : number_of (held b).kind ≡ 7 = ap number_of k in
        let more = no_slot (omega arith) in
        let e = system b more high in
        let z : b ≡ 226 = omega arith in
        ap (λ i. (held i).value) z ∙ h.section-is

-- ---- the text of which a reference takes a part

module _ (c : Cell) (n : ℕ) where
  pub basis-shown : {v : Bytes} (k : Kind) → c.kind ≡ k → is_placed k ≡ true → (number_of k ≡ 5 → ⊥) → c.value ≡ string v → v ≡ basis_of c n
  unfolding basis_of shown is_placed number_of
  basis-shown {v} k e p o h = sym (ap (λ k. elim k [ parameter ↦ shown c.value | symbol s ↦ shown c.value | syslist ↦ get_or c.list n [] | sysndx ↦ shown c.value | sysect ↦ shown c.value | unknown ↦ shown c.value ]) e ∙ go k p o)
    where
      is : shown c.value ≡ v
      is = ap shown h

      go : (k : Kind) → is_placed k ≡ true → (number_of k ≡ 5 → ⊥) → elim k [ parameter ↦ shown c.value | symbol s ↦ shown c.value | syslist ↦ get_or c.list n [] | sysndx ↦ shown c.value | sysect ↦ shown c.value | unknown ↦ shown c.value ] ≡ v
      go parameter p o = is
      go (symbol s) p o = is
      go syslist p o = absurd (o refl)
      go sysndx p o = is
      go sysect p o = is
      go unknown p o = is

  pub basis-listed : {l : List Bytes} → c.kind ≡ syslist → c.list ≡ l → get_or l n [] ≡ basis_of c n
  unfolding basis_of
  basis-listed e h = sym (ap (λ k. elim k [ parameter ↦ shown c.value | symbol s ↦ shown c.value | syslist ↦ get_or c.list n [] | sysndx ↦ shown c.value | sysect ↦ shown c.value | unknown ↦ shown c.value ]) e ∙ ap (λ l. get_or l n []) h)

-- ---- runs, one behind the other

pub listed-past : (w : Bytes) (at count n : ℕ) → count ≤ n → [] ≡ get_or (runs_at w at count) n []
unfolding runs_at
listed-past w at zero n h = refl
listed-past w at (suc count) zero h = absurd (omega arith)
listed-past w at (suc count) (suc n) h = listed-past w (at + 1 + get_or w at 0) count n (omega arith)

pub listed-run : (w : Bytes) (at count n : ℕ) → n < count → run_at w (run_place w at n) ≡ get_or (runs_at w at count) n []
unfolding runs_at run_place
listed-run w at zero n h = absurd (omega arith)
listed-run w at (suc count) zero h = refl
listed-run w at (suc count) (suc n) h = listed-run w (at + 1 + get_or w at 0) count n (omega arith)

pub runs-long : (w : Bytes) (at count : ℕ) → length (runs_at w at count) ≡ count
unfolding runs_at
runs-long w at zero = refl
runs-long w at (suc count) = ap suc (runs-long w (at + 1 + get_or w at 0) count)

run-step : (w : Bytes) (at n : ℕ) → run_place w at (suc n) ≡ run_place w at n + 1 + get_or w (run_place w at n) 0
unfolding run_place
run-step w at zero = refl
run-step w at (suc n) = run-step w (at + 1 + get_or w at 0) n

pub run-next : (w : Bytes) (at n : ℕ) → run_place w at (n + 1) ≡ run_place w at n + 1 + get_or w (run_place w at n) 0
run-next w at n = ap (run_place w at) (add-one n) ∙ run-step w at n

pub run-first : (w : Bytes) (at : ℕ) → at ≡ run_place w at 0
unfolding run_place
run-first w at = refl

-- ---- sizes

pub part_small : (w : Bytes) (at n : ℕ) → length (part_of w at n) ≤ n
unfolding part_of
part_small w at n = go n (drop at w)
  where
    go : (n : ℕ) (l : Bytes) → length (take n l) ≤ n
    go zero l = omega arith
    go (suc n) [] = omega arith
    go (suc n) (b ∷ l) = let less = go n l in omega arith

-- ---- what the code reads

pub run_is : (w : Bytes) (at n : ℕ) → n ≡ get_or w at 0 → part_of w (at + 1) n ≡ run_at w at
unfolding run_at
run_is w at n e = ap (part_of w (at + 1)) e

pub level-part : (w : Bytes) (depth at : ℕ) (v : Bytes) → at ≡ level_at depth → v ≡ part_of w at 224 → v ≡ level_in w depth
unfolding level_in
level-part w depth at v e h = h ∙ ap (λ i. part_of w i 224) e

pub in-work : (w deck : Bytes) (at place : ℕ) → place ≡ place_in w at → get_or w at 0 ≡ 0 → run_at w place ≡ parameter_at w deck at
unfolding parameter_at
in-work w deck at place e h = ap (run_at w) e ∙ sym (chosen _ _ (eq-eqb _ _ h))

pub in-deck : (w deck : Bytes) (at place high low : ℕ) → place ≡ place_in w at → (get_or w at 0 ≡ 0 → ⊥) → high ≡ get_or deck place 0 → low ≡ get_or deck (place + 1) 0
    → part_of deck (place + 2) (high * 256 + low) ≡ parameter_at w deck at
unfolding parameter_at
in-deck w deck at place high low e h a b = (λ j. part_of deck (place + 2) (a j * 256 + b j)) ∙ ap (λ p. part_of deck (p + 2) (get_or deck p 0 * 256 + get_or deck (p + 1) 0)) e ∙ sym (passed_over _ _ (ne_eqb _ _ h))

-- cells by their slots
module _ (f : Frame) (b : ℕ) where
  pub shared-cell : 192 ≤ b → b - 192 ≡ cell_number f b
  unfolding cell_number
  shared-cell h = sym (passed_over _ _ (le-ltb b 192 h))

  pub own-cell : b < 192 → 16 * f.depth + (b - 128 - f.params) ≡ cell_number f b
  unfolding cell_number
  own-cell h = sym (chosen _ _ (lt-ltb b 192 h))

-- ---- the basis of a reference, where the code reads it

module _ (deck w : Bytes) (f : Frame) (held : ℕ → Cell) (h : Holding deck w f held) (b : ℕ) (low : 128 ≤ b) (high : b < 227) (n : ℕ) where
  pub basis-parameter : {v : Bytes} → v ≡ level_in w f.depth → (held b).kind ≡ parameter → parameter_at v deck (72 + 4 * (b - 128)) ≡ basis_of (held b) n
  unfolding is_placed number_of
  basis-parameter e k = ap (λ v. parameter_at v deck (72 + 4 * (b - 128))) e ∙ basis-shown (held b) n parameter k refl (λ z. absurd (omega arith)) (holds-parameter deck w f held h b low high k)

  pub basis-string : {cell : ℕ} → cell ≡ cell_number f b → (held b).kind ≡ symbol set_c → string_in (cell_of w cell) ≡ basis_of (held b) n
  unfolding is_placed number_of value_in
  basis-string e k = ap (λ i. string_in (cell_of w i)) e ∙ basis-shown (held b) n (symbol set_c) k refl (λ z. absurd (omega arith)) (holds-set deck w f held h b low high set_c k)

  pub basis-list : {v : Bytes} {count : ℕ} → v ≡ level_in w f.depth → count ≡ get_or v 136 0 → (held b).kind ≡ syslist → get_or (runs_at v 137 count) n [] ≡ basis_of (held b) n
  basis-list {v} {count} e m k =
      ap (λ i. get_or (runs_at v 137 i) n []) m ∙ ap (λ v. get_or (runs_at v 137 (get_or v 136 0)) n []) e ∙ basis-listed (held b) n k (holds-list deck w f held h b low high k)

  pub basis-section : {v : Bytes} → v ≡ level_in w f.depth → (held b).kind ≡ sysect → run_at v 0 ≡ basis_of (held b) n
  unfolding is_placed number_of
  basis-section e k = ap (λ v. run_at v 0) e ∙ basis-shown (held b) n sysect k refl (λ z. absurd (omega arith)) (holds-section deck w f held h b low high k)

pub string-small : (w : Bytes) (k : ℕ) → length (string_in (cell_of w k)) < 65536
unfolding string_in cell_of part_of
string-small w k =
    let c = take 256 (drop (256 * k) w) in
    let few : length c ≤ 256 = part_small w (256 * k) 256 in
    let less = taken (get_or c 0 0) (drop 1 c) in
    let short = dropped c in
    omega arith
  where
    taken : (n : ℕ) (l : Bytes) → length (take n l) ≤ length l
    taken zero l = omega arith
    taken (suc n) [] = omega arith
    taken (suc n) (b ∷ l) = let less = taken n l in omega arith

    dropped : (l : Bytes) → length (drop 1 l) ≤ length l
    dropped [] = omega arith
    dropped (b ∷ l) = omega arith

-- ---- numbers

pub set-number : (deck w : Bytes) (f : Frame) (held : ℕ → Cell) (h : Holding deck w f held) (b : ℕ) → 128 ≤ b → b < 227 → (held b).kind ≡ symbol set_a
    → {cell : ℕ} {z : ℤ} → cell ≡ cell_number f b → z ≡ integer_in (cell_of w cell) → (held b).value ≡ number z
unfolding value_in
set-number deck w f held h b low high k e r = holds-set deck w f held h b low high set_a k ∙ ap (λ i. number (integer_in (cell_of w i))) (sym e) ∙ ap number (sym r)

pub less_one : {m n : ℕ} → m ≡ n → m - 1 ≡ pred n
less_one {m} {n} e = ap (λ k. k - 1) e ∙ go n
  where
    go : (n : ℕ) → n - 1 ≡ pred n
    go zero = omega arith
    go (suc n) = omega arith
