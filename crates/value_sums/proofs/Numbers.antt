-- Decimal numbers, in a field and as a value: what digits spell. Assumes nothing.
use Prim.Native.Nat.{ℕ, suc, ◌+◌, ◌*◌, ◌-◌, ◌≤◌, ◌<◌}
use native.Mathlib.Omega.{arith}
use native.Mathlib.Nat.{le_refl, lt_of_lt_of_le}
use native.Mathlib.Numerals.{add-one}
use mathlib.Core.Path.{◌≡◌, refl, ap, sym, ◌∙◌}
use mathlib.Core.Bool.{Bool, true, false, ◌&&◌, ◌||◌, true≢false}
use mathlib.Core.List.{List, [], ◌∷◌, map}
use mathlib.Core.Option.{none, some}
use lib.Dec.{leb, eqb, ltb}
use lib.ListN.{length, take, drop, get_or, drop_of_length-le}
use lib.Seq.{drop-cons}
use lib.IntN.{ℤ, pos}
use borrow.Author.Tests.{lt-ltb, le-ltb, le-leb, lt-leb, ltb-false}
use Rattle.std.specs.Prelude.{Ok, Err}
use Rattle.std.specs.List.{list_all}
use Rattle.text.specs.Bytes.{Bytes}
use Rattle.text.specs.Characters.{digit, letter}
use Rattle.rules.specs.Choice.{choose, run, every}
use Rattle.rules.specs.Lexemes.{Lex, mark, ref, lone, byte_of}
use Rattle.rules.specs.Values.{spelt, within, number_in}
use Rattle.rules.specs.Grammar.{Got, got, plain, broken, decimal_number}
use Rattle.rules.specs.Evaluate.{Cell, values}
use Rattle.rules.proofs.Choices.{by, chosen, passed_over, and_left, and_right}
use Rattle.grammar.proofs.Numbers.{digit-bounds}
use Rattle.refusals.specs.declared.Fault.TheVariants.{IllFormed}
use Rattle.value_sums.specs.Answers.{lex_by, toks_by, tells_as, tells}
use Rattle.value_sums.proofs.Answers.{toks-drop, tells-broken, tells-read}

spelt-grows : (n : ℕ) (s : Bytes) → n ≤ spelt n s
unfolding spelt
spelt-grows n [] = le_refl n
spelt-grows n (c ∷ s) = let more = spelt-grows (n * 10 + (c - 48)) s in omega arith

-- what the digits spell that stand first, after n for those before them
abbrev first : ℕ → Bytes → ℕ
first n s = spelt n (take (run digit s) s)

-- the digits before place i stand first, and spell n
pub record Counted (s : Bytes) (i n : ℕ) : Type 0 where
  pub few : n ≤ 2147483647
  pub runs : run digit s ≡ i + run digit (drop i s)
  pub spells : first 0 s ≡ first n (drop i s)

pub none-counted : (s : Bytes) → Counted s 0 0
none-counted s = record { few = omega arith; runs = omega arith; spells = refl }

-- what is left to spell from place i on
module _ (s : Bytes) (i : ℕ) (inside : i < length s) where
  cut : drop i s ≡ get_or s i 0 ∷ drop (i + 1) s
  cut = rw (drop-cons s i 0 inside, add-one i)

  all-there : every digit (drop i s) ≡ true → (digit (get_or s i 0) && every digit (drop (i + 1) s)) ≡ true
  unfolding every
  all-there h = sym (ap (every digit) cut) ∙ h

  pub digit-there : every digit (drop i s) ≡ true → digit (get_or s i 0) ≡ true
  digit-there h = and_left _ _ (all-there h)

  pub digits-behind : every digit (drop i s) ≡ true → every digit (drop (i + 1) s) ≡ true
  digits-behind h = and_right _ _ (all-there h)

  pub spelt-on : (n : ℕ) → spelt n (drop i s) ≡ spelt (n * 10 + (get_or s i 0 - 48)) (drop (i + 1) s)
  unfolding spelt
  spelt-on n = ap (spelt n) cut

  -- ---- of a number in a field: the digits that stand first, so many before place i

  runs-on : digit (get_or s i 0) ≡ true → run digit (drop i s) ≡ suc (run digit (drop (i + 1) s))
  unfolding run
  runs-on h = ap (run digit) cut ∙ chosen _ _ h

  first-on : (n : ℕ) → digit (get_or s i 0) ≡ true → first n (drop i s) ≡ first (n * 10 + (get_or s i 0 - 48)) (drop (i + 1) s)
  unfolding run spelt
  first-on n h = ap (first n) cut ∙ ap (λ k. spelt n (take k (get_or s i 0 ∷ drop (i + 1) s))) (chosen _ _ h)

  module _ {n d : ℕ} (so_far : Counted s i n) (is : digit (get_or s i 0) ≡ true) (e : d ≡ get_or s i 0 - 48) where
    now-spells : first 0 s ≡ first (n * 10 + d) (drop (i + 1) s)
    now-spells = so_far.spells ∙ first-on n is ∙ ap (λ d. first (n * 10 + d) (drop (i + 1) s)) (sym e)

    pub counted-on : n * 10 + d ≤ 2147483647 → Counted s (i + 1) (n * 10 + d)
    counted-on h = record {
      few = h;
      runs = let a = so_far.runs in let b = runs-on is in omega arith;
      spells = now-spells;
    }

    pub counted-over : 2147483647 < n * 10 + d → 2147483647 < first 0 s
    counted-over h = let more = spelt-grows (n * 10 + d) (take (run digit (drop (i + 1) s)) (drop (i + 1) s)) in let same = now-spells in omega arith

  pub stops-digit : digit (get_or s i 0) ≡ false → run digit (drop i s) ≡ 0
  unfolding run
  stops-digit h = ap (run digit) cut ∙ passed_over _ _ h

pub stops-end : (s : Bytes) (i : ℕ) → length s ≤ i → run digit (drop i s) ≡ 0
unfolding run
stops-end s i h = ap (run digit) (drop_of_length-le s h)

pub spelt-over : (n : ℕ) (s : Bytes) → 2147483647 < n → within (pos (spelt n s)) ≡ none
unfolding within choose
spelt-over n s h = rw (lt-ltb 2147483647 (spelt n s) (lt_of_lt_of_le h (spelt-grows n s)))

few-within : (n : ℕ) → ltb 2147483647 n ≡ false → within (pos n) ≡ some (pos n)
unfolding within choose
few-within n h = rw h

pub spelt-ends : (n i : ℕ) (s : Bytes) → length s ≤ i → n ≤ 2147483647 → within (pos (spelt n (drop i s))) ≡ some (pos n)
unfolding spelt
spelt-ends n i s h few = ap (λ s. within (pos (spelt n s))) (drop_of_length-le s h) ∙ few-within n (le-ltb 2147483647 n few)

-- ---- a number in a field

-- a byte of a field is a digit or none, whatever the symbols stand for
high-byte : (held : ℕ → Cell) (b : ℕ) → ltb b 127 ≡ false → byte_of (lex_by held b) ≡ 0
unfolding lex_by byte_of choose
high-byte held b h = ap byte_of (passed_over _ _ h) ∙ at (eqb b 127) (ltb b 227)
  where
    at : (p q : Bool) → byte_of {R = Cell} (choose p mark (choose q (ref (held b)) lone)) ≡ 0
    at true q = refl
    at false true = refl
    at false false = refl

low-byte : (held : ℕ → Cell) (b : ℕ) → ltb b 127 ≡ true → byte_of (lex_by held b) ≡ b
unfolding lex_by byte_of
low-byte held b h = ap byte_of (chosen _ _ h)

no-digit : (b : ℕ) → ltb b 127 ≡ false → digit b ≡ false
no-digit b h = by (digit b) (λ t. let high = (digit-bounds b t).1 in let far = ltb-false b 127 h in absurd (omega arith)) (λ t. t)

zero-none : digit 0 ≡ false
zero-none = by (digit 0) (λ t. let low = (digit-bounds 0 t).0 in absurd (omega arith)) (λ t. t)

digit-same : (held : ℕ → Cell) (b : ℕ) → digit (byte_of (lex_by held b)) ≡ digit b
digit-same held b = by (ltb b 127) (λ h. ap digit (low-byte held b h)) (λ h. ap digit (high-byte held b h) ∙ zero-none ∙ sym (no-digit b h))

digit-byte : (held : ℕ → Cell) (b : ℕ) → digit b ≡ true → byte_of (lex_by held b) ≡ b
digit-byte held b h = by (ltb b 127) (λ t. low-byte held b t) (λ t. absurd (true≢false (sym h ∙ no-digit b t)))

digits-same : (held : ℕ → Cell) (l : Bytes) → run (λ y. digit (byte_of y)) (map (lex_by held) l) ≡ run digit l
unfolding run
digits-same held [] = refl
digits-same held (b ∷ l) = λ i. choose (digit-same held b i) (suc (digits-same held l i)) 0

spelt-same : (held : ℕ → Cell) (n : ℕ) (l : Bytes) → spelt n (map byte_of (take (run digit l) (map (lex_by held) l))) ≡ spelt n (take (run digit l) l)
unfolding run spelt
spelt-same held n [] = refl
spelt-same held n (b ∷ l) = by (digit b)
    (λ h. ap (λ k. spelt n (map byte_of (take k (lex_by held b ∷ map (lex_by held) l)))) (chosen _ _ h)
    ∙ ap (λ c. spelt (n * 10 + (c - 48)) (map byte_of (take (run digit l) (map (lex_by held) l)))) (digit-byte held b h) ∙ spelt-same held (n * 10 + (b - 48)) l
    ∙ sym (ap (λ k. spelt n (take k (b ∷ l))) (chosen _ _ h)))
    (λ h. ap (λ k. spelt n (map byte_of (take k (lex_by held b ∷ map (lex_by held) l)))) (passed_over _ _ h) ∙ sym (ap (λ k. spelt n (take k (b ∷ l))) (passed_over _ _ h)))

module _ (code : Bytes) (at : ℕ) (held : ℕ → Cell) (inner : List (Lex Cell) → Got ℤ Cell) where
  abbrev size : ℕ
  size = run digit (drop at code)

  abbrev value : ℕ
  value = first 0 (drop at code)

  decimal-by : decimal_number values inner (toks_by held code at)
      ≡ choose (ltb 2147483647 value || letter (plain (toks_by held code (at + size)))) (broken (toks_by held code at)) (got (pos value) (toks_by held code (at + size)))
  unfolding decimal_number values toks_by
  decimal-by =
      let l = drop at code in
      ap (λ k. choose (ltb 2147483647 (spelt 0 (map byte_of (take k (map (lex_by held) l)))) || letter (plain (drop k (map (lex_by held) l)))) (broken (map (lex_by held) l)) (got (pos (spelt 0 (map byte_of (take k (map (lex_by held) l))))) (drop k (map (lex_by held) l)))) (digits-same held l)
      ∙ ap (λ v. choose (ltb 2147483647 v || letter (plain (drop size (map (lex_by held) l)))) (broken (map (lex_by held) l)) (got (pos v) (drop size (map (lex_by held) l)))) (spelt-same held 0 l)
      ∙ ap (λ x. choose (ltb 2147483647 value || letter (plain x)) (broken (map (lex_by held) l)) (got (pos value) x)) (toks-drop held code at size)

  module _ {s : Bytes} (items : s ≡ drop at code) where
    pub decimal-over : 2147483647 < first 0 s → tells (toks_by held code) (Err (record { fault = IllFormed; at = at })) ≡ decimal_number values inner (toks_by held code at)
    unfolding tells_as choose broken
    decimal-over h = sym (decimal-by ∙ rw (← items, lt-ltb 2147483647 (first 0 s) h))

    module _ {i n next c : ℕ} (so_far : Counted s i n) (here : next ≡ at + i) (ends : run digit (drop i s) ≡ 0) (read : c ≡ plain (toks_by held code next)) where
      ended_at : at + size ≡ next
      ended_at = let a = ap (run digit) items in let b = so_far.runs in omega arith

      spells : value ≡ n
      unfolding spelt
      spells = ap (first 0) (sym items) ∙ so_far.spells ∙ ap (λ k. spelt n (take k (drop i s))) ends

      ended-by : decimal_number values inner (toks_by held code at) ≡ choose (letter c) (broken (toks_by held code at)) (got (pos n) (toks_by held code next))
      unfolding choose
      ended-by = decimal-by
          ∙ (λ j. choose (ltb 2147483647 (spells j) || letter (plain (toks_by held code (ended_at j)))) (broken (toks_by held code at)) (got (pos (spells j)) (toks_by held code (ended_at j))))
          ∙ (λ j. choose (le-ltb 2147483647 n so_far.few j || letter (sym read j)) (broken (toks_by held code at)) (got (pos n) (toks_by held code next)))

      pub decimal-letter : letter c ≡ true → tells (toks_by held code) (Err (record { fault = IllFormed; at = at })) ≡ decimal_number values inner (toks_by held code at)
      decimal-letter h = tells-broken _ _ _ ∙ sym (ended-by ∙ chosen _ _ h)

      pub decimal-reads : letter c ≡ false → tells (toks_by held code) (Ok (record { value = pos n; next = next })) ≡ decimal_number values inner (toks_by held code at)
      decimal-reads h = tells-read _ _ _ _ ∙ sym (ended-by ∙ passed_over _ _ h)

-- ---- a value that is a number

pub every-all : (s : Bytes) → list_all digit s ≡ every digit s
unfolding every
every-all [] = refl
every-all (c ∷ s) = ap (λ b. digit c && b) (every-all s)

module _ (s : Bytes) where
  number-not : (every digit s && (ltb 0 (length s) && leb (length s) 10)) ≡ false → none ≡ number_in s
  unfolding number_in
  number-not h = sym (passed_over _ _ h)

  sized : (t : Bool) {u : Bool} → u ≡ false → (t && u) ≡ false
  sized true e = e
  sized false e = refl

  pub number-empty : length s ≡ 0 → none ≡ number_in s
  number-empty h = number-not (sized (every digit s) (rw h))

  pub number-long : 10 < length s → none ≡ number_in s
  number-long h = number-not (sized (every digit s) (rw (lt-ltb 0 (length s) (omega arith), lt-leb (length s) 10 h)))

  pub number-other : every digit s ≡ false → none ≡ number_in s
  number-other h = number-not (rw h)

  pub number-spelt : every digit s ≡ true → 0 < length s → length s ≤ 10 → within (pos (spelt 0 s)) ≡ number_in s
  unfolding number_in
  number-spelt h a b = sym (chosen _ _ (rw (h, lt-ltb 0 (length s) a, le-leb (length s) 10 b)))
