-- What code knows of a truth is kept through NOT, AND, OR and comparisons: a condition read by `cutting` is the rules' condition, cut. Assumes nothing.
use Prim.Native.Nat.{ℕ, zero, suc}
use mathlib.Core.Path.{◌≡◌, refl, ap, ◌∙◌}
use mathlib.Core.Bool.{Bool, true, false, not, ◌&&◌, ◌||◌}
use mathlib.Core.List.{List, [], ◌∷◌}
use mathlib.Core.Option.{Option, none, some}
use lib.Dec.{eqb}
use lib.ListN.{length, drop}
use lib.IntN.{ℤ}
use Rattle.text.specs.Bytes.{bytes}
use Rattle.rules.specs.Choice.{choose, while}
use Rattle.rules.specs.Lexemes.{Lex, byte, mark, ref, lone, opening}
use Rattle.rules.specs.Values.{Relation}
use Rattle.rules.specs.Grammar.{Got, got, refused, plain, rest, past_spaces, is_word, relation_at, then, broken, given, closed, whole, goes_on, turn, chain, deeper, sum, product, term, decimal_number, referred, reference, subscripts, arithmetic, characters, string_within, string, substringed, quoted_text, piece, add_piece, add_quoted, goes_on_quoted, is_doubled, compared_strings, is_digit_alone, constant_at, compared_numbers, is_flag, element, spaced, negation, conjunction, disjunction, deeper_condition, condition}
use Rattle.rules.specs.Evaluate.{Cell, Chars, Truth, values, certain}
use Rattle.rules.specs.Decide.{Act, when_got, unless}
use Rattle.value_comparisons.specs.Truths.{cut_truth, truth_in, cut_truth_got, cutting}
use Rattle.value_comparisons.specs.declared.Truth.{Truth as TruthIs}

-- ---- truths

pub cut_twice : (t : Truth) → cut_truth (cut_truth t) ≡ cut_truth t
unfolding cut_truth
cut_twice t = at t.holds t.over
  where
    at : (h o : Bool) → ◌≡◌ {A = Truth} (record { holds = not o && (not o && h); over = o }) (record { holds = not o && h; over = o })
    at h true = refl
    at h false = refl

pub negated-cut : (t : Truth) → cut_truth (values.negated t) ≡ cutting.negated (cut_truth t)
unfolding cut_truth cutting values
negated-cut t = at t.holds t.over
  where
    at : (h o : Bool) → ◌≡◌ {A = Truth} (record { holds = not o && not h; over = o }) (record { holds = not o && not (not o && h); over = o })
    at h true = refl
    at h false = refl

pub both-cut : (a b : Truth) → cut_truth (values.both a b) ≡ cutting.both (cut_truth a) (cut_truth b)
unfolding cut_truth cutting values
both-cut a b = at a.holds a.over b.holds b.over
  where
    at : (h o k p : Bool) → ◌≡◌ {A = Truth} (record { holds = not (o || p) && (h && k); over = o || p }) (record { holds = not (o || p) && ((not o && h) && (not p && k)); over = o || p })
    at h true k p = refl
    at h false k true = refl
    at h false k false = refl

pub either-cut : (a b : Truth) → cut_truth (values.either a b) ≡ cutting.either (cut_truth a) (cut_truth b)
unfolding cut_truth cutting values
either-cut a b = at a.holds a.over b.holds b.over
  where
    at : (h o k p : Bool) → ◌≡◌ {A = Truth} (record { holds = not (o || p) && (h || k); over = o || p }) (record { holds = not (o || p) && ((not o && h) || (not p && k)); over = o || p })
    at h true k p = refl
    at h false k true = refl
    at h false k false = refl

-- the code's truths
pub certain-code : (h : Bool) → truth_in (record { holds = h; over = false }) ≡ cutting.constant h
unfolding truth_in cutting values certain
certain-code h = refl

pub negated-code : (t : TruthIs) → truth_in (record { holds = not t.holds; over = t.over }) ≡ cutting.negated (truth_in t)
unfolding truth_in values
negated-code t = negated-cut (record { holds = t.holds; over = t.over })

pub both_code : (a b : TruthIs) → truth_in (record { holds = a.holds && b.holds; over = a.over || b.over }) ≡ cutting.both (truth_in a) (truth_in b)
unfolding truth_in values
both_code a b = both-cut (record { holds = a.holds; over = a.over }) (record { holds = b.holds; over = b.over })

pub either-code : (a b : TruthIs) → truth_in (record { holds = a.holds || b.holds; over = a.over || b.over }) ≡ cutting.either (truth_in a) (truth_in b)
unfolding truth_in values
either-code a b = either-cut (record { holds = a.holds; over = a.over }) (record { holds = b.holds; over = b.over })

-- ---- what is read: choices, sequences, chains

abbrev Lexemes : Type 0
Lexemes = List (Lex Cell)

-- the second is what is known of the first
pub record Cuts (g g' : Got Truth Cell) : Type 0 where
  pub is : cut_truth_got g ≡ g'

cut-choose : {b b' : Bool} {p q p' q' : Got Truth Cell} → b ≡ b' → Cuts p p' → Cuts q q' → Cuts (choose b p q) (choose b' p' q')
unfolding choose
cut-choose {b = b} {p = p} {q = q} e f g = record { is = at b ∙ (λ j. choose (e j) (f.is j) (g.is j)) }
  where
    at : (b : Bool) → cut_truth_got (choose b p q) ≡ choose b (cut_truth_got p) (cut_truth_got q)
    at true = refl
    at false = refl

-- behind anything but a truth, and behind a truth
cut-then : {A : Type 0} {g g' : Got A Cell} {k k' : A → Lexemes → Got Truth Cell} → g ≡ g' → ((a : A) (x : Lexemes) → Cuts (k a x) (k' a x)) → Cuts (then g k) (then g' k')
unfolding then cut_truth_got
cut-then {A = A} {g = g} {k = k} {k' = k'} e h = record { is = at g ∙ ap (λ r. then r k') e }
  where
    at : (g : Got A Cell) → cut_truth_got (then g k) ≡ then g k'
    at (got a x) = (h a x).is
    at (refused n left) = refl

cut-after : {g g' : Got Truth Cell} (k k' : Truth → Lexemes → Got Truth Cell) → Cuts g g' → ((t : Truth) (x : Lexemes) → Cuts (k t x) (k' (cut_truth t) x))
    → Cuts (then g k) (then g' k')
unfolding then cut_truth_got
cut-after {g = g} k k' e h = record { is = at g ∙ ap (λ r. then r k') e.is }
  where
    at : (g : Got Truth Cell) → cut_truth_got (then g k) ≡ then (cut_truth_got g) k'
    at (got t x) = (h t x).is
    at (refused n left) = refl

cut-got : {t t' : Truth} (x : Lexemes) → cut_truth t ≡ t' → Cuts (got t x) (got t' x)
unfolding cut_truth_got
cut-got x e = record { is = ap (λ t. got t x) e }

cut-broken : (x : Lexemes) → Cuts (broken x) (broken x)
unfolding cut_truth_got broken
cut-broken x = record { is = refl }

cut-closed : (t : Truth) (x : Lexemes) → Cuts (closed t x) (closed (cut_truth t) x)
unfolding closed
cut-closed t x = cut-choose refl (cut-got (rest x) refl) (cut-broken x)

module _ (goes : Lexemes → Bool) (skip : Lexemes → Lexemes) (operand operand' : Lexemes → Got Truth Cell) (join join' : Truth → Truth → Truth)
    (same : (x : Lexemes) → Cuts (operand x) (operand' x)) (cuts : (a b : Truth) → cut_truth (join a b) ≡ join' (cut_truth a) (cut_truth b)) where
  abbrev test : Got Truth Cell → Bool
  test = goes_on goes skip operand' (λ y a b. some (join' a b))

  abbrev turns : Got Truth Cell → Got Truth Cell
  turns = turn goes skip operand' (λ y a b. some (join' a b))

  goes_same : (g : Got Truth Cell) → goes_on goes skip operand (λ y a b. some (join a b)) g ≡ test (cut_truth_got g)
  unfolding goes_on cut_truth_got
  goes_same (got t x) = refl
  goes_same (refused e left) = refl

  cut-turn : (g : Got Truth Cell) → cut_truth_got (turn goes skip operand (λ y a b. some (join a b)) g) ≡ turns (cut_truth_got g)
  unfolding turn cut_truth_got given
  cut-turn (got t x) = (cut-after (λ w y. got (join t w) y) (λ w y. got (join' (cut_truth t) w) y) (same (skip x)) (λ w y. cut-got y (cuts t w))).is
  cut-turn (refused e left) = refl

  cut-while : (n : ℕ) (g : Got Truth Cell)
      → cut_truth_got (while (goes_on goes skip operand (λ y a b. some (join a b))) (turn goes skip operand (λ y a b. some (join a b))) n g) ≡ while test turns n (cut_truth_got g)
  unfolding while
  cut-while zero g = refl
  cut-while (suc n) g =
      (cut-choose (goes_same g) (record { is = cut-while n (turn goes skip operand (λ y a b. some (join a b)) g) ∙ ap (while test turns n) (cut-turn g) }) (record { is = refl })).is

  pub cut-chain : (x : Lexemes) → Cuts (chain goes skip operand (λ y a b. some (join a b)) x) (chain goes skip operand' (λ y a b. some (join' a b)) x)
  unfolding chain
  cut-chain x = record { is = cut-while (length x) (operand x) ∙ ap (while test turns (length x)) (same x).is }

-- ---- numbers and strings are read alike

deeper-same : (n : ℕ) (x : Lexemes) → deeper values n x ≡ deeper cutting n x
unfolding deeper sum product term decimal_number referred reference subscripts cutting
deeper-same zero x = refl
deeper-same (suc n) x = λ j. sum values (λ y. deeper-same n y j) x

arithmetic-same : (n : ℕ) (x : Lexemes) → arithmetic values n x ≡ arithmetic cutting n x
unfolding arithmetic sum product term decimal_number referred reference subscripts cutting
arithmetic-same n x = λ j. sum values (λ y. deeper-same n y j) x

reference-same : (n : ℕ) (x : Lexemes) → reference values (deeper values n) x ≡ reference cutting (deeper cutting n) x
unfolding reference subscripts cutting
reference-same n x = λ j. reference values (λ y. deeper-same n y j) x

pub string-same : (n : ℕ) (x : Lexemes) → string_within values n x ≡ string_within cutting n x
unfolding string_within characters string substringed quoted_text piece add_piece add_quoted goes_on_quoted is_doubled referred reference subscripts cutting
string-same n x = λ j. characters values (λ y. deeper-same n y j) x

-- ---- conditions, one rule after another; `inner` and `inner'` are a condition one pair of parentheses further in

module _ (n : ℕ) (inner inner' : Lexemes → Got Truth Cell) (within : (x : Lexemes) → Cuts (inner x) (inner' x)) where
  strings-cut : (s : Chars) (x : Lexemes) → Cuts (compared_strings values n inner s x) (compared_strings cutting n inner' s x)
  unfolding compared_strings cutting
  strings-cut s x = at (relation_at x)
    where
      at : (o : Option Relation)
          → Cuts (elim o [ none ↦ broken x | some r ↦ then (string_within values n (past_spaces (drop 2 x))) λ t y. got (values.strings r s t) y ])
          (elim o [ none ↦ broken x | some r ↦ then (string_within cutting n (past_spaces (drop 2 x))) λ t y. got (cutting.strings r s t) y ])
      at none = cut-broken x
      at (some r) = cut-then (string-same n (past_spaces (drop 2 x))) (λ t y. cut-got y refl)

  constant-cut : (here x : Lexemes) → Cuts (constant_at values n inner here x) (constant_at cutting n inner' here x)
  unfolding constant_at is_digit_alone cutting
  constant-cut here x = cut-choose refl (cut-got x refl) (cut-choose refl (cut-got x refl) (cut-broken here))

  numbers-cut : (here : Lexemes) (a : ℤ) (x : Lexemes) → Cuts (compared_numbers values n inner here a x) (compared_numbers cutting n inner' here a x)
  unfolding compared_numbers cutting
  numbers-cut here a x = at (relation_at (past_spaces x))
    where
      y : Lexemes
      y = past_spaces (drop 2 (past_spaces x))

      at : (o : Option Relation)
          → Cuts (elim o [ none ↦ constant_at values n inner here x | some r ↦ choose (eqb (plain y) opening) (broken y) (then (arithmetic values n y) λ b z. got (values.numbers r a b) z) ])
          (elim o [ none ↦ constant_at cutting n inner' here x | some r ↦ choose (eqb (plain y) opening) (broken y) (then (arithmetic cutting n y) λ b z. got (cutting.numbers r a b) z) ])
      at none = constant-cut here x
      at (some r) = cut-choose refl (cut-broken y) (cut-then (arithmetic-same n y) (λ b z. cut-got z refl))

  flag_same : (x : Lexemes) → is_flag values n inner x ≡ is_flag cutting n inner' x
  unfolding is_flag cutting
  flag_same [] = refl
  flag_same (byte c ∷ x) = refl
  flag_same (mark ∷ x) = refl
  flag_same (ref r ∷ x) = refl
  flag_same (lone ∷ x) = refl

  element-cut : (x : Lexemes) → Cuts (element values n inner x) (element cutting n inner' x)
  unfolding element cutting
  element-cut x =
      cut-choose refl (cut-after closed closed (within (rest x)) cut-closed)
      (cut-choose refl (cut-then (string-same n x) (λ s y. strings-cut s (past_spaces y)))
      (cut-choose (flag_same x) (cut-then (reference-same n x) (λ r y. cut-got y refl)) (cut-then (arithmetic-same n x) (λ a y. numbers-cut x a y))))

  spaced-cut : (x : Lexemes) → Cuts (spaced values n inner x) (spaced cutting n inner' x)
  unfolding spaced
  spaced-cut x = cut-after (λ b y. got b (past_spaces y)) (λ b y. got b (past_spaces y)) (element-cut (past_spaces x)) (λ t y. cut-got (past_spaces y) refl)

  negation-cut : (x : Lexemes) → Cuts (negation values n inner x) (negation cutting n inner' x)
  unfolding negation
  negation-cut x =
      cut-choose refl (cut-after (λ b z. got (values.negated b) z) (λ b z. got (cutting.negated b) z) (spaced-cut (drop 3 (past_spaces x))) (λ t z. cut-got z (negated-cut t)))
      (spaced-cut (past_spaces x))

  conjunction-cut : (x : Lexemes) → Cuts (conjunction values n inner x) (conjunction cutting n inner' x)
  unfolding conjunction
  conjunction-cut x = cut-chain (is_word (bytes "AND")) (drop 3) (negation values n inner) (negation cutting n inner') values.both cutting.both negation-cut both-cut x

  disjunction-cut : (x : Lexemes) → Cuts (disjunction values n inner x) (disjunction cutting n inner' x)
  unfolding disjunction
  disjunction-cut x = cut-chain (is_word (bytes "OR")) (drop 2) (conjunction values n inner) (conjunction cutting n inner') values.either cutting.either conjunction-cut either-cut x

deeper-cut : (n : ℕ) (x : Lexemes) → Cuts (deeper_condition values n x) (deeper_condition cutting n x)
unfolding deeper_condition cut_truth_got
deeper-cut zero x = record { is = refl }
deeper-cut (suc n) x = disjunction-cut n (deeper_condition values n) (deeper_condition cutting n) (deeper-cut n) x

-- THE CONDITION: read by `cutting` it is the rules' one, cut
pub condition-cut : (n : ℕ) (x : Lexemes) → cut_truth_got (condition values n x) ≡ condition cutting n x
unfolding condition
condition-cut n x = (cut-choose refl (cut-after closed closed (deeper-cut n (rest x)) cut-closed) (cut-broken x)).is

-- and what a line does with a condition asks no more: whether it holds is read only where nothing was over
pub decided-cut : (g : Got Truth Cell) (left : ℕ) (k : Bool → Act)
    → when_got (whole g) (λ b. unless b.over left (k b.holds)) ≡ when_got (whole (cut_truth_got g)) (λ b. unless b.over left (k b.holds))
unfolding whole cut_truth_got when_got unless cut_truth choose broken
decided-cut (got t []) left k = at t.holds t.over
  where
    at : (h o : Bool) → unless o left (k h) ≡ unless o left (k (not o && h))
    at h true = refl
    at h false = refl
decided-cut (got t (x ∷ s)) left k = refl
decided-cut (refused e n) left k = refl

pub decided : (n : ℕ) (x : Lexemes) (left : ℕ) (k : Bool → Act)
    → when_got (whole (condition values n x)) (λ b. unless b.over left (k b.holds)) ≡ when_got (whole (condition cutting n x)) (λ b. unless b.over left (k b.holds))
decided n x left k = decided-cut (condition values n x) left k ∙ ap (λ g. when_got (whole g) (λ b. unless b.over left (k b.holds))) (condition-cut n x)
