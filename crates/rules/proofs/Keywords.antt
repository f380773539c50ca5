-- The keywords of a prototype, with their defaults, are no longer than the line, and of its bytes.
use Prim.Native.Nat.{ℕ, suc, ◌+◌, ◌≤◌}
use native.Mathlib.Omega.{arith}
use mathlib.Core.Path.{◌≡◌, refl, ap, sym, ◌∙◌, subst}
use mathlib.Core.Bool.{Bool, true, false, ◌&&◌}
use mathlib.Core.List.{List, [], ◌∷◌, ◌++◌}
use lib.ListN.{length, take, drop, length-append}
use Rattle.text.specs.Bytes.{Bytes}
use Rattle.text.specs.Characters.{in_set}
use Rattle.rules.specs.Choice.{choose, every, on_first}
use Rattle.rules.specs.Lexemes.{ampersand, comma, Lex, byte, mark, ref, lone, lexed, unlexed, Inside, outside, enters, is_bare}
use Rattle.rules.specs.Fields.{fields_of}
use Rattle.rules.specs.Calls.{parts, divided, equals_at, has_equals}
use Rattle.rules.specs.Library.{start_symbol, with_default, keyword_names, operand_parts}
use Rattle.rules.proofs.Choices.{either, and_right}
use Rattle.rules.proofs.Logic.{All}
use Rattle.rules.proofs.Lossless.{lexed-back}
use Rattle.rules.proofs.ReadLines.{InSet, every_front, every-behind, unlexed-append, unlexed-split, fields-held}

-- ---- the parts of an operand

abbrev Parts : Type 0
Parts = List (List (Lex Bytes))

abbrev weight : Parts → ℕ
weight [] = 0
weight (p ∷ ps) = length (unlexed p) + weight ps

abbrev GoodPart : List (Lex Bytes) → Type 0
GoodPart p = InSet (unlexed p)

every-both : {A : Type 0} (test : A → Bool) (s t : List A) → every test s ≡ true → every test t ≡ true → every test (s ++ t) ≡ true
unfolding every
every-both test [] t h k = k
every-both test (a ∷ s) t h k = go (test a) h (λ q. every-both test s t q k)
  where
    go : (b : Bool) → (b && every test s) ≡ true → (every test s ≡ true → every test (s ++ t) ≡ true) → (b && every test (s ++ t)) ≡ true
    go true h ih = ih h
    go false h ih = h

first_weighs : (a : Lex Bytes) (x : List (Lex Bytes)) → length (unlexed (a ∷ x)) ≡ length (unlexed (a ∷ [])) + length (unlexed x)
first_weighs a x = ap length (unlexed-append (a ∷ []) x) ∙ length-append (unlexed (a ∷ [])) (unlexed x)

first-in : (a : Lex Bytes) (x : List (Lex Bytes)) → InSet (unlexed (a ∷ x)) → InSet (unlexed (a ∷ [])) × InSet (unlexed x)
first-in a x h =
    let q : InSet (unlexed (a ∷ []) ++ unlexed x) = subst InSet (unlexed-append (a ∷ []) x) h in
    (every_front in_set (unlexed (a ∷ [])) (unlexed x) q, every-behind in_set (unlexed (a ∷ [])) (unlexed x) q)

both-in : (a : Lex Bytes) (x : List (Lex Bytes)) → InSet (unlexed (a ∷ [])) → InSet (unlexed x) → InSet (unlexed (a ∷ x))
both-in a x h k = subst InSet (sym (unlexed-append (a ∷ []) x)) (every-both in_set (unlexed (a ∷ [])) (unlexed x) h k)

-- parts that weigh no more than `n`, of bytes in the set
abbrev Within : ℕ → Parts → Type 0
Within n ps = (weight ps ≤ n) × All GoodPart ps

one_further : (a : Lex Bytes) (n : ℕ) (ps : Parts) → InSet (unlexed (a ∷ [])) → Within n ps → Within (length (unlexed (a ∷ [])) + n) (on_first a ps)
unfolding on_first
one_further a n [] h w = (omega (arith, w.0), (h, tt))
one_further a n (p ∷ ps) h w = (omega (arith, w.0, first_weighs a p), (both-in a p h w.1.0, w.1.1))

parts-within : (i : Inside) (x : List (Lex Bytes)) → InSet (unlexed x) → Within (length (unlexed x)) (parts i x)
unfolding parts unlexed every
parts-within i [] h = (omega arith, (h, tt))
parts-within i (a ∷ x) h =
    let q = first-in a x h in
    either (Within (length (unlexed (a ∷ x)))) (is_bare comma i a)
    (λ e. let w = parts-within i x q.1 in (omega (arith, w.0, first_weighs a x), (refl, w.1)))
    (λ e. subst (λ (n : ℕ). Within n (on_first a (parts (enters i a) x))) (sym (first_weighs a x))
    (one_further a (length (unlexed x)) (parts (enters i a) x) q.0 (parts-within (enters i a) x q.1)))

divided-within : (x : List (Lex Bytes)) → InSet (unlexed x) → Within (length (unlexed x)) (divided x)
unfolding divided
divided-within [] h = (omega arith, tt)
divided-within (a ∷ x) h = parts-within outside (a ∷ x) h

-- ---- keywords

abbrev pub keyword_bytes : List (Bytes × Bytes) → ℕ
keyword_bytes [] = 0
keyword_bytes (k ∷ ks) = (length k.0 + length k.1) + keyword_bytes ks

abbrev pub GoodKeyword : Bytes × Bytes → Type 0
GoodKeyword k = InSet k.0 × InSet k.1

abbrev Fit : ℕ → List (Bytes × Bytes) → Type 0
Fit n ks = (keyword_bytes ks ≤ n) × All GoodKeyword ks

fit-both : (m n : ℕ) (ks js : List (Bytes × Bytes)) → Fit m ks → Fit n js → Fit (m + n) (ks ++ js)
fit-both m n [] js h k = (omega (arith, k.0), k.1)
fit-both m n (a ∷ ks) js h k =
    let r = fit-both (keyword_bytes ks) n ks js (omega arith, h.1.1) k in (omega (arith, h.0, r.0), (h.1.0, r.1))

-- the lexemes behind some
behind-short : (n : ℕ) (x : List (Lex Bytes)) → length (unlexed (drop n x)) ≤ length (unlexed x)
behind-short n x = omega (arith, ap length (unlexed-split n x), length-append (unlexed (take n x)) (unlexed (drop n x)))

behind-in : (n : ℕ) (x : List (Lex Bytes)) → InSet (unlexed x) → InSet (unlexed (drop n x))
behind-in n x h = every-behind in_set (unlexed (take n x)) (unlexed (drop n x)) (subst InSet (sym (unlexed-split n x)) h)

default-fits : (n : ℕ) (p : List (Lex Bytes)) → GoodPart p → Fit (length (unlexed p)) (with_default (start_symbol p) (unlexed (drop (suc n) p)))
unfolding start_symbol with_default unlexed every
default-fits n [] h = (omega arith, tt)
default-fits n (byte c ∷ x) h = (omega arith, tt)
default-fits n (mark ∷ x) h = (omega arith, tt)
default-fits n (ref m ∷ x) h =
    let q = and_right (in_set ampersand) _ h in (
      omega (arith, behind-short n x, length-append m (unlexed x)),
      ((every_front in_set m (unlexed x) q, behind-in n x (every-behind in_set m (unlexed x) q)), tt),
    )
default-fits n (lone ∷ x) h = (omega arith, tt)

names-fit : (ps : Parts) → All GoodPart ps → Fit (weight ps) (keyword_names ps)
unfolding keyword_names
names-fit [] h = (omega arith, tt)
names-fit (p ∷ ps) h =
    fit-both (length (unlexed p)) (weight ps) (choose (has_equals p) (with_default (start_symbol p) (unlexed (drop (suc (equals_at p)) p))) []) (keyword_names ps)
    (either (Fit (length (unlexed p))) (has_equals p) (λ e. default-fits (equals_at p) p h.0) (λ e. (omega arith, tt)))
    (names-fit ps h.1)

pub prototype-keywords : (p : Bytes) → InSet p → (keyword_bytes (keyword_names (operand_parts (fields_of p))) ≤ length p) × All GoodKeyword (keyword_names (operand_parts (fields_of p)))
unfolding operand_parts
prototype-keywords p h =
    let f = fields_of p in
    let x = lexed true f.operand in
    let k = fields-held p h in
    let w = divided-within x (subst InSet (sym (lexed-back true f.operand)) k.operand_in) in
    let n = names-fit (divided x) w.1 in
    (omega (arith, n.0, w.0, ap length (lexed-back true f.operand), k.total), n.1)
