-- What the next rule makes of a condition's answer. Assumes nothing.
use Prim.Native.Nat.{ℕ, suc, ◌+◌, ◌-◌, ◌≤◌, ◌<◌}
use native.Mathlib.Omega.{arith}
use mathlib.Core.Path.{◌≡◌, refl, ap, sym, ◌∙◌}
use mathlib.Core.Bool.{Bool, true, false, ◌&&◌, ◌||◌, true≢false}
use mathlib.Core.List.{List, [], ◌∷◌, map}
use lib.Dec.{eqb, ltb}
use lib.ListN.{length, drop, length-drop, length-map, drop_of_length-le}
use borrow.Author.Tests.{ltb-true, ltb-false, ne_eqb, eqb-true}
use Rattle.text.specs.Bytes.{Bytes}
use Rattle.rules.specs.Choice.{choose, run}
use Rattle.rules.specs.Lexemes.{Lex, byte_of, space}
use Rattle.rules.specs.Grammar.{Got, got, plain, past_spaces, then, broken, is_digit_alone, constant_at}
use Rattle.rules.specs.Evaluate.{Cell, Truth}
use Rattle.rules.proofs.Choices.{by}
use Rattle.grammar.specs.Tokens.{lex_of, toks_at}
use Rattle.conditions.proofs.Words.{toks-length}
use Rattle.value_sums.specs.Answers.{lex_by, toks_by, tells_as}
use Rattle.value_sums.specs.declared.Read.{Read}
use Rattle.value_sums.specs.declared.Refused.{Refused}
use Rattle.value_sums.specs.declared.Numbered.{Numbered}
use Rattle.value_sums.proofs.Answers.{toks-drop, tells-read, number-told, number-read}
use Rattle.value_comparisons.specs.Truths.{truth_in, cutting}
use Rattle.value_comparisons.specs.Conditions.{tells_truth, truth_by}
use Rattle.value_comparisons.specs.declared.Truth.{Truth as TruthIs}
use Rattle.std.specs.Prelude.{Result, Ok, Err}
use Rattle.refusals.specs.declared.Fault.TheVariants.{IllFormed}
use Rattle.value_comparisons.proofs.Ordered.{bytes_same}

abbrev Lexemes : Type 0
Lexemes = List (Lex Cell)

-- ---- behind a truth that was read

module _ (from : ℕ → Lexemes) {s : Result (Read TruthIs) Numbered} {r : Read TruthIs} (is : s ≡ Ok r) where
  -- another truth at the same place
  pub then-made : (make : Truth → Truth) (u : TruthIs) → truth_in u ≡ make (truth_in r.value) → truth_by from (Ok (record { value = u; next = r.next })) ≡ then (truth_by from s) (λ b x. got (make b) x)
  then-made make u h = number-told truth_in from u r.next ∙ ap (λ b. got b (from r.next)) h ∙ sym (number-read truth_in from (λ b x. got (make b) x) is)

  -- the same truth at another place
  pub then-moved : (move : Lexemes → Lexemes) (n : ℕ) → from n ≡ move (from r.next) → truth_by from (Ok (record { value = r.value; next = n })) ≡ then (truth_by from s) (λ b x. got b (move x))
  then-moved move n h = number-told truth_in from r.value n ∙ ap (got (truth_in r.value)) h ∙ sym (number-read truth_in from (λ b x. got b (move x)) is)

-- ---- spaces

-- two ends of one text that are equally long are one
same_end : (l : Bytes) (i j : ℕ) → length l - i ≡ length l - j → drop i l ≡ drop j l
same_end l i j e = by (ltb i (length l))
    (λ h. let less : i < length l = ltb-true i (length l) h in let same : i ≡ j = omega arith in ap (λ k. drop k l) same)
    (λ h. let less : length l ≤ i = ltb-false i (length l) h in let far : length l ≤ j = omega arith in drop_of_length-le l less ∙ sym (drop_of_length-le l far))

spaces-in : {R : Type 0} (x : List (Lex R)) → run (λ y. eqb (byte_of y) space) x ≡ run (λ c. eqb c space) (map byte_of x)
unfolding run
spaces-in [] = refl
spaces-in (y ∷ x) = ap (λ n. choose (eqb (byte_of y) space) (suc n) 0) (spaces-in x)

pub spaces-same : (held : ℕ → Cell) (code : Bytes) (at r : ℕ) → toks_at [] code r ≡ past_spaces (toks_at [] code at) → toks_by held code r ≡ past_spaces (toks_by held code at)
unfolding past_spaces toks_by
spaces-same held code at r e =
    let n = run (λ y. eqb (byte_of y) space) (toks_at [] code at) in
    let count : n ≡ run (λ y. eqb (byte_of y) space) (toks_by held code at) = counted in
    let size : length code - r ≡ length code - (at + n) =
    sym (toks-length [] code r) ∙ ap length e ∙ length-drop n (toks_at [] code at) ∙ ap (λ k. k - n) (toks-length [] code at) ∙ minus (length code) at n in
    ap (map (lex_by held)) (same_end code r (at + n) size) ∙ sym (toks-drop held code at n) ∙ ap (λ k. drop k (toks_by held code at)) count
  where
    minus : (a b c : ℕ) → a - b - c ≡ a - (b + c)
    minus a b c = omega arith

    counted : run (λ y. eqb (byte_of y) space) (toks_at [] code at) ≡ run (λ y. eqb (byte_of y) space) (toks_by held code at)
    counted = spaces-in (toks_at [] code at) ∙ ap (run (λ c. eqb c space)) (bytes_same held code at) ∙ sym (spaces-in (toks_by held code at))

-- ---- 0 and 1

pub alone-same : (held : ℕ → Cell) (code : Bytes) (here at : ℕ) {a : Bool} → a ≡ eqb (length (toks_at [] code here)) (suc (length (toks_at [] code at)))
    → a ≡ eqb (length (toks_by held code here)) (suc (length (toks_by held code at)))
unfolding toks_at toks_by
alone-same held code here at e = e ∙ (λ j. eqb (size here j) (suc (size at j)))
  where
    size : (at : ℕ) → length (map (lex_of []) (drop at code)) ≡ length (map (lex_by held) (drop at code))
    size at = length-map (drop at code) (lex_of []) ∙ sym (length-map (drop at code) (lex_by held))

module _ (held : ℕ → Cell) (code : Bytes) (nest : ℕ) (inner : Lexemes → Got Truth Cell) (here at : ℕ) {c : ℕ} {a : Bool}
    (p : c ≡ plain (toks_by held code here)) (q : a ≡ eqb (length (toks_by held code here)) (suc (length (toks_by held code at)))) where
  constant_by : constant_at cutting nest inner (toks_by held code here) (toks_by held code at)
      ≡ choose (eqb c 48 && a) (got (cutting.constant false) (toks_by held code at)) (choose (eqb c 49 && a) (got (cutting.constant true) (toks_by held code at)) (broken (toks_by held code here)))
  unfolding constant_at is_digit_alone
  constant_by = λ j. choose (eqb (sym p j) 48 && sym q j) (got (cutting.constant false) (toks_by held code at)) (choose (eqb (sym p j) 49 && sym q j) (got (cutting.constant true) (toks_by held code at)) (broken (toks_by held code here)))

  pub constant-not : ((eqb c 48 || eqb c 49) && a) ≡ false → tells_truth (toks_by held code) (Err (record { fault = IllFormed; at = here })) ≡ constant_at cutting nest inner (toks_by held code here) (toks_by held code at)
  unfolding tells_as broken choose
  constant-not h = sym (constant_by ∙ go (eqb c 48) (eqb c 49) a _ _ _ h)
    where
      go : {A : Type 0} (p q a : Bool) (x y z : A) → ((p || q) && a) ≡ false → choose (p && a) x (choose (q && a) y z) ≡ z
      go true q true x y z h = absurd (true≢false h)
      go true true false x y z h = refl
      go true false false x y z h = refl
      go false true true x y z h = absurd (true≢false h)
      go false true false x y z h = refl
      go false false a x y z h = refl

  pub constant-is : (t : TruthIs) → ((eqb c 48 || eqb c 49) && a) ≡ true → truth_in t ≡ cutting.constant (eqb c 49)
      → tells_truth (toks_by held code) (Ok (record { value = t; next = at })) ≡ constant_at cutting nest inner (toks_by held code here) (toks_by held code at)
  unfolding tells_as choose
  constant-is t h k = ap (λ b. got b (toks_by held code at)) k ∙ sym (constant_by ∙ go (eqb c 48) (eqb c 49) a _ (λ e. ne_eqb c 49 (λ q. let z = eqb-true c 48 e in absurd (omega arith))) h)
    where
      go : (p q a : Bool) (z : Got Truth Cell) → (p ≡ true → q ≡ false) → ((p || q) && a) ≡ true
          → choose (p && a) (got (cutting.constant false) (toks_by held code at)) (choose (q && a) (got (cutting.constant true) (toks_by held code at)) z) ≡ got (cutting.constant q) (toks_by held code at)
      go true true a z n h = absurd (true≢false (n refl))
      go true false true z n h = refl
      go true false false z n h = absurd (true≢false (sym h))
      go false true true z n h = refl
      go false true false z n h = absurd (true≢false (sym h))
      go false false true z n h = absurd (true≢false (sym h))
      go false false false z n h = absurd (true≢false (sym h))
