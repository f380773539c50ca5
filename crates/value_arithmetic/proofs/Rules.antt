-- The rules of arithmetic with values, as the code goes through them: one law for each case that it tells apart. Assumes nothing.
use mathlib.Core.Path.{◌≡◌, refl, sym, ap, ◌∙◌, subst}
use mathlib.Core.Bool.{Bool, true, false, true≢false}
use mathlib.Core.List.{List, [], ◌∷◌}
use mathlib.Core.Option.{Option}
use Prim.Native.Nat.{ℕ, zero, suc, ◌+◌, ◌-◌, ◌<◌, ◌≤◌}
use native.Mathlib.Omega.{arith}
use native.Mathlib.Numerals.{sub-one}
use lib.Dec.{eqb, ltb}
use lib.ListN.{length, drop, get_or}
use lib.IntN.{ℤ}
use borrow.Author.Tests.{eq-eqb, ne_eqb, ltb-true, ltb-false, eqb-false}
use Rattle.text.specs.Bytes.{Bytes, bytes, member}
use Rattle.text.specs.Characters.{digit}
use Rattle.rules.specs.Choice.{choose}
use Rattle.rules.specs.Lexemes.{Lex, byte, mark, ref, lone, comma}
use Rattle.rules.specs.Fields.{is_empty}
use Rattle.rules.specs.Grammar.{Kind, parameter, symbol, syslist, sysndx, sysect, unknown, Got, got, Reference, plain, rest, is_attribute, then, broken, given, closed}
use Rattle.rules.specs.Grammar.{subscripts, reference, referred, decimal_number, term, product, sum, deeper, arithmetic}
use Rattle.rules.specs.Evaluate.{Cell, values}
use Rattle.rules.proofs.Choices.{by, chosen, passed_over}
use Rattle.std.specs.Prelude.{Result, Ok, Err, Some, None}
use Rattle.std.specs.Prelude.{Option as Maybe}
use Rattle.kinds.specs.declared.Kind.{Kind as Kept}
use Rattle.kinds.specs.declared.Kind.TheVariants.{Parameter, List as Listed}
use Rattle.kinds.specs.declared.Stand.{Stand}
use Rattle.kinds.specs.declared.Stand.TheVariants.{Term, AfterK, AfterN}
use Rattle.kinds.specs.Kinds.{kind_for, table_of}
use Rattle.refusals.specs.declared.Fault.TheVariants.{IllFormed, OverLimit}
use Rattle.value_sums.specs.declared.Read.{Read}
use Rattle.value_sums.specs.declared.Refused.{Refused}
use Rattle.value_sums.specs.Answers.{lex_by, toks_by, tells_as, tells}
use Rattle.value_sums.proofs.Places.{toks-end, toks-step}
use Rattle.value_sums.proofs.Answers.{closed-as}
use Rattle.value_wholes.proofs.Rules.{passes-term, passes-product, passes-deeper}
use Rattle.value_references.specs.declared.Subscripts.{Subscripts}
use Rattle.value_references.specs.declared.Subscripts.TheVariants.{Bare, One, Two}
use Rattle.value_references.specs.Referring.{tells_reference, ref_to, kind_by, meaning_of}
use Rattle.value_references.specs.Referring.{listed as listed_by}
use Rattle.value_references.proofs.Standing.{is-kind}
use Rattle.value_arithmetic.specs.Evaluating.{judged_by}
use Rattle.value_arithmetic.proofs.Chains.{Chained, chained}

-- ---- a variable symbol at a place

pub record RefAt (held : ℕ → Cell) (code : Bytes) (at : ℕ) (n : Kept) (b : ℕ) : Type 0 where
  pub kept : n ≡ kind_for (held b).kind
  pub step : toks_by held code at ≡ ref (held b) ∷ toks_by held code (at + 1)
  pub inside : at < length code
  pub low : 128 ≤ b
  pub high : b < 227

some-is : {n m : Kept} → Some n ≡ Some m → n ≡ m
some-is {n} e = ap (λ (o : Maybe Kept). or_else n o) e
  where
    or_else : Kept → Maybe Kept → Kept
    or_else k None = k
    or_else k (Some m) = m

none-not : {n : Kept} → Some n ≡ None → ⊥
none-not e = true≢false (ap is_there e)
  where
    is_there : Maybe Kept → Bool
    is_there None = false
    is_there (Some n) = true

pub ref-step : (held : ℕ → Cell) (code : Bytes) (at : ℕ) {n : Kept} → Some n ≡ kind_by (toks_by held code at) → RefAt held code at n (get_or code at 0)
unfolding kind_by lex_by choose
ref-step held code at {n} read = by (ltb at (length code)) inside (λ e. absurd (none-not (read ∙ ap kind_by (toks-end held code at (ltb-false _ _ e)))))
  where
    b : ℕ
    b = get_or code at 0

    x : List (Lex Cell)
    x = toks_by held code (at + 1)

    lexeme : (l : Lex Cell) → lex_by held b ≡ l → at < length code → Some n ≡ kind_by (l ∷ x)
    lexeme l e i = read ∙ ap kind_by (toks-step held code at i ∙ ap (λ l. l ∷ x) e)

    inside : ltb at (length code) ≡ true → RefAt held code at n b
    inside t =
        let i = ltb-true _ _ t in
        by (ltb b 127) (λ e. absurd (none-not (lexeme (byte b) (chosen _ _ e) i))) λ e.
        by (eqb b 127) (λ f. absurd (none-not (lexeme mark (passed_over _ _ e ∙ chosen _ _ f) i))) λ f.
        by (ltb b 227)
        (λ g. let is : lex_by held b ≡ ref (held b) = passed_over _ _ e ∙ passed_over _ _ f ∙ chosen _ _ g in
        let p = ltb-false b 127 e in let q = eqb-false b 127 f in
        record { kept = some-is (lexeme (ref (held b)) is i); step = toks-step held code at i ∙ ap (λ l. l ∷ x) is; inside = i; low = omega arith; high = ltb-true b 227 g })
        (λ g. absurd (none-not (lexeme lone (passed_over _ _ e ∙ passed_over _ _ f ∙ passed_over _ _ g) i)))

-- by the byte that was read
pub ref-by : (held : ℕ → Cell) (code : Bytes) (at b : ℕ) {n : Kept} → b ≡ get_or code at 0 → Some n ≡ kind_by (toks_by held code at) → RefAt held code at n b
ref-by held code at b {n} e read = subst (λ b. RefAt held code at n b) (sym e) (ref-step held code at read)

-- ---- subscripts

module _ (from : ℕ → List (Lex Cell)) (c : Cell) (n : ℕ) where
  pub tells-bare : tells_reference c from (Ok (record { value = Bare; next = n })) ≡ got (ref_to c []) (from n)
  unfolding tells_as listed_by
  tells-bare = refl

  pub tells-ill : tells_reference c from (Err (record { fault = IllFormed; at = n })) ≡ broken (from n)
  unfolding tells_as broken
  tells-ill = refl

-- the parenthesis that closes
module _ (from : ℕ → List (Lex Cell)) (c : Cell) (r : Result (Read Subscripts) Refused) (next : ℕ) where
  pub one-closed : (a : ℤ) → tells_as (λ v. v) from r ≡ closed (One a) (from next) → tells_reference c from r ≡ closed (ref_to c (a ∷ [])) (from next)
  unfolding listed_by
  one-closed a h = closed-as (λ l. ref_to c (listed_by l)) from r (One a) (from next) h

  pub two-closed : (a b : ℤ) → tells_as (λ v. v) from r ≡ closed (Two a b) (from next) → tells_reference c from r ≡ closed (ref_to c (a ∷ (b ∷ []))) (from next)
  unfolding listed_by
  two-closed a b h = closed-as (λ l. ref_to c (listed_by l)) from r (Two a b) (from next) h

module _ (inner : List (Lex Cell) → Got ℤ Cell) (c : Cell) where
  abbrev pub listed : ℤ → List (Lex Cell) → Got (Reference Cell ℤ) Cell
  listed n y = choose (eqb (plain y) comma) (then (inner (rest y)) λ m z. closed (ref_to c (n ∷ (m ∷ []))) z) (closed (ref_to c (n ∷ [])) y)

  module _ (n : Kept) (k : Kind) (x : List (Lex Cell)) (e : n ≡ kind_for k) where
    pub sub-parameter : n ≡ Parameter → then (inner (rest x)) (λ n y. closed (ref_to c (n ∷ [])) y) ≡ subscripts values inner k c x
    unfolding subscripts
    sub-parameter h = sym (ap (λ k. subscripts values inner k c x) (is-kind e h))

    pub sub-list : n ≡ Listed → then (inner (rest x)) listed ≡ subscripts values inner k c x
    unfolding subscripts
    sub-list h = sym (ap (λ k. subscripts values inner k c x) (is-kind e h))

    pub sub-none : (n ≡ Parameter → ⊥) → (n ≡ Listed → ⊥) → broken x ≡ subscripts values inner k c x
    unfolding subscripts
    sub-none h i = go k (λ z. h (e ∙ z)) (λ z. i (e ∙ z))
      where
        go : (k : Kind) → (kind_for k ≡ Parameter → ⊥) → (kind_for k ≡ Listed → ⊥) → broken x ≡ subscripts values inner k c x
        go parameter h i = absurd (h refl)
        go (symbol s) h i = refl
        go syslist h i = absurd (i refl)
        go sysndx h i = refl
        go sysect h i = refl
        go unknown h i = refl

  -- behind the first subscript: it closes, or a second one stands there
  module _ (n : ℤ) (y : List (Lex Cell)) where
    pub list-one : eqb (plain y) comma ≡ false → closed (ref_to c (n ∷ [])) y ≡ listed n y
    list-one e = sym (passed_over _ _ e)

    pub list-two : eqb (plain y) comma ≡ true → then (inner (rest y)) (λ m z. closed (ref_to c (n ∷ (m ∷ []))) z) ≡ listed n y
    list-two e = sym (chosen _ _ e)

-- ---- references

module _ (inner : List (Lex Cell) → Got ℤ Cell) where
  module _ (cell : Cell) {x y : List (Lex Cell)} (step : x ≡ ref cell ∷ y) {c : ℕ} (read : c ≡ plain y) where
    pub reference-bare : (c ≡ 40 → ⊥) → got (ref_to cell []) y ≡ reference values inner x
    unfolding reference
    reference-bare h = sym (ap (reference values inner) step ∙ passed_over _ _ (ap (λ b. eqb b 40) (sym read) ∙ ne_eqb c 40 h))

    pub reference-subscripted : c ≡ 40 → subscripts values inner cell.kind cell y ≡ reference values inner x
    unfolding reference values
    reference-subscripted h = sym (ap (reference values inner) step ∙ chosen _ _ (ap (λ b. eqb b 40) (sym read ∙ h)))

  module _ (stand : Stand) (here : List (Lex Cell)) where
    pub refers-is : (x : List (Lex Cell)) → then (reference values inner x) (judged_by stand here) ≡ referred values inner (table_of stand) (meaning_of stand) here x
    unfolding referred judged_by values
    refers-is x = refl

    pub refers-none : (x : List (Lex Cell)) → None ≡ kind_by x → broken x ≡ referred values inner (table_of stand) (meaning_of stand) here x
    unfolding referred reference then broken kind_by
    refers-none [] e = refl
    refers-none (byte c ∷ x) e = refl
    refers-none (mark ∷ x) e = refl
    refers-none (ref c ∷ x) e = absurd (none-not (sym e))
    refers-none (lone ∷ x) e = refl

-- what a reference that was read stands for, if it may stand there
pub judged-is : (stand : Stand) (c : Cell) (l : List ℤ) (here y : List (Lex Cell)) {w : Option ℤ} → (table_of stand c.kind (is_empty l) ≡ true → w ≡ meaning_of stand (ref_to c l))
    → choose (table_of stand c.kind (is_empty l)) (given w here y) (broken here) ≡ judged_by stand here (ref_to c l) y
unfolding judged_by
judged-is stand c l here y meant = by (table_of stand c.kind (is_empty l)) (λ t. chosen _ _ t ∙ ap (λ o. given o here y) (meant t) ∙ sym (chosen _ _ t)) (λ t. passed_over _ _ t ∙ sym (passed_over _ _ t))

pub bare-is : {l : Subscripts} → l ≡ Bare → true ≡ is_empty (listed_by l)
unfolding listed_by is_empty
bare-is e = sym (ap (λ l. is_empty (listed_by l)) e)

pub bare-one : {l : Subscripts} {a : ℤ} → l ≡ One a → false ≡ is_empty (listed_by l)
unfolding listed_by is_empty
bare-one e = sym (ap (λ l. is_empty (listed_by l)) e)

pub bare-two : {l : Subscripts} {a b : ℤ} → l ≡ Two a b → false ≡ is_empty (listed_by l)
unfolding listed_by is_empty
bare-two e = sym (ap (λ l. is_empty (listed_by l)) e)

-- ---- terms

module _ (inner : List (Lex Cell) → Got ℤ Cell) (x : List (Lex Cell)) {c : ℕ} (read : c ≡ plain x) where
  pub term-opens : c ≡ 40 → term values inner x ≡ then (inner (rest x)) closed
  unfolding term
  term-opens h = chosen _ _ (rw (← read) (eq-eqb c 40 h))

  module _ (h : c ≡ 40 → ⊥) where
    no-opening : eqb (plain x) 40 ≡ false
    no-opening = rw (← read) (ne_eqb c 40 h)

    pub term-number : digit c ≡ true → term values inner x ≡ decimal_number values inner x
    unfolding term
    term-number d = passed_over _ _ no-opening ∙ chosen _ _ (rw (← read) d)

    module _ (d : digit c ≡ false) where
      no_digit : digit (plain x) ≡ false
      no_digit = rw (← read) d

      pub term-K : is_attribute 75 x ≡ true → term values inner x ≡ referred values inner (table_of AfterK) (meaning_of AfterK) x (drop 2 x)
      unfolding term meaning_of choose values
      term-K e = passed_over _ _ no-opening ∙ passed_over _ _ no_digit ∙ chosen _ _ e

      module _ (e : is_attribute 75 x ≡ false) where
        pub term-N : is_attribute 78 x ≡ true → term values inner x ≡ referred values inner (table_of AfterN) (meaning_of AfterN) x (drop 2 x)
        unfolding term meaning_of choose values
        term-N f = passed_over _ _ no-opening ∙ passed_over _ _ no_digit ∙ passed_over _ _ e ∙ chosen _ _ f

        pub term-reference : is_attribute 78 x ≡ false → term values inner x ≡ referred values inner (table_of Term) (meaning_of Term) x x
        unfolding term meaning_of choose values
        term-reference f = passed_over _ _ no-opening ∙ passed_over _ _ no_digit ∙ passed_over _ _ e ∙ passed_over _ _ f

-- ---- products and sums

abbrev pub is_times : List (Lex Cell) → Bool
is_times y = member (plain y) (bytes "*/")

abbrev pub is_plus : List (Lex Cell) → Bool
is_plus y = member (plain y) (bytes "+-")

no-times : is_times [] ≡ false
unfolding plain
no-times = refl

no_plus : is_plus [] ≡ false
unfolding plain
no_plus = refl

pub products-of : (nest : ℕ) → Chained is_times (term values (deeper values nest))
products-of nest = record { ends = no-times; passes = passes-term values (passes-deeper values nest) }

pub sums-of : (nest : ℕ) → Chained is_plus (product values (deeper values nest))
sums-of nest = record { ends = no_plus; passes = passes-product values (passes-deeper values nest) }

pub product-of : (nest : ℕ) (x : List (Lex Cell)) → chained (products-of nest) x ≡ product values (deeper values nest) x
unfolding product values
product-of nest x = refl

pub sum_of : (nest : ℕ) (x : List (Lex Cell)) → chained (sums-of nest) x ≡ arithmetic values nest x
unfolding arithmetic sum values
sum_of nest x = refl

pub deeper-spent : (from : ℕ → List (Lex Cell)) (nest at : ℕ) → nest ≡ 0 → tells from (Err (record { fault = OverLimit; at = at })) ≡ deeper values nest (from at)
unfolding tells_as deeper
deeper-spent from nest at h = rw h

pub deeper-on : (nest : ℕ) (x : List (Lex Cell)) → (nest ≡ 0 → ⊥) → arithmetic values (nest - 1) x ≡ deeper values nest x
unfolding arithmetic deeper
deeper-on zero x h = absurd (h refl)
deeper-on (suc n) x h = rw sub-one refl
