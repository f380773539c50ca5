-- The rules of arithmetic as the code goes through them: one law for each case that it tells apart. Assumes nothing.
use mathlib.Core.Path.{◌≡◌, refl, sym, ap, ◌∙◌, subst}
use mathlib.Core.Bool.{Bool, true, false, ◌||◌, true≢false}
use mathlib.Core.List.{List, [], ◌∷◌, map}
use mathlib.Core.Option.{some}
use Rattle.std.specs.Prelude.{Option, Some, None, Err}
use Prim.Native.Nat.{ℕ, zero, suc, ◌+◌, ◌-◌, ◌<◌, ◌≤◌}
use native.Mathlib.Omega.{arith}
use native.Mathlib.Nat.{le_refl, le_trans}
use native.Mathlib.Numerals.{sub-one}
use lib.Dec.{eqb, ltb, lit<}
use lib.ListN.{length, take, drop}
use borrow.Author.Tests.{eq-eqb, ne_eqb}
use Rattle.text.specs.Bytes.{Bytes, bytes, member}
use Rattle.text.specs.Characters.{digit, letter}
use Rattle.rules.specs.Choice.{choose, run}
use Rattle.rules.specs.Lexemes.{Lex, byte, mark, ref, lone, byte_of, comma, opening, closing}
use Rattle.rules.specs.Fields.{is_empty}
use Rattle.rules.specs.Values.{spelt}
use Rattle.rules.specs.Grammar.{Kind, parameter, symbol, syslist, sysndx, sysect, unknown, Got, got, refused, Reference, plain, rest, is_attribute, then, broken, given, closed, as_term, after_k, after_n}
use Rattle.rules.specs.Grammar.{subscripts, reference, referred, decimal_number, term, product, sum, deeper, arithmetic}
use Rattle.rules.specs.Form.{Nothing, form}
use Rattle.rules.proofs.Choices.{either, chosen, passed_over}
use Rattle.grammar.specs.declared.Fault.TheVariants.{Deep}
use Rattle.grammar.specs.Tokens.{toks_at, tells}
use Rattle.kinds.specs.declared.Kind.{Kind as Kept}
use Rattle.kinds.specs.declared.Kind.TheVariants.{Parameter, List as Listed}
use Rattle.kinds.specs.declared.Stand.TheVariants.{Term, AfterK, AfterN}
use Rattle.kinds.specs.Kinds.{table_of}
use Rattle.kinds.specs.Kinds.{kind_of as meant}
use Rattle.grammar.specs.Kinds.{kind_shown, kind_first}
use Rattle.grammar.specs.Operands.{subscribed}
use Rattle.grammar.proofs.Places.{Some≢None, toks-rest}
use Rattle.grammar.proofs.Answers.{found, found-at, ended}
use Rattle.grammar.proofs.Chains.{left, left-then, Forward, drop-less, Chained, chained, forward-chain}

-- ---- subscripts

module _ (inner : List (Lex Kind) → Got Nothing Kind) where
  abbrev pub listed : Nothing → List (Lex Kind) → Got Nothing Kind
  listed n y = choose (eqb (plain y) comma) (then (inner (rest y)) closed) (closed tt y)

  module _ (x : List (Lex Kind)) {k : Kept} where
    pub sub-parameter : k ≡ Parameter → then (inner (rest x)) closed ≡ subscribed inner (meant k) x
    unfolding subscribed
    sub-parameter e = rw e refl

    pub sub-list : k ≡ Listed → then (inner (rest x)) listed ≡ subscribed inner (meant k) x
    unfolding subscribed
    sub-list e = rw e refl

  module _ (kinds code : Bytes) (at : ℕ) {o : Option ℕ} (is : o ≡ choose (eqb (plain (toks_at kinds code at)) 44) (Some (at + 1)) None) where
    pub list-one : o ≡ None → closed tt (toks_at kinds code at) ≡ listed tt (toks_at kinds code at)
    list-one e = sym (passed_over _ _ (ended _ _ is e))

    pub list-two : {n : ℕ} → o ≡ Some n → then (inner (toks_at kinds code n)) closed ≡ listed tt (toks_at kinds code at)
    list-two e = ap (λ m. then (inner (toks_at kinds code m)) closed) (found-at _ _ is e) ∙ ap (λ x. then (inner x) closed) (sym (toks-rest kinds code at)) ∙ sym (chosen _ _ (found _ _ is e))

-- ---- references

module _ (inner : List (Lex Kind) → Got Nothing Kind) (table : Kind → Bool → Bool) (here : List (Lex Kind)) where
  abbrev Read : Type 0
  Read = Reference Kind Nothing

  abbrev pub refers : List (Lex Kind) → Got Nothing Kind
  refers = referred form inner table (λ r. some tt) here

  pub refers-none : (x : List (Lex Kind)) → None ≡ kind_first x → broken x ≡ refers x
  unfolding referred reference then broken kind_first kind_shown
  refers-none [] e = refl
  refers-none (byte c ∷ x) e = refl
  refers-none (mark ∷ x) e = refl
  refers-none (ref k ∷ x) e = absurd (Some≢None (sym e))
  refers-none (lone ∷ x) e = refl

  -- what a reference is taken for
  abbrev judged : Read → List (Lex Kind) → Got Nothing Kind
  judged r y = choose (table r.of (is_empty r.subscripts)) (got tt y) (broken here)

  abbrev pub fitting : Bool → Nothing → List (Lex Kind) → Got Nothing Kind
  fitting fits v x = choose fits (got tt x) (broken here)

  module _ (k : Kind) (y : List (Lex Kind)) where
    refers-by : refers (ref k ∷ y) ≡ then (choose (eqb (plain y) opening) (subscripts form inner k k y) (got (record { of = k; subscripts = [] }) y)) judged
    unfolding referred reference form given
    refers-by = refl

    bare-is : (eqb (plain y) 40 ≡ false) → refers (ref k ∷ y) ≡ fitting (table k true) tt y
    unfolding then is_empty
    bare-is e = refers-by ∙ ap (λ r. then r judged) (passed_over _ _ e)

    same-closed : (r : Read) → r.of ≡ k → is_empty r.subscripts ≡ false → (z : List (Lex Kind)) → then (closed r z) judged ≡ then (closed tt z) (fitting (table k false))
    unfolding closed then broken choose
    same-closed r e f z = go (eqb (plain z) closing)
      where
        go : (b : Bool) → then (choose b (got r (rest z)) (broken z)) judged ≡ then (choose b (got tt (rest z)) (broken z)) (fitting (table k false))
        go true = rw (e, f)
        go false = refl

    same_then : (g : Got Nothing Kind) (F : Nothing → List (Lex Kind) → Got Read Kind) (G : Nothing → List (Lex Kind) → Got Nothing Kind)
        → ((v : Nothing) (z : List (Lex Kind)) → then (F v z) judged ≡ then (G v z) (fitting (table k false))) → then (then g F) judged ≡ then (then g G) (fitting (table k false))
    unfolding then
    same_then (got v z) F G h = h v z
    same_then (refused e l) F G h = refl

  subs-are : (k : Kind) (y : List (Lex Kind)) → then (subscripts form inner k k y) judged ≡ then (subscribed inner k y) (fitting (table k false))
  unfolding subscripts subscribed then broken is_empty choose
  subs-are parameter y = same_then parameter y (inner (rest y)) _ _ (λ v z. same-closed parameter y (record { of = parameter; subscripts = v ∷ [] }) refl refl z)
  subs-are (symbol j) y = refl
  subs-are syslist y = same_then syslist y (inner (rest y)) _ _ (λ v z. go v z (eqb (plain z) comma))
    where
      go : (v : Nothing) (z : List (Lex Kind)) (b : Bool)
          → then (choose b (then (inner (rest z)) λ m w. closed (record { of = syslist; subscripts = v ∷ m ∷ [] }) w) (closed (record { of = syslist; subscripts = v ∷ [] }) z)) judged
          ≡ then (choose b (then (inner (rest z)) closed) (closed tt z)) (fitting (table syslist false))
      go v z true = same_then syslist z (inner (rest z)) _ _ (λ m w. same-closed syslist w (record { of = syslist; subscripts = v ∷ m ∷ [] }) refl refl w)
      go v z false = same-closed syslist z (record { of = syslist; subscripts = v ∷ [] }) refl refl z
  subs-are sysndx y = refl
  subs-are sysect y = refl
  subs-are unknown y = refl

  module _ (k : Kind) {x y : List (Lex Kind)} (step : x ≡ ref k ∷ y) {c : ℕ} (read : c ≡ plain y) {fits : Bool} where
    pub refers-bare : (c ≡ 40 → ⊥) → fits ≡ table k true → fitting fits tt y ≡ refers x
    refers-bare h e = rw (step, e) (sym (bare-is k y (rw (← read) (ne_eqb c 40 h))))

    pub refers-subscripted : c ≡ 40 → fits ≡ table k false → then (subscribed inner k y) (fitting fits) ≡ refers x
    refers-subscripted h e = rw (step, e) (sym (refers-by k y ∙ ap (λ r. then r judged) (chosen _ _ (rw (← read) (eq-eqb c 40 h))) ∙ subs-are k y))

-- ---- terms

module _ (inner : List (Lex Kind) → Got Nothing Kind) (x : List (Lex Kind)) {c : ℕ} (read : c ≡ plain x) where
  pub term-opens : c ≡ 40 → term form inner x ≡ then (inner (rest x)) closed
  unfolding term
  term-opens h = chosen _ _ (rw (← read) (eq-eqb c 40 h))

  module _ (h : c ≡ 40 → ⊥) where
    no-opening : eqb (plain x) 40 ≡ false
    no-opening = rw (← read) (ne_eqb c 40 h)

    pub term-number : digit c ≡ true → term form inner x ≡ decimal_number form inner x
    unfolding term
    term-number d = passed_over _ _ no-opening ∙ chosen _ _ (rw (← read) d)

    module _ (d : digit c ≡ false) where
      no_digit : digit (plain x) ≡ false
      no_digit = rw (← read) d

      pub term-K : is_attribute 75 x ≡ true → term form inner x ≡ referred form inner (table_of AfterK) (λ r. some tt) x (drop 2 x)
      unfolding term choose form
      term-K e = passed_over _ _ no-opening ∙ passed_over _ _ no_digit ∙ chosen _ _ e

      module _ (e : is_attribute 75 x ≡ false) where
        pub term-N : is_attribute 78 x ≡ true → term form inner x ≡ referred form inner (table_of AfterN) (λ r. some tt) x (drop 2 x)
        unfolding term choose form
        term-N f = passed_over _ _ no-opening ∙ passed_over _ _ no_digit ∙ passed_over _ _ e ∙ chosen _ _ f

        pub term-reference : is_attribute 78 x ≡ false → term form inner x ≡ referred form inner (table_of Term) (λ r. some tt) x x
        unfolding term choose form
        term-reference f = passed_over _ _ no-opening ∙ passed_over _ _ no_digit ∙ passed_over _ _ e ∙ passed_over _ _ f

-- ---- the rules move forward

-- at most so much is left
abbrev pub Few : (A : Type 0) → ℕ → Got A Kind → Type 0
Few A n r = left r ≤ n

pub up : (n : ℕ) → n ≤ suc n
up n = omega arith

pub got-left : {A : Type 0} (v : A) (x : List (Lex Kind)) (n : ℕ) → length x < n → left (got v x) ≤ n
unfolding left
got-left v x n h = h

pub broken-left : (A : Type 0) (x : List (Lex Kind)) (n : ℕ) → left (broken {A = A} x) ≤ n
unfolding left broken
broken-left A x n = omega arith

pub left-closed : {A : Type 0} (v : A) (x : List (Lex Kind)) → left (closed v x) ≤ suc (length x)
unfolding closed rest
left-closed v x = either (Few _ (suc (length x))) (eqb (plain x) closing) (λ e. let less = drop-less 1 x in got-left _ (drop 1 x) (suc (length x)) (omega arith)) (λ e. broken-left _ x _)

module _ (inner : List (Lex Kind) → Got Nothing Kind) (forward : Forward inner) where
  pub left-opened : {A : Type 0} (k : Nothing → List (Lex Kind) → Got A Kind) → ((v : Nothing) (y : List (Lex Kind)) → left (k v y) ≤ suc (length y)) → (x : List (Lex Kind)) → left (then (inner (rest x)) k) ≤ length x
  unfolding rest
  left-opened k h x =
      let all = left-then (inner (rest x)) k h in
      let less = drop-less 1 x in
      let on = forward (rest x) in
      omega arith

  left-subscripts : (k : Kind) (r : Kind) (x : List (Lex Kind)) → left (subscripts form inner k r x) ≤ suc (length x)
  unfolding subscripts
  left-subscripts parameter r x = le_trans (left-opened (λ n y. closed (record { of = r; subscripts = n ∷ [] }) y) (λ v y. left-closed _ y) x) (up (length x))
  left-subscripts (symbol j) r x = broken-left _ x _
  left-subscripts syslist r x = le_trans
      (left-opened (λ n y. choose (eqb (plain y) comma) (then (inner (rest y)) λ m z. closed (record { of = r; subscripts = n ∷ m ∷ [] }) z) (closed (record { of = r; subscripts = n ∷ [] }) y))
      (λ n y. either (Few _ (suc (length y))) (eqb (plain y) comma) (λ e. le_trans (left-opened (λ m z. closed (record { of = r; subscripts = n ∷ m ∷ [] }) z) (λ m z. left-closed _ z) y) (up (length y))) (λ e. left-closed _ y)) x)
      (up (length x))
  left-subscripts sysndx r x = broken-left _ x _
  left-subscripts sysect r x = broken-left _ x _
  left-subscripts unknown r x = broken-left _ x _

  forward-reference : Forward (reference form inner)
  unfolding reference
  forward-reference [] = broken-left _ [] _
  forward-reference (byte c ∷ x) = broken-left _ (byte c ∷ x) _
  forward-reference (mark ∷ x) = broken-left _ (mark ∷ x) _
  forward-reference (ref r ∷ x) = either (Few _ (suc (length x))) (eqb (plain x) opening) (λ e. left-subscripts (form.kind r) r x) (λ e. got-left _ _ _ (le_refl _))
  forward-reference (lone ∷ x) = broken-left _ (lone ∷ x) _

  pub forward-referred : (table : Kind → Bool → Bool) (here x : List (Lex Kind)) → left {A = Nothing} (referred form inner table (λ r. some tt) here x) ≤ length x
  unfolding referred given
  forward-referred table here x = le_trans (left-then (reference form inner x) judges (λ r y. either (Few _ (suc (length y))) (table (form.kind r.of) (is_empty r.subscripts)) (λ e. got-left _ _ _ (le_refl _)) (λ e. broken-left _ here _))) (forward-reference x)
    where
      judges : Reference Kind Nothing → List (Lex Kind) → Got Nothing Kind
      judges r y = choose (table (form.kind r.of) (is_empty r.subscripts)) (got tt y) (broken here)

  abbrev reading : List (Lex Kind) → ℕ → Got Nothing Kind
  reading x n = choose (ltb 2147483647 (spelt 0 (map byte_of (take n x))) || letter (plain (drop n x))) (broken x) (got tt (drop n x))

  forward-number : (x : List (Lex Kind)) → digit (plain x) ≡ true → left (decimal_number form inner x) ≤ length x
  unfolding decimal_number plain byte_of run digit form
  forward-number [] h = absurd (true≢false (sym h))
  forward-number (y ∷ x) h = subst (λ n. left (reading (y ∷ x) n) ≤ suc (length x)) (sym count)
      (either (Few _ (suc (length x))) (ltb 2147483647 (spelt 0 (map byte_of (take (suc more) (y ∷ x)))) || letter (plain (drop more x))) (λ e. broken-left _ (y ∷ x) _) (λ e. let less = drop-less more x in got-left _ (drop more x) (suc (length x)) (omega arith)))
    where
      more : ℕ
      more = run (λ z. digit (byte_of z)) x

      count : run (λ z. digit (byte_of z)) (y ∷ x) ≡ suc more
      count = chosen _ _ h

  forward-term : Forward (term form inner)
  unfolding term form
  forward-term x =
      either (Few _ (length x)) (eqb (plain x) opening) (λ e. left-opened closed (λ v y. left-closed v y) x)
      (λ e. either (Few _ (length x)) (digit (plain x)) (forward-number x)
      (λ e. either (Few _ (length x)) (is_attribute 75 x) (λ e. le_trans (forward-referred after_k x (drop 2 x)) (drop-less 2 x))
      (λ e. either (Few _ (length x)) (is_attribute 78 x) (λ e. le_trans (forward-referred after_n x (drop 2 x)) (drop-less 2 x)) (λ e. forward-referred as_term x x))))

  products : Chained (λ y. member (plain y) (bytes "*/")) 1 (term form inner)
  unfolding plain
  products = record { none = refl; some-skip = lit< tt; forward = forward-term }

  product_is : (x : List (Lex Kind)) → product form inner x ≡ chained products x
  unfolding product rest form
  product_is x = refl

  forward-product : Forward (product form inner)
  forward-product x = rw (product_is x) (forward-chain products x)

  sums : Chained (λ y. member (plain y) (bytes "+-")) 1 (product form inner)
  unfolding plain
  sums = record { none = refl; some-skip = lit< tt; forward = forward-product }

  sum_is : (x : List (Lex Kind)) → sum form inner x ≡ chained sums x
  unfolding sum rest form
  sum_is x = refl

  forward-sum : Forward (sum form inner)
  forward-sum x = rw (sum_is x) (forward-chain sums x)

pub forward-deeper : (nest : ℕ) → Forward (deeper form nest)
unfolding deeper left
forward-deeper zero x = omega arith
forward-deeper (suc n) x = forward-sum (deeper form n) (forward-deeper n) x

pub products-of : (nest : ℕ) → Chained (λ y. member (plain y) (bytes "*/")) 1 (term form (deeper form nest))
products-of nest = products (deeper form nest) (forward-deeper nest)

pub sums-of : (nest : ℕ) → Chained (λ y. member (plain y) (bytes "+-")) 1 (product form (deeper form nest))
sums-of nest = sums (deeper form nest) (forward-deeper nest)

pub product-of : (nest : ℕ) (x : List (Lex Kind)) → chained (products-of nest) x ≡ product form (deeper form nest) x
product-of nest x = sym (product_is (deeper form nest) (forward-deeper nest) x)

pub sum_of : (nest : ℕ) (x : List (Lex Kind)) → chained (sums-of nest) x ≡ arithmetic form nest x
unfolding arithmetic
sum_of nest x = sym (sum_is (deeper form nest) (forward-deeper nest) x)

pub deeper-spent : (from : ℕ → List (Lex Kind)) (nest at : ℕ) → nest ≡ 0 → tells from (Err (Deep at)) ≡ deeper form nest (from at)
unfolding tells deeper
deeper-spent from nest at h = rw h

pub deeper-on : (nest : ℕ) (x : List (Lex Kind)) → (nest ≡ 0 → ⊥) → arithmetic form (nest - 1) x ≡ deeper form nest x
unfolding arithmetic deeper
deeper-on zero x h = absurd (h refl)
deeper-on (suc n) x h = rw sub-one refl
