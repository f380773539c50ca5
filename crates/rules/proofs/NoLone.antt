-- What the grammar reads holds no ampersand left over: a rule goes past lexemes of which none is one. One law for each combinator and each rule.
use Prim.Native.Nat.{ℕ, zero, suc, ◌≤◌}
use native.Mathlib.Nat.{le_of_suc-le-suc, not-suc-le-zero}
use native.Mathlib.Omega.{arith}
use mathlib.Core.Path.{◌≡◌, refl, ap, sym, ◌∙◌, subst}
use mathlib.Core.Bool.{Bool, true, false, false≢true, ◌&&◌}
use mathlib.Core.List.{List, [], ◌∷◌}
use mathlib.Core.Option.{Option, none, some}
use lib.Dec.{eqb}
use lib.ListN.{length, take, drop, length-map}
use Rattle.text.specs.Bytes.{Bytes, bytes, member, same}
use Rattle.text.specs.Characters.{letter, digit, letter_or_digit}
use Rattle.text.proofs.Same.{same-is}
use Rattle.rules.specs.Choice.{choose, run, every, while}
use Rattle.rules.specs.Lexemes.{space, apostrophe, opening, closing, comma, period, Lex, byte, mark, ref, lone, byte_of}
use Rattle.rules.specs.Fields.{is_empty}
use Rattle.rules.specs.Statement.{Set, set_a, set_b, set_c, Line, Does, passes, ends, exits, text, models, sets, branches_if, branches, counts}
use Rattle.rules.specs.Values.{Relation, eq, ne, lt, le, gt, ge}
use Rattle.rules.specs.Grammar
use Rattle.rules.specs.Grammar.{Kind, parameter, symbol, syslist, sysndx, sysect, unknown, Reference, Got, got, refused, Sense, plain, rest, starts_mark, is_attribute, past_spaces, word_at, is_word, relation_at, then, broken, given, closed, whole, goes_on, turn, chain}
use Rattle.rules.specs.Form.{form, is_got, is_named_by, is_operand_of, is_formed_by, is_formed}
use Rattle.rules.proofs.Choices.{either, and_left, and_right}
use Rattle.rules.proofs.Logic.{clash}

abbrev pub is_no_lone : {R : Type 0} → Lex R → Bool
is_no_lone (byte c) = true
is_no_lone mark = true
is_no_lone (ref r) = true
is_no_lone lone = false

-- no ampersand is left over
abbrev pub NoLone : {R : Type 0} → List (Lex R) → Type 0
NoLone x = every is_no_lone x ≡ true

-- a choice that gives something gives the first, or goes on
chosen-or : {P : Type 0} {r : Relation} (b : Bool) (k : Relation) {o : Option Relation} → (b ≡ true → P) → (o ≡ some r → P) → choose b (some k) o ≡ some r → P
unfolding choose
chosen-or true k t f h = t refl
chosen-or false k t f h = f h

abbrev is_none : Option Relation → Type 0
is_none none = Unit {0}
is_none (some r) = ⊥

module _ {R : Type 0} where
  -- the second is what the first is behind some lexemes of which none is an ampersand left over
  record Past (x y : List (Lex R)) : Type 0 where
    clean : every is_no_lone x ≡ every is_no_lone y
    shorter : length y ≤ length x

  nothing-past : {x : List (Lex R)} → Past x x
  nothing-past = record { clean = refl; shorter = omega arith }

  further : {x y z : List (Lex R)} → Past x y → Past y z → Past x z
  further p q = record { clean = p.clean ∙ q.clean; shorter = omega (arith, p.shorter, q.shorter) }

  past-choose : {x y z : List (Lex R)} (b : Bool) → (b ≡ true → Past x y) → (b ≡ false → Past x z) → Past x (choose b y z)
  past-choose {x} b t f = either (Past x) b t f

  -- behind one byte that passes a test
  past_one : (test : ℕ → Bool) → test 0 ≡ false → (x : List (Lex R)) → test (plain x) ≡ true → Past x (rest x)
  unfolding plain rest byte_of every
  past_one test f [] h = clash h f
  past_one test f (byte c ∷ x) h = record { clean = refl; shorter = omega arith }
  past_one test f (mark ∷ x) h = clash h f
  past_one test f (ref r ∷ x) h = clash h f
  past_one test f (lone ∷ x) h = clash h f

  past-byte : (c : ℕ) → eqb 0 c ≡ false → (x : List (Lex R)) → eqb (plain x) c ≡ true → Past x (rest x)
  past-byte c = past_one (λ b. eqb b c)

  -- behind a run of bytes that pass a test
  past-run : (test : ℕ → Bool) → test 0 ≡ false → (x : List (Lex R)) → Past x (drop (run (λ a. test (byte_of a)) x) x)
  unfolding run byte_of every choose
  past-run test f [] = nothing-past
  past-run test f (byte c ∷ x) = go (test c) (past-run test f x)
    where
      go : (b : Bool) → Past x (drop (run (λ a. test (byte_of a)) x) x) → Past (byte c ∷ x) (drop (choose b (suc (run (λ a. test (byte_of a)) x)) 0) (byte c ∷ x))
      go true p = record { clean = p.clean; shorter = omega (arith, p.shorter) }
      go false p = nothing-past
  past-run test f (mark ∷ x) = subst (λ (b : Bool). Past (mark ∷ x) (drop (choose b (suc (run (λ a. test (byte_of a)) x)) 0) (mark ∷ x))) (sym f) nothing-past
  past-run test f (ref r ∷ x) = subst (λ (b : Bool). Past (ref r ∷ x) (drop (choose b (suc (run (λ a. test (byte_of a)) x)) 0) (ref r ∷ x))) (sym f) nothing-past
  past-run test f (lone ∷ x) = subst (λ (b : Bool). Past (lone ∷ x) (drop (choose b (suc (run (λ a. test (byte_of a)) x)) 0) (lone ∷ x))) (sym f) nothing-past

  past-spaces : (x : List (Lex R)) → Past x (past_spaces x)
  unfolding past_spaces
  past-spaces x = past-run (λ c. eqb c space) refl x

  past-mark : (x : List (Lex R)) → starts_mark x ≡ true → Past x (rest x)
  unfolding starts_mark rest every
  past-mark [] h = absurd (false≢true h)
  past-mark (byte c ∷ x) h = absurd (false≢true h)
  past-mark (mark ∷ x) h = record { clean = refl; shorter = omega arith }
  past-mark (ref r ∷ x) h = absurd (false≢true h)
  past-mark (lone ∷ x) h = absurd (false≢true h)

  drop-two : (x : List (Lex R)) → rest (rest x) ≡ drop 2 x
  unfolding rest
  drop-two [] = refl
  drop-two (a ∷ []) = refl
  drop-two (a ∷ (b ∷ x)) = refl

  past-attribute : (c : ℕ) → eqb 0 c ≡ false → (x : List (Lex R)) → is_attribute c x ≡ true → Past x (drop 2 x)
  unfolding is_attribute
  past-attribute c f x h =
      subst (Past x) (drop-two x) (further (past-byte c f x (and_left (eqb (plain x) c) _ h)) (past-mark (rest x) (and_right (eqb (plain x) c) _ h)))

  -- behind a word
  run_short : (test : Lex R → Bool) (x : List (Lex R)) → length (take (run test x) x) ≡ run test x
  unfolding run choose
  run_short test [] = refl
  run_short test (a ∷ x) = go (test a) (run_short test x)
    where
      go : (b : Bool) → length (take (run test x) x) ≡ run test x → length (take (choose b (suc (run test x)) 0) (a ∷ x)) ≡ choose b (suc (run test x)) 0
      go true ih = ap suc ih
      go false ih = refl

  past_word : (w : Bytes) (x : List (Lex R)) → w ≡ word_at x → Past x (drop (length w) x)
  unfolding word_at letter_or_digit letter digit
  past_word w x e =
      let word : Lex R → Bool = λ a. letter_or_digit (byte_of a) in
      let n : length w ≡ run word x = ap length e ∙ (length-map (take (run word x) x) byte_of ∙ run_short word x) in
      subst (λ (k : ℕ). Past x (drop k x)) (sym n) (past-run letter_or_digit refl x)

  past-relation : (x : List (Lex R)) (r : Relation) → relation_at x ≡ some r → Past x (drop 2 x)
  unfolding relation_at
  past-relation x r =
      let w = word_at x in
      let at : (v : Bytes) → length v ≡ 2 → same w v ≡ true → Past x (drop 2 x) = λ v n e. subst (λ (k : ℕ). Past x (drop k x)) n (past_word v x (sym (same-is w v e))) in
      chosen-or (same w (bytes "EQ")) eq (at (bytes "EQ") refl)
      (chosen-or (same w (bytes "NE")) ne (at (bytes "NE") refl)
      (chosen-or (same w (bytes "LT")) lt (at (bytes "LT") refl)
      (chosen-or (same w (bytes "LE")) le (at (bytes "LE") refl)
      (chosen-or (same w (bytes "GT")) gt (at (bytes "GT") refl)
      (chosen-or (same w (bytes "GE")) ge (at (bytes "GE") refl) (λ e. absurd (subst is_none e tt)))))))

-- ---- what a rule gives from `x` on: it is refused, or it has gone past lexemes without an ampersand left over

data Passes {R A : Type 0} (x : List (Lex R)) : Got A R → Type 0 where
  on : {v : A} {y : List (Lex R)} → Past x y → Passes x (got v y)
  off : {e left : ℕ} → Passes x (refused e left)

abbrev Rule : {R A : Type 0} → (List (Lex R) → Got A R) → Type 0
Rule {R} f = (x : List (Lex R)) → Passes x (f x)

module _ {R : Type 0} where
  passes-from : {A : Type 0} {x y : List (Lex R)} {g : Got A R} → Past x y → Passes y g → Passes x g
  passes-from p (on q) = on (further p q)
  passes-from p off = off

  passes-broken : {A : Type 0} {x : List (Lex R)} (y : List (Lex R)) → Passes {A = A} x (broken y)
  unfolding broken
  passes-broken y = off

  passes-choose : {A : Type 0} {x : List (Lex R)} {f g : Got A R} (b : Bool) → (b ≡ true → Passes x f) → (b ≡ false → Passes x g) → Passes x (choose b f g)
  passes-choose {x = x} b t f = either (Passes x) b t f

  passes_then : {A W : Type 0} {x : List (Lex R)} {f : Got A R} {k : A → List (Lex R) → Got W R} → Passes x f → ((v : A) (y : List (Lex R)) → Passes y (k v y)) → Passes x (then f k)
  unfolding then
  passes_then (on {v} {y} p) h = passes-from p (h v y)
  passes_then off h = off

  passes-given : {A : Type 0} (o : Option A) (here : List (Lex R)) {x y : List (Lex R)} → Past x y → Passes x (given o here y)
  unfolding given
  passes-given none here p = off
  passes-given (some v) here p = on p

  passes-option : {A D : Type 0} {x : List (Lex R)} {f : Got A R} {k : D → Got A R} (o : Option D) → Passes x f → ((d : D) → o ≡ some d → Passes x (k d))
      → Passes {A = A} x (elim o [ none ↦ f | some d ↦ k d ])
  passes-option none h hs = h
  passes-option (some d) h hs = hs d refl

  passes-closed : {A : Type 0} (v : A) (x : List (Lex R)) → Passes x (closed v x)
  unfolding closed
  passes-closed v x = passes-choose _ (λ e. on (past-byte closing refl x e)) (λ e. passes-broken _)

  module _ {A : Type 0} (test : Got A R → Bool) (turn : Got A R → Got A R) (ends : (e left : ℕ) → test (refused e left) ≡ false)
      (turns : (v : A) (x : List (Lex R)) → test (got v x) ≡ true → Passes x (turn (got v x)))
    where
      passes-while : (n : ℕ) {x : List (Lex R)} {g : Got A R} → Passes x g → Passes x (while test turn n g)
      unfolding while choose
      passes-while zero h = h
      passes-while (suc n) (on {v} {y} p) = passes-choose _ (λ e. passes-while n (passes-from p (turns v y e))) (λ e. on p)
      passes-while (suc n) (off {e} {left}) = rw (ends e left) off

  module _ {A : Type 0} {goes : List (Lex R) → Bool} {skip : List (Lex R) → List (Lex R)} {operand : List (Lex R) → Got A R} (join : List (Lex R) → A → A → Option A)
      (skips : (x : List (Lex R)) → goes x ≡ true → Past x (skip x)) (operands : Rule operand)
    where
      passes-chain : Rule (chain goes skip operand join)
      unfolding chain goes_on turn
      passes-chain x =
          passes-while (goes_on goes skip operand join) (turn goes skip operand join) (λ e left. refl)
          (λ v y e. passes-from (skips y e) (passes_then (operands (skip y)) λ w z. passes-given (join y v w) y nothing-past)) (length x) (operands x)

  whole-clean : {A : Type 0} {x : List (Lex R)} {g : Got A R} → Passes x g → is_got (whole g) ≡ true → NoLone x
  unfolding whole is_got broken every
  whole-clean {A} {x} (on {v} {y} p) h = at y p h
    where
      at : (y : List (Lex R)) → Past x y → is_got (whole {A = A} (got v y)) ≡ true → NoLone x
      at [] p h = p.clean
      at (a ∷ y) p h = absurd (false≢true h)
  whole-clean off h = absurd (false≢true h)

-- ---- the rules

module _ {R N S B : Type 0} (sense : Sense R N S B) where
  module _ {inner : List (Lex R) → Got N R} (inners : Rule inner) where
    -- what stands in parentheses, behind the `(`
    passes-inner : (x : List (Lex R)) → eqb (plain x) opening ≡ true → Passes x (inner (rest x))
    passes-inner x e = passes-from (past-byte opening refl x e) (inners (rest x))

    behind-comma : (x : List (Lex R)) → eqb (plain x) comma ≡ true → Passes x (inner (rest x))
    behind-comma x e = passes-from (past-byte comma refl x e) (inners (rest x))

    passes-subscripts : (k : Kind) (r : R) (x : List (Lex R)) → eqb (plain x) opening ≡ true → Passes x (Grammar.subscripts sense inner k r x)
    unfolding Grammar.subscripts
    passes-subscripts parameter r x e = passes_then (passes-inner x e) λ n y. passes-closed _ y
    passes-subscripts (symbol k) r x e = passes-broken _
    passes-subscripts syslist r x e =
        passes_then (passes-inner x e) λ n y. passes-choose _ (λ c. passes_then (behind-comma y c) λ m z. passes-closed _ z) (λ c. passes-closed _ y)
    passes-subscripts sysndx r x e = passes-broken _
    passes-subscripts sysect r x e = passes-broken _
    passes-subscripts unknown r x e = passes-broken _

    -- a symbol is behind the reference's start already
    behind-symbol : (r : R) (x : List (Lex R)) → Passes x (Grammar.reference sense inner (ref r ∷ x))
    unfolding Grammar.reference
    behind-symbol r x = passes-choose _ (passes-subscripts (sense.kind r) r x) (λ e. on nothing-past)

    past-symbol : (r : R) (x : List (Lex R)) → Past (ref r ∷ x) x
    unfolding every
    past-symbol r x = record { clean = refl; shorter = omega arith }

    passes-reference : Rule (Grammar.reference sense inner)
    unfolding Grammar.reference
    passes-reference [] = passes-broken _
    passes-reference (byte c ∷ x) = passes-broken _
    passes-reference (mark ∷ x) = passes-broken _
    passes-reference (ref r ∷ x) = passes-from (past-symbol r x) (behind-symbol r x)
    passes-reference (lone ∷ x) = passes-broken _

    passes-value : {A : Type 0} (takes : Kind → Bool → Bool) (meant : Reference R N → Option A) (here y : List (Lex R)) {x : List (Lex R)} → Passes x (Grammar.reference sense inner y)
        → Passes x (Grammar.referred sense inner takes meant here y)
    unfolding Grammar.referred
    passes-value takes meant here y h = passes_then h λ r z. passes-choose _ (λ e. passes-given (meant r) here nothing-past) (λ e. passes-broken _)

    passes-referred : {A : Type 0} (takes : Kind → Bool → Bool) (meant : Reference R N → Option A) (here x : List (Lex R))
        → Passes x (Grammar.referred sense inner takes meant here x)
    passes-referred takes meant here x = passes-value takes meant here x (passes-reference x)

    behind-attribute : {A : Type 0} (c : ℕ) → eqb 0 c ≡ false → (takes : Kind → Bool → Bool) (meant : Reference R N → Option A) (x : List (Lex R)) → is_attribute c x ≡ true
        → Passes x (Grammar.referred sense inner takes meant x (drop 2 x))
    behind-attribute c f takes meant x e = passes-from (past-attribute c f x e) (passes-referred takes meant x (drop 2 x))

    passes-decimal : Rule (Grammar.decimal_number sense inner)
    unfolding Grammar.decimal_number digit
    passes-decimal x = passes-choose _ (λ e. passes-broken _) (λ e. on (past-run digit refl x))

    passes-term : Rule (Grammar.term sense inner)
    unfolding Grammar.term
    passes-term x =
        passes-choose _ (λ e. passes_then (passes-inner x e) passes-closed)
        (λ e. passes-choose _ (λ e. passes-decimal x)
        (λ e. passes-choose _ (behind-attribute 75 refl Grammar.after_k sense.bytes_in x)
        (λ e. passes-choose _ (behind-attribute 78 refl Grammar.after_n sense.entries_in x) (λ e. passes-referred Grammar.as_term sense.term x x))))

    passes-product : Rule (Grammar.product sense inner)
    unfolding Grammar.product
    passes-product = passes-chain _ (past_one (λ c. member c (bytes "*/")) refl) passes-term

    passes-sum : Rule (Grammar.sum sense inner)
    unfolding Grammar.sum
    passes-sum = passes-chain _ (past_one (λ c. member c (bytes "+-")) refl) passes-product

    -- a piece has one lexeme at least, and a period behind it may be removed
    past-period : (x : List (Lex R)) → Past x (choose (eqb (plain x) period) (rest x) x)
    past-period x = past-choose (eqb (plain x) period) (past-byte period refl x) (λ e. nothing-past)

    behind-first : (a : Lex R) (x : List (Lex R)) → Passes x (Grammar.piece sense inner (a ∷ x))
    unfolding Grammar.piece
    behind-first (byte c) x = on nothing-past
    behind-first mark x = on nothing-past
    behind-first (ref r) x = passes_then (passes-value Grammar.in_text sense.text_of (ref r ∷ x) (ref r ∷ x) (behind-symbol r x)) λ s y. on (past-period y)
    behind-first lone x = passes-broken _

    passes-piece : Rule (Grammar.piece sense inner)
    unfolding Grammar.piece every
    passes-piece [] = passes-broken _
    passes-piece (byte c ∷ x) = passes-from (record { clean = refl; shorter = omega arith }) (behind-first (byte c) x)
    passes-piece (mark ∷ x) = passes-from (record { clean = refl; shorter = omega arith }) (behind-first mark x)
    passes-piece (ref r ∷ x) = passes-from (past-symbol r x) (behind-first (ref r) x)
    passes-piece (lone ∷ x) = passes-broken _

    passes-add : (s : S) (y : List (Lex R)) {x : List (Lex R)} → Passes x (Grammar.piece sense inner y) → Passes x (Grammar.add_piece sense inner (got s y))
    unfolding Grammar.add_piece
    passes-add s y h = passes_then h λ t z. on nothing-past

    -- a text is read to its end
    abbrev text_from : ℕ → Got S R → Got S R
    text_from n g = while (Grammar.goes_on_text sense inner) (Grammar.add_piece sense inner) n g

    still-refused : (n e left : ℕ) → is_got (text_from n (refused e left)) ≡ false
    unfolding while Grammar.goes_on_text choose is_got
    still-refused zero e left = refl
    still-refused (suc n) e left = refl

    abbrev ReadToEnd : ℕ → Type 0
    ReadToEnd n = (s : S) (x : List (Lex R)) → length x ≤ n → is_got (text_from n (got s x)) ≡ true → NoLone x

    goes-on : (n : ℕ) {x : List (Lex R)} {g : Got S R} → ReadToEnd n → Passes x g → length x ≤ n → is_got (text_from n g) ≡ true → NoLone x
    goes-on n ih (on {v} {y} p) few h = p.clean ∙ ih v y (omega (arith, p.shorter)) h
    goes-on n ih (off {e} {left}) few h = clash h (still-refused n e left)

    refused-lone : (n : ℕ) (s : S) (x : List (Lex R)) → is_got (text_from n (Grammar.add_piece sense inner (got s (lone ∷ x)))) ≡ false
    unfolding Grammar.add_piece Grammar.piece then broken
    refused-lone n s x = still-refused n _ _

    read-to-end : (n : ℕ) → ReadToEnd n
    unfolding while Grammar.goes_on_text is_empty choose every
    read-to-end zero s [] few h = refl
    read-to-end zero s (a ∷ x) few h = absurd (not-suc-le-zero few)
    read-to-end (suc n) s [] few h = refl
    read-to-end (suc n) s (byte c ∷ x) few h = goes-on n (read-to-end n) (passes-add s _ (behind-first (byte c) x)) (le_of_suc-le-suc few) h
    read-to-end (suc n) s (mark ∷ x) few h = goes-on n (read-to-end n) (passes-add s _ (behind-first mark x)) (le_of_suc-le-suc few) h
    read-to-end (suc n) s (ref r ∷ x) few h = goes-on n (read-to-end n) (passes-add s _ (behind-first (ref r) x)) (le_of_suc-le-suc few) h
    read-to-end (suc n) s (lone ∷ x) few h = clash h (refused-lone n s x)

    text-clean : (x : List (Lex R)) → is_got (Grammar.text sense inner x) ≡ true → NoLone x
    unfolding Grammar.text
    text-clean x h = read-to-end (length x) sense.empty x (omega arith) h

    past-doubled : (x : List (Lex R)) → Grammar.is_doubled sense inner x ≡ true → Past x (drop 2 x)
    unfolding Grammar.is_doubled
    past-doubled x h =
        let e = and_left (eqb (plain x) apostrophe) _ h in
        let f = and_right (eqb (plain x) apostrophe) _ h in
        subst (Past x) (drop-two x) (further (past-byte apostrophe refl x e) (past-byte apostrophe refl (rest x) f))

    passes-quoted : Rule (Grammar.quoted_text sense inner)
    unfolding Grammar.quoted_text Grammar.goes_on_quoted Grammar.add_quoted
    passes-quoted x =
        passes_then
        (passes-while (Grammar.goes_on_quoted sense inner) (Grammar.add_quoted sense inner) (λ e left. refl)
        (λ s y e. passes-choose _ (λ d. on (past-doubled y d)) (λ d. passes-add s y (passes-piece y))) (length x) (on nothing-past))
        λ s y. passes-choose _ (λ e. on (past-byte apostrophe refl y e)) (λ e. passes-broken _)

    passes-substring : (here : List (Lex R)) (s : S) → Rule (Grammar.substringed sense inner here s)
    unfolding Grammar.substringed
    passes-substring here s x =
        passes-choose _
        (λ e. passes_then (passes-inner x e) λ start y. passes-choose _
        (λ c. passes_then (behind-comma y c) λ count z. passes_then (passes-closed count z) λ last w. passes-given (sense.substring_of s start last) here nothing-past)
        (λ c. passes-broken _))
        (λ e. on nothing-past)

    passes-string : Rule (Grammar.string sense inner)
    unfolding Grammar.string
    passes-string x =
        passes-choose _ (λ e. passes-from (past-byte apostrophe refl x e) (passes_then (passes-quoted (rest x)) λ s y. passes-substring x s y)) (λ e. passes-broken _)

    passes-characters : Rule (Grammar.characters sense inner)
    unfolding Grammar.characters
    passes-characters x =
        passes-choose _ (behind-attribute 84 refl Grammar.after_t sense.type_in x)
        (λ e. passes_then (passes-chain _ (past-byte period refl) passes-string x) λ s y. on nothing-past)

  passes-deeper : (n : ℕ) → Rule (Grammar.deeper sense n)
  unfolding Grammar.deeper
  passes-deeper zero x = off
  passes-deeper (suc n) x = passes-sum (passes-deeper n) x

  passes-arithmetic : (n : ℕ) → Rule (Grammar.arithmetic sense n)
  unfolding Grammar.arithmetic
  passes-arithmetic n = passes-sum (passes-deeper n)

  passes-string-within : (n : ℕ) → Rule (Grammar.string_within sense n)
  unfolding Grammar.string_within
  passes-string-within n = passes-characters (passes-deeper n)

  -- conditions
  module _ (n : ℕ) {inner : List (Lex R) → Got B R} (inners : Rule inner) where
    past-compared : (x : List (Lex R)) (r : Relation) → relation_at x ≡ some r → Past x (past_spaces (drop 2 x))
    past-compared x r e = further (past-relation x r e) (past-spaces (drop 2 x))

    passes-strings : (s : S) → Rule (Grammar.compared_strings sense n inner s)
    unfolding Grammar.compared_strings
    passes-strings s x = passes-option _ (passes-broken _)
        λ r e. passes-from (past-compared x r e) (passes_then (passes-string-within n _) λ t y. on nothing-past)

    passes-constant : (here : List (Lex R)) → Rule (Grammar.constant_at sense n inner here)
    unfolding Grammar.constant_at
    passes-constant here x = passes-choose _ (λ e. on nothing-past) (λ e. passes-choose _ (λ e. on nothing-past) (λ e. passes-broken _))

    passes-numbers : (here : List (Lex R)) (a : N) → Rule (Grammar.compared_numbers sense n inner here a)
    unfolding Grammar.compared_numbers
    passes-numbers here a x = passes-option _ (passes-constant here x)
        λ r e. passes-choose _ (λ o. passes-broken _)
        (λ o. passes-from (further (past-spaces x) (past-compared (past_spaces x) r e)) (passes_then (passes-arithmetic n _) λ b z. on nothing-past))

    passes-element : Rule (Grammar.element sense n inner)
    unfolding Grammar.element
    passes-element x =
        passes-choose _ (λ e. passes_then (passes-from (past-byte opening refl x e) (inners (rest x))) passes-closed)
        (λ e. passes-choose _ (λ e. passes_then (passes-string-within n x) λ s y. passes-from (past-spaces y) (passes-strings s (past_spaces y)))
        (λ e. passes-choose _ (λ e. passes_then (passes-reference (passes-deeper n) x) λ r y. on nothing-past)
        (λ e. passes_then (passes-arithmetic n x) λ a y. passes-numbers x a y)))

    passes-spaced : Rule (Grammar.spaced sense n inner)
    unfolding Grammar.spaced
    passes-spaced x = passes-from (past-spaces x) (passes_then (passes-element (past_spaces x)) λ b y. on (past-spaces y))

    past-written : (w : Bytes) (x : List (Lex R)) → is_word w x ≡ true → Past x (drop (length w) x)
    unfolding is_word
    past-written w x e = past_word w x (same-is w (word_at x) e)

    passes-negation : Rule (Grammar.negation sense n inner)
    unfolding Grammar.negation
    passes-negation x =
        passes-from (past-spaces x)
        (passes-choose _ (λ e. passes-from (past-written (bytes "NOT") (past_spaces x) e) (passes_then (passes-spaced (drop 3 (past_spaces x))) λ b z. on nothing-past))
        (λ e. passes-spaced (past_spaces x)))

    passes-conjunction : Rule (Grammar.conjunction sense n inner)
    unfolding Grammar.conjunction
    passes-conjunction = passes-chain _ (past-written (bytes "AND")) passes-negation

    passes-disjunction : Rule (Grammar.disjunction sense n inner)
    unfolding Grammar.disjunction
    passes-disjunction = passes-chain _ (past-written (bytes "OR")) passes-conjunction

  passes-deeper-condition : (n : ℕ) → Rule (Grammar.deeper_condition sense n)
  unfolding Grammar.deeper_condition
  passes-deeper-condition zero x = off
  passes-deeper-condition (suc n) x = passes-disjunction n (passes-deeper-condition n) x

  passes-condition : (n : ℕ) → Rule (Grammar.condition sense n)
  unfolding Grammar.condition
  passes-condition n x =
      passes-choose _ (λ e. passes-from (past-byte opening refl x e) (passes_then (passes-deeper-condition n (rest x)) passes-closed)) (λ e. passes-broken _)

-- ---- what the test of form accepts

pub text-no-lone : (n : ℕ) (x : List (Lex Kind)) → is_got (Grammar.text_within form n x) ≡ true → every is_no_lone x ≡ true
unfolding Grammar.text_within
text-no-lone n x h = text-clean form (passes-deeper form n) x h

pub arithmetic-no-lone : (n : ℕ) (x : List (Lex Kind)) → is_got (whole (Grammar.arithmetic form n x)) ≡ true → every is_no_lone x ≡ true
arithmetic-no-lone n x h = whole-clean (passes-arithmetic form n x) h

pub condition-no-lone : (n : ℕ) (x : List (Lex Kind)) → is_got (whole (Grammar.condition form n x)) ≡ true → every is_no_lone x ≡ true
condition-no-lone n x h = whole-clean (passes-condition form n x) h

pub string-no-lone : (n : ℕ) (x : List (Lex Kind)) → is_got (whole (Grammar.string_within form n x)) ≡ true → every is_no_lone x ≡ true
string-no-lone n x h = whole-clean (passes-string-within form n x) h

operand-no-lone : (n : ℕ) (k : Set) (x : List (Lex Kind)) → is_operand_of n k x ≡ true → NoLone x
unfolding is_operand_of
operand-no-lone n set_a x h = arithmetic-no-lone n x h
operand-no-lone n set_b x h = condition-no-lone n x h
operand-no-lone n set_c x h = string-no-lone n x h

name-no-lone : (k : Set) (x : List (Lex Kind)) → is_named_by k x ≡ true → NoLone x
unfolding is_named_by every
name-no-lone k [] h = absurd (false≢true h)
name-no-lone k (byte c ∷ x) h = absurd (false≢true h)
name-no-lone k (mark ∷ x) h = absurd (false≢true h)
name-no-lone k (ref r ∷ []) h = refl
name-no-lone k (ref r ∷ (y ∷ x)) h = absurd (false≢true h)
name-no-lone k (lone ∷ x) h = absurd (false≢true h)

-- the fields that a line reads when it is carried out have no ampersand left over
abbrev pub NoLoneBy : {L : Type 0} → Line Kind L → Does L → Type 0
NoLoneBy l passes = Unit {0}
NoLoneBy l ends = Unit {0}
NoLoneBy l exits = Unit {0}
NoLoneBy l (text s) = Unit {0}
NoLoneBy l models = NoLone l.name × (NoLone l.operation × NoLone l.operand)
NoLoneBy l (sets k) = NoLone l.name × NoLone l.operand
NoLoneBy l (branches_if t) = NoLone l.operand
NoLoneBy l (branches t) = Unit {0}
NoLoneBy l counts = NoLone l.operand

pub formed-no-lone : {L : Type 0} (n : ℕ) (l : Line Kind L) → is_formed n l ≡ true → NoLoneBy l l.does
unfolding is_formed is_formed_by
formed-no-lone {L} n l h = go l.does h
  where
    go : (d : Does L) → is_formed_by n l d ≡ true → NoLoneBy l d
    go passes h = tt
    go ends h = tt
    go exits h = tt
    go (text s) h = tt
    go models h =
        let a = is_got (Grammar.text_within form n l.name) in
        let b = is_got (Grammar.text_within form n l.operation) in
        let c = is_got (Grammar.text_within form n l.operand) in
        let h' = and_right a (b && c) h in
        (text-no-lone n l.name (and_left a (b && c) h), (text-no-lone n l.operation (and_left b c h'), text-no-lone n l.operand (and_right b c h')))
    go (sets k) h =
        let a = is_named_by k l.name in
        let b = is_operand_of n k l.operand in
        (name-no-lone k l.name (and_left a b h), operand-no-lone n k l.operand (and_right a b h))
    go (branches_if t) h = condition-no-lone n l.operand h
    go (branches t) h = tt
    go counts h = arithmetic-no-lone n l.operand h
