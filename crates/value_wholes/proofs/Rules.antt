-- What an arithmetic rule of the grammar reads is still: its parentheses pair, and it has no quotes. One law for each combinator and each rule. Assumes nothing.
use Prim.Native.Nat.{ℕ, zero, suc}
use mathlib.Core.Path.{◌≡◌, refl, ap, sym, ◌∙◌, subst}
use mathlib.Core.Bool.{Bool, true, false, false≢true, ◌||◌}
use mathlib.Core.List.{List, [], ◌∷◌, ◌++◌}
use mathlib.Core.Option.{Option, none, some}
use lib.Dec.{eqb, leb}
use lib.ListN.{length, drop}
use native.Mathlib.Omega.{arith}
use borrow.Author.Tests.{eqb-true, ne_eqb, leb-true}
use Rattle.text.specs.Bytes.{bytes, member}
use Rattle.text.specs.Characters.{digit}
use Rattle.rules.specs.Choice.{choose, run, while}
use Rattle.rules.specs.Lexemes.{opening, closing, comma, Lex, byte, mark, ref, lone, byte_of}
use Rattle.rules.specs.Grammar
use Rattle.rules.specs.Grammar.{Kind, parameter, symbol, syslist, sysndx, sysect, unknown, Reference, Got, got, refused, Sense, plain, rest, starts_mark, is_attribute, then, broken, given, closed, goes_on, turn, chain}
use Rattle.rules.proofs.Choices.{by, either, and_left, and_right}
use Rattle.value_wholes.specs.Stillness.{is_quiet, Still, Calm}
use Rattle.value_wholes.proofs.Stills.{still-none, still_one, still_both, still-pair, calm-none, calm-pair}

pub assoc : {A : Type 0} (a b c : List A) → a ++ (b ++ c) ≡ (a ++ b) ++ c
assoc [] b c = refl
assoc (x ∷ a) b c = ap (λ l. x ∷ l) (assoc a b c)

pub clash : {P : Type 0} {b : Bool} → b ≡ true → b ≡ false → P
clash h f = absurd (false≢true (sym f ∙ h))

module _ {R : Type 0} where
  -- the second is what the first is behind still lexemes
  pub record Past (x y : List (Lex R)) : Type 0 where
    pub read : List (Lex R)
    pub whole : x ≡ read ++ y
    pub still : Still read

  pub nothing-past : {x : List (Lex R)} → Past x x
  nothing-past = record { read = []; whole = refl; still = still-none }

  further : {x y z : List (Lex R)} → Past x y → Past y z → Past x z
  further p q = record { read = p.read ++ q.read; whole = p.whole ∙ ap (λ l. p.read ++ l) q.whole ∙ assoc p.read q.read _; still = still_both p.still q.still }

  past-lex : (a : Lex R) (x : List (Lex R)) → is_quiet (byte_of a) ≡ true → Past (a ∷ x) x
  past-lex a x h = record { read = a ∷ []; whole = refl; still = still_one a h }

  -- behind one byte that passes a test
  module _ (test : ℕ → Bool) (none : test 0 ≡ false) (quiet : (c : ℕ) → test c ≡ true → is_quiet c ≡ true) where
    pub past_one : (x : List (Lex R)) → test (plain x) ≡ true → Past x (rest x)
    unfolding plain rest byte_of
    past_one [] h = clash h none
    past_one (byte c ∷ x) h = past-lex (byte c) x (quiet c h)
    past_one (mark ∷ x) h = clash h none
    past_one (ref r ∷ x) h = clash h none
    past_one (lone ∷ x) h = clash h none

    past-run : (x : List (Lex R)) → Past x (drop (run (λ a. test (byte_of a)) x) x)
    unfolding run byte_of choose
    past-run [] = nothing-past
    past-run (a ∷ x) = go (test (byte_of a)) refl (past-run x)
      where
        go : (b : Bool) → test (byte_of a) ≡ b → Past x (drop (run (λ a. test (byte_of a)) x) x) → Past (a ∷ x) (drop (choose b (suc (run (λ a. test (byte_of a)) x)) 0) (a ∷ x))
        go true e p = further (past-lex a x (quiet (byte_of a) e)) p
        go false e p = nothing-past

  pub past-byte : (c : ℕ) → eqb 0 c ≡ false → is_quiet c ≡ true → (x : List (Lex R)) → eqb (plain x) c ≡ true → Past x (rest x)
  past-byte c n q = past_one (λ b. eqb b c) n (λ b e. ap is_quiet (eqb-true b c e) ∙ q)

  past-mark : (x : List (Lex R)) → starts_mark x ≡ true → Past x (rest x)
  unfolding starts_mark rest is_quiet byte_of
  past-mark [] h = absurd (false≢true h)
  past-mark (byte c ∷ x) h = absurd (false≢true h)
  past-mark (mark ∷ x) h = past-lex mark x refl
  past-mark (ref r ∷ x) h = absurd (false≢true h)
  past-mark (lone ∷ x) h = absurd (false≢true h)

  drop-two : (x : List (Lex R)) → rest (rest x) ≡ drop 2 x
  unfolding rest
  drop-two [] = refl
  drop-two (a ∷ []) = refl
  drop-two (a ∷ (b ∷ x)) = refl

  past-attribute : (c : ℕ) → eqb 0 c ≡ false → is_quiet c ≡ true → (x : List (Lex R)) → is_attribute c x ≡ true → Past x (drop 2 x)
  unfolding is_attribute
  past-attribute c f q x h =
      subst (Past x) (drop-two x) (further (past-byte c f q x (and_left (eqb (plain x) c) _ h)) (past-mark (rest x) (and_right (eqb (plain x) c) _ h)))

  -- a byte that stands first
  pub first_byte : (c : ℕ) → eqb 0 c ≡ false → (x : List (Lex R)) → eqb (plain x) c ≡ true → x ≡ byte c ∷ rest x
  unfolding plain rest byte_of
  first_byte c f [] h = clash h f
  first_byte c f (byte b ∷ x) h = ap (λ b. byte b ∷ x) (eqb-true b c h)
  first_byte c f (mark ∷ x) h = clash h f
  first_byte c f (ref r ∷ x) h = clash h f
  first_byte c f (lone ∷ x) h = clash h f

-- what a rule gives from x on: it is refused, or it has read still lexemes; and what stands behind an opening parenthesis: still lexemes and the one that closes it
pub data Passes {R A : Type 0} (x : List (Lex R)) : Got A R → Type 0 where
  on : {v : A} {y : List (Lex R)} → Past x y → Passes x (got v y)
  off : {e left : ℕ} → Passes x (refused e left)

pub data Closes {R A : Type 0} (x : List (Lex R)) : Got A R → Type 0 where
  shut : {v : A} {y : List (Lex R)} → Past x (byte closing ∷ y) → Closes x (got v y)
  off : {e left : ℕ} → Closes x (refused e left)

-- it has read lexemes that are calm from everywhere
pub data Calmly {R A : Type 0} (x : List (Lex R)) : Got A R → Type 0 where
  calmly : {c : List (Lex R)} {v : A} {y : List (Lex R)} → x ≡ c ++ y → Calm c → Calmly x (got v y)
  off : {e left : ℕ} → Calmly x (refused e left)

abbrev pub Rule : {R A : Type 0} → (List (Lex R) → Got A R) → Type 0
Rule {R} f = (x : List (Lex R)) → Passes x (f x)

module _ {R : Type 0} where
  pub passes-from : {A : Type 0} {x y : List (Lex R)} {g : Got A R} → Past x y → Passes y g → Passes x g
  passes-from p (Passes.on q) = Passes.on (further p q)
  passes-from p Passes.off = Passes.off

  pub closes-from : {A : Type 0} {x y : List (Lex R)} {g : Got A R} → Past x y → Closes y g → Closes x g
  closes-from p (shut q) = shut (further p q)
  closes-from p Closes.off = Closes.off

  pub passes-broken : {A : Type 0} {x : List (Lex R)} (y : List (Lex R)) → Passes {A = A} x (broken y)
  unfolding broken
  passes-broken y = Passes.off

  pub passes-choose : {A : Type 0} {x : List (Lex R)} {f g : Got A R} (b : Bool) → (b ≡ true → Passes x f) → (b ≡ false → Passes x g) → Passes x (choose b f g)
  passes-choose {x = x} b t f = either (Passes x) b t f

  pub closes-choose : {A : Type 0} {x : List (Lex R)} {f g : Got A R} (b : Bool) → (b ≡ true → Closes x f) → (b ≡ false → Closes x g) → Closes x (choose b f g)
  closes-choose {x = x} b t f = either (Closes x) b t f

  pub passes_then : {A W : Type 0} {x : List (Lex R)} {f : Got A R} {k : A → List (Lex R) → Got W R} → Passes x f → ((v : A) (y : List (Lex R)) → Passes y (k v y)) → Passes x (then f k)
  unfolding then
  passes_then (Passes.on {v} {y} p) h = passes-from p (h v y)
  passes_then Passes.off h = Passes.off

  pub closes-then : {A W : Type 0} {x : List (Lex R)} {f : Got A R} {k : A → List (Lex R) → Got W R} → Passes x f → ((v : A) (y : List (Lex R)) → Closes y (k v y)) → Closes x (then f k)
  unfolding then
  closes-then (Passes.on {v} {y} p) h = closes-from p (h v y)
  closes-then Passes.off h = Closes.off

  pub passes-given : {A : Type 0} (o : Option A) (here : List (Lex R)) {x y : List (Lex R)} → Past x y → Passes x (given o here y)
  unfolding given
  passes-given none here p = Passes.off
  passes-given (some v) here p = Passes.on p

  pub closes-closed : {A : Type 0} (v : A) (x : List (Lex R)) → Closes x (closed v x)
  unfolding closed broken
  closes-closed v x = closes-choose _ (λ e. shut (subst (Past x) (first_byte closing refl x e) nothing-past)) (λ e. Closes.off)

  -- a pair of parentheses
  pub passes-pair : {A : Type 0} (x : List (Lex R)) {g : Got A R} → eqb (plain x) opening ≡ true → Closes (rest x) g → Passes x g
  passes-pair x e (shut {v} {y} p) = Passes.on (record {
    read = byte opening ∷ (p.read ++ (byte closing ∷ []));
    whole = first_byte opening refl x e ∙ ap (λ l. byte opening ∷ l) (p.whole ∙ assoc p.read (byte closing ∷ []) y);
    still = still-pair p.still;
  })
  passes-pair x e Closes.off = Passes.off

  calm-passes : {A : Type 0} (x : List (Lex R)) {g : Got A R} → eqb (plain x) opening ≡ true → Closes (rest x) g → Calmly x g
  calm-passes x e (shut {v} {y} p) =
      calmly {c = byte opening ∷ (p.read ++ (byte closing ∷ []))} (first_byte opening refl x e ∙ ap (λ l. byte opening ∷ l) (p.whole ∙ assoc p.read (byte closing ∷ []) y)) (calm-pair p.still)
  calm-passes x e Closes.off = Calmly.off

  module _ {A : Type 0} (test : Got A R → Bool) (turn : Got A R → Got A R) (ends : (e left : ℕ) → test (refused e left) ≡ false)
      (turns : (v : A) (x : List (Lex R)) → test (got v x) ≡ true → Passes x (turn (got v x)))
    where
      pub passes-while : (n : ℕ) {x : List (Lex R)} {g : Got A R} → Passes x g → Passes x (while test turn n g)
      unfolding while choose
      passes-while zero h = h
      passes-while (suc n) (Passes.on {v} {y} p) = passes-choose _ (λ e. passes-while n (passes-from p (turns v y e))) (λ e. Passes.on p)
      passes-while (suc n) (Passes.off {e} {left}) = rw (ends e left) Passes.off

  module _ {A : Type 0} {goes : List (Lex R) → Bool} {skip : List (Lex R) → List (Lex R)} {operand : List (Lex R) → Got A R} (join : List (Lex R) → A → A → Option A)
      (skips : (x : List (Lex R)) → goes x ≡ true → Past x (skip x)) (operands : Rule operand)
    where
      pub passes-chain : Rule (chain goes skip operand join)
      unfolding chain goes_on turn
      passes-chain x =
          passes-while (goes_on goes skip operand join) (turn goes skip operand join) (λ e left. refl)
          (λ v y e. passes-from (skips y e) (passes_then (operands (skip y)) λ w z. passes-given (join y v w) y nothing-past)) (length x) (operands x)

-- ---- the rules

quiet-but : (c : ℕ) → (c ≡ 39 → ⊥) → (c ≡ 40 → ⊥) → (c ≡ 41 → ⊥) → is_quiet c ≡ true
unfolding is_quiet
quiet-but c p q r = rw (ne_eqb c 39 p, ne_eqb c 40 q, ne_eqb c 41 r)

digit-quiet : (c : ℕ) → digit c ≡ true → is_quiet c ≡ true
unfolding digit
digit-quiet c h = let low = leb-true 48 c (and_left (leb 48 c) (leb c 57) h) in quiet-but c (λ e. omega arith) (λ e. omega arith) (λ e. omega arith)

-- one of two bytes
pub two-quiet : (a b c : ℕ) → is_quiet a ≡ true → is_quiet b ≡ true → member c (a ∷ (b ∷ [])) ≡ true → is_quiet c ≡ true
two-quiet a b c p q h = by (eqb c a) (λ e. ap is_quiet (eqb-true c a e) ∙ p)
    λ e. by (eqb c b) (λ f. ap is_quiet (eqb-true c b f) ∙ q) λ f. clash h (λ j. e j || (f j || false))

module _ {R N S B : Type 0} (sense : Sense R N S B) where
  module _ {inner : List (Lex R) → Got N R} (inners : Rule inner) where
    pub closes-subscripts : (k : Kind) (r : R) (x : List (Lex R)) → eqb (plain x) opening ≡ true → Passes x (Grammar.subscripts sense inner k r x)
    unfolding Grammar.subscripts is_quiet
    closes-subscripts parameter r x e = passes-pair x e (closes-then (inners (rest x)) λ n y. closes-closed _ y)
    closes-subscripts (symbol k) r x e = passes-broken _
    closes-subscripts syslist r x e =
        passes-pair x e (closes-then (inners (rest x)) λ n y. closes-choose _
        (λ c. closes-from (past-byte comma refl refl y c) (closes-then (inners (rest y)) λ m z. closes-closed _ z)) (λ c. closes-closed _ y))
    closes-subscripts sysndx r x e = passes-broken _
    closes-subscripts sysect r x e = passes-broken _
    closes-subscripts unknown r x e = passes-broken _

    -- behind a variable symbol: its subscripts
    pub behind-symbol : (r : R) (x : List (Lex R)) → Passes x (Grammar.reference sense inner (ref r ∷ x))
    unfolding Grammar.reference
    behind-symbol r x = passes-choose _ (closes-subscripts (sense.kind r) r x) (λ e. Passes.on nothing-past)

    -- what a reference reads behind its symbol: nothing, or a pair of parentheses; so it is calm from everywhere
    calm-subscripts : (k : Kind) (r : R) (x : List (Lex R)) → eqb (plain x) opening ≡ true → Calmly x (Grammar.subscripts sense inner k r x)
    unfolding Grammar.subscripts is_quiet broken
    calm-subscripts parameter r x e = calm-passes x e (closes-then (inners (rest x)) λ n y. closes-closed _ y)
    calm-subscripts (symbol k) r x e = Calmly.off
    calm-subscripts syslist r x e =
        calm-passes x e (closes-then (inners (rest x)) λ n y. closes-choose _
        (λ c. closes-from (past-byte comma refl refl y c) (closes-then (inners (rest y)) λ m z. closes-closed _ z)) (λ c. closes-closed _ y))
    calm-subscripts sysndx r x e = Calmly.off
    calm-subscripts sysect r x e = Calmly.off
    calm-subscripts unknown r x e = Calmly.off

    pub calm-symbol : (r : R) (x : List (Lex R)) → Calmly x (Grammar.reference sense inner (ref r ∷ x))
    unfolding Grammar.reference
    calm-symbol r x = either (Calmly x) (eqb (plain x) opening) (calm-subscripts (sense.kind r) r x) (λ e. calmly {c = []} refl calm-none)

    pub passes-reference : Rule (Grammar.reference sense inner)
    unfolding Grammar.reference is_quiet byte_of
    passes-reference [] = passes-broken _
    passes-reference (byte c ∷ x) = passes-broken _
    passes-reference (mark ∷ x) = passes-broken _
    passes-reference (ref r ∷ x) = passes-from (past-lex (ref r) x refl) (behind-symbol r x)
    passes-reference (lone ∷ x) = passes-broken _

    pub passes-referred : {A : Type 0} (takes : Kind → Bool → Bool) (meant : Reference R N → Option A) (here x : List (Lex R))
        → Passes x (Grammar.referred sense inner takes meant here x)
    unfolding Grammar.referred
    passes-referred takes meant here x = passes_then (passes-reference x) λ r z. passes-choose _ (λ e. passes-given (meant r) here nothing-past) (λ e. passes-broken _)

    behind-attribute : {A : Type 0} (c : ℕ) → eqb 0 c ≡ false → is_quiet c ≡ true → (takes : Kind → Bool → Bool) (meant : Reference R N → Option A) (x : List (Lex R)) → is_attribute c x ≡ true
        → Passes x (Grammar.referred sense inner takes meant x (drop 2 x))
    behind-attribute c f q takes meant x e = passes-from (past-attribute c f q x e) (passes-referred takes meant x (drop 2 x))

    passes-decimal : Rule (Grammar.decimal_number sense inner)
    unfolding Grammar.decimal_number digit
    passes-decimal x = passes-choose _ (λ e. passes-broken _) (λ e. Passes.on (past-run digit refl digit-quiet x))

    pub passes-term : Rule (Grammar.term sense inner)
    unfolding Grammar.term is_quiet
    passes-term x =
        passes-choose _ (λ e. passes-pair x e (closes-then (inners (rest x)) closes-closed))
        (λ e. passes-choose _ (λ e. passes-decimal x)
        (λ e. passes-choose _ (behind-attribute 75 refl refl Grammar.after_k sense.bytes_in x)
        (λ e. passes-choose _ (behind-attribute 78 refl refl Grammar.after_n sense.entries_in x) (λ e. passes-referred Grammar.as_term sense.term x x))))

    pub passes-product : Rule (Grammar.product sense inner)
    unfolding Grammar.product is_quiet
    passes-product = passes-chain _ (past_one (λ c. member c (bytes "*/")) refl (λ c. two-quiet 42 47 c refl refl)) passes-term

    pub passes-sum : Rule (Grammar.sum sense inner)
    unfolding Grammar.sum is_quiet
    passes-sum = passes-chain _ (past_one (λ c. member c (bytes "+-")) refl (λ c. two-quiet 43 45 c refl refl)) passes-product

  -- THE LAW: an expression inside parentheses is still, however deep it goes
  pub passes-deeper : (n : ℕ) → Rule (Grammar.deeper sense n)
  unfolding Grammar.deeper
  passes-deeper zero x = Passes.off
  passes-deeper (suc n) x = passes-sum (passes-deeper n) x
