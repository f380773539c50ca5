-- A rule of the grammar gives the same whether the field goes on behind a comma or ends there, unless it reads past the comma. One law for each combinator and rule.
use Prim.Native.Nat.{ℕ, zero, suc, ◌≤◌, ◌<◌}
use mathlib.Core.Path.{◌≡◌, refl, ap, sym, ◌∙◌, subst}
use mathlib.Core.Bool.{Bool, true, false, false≢true, ◌&&◌, ◌||◌}
use mathlib.Core.List.{List, [], ◌∷◌, ◌++◌, map}
use mathlib.Core.Option.{Option, none, some}
use native.Mathlib.Omega.{arith}
use native.Mathlib.Nat.{le_refl}
use lib.Dec.{eqb, ltb}
use lib.ListN.{length, take, drop, length-append}
use Rattle.text.specs.Bytes.{bytes, member}
use Rattle.text.specs.Characters.{letter, digit}
use Rattle.rules.specs.Choice.{choose, run, while}
use Rattle.rules.specs.Lexemes.{opening, closing, comma, period, Lex, byte, mark, ref, lone, byte_of}
use Rattle.rules.specs.Values.{spelt}
use Rattle.rules.specs.Grammar
use Rattle.rules.specs.Grammar.{Kind, parameter, symbol, syslist, sysndx, sysect, unknown, Reference, Got, got, refused, Sense, plain, rest, starts_mark, is_attribute, then, broken, given, closed, goes_on, turn, chain}
use Rattle.rules.proofs.Choices.{either, and_left, and_right}
use Rattle.value_wholes.specs.Stillness.{is_quiet}
use Rattle.value_wholes.proofs.Rules.{clash, Past, nothing-past, past-byte, past_one, two-quiet, Passes, Closes, passes-from, passes-choose, passes_then, passes-given, passes-broken, closes-from, closes-choose, closes-then, closes-closed, passes-while, passes-term, passes-product, passes-deeper}

-- what is left is no longer than before
pub data Shrinks {R A : Type 0} (x : List (Lex R)) : Got A R → Type 0 where
  less : {v : A} {z : List (Lex R)} → length z ≤ length x → Shrinks x (got v z)
  off : {e left : ℕ} → Shrinks x (refused e left)

module _ {R : Type 0} (q : List (Lex R)) where
  abbrev pub tail : List (Lex R)
  tail = byte comma ∷ q

  pub data Agree {A : Type 0} : Got A R → Got A R → Type 0 where
    same : {v : A} (w : List (Lex R)) → Agree (got v (w ++ tail)) (got v w)
    beyond : {v : A} {y : List (Lex R)} {h : Got A R} → length y ≤ length q → Agree (got v y) h
    off : {e left : ℕ} {h : Got A R} → Agree (refused e left) h

  abbrev pub Local : {A : Type 0} → (List (Lex R) → Got A R) → Type 0
  Local f = (w : List (Lex R)) → Agree (f (w ++ tail)) (f w)

  agree-broken : {A : Type 0} (x : List (Lex R)) {h : Got A R} → Agree (broken x) h
  unfolding broken
  agree-broken x = Agree.off

  agree-choose : {A : Type 0} {f f' g g' : Got A R} (b : Bool) {c : Bool} → b ≡ c → (b ≡ true → Agree f f') → (b ≡ false → Agree g g') → Agree (choose b f g) (choose c f' g')
  unfolding choose
  agree-choose {A} {f} {f'} {g} {g'} b e t u = subst (λ c. Agree (choose b f g) (choose c f' g')) e (at b t u)
    where
      at : (b : Bool) → (b ≡ true → Agree f f') → (b ≡ false → Agree g g') → Agree (choose b f g) (choose b f' g')
      at true t u = t refl
      at false t u = u refl

  -- past the comma, whatever the rest
  stays-beyond : {A : Type 0} {y : List (Lex R)} {g h : Got A R} → length y ≤ length q → Shrinks y g → Agree g h
  stays-beyond p (less {v} {z} l) = beyond {y = z} (omega (arith, p, l))
  stays-beyond p Shrinks.off = Agree.off

  agree_then : {A W : Type 0} {f f' : Got A R} {k k' : A → List (Lex R) → Got W R} → Agree f f' → ((v : A) (w : List (Lex R)) → Agree (k v (w ++ tail)) (k' v w))
      → ((v : A) (y : List (Lex R)) → Shrinks y (k v y)) → Agree (then f k) (then f' k')
  unfolding then
  agree_then (same {v} w) on shrinks = on v w
  agree_then (beyond {v} {y} p) on shrinks = stays-beyond p (shrinks v y)
  agree_then Agree.off on shrinks = Agree.off

  -- tests of the first lexeme
  plain-same : (t : ℕ → Bool) → t comma ≡ false → t 0 ≡ false → (w : List (Lex R)) → t (plain (w ++ tail)) ≡ t (plain w)
  unfolding plain byte_of
  plain-same t p n [] = p ∙ sym n
  plain-same t p n (a ∷ w) = refl

  rest-same : (t : ℕ → Bool) → t comma ≡ false → (w : List (Lex R)) → t (plain (w ++ tail)) ≡ true → rest (w ++ tail) ≡ rest w ++ tail
  unfolding plain rest byte_of
  rest-same t p [] h = clash h p
  rest-same t p (a ∷ w) h = refl

  mark-same : (w : List (Lex R)) → starts_mark (w ++ tail) ≡ starts_mark w
  unfolding starts_mark
  mark-same [] = refl
  mark-same (byte c ∷ w) = refl
  mark-same (mark ∷ w) = refl
  mark-same (ref r ∷ w) = refl
  mark-same (lone ∷ w) = refl

  attribute-same : (c : ℕ) → eqb comma c ≡ false → eqb 0 c ≡ false → (w : List (Lex R)) → is_attribute c (w ++ tail) ≡ is_attribute c w
  unfolding is_attribute plain rest byte_of
  attribute-same c p n [] = (λ j. p j && starts_mark q) ∙ sym (λ j. n j && starts_mark {R = R} [])
  attribute-same c p n (a ∷ w) = ap (λ (b : Bool). eqb (byte_of a) c && b) (mark-same w)

  attribute-behind : (c : ℕ) → eqb comma c ≡ false → (w : List (Lex R)) → is_attribute c (w ++ tail) ≡ true → drop 2 (w ++ tail) ≡ drop 2 w ++ tail
  unfolding is_attribute plain rest byte_of starts_mark
  attribute-behind c p [] h = clash (and_left (eqb comma c) _ h) p
  attribute-behind c p (a ∷ []) h = absurd (false≢true (and_right (eqb (byte_of a) c) false h))
  attribute-behind c p (a ∷ (b ∷ w)) h = refl

  -- a closing parenthesis
  local-closed : {A : Type 0} (v : A) (w : List (Lex R)) → Agree (closed v (w ++ tail)) (closed v w)
  unfolding closed
  local-closed v w = agree-choose _ (plain-same (λ c. eqb c closing) refl refl w)
      (λ h. subst (λ y. Agree (got v y) (got v (rest w))) (sym (rest-same (λ c. eqb c closing) refl w h)) (same (rest w))) (λ h. agree-broken _)

  -- digits
  run-same : (t : ℕ → Bool) → t comma ≡ false → (w : List (Lex R)) → run (λ a. t (byte_of a)) (w ++ tail) ≡ run (λ a. t (byte_of a)) w
  unfolding run byte_of choose
  run-same t p [] = rw p
  run-same t p (a ∷ w) = ap (λ n. choose (t (byte_of a)) (suc n) 0) (run-same t p w)

  run_short : (t : Lex R → Bool) (w : List (Lex R)) → run t w ≤ length w
  unfolding run choose
  run_short t [] = le_refl 0
  run_short t (a ∷ w) = go (t a) (run_short t w)
    where
      go : (b : Bool) → run t w ≤ length w → choose b (suc (run t w)) 0 ≤ suc (length w)
      go true h = omega arith
      go false h = omega arith

  take_same : (n : ℕ) (w : List (Lex R)) → n ≤ length w → take n (w ++ tail) ≡ take n w
  take_same zero w h = refl
  take_same (suc n) [] h = absurd (omega arith)
  take_same (suc n) (a ∷ w) h = ap (λ l. a ∷ l) (take_same n w (omega arith))

  drop-same : (n : ℕ) (w : List (Lex R)) → n ≤ length w → drop n (w ++ tail) ≡ drop n w ++ tail
  drop-same zero w h = refl
  drop-same (suc n) [] h = absurd (omega arith)
  drop-same (suc n) (a ∷ w) h = drop-same n w (omega arith)

-- what a rule has read is gone
past-shorter : {R : Type 0} {x y : List (Lex R)} → Past x y → length y ≤ length x
past-shorter {R} {x} {y} p = let e = ap length p.whole ∙ length-append p.read y in omega (arith, e)

passes-shrinks : {R A : Type 0} {x : List (Lex R)} {g : Got A R} → Passes x g → Shrinks x g
passes-shrinks (Passes.on p) = less (past-shorter p)
passes-shrinks Passes.off = Shrinks.off

closes-shrinks : {R A : Type 0} {x : List (Lex R)} {g : Got A R} → Closes x g → Shrinks x g
closes-shrinks (Closes.shut {v} {y} p) = let l = past-shorter p in less {z = y} (omega (arith, l))
closes-shrinks Closes.off = Shrinks.off

given-same : {R A : Type 0} (q : List (Lex R)) (o : Option A) (here here' w : List (Lex R)) → Agree q (given o here (w ++ tail q)) (given o here' w)
unfolding given
given-same q none here here' w = Agree.off
given-same q (some v) here here' w = same w

-- a chain of operands joined by signs of one byte
size : {R A : Type 0} → Got A R → ℕ
size (got v y) = length y
size (refused e left) = 0

module _ {R A : Type 0} (q : List (Lex R)) (t : ℕ → Bool) (no-comma : t comma ≡ false) (no_end : t 0 ≡ false) {operand : List (Lex R) → Got A R} (join : ℕ → A → A → Option A)
    (skips : (x : List (Lex R)) → t (plain x) ≡ true → Past x (rest x)) (operands : (x : List (Lex R)) → Passes x (operand x)) (locals : Local q operand)
  where
    abbrev goes : List (Lex R) → Bool
    goes y = t (plain y)

    abbrev joins : List (Lex R) → A → A → Option A
    joins y = join (plain y)

    abbrev on : Got A R → Bool
    on = goes_on goes rest operand joins

    abbrev step : Got A R → Got A R
    step = turn goes rest operand joins

    steps : (v : A) (x : List (Lex R)) → Passes (rest x) (step (got v x))
    unfolding turn
    steps v x = passes_then (operands (rest x)) λ w z. passes-given (joins x v w) x nothing-past

    shorter : (x : List (Lex R)) → goes x ≡ true → length (rest x) < length x
    unfolding plain rest
    shorter [] h = clash h no_end
    shorter (a ∷ x) h = le_refl (suc (length x))

    step_less : (v : A) (x : List (Lex R)) (n : ℕ) → goes x ≡ true → length x ≤ suc n → size (step (got v x)) ≤ n
    unfolding size
    step_less v x n h l = let k = shorter x h in let few : length (rest x) ≤ n = omega arith in at (steps v x) few
      where
        at : {g : Got A R} → Passes (rest x) g → length (rest x) ≤ n → size g ≤ n
        at (Passes.on p) few = let m = past-shorter p in omega (arith, m, few)
        at Passes.off few = omega arith

    stay : (n : ℕ) (v : A) (y : List (Lex R)) → Passes y (while on step n (got v y))
    unfolding goes_on turn
    stay n v y = passes-while on step (λ e left. refl) (λ w x h. passes-from (skips x h) (steps w x)) n (Passes.on nothing-past)

    stopped : (n e left : ℕ) → while on step n (refused e left) ≡ refused e left
    unfolding while goes_on choose
    stopped zero e left = refl
    stopped (suc n) e left = refl

    agree-step : (v : A) (w : List (Lex R)) → goes (w ++ tail q) ≡ true → Agree q (step (got v (w ++ tail q))) (step (got v w))
    unfolding turn plain rest byte_of
    agree-step v [] h = clash h no-comma
    agree-step v (a ∷ w) h = agree_then q (locals w) (λ u z. given-same q (joins (a ∷ w) v u) _ _ z) (λ u y. passes-shrinks (passes-given (joins (a ∷ w) v u) _ nothing-past))

    not-empty : (w : List (Lex R)) → goes (w ++ tail q) ≡ true → 0 < length w
    unfolding plain byte_of
    not-empty [] h = clash h no-comma
    not-empty (a ∷ w) h = omega arith

    agree-while : (n m : ℕ) {g h : Got A R} → Agree q g h → size g ≤ n → size h ≤ m → Agree q (while on step n g) (while on step m h)
    unfolding while goes_on size
    agree-while zero m (beyond {v} {y} l) p r = stays-beyond q l (passes-shrinks (stay zero v y))
    agree-while (suc n) m (beyond {v} {y} l) p r = stays-beyond q l (passes-shrinks (stay (suc n) v y))
    agree-while zero m (Agree.off {e} {left}) p r = Agree.off
    agree-while (suc n) m (Agree.off {e} {left} {h}) p r = subst (λ g. Agree q g (while on step m h)) (sym (stopped (suc n) e left)) Agree.off
    agree-while zero m (same {v} w) p r = let e = length-append w (tail q) in absurd (omega (arith, e, p))
    agree-while (suc n) zero (same {v} w) p r = either (λ g. Agree q g (got v w)) (goes (w ++ tail q)) (λ h. let k = not-empty w h in absurd (omega (arith, k, r))) (λ h. same w)
    agree-while (suc n) (suc m) (same {v} w) p r = agree-choose q (goes (w ++ tail q)) (plain-same q t no-comma no_end w)
        (λ h. agree-while n m (agree-step v w h) (step_less v (w ++ tail q) n h p) (step_less v w m (sym (plain-same q t no-comma no_end w) ∙ h) r)) (λ h. same w)

    operand_short : (x : List (Lex R)) → size (operand x) ≤ length x
    unfolding size
    operand_short x = at (operands x)
      where
        at : {g : Got A R} → Passes x g → size g ≤ length x
        at (Passes.on p) = past-shorter p
        at Passes.off = omega arith

    pub local-chain : Local q (chain goes rest operand joins)
    unfolding chain
    local-chain w = agree-while (length (w ++ tail q)) (length w) (locals w) (operand_short (w ++ tail q)) (operand_short w)

module _ {R N S B : Type 0} (sense : Sense R N S B) (q : List (Lex R)) where
  module _ {inner : List (Lex R) → Got N R} (inners : (x : List (Lex R)) → Passes x (inner x)) (locals : Local q inner) where
    -- what stands behind an opening parenthesis or a comma of the subscripts
    local-rest : (t : ℕ → Bool) → t comma ≡ false → (w : List (Lex R)) → t (plain (w ++ tail q)) ≡ true → Agree q (inner (rest (w ++ tail q))) (inner (rest w))
    local-rest t p w h = subst (λ x. Agree q (inner x) (inner (rest w))) (sym (rest-same q t p w h)) (locals (rest w))

    local-decimal : Local q (Grammar.decimal_number sense inner)
    unfolding Grammar.decimal_number digit letter
    local-decimal w =
        let n = run (λ y. digit (byte_of y)) w in
        let e : run (λ y. digit (byte_of y)) (w ++ tail q) ≡ n = run-same q digit refl w in
        let short : n ≤ length w = run_short q (λ y. digit (byte_of y)) w in
        let t : take (run (λ y. digit (byte_of y)) (w ++ tail q)) (w ++ tail q) ≡ take n w = ap (λ k. take k (w ++ tail q)) e ∙ take_same q n w short in
        let d : drop (run (λ y. digit (byte_of y)) (w ++ tail q)) (w ++ tail q) ≡ drop n w ++ tail q = ap (λ k. drop k (w ++ tail q)) e ∙ drop-same q n w short in
        let v : spelt 0 (map byte_of (take (run (λ y. digit (byte_of y)) (w ++ tail q)) (w ++ tail q))) ≡ spelt 0 (map byte_of (take n w)) = ap (λ l. spelt 0 (map byte_of l)) t in
        agree-choose q _ (λ j. ltb 2147483647 (v j) || (ap (λ l. letter (plain l)) d ∙ plain-same q letter refl refl (drop n w)) j)
        (λ h. agree-broken q _)
        (λ h. subst (λ x. Agree q x (got (sense.number (spelt 0 (map byte_of (take n w)))) (drop n w))) (λ j. got (sense.number (sym v j)) (sym d j)) (same (drop n w)))

    abbrev listed : R → N → List (Lex R) → Got (Reference R N) R
    listed r n y = choose (eqb (plain y) comma) (then (inner (rest y)) λ m z. closed (record { of = r; subscripts = n ∷ (m ∷ []) }) z) (closed (record { of = r; subscripts = n ∷ [] }) y)

    closes-list : (r : R) (n : N) (y : List (Lex R)) → Closes y (listed r n y)
    unfolding is_quiet
    closes-list r n y = closes-choose _ (λ c. closes-from (past-byte comma refl refl y c) (closes-then (inners (rest y)) λ m z. closes-closed _ z)) (λ c. closes-closed _ y)

    list-end : (r : R) (n : N) → Agree q (listed r n (tail q)) (listed r n [])
    unfolding plain rest byte_of choose
    list-end r n = stays-beyond q {y = q} (le_refl (length q)) (closes-shrinks (closes-then {k = λ m z. closed (record { of = r; subscripts = n ∷ (m ∷ []) }) z} (inners q) λ m z. closes-closed _ z))

    list_on : (r : R) (n : N) (a : Lex R) (u : List (Lex R)) → Agree q (listed r n (a ∷ (u ++ tail q))) (listed r n (a ∷ u))
    unfolding plain rest
    list_on r n a u = agree-choose q _ refl (λ c. agree_then q (locals u) (λ m z. local-closed q (record { of = r; subscripts = n ∷ (m ∷ []) }) z) (λ m z. closes-shrinks (closes-closed (record { of = r; subscripts = n ∷ (m ∷ []) }) z)))
        (λ c. local-closed q (record { of = r; subscripts = n ∷ [] }) (a ∷ u))

    local-list : (r : R) (n : N) (u : List (Lex R)) → Agree q (listed r n (u ++ tail q)) (listed r n u)
    local-list r n [] = list-end r n
    local-list r n (a ∷ u) = list_on r n a u

    local-subscripts : (k : Kind) (r : R) (w : List (Lex R)) → eqb (plain (w ++ tail q)) opening ≡ true → Agree q (Grammar.subscripts sense inner k r (w ++ tail q)) (Grammar.subscripts sense inner k r w)
    unfolding Grammar.subscripts
    local-subscripts parameter r w h = agree_then q (local-rest (λ c. eqb c opening) refl w h) (λ n u. local-closed q _ u) (λ n y. closes-shrinks (closes-closed _ y))
    local-subscripts (symbol k) r w h = agree-broken q _
    local-subscripts syslist r w h = agree_then q (local-rest (λ c. eqb c opening) refl w h) (local-list r) (λ n y. closes-shrinks (closes-list r n y))
    local-subscripts sysndx r w h = agree-broken q _
    local-subscripts sysect r w h = agree-broken q _
    local-subscripts unknown r w h = agree-broken q _

    local-symbol : (r : R) (w : List (Lex R)) → Agree q (Grammar.reference sense inner (ref r ∷ (w ++ tail q))) (Grammar.reference sense inner (ref r ∷ w))
    unfolding Grammar.reference
    local-symbol r w = agree-choose q _ (plain-same q (λ c. eqb c opening) refl refl w) (local-subscripts (sense.kind r) r w) (λ h. same w)

    local-reference : Local q (Grammar.reference sense inner)
    unfolding Grammar.reference
    local-reference [] = agree-broken q _
    local-reference (byte c ∷ w) = agree-broken q _
    local-reference (mark ∷ w) = agree-broken q _
    local-reference (ref r ∷ w) = local-symbol r w
    local-reference (lone ∷ w) = agree-broken q _

    local-referred : {A : Type 0} (takes : Kind → Bool → Bool) (meant : Reference R N → Option A) (here here' w : List (Lex R))
        → Agree q (Grammar.referred sense inner takes meant here (w ++ tail q)) (Grammar.referred sense inner takes meant here' w)
    unfolding Grammar.referred
    local-referred takes meant here here' w = agree_then q (local-reference w)
        (λ r u. agree-choose q _ refl (λ h. given-same q (meant r) here here' u) (λ h. agree-broken q _))
        (λ r y. passes-shrinks (passes-choose _ (λ h. passes-given (meant r) here nothing-past) (λ h. passes-broken _)))

    local-attribute : {A : Type 0} (c : ℕ) → eqb comma c ≡ false → (takes : Kind → Bool → Bool) (meant : Reference R N → Option A) (w : List (Lex R)) → is_attribute c (w ++ tail q) ≡ true
        → Agree q (Grammar.referred sense inner takes meant (w ++ tail q) (drop 2 (w ++ tail q))) (Grammar.referred sense inner takes meant w (drop 2 w))
    local-attribute c p takes meant w h =
        subst (λ x. Agree q (Grammar.referred sense inner takes meant (w ++ tail q) x) (Grammar.referred sense inner takes meant w (drop 2 w))) (sym (attribute-behind q c p w h))
        (local-referred takes meant (w ++ tail q) w (drop 2 w))

    local-term : Local q (Grammar.term sense inner)
    unfolding Grammar.term digit
    local-term w =
        agree-choose q _ (plain-same q (λ c. eqb c opening) refl refl w)
        (λ h. agree_then q (local-rest (λ c. eqb c opening) refl w h) (λ v u. local-closed q v u) (λ v y. closes-shrinks (closes-closed v y)))
        (λ h. agree-choose q _ (plain-same q digit refl refl w) (λ h. local-decimal w)
        (λ h. agree-choose q _ (attribute-same q 75 refl refl w) (local-attribute 75 refl Grammar.after_k sense.bytes_in w)
        (λ h. agree-choose q _ (attribute-same q 78 refl refl w) (local-attribute 78 refl Grammar.after_n sense.entries_in w)
        (λ h. local-referred Grammar.as_term sense.term (w ++ tail q) w w))))

    local-product : Local q (Grammar.product sense inner)
    unfolding Grammar.product is_quiet
    local-product = local-chain q (λ c. member c (bytes "*/")) refl refl sense.operation (past_one (λ c. member c (bytes "*/")) refl (λ c. two-quiet 42 47 c refl refl)) (passes-term sense inners) local-term

    local-sum : Local q (Grammar.sum sense inner)
    unfolding Grammar.sum is_quiet
    local-sum = local-chain q (λ c. member c (bytes "+-")) refl refl sense.operation (past_one (λ c. member c (bytes "+-")) refl (λ c. two-quiet 43 45 c refl refl)) (passes-product sense inners) local-product

    -- the period that is removed behind a reference
    pub past-period : (v : S) (u : List (Lex R)) → Agree q {A = S} (got v (choose (eqb (plain (u ++ tail q)) period) (rest (u ++ tail q)) (u ++ tail q))) (got v (choose (eqb (plain u) period) (rest u) u))
    unfolding plain rest byte_of choose
    past-period v [] = same []
    past-period v (a ∷ u) = go (eqb (byte_of a) period)
      where
        go : (b : Bool) → Agree q {A = S} (got v (choose b (u ++ tail q) (a ∷ (u ++ tail q)))) (got v (choose b u (a ∷ u)))
        go true = same u
        go false = same (a ∷ u)

    period-shrinks : (v : S) (y : List (Lex R)) → Shrinks y (got v (choose (eqb (plain y) period) (rest y) y))
    unfolding plain rest choose
    period-shrinks v [] = go (eqb 0 period)
      where
        go : (b : Bool) → Shrinks {R = R} {A = S} [] (got v (choose b [] []))
        go true = less (le_refl 0)
        go false = less (le_refl 0)
    period-shrinks v (a ∷ y) = go (eqb (byte_of a) period)
      where
        go : (b : Bool) → Shrinks (a ∷ y) (got v (choose b y (a ∷ y)))
        go true = less {z = y} (omega arith)
        go false = less (le_refl (suc (length y)))

    -- one piece of a text: the same, or it is the comma itself, or a reference that reads past it
    pub local-piece : Local q (Grammar.piece sense inner)
    unfolding Grammar.piece
    local-piece [] = beyond (le_refl (length q))
    local-piece (byte c ∷ w) = same w
    local-piece (mark ∷ w) = same w
    local-piece (ref r ∷ w) = agree_then q (local-referred Grammar.in_text sense.text_of (ref r ∷ (w ++ tail q)) (ref r ∷ w) (ref r ∷ w)) past-period period-shrinks
    local-piece (lone ∷ w) = agree-broken q _

  -- THE LAW: an expression is read the same where its field ends and where a comma follows
  pub local-deeper : (n : ℕ) → Local q (Grammar.deeper sense n)
  unfolding Grammar.deeper
  local-deeper zero w = Agree.off
  local-deeper (suc n) w = local-sum (passes-deeper sense n) (local-deeper n) w
