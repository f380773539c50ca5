-- What a rule of the grammar gives with any sense, and what it gives with the sense of form alone, on the same lexemes: both go on alike, or both are refused alike,
-- or the first is refused by a value. One law for each combinator of the grammar.
use Prim.Native.Nat.{ℕ, zero, suc}
use mathlib.Core.Path.{◌≡◌, refl, ap, subst}
use mathlib.Core.Bool.{Bool, true, false}
use mathlib.Core.List.{List}
use mathlib.Core.Option.{Option, none, some}
use lib.Dec.{eqb}
use lib.ListN.{length}
use Rattle.rules.specs.Choice.{choose, while}
use Rattle.rules.specs.Limits.{bad_value}
use Rattle.rules.specs.Lexemes.{closing, Lex}
use Rattle.rules.specs.Grammar.{Kind, Got, got, refused, then, broken, given, closed, whole, goes_on, turn, chain}
use Rattle.rules.specs.Form.{Nothing}
use Rattle.rules.proofs.InKind.{InKind, done, more, same-plain, same_length, after-rest}

-- `Fit` is what the two values have in common
pub data Alike {R A C : Type 0} (kind : R → Kind) (Fit : A → C → Type 0) : Got A R → Got C Kind → Type 0 where
  both : {v : A} {w : C} {x : List (Lex R)} {y : List (Lex Kind)} → Fit v w → InKind kind x y → Alike kind Fit (got v x) (got w y)
  value : {left : ℕ} {h : Got C Kind} → Alike kind Fit (refused bad_value left) h
  neither : {e left : ℕ} → Alike kind Fit (refused e left) (refused e left)

-- values of which nothing is asked
abbrev pub Any : {A : Type 0} → A → Nothing → Type 0
Any v w = Unit {0}

-- two rules that give alike answers on the same lexemes
abbrev pub Rule : {R A : Type 0} → (R → Kind) → (List (Lex R) → Got A R) → (List (Lex Kind) → Got Nothing Kind) → Type 0
Rule {R} {A} kind f g = (x : List (Lex R)) (y : List (Lex Kind)) → InKind kind x y → Alike kind Any (f x) (g y)

module _ {R : Type 0} {kind : R → Kind} where
  pub alike-broken : {A C : Type 0} {Fit : A → C → Type 0} {x : List (Lex R)} {y : List (Lex Kind)} → InKind kind x y → Alike kind Fit (broken x) (broken y)
  unfolding broken
  alike-broken h = rw (same_length h) neither

  pub alike-choose : {A C : Type 0} {Fit : A → C → Type 0} {f f' : Got A R} {g g' : Got C Kind} (b : Bool) {c : Bool} → b ≡ c
      → Alike kind Fit f g → Alike kind Fit f' g' → Alike kind Fit (choose b f f') (choose c g g')
  unfolding choose
  alike-choose {A} {C} {Fit} {f} {f'} {g} {g'} b e h h' = subst (λ c. Alike kind Fit (choose b f f') (choose c g g')) e (at b)
    where
      at : (b : Bool) → Alike kind Fit (choose b f f') (choose b g g')
      at true = h
      at false = h'

  pub alike-option : {A C D : Type 0} {Fit : A → C → Type 0} {f : Got A R} {g : Got C Kind} {k : D → Got A R} {m : D → Got C Kind} (o : Option D) {p : Option D} → o ≡ p
      → Alike kind Fit f g → ((d : D) → Alike kind Fit (k d) (m d))
      → Alike kind Fit (elim o [ none ↦ f | some d ↦ k d ]) (elim p [ none ↦ g | some d ↦ m d ])
  alike-option {A} {C} {D} {Fit} {f} {g} {k} {m} o e h hs =
      subst (λ p. Alike kind Fit (elim o [ none ↦ f | some d ↦ k d ]) (elim p [ none ↦ g | some d ↦ m d ])) e (at o)
    where
      at : (o : Option D) → Alike kind Fit (elim o [ none ↦ f | some d ↦ k d ]) (elim o [ none ↦ g | some d ↦ m d ])
      at none = h
      at (some d) = hs d

  pub alike_then : {A C A' C' : Type 0} {Fit : A → C → Type 0} {Fit' : A' → C' → Type 0} {f : Got A R} {g : Got C Kind} {k : A → List (Lex R) → Got A' R}
      {m : C → List (Lex Kind) → Got C' Kind} → Alike kind Fit f g
      → ((v : A) (w : C) (x : List (Lex R)) (y : List (Lex Kind)) → Fit v w → InKind kind x y → Alike kind Fit' (k v x) (m w y))
      → Alike kind Fit' (then f k) (then g m)
  unfolding then
  alike_then (both fit h) on = on _ _ _ _ fit h
  alike_then value on = value
  alike_then neither on = neither

  -- the sense of form has every value
  pub alike-given : {A : Type 0} (o : Option A) (here : List (Lex R)) (here' : List (Lex Kind)) {x : List (Lex R)} {y : List (Lex Kind)} → InKind kind x y
      → Alike kind Any (given o here x) (given (some tt) here' y)
  unfolding given
  alike-given none here here' h = value
  alike-given (some v) here here' h = both tt h

  pub alike-closed : {A C : Type 0} {Fit : A → C → Type 0} (v : A) (w : C) {x : List (Lex R)} {y : List (Lex Kind)} → Fit v w → InKind kind x y
      → Alike kind Fit (closed v x) (closed w y)
  unfolding closed
  alike-closed v w fit h = alike-choose _ (ap (λ c. eqb c closing) (same-plain h)) (both fit (after-rest h)) (alike-broken h)

  pub alike-whole : {A C : Type 0} {Fit : A → C → Type 0} {f : Got A R} {g : Got C Kind} → Alike kind Fit f g → Alike kind Fit (whole f) (whole g)
  unfolding whole
  alike-whole (both fit done) = both fit done
  alike-whole (both fit (more h)) = alike-broken (more h)
  alike-whole value = value
  alike-whole neither = neither

  -- a loop that goes on only from a value, with tests that agree and turns that are alike
  module _ {A C : Type 0} {Fit : A → C → Type 0} (test : Got A R → Bool) (test' : Got C Kind → Bool) (turn : Got A R → Got A R) (turn' : Got C Kind → Got C Kind)
      (ends : (e left : ℕ) → test (refused e left) ≡ false) (ends' : (e left : ℕ) → test' (refused e left) ≡ false)
      (agrees : (v : A) (w : C) (x : List (Lex R)) (y : List (Lex Kind)) → InKind kind x y → test (got v x) ≡ test' (got w y))
      (turns : (v : A) (w : C) (x : List (Lex R)) (y : List (Lex Kind)) → Fit v w → InKind kind x y → Alike kind Fit (turn (got v x)) (turn' (got w y)))
    where
      pub alike-while : (n : ℕ) {f : Got A R} {g : Got C Kind} → Alike kind Fit f g → Alike kind Fit (while test turn n f) (while test' turn' n g)
      unfolding while choose
      alike-while zero h = h
      alike-while (suc n) (both {v} {w} {x} {y} fit h) = alike-choose _ (agrees v w x y h) (alike-while n (turns v w x y fit h)) (both fit h)
      alike-while (suc n) (value {left} {h}) = rw (ends bad_value left) value
      alike-while (suc n) (neither {e} {left}) = rw (ends e left, ends' e left) neither

  -- operands joined by operators that stand at the same places
  module _ {A : Type 0} {goes : List (Lex R) → Bool} {goes' : List (Lex Kind) → Bool} {skip : List (Lex R) → List (Lex R)} {skip' : List (Lex Kind) → List (Lex Kind)}
      {operand : List (Lex R) → Got A R} {operand' : List (Lex Kind) → Got Nothing Kind} (join : List (Lex R) → A → A → Option A)
      (Goes-same : (x : List (Lex R)) (y : List (Lex Kind)) → InKind kind x y → goes x ≡ goes' y)
      (skips : (x : List (Lex R)) (y : List (Lex Kind)) → InKind kind x y → InKind kind (skip x) (skip' y)) (operands : Rule kind operand operand')
    where
      pub alike-chain : Rule kind (chain goes skip operand join) (chain goes' skip' operand' (λ y a b. some tt))
      unfolding chain goes_on turn then
      alike-chain x y h = rw (same_length h) (alike-while (goes_on goes skip operand join) (goes_on goes' skip' operand' (λ y a b. some tt)) (turn goes skip operand join)
          (turn goes' skip' operand' (λ y a b. some tt)) (λ e left. refl) (λ e left. refl) (λ v w x y. Goes-same x y)
          (λ v w x y fit h. alike_then (operands _ _ (skips x y h)) λ v' w' x' y' fit' h'. alike-given _ _ _ h') (length y) (operands x y h))
