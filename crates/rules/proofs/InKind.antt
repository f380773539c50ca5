-- Two lists of lexemes that differ only in what their variable symbols are: the second has their kinds. What the grammar tests in a list is the same in both.
use Prim.Native.Nat.{ℕ, zero, suc}
use mathlib.Core.Path.{◌≡◌, refl, ap, ◌∙◌, subst}
use mathlib.Core.Bool.{Bool, true, false, ◌&&◌}
use mathlib.Core.List.{List, [], ◌∷◌, map}
use lib.Dec.{eqb}
use lib.ListN.{length, take, drop}
use Rattle.text.specs.Characters.{letter_or_digit}
use Rattle.rules.specs.Choice.{choose, run}
use Rattle.rules.specs.Lexemes.{space, Lex, byte, mark, ref, lone, byte_of}
use Rattle.rules.specs.Fields.{is_empty}
use Rattle.rules.specs.Statement.{map_lex}
use Rattle.rules.specs.Grammar.{Kind, plain, rest, starts_mark, is_attribute, past_spaces, word_at, relation_at}

-- the same lexemes, with each variable symbol as its kind
pub data InKind {R : Type 0} (kind : R → Kind) : List (Lex R) → List (Lex Kind) → Type 0 where
  done : InKind kind [] []
  more : {a : Lex R} {x : List (Lex R)} {y : List (Lex Kind)} → InKind kind x y → InKind kind (a ∷ x) (map_lex kind a ∷ y)

pub in-kind : {R : Type 0} (kind : R → Kind) (x : List (Lex R)) → InKind kind x (map (map_lex kind) x)
in-kind kind [] = done
in-kind kind (a ∷ x) = more (in-kind kind x)

pub same_byte : {R : Type 0} (kind : R → Kind) (a : Lex R) → byte_of a ≡ byte_of (map_lex kind a)
unfolding byte_of map_lex
same_byte kind (byte c) = refl
same_byte kind mark = refl
same_byte kind (ref r) = refl
same_byte kind lone = refl

module _ {R : Type 0} {kind : R → Kind} where
  pub same-plain : {x : List (Lex R)} {y : List (Lex Kind)} → InKind kind x y → plain x ≡ plain y
  unfolding plain
  same-plain done = refl
  same-plain (more {a} h) = same_byte kind a

  pub same_length : {x : List (Lex R)} {y : List (Lex Kind)} → InKind kind x y → length x ≡ length y
  same_length done = refl
  same_length (more h) = ap suc (same_length h)

  pub same-emptiness : {x : List (Lex R)} {y : List (Lex Kind)} → InKind kind x y → is_empty x ≡ is_empty y
  unfolding is_empty
  same-emptiness done = refl
  same-emptiness (more h) = refl

  pub after-drop : (n : ℕ) {x : List (Lex R)} {y : List (Lex Kind)} → InKind kind x y → InKind kind (drop n x) (drop n y)
  after-drop zero h = h
  after-drop (suc n) done = done
  after-drop (suc n) (more h) = after-drop n h

  pub after-rest : {x : List (Lex R)} {y : List (Lex Kind)} → InKind kind x y → InKind kind (rest x) (rest y)
  unfolding rest
  after-rest h = after-drop 1 h

  pub after-choose : (b : Bool) {c : Bool} {x x' : List (Lex R)} {y y' : List (Lex Kind)} → b ≡ c → InKind kind x y → InKind kind x' y'
      → InKind kind (choose b x x') (choose c y y')
  unfolding choose
  after-choose b {x} {x'} {y} {y'} e h h' = subst (λ c. InKind kind (choose b x x') (choose c y y')) e (at b)
    where
      at : (b : Bool) → InKind kind (choose b x x') (choose b y y')
      at true = h
      at false = h'

  -- how many bytes stand first that pass a test, and which they are
  pub same-run : (test : ℕ → Bool) {x : List (Lex R)} {y : List (Lex Kind)} → InKind kind x y → run (λ a. test (byte_of a)) x ≡ run (λ a. test (byte_of a)) y
  unfolding run
  same-run test done = refl
  same-run test (more {a} h) = λ i. choose (test (same_byte kind a i)) (suc (same-run test h i)) 0

  pub same_bytes : (n : ℕ) {x : List (Lex R)} {y : List (Lex Kind)} → InKind kind x y → map byte_of (take n x) ≡ map byte_of (take n y)
  same_bytes zero h = refl
  same_bytes (suc n) done = refl
  same_bytes (suc n) (more {a} h) = λ i. same_byte kind a i ∷ same_bytes n h i

  pub same_first : (test : ℕ → Bool) {x : List (Lex R)} {y : List (Lex Kind)} → InKind kind x y
      → map byte_of (take (run (λ a. test (byte_of a)) x) x) ≡ map byte_of (take (run (λ a. test (byte_of a)) y) y)
  same_first test {x} {y} h = ap (λ n. map byte_of (take n x)) (same-run test h) ∙ same_bytes (run (λ a. test (byte_of a)) y) h

  pub after_run : (test : ℕ → Bool) {x : List (Lex R)} {y : List (Lex Kind)} → InKind kind x y
      → InKind kind (drop (run (λ a. test (byte_of a)) x) x) (drop (run (λ a. test (byte_of a)) y) y)
  after_run test {x} {y} h = subst (λ n. InKind kind (drop (run (λ a. test (byte_of a)) x) x) (drop n y)) (same-run test h) (after-drop (run (λ a. test (byte_of a)) x) h)

  pub same-attribute : (c : ℕ) {x : List (Lex R)} {y : List (Lex Kind)} → InKind kind x y → is_attribute c x ≡ is_attribute c y
  unfolding is_attribute starts_mark map_lex
  same-attribute c h = λ i. eqb (same-plain h i) c && starts (after-rest h) i
    where
      starts : {x : List (Lex R)} {y : List (Lex Kind)} → InKind kind x y → starts_mark x ≡ starts_mark y
      starts done = refl
      starts (more {a = byte c} h) = refl
      starts (more {a = mark} h) = refl
      starts (more {a = ref r} h) = refl
      starts (more {a = lone} h) = refl

  pub after-spaces : {x : List (Lex R)} {y : List (Lex Kind)} → InKind kind x y → InKind kind (past_spaces x) (past_spaces y)
  unfolding past_spaces
  after-spaces h = after_run (λ c. eqb c space) h

  pub same_word : {x : List (Lex R)} {y : List (Lex Kind)} → InKind kind x y → word_at x ≡ word_at y
  unfolding word_at
  same_word h = same_first letter_or_digit h

  pub same_relation : {x : List (Lex R)} {y : List (Lex Kind)} → InKind kind x y → relation_at x ≡ relation_at y
  unfolding relation_at
  same_relation h = rw (same_word h) refl
