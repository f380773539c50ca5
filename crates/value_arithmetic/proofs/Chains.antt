-- A chain of operands goes on as its loop in the code does: grammar's Chains, with values. Assumes nothing.
use mathlib.Core.Path.{◌≡◌, refl, sym, ap, ◌∙◌, subst}
use mathlib.Core.Bool.{Bool, true, false, true≢false}
use mathlib.Core.List.{List, [], ◌∷◌, map}
use mathlib.Core.Option.{Option, none, some}
use Prim.Native.Nat.{ℕ, suc, ◌+◌, ◌<◌, ◌≤◌}
use native.Mathlib.Omega.{arith}
use native.Mathlib.Nat.{le_refl}
use lib.ListN.{length, drop, length-append}
use lib.IntN.{ℤ}
use Rattle.text.specs.Bytes.{Bytes}
use Rattle.rules.specs.Lexemes.{Lex}
use Rattle.rules.specs.Values.{operate}
use Rattle.rules.specs.Grammar.{Got, got, refused, plain, rest, then, given, goes_on, turn, chain}
use Rattle.rules.specs.Evaluate.{Cell}
use Rattle.grammar.proofs.While.{Falls, Going, going-ends, going_less, going_on}
use Rattle.std.specs.Prelude.{Result, Ok, Err, Some, None}
use Rattle.std.specs.Prelude.{Option as Maybe}
use Rattle.std.specs.Result.{IsErrAnd}
use Rattle.std.proofs.lemmas.Result.{err_from_is_err_and}
use Rattle.rules.specs.Choice.{choose}
use Rattle.grammar.specs.Tokens.{toks_at}
use Rattle.grammar.proofs.Answers.{found, found-at, ended}
use Rattle.value_sums.specs.declared.Read.{Read}
use Rattle.value_sums.specs.declared.Refused.{Refused}
use Rattle.value_sums.specs.Answers.{lex_by, toks_by, tells_as, tells}
use Rattle.value_sums.proofs.Answers.{toks-drop, same-plain, then-read, then-refused}
use Rattle.value_wholes.proofs.Rules.{Passes}

abbrev pub Number : Type 0
Number = Result (Read ℤ) Refused

-- what is left to read
unfoldable pub size : Got ℤ Cell → ℕ
size (got v x) = length x
size (refused e n) = 0

-- the same, by the place
abbrev pub to_read : Bytes → Read ℤ → ℕ
to_read code r = length (drop r.next code)

size_is : (held : ℕ → Cell) (code : Bytes) (r : Read ℤ) → size (got r.value (toks_by held code r.next)) ≡ to_read code r
unfolding size toks_by
size_is held code r = go (drop r.next code)
  where
    go : (l : Bytes) → length (map (lex_by held) l) ≡ length l
    go [] = refl
    go (b ∷ l) = ap suc (go l)

passes-size : {x : List (Lex Cell)} {g : Got ℤ Cell} → Passes x g → size g ≤ length x
unfolding size
passes-size {x} (Passes.on {y = y} p) = let e = ap length p.whole ∙ length-append p.read y in omega arith
passes-size Passes.off = omega arith

given-size : (t : Got ℤ Cell) (x : List (Lex Cell)) (join : ℤ → Option ℤ) → size (then t (λ w y. given (join w) x y)) ≤ size t
unfolding then given size
given-size (got w y) x join = go (join w)
  where
    go : (o : Option ℤ) → size (given o x y) ≤ length y
    go none = omega arith
    go (some v) = le_refl (length y)
given-size (refused e n) x join = le_refl 0

-- the refusal that `?` hands on
same-refusal : {A : Type 0} (s : Result (Read A) Refused) {e : Refused} → IsErrAnd s (λ d. d ≡ e) → s ≡ Err e
same-refusal s out = let p = err_from_is_err_and s out in p.1 ∙ ap Err p.2

-- what comes behind a reading that `?` stops or lets go on
module _ {A B W : Type 0} (is : A → B) (from : ℕ → List (Lex Cell)) (k : B → List (Lex Cell) → Got W Cell) {r : Result (Read A) Refused} {g : Got B Cell} (read : tells_as is from r ≡ g) where
  pub read-on : {b : Read A} → r ≡ Ok b → k (is b.value) (from b.next) ≡ then g k
  read-on e = sym (then-read is from k {s = r} e) ∙ ap (λ g. then g k) read

  pub read_off : {C : Type 0} (told : C → W) {e : Refused} → r ≡ Err e → (s : Result (Read C) Refused) → IsErrAnd s (λ d. d ≡ e) → tells_as told from s ≡ then g k
  read_off told e s out = ap (tells_as told from) (same-refusal s out) ∙ then-refused is from k {s = r} told e ∙ ap (λ g. then g k) read

-- an operator of one byte is where grammar finds it, whatever the symbols stand for
pub operand-by : (test : ℕ → Bool) (held : ℕ → Cell) (code : Bytes) (at : ℕ) {o : Maybe ℕ} → o ≡ choose (test (plain (toks_at [] code at))) (Some (at + 1)) None
    → o ≡ choose (test (plain (toks_by held code at))) (Some (at + 1)) None
operand-by test held code at e = e ∙ ap (λ b. choose (test b) (Some (at + 1)) None) (same-plain [] held code at)

-- a chain of operands: `goes` says where an operator stands
pub record Chained (goes : List (Lex Cell) → Bool) (operand : List (Lex Cell) → Got ℤ Cell) : Type 0 where
  pub ends : goes [] ≡ false
  pub passes : (x : List (Lex Cell)) → Passes x (operand x)

module _ {goes : List (Lex Cell) → Bool} {operand : List (Lex Cell) → Got ℤ Cell} (k : Chained goes operand) where
  abbrev joins : List (Lex Cell) → ℤ → ℤ → Option ℤ
  joins y = operate (plain y)

  abbrev test : Got ℤ Cell → Bool
  test = goes_on goes rest operand joins

  abbrev step : Got ℤ Cell → Got ℤ Cell
  step = turn goes rest operand joins

  abbrev pub chained : List (Lex Cell) → Got ℤ Cell
  chained = chain goes rest operand joins

  pub step_less : (s : Got ℤ Cell) → test s ≡ true → size (step s) < size s
  unfolding goes_on turn size rest
  step_less (got v []) e = absurd (true≢false (sym e ∙ k.ends))
  step_less (got v (y ∷ x)) e = let less = passes-size (k.passes x) in let all = given-size (operand x) (y ∷ x) (operate (plain (y ∷ x)) v) in omega arith
  step_less (refused r n) e = absurd (true≢false (sym e))

  abbrev falling : Falls test step
  falling = record { measure = size; falls = step_less }

  -- the loop of the code over a field: what it has so far comes to the whole of the chain
  module _ (held : ℕ → Cell) (code : Bytes) where
    abbrev pub Stage : ℕ → Got ℤ Cell → Type 0
    Stage at so_far = Going falling (length (toks_by held code at)) (chained (toks_by held code at)) so_far

    abbrev pub Loop : ℕ → Read ℤ → Type 0
    Loop at left = Stage at (got left.value (toks_by held code left.next))

    off : (e : Refused) → test (tells (toks_by held code) (Err e)) ≡ false
    unfolding tells_as goes_on
    off e = refl

    pub loop-starts : (at : ℕ) (r : Number) → tells (toks_by held code) r ≡ operand (toks_by held code at) → Stage at (tells (toks_by held code) r)
    unfolding chain
    loop-starts at r e = record { short = rw e (passes-size (k.passes (toks_by held code at))); goes = rw e }

    module _ (at : ℕ) {r : Number} (stage : Stage at (tells (toks_by held code) r)) where
      pub loop-on : {left : Read ℤ} → r ≡ Ok left → Loop at left
      unfolding tells_as
      loop-on e = subst (λ (q : Number). Stage at (tells (toks_by held code) q)) e stage

      pub loop-refused : {e : Refused} → r ≡ Err e → (s : Number) → IsErrAnd s (λ d. d ≡ e) → tells (toks_by held code) s ≡ chained (toks_by held code at)
      loop-refused {e} is s out = ap (tells (toks_by held code)) (same-refusal s out) ∙ going-ends falling (subst (λ (q : Number). Stage at (tells (toks_by held code) q)) is stage) (off e)

    module _ (at : ℕ) (left : Read ℤ) (inv : Loop at left) {o : Maybe ℕ} (next : o ≡ choose (goes (toks_by held code left.next)) (Some (left.next + 1)) None) where
      pub loop-ends : o ≡ None → tells (toks_by held code) (Ok left) ≡ chained (toks_by held code at)
      unfolding tells_as goes_on
      loop-ends z = going-ends falling inv (ended _ _ next z)

      module _ {n : ℕ} (z : o ≡ Some n) (right : Number) (read : tells (toks_by held code) right ≡ operand (toks_by held code n)) where
        tested : test (got left.value (toks_by held code left.next)) ≡ true
        unfolding goes_on
        tested = found _ _ next z

        -- both operands, joined
        abbrev joins-right : ℤ → List (Lex Cell) → Got ℤ Cell
        joins-right w y = given (operate (plain (toks_by held code left.next)) left.value w) (toks_by held code left.next) y

        turned : then (tells (toks_by held code) right) joins-right ≡ step (got left.value (toks_by held code left.next))
        unfolding turn then rest
        turned = ap (λ g. then g joins-right) (read ∙ ap (λ m. operand (toks_by held code m)) (found-at _ _ next z) ∙ ap operand (sym (toks-drop held code left.next 1)))

        -- a refused operand refuses the chain
        pub operand-refused : {e : Refused} → right ≡ Err e → (s : Number) → IsErrAnd s (λ d. d ≡ e) → tells (toks_by held code) s ≡ chained (toks_by held code at)
        operand-refused {e} is s out =
            let same = ap (tells (toks_by held code)) (same-refusal s out) ∙ then-refused (λ z. z) (toks_by held code) joins-right {s = right} (λ z. z) is in
            same ∙ going-ends falling (going_on falling inv tested turned) (ap test (sym same ∙ ap (tells (toks_by held code)) (same-refusal s out)) ∙ off e)

        -- the operation on both
        module _ {b : Read ℤ} (is : right ≡ Ok b) (s : Number) (joined : tells (toks_by held code) s ≡ joins-right b.value (toks_by held code b.next)) where
          again : tells (toks_by held code) s ≡ step (got left.value (toks_by held code left.next))
          again = joined ∙ sym (then-read (λ z. z) (toks_by held code) joins-right {s = right} is) ∙ turned

          pub loop-again : Stage at (tells (toks_by held code) s)
          loop-again = going_on falling inv tested again

          pub loop-less : {left' : Read ℤ} → s ≡ Ok left' → to_read code left' < to_read code left
          unfolding tells_as
          loop-less {left'} e =
              let less = going_less falling inv tested (ap (tells (toks_by held code)) (sym e) ∙ again) in
              let a = size_is held code left' in
              let b = size_is held code left in
              omega arith
