-- Reading moves forward, so a chain of operands goes on as its loop in the code does. Assumes nothing.
use mathlib.Core.Path.{◌≡◌, refl, sym, ap, ◌∙◌, subst}
use mathlib.Core.Bool.{Bool, true, false, true≢false}
use mathlib.Core.List.{List, [], ◌∷◌}
use mathlib.Core.Option.{some}
use Prim.Native.Nat.{ℕ, zero, suc, ◌+◌, ◌<◌, ◌≤◌}
use native.Mathlib.Omega.{arith}
use native.Mathlib.Nat.{le_refl}
use lib.ListN.{length, drop}
use Rattle.text.specs.Bytes.{Bytes}
use Rattle.rules.specs.Lexemes.{Lex}
use Rattle.rules.specs.Grammar.{Kind, Got, got, refused, then, given, goes_on, turn, chain}
use Rattle.rules.specs.Form.{Nothing}
use Rattle.std.specs.Prelude.{Option, Some, None, Ok, Err}
use Rattle.std.specs.Result.{IsErrAnd}
use Rattle.rules.specs.Choice.{choose}
use Rattle.grammar.specs.declared.Fault.{Fault}
use Rattle.grammar.specs.declared.Fault.TheVariants.{Broken, Deep}
use Rattle.grammar.specs.Tokens.{toks_at, Formed, tells}
use Rattle.grammar.proofs.Places.{toks-drop}
use Rattle.grammar.proofs.Answers.{same-fault, found, found-at, ended}
use Rattle.grammar.proofs.While.{Falls, while-less, Going, going-ends, going_less, going_on}

-- what is left to read, one more where there is a value
unfoldable pub left : {A : Type 0} → Got A Kind → ℕ
left (got v x) = suc (length x)
left (refused e n) = 0

pub left-then : {A W : Type 0} (r : Got A Kind) (k : A → List (Lex Kind) → Got W Kind) → ((v : A) (x : List (Lex Kind)) → left (k v x) ≤ suc (length x)) → left (then r k) ≤ left r
unfolding then left
left-then (got v x) k h = h v x
left-then (refused e n) k h = le_refl 0

-- each rule leaves less than it was given
abbrev pub Forward : {A : Type 0} → (List (Lex Kind) → Got A Kind) → Type 0
Forward rule = (x : List (Lex Kind)) → left (rule x) ≤ length x

pub drop-less : (n : ℕ) (x : List (Lex Kind)) → length (drop n x) ≤ length x
drop-less zero x = le_refl _
drop-less (suc n) [] = le_refl _
drop-less (suc n) (y ∷ x) = let less = drop-less n x in omega arith

pub then_same : (r : Got Nothing Kind) → then r (λ v x. got tt x) ≡ r
unfolding then
then_same (got v x) = refl
then_same (refused e n) = refl

-- a chain of which nothing is kept: `goes` says where an operator stands, `skip` lexemes before its right operand
pub record Chained (goes : List (Lex Kind) → Bool) (skip : ℕ) (operand : List (Lex Kind) → Got Nothing Kind) : Type 0 where
  pub none : goes [] ≡ false
  pub some-skip : 0 < skip
  pub forward : Forward operand

module _ {goes : List (Lex Kind) → Bool} {skip : ℕ} {operand : List (Lex Kind) → Got Nothing Kind} (k : Chained goes skip operand) where
  abbrev on : Got Nothing Kind → Bool
  on = goes_on goes (drop skip) operand (λ y v w. some tt)

  abbrev step : Got Nothing Kind → Got Nothing Kind
  step = turn goes (drop skip) operand (λ y v w. some tt)

  abbrev pub chained : List (Lex Kind) → Got Nothing Kind
  chained = chain goes (drop skip) operand (λ y v w. some tt)

  step_is : (s : Got Nothing Kind) → step s ≡ then s (λ v x. operand (drop skip x))
  unfolding turn then given
  step_is (got v x) = then_same (operand (drop skip x))
  step_is (refused e n) = refl

  shorter : (x : List (Lex Kind)) → goes x ≡ true → length (drop skip x) < length x
  shorter [] e = absurd (true≢false (sym e ∙ k.none))
  shorter (y ∷ x) e = go skip k.some-skip
    where
      go : (n : ℕ) → 0 < n → length (drop n (y ∷ x)) < suc (length x)
      go zero h = absurd (omega arith)
      go (suc n) h = let less = drop-less n x in omega arith

  pub step_less : (s : Got Nothing Kind) → on s ≡ true → left (step s) < left s
  unfolding goes_on left then
  step_less (got v x) e =
      let forward = k.forward (drop skip x) in
      let short = shorter x e in
      let less : left (operand (drop skip x)) < suc (length x) = omega arith in
      rw (step_is (got v x)) less
  step_less (refused r n) e = absurd (true≢false (sym e))

  abbrev falling : Falls on step
  falling = record { measure = left; falls = step_less }

  pub forward-chain : Forward chained
  unfolding chain
  forward-chain x =
      let less = k.forward x in
      let all = while-less falling (length x) (operand x) in
      omega arith

  -- the loop of the code over a field: the place that it has come to leads to the whole of the chain
  module _ (kinds code : Bytes) where
    abbrev pub Loop : ℕ → ℕ → Type 0
    Loop at here = Going falling (length (toks_at kinds code at)) (chained (toks_at kinds code at)) (got tt (toks_at kinds code here))

    abbrev pub to_read : ℕ → ℕ
    to_read here = suc (length (toks_at kinds code here))

    off : (e : Fault) → on (tells (toks_at kinds code) (Err e)) ≡ false
    unfolding tells goes_on
    off (Broken n) = refl
    off (Deep n) = refl

    module _ (at : ℕ) (r : Formed) (read : tells (toks_at kinds code) r ≡ operand (toks_at kinds code at)) where
      starts : Going falling (length (toks_at kinds code at)) (chained (toks_at kinds code at)) (tells (toks_at kinds code) r)
      unfolding chain
      starts = record { short = rw read (k.forward (toks_at kinds code at)); goes = rw read }

      pub loop-starts : {here : ℕ} → r ≡ Ok here → Loop at here
      unfolding tells
      loop-starts e = subst (λ (q : Formed). Going falling (length (toks_at kinds code at)) (chained (toks_at kinds code at)) (tells (toks_at kinds code) q)) e starts

      pub loop-none : {e : Fault} → r ≡ Err e → (s : Formed) → IsErrAnd s (λ d. d ≡ e) → tells (toks_at kinds code) s ≡ chained (toks_at kinds code at)
      loop-none {e} is s out = ap (tells (toks_at kinds code)) (same-fault s out) ∙ going-ends falling (subst (λ (q : Formed). Going falling (length (toks_at kinds code at)) (chained (toks_at kinds code at)) (tells (toks_at kinds code) q)) is starts) (off e)

    module _ (at here : ℕ) (inv : Loop at here) {o : Option ℕ} (next : o ≡ choose (goes (toks_at kinds code here)) (Some (here + skip)) None) where
      pub loop-ends : o ≡ None → tells (toks_at kinds code) (Ok here) ≡ chained (toks_at kinds code at)
      unfolding tells goes_on
      loop-ends z = going-ends falling inv (ended _ _ next z)

      module _ {n : ℕ} (z : o ≡ Some n) (r : Formed) (read : tells (toks_at kinds code) r ≡ operand (toks_at kinds code n)) where
        goes-on : on (got tt (toks_at kinds code here)) ≡ true
        unfolding goes_on
        goes-on = found _ _ next z

        turned : tells (toks_at kinds code) r ≡ step (got tt (toks_at kinds code here))
        unfolding then
        turned = read ∙ ap (λ m. operand (toks_at kinds code m)) (found-at _ _ next z) ∙ ap operand (sym (toks-drop kinds code here skip)) ∙ sym (step_is (got tt (toks_at kinds code here)))

        pub loop-less : {there : ℕ} → r ≡ Ok there → to_read there < to_read here
        unfolding tells left
        loop-less e = going_less falling inv goes-on (ap (tells (toks_at kinds code)) (sym e) ∙ turned)

        pub loop-again : {there : ℕ} → r ≡ Ok there → Loop at there
        unfolding tells
        loop-again e = going_on falling inv goes-on (ap (tells (toks_at kinds code)) (sym e) ∙ turned)

        pub loop-fails : {e : Fault} → r ≡ Err e → (s : Formed) → IsErrAnd s (λ d. d ≡ e) → tells (toks_at kinds code) s ≡ chained (toks_at kinds code at)
        loop-fails {e} is s out = ap (tells (toks_at kinds code)) (same-fault s out) ∙ going-ends falling (going_on falling inv goes-on (ap (tells (toks_at kinds code)) (sym is) ∙ turned)) (off e)
