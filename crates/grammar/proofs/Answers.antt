-- Answers of functions, taken further: by places in a field. Assumes nothing.
use Prim.Native.Nat.{ℕ, ◌+◌}
use mathlib.Core.Path.{◌≡◌, refl, ap, sym, ◌∙◌}
use mathlib.Core.Bool.{Bool, true, false}
use mathlib.Core.List.{List}
use lib.Dec.{eqb}
use Rattle.std.specs.Prelude.{Option, Some, None, Ok, Err}
use Rattle.std.specs.Option.{ok_or}
use Rattle.std.specs.Result.{IsErrAnd}
use Rattle.std.proofs.lemmas.Result.{err_from_is_err_and}
use Rattle.text.specs.Bytes.{Bytes}
use Rattle.rules.specs.Choice.{choose}
use Rattle.rules.specs.Lexemes.{Lex}
use Rattle.rules.specs.Grammar.{Kind, Got, got, plain, then, broken}
use Rattle.rules.specs.Form.{Nothing}
use Rattle.rules.proofs.Choices.{by, chosen, passed_over}
use Rattle.grammar.specs.declared.Fault.{Fault}
use Rattle.grammar.specs.declared.Fault.TheVariants.{Broken, Deep}
use Rattle.grammar.specs.Tokens.{toks_at, Formed, tells}
use Rattle.grammar.specs.Operands.{expected}
use Rattle.grammar.proofs.Places.{toks-rest}

module _ (from : ℕ → List (Lex Kind)) (n : ℕ) where
  pub tells_at : tells from (Ok n) ≡ got tt (from n)
  unfolding tells
  tells_at = refl

  pub tells-broken : tells from (Err (Broken n)) ≡ broken (from n)
  unfolding tells broken
  tells-broken = refl

-- the fault that `?` hands on
pub same-fault : (s : Formed) {e : Fault} → IsErrAnd s (λ d. d ≡ e) → s ≡ Err e
same-fault s out = let p = err_from_is_err_and s out in p.1 ∙ ap Err p.2

-- two readings, one behind the other: where the first comes to a place, and where it does not
module _ (from : ℕ → List (Lex Kind)) where
  stops : (k : Nothing → List (Lex Kind) → Got Nothing Kind) (e : Fault) → tells from (Err e) ≡ then (tells from (Err e)) k
  unfolding tells then
  stops k (Broken n) = refl
  stops k (Deep n) = refl

  module _ (k : Nothing → List (Lex Kind) → Got Nothing Kind) {r : Formed} {g : Got Nothing Kind} (read : tells from r ≡ g) where
    pub then-on : {n : ℕ} → r ≡ Ok n → k tt (from n) ≡ then g k
    unfolding tells then
    then-on e = ap (λ (q : Formed). then (tells from q) k) (sym e) ∙ ap (λ z. then z k) read

    pub then-off : {e : Fault} → r ≡ Err e → (s : Formed) → IsErrAnd s (λ d. d ≡ e) → tells from s ≡ then g k
    then-off {e} is s out = ap (tells from) (same-fault s out) ∙ stops k e ∙ ap (λ (q : Formed). then (tells from q) k) (sym is) ∙ ap (λ z. then z k) read

-- what stands behind an operator, where one stands
abbrev is_some : Option ℕ → Bool
is_some (Some n) = true
is_some None = false

abbrev some_or : ℕ → Option ℕ → ℕ
some_or m (Some n) = n
some_or m None = m

module _ (b : Bool) (m : ℕ) {o : Option ℕ} (is : o ≡ choose b (Some m) None) where
  shown : is_some o ≡ b
  unfolding choose
  shown = ap is_some is ∙ go b
    where
      go : (b : Bool) → is_some (choose b (Some m) None) ≡ b
      go true = refl
      go false = refl

  pub found : {n : ℕ} → o ≡ Some n → b ≡ true
  found e = sym shown ∙ ap is_some e

  pub ended : o ≡ None → b ≡ false
  ended e = sym shown ∙ ap is_some e

  pub found-at : {n : ℕ} → o ≡ Some n → n ≡ m
  unfolding choose
  found-at e = sym (ap (some_or m) e) ∙ ap (some_or m) is ∙ go b
    where
      go : (b : Bool) → some_or m (choose b (Some m) None) ≡ m
      go true = refl
      go false = refl

-- a byte that must stand there
pub expected-is : (kinds code : Bytes) (at c : ℕ) {o : Option ℕ} → o ≡ choose (eqb (plain (toks_at kinds code at)) c) (Some (at + 1)) None → {r : Formed} → r ≡ ok_or o (Broken at)
    → tells (toks_at kinds code) r ≡ expected c (toks_at kinds code at)
unfolding tells expected broken
expected-is kinds code at c is e = by (eqb (plain (toks_at kinds code at)) c)
    (λ h. ap (tells (toks_at kinds code)) (e ∙ ap (λ o. ok_or o (Broken at)) (is ∙ chosen _ _ h)) ∙ ap (got tt) (sym (toks-rest kinds code at)) ∙ sym (chosen _ _ h))
    (λ h. ap (tells (toks_at kinds code)) (e ∙ ap (λ o. ok_or o (Broken at)) (is ∙ passed_over _ _ h)) ∙ sym (passed_over _ _ h))
