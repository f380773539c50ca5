-- What a place of a field shows to evaluation. Assumes nothing.
use Prim.Native.Nat.{ℕ, zero, suc, ◌+◌}
use mathlib.Core.Path.{◌≡◌, refl, sym, ap, ◌∙◌}
use mathlib.Core.List.{List, [], ◌∷◌, map}
use mathlib.Core.Bool.{Bool, true, false}
use lib.Dec.{eqb, ltb}
use lib.ListN.{length, drop}
use lib.Seq.{drop-drop}
use lib.IntN.{ℤ, ◌+ℤ◌, ◌-ℤ◌, ◌*ℤ◌}
use lib.Signed.{quot_z}
use mathlib.Core.Option.{Option, none, some}
use borrow.Author.Tests.{eq-eqb, ne_eqb}
use Rattle.rules.specs.Values.{within, operate}
use Rattle.text.specs.Bytes.{Bytes}
use Rattle.rules.specs.Choice.{choose}
use Rattle.rules.specs.Lexemes.{Lex, byte, mark, ref, lone, byte_of}
use Rattle.rules.specs.Grammar.{Kind, Got, got, refused, plain, rest, then, given, broken, closed}
use Rattle.rules.specs.Evaluate.{Cell}
use Rattle.rules.proofs.Choices.{by, chosen, passed_over}
use Rattle.grammar.specs.Tokens.{lex_of, toks_at}
use Rattle.std.specs.Prelude.{Result, Ok, Err, Some, None}
use Rattle.std.specs.Prelude.{Option as Maybe}
use Rattle.std.specs.Result.{IsErrAnd}
use Rattle.std.proofs.lemmas.Result.{err_from_is_err_and}
use Rattle.refusals.specs.Numbers.{number_of}
use Rattle.refusals.specs.declared.Fault.TheVariants.{IllFormed, BadValue}
use Rattle.value_sums.specs.Answers.{option_of, lex_by, toks_by, tells_as, numbered_read, tells_by}
use Rattle.value_sums.specs.declared.Read.{Read}
use Rattle.value_sums.specs.declared.Refused.{Refused}
use Rattle.value_sums.specs.declared.Numbered.{Numbered}

-- the text byte at a place is the same whatever the symbols stand for
same_byte : (kinds : Bytes) (held : ℕ → Cell) (b : ℕ) → byte_of (lex_of kinds b) ≡ byte_of (lex_by held b)
unfolding lex_of lex_by choose byte_of
same_byte kinds held b = at _ _ _ _ (held b) (ltb b 127) (eqb b 127) (ltb b 224) (eqb b 224) (eqb b 225) (eqb b 226) (ltb b 227)
  where
    at : (k l m n : Kind) (d : Cell) (p q r s t u v : Bool)
        → byte_of {R = Kind} (choose p (byte b) (choose q mark (choose r (ref k) (choose s (ref l) (choose t (ref m) (choose u (ref n) lone))))))
        ≡ byte_of {R = Cell} (choose p (byte b) (choose q mark (choose v (ref d) lone)))
    at k l m n d true q r s t u v = refl
    at k l m n d false true r s t u v = refl
    at k l m n d false false true s t u true = refl
    at k l m n d false false true s t u false = refl
    at k l m n d false false false true t u true = refl
    at k l m n d false false false true t u false = refl
    at k l m n d false false false false true u true = refl
    at k l m n d false false false false true u false = refl
    at k l m n d false false false false false true true = refl
    at k l m n d false false false false false true false = refl
    at k l m n d false false false false false false true = refl
    at k l m n d false false false false false false false = refl

pub same-plain : (kinds : Bytes) (held : ℕ → Cell) (code : Bytes) (at : ℕ) → plain (toks_at kinds code at) ≡ plain (toks_by held code at)
unfolding toks_at toks_by plain
same-plain kinds held code at = go (drop at code)
  where
    go : (l : Bytes) → plain (map (lex_of kinds) l) ≡ plain (map (lex_by held) l)
    go [] = refl
    go (b ∷ l) = same_byte kinds held b

module _ (held : ℕ → Cell) (code : Bytes) where
  pub toks-drop : (at n : ℕ) → drop n (toks_by held code at) ≡ toks_by held code (at + n)
  unfolding toks_by
  toks-drop at n = drop-map n (drop at code) ∙ ap (map (lex_by held)) (drop-drop n at code)
    where
      drop-map : (n : ℕ) (l : Bytes) → drop n (map (lex_by held) l) ≡ map (lex_by held) (drop n l)
      drop-map zero l = refl
      drop-map (suc n) [] = refl
      drop-map (suc n) (b ∷ l) = drop-map n l

  pub toks-rest : (at : ℕ) → rest (toks_by held code at) ≡ toks_by held code (at + 1)
  unfolding rest
  toks-rest at = toks-drop at 1

pub tells-read : {A B : Type 0} (is : A → B) (from : ℕ → List (Lex Cell)) (v : A) (n : ℕ) → tells_as is from (Ok (record { value = v; next = n })) ≡ got (is v) (from n)
unfolding tells_as
tells-read is from v n = refl

pub tells-broken : {A B : Type 0} (is : A → B) (from : ℕ → List (Lex Cell)) (n : ℕ) → tells_as is from (Err (record { fault = IllFormed; at = n })) ≡ broken (from n)
unfolding tells_as broken
tells-broken is from n = refl

pub tells-refused : {A B : Type 0} (is : A → B) (from : ℕ → List (Lex Cell)) (e : Refused) → tells_as is from (Err e) ≡ refused (number_of e.fault) (length (from e.at))
unfolding tells_as
tells-refused is from e = refl

pub option-some : (z : ℤ) → option_of (Some z) ≡ some z
unfolding option_of
option-some z = refl

pub option-none : option_of {A = ℤ} None ≡ none
unfolding option_of
option-none = refl

-- what a next rule makes of what was read, and of a refusal
module _ {A B W : Type 0} (is : A → B) (from : ℕ → List (Lex Cell)) (k : B → List (Lex Cell) → Got W Cell) {s : Result (Read A) Refused} where
  pub then-read : {r : Read A} → s ≡ Ok r → then (tells_as is from s) k ≡ k (is r.value) (from r.next)
  unfolding then tells_as
  then-read e = ap (λ s. then (tells_as is from s) k) e

  pub then-refused : {C : Type 0} (told : C → W) {e : Refused} → s ≡ Err e → tells_as told from (Err e) ≡ then (tells_as is from s) k
  unfolding then tells_as
  then-refused told e = sym (ap (λ s. then (tells_as is from s) k) e)

  -- a refusal that goes on, by what the code has
  pub then-stops : {C : Type 0} (told : C → W) {e : Refused} → s ≡ Err e → (r : Result (Read C) Refused) → IsErrAnd r (λ d. d ≡ e) → tells_as told from r ≡ then (tells_as is from s) k
  then-stops told at r out = let p = err_from_is_err_and r out in ap (tells_as told from) (p.1 ∙ ap Err p.2) ∙ then-refused told at

-- the same where a refusal is told by its number
pub told-number : {A B : Type 0} (is : A → B) (from : ℕ → List (Lex Cell)) (s : Result (Read A) Refused) → tells_by is from (numbered_read s) ≡ tells_as is from s
unfolding tells_by tells_as numbered_read
told-number is from (Ok r) = refl
told-number is from (Err e) = refl

pub number-told : {A B : Type 0} (is : A → B) (from : ℕ → List (Lex Cell)) (v : A) (n : ℕ) → tells_by is from (Ok (record { value = v; next = n })) ≡ got (is v) (from n)
unfolding tells_by
number-told is from v n = refl

module _ {A B W : Type 0} (is : A → B) (from : ℕ → List (Lex Cell)) (k : B → List (Lex Cell) → Got W Cell) {s : Result (Read A) Numbered} where
  pub number-read : {r : Read A} → s ≡ Ok r → then (tells_by is from s) k ≡ k (is r.value) (from r.next)
  unfolding then tells_by
  number-read e = ap (λ s. then (tells_by is from s) k) e

  number-refused : {C : Type 0} (told : C → W) {e : Numbered} → s ≡ Err e → tells_by told from (Err e) ≡ then (tells_by is from s) k
  unfolding then tells_by
  number-refused told e = sym (ap (λ s. then (tells_by is from s) k) e)

  pub number-stops : {C : Type 0} (told : C → W) {e : Numbered} → s ≡ Err e → (r : Result (Read C) Numbered) → IsErrAnd r (λ d. d ≡ e) → tells_by told from r ≡ then (tells_by is from s) k
  number-stops told at r out = let p = err_from_is_err_and r out in ap (tells_by told from) (p.1 ∙ ap Err p.2) ∙ number-refused told at

-- what was read, as something else
abbrev as_got : {A B : Type 0} → (A → B) → Got A Cell → Got B Cell
as_got is (got v x) = got (is v) x
as_got is (refused e left) = refused e left

as-read : {A B : Type 0} (is : A → B) (from : ℕ → List (Lex Cell)) (r : Result (Read A) Refused) → tells_as is from r ≡ as_got is (tells_as (λ v. v) from r)
unfolding tells_as
as-read is from (Ok r) = refl
as-read is from (Err e) = refl

pub closed-as : {A B : Type 0} (is : A → B) (from : ℕ → List (Lex Cell)) (r : Result (Read A) Refused) (v : A) (x : List (Lex Cell)) → tells_as (λ v. v) from r ≡ closed v x → tells_as is from r ≡ closed (is v) x
unfolding closed broken
closed-as is from r v x e = as-read is from r ∙ ap (as_got is) e ∙ by (eqb (plain x) 41) (λ t. ap (as_got is) (chosen _ _ t) ∙ sym (chosen _ _ t)) (λ t. ap (as_got is) (passed_over _ _ t) ∙ sym (passed_over _ _ t))

-- a parenthesis that closes, and one that does not
module _ {A : Type 0} (held : ℕ → Cell) (code : Bytes) (v : A) (at c : ℕ) (e : c ≡ plain (toks_by held code at)) where
  pub closes : c ≡ 41 → tells_as (λ v. v) (toks_by held code) (Ok (record { value = v; next = at + 1 })) ≡ closed v (toks_by held code at)
  unfolding closed tells_as
  closes h = sym (chosen _ _ (ap (λ b. eqb b 41) (sym e ∙ h)) ∙ ap (got v) (toks-rest held code at))

  pub breaks : (c ≡ 41 → ⊥) → tells_as {A = A} (λ v. v) (toks_by held code) (Err (record { fault = IllFormed; at = at })) ≡ closed v (toks_by held code at)
  unfolding closed tells_as broken
  breaks h = sym (passed_over _ _ (ap (λ b. eqb b 41) (sym e) ∙ ne_eqb _ _ h))

-- the operations by their signs
module _ (sign : ℕ) (a b : ℤ) where
  pub plus-is : sign ≡ 43 → within (a +ℤ b) ≡ operate sign a b
  unfolding operate
  plus-is h = sym (chosen _ _ (eq-eqb _ _ h))

  module _ (p : sign ≡ 43 → ⊥) where
    pub minus_is : sign ≡ 45 → within (a -ℤ b) ≡ operate sign a b
    unfolding operate
    minus_is h = sym (passed_over _ _ (ne_eqb _ _ p) ∙ chosen _ _ (eq-eqb _ _ h))

    module _ (q : sign ≡ 45 → ⊥) where
      pub times-is : sign ≡ 42 → within (a *ℤ b) ≡ operate sign a b
      unfolding operate
      times-is h = sym (passed_over _ _ (ne_eqb _ _ p) ∙ passed_over _ _ (ne_eqb _ _ q) ∙ chosen _ _ (eq-eqb _ _ h))

      pub over-is : (sign ≡ 42 → ⊥) → within (quot_z a b) ≡ operate sign a b
      unfolding operate
      over-is h = sym (passed_over _ _ (ne_eqb _ _ p) ∙ passed_over _ _ (ne_eqb _ _ q) ∙ passed_over _ _ (ne_eqb _ _ h))

-- a value, or the refusal of what stands at `here`
module _ {A : Type 0} (from : ℕ → List (Lex Cell)) (here next : ℕ) {w : Maybe A} where
  pub placed-some : {z : A} → w ≡ Some z → tells_as (λ v. v) from (Ok (record { value = z; next = next })) ≡ given (option_of w) (from here) (from next)
  unfolding tells_as given option_of
  placed-some e = sym (ap (λ w. given (option_of w) (from here) (from next)) e)

  pub placed-none : w ≡ None → tells_as (λ v. v) from (Err (record { fault = BadValue; at = here })) ≡ given (option_of w) (from here) (from next)
  unfolding tells_as given option_of
  placed-none e = sym (ap (λ w. given (option_of w) (from here) (from next)) e)

-- a value where it may stand, as something else
abbrev pub map_to : {A B : Type 0} → (A → B) → Option A → Option B
map_to is none = none
map_to is (some v) = some (is v)

pub given-as : {A B : Type 0} (is : A → B) (from : ℕ → List (Lex Cell)) (r : Result (Read A) Refused) (fits : Bool) (o : Option A) (x y : List (Lex Cell)) → tells_as (λ v. v) from r ≡ choose fits (given o x y) (broken x)
    → tells_as is from r ≡ choose fits (given (map_to is o) x y) (broken x)
unfolding given broken choose
given-as is from r fits o x y e = as-read is from r ∙ ap (as_got is) e ∙ go fits o
  where
    go : (t : Bool) (o : Option _) → as_got is (choose t (given o x y) (broken x)) ≡ choose t (given (map_to is o) x y) (broken x)
    go true none = refl
    go true (some v) = refl
    go false o = refl
