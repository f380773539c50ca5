-- A test of bytes on a run of them, by one computation: on n bytes from lo on, but for the byte x, the test f answers v. Assumes nothing.
use Prim.Native.Nat.{ℕ, zero, suc, ◌+◌, ◌≤◌, ◌<◌}
use native.Mathlib.Nat.{eq-or-lt_of_le}
use native.Mathlib.Omega.{arith}
use mathlib.Core.Path.{◌≡◌, refl, sym, ap, subst}
use mathlib.Core.Logic.{⊎_elim}
use mathlib.Core.Bool.{Bool, true, false, false≢true, ◌&&◌, ◌||◌, beq, and-eq-true_iff}
use lib.Dec.{eqb}
use borrow.Author.Tests.{ne_eqb}

pub beq-is : (v w : Bool) → beq v w ≡ true → v ≡ w
beq-is true true e = refl
beq-is true false e = absurd (false≢true e)
beq-is false true e = absurd (false≢true e)
beq-is false false e = refl

module _ (f : ℕ → Bool) where
  -- one byte, named
  pub named : {b k : ℕ} → b ≡ k → f k ≡ f b
  named e = ap f (sym e)

  module _ (v : Bool) (x : ℕ) where
    -- byte k is x, or the test answers v
    abbrev right : ℕ → Bool
    right k = eqb k x || beq v (f k)

    abbrev pub all : ℕ → ℕ → Bool
    all zero lo = true
    all (suc n) lo = right lo && all n (suc lo)

    here : (b : ℕ) → right b ≡ true → (b ≡ x → ⊥) → v ≡ f b
    here b e d = beq-is v (f b) (rw (ne_eqb b x d) at e)

    pub answers : (n lo : ℕ) → all n lo ≡ true → (b : ℕ) → lo ≤ b → b < lo + n → (b ≡ x → ⊥) → v ≡ f b
    answers zero lo e b l h d = absurd (omega arith)
    answers (suc n) lo e b l h d =
        let both = (and-eq-true_iff (right lo) (all n (suc lo))).0 e in
        ⊎_elim
        (λ (q : lo ≡ b). here b (subst (λ (k : ℕ). right k ≡ true) q both.0) d)
        (λ (g : lo < b). answers n (suc lo) both.1 b g (omega arith) d)
        (eq-or-lt_of_le l)
