-- Reading in one pass with tests on the way is reading all and testing then. Assumes nothing.
use Prim.Native.Nat.{ℕ, zero, suc}
use mathlib.Core.Path.{◌≡◌, refl, sym, ap, ◌∙◌}
use mathlib.Core.Bool.{Bool, true, false, ◌&&◌}
use mathlib.Core.List.{List, ◌∷◌}
use mathlib.Core.Option.{Option, none, some}
use Rattle.text.specs.Bytes.{Bytes}
use Rattle.rules.specs.Choice.{choose}
use Rattle.deck.specs.Coding.{Read, after, Coder, get_all, pair}
use Rattle.good_decks.specs.Walk.{need, sift, walk, hold_from}

-- ---- one thing behind another

pub after_same : {A B : Type 0} (r : Read A) {j k : A → Bytes → Read B} → ((a : A) (t : Bytes) → j a t ≡ k a t) → after r j ≡ after r k
unfolding after
after_same none e = refl
after_same (some r) e = e r.0 r.1

pub after-after : {A B C : Type 0} (r : Read A) (j : A → Bytes → Read B) (k : B → Bytes → Read C) → after (after r j) k ≡ after r (λ a t. after (j a t) k)
unfolding after
after-after none j k = refl
after-after (some r) j k = refl

-- a pair is its first and then its second
pub pair-after : {A B C : Type 0} (c : Coder A) (d : Coder B) (s : Bytes) (k : A × B → Bytes → Read C) → after ((pair c d).get s) k ≡ after (c.get s) (λ a t. after (d.get t) λ b u. k (a, b) u)
unfolding pair after
pair-after {A} {B} {C} c d s k = first (c.get s)
  where
    second : (a : A) (r : Read B) → after (after r λ b u. some ((a, b), u)) k ≡ after r (λ b u. k (a, b) u)
    second a none = refl
    second a (some r) = refl

    first : (r : Read A) → after (after r λ a t. after (d.get t) λ b u. some ((a, b), u)) k ≡ after r (λ a t. after (d.get t) λ b u. k (a, b) u)
    first none = refl
    first (some r) = second r.0 (d.get r.1)

-- ---- tests on the way

module _ {A B : Type 0} where
  -- a test before a reading may as well be made behind it
  pub need-after : (b : Bool) (r : Read A) (k : A → Bytes → Read B) → need b (after r k) ≡ after r (λ a t. need b (k a t))
  unfolding need after choose
  need-after true r k = after_same r (λ a t. refl)
  need-after false none k = refl
  need-after false (some r) k = refl

  pub sift-after : (test : B → Bool) (r : Read A) (k : A → Bytes → Read B) → sift test (after r k) ≡ after r (λ a t. sift test (k a t))
  unfolding sift after
  sift-after test none k = refl
  sift-after test (some r) k = refl

  pub after-sift : (test : A → Bool) (r : Read A) (k : A → Bytes → Read B) → after (sift test r) k ≡ after r (λ a t. need (test a) (k a t))
  unfolding sift after need choose
  after-sift test none k = refl
  after-sift test (some r) k = cases (test r.0)
    where
      cases : (b : Bool) → after (choose b (some r) none) k ≡ choose b (k r.0 r.1) none
      cases true = refl
      cases false = refl

pub need-need : {A : Type 0} (a b : Bool) (r : Option A) → need a (need b r) ≡ need (a && b) r
unfolding need choose
need-need true b r = refl
need-need false b r = refl

-- ---- many things

module _ {A S : Type 0} (c : Coder A) (test : S → A → Bool) (next : S → A → S) where
  abbrev get : S → Bytes → Read A
  get st s = sift (test st) (c.get s)

  -- THE LAW OF ONE PASS
  pub walk-all : (g : S → Bytes → Read A) → ((st : S) (s : Bytes) → g st s ≡ sift (test st) (c.get s)) → (n : ℕ) (st : S) (s : Bytes) → walk g next n st s ≡ sift (hold_from test next st) (get_all c n s)
  unfolding walk get_all sift hold_from choose need after
  walk-all g e zero st s = refl
  walk-all g e (suc n) st s =
      ap (λ r. after r (λ a t. after (walk g next n (next st a) t) λ l u. some (a ∷ l, u))) (e st s)
      ∙ (after-sift (test st) (c.get s) (λ a t. after (walk g next n (next st a) t) λ l u. some (a ∷ l, u))
      ∙ (after_same (c.get s) (λ a t. ap (λ r. need (test st a) (after r λ l u. some (a ∷ l, u))) (walk-all g e n (next st a) t) ∙ turn a (get_all c n t))
      ∙ sym (sift-after (hold_from test next st) (c.get s) (λ a t. after (get_all c n t) λ l u. some (a ∷ l, u)))))
    where
      turn : (a : A) (r : Read (List A)) → need (test st a) (after (sift (hold_from test next (next st a)) r) λ l u. some (a ∷ l, u)) ≡ sift (hold_from test next st) (after r λ l u. some (a ∷ l, u))
      turn a none = cases (test st a)
        where
          nothing : Read (List A)
          nothing = none

          cases : (b : Bool) → choose b nothing none ≡ none
          cases true = refl
          cases false = refl
      turn a (some r) = cases (test st a) (hold_from test next (next st a) r.0)
        where
          cases : (b d : Bool) → choose b (after (choose d (some r) none) λ l u. some (a ∷ l, u)) none ≡ choose (b && d) (some (a ∷ r.0, r.1)) none
          cases true true = refl
          cases true false = refl
          cases false d = refl
