-- What the first of a call's parts says of all. These are the steps of the loops over a call's parts. Assumes nothing.
use Prim.Native.Nat.{ℕ, zero, suc}
use mathlib.Core.Path.{◌≡◌, refl, ap, sym, ◌∙◌}
use mathlib.Core.Bool.{Bool, true, false, ◌&&◌, ◌||◌, not}
use mathlib.Core.List.{List, [], ◌∷◌, map}
use lib.ListN.{length, drop}
use Rattle.std.specs.Prelude.{Option, Some, None}
use Rattle.std.specs.Borrow.{Bor}
use Rattle.std.specs.Iterator.{YieldsFirstBy}
use Rattle.text.specs.Bytes.{Bytes, same}
use Rattle.rules.specs.Choice.{any, run}
use Rattle.rules.specs.Lexemes.{Lex, lexed, unlexed}
use Rattle.rules.specs.Calls.{has_equals}
use Rattle.rules.proofs.Choices.{chosen, passed_over}
use Rattle.rules.proofs.Lossless.{lexed-back}
use Rattle.call_operands.specs.Calling.{name_of, named_among, may_stand, are_operands, leading}

module _ {R : Type 0} (part : List (Lex R)) (others : List (List (Lex R))) where
  module _ (k : Bool) {b : Bool} (t : b ≡ may_stand k part others) where
    pub operands-stop : b ≡ false → are_operands k (part ∷ others) ≡ false
    unfolding are_operands
    operands-stop f = ap (λ (c : Bool). c && are_operands (has_equals part) others) (sym t ∙ f)

    pub operands-on : b ≡ true → {keyword : Bool} → keyword ≡ has_equals part → are_operands k (part ∷ others) ≡ are_operands keyword others
    unfolding are_operands
    operands-on f q = λ i. (sym t ∙ f) i && are_operands (sym q i) others

  pub named-here : (name : Bytes) → same (name_of part) name ≡ true → named_among name (part ∷ others) ≡ true
  unfolding named_among any
  named-here name e = ap (λ (b : Bool). b || any (λ x. same (name_of x) name) others) e

  pub named-on : (name : Bytes) → same (name_of part) name ≡ false → named_among name (part ∷ others) ≡ named_among name others
  unfolding named_among any
  named-on name e = ap (λ (b : Bool). b || any (λ x. same (name_of x) name) others) e

  pub leading-here : has_equals part ≡ true → leading (part ∷ others) ≡ 0
  unfolding leading run
  leading-here e = passed_over _ _ (ap not e)

  pub leading-on : has_equals part ≡ false → leading (part ∷ others) ≡ suc (leading others)
  unfolding leading run
  leading-on e = chosen _ _ (ap not e)

pub named_none : (R : Type 0) (name : Bytes) → named_among {R = R} name [] ≡ false
unfolding named_among any
named_none R name = refl

pub leading_none : (R : Type 0) → leading {R = R} [] ≡ 0
unfolding leading run
leading_none R = refl

-- one part less
pub one-less : {S R : Type 0} (lexemes : Bytes → List (Lex R)) (left : S → List (List (Lex R))) (a : S) (r : Option (Bor Bytes)) (b : S) → YieldsFirstBy (λ part. lexemes part.now) left a r b
    → left b ≡ drop 1 (left a)
one-less lexemes left a None b e = e.1 ∙ sym (ap (drop 1) e.0)
one-less lexemes left a (Some p) b e = sym (ap (drop 1) e)

-- written parts by their lexemes
all-back : (ps : List Bytes) → map unlexed (map (lexed true) ps) ≡ ps
all-back [] = refl
all-back (p ∷ ps) = λ i. lexed-back true p i ∷ all-back ps i

rest-back : (n : ℕ) (ps : List Bytes) → map unlexed (drop n (map (lexed true) ps)) ≡ drop n ps
rest-back zero ps = all-back ps
rest-back (suc n) [] = refl
rest-back (suc n) (p ∷ ps) = rest-back n ps

pub behind-told : (n : ℕ) (ps qs : List Bytes) → map (lexed true) qs ≡ drop n (map (lexed true) ps) → qs ≡ drop n ps
behind-told n ps qs e = sym (all-back qs) ∙ ap (map unlexed) e ∙ rest-back n ps

pub as-many : (ps : List Bytes) → length (map (lexed true) ps) ≡ length ps
as-many [] = refl
as-many (p ∷ ps) = ap suc (as-many ps)
