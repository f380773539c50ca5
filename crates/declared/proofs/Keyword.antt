-- What the first bare `=` of a part says of it: whether the part may stand in a prototype, and whether a text may stand as a default. Assumes nothing.
use Prim.Native.Nat.{ℕ, suc, ◌+◌, ◌≤◌, ◌<◌}
use native.Mathlib.Omega.{arith}
use mathlib.Core.Path.{◌≡◌, refl, ap, sym, ◌∙◌}
use mathlib.Core.Bool.{Bool, true, false, ◌&&◌, ◌||◌, not}
use lib.Dec.{eqb, ltb}
use lib.ListN.{length, take, drop}
use borrow.Author.Tests.{eqb-true, eqb-false, lt-ltb, le-ltb}
use Rattle.text.specs.Bytes.{Bytes}
use Rattle.rules.specs.Choice.{every}
use Rattle.rules.specs.Lexemes.{equals, lexed, is_plain, outside}
use Rattle.rules.specs.Calls.{pair_up, equals_at, has_equals}
use Rattle.rules.specs.Library.{is_one_symbol}
use Rattle.rules.specs.Faults.{before_equals, is_default, is_good_part}
use Rattle.rules.proofs.Choices.{by}
use Rattle.parts.specs.Parts.{bare_at}
use Rattle.parts.proofs.Told.{before-is, has-equals-is, default-cut}
use Rattle.declared.proofs.Unmarked.{Lexes}

module _ (s : Bytes) (end : ℕ) (e : end ≡ 0 + bare_at equals s) where
  abbrev x : Lexes
  x = lexed true s

  end_is : bare_at equals s ≡ end
  end_is = omega (arith, e)

  pub before-told : before_equals x ≡ lexed true (take end s)
  before-told = before-is s ∙ ap (λ (n : ℕ). lexed true (take n s)) end_is

  pub has-told : has_equals x ≡ ltb end (length s)
  has-told = has-equals-is s ∙ ap (λ (n : ℕ). ltb n (length s)) end_is

  pub default-told : end < length s → drop (suc (equals_at x)) x ≡ lexed true (drop (end + 1) s)
  default-told h =
      let n : suc (bare_at equals s) ≡ end + 1 = omega (arith, e) in
      default-cut s (omega (arith, h, e)) ∙ ap (λ (n : ℕ). lexed true (drop n s)) n

  -- no bare `=` is one thing with a cut at the end
  none_told : end ≤ length s → eqb end (length s) ≡ not (has_equals x)
  none_told h =
      by (eqb end (length s))
      (λ t. t ∙ sym (ap not (has-told ∙ le-ltb end (length s) (omega (arith, eqb-true end (length s) t)))))
      (λ t.
      let d = eqb-false end (length s) t in
      t ∙ sym (ap not (has-told ∙ lt-ltb end (length s) (omega (arith, h, d)))))

  pub is-default-told : {plain pairs : Bool} → end ≤ length s → plain ≡ every is_plain x → pairs ≡ pair_up outside x → (plain && pairs && eqb end (length s)) ≡ is_default x
  unfolding is_default
  is-default-told {plain} {pairs} h p q = nested plain pairs (eqb end (length s)) ∙ (λ i. p i && (q i && none_told h i))
    where
      nested : (a b c : Bool) → (a && b && c) ≡ (a && (b && c))
      nested true b c = refl
      nested false b c = refl

  module _ {one : Bool} (o : one ≡ is_one_symbol (lexed true (take end s))) where
    good-is : is_good_part x ≡ (one && (not (ltb end (length s)) || is_default (drop (suc (equals_at x)) x)))
    unfolding is_good_part
    good-is = λ i. (ap is_one_symbol before-told ∙ sym o) i && (not (has-told i) || is_default (drop (suc (equals_at x)) x))

    pub no_symbol : one ≡ false → is_good_part x ≡ false
    no_symbol f = good-is ∙ ap (λ (b : Bool). b && (not (ltb end (length s)) || is_default (drop (suc (equals_at x)) x))) f

    pub only-symbol : one ≡ true → length s ≤ end → is_good_part x ≡ true
    only-symbol t h = good-is ∙ (λ i. t i && (not (le-ltb end (length s) h i) || is_default (drop (suc (equals_at x)) x)))

    pub with-default : one ≡ true → end < length s → is_good_part x ≡ is_default (lexed true (drop (end + 1) s))
    with-default t h = good-is ∙ (λ i. t i && (not (lt-ltb end (length s) h i) || is_default (default-told h i)))
