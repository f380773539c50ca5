-- The scan of a field's codes, by its state, is the definition's. Assumes nothing.
use Prim.Native.Nat.{ℕ, suc, ◌+◌, ◌≤◌, ◌<◌}
use native.Mathlib.Numerals.{add-one}
use native.Mathlib.Omega.{arith}
use mathlib.Core.Path.{◌≡◌, refl, ap, sym, ◌∙◌}
use mathlib.Core.Bool.{Bool, true, false, ◌&&◌, ◌||◌, not}
use mathlib.Core.List.{◌∷◌}
use lib.Dec.{eqb, ltb}
use lib.ListN.{length, get_or, drop, drop_of_length-le}
use lib.Seq.{drop-cons}
use borrow.Author.Tests.{lt-ltb, le-ltb}
use Rattle.text.specs.Bytes.{Bytes}
use Rattle.text.specs.Characters.{letter}
use Rattle.rules.specs.Choice.{choose, passed}
use Rattle.rules.specs.Lexemes.{apostrophe, closing, Lex, byte_of, outside, enters, is_bare}
use Rattle.rules.specs.Calls.{pair_up}
use Rattle.rules.proofs.Choices.{either, chosen, passed_over}
use Rattle.fields.specs.declared.Seen.{Seen as State}
use Rattle.fields.specs.Seen.{precedes, inside_of, marks, quoted_after, depth_after, seen_after, nothing_seen}
use Rattle.parts.specs.Parts.{bare_here}
use Rattle.call_codes.specs.Codes.{code_lex, lexemes}

-- the text byte of a code byte
module _ (b : ℕ) where
  pub text-is : b < 127 → b ≡ byte_of (code_lex b)
  unfolding code_lex byte_of
  text-is h = sym (ap (byte_of {R = ℕ}) (chosen _ _ (lt-ltb b 127 h)))

  pub other-is : 127 ≤ b → 0 ≡ byte_of (code_lex b)
  unfolding code_lex byte_of
  other-is h =
      sym (ap (byte_of {R = ℕ}) (passed_over _ _ (le-ltb b 127 h))
      ∙ either (λ (x : Lex ℕ). byte_of x ≡ 0) (eqb b 127) (λ e. refl) (λ e. either (λ (x : Lex ℕ). byte_of x ≡ 0) (ltb b 227) (λ f. refl) (λ f. refl)))

-- where nothing follows, no byte is a mark
no-mark : (s : State) (d : ℕ) → marks s d 0 ≡ false
unfolding marks letter
no-mark s d = go (eqb d apostrophe) (not s.quoted) (precedes s.first) _
  where
    go : (a b p q : Bool) → (a && b && false && p && q) ≡ false
    go true true p q = refl
    go true false p q = refl
    go false b p q = refl

module _ (s : State) (b : ℕ) where
  abbrev d : ℕ
  d = byte_of (code_lex b)

  bare-is : (c : ℕ) → bare_here c s d 0 ≡ is_bare c (inside_of s) (code_lex b)
  unfolding bare_here is_bare inside_of
  bare-is c = ap (λ (m : Bool). (m && eqb c 0 || not m && eqb d c) && not s.quoted && eqb s.depth 0) (no-mark s d) ∙ nested (eqb d c) (not s.quoted) (eqb s.depth 0)
    where
      nested : (a p q : Bool) → ((false || a) && p && q) ≡ (a && (p && q))
      nested true p q = refl
      nested false p q = refl

  inside_is : inside_of (seen_after s d 0) ≡ enters (inside_of s) (code_lex b)
  unfolding inside_of seen_after quoted_after depth_after enters
  inside_is = λ i. record {
    quoted = (ap (λ (m : Bool). choose (eqb d apostrophe && not m) (not s.quoted) s.quoted) (no-mark s d) ∙ ap (λ (t : Bool). choose t (not s.quoted) s.quoted) (and-true (eqb d apostrophe))) i;
    depth = depth_after s d;
  }
    where
      and-true : (b : Bool) → (b && true) ≡ b
      and-true true = refl
      and-true false = refl

-- ---- by place

-- where the scan stops that has seen `s` before place i
unfoldable pub stops_from : ℕ → Bytes → ℕ → State → ℕ
stops_from c l i s = i + passed (is_bare c) enters (inside_of s) (lexemes (drop i l))

-- whether quotes and parentheses pair from place i on, where `s` was seen before it
unfoldable pub pairs_from : Bytes → ℕ → State → Bool
pairs_from l i s = pair_up (inside_of s) (lexemes (drop i l))

pub pairs_start : (l : Bytes) → pair_up outside (lexemes l) ≡ pairs_from l 0 nothing_seen
unfolding pairs_from inside_of nothing_seen outside
pairs_start l = refl

module _ (l : Bytes) (i : ℕ) (s : State) where
  pub scan-end : (c : ℕ) → length l ≤ i → stops_from c l i s ≡ i
  unfolding stops_from passed lexemes
  scan-end c h = rw (drop_of_length-le l h) (omega arith)

  pub pairs_end : length l ≤ i → pairs_from l i s ≡ (not s.quoted && eqb s.depth 0)
  unfolding pairs_from pair_up lexemes inside_of
  pairs_end h = ap (λ (t : Bytes). pair_up (inside_of s) (lexemes t)) (drop_of_length-le l h)

  module _ (h : i < length l) where
    abbrev b : ℕ
    b = get_or l i 0

    abbrev shown : ℕ
    shown = byte_of (code_lex b)

    first : lexemes (drop i l) ≡ code_lex b ∷ lexemes (drop (i + 1) l)
    unfolding lexemes
    first = rw (drop-cons l i 0, add-one)

    pub scan-stop : (c : ℕ) → bare_here c s shown 0 ≡ true → stops_from c l i s ≡ i
    unfolding stops_from passed
    scan-stop c e =
        ap (λ z. i + passed (is_bare c) enters (inside_of s) z) first ∙ (ap (i +◌) (chosen 0 _ (sym (bare-is s b c) ∙ e)) ∙ omega arith)

    pub scan-on : (c : ℕ) → bare_here c s shown 0 ≡ false → stops_from c l i s ≡ stops_from c l (i + 1) (seen_after s shown 0)
    unfolding stops_from passed
    scan-on c e =
        let on = passed (is_bare c) enters (enters (inside_of s) (code_lex b)) (lexemes (drop (i + 1) l)) in
        let moved : i + suc on ≡ i + 1 + on = omega arith in
        ap (λ z. i + passed (is_bare c) enters (inside_of s) z) first
        ∙ (ap (i +◌) (passed_over 0 (suc on) (sym (bare-is s b c) ∙ e))
        ∙ (moved ∙ sym (λ k. i + 1 + passed (is_bare c) enters (inside_is s b k) (lexemes (drop (i + 1) l)))))

    pairs-step : pairs_from l i s ≡ (not (bare_here closing s shown 0) && pairs_from l (i + 1) (seen_after s shown 0))
    unfolding pairs_from pair_up
    pairs-step =
        ap (pair_up (inside_of s)) first
        ∙ sym (λ j. not (bare-is s b closing j) && pair_up (inside_is s b j) (lexemes (drop (i + 1) l)))

    pub pairs-stop : bare_here closing s shown 0 ≡ true → pairs_from l i s ≡ false
    pairs-stop e = pairs-step ∙ ap (λ (t : Bool). not t && pairs_from l (i + 1) (seen_after s shown 0)) e

    pub pairs-on : bare_here closing s shown 0 ≡ false → pairs_from l i s ≡ pairs_from l (i + 1) (seen_after s shown 0)
    pairs-on e = pairs-step ∙ ap (λ (t : Bool). not t && pairs_from l (i + 1) (seen_after s shown 0)) e
