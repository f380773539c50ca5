-- The text of a call's operand field is that of its parts, with commas between them: so what the operands' values take is no more than what the laid-out line has.
use Prim.Native.Nat.{ℕ, zero, suc, ◌+◌, ◌≤◌}
use mathlib.Core.Path.{◌≡◌, refl, ap, sym, ◌∙◌, subst}
use mathlib.Core.Bool.{true}
use mathlib.Core.List.{List, [], ◌∷◌, ◌++◌}
use native.Mathlib.Omega.{arith}
use native.Mathlib.Nat.{le_refl}
use lib.Dec.{eqb}
use lib.ListN.{length, length-append}
use borrow.Author.Tests.{eqb-true}
use Rattle.text.specs.Bytes.{Bytes}
use Rattle.rules.specs.Choice.{on_first}
use Rattle.rules.specs.Lexemes.{comma, Lex, byte, mark, ref, lone, byte_of, Inside, outside, enters, is_bare}
use Rattle.rules.specs.Grammar.{Got, got, refused}
use Rattle.rules.specs.Limits.{nest_limit}
use Rattle.rules.specs.Decide.{replaced, operand_value}
use Rattle.rules.specs.Calls.{parts}
use Rattle.rules.specs.Evaluate.{Cell, Chars, chars, joined_chars, values}
use Rattle.rules.proofs.Choices.{by, and_left, chosen, passed_over}
use Rattle.value_wholes.specs.Stillness.{state_after}
use Rattle.value_wholes.proofs.Rules.{clash}
use Rattle.value_wholes.proofs.Local.{tail}
use Rattle.value_wholes.proofs.Joined.{Reads, done, more, join, text-reads, reads-text}

-- where a field is divided first
pub data View {R : Type 0} (i : Inside) (x : List (Lex R)) : List (List (Lex R)) → Type 0 where
  whole : View i x (x ∷ [])
  cut : (p q : List (Lex R)) → x ≡ p ++ tail q → is_bare {R = R} comma (state_after i p) (byte comma) ≡ true → View i x (p ∷ parts (state_after i p) q)

is-comma : {R : Type 0} (a : Lex R) → eqb (byte_of a) comma ≡ true → a ≡ byte comma
unfolding byte_of
is-comma (byte c) h = ap byte (eqb-true c comma h)
is-comma mark h = clash h refl
is-comma (ref r) h = clash h refl
is-comma lone h = clash h refl

view-on : {R : Type 0} (i : Inside) (a : Lex R) (x : List (Lex R)) {ps : List (List (Lex R))} → View (enters i a) x ps → View i (a ∷ x) (on_first a ps)
unfolding on_first state_after
view-on i a x whole = whole
view-on i a x (cut p q e b) = cut (a ∷ p) q (ap (λ l. a ∷ l) e) b

pub view : {R : Type 0} (i : Inside) (x : List (Lex R)) → View i x (parts i x)
unfolding parts state_after is_bare
view i [] = whole
view {R} i (a ∷ x) = by (is_bare comma i a)
    (λ h. subst (View i (a ∷ x)) (sym (chosen _ _ h)) (cut [] x (ap (λ b. b ∷ x) (is-comma a (and_left (eqb (byte_of a) comma) _ h)))
    (ap (λ b. is_bare {R = R} comma i b) (sym (is-comma a (and_left (eqb (byte_of a) comma) _ h))) ∙ h)))
    (λ h. subst (View i (a ∷ x)) (sym (passed_over _ _ h)) (view-on i a x (view (enters i a) x)))

nothing-behind : (b : Bytes) → b ++ [] ≡ b
nothing-behind [] = refl
nothing-behind (c ∷ b) = ap (λ l. c ∷ l) (nothing-behind b)

behind-both : (a b c : Bytes) → a ++ (b ++ c) ≡ (a ++ b) ++ c
behind-both [] b c = refl
behind-both (x ∷ a) b c = ap (λ l. x ∷ l) (behind-both a b c)

module _ (n : ℕ) where
  -- the same pieces behind another start
  pub record Shifted (s s' s₀ : Chars) (x : List (Lex Cell)) : Type 0 where
    pub out : Chars
    pub reads : Reads values n s₀ x out
    pub added : Bytes
    pub first : s'.bytes ≡ s.bytes ++ added
    pub second : out.bytes ≡ s₀.bytes ++ added

  pub shift : {s s' : Chars} {x : List (Lex Cell)} → Reads values n s x s' → (s₀ : Chars) → Shifted s s' s₀ x
  unfolding values joined_chars
  shift {s} done s₀ = record { out = s₀; reads = done; added = []; first = sym (nothing-behind s.bytes); second = sym (nothing-behind s₀.bytes) }
  shift {s} (more {t = t} f r) s₀ =
      let d = shift r (joined_chars s₀ t) in
      record {
        out = d.out;
        reads = more f d.reads;
        added = t.bytes ++ d.added;
        first = d.first ∙ sym (behind-both s.bytes t.bytes d.added);
        second = d.second ∙ sym (behind-both s₀.bytes t.bytes d.added);
      }

  -- the texts of parts, with commas between them
  pub data AllText : List (List (Lex Cell)) → Bytes → Type 0 where
    last : {p : List (Lex Cell)} (u : Chars) → Reads values n (chars []) p u → AllText (p ∷ []) u.bytes
    next : {p p₂ : List (Lex Cell)} {ps : List (List (Lex Cell))} {b : Bytes} (u : Chars) → Reads values n (chars []) p u → AllText (p₂ ∷ ps) b
        → AllText (p ∷ (p₂ ∷ ps)) (u.bytes ++ (comma ∷ b))

  -- a field has one part at least
  next-by : {j : Inside} {p q : List (Lex Cell)} {ps : List (List (Lex Cell))} {b : Bytes} (u : Chars) → Reads values n (chars []) p u → View j q ps → AllText ps b
      → AllText (p ∷ ps) (u.bytes ++ (comma ∷ b))
  next-by u r whole all = next u r all
  next-by u r (cut p q e b) all = next u r all

  module _ {i : Inside} {x : List (Lex Cell)} {s : Chars} (k : ℕ) (r : Reads values n (chars []) x s) (few : length x ≤ suc k)
      (again : (j : Inside) (q : List (Lex Cell)) (u : Chars) → length q ≤ k → Reads values n (chars []) q u → AllText (parts j q) u.bytes)
    where
      by-view : (ps : List (List (Lex Cell))) → View i x ps → AllText ps s.bytes
      unfolding values chars joined_chars
      by-view ps whole = last s r
      by-view ps (cut p q e b) =
          let d = join values n r i p q e b in
          let z = shift d.behind (chars []) in
          let m : length x ≡ length p + suc (length q) = ap length e ∙ length-append p (tail q) in
          let short : length q ≤ k = omega (arith, m, few) in
          let same : d.middle.bytes ++ (comma ∷ z.out.bytes) ≡ s.bytes =
          ap (λ l. d.middle.bytes ++ (comma ∷ l)) z.second ∙ behind-both d.middle.bytes (comma ∷ []) z.added ∙ sym z.first in
          subst (AllText (p ∷ parts (state_after i p) q)) same (next-by d.middle d.front (view (state_after i p) q) (again (state_after i p) q z.out short z.reads))

  all-text : (k : ℕ) (i : Inside) (x : List (Lex Cell)) {s : Chars} → length x ≤ k → Reads values n (chars []) x s → AllText (parts i x) s.bytes
  unfolding parts
  all-text zero i [] {s} l r = last s r
  all-text zero i (a ∷ x) l r = absurd (omega arith)
  all-text (suc k) i x {s} l r = by-view k r l (λ j q u h. all-text k j q {s = u} h) (parts i x) (view i x)

-- THE LAW, for a field that is replaced as a whole
unfoldable pub taken : List (List (Lex Cell)) → ℕ
taken [] = 0
taken (p ∷ []) = length (operand_value p)
taken (p ∷ (p₂ ∷ ps)) = length (operand_value p) + suc (taken (p₂ ∷ ps))

value-is : (p : List (Lex Cell)) (u : Chars) → Reads values nest_limit (chars []) p u → operand_value p ≡ u.bytes
unfolding operand_value replaced values chars
value-is p u r = ap (λ (g : Got Chars Cell). elim g [ got s y ↦ s.bytes | refused e left ↦ [] ]) (reads-text values nest_limit p r)

sizes : {ps : List (List (Lex Cell))} {b : Bytes} → AllText nest_limit ps b → taken ps ≡ length b
unfolding taken
sizes (last {p} u r) = ap length (value-is p u r)
sizes (next {p} {p₂} {ps} {b} u r all) = (λ j. length (value-is p u r j) + suc (sizes all j)) ∙ sym (length-append u.bytes (comma ∷ b))

pub parts-within : (x : List (Lex Cell)) (s : Chars) → replaced x ≡ got s [] → taken (parts outside x) ≡ length s.bytes
unfolding replaced values chars
parts-within x s e = sizes (all-text nest_limit (length x) outside x (le_refl (length x)) (text-reads values nest_limit x e))
