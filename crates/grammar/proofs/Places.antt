-- What a place of a field shows: the only file that opens the coding. Assumes nothing.
use Prim.Native.Nat.{ℕ, zero, suc, ◌+◌, ◌-◌, ◌≤◌, ◌<◌}
use native.Mathlib.Omega.{arith}
use native.Mathlib.Numerals.{add-one}
use mathlib.Core.Path.{◌≡◌, refl, ap, sym, ◌∙◌, subst}
use mathlib.Core.Bool.{Bool, true, false, not, true≢false}
use mathlib.Core.List.{List, [], ◌∷◌, map}
use Rattle.std.specs.Prelude.{Option, Some, None}
use lib.Dec.{eqb, leb, ltb}
use lib.ListN.{length, drop, get_or, get_or-eq_default, drop_of_length-le}
use lib.Seq.{drop-cons, drop-drop}
use borrow.Author.Tests.{leb-true, leb-false, ltb-true, ltb-false, lt-ltb, le-ltb, eqb-true, eqb-false, ne_eqb}
use Rattle.text.specs.Bytes.{Bytes}
use Rattle.rules.specs.Choice.{choose}
use Rattle.rules.specs.Lexemes.{Lex, byte, mark, ref, lone, byte_of}
use Rattle.rules.specs.Fields.{is_empty}
use Rattle.rules.specs.Grammar.{Kind, plain, starts_mark, rest, is_attribute}
use Rattle.rules.proofs.Choices.{by, either, and_right}
use Rattle.grammar.specs.Tokens.{kind_of, lex_of, toks_at}
use Rattle.kinds.specs.declared.Kind.{Kind as Kept}
use Rattle.kinds.specs.declared.Kind.TheVariants.{Unknown}
use Rattle.kinds.specs.Kinds.{kind_for}
use Rattle.kinds.specs.Kinds.{kind_of as meant}
use Rattle.kinds.proofs.Back.{kind-back}
use Rattle.grammar.specs.Kinds.{kind_shown, kind_first}

abbrev is_some : Option Kept → Bool
is_some (Some k) = true
is_some None = false

pub Some≢None : {k : Kept} → Some k ≡ None → ⊥
Some≢None e = true≢false (ap is_some e)

module _ (kinds code : Bytes) where
  pub toks-drop : (at n : ℕ) → drop n (toks_at kinds code at) ≡ toks_at kinds code (at + n)
  unfolding toks_at
  toks-drop at n = drop-map n (drop at code) ∙ ap (map (lex_of kinds)) (drop-drop n at code)
    where
      drop-map : (n : ℕ) (l : Bytes) → drop n (map (lex_of kinds) l) ≡ map (lex_of kinds) (drop n l)
      drop-map zero l = refl
      drop-map (suc n) [] = refl
      drop-map (suc n) (b ∷ l) = drop-map n l

  pub toks-rest : (at : ℕ) → rest (toks_at kinds code at) ≡ toks_at kinds code (at + 1)
  unfolding rest
  toks-rest at = toks-drop at 1

  pub toks-end : (at : ℕ) → length code ≤ at → toks_at kinds code at ≡ []
  unfolding toks_at
  toks-end at h = rw (drop_of_length-le code h)

  pub toks-step : (at : ℕ) → at < length code → toks_at kinds code at ≡ lex_of kinds (get_or code at 0) ∷ toks_at kinds code (at + 1)
  unfolding toks_at
  toks-step at h = rw (add-one at, drop-cons code at 0 h)

  pub more-is : (at : ℕ) → ltb at (length code) ≡ not (is_empty (toks_at kinds code at))
  unfolding is_empty
  more-is at = by (ltb at (length code)) (λ h. h ∙ sym (ap (λ x. not (is_empty x)) (toks-step at (ltb-true _ _ h)))) (λ h. h ∙ sym (ap (λ x. not (is_empty x)) (toks-end at (ltb-false _ _ h))))

  pub empty-is : (at : ℕ) → leb (length code) at ≡ is_empty (toks_at kinds code at)
  unfolding is_empty
  empty-is at = by (leb (length code) at) (λ h. h ∙ sym (ap is_empty (toks-end at (leb-true _ _ h)))) (λ h. h ∙ sym (ap is_empty (toks-step at (leb-false _ _ h))))

  -- a place with something at it
  pub within : (at : ℕ) {y : Lex Kind} {x : List (Lex Kind)} → toks_at kinds code at ≡ y ∷ x → at < length code
  unfolding is_empty
  within at {y} {x} e = by (ltb at (length code)) (ltb-true _ _) (λ f. absurd (true≢false (ap is_empty (sym (toks-end at (ltb-false _ _ f)) ∙ e))))

  pub goes-past : (at : ℕ) {y : Lex Kind} {x : List (Lex Kind)} → toks_at kinds code at ≡ y ∷ x → toks_at kinds code at ≡ y ∷ toks_at kinds code (at + 1)
  goes-past at {y} {x} e = e ∙ ap (λ z. y ∷ z) (sym (ap (drop 1) e) ∙ toks-drop at 1)

  -- what is seen of the first lexeme: behind the end, what the byte 0 shows
  seen : {A : Type 0} (f : List (Lex Kind) → A) (g : Lex Kind → A) → f [] ≡ g (byte 0) → ((y : Lex Kind) (x : List (Lex Kind)) → f (y ∷ x) ≡ g y) → (at : ℕ)
      → f (toks_at kinds code at) ≡ g (lex_of kinds (get_or code at 0))
  unfolding lex_of choose
  seen f g none some at = by (ltb at (length code))
      (λ h. ap f (toks-step at (ltb-true _ _ h)) ∙ some _ _)
      (λ h. ap f (toks-end at (ltb-false _ _ h)) ∙ none ∙ sym (ap (λ b. g (lex_of kinds b)) (get_or-eq_default code 0 (ltb-false _ _ h))))

  plain-seen : (at : ℕ) → plain (toks_at kinds code at) ≡ byte_of (lex_of kinds (get_or code at 0))
  unfolding plain byte_of
  plain-seen at = seen plain byte_of refl (λ y x. refl) at

  abbrev is_mark_lex : Lex Kind → Bool
  is_mark_lex (byte c) = false
  is_mark_lex mark = true
  is_mark_lex (ref r) = false
  is_mark_lex lone = false

  mark-seen : (at : ℕ) → starts_mark (toks_at kinds code at) ≡ is_mark_lex (lex_of kinds (get_or code at 0))
  unfolding starts_mark
  mark-seen at = seen starts_mark is_mark_lex refl (λ y x. first y x) at
    where
      first : (y : Lex Kind) (x : List (Lex Kind)) → starts_mark (y ∷ x) ≡ is_mark_lex y
      first (byte c) x = refl
      first mark x = refl
      first (ref r) x = refl
      first lone x = refl

  pub kind-seen : (at : ℕ) → kind_first (toks_at kinds code at) ≡ kind_shown (lex_of kinds (get_or code at 0))
  unfolding kind_first kind_shown
  kind-seen at = seen kind_first kind_shown refl (λ y x. refl) at

  -- the coding, by the byte
  lex-text : (b : ℕ) → b < 127 → lex_of kinds b ≡ byte b
  unfolding lex_of choose
  lex-text b h = rw (lt-ltb b 127 h)

  lex-slot : (b : ℕ) → 128 ≤ b → b < 224 → lex_of kinds b ≡ ref (kind_of (get_or kinds (b - 128) 4))
  unfolding lex_of choose
  lex-slot b h k = let other : b ≡ 127 → ⊥ = λ e. omega arith in let over : 127 ≤ b = omega arith in rw (le-ltb b 127 over, ne_eqb b 127 other, lt-ltb b 224 k)

  pub plain-text : (at : ℕ) → get_or code at 0 < 127 → get_or code at 0 ≡ plain (toks_at kinds code at)
  unfolding byte_of
  plain-text at h = sym (plain-seen at ∙ ap byte_of (lex-text _ h))

  pub plain-none : (at : ℕ) → 127 ≤ get_or code at 0 → 0 ≡ plain (toks_at kinds code at)
  unfolding lex_of byte_of choose
  plain-none at h = sym (plain-seen at ∙ other (get_or code at 0) h)
    where
      P : Lex Kind → Type 0
      P y = byte_of y ≡ 0

      other : (b : ℕ) → 127 ≤ b → byte_of (lex_of kinds b) ≡ 0
      other b h = rw (le-ltb b 127 h) (either P (eqb b 127) (λ e. refl) λ e. either P (ltb b 224) (λ e. refl) λ e. either P (eqb b 224) (λ e. refl) λ e. either P (eqb b 225) (λ e. refl) λ e. either P (eqb b 226) (λ e. refl) λ e. refl)

  pub mark-is : (at : ℕ) → eqb (get_or code at 0) 127 ≡ starts_mark (toks_at kinds code at)
  unfolding lex_of choose
  mark-is at = sym (mark-seen at ∙ is (get_or code at 0))
    where
      P : ℕ → Lex Kind → Type 0
      P b y = is_mark_lex y ≡ eqb b 127

      is : (b : ℕ) → is_mark_lex (lex_of kinds b) ≡ eqb b 127
      is b = either (P b) (ltb b 127) (λ e. let less = ltb-true b 127 e in sym (ne_eqb b 127 (λ e. omega arith)))
          λ e. either (P b) (eqb b 127) sym λ f. either (P b) (ltb b 224) (λ e. sym f) λ e. either (P b) (eqb b 224) (λ e. sym f) λ e. either (P b) (eqb b 225) (λ e. sym f) λ e. either (P b) (eqb b 226) (λ e. sym f) λ e. sym f

  -- what stands at a place, by its byte: a text byte or a mark, a variable symbol, an ampersand left over
  module _ (P : List (Lex Kind) → Type 0) (at : ℕ) (inside : at < length code) where
    abbrev Q : Lex Kind → Type 0
    Q l = P (l ∷ toks_at kinds code (at + 1))

    pub text-lex : get_or code at 0 < 128 → ((c : ℕ) → Q (byte c)) → Q mark → P (toks_at kinds code at)
    unfolding lex_of
    text-lex h p q = subst P (sym (toks-step at inside)) (either Q (ltb (get_or code at 0) 127) (λ e. p _)
        λ e. either Q (eqb (get_or code at 0) 127) (λ f. q) λ f. let over = ltb-false (get_or code at 0) 127 e in let other = eqb-false (get_or code at 0) 127 f in absurd (omega arith))

    ref-lex : 128 ≤ get_or code at 0 → get_or code at 0 ≤ 226 → ((k : Kind) → Q (ref k)) → P (toks_at kinds code at)
    unfolding lex_of
    ref-lex h k p = subst P (sym (toks-step at inside)) (either Q (ltb (get_or code at 0) 127) (λ e. let less = ltb-true (get_or code at 0) 127 e in absurd (omega arith))
        λ e. either Q (eqb (get_or code at 0) 127) (λ f. let same = eqb-true (get_or code at 0) 127 f in absurd (omega arith))
        λ f. either Q (ltb (get_or code at 0) 224) (λ g. p _) λ g. either Q (eqb (get_or code at 0) 224) (λ i. p _) λ i. either Q (eqb (get_or code at 0) 225) (λ j. p _)
        λ j. either Q (eqb (get_or code at 0) 226) (λ l. p _)
        λ l. let a = ltb-false (get_or code at 0) 224 g in let b = eqb-false (get_or code at 0) 224 i in let d = eqb-false (get_or code at 0) 225 j in let m = eqb-false (get_or code at 0) 226 l in absurd (omega arith))

    lone-lex : 226 < get_or code at 0 → Q lone → P (toks_at kinds code at)
    unfolding lex_of
    lone-lex h p = subst P (sym (toks-step at inside)) (either Q (ltb (get_or code at 0) 127) (λ e. let less = ltb-true (get_or code at 0) 127 e in absurd (omega arith))
        λ e. either Q (eqb (get_or code at 0) 127) (λ f. let same = eqb-true (get_or code at 0) 127 f in absurd (omega arith))
        λ f. either Q (ltb (get_or code at 0) 224) (λ g. let less = ltb-true (get_or code at 0) 224 g in absurd (omega arith)) λ g. either Q (eqb (get_or code at 0) 224) (λ i. let same = eqb-true (get_or code at 0) 224 i in absurd (omega arith))
        λ i. either Q (eqb (get_or code at 0) 225) (λ j. let same = eqb-true (get_or code at 0) 225 j in absurd (omega arith)) λ j. either Q (eqb (get_or code at 0) 226) (λ l. let same = eqb-true (get_or code at 0) 226 l in absurd (omega arith)) λ l. p)

    pub other-lex : 128 ≤ get_or code at 0 → ((k : Kind) → Q (ref k)) → Q lone → P (toks_at kinds code at)
    other-lex h p q = by (leb (get_or code at 0) 226) (λ e. ref-lex h (leb-true (get_or code at 0) 226 e) p) (λ e. lone-lex (leb-false (get_or code at 0) 226 e) q)

  -- a byte of text that is not 0
  module _ (at c : ℕ) (read : c ≡ plain (toks_at kinds code at)) (some : 0 < c) where
    pub text-step : toks_at kinds code at ≡ byte c ∷ toks_at kinds code (at + 1)
    unfolding plain byte_of
    text-step = go (toks_at kinds code at) refl
      where
        go : (x : List (Lex Kind)) → toks_at kinds code at ≡ x → toks_at kinds code at ≡ byte c ∷ toks_at kinds code (at + 1)
        go [] e = let z : c ≡ 0 = read ∙ ap plain e in absurd (omega arith)
        go (byte d ∷ x) e = goes-past at e ∙ ap (λ b. byte b ∷ toks_at kinds code (at + 1)) (sym (read ∙ ap plain e))
        go (mark ∷ x) e = let z : c ≡ 0 = read ∙ ap plain e in absurd (omega arith)
        go (ref r ∷ x) e = let z : c ≡ 0 = read ∙ ap plain e in absurd (omega arith)
        go (lone ∷ x) e = let z : c ≡ 0 = read ∙ ap plain e in absurd (omega arith)

    pub text-inside : at < length code
    text-inside = within at text-step

  pub attribute-inside : (at c : ℕ) → is_attribute c (toks_at kinds code at) ≡ true → at + 1 < length code
  unfolding is_attribute starts_mark
  attribute-inside at c h = go (toks_at kinds code (at + 1)) refl (ap starts_mark (sym (toks-rest at)) ∙ and_right (eqb (plain (toks_at kinds code at)) c) (starts_mark (rest (toks_at kinds code at))) h)
    where
      go : (x : List (Lex Kind)) → toks_at kinds code (at + 1) ≡ x → starts_mark (toks_at kinds code (at + 1)) ≡ true → at + 1 < length code
      go [] e h = absurd (true≢false (sym h ∙ ap starts_mark e))
      go (y ∷ x) e h = within (at + 1) e

  -- a variable symbol
  pub record RefAt (at : ℕ) (k : Kept) : Type 0 where
    pub step : toks_at kinds code at ≡ ref (meant k) ∷ toks_at kinds code (at + 1)
    pub inside : at < length code

  abbrev kind_in : Option Kept → Kept
  kind_in (Some k) = k
  kind_in None = Unknown

  pub ref-step : (at : ℕ) {k : Kept} {shown : Option Kept} → shown ≡ kind_first (toks_at kinds code at) → shown ≡ Some k → RefAt at k
  unfolding kind_first kind_shown
  ref-step at {k} {shown} read is = go (toks_at kinds code at) refl
    where
      none : {x : List (Lex Kind)} → toks_at kinds code at ≡ x → kind_first x ≡ None → RefAt at k
      none e f = absurd (Some≢None (sym is ∙ read ∙ ap kind_first e ∙ f))

      go : (x : List (Lex Kind)) → toks_at kinds code at ≡ x → RefAt at k
      go [] e = none e refl
      go (byte d ∷ x) e = none e refl
      go (mark ∷ x) e = none e refl
      go (ref j ∷ x) e =
          let same : k ≡ kind_for j = ap kind_in (sym is ∙ read ∙ ap kind_first e) in
          record { step = goes-past at e ∙ ap (λ i. ref i ∷ toks_at kinds code (at + 1)) (sym (ap meant same ∙ kind-back j)); inside = within at e }
      go (lone ∷ x) e = none e refl
