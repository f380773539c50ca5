-- The lexeme of a byte, by its range; what the reader asks of it. Assumes nothing.
use Prim.Native.Nat.{ℕ, ◌-◌, ◌≤◌, ◌<◌}
use mathlib.Core.Path.{◌≡◌, refl, sym, ap, ◌∙◌}
use mathlib.Core.Bool.{Bool, true, ◌&&◌, ◌||◌, not}
use mathlib.Core.List.{List, [], ◌∷◌}
use native.Mathlib.Omega.{arith}
use lib.Dec.{eqb, ltb}
use borrow.Author.Tests.{ltb-true, ltb-false, lt-ltb, le-ltb, eqb-true, eqb-false}
use Rattle.text.specs.Bytes.{bytes, member}
use Rattle.text.specs.Characters.{letter, letter_or_digit}
use Rattle.rules.specs.Choice.{choose}
use Rattle.rules.specs.Lexemes.{Lex, byte, mark, ref, lone, byte_of, follows, is_mark}
use Rattle.rules.proofs.Choices.{by}
use Rattle.deck.specs.Slots.{Slot, own, shared, list, index, section}
use Rattle.deck.specs.Coders.{lex_of}
use Rattle.deck.specs.AsRead.{last_byte, follows_in, marks_here, is_read_at}
use Rattle.deck_reading.specs.Reading.{or_lone, slot_lex}
use Rattle.good_reading.specs.declared.Trail.{Trail as State}
use Rattle.good_reading.specs.Trails.{before_of}

-- a byte's lexeme: text, a mark, a variable symbol or none
pub data Stands (c : ℕ) : Lex Slot → Type 0 where
  text : c < 127 → Stands c (byte c)
  marks : c ≡ 127 → Stands c mark
  refers : (s : Slot) → 127 < c → c < 227 → Stands c (ref s)
  strays : 227 ≤ c → Stands c lone

past : (c : ℕ) → 224 ≤ c → (c ≡ 224 → ⊥) → (c ≡ 225 → ⊥) → (c ≡ 226 → ⊥) → 227 ≤ c
past c n o p q = omega (arith, o, p, q)

pub stands : (c : ℕ) → Stands c (slot_lex c)
unfolding slot_lex lex_of or_lone choose
stands c = by (ltb c 127) (λ h. rw h (text (ltb-true c 127 h)))
    λ h. by (eqb c 127) (λ e. rw (h, e) (marks (eqb-true c 127 e)))
    λ e. let a = ltb-false c 127 h in let b = eqb-false c 127 e in let m : 127 < c = omega (arith, b) in
    by (ltb c 192) (λ l. let k = ltb-true c 192 l in rw (h, e, l) (refers (own (c - 128)) m (omega arith)))
    λ l. by (ltb c 224) (λ f. let k = ltb-true c 224 f in rw (h, e, l, f) (refers (shared (c - 192)) m (omega arith)))
    λ f. by (eqb c 224) (λ x. let k = eqb-true c 224 x in rw (h, e, l, f, x) (refers list m (omega arith)))
    λ x. by (eqb c 225) (λ y. let k = eqb-true c 225 y in rw (h, e, l, f, x, y) (refers index m (omega arith)))
    λ y. by (eqb c 226) (λ z. let k = eqb-true c 226 z in rw (h, e, l, f, x, y, z) (refers section m (omega arith)))
    λ z. rw (h, e, l, f, x, y, z) (strays (past c (ltb-false c 224 f) (eqb-false c 224 x) (eqb-false c 225 y) (eqb-false c 226 z)))

pub is-text : (c : ℕ) → c < 127 → slot_lex c ≡ byte c
is-text c h = go (stands c)
  where
    go : {x : Lex Slot} → Stands c x → x ≡ byte c
    go (text k) = refl
    go (marks e) = absurd (omega arith)
    go (refers s l m) = absurd (omega arith)
    go (strays k) = absurd (omega arith)

pub is-mark : (c : ℕ) → c ≡ 127 → slot_lex c ≡ mark
is-mark c h = go (stands c)
  where
    go : {x : Lex Slot} → Stands c x → x ≡ mark
    go (text k) = absurd (omega arith)
    go (marks e) = refl
    go (refers s l m) = absurd (omega arith)
    go (strays k) = absurd (omega arith)

pub is-lone : (c : ℕ) → 227 ≤ c → slot_lex c ≡ lone
is-lone c h = go (stands c)
  where
    go : {x : Lex Slot} → Stands c x → x ≡ lone
    go (text k) = absurd (omega arith)
    go (marks e) = absurd (omega arith)
    go (refers s l m) = absurd (omega arith)
    go (strays k) = refl

-- ---- what one byte tells

module _ (c : ℕ) where
  pub text-small : c < 127 → c ≡ byte_of (slot_lex c)
  unfolding byte_of
  text-small h = sym (ap byte_of (is-text c h))

  pub text-none : 127 ≤ c → 0 ≡ byte_of (slot_lex c)
  unfolding byte_of
  text-none h = go (stands c)
    where
      go : {x : Lex Slot} → Stands c x → 0 ≡ byte_of x
      go (text k) = absurd (omega arith)
      go (marks e) = refl
      go (refers s l m) = refl
      go (strays k) = refl

  pub last-text : c < 127 → c ≡ last_byte (slot_lex c)
  unfolding last_byte
  last-text h = sym (ap last_byte (is-text c h))

  pub last-mark : c ≡ 127 → 39 ≡ last_byte (slot_lex c)
  unfolding last_byte
  last-mark h = sym (ap last_byte (is-mark c h))

  pub last-ref : 127 < c → c < 227 → 0 ≡ last_byte (slot_lex c)
  unfolding last_byte
  last-ref h u = go (stands c)
    where
      go : {x : Lex Slot} → Stands c x → 0 ≡ last_byte x
      go (text k) = absurd (omega arith)
      go (marks e) = absurd (omega arith)
      go (refers s l m) = refl
      go (strays k) = absurd (omega arith)

  pub last-lone : 227 ≤ c → 38 ≡ last_byte (slot_lex c)
  unfolding last_byte
  last-lone h = sym (ap last_byte (is-lone c h))

  pub front-text : c < 127 → follows (c ∷ []) ≡ follows_in (slot_lex c ∷ [])
  unfolding follows follows_in
  front-text h = sym (ap (λ x. follows_in (x ∷ [])) (is-text c h))

  pub front-mark : c ≡ 127 → follows (39 ∷ []) ≡ follows_in (slot_lex c ∷ [])
  unfolding follows follows_in letter
  front-mark h = sym (ap (λ x. follows_in (x ∷ [])) (is-mark c h))

  pub front-other : 127 < c → follows (38 ∷ []) ≡ follows_in (slot_lex c ∷ [])
  unfolding follows follows_in letter
  front-other h = go (stands c)
    where
      go : {x : Lex Slot} → Stands c x → true ≡ follows_in (x ∷ [])
      go (text k) = absurd (omega arith)
      go (marks e) = absurd (omega arith)
      go (refers s l m) = refl
      go (strays k) = refl

-- ---- what the reader asks of a lexeme

module _ (t : State) where
  pub marks-by : (next front : ℕ) → follows (front ∷ []) ≡ follows_in (slot_lex next ∷ []) → is_mark (before_of t) 39 (front ∷ []) ≡ marks_here (before_of t) (slot_lex next ∷ [])
  unfolding is_mark marks_here
  marks-by next front e = ap (λ (f : Bool). not (before_of t).quoted && (f && (member (before_of t).first (bytes "KNTL") && not (letter_or_digit (before_of t).second || eqb (before_of t).second 38)))) e

  module _ (c : ℕ) (rest : List (Lex Slot)) (m : Bool) (e : m ≡ marks_here (before_of t) rest) where
    pub reads-text : c < 127 → (l : Bool) → l ≡ letter_or_digit c → (not (eqb t.before.first 0 && l) && not (eqb c 39 && m)) ≡ is_read_at (before_of t) (slot_lex c) rest
    unfolding is_read_at before_of
    reads-text h l d = (λ i. not (eqb t.before.first 0 && d i) && not (eqb c 39 && e i)) ∙ sym (ap (λ x. is_read_at (before_of t) x rest) (is-text c h))

    pub reads-mark : c ≡ 127 → m ≡ is_read_at (before_of t) (slot_lex c) rest
    unfolding is_read_at
    reads-mark h = e ∙ sym (ap (λ x. is_read_at (before_of t) x rest) (is-mark c h))

  pub reads_other : (c : ℕ) (rest : List (Lex Slot)) → 127 < c → ltb c 227 ≡ is_read_at (before_of t) (slot_lex c) rest
  unfolding is_read_at
  reads_other c rest h = go (stands c)
    where
      go : {x : Lex Slot} → Stands c x → ltb c 227 ≡ is_read_at (before_of t) x rest
      go (text k) = absurd (omega arith)
      go (marks e) = absurd (omega arith)
      go (refers s l m) = lt-ltb c 227 m
      go (strays k) = le-ltb c 227 k
