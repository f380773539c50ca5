-- The pieces of a field at a place: one law for each return of `piece_at`. Assumes nothing.
use Prim.Native.Nat.{ℕ, suc, ◌+◌, ◌-◌, ◌≤◌, ◌<◌}
use native.Mathlib.Nat.{add-zero}
use native.Mathlib.Numerals.{add-one}
use native.Mathlib.Omega.{arith}
use mathlib.Core.Path.{◌≡◌, refl, ap, sym, ◌∙◌}
use mathlib.Core.Bool.{Bool, true, false, true≢false, ◌&&◌, not}
use mathlib.Core.List.{[], ◌∷◌}
use lib.Dec.{eqb, ltb}
use lib.ListN.{length, get_or, take, drop, length-drop, get_or-eq_default}
use lib.Seq.{drop-cons, drop-drop, get_or-drop}
use borrow.Author.Tests.{eq-eqb, ne_eqb, ltb-true, ltb-false}
use Rattle.text.specs.Bytes.{Bytes}
use Rattle.text.specs.Characters.{letter, letter_or_digit}
use Rattle.rules.specs.Choice.{run}
use Rattle.rules.specs.Lexemes.{ampersand, apostrophe, Before, is_mark}
use Rattle.rules.proofs.Choices.{by}
use Rattle.deck.specs.Coders.{mark_code, no_code}
use Rattle.coding.specs.Coded.{codes_from, Leads}
use Rattle.chars.specs.Ends.{symbol_end}
use Rattle.coding.proofs.Marks.{mark-told}
use Rattle.coding.proofs.Lexed.{moved, carried-is, mark-first, quote-first, plain-first, pair-first, lone-first, symbol-first}

-- a byte that passes a test which 0 does not pass is in the field
inside-by : (t : ℕ → Bool) (s : Bytes) (i : ℕ) → t 0 ≡ false → t (get_or s i 0) ≡ true → i < length s
inside-by t s i z e =
    by (ltb i (length s)) (λ h. ltb-true i (length s) h)
    (λ h.
    let past : length s ≤ i = ltb-false i (length s) h in
    absurd (true≢false (sym e ∙ (ap t (get_or-eq_default s 0 past) ∙ z))))

module _ (f : Bytes → ℕ) (quotes : Bool) (field : Bytes) (at : ℕ) (b : Before) (h : at < length field) where
  abbrev c : ℕ
  c = get_or field at 0

  abbrev d : ℕ
  d = get_or field (at + 1) 0

  abbrev tail : Bytes
  tail = drop (at + 1) field

  first-is : drop at field ≡ c ∷ tail
  first-is = drop-cons field at 0 h ∙ ap (λ (k : ℕ). c ∷ drop k field) (sym (add-one at))

  next-is : get_or tail 0 0 ≡ d
  next-is = get_or-drop (at + 1) field 0 0 ∙ ap (λ (k : ℕ). get_or field k 0) (add-zero (at + 1))

  told : {v : Bool} → is_mark b c (d ∷ []) ≡ v → is_mark b c tail ≡ v
  told e = mark-told b c tail ∙ (ap (λ (k : ℕ). is_mark b c (k ∷ [])) next-is ∙ e)

  -- one byte of the field is one byte of its code
  one : (k : ℕ) (a : Before) → codes_from f quotes b (c ∷ tail) ≡ k ∷ codes_from f quotes a tail
      → Leads f quotes field at b (record { byte = k; count = 1; next = at + 1; behind = record { second = a.second; first = a.first; quoted = a.quoted } })
  one k a e = record { codes = ap (codes_from f quotes b) first-is ∙ e; ahead = omega arith; inside = omega arith; few = omega arith }

  module _ (other : c ≡ ampersand → ⊥) where
    other_test : eqb c ampersand ≡ false
    other_test = ne_eqb c ampersand other

    pub mark-piece : is_mark b c (d ∷ []) ≡ true
        → Leads f quotes field at b (record { byte = mark_code; count = 1; next = at + 1; behind = record { second = b.first; first = c; quoted = b.quoted } })
    mark-piece e = one mark_code (moved b c) (mark-first f quotes b c tail other_test (told e))

    module _ (e : is_mark b c (d ∷ []) ≡ false) where
      pub quote-piece : c ≡ apostrophe
          → Leads f quotes field at b (record { byte = c; count = 1; next = at + 1; behind = record { second = b.first; first = c; quoted = quotes && not b.quoted } })
      quote-piece q =
          one c (record { second = b.first; first = c; quoted = quotes && not b.quoted })
          (quote-first f quotes b c tail other_test (told e) (eq-eqb c apostrophe q))

      pub byte-piece : (c ≡ apostrophe → ⊥)
          → Leads f quotes field at b (record { byte = c; count = 1; next = at + 1; behind = record { second = b.first; first = c; quoted = b.quoted } })
      byte-piece q = one c (moved b c) (plain-first f quotes b c tail other_test (told e) (ne_eqb c apostrophe q))

  module _ (is : c ≡ ampersand) where
    pub lone-piece : (d ≡ ampersand → ⊥) → letter d ≡ false
        → Leads f quotes field at b (record { byte = no_code; count = 1; next = at + 1; behind = record { second = b.first; first = c; quoted = b.quoted } })
    lone-piece n l =
        one no_code (moved b c)
        ((λ i. codes_from f quotes b (is i ∷ tail))
        ∙ (lone-first f quotes b tail (ap (λ (k : ℕ). eqb k ampersand) next-is ∙ ne_eqb d ampersand n) (ap letter next-is ∙ l)
        ∙ (λ i. no_code ∷ codes_from f quotes (moved b (sym is i)) tail)))

    -- the two bytes at the place
    module _ (k : at + 1 < length field) where
      abbrev rest : Bytes
      rest = drop (at + 2) field

      second_is : tail ≡ d ∷ rest
      second_is = let e : suc (at + 1) ≡ at + 2 = omega arith in drop-cons field (at + 1) 0 k ∙ ap (λ (m : ℕ). d ∷ drop m field) e

      both-are : drop at field ≡ ampersand ∷ (d ∷ rest)
      both-are = first-is ∙ (λ i. is i ∷ second_is i)

    pub pair-piece : d ≡ ampersand → Leads f quotes field at b (record { byte = c; count = 2; next = at + 2; behind = record { second = c; first = c; quoted = b.quoted } })
    pair-piece e =
        let k : at + 1 < length field = inside-by (λ m. eqb m ampersand) field (at + 1) refl (eq-eqb d ampersand e) in
        record {
          codes = ap (codes_from f quotes b) (both-are k ∙ ap (λ (m : ℕ). ampersand ∷ (m ∷ rest k)) e)
              ∙ (pair-first f quotes b (rest k)
              ∙ (λ i. sym is i ∷ (sym is i ∷ codes_from f quotes (record { second = sym is i; first = sym is i; quoted = b.quoted }) (rest k))));
          ahead = omega arith;
          inside = omega arith;
          few = omega arith;
        }

    pub letter-inside : letter d ≡ true → at + 1 < length field
    unfolding letter
    letter-inside l = inside-by letter field (at + 1) refl l

    pub symbol-piece : letter d ≡ true → (end byte : ℕ) → end ≡ symbol_end field (at + 2) → end ≤ at + 2 + (length field - (at + 2))
        → byte ≡ f (take (end - (at + 1)) tail)
        → Leads f quotes field at b (record { byte = byte; count = 1; next = end; behind = record { second = get_or field (end - 2) 0; first = get_or field (end - 1) 0; quoted = b.quoted } })
    unfolding symbol_end
    symbol-piece l end byte e high eb =
        let k : at + 1 < length field = letter-inside l in
        let s = rest k in
        let r = run letter_or_digit s in
        let size : end - (at + 1) ≡ suc r = omega arith in
        let few : r ≤ length s = rw (length-drop (at + 2) field) (omega arith) in
        let name : take (end - (at + 1)) tail ≡ d ∷ take r s = (λ i. take (size i) (second_is k i)) in
        let left : drop r s ≡ drop end field = drop-drop r (at + 2) field ∙ ap (λ (m : ℕ). drop m field) (sym e) in
        let at2 : at + r ≡ end - 2 = omega arith in
        let at1 : at + 1 + r ≡ end - 1 = omega arith in
        let p : get_or (ampersand ∷ (d ∷ s)) r 0 ≡ get_or field (end - 2) 0 = ap (λ t. get_or t r 0) (sym (both-are k)) ∙ (get_or-drop at field r 0 ∙ ap (λ (m : ℕ). get_or field m 0) at2) in
        let q : get_or (d ∷ s) r 0 ≡ get_or field (end - 1) 0 = ap (λ t. get_or t r 0) (sym (second_is k)) ∙ (get_or-drop (at + 1) field r 0 ∙ ap (λ (m : ℕ). get_or field m 0) at1) in
        record {
          codes = ap (codes_from f quotes b) (both-are k)
              ∙ (symbol-first f quotes b d s l
              ∙ ((λ i. f (sym name i) ∷ codes_from f quotes (carried-is s (moved (moved b ampersand) d) r few i) (left i))
              ∙ (λ i. sym eb i ∷ codes_from f quotes (record { second = p i; first = q i; quoted = b.quoted }) (drop end field))));
          ahead = omega arith;
          inside = omega arith;
          few = omega arith;
        }
