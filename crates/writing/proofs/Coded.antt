-- The deck's coders of texts, kinds and flags, as the bytes that are written. Assumes nothing.
use Prim.Native.Nat.{ℕ, suc, ◌+◌, ◌-◌}
use native.Mathlib.Omega.{arith}
use mathlib.Core.Path.{◌≡◌, refl, ap, sym, ◌∙◌}
use mathlib.Core.Bool.{Bool, true, false}
use mathlib.Core.List.{List, [], ◌∷◌, ◌++◌, map}
use lib.ListN.{length, set, length-append, length-map}
use Rattle.text.specs.Bytes.{Bytes}
use mir.Val.{bool_byte}
use Rattle.rules.specs.Choice.{choose}
use Rattle.rules.specs.Lexemes.{Lex}
use Rattle.rules.specs.Statement.{Set, set_a, set_b, set_c}
use Rattle.rules.specs.Grammar.{symbol}
use Rattle.deck.specs.Coding.{byte, two, via, put_all, list_of}
use Rattle.deck.specs.Coders.{lex_code, lexeme, field, string, set_code, kind, flag_code, flag}
use Rattle.deck.specs.Slots.{Slot}
use Rattle.grammar.specs.Kinds.{number_of}
use Rattle.lent.specs.Splice.{splice}
use Rattle.lent.proofs.Writes.{splice-cons}
use Rattle.writing.specs.Bytes.{counted, lessened, title_bytes}
use Rattle.writing.proofs.Writes.{both-written, lessened-length}

all-bytes : (s : Bytes) → put_all byte s ≡ s
unfolding put_all byte
all-bytes [] = refl
all-bytes (b ∷ s) = ap (b ∷◌) (all-bytes s)

all_codes : (x : List (Lex Slot)) → put_all lexeme x ≡ map lex_code x
unfolding put_all lexeme via byte
all_codes [] = refl
all_codes (a ∷ x) = ap (lex_code a ∷◌) (all_codes x)

pub string-counted : (s : Bytes) → string.put s ≡ counted s
unfolding string list_of counted
string-counted s = ap (two.put (length s) ++◌) (all-bytes s)

pub field-counted : (x : List (Lex Slot)) → field.put x ≡ counted (map lex_code x)
unfolding field list_of counted
field-counted x = λ i. two.put (sym (length-map x lex_code) i) ++ all_codes x i

-- ---- the kinds of SET symbols

abbrev numbers : List Set → Bytes
numbers ks = map (λ k. number_of (symbol k)) ks

less-code : (k : Set) → number_of (symbol k) - 1 ≡ set_code k
unfolding number_of set_code
less-code set_a = refl
less-code set_b = refl
less-code set_c = refl

all_kinds : (ks : List Set) → lessened (numbers ks) ≡ put_all kind ks
unfolding lessened put_all kind via byte
all_kinds [] = refl
all_kinds (k ∷ ks) = λ i. less-code k i ∷ all_kinds ks i

module _ (s : Bytes) (ks : List Set) (is : s ≡ numbers ks) where
  counts : length s ≡ length ks
  counts = ap length is ∙ length-map ks (λ k. number_of (symbol k))

  pub kinds-bytes : two.put (length s) ++ lessened s ≡ (list_of kind).put ks
  unfolding list_of
  kinds-bytes = λ i. two.put (counts i) ++ (ap lessened is ∙ all_kinds ks) i

  pub kinds-end : (at : ℕ) → at + 2 + length s ≡ at + length ((list_of kind).put ks)
  unfolding two
  kinds-end at = let e : suc (suc (length (lessened s))) ≡ length ((list_of kind).put ks) = ap length kinds-bytes in omega (arith, lessened-length s, e)

-- ---- a flag

pub flag-byte : (b : Bool) → bool_byte b ≡ flag_code b
unfolding flag_code choose
flag-byte true = refl
flag-byte false = refl

-- ---- a macro's title

module _ (title : Bytes) (named : Bool) (positionals : ℕ) where
  pub title-bytes : counted title ++ (flag_code named ∷ two.put positionals) ≡ title_bytes title named positionals
  unfolding flag via byte
  title-bytes = ap (◌++ (flag_code named ∷ two.put positionals)) (sym (string-counted title))

  pub title-length : length (title_bytes title named positionals) ≡ length (counted title) + 3
  unfolding two
  title-length =
      let e : length (flag_code named ∷ two.put positionals) ≡ 3 = refl in
      omega (arith, ap length title-bytes, length-append (counted title) (flag_code named ∷ two.put positionals), e)

  pub title-written : (out new new₂ : Bytes) (at end b : ℕ) → new ≡ splice out at (counted title) → end ≡ at + length (counted title) → b ≡ flag_code named
      → new₂ ≡ splice (set new end b) (end + 1) (two.put positionals) → new₂ ≡ splice out at (title_bytes title named positionals)
  title-written out new new₂ at end b e f g h =
      both-written out at (counted title) (flag_code named ∷ two.put positionals) end f new new₂ e
      (h ∙ (splice-cons new end b (two.put positionals) ∙ ap (λ (m : ℕ). splice new end (m ∷ two.put positionals)) g))
      ∙ ap (splice out at) title-bytes
