-- Comparisons by what the code has: two numbers; two strings of which it keeps what counts. Assumes nothing.
use Prim.Native.Nat.{ℕ}
use mathlib.Core.Path.{◌≡◌, refl, ap, sym, ◌∙◌}
use mathlib.Core.Bool.{Bool, true, false, ◌||◌, true≢false}
use mathlib.Core.List.{List, [], ◌∷◌}
use mathlib.Core.Option.{Option, none, some}
use lib.Dec.{eqb, ltb}
use lib.ListN.{length, take, drop}
use lib.IntN.{ℤ}
use Rattle.text.specs.Bytes.{Bytes, bytes}
use Rattle.rules.specs.Choice.{choose}
use Rattle.rules.specs.Limits.{string_limit}
use Rattle.rules.specs.Lexemes.{Lex, period}
use Rattle.rules.specs.Fields.{is_empty}
use Rattle.rules.specs.Values.{Order, Relation, string_order, number_order, holds, number_in, type_of}
use Rattle.rules.specs.Grammar.{Got, got, refused, Reference, plain, rest, is_attribute, after_t, then, given, broken, chain, string, referred, reference, deeper, characters, string_within}
use Rattle.rules.specs.Evaluate.{Cell, Chars, Truth, values, chars, measured_chars, type_chars, text_of, and_then}
use Rattle.rules.proofs.Choices.{by, chosen, passed_over, either}
use Rattle.spans.specs.Spans.{part_of}
use Rattle.value_texts.specs.Held.{keeping, cut, held_in}
use Rattle.value_texts.specs.declared.Text.{Text}
use Rattle.value_comparisons.specs.Truths.{cut_truth, truth_in, cutting, bytes_held, strings_held}

-- ---- the code's comparisons

pub numbers-code : (r : Relation) (a b : ℤ) (h : Bool) (o : Order) {t : Truth} → t ≡ cutting.constant h → h ≡ holds r o → o ≡ number_order a b → t ≡ cutting.numbers r a b
unfolding cutting values
numbers-code r a b h o e f g = e ∙ ap cutting.constant (f ∙ ap (holds r) g)

pub bytes-none : (out : Bytes) (t : Text) → (t.over || ltb string_limit t.size) ≡ true → [] ≡ bytes_held (held_in out t)
unfolding bytes_held held_in keeping
bytes-none out t h = sym (chosen [] (take t.size out) h)

pub bytes-all : (out : Bytes) (t : Text) → (t.over || ltb string_limit t.size) ≡ false → part_of out 0 t.size ≡ bytes_held (held_in out t)
unfolding part_of bytes_held held_in keeping
bytes-all out t h = sym (passed_over [] (take t.size out) h)

pub strings-code : (r : Relation) (left right p q : Bytes) (s t : Text) (h : Bool) (o : Order) → p ≡ bytes_held (held_in left s) → q ≡ bytes_held (held_in right t)
    → o ≡ string_order p q → h ≡ holds r o → truth_in (record { holds = h; over = s.over || t.over }) ≡ strings_held r (held_in left s) (held_in right t)
unfolding truth_in strings_held held_in
strings-code r left right p q s t h o e f g k =
    ap (λ b. cut_truth (record { holds = b; over = s.over || t.over })) (k ∙ ap (holds r) (g ∙ (λ j. string_order (e j) (f j))))

-- ---- strings of the rules, by what is kept of them

-- where a string was over, nothing else counts
all-over : (h k o : Bool) → o ≡ true → cut_truth (record { holds = h; over = o }) ≡ cut_truth (record { holds = k; over = o })
unfolding cut_truth
all-over h k true e = refl
all-over h k false e = absurd (true≢false (sym e))

or_left : (a b : Bool) → (a || b) ≡ false → a ≡ false
or_left true b h = h
or_left false b h = refl

or_right : (a b : Bool) → (a || b) ≡ false → b ≡ false
or_right true b h = absurd (true≢false h)
or_right false b h = h

-- a measured string that was not over has its bytes
known : (c : Chars) → measured_chars c ≡ c → c.over ≡ false → bytes_held (cut c) ≡ c.bytes
unfolding bytes_held cut keeping measured_chars
known c m h = passed_over [] c.bytes (ap (λ (d : Chars). d.over) m ∙ h)

pub strings-held : (r : Relation) (s t : Chars) → measured_chars s ≡ s → measured_chars t ≡ t → strings_held r (cut s) (cut t) ≡ cutting.strings r s t
unfolding strings_held cutting values cut
strings-held r s t m n = by (s.over || t.over)
    (λ e. all-over (holds r (string_order (bytes_held (cut s)) (bytes_held (cut t)))) (holds r (string_order s.bytes t.bytes)) (s.over || t.over) e)
    (λ e. λ j. cut_truth (record {
      holds = holds r (string_order (known s m (or_left s.over t.over e) j) (known t n (or_right s.over t.over e) j));
      over = s.over || t.over;
    }))

-- ---- every SETC expression of the rules is measured

pub data Measured : Got Chars Cell → Type 0 where
  measured : {s : Chars} {x : List (Lex Cell)} → measured_chars s ≡ s → Measured (got s x)
  no-string : {e left : ℕ} → Measured (refused e left)

twice : (s : Chars) → measured_chars (measured_chars s) ≡ measured_chars s
unfolding measured_chars
twice s = at s.over (ltb string_limit (length s.bytes))
  where
    at : (a b : Bool) → ◌≡◌ {A = Chars} (record { bytes = s.bytes; over = (a || b) || b }) (record { bytes = s.bytes; over = a || b })
    at true b = refl
    at false true = refl
    at false false = refl

one-letter : (s : Bytes) → measured_chars (chars (type_of s)) ≡ chars (type_of s)
unfolding measured_chars chars type_of
one-letter [] = refl
one-letter (c ∷ s) = at (number_in (c ∷ s))
  where
    at : (o : Option ℤ) → measured_chars (chars (elim o [ none ↦ bytes "U" | some z ↦ bytes "N" ])) ≡ chars (elim o [ none ↦ bytes "U" | some z ↦ bytes "N" ])
    at none = refl
    at (some z) = refl

type-measured : (r : Reference Cell ℤ) (here x : List (Lex Cell)) → Measured (given (type_chars r) here x)
unfolding type_chars given and_then
type-measured r here x = at (text_of r)
  where
    at : (o : Option Bytes) → Measured (given (and_then o λ s. some (chars (type_of s))) here x)
    at none = no-string
    at (some s) = measured (one-letter s)

pub string-measured : (n : ℕ) (x : List (Lex Cell)) → Measured (string_within values n x)
unfolding string_within characters referred values then broken
string-measured n x = either Measured (is_attribute 84 x) (λ e. typed (reference values (deeper values n) (drop 2 x)))
    (λ e. joined (chain (λ y. eqb (plain y) period) rest (string values (deeper values n)) (λ y s t. some (values.joined s t)) x))
  where
    typed : (g : Got (Reference Cell ℤ) Cell) → Measured (then g λ r y. choose (after_t (values.kind r.of) (is_empty r.subscripts)) (given (type_chars r) x y) (broken x))
    typed (got r y) = either Measured (after_t (values.kind r.of) (is_empty r.subscripts)) (λ e. type-measured r x y) (λ e. no-string)
    typed (refused e left) = no-string

    joined : (g : Got Chars Cell) → Measured (then g λ s y. got (measured_chars s) y)
    joined (got s y) = measured (twice s)
    joined (refused e left) = no-string

-- so two strings that were read compare by what is kept of them
abbrev string_or : Chars → Got Chars Cell → Chars
string_or d (got s x) = s
string_or d (refused e left) = d

abbrev is_got : Got Chars Cell → Bool
is_got (got s x) = true
is_got (refused e left) = false

told : {g : Got Chars Cell} (s : Chars) (x : List (Lex Cell)) → Measured g → g ≡ got s x → measured_chars s ≡ s
told s x (measured {s = d} h) e = let same : d ≡ s = ap (string_or d) e in ap measured_chars (sym same) ∙ h ∙ same
told s x no-string e = absurd (true≢false (sym (ap is_got e)))

pub strings-read : (r : Relation) (n m : ℕ) (x y : List (Lex Cell)) (s t : Chars) (v w : List (Lex Cell)) → string_within values n x ≡ got s v → string_within values m y ≡ got t w
    → strings_held r (cut s) (cut t) ≡ cutting.strings r s t
strings-read r n m x y s t v w e f = strings-held r s t (told s v (string-measured n x) e) (told t w (string-measured m y) f)
