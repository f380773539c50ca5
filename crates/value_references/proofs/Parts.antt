-- What a reference takes of the text that its symbol stands for, and what that is as a number. Assumes nothing.
use Prim.Native.Nat.{ℕ, pred, ◌≤◌, ◌<◌}
use native.Mathlib.Omega.{arith}
use mathlib.Core.Path.{◌≡◌, refl, ap, sym, ◌∙◌}
use mathlib.Core.Bool.{Bool, true, false, true≢false}
use mathlib.Core.List.{List, [], ◌∷◌}
use mathlib.Core.Option.{Option, none, some}
use lib.Dec.{T}
use lib.ListN.{length, get_or}
use lib.Seq.{take-length}
use lib.IntN.{ℤ, pos, negsuc, nat_abs}
use lib.Signed.{lt_z, non_neg}
use mir.Syntax.{w32, w64}
use mir.Val.{SFits, Fits}
use mir.Facts.{Fits-nat_abs}
use borrow.Author.Tests.{ltb-true}
use Rattle.text.specs.Bytes.{Bytes}
use Rattle.rules.specs.Fields.{is_empty}
use Rattle.rules.specs.Statement.{set_a, set_b, set_c}
use Rattle.rules.specs.Values.{entry, listed as entry-at, number_in, number_of_entries, four_digits, magnitude}
use Rattle.rules.specs.Grammar.{Kind, parameter, symbol, syslist, sysndx, sysect, unknown, Reference, as_term, after_k, after_n}
use Rattle.rules.specs.Evaluate.{number, Cell, shown, and_then, of_parameter, of_list, text_of, as_number, count_bytes, count_entries, number_of as integer_of}
use Rattle.std.specs.Prelude.{Result, Ok, Err, Some, None, IfSome}
use Rattle.value_sums.specs.declared.Read.{Read}
use Rattle.value_sums.specs.declared.Numbered.{Numbered}
use Rattle.std.specs.Prelude.{Option as Maybe}
use Rattle.std.specs.Borrow.{Bor}
use Rattle.std.proofs.lemmas.Option.{MatchOption-at_some}
use Rattle.kinds.specs.declared.Stand.{Stand}
use Rattle.kinds.specs.declared.Stand.TheVariants.{Term, AfterK, AfterN, AfterT, Text as InText}
use Rattle.kinds.specs.Kinds.{table_of}
use Rattle.value_sums.specs.Answers.{option_of}
use Rattle.spans.specs.Spans.{part_of}
use Rattle.value_sublists.specs.Entries.{part_in}
use Rattle.value_sublists.specs.Entries.{part_of as part_found}
use Rattle.value_references.specs.declared.Subscripts.{Subscripts}
use Rattle.value_references.specs.declared.Subscripts.TheVariants.{Bare, One, Two}
use Rattle.value_references.specs.Referring.{ref_to, listed, place_of, first_of, first_read, is_placed, basis_of, meaning_of}

pub bare-said : (s : Subscripts) → is_empty (listed s) ≡ true → s ≡ Bare
unfolding listed is_empty
bare-said Bare h = refl
bare-said (One a) h = absurd (true≢false (sym h))
bare-said (Two a b) h = absurd (true≢false (sym h))

module _ (s : Bytes) where
  pub none-in : part_in s None ≡ none
  unfolding part_in
  none-in = refl

  pub empty-in : part_in s (Some (record { at = 0; size = 0 })) ≡ some []
  unfolding part_in part_of
  empty-in = refl

  pub all-in : part_in s (Some (record { at = 0; size = length s })) ≡ some s
  unfolding part_in part_of
  all-in = ap some (take-length s)

module _ {s : Result (Read Subscripts) Numbered} where
  pub first-read : {r : Read Subscripts} {n : ℕ} → s ≡ Ok r → n ≡ first_of r.value → n ≡ first_read s
  unfolding first_read
  first-read is e = e ∙ sym (ap first_read is)

  pub first-refused : {e : Numbered} → s ≡ Err e → 0 ≡ first_read s
  unfolding first_read
  first-refused is = sym (ap first_read is)

-- ---- of a parameter

module _ (s : Bytes) {r : Subscripts} where
  pub parameter-all : r ≡ Bare → some s ≡ of_parameter s (listed r)
  unfolding of_parameter listed
  parameter-all e = sym (ap (λ r. of_parameter s (listed r)) e)

  pub parameter-one : {a : ℤ} → r ≡ One a → entry s a ≡ of_parameter s (listed r)
  unfolding of_parameter listed
  parameter-one e = sym (ap (λ r. of_parameter s (listed r)) e)

  pub parameter-two : {a b : ℤ} → r ≡ Two a b → entry s a ≡ of_parameter s (listed r)
  unfolding of_parameter listed
  parameter-two e = sym (ap (λ r. of_parameter s (listed r)) e)

-- ---- of an operand of the list

module _ (s : Bytes) (all : List Bytes) {r : Subscripts} (at : s ≡ get_or all (first_of r) []) where
  pub list-bare : r ≡ Bare → some [] ≡ of_list all (listed r)
  unfolding of_list listed
  list-bare e = sym (ap (λ r. of_list all (listed r)) e)

  pub list-below : {a : ℤ} → r ≡ One a → lt_z a (pos 0) ≡ true → none ≡ of_list all (listed r)
  unfolding of_list listed entry-at
  list-below {a} e k = below a k ∙ sym (ap (λ r. of_list all (listed r)) e)
    where
      below : (a : ℤ) → lt_z a (pos 0) ≡ true → none ≡ entry-at all a
      below (pos n) k = let less = ltb-true n 0 k in absurd (omega arith)
      below (negsuc n) k = refl

  pub list-one : {a : ℤ} → r ≡ One a → lt_z a (pos 0) ≡ false → some s ≡ of_list all (listed r)
  unfolding of_list listed entry-at first_of place_of
  list-one {a} e k = ap some (at ∙ ap (λ r. get_or all (first_of r) []) e) ∙ above a k ∙ sym (ap (λ r. of_list all (listed r)) e)
    where
      above : (a : ℤ) → lt_z a (pos 0) ≡ false → some (get_or all (place_of a) []) ≡ entry-at all a
      above (pos n) k = refl
      above (negsuc n) k = absurd (true≢false k)

  pub list-two-below : {a b : ℤ} → r ≡ Two a b → lt_z a (pos 0) ≡ true → none ≡ of_list all (listed r)
  unfolding of_list listed entry-at and_then
  list-two-below {a} {b} e k = below a k ∙ sym (ap (λ r. of_list all (listed r)) e)
    where
      below : (a : ℤ) → lt_z a (pos 0) ≡ true → none ≡ and_then (entry-at all a) (λ s. entry s b)
      below (pos n) k = let less = ltb-true n 0 k in absurd (omega arith)
      below (negsuc n) k = refl

  pub list-two : {a b : ℤ} → r ≡ Two a b → lt_z a (pos 0) ≡ false → entry s b ≡ of_list all (listed r)
  unfolding of_list listed entry-at and_then first_of place_of
  list-two {a} {b} e k = ap (λ s. entry s b) (at ∙ ap (λ r. get_or all (first_of r) []) e) ∙ above a k ∙ sym (ap (λ r. of_list all (listed r)) e)
    where
      above : (a : ℤ) → lt_z a (pos 0) ≡ false → entry (get_or all (place_of a) []) b ≡ and_then (entry-at all a) (λ s. entry s b)
      above (pos n) k = refl
      above (negsuc n) k = absurd (true≢false k)

-- ---- of what a symbol stands for

module _ (c : Cell) (l : List ℤ) where
  pub text-parameter : {s : Bytes} (n : ℕ) → c.kind ≡ parameter → s ≡ basis_of c n → of_parameter s l ≡ text_of (ref_to c l)
  unfolding basis_of text_of
  text-parameter {s} n e h = let v : s ≡ shown c.value = rw e at h in rw e (ap (λ s. of_parameter s l) v)

  pub list-basis : {s : Bytes} (n : ℕ) → c.kind ≡ syslist → s ≡ basis_of c n → s ≡ get_or c.list n []
  unfolding basis_of
  list-basis n e h = rw e at h

  pub text-list : c.kind ≡ syslist → of_list c.list l ≡ text_of (ref_to c l)
  unfolding text_of
  text-list e = rw e

  pub text-other : {s : Bytes} (n : ℕ) → is_placed c.kind ≡ true → (c.kind ≡ parameter → ⊥) → (c.kind ≡ syslist → ⊥) → s ≡ basis_of c n → some s ≡ text_of (ref_to c l)
  unfolding basis_of text_of is_placed
  text-other {s} n p a b h = ap some h ∙ go c.kind p a b
    where
      go : (k : Kind) → is_placed k ≡ true → (k ≡ parameter → ⊥) → (k ≡ syslist → ⊥)
          → ◌≡◌ {A = Option Bytes}
          (some (elim k [ parameter ↦ shown c.value | symbol s ↦ shown c.value | syslist ↦ get_or c.list n [] | sysndx ↦ shown c.value | sysect ↦ shown c.value | unknown ↦ shown c.value ]))
          (elim k [ parameter ↦ of_parameter (shown c.value) l | symbol s ↦ some (shown c.value) | syslist ↦ of_list c.list l | sysndx ↦ some (four_digits (magnitude (integer_of c.value))) | sysect ↦ some (shown c.value) | unknown ↦ some [] ])
      go parameter p a b = absurd (a refl)
      go (symbol s) p a b = refl
      go syslist p a b = absurd (b refl)
      go sysndx p a b = absurd (true≢false (sym p))
      go sysect p a b = refl
      go unknown p a b = absurd (true≢false (sym p))

-- ---- places

pub place-below : (z : ℤ) → lt_z z (pos 0) ≡ true → 0 ≡ place_of z
unfolding place_of
place-below (pos n) h = let less = ltb-true n 0 h in absurd (omega arith)
place-below (negsuc n) h = refl

pub place-above : (z : ℤ) → lt_z z (pos 0) ≡ false → nat_abs z ≡ place_of z
unfolding place_of
place-above (pos n) h = refl
place-above (negsuc n) h = absurd (true≢false h)

pub place-fits : (z : ℤ) → SFits w32 z → lt_z z (pos 0) ≡ false → T (non_neg z) × Fits w64 (nat_abs z)
place-fits (pos n) f h = (tt, Fits-nat_abs tt f)
place-fits (negsuc n) f h = absurd (true≢false h)

module _ {r : Subscripts} where
  pub first-bare : r ≡ Bare → 0 ≡ first_of r
  unfolding first_of
  first-bare e = sym (ap first_of e)

  pub first_one : {a : ℤ} {m : ℕ} → r ≡ One a → m ≡ place_of a → m ≡ first_of r
  unfolding first_of
  first_one e h = h ∙ sym (ap first_of e)

  pub first_two : {a b : ℤ} {m : ℕ} → r ≡ Two a b → m ≡ place_of a → m ≡ first_of r
  unfolding first_of
  first_two e h = h ∙ sym (ap first_of e)

-- ---- what a reference stands for in arithmetic

module _ (c : Cell) (l : List ℤ) where
  pub number-text : is_placed c.kind ≡ true → and_then (text_of (ref_to c l)) number_in ≡ as_number (ref_to c l)
  unfolding as_number is_placed
  number-text p = go c.kind p
    where
      go : (k : Kind) → is_placed k ≡ true → ◌≡◌ {A = Option ℤ} (and_then (text_of (ref_to c l)) number_in)
          (elim k [
            | parameter ↦ and_then (text_of (ref_to c l)) number_in
            | symbol k ↦ elim k [ set_a ↦ some (integer_of c.value) | set_b ↦ and_then (text_of (ref_to c l)) number_in | set_c ↦ and_then (text_of (ref_to c l)) number_in ]
            | syslist ↦ and_then (text_of (ref_to c l)) number_in
            | sysndx ↦ some (integer_of c.value)
            | sysect ↦ and_then (text_of (ref_to c l)) number_in
            | unknown ↦ none
          ])
      go parameter p = refl
      go (symbol set_a) p = absurd (true≢false (sym p))
      go (symbol set_b) p = absurd (true≢false (sym p))
      go (symbol set_c) p = refl
      go syslist p = refl
      go sysndx p = absurd (true≢false (sym p))
      go sysect p = refl
      go unknown p = absurd (true≢false (sym p))

  pub number-set : {z : ℤ} → c.kind ≡ symbol set_a → c.value ≡ number z → some z ≡ as_number (ref_to c l)
  unfolding as_number integer_of
  number-set e v = rw (e, v)

  pub number-index : {n : ℕ} → c.kind ≡ sysndx → c.value ≡ number (pos n) → some (pos n) ≡ as_number (ref_to c l)
  unfolding as_number integer_of
  number-index e v = rw (e, v)

  pub bytes-text : and_then (text_of (ref_to c l)) (λ t. some (pos (length t))) ≡ count_bytes (ref_to c l)
  unfolding count_bytes
  bytes-text = refl

  pub bytes-index : c.kind ≡ sysndx → some (pos 4) ≡ count_bytes (ref_to c l)
  unfolding count_bytes text_of and_then four_digits
  bytes-index e = rw e

  -- entries
  pub entries-list : c.kind ≡ syslist → is_empty l ≡ true → some (pos (pred (length c.list))) ≡ count_entries (ref_to c l)
  unfolding count_entries is_empty
  entries-list e h = go l h
    where
      go : (l : List ℤ) → is_empty l ≡ true → some (pos (pred (length c.list))) ≡ count_entries (ref_to c l)
      go [] h = rw e
      go (n ∷ m) h = absurd (true≢false (sym h))

  pub entries-text : (c.kind ≡ syslist → is_empty l ≡ true → ⊥) → and_then (text_of (ref_to c l)) (λ t. some (pos (number_of_entries t))) ≡ count_entries (ref_to c l)
  unfolding count_entries is_empty
  entries-text h = go l c.kind h
    where
      T : Option ℤ
      T = and_then (text_of (ref_to c l)) (λ t. some (pos (number_of_entries t)))

      go : (m : List ℤ) (k : Kind) → (k ≡ syslist → is_empty m ≡ true → ⊥)
          → T ≡ elim k [ parameter ↦ T | symbol k ↦ T | syslist ↦ elim m [ [] ↦ some (pos (pred (length c.list))) | a ∷ b ↦ T ] | sysndx ↦ T | sysect ↦ T | unknown ↦ T ]
      go m parameter h = refl
      go m (symbol k) h = refl
      go [] syslist h = absurd (h refl refl)
      go (a ∷ b) syslist h = refl
      go m sysndx h = refl
      go m sysect h = refl
      go m unknown h = refl

-- which kinds a table takes

pub term-placed : (k : Kind) (b : Bool) → as_term k b ≡ true → (k ≡ symbol set_a → ⊥) → (k ≡ sysndx → ⊥) → is_placed k ≡ true
unfolding as_term is_placed
term-placed parameter b t x y = refl
term-placed (symbol set_a) b t x y = absurd (x refl)
term-placed (symbol set_b) b t x y = absurd (true≢false (sym t))
term-placed (symbol set_c) b t x y = refl
term-placed syslist b t x y = refl
term-placed sysndx b t x y = absurd (y refl)
term-placed sysect b t x y = refl
term-placed unknown b t x y = absurd (true≢false (sym t))

pub length-placed : (k : Kind) (b : Bool) → after_k k b ≡ true → (k ≡ sysndx → ⊥) → is_placed k ≡ true
unfolding after_k is_placed
length-placed parameter b t y = refl
length-placed (symbol set_a) b t y = absurd (true≢false (sym t))
length-placed (symbol set_b) b t y = absurd (true≢false (sym t))
length-placed (symbol set_c) b t y = refl
length-placed syslist b t y = refl
length-placed sysndx b t y = absurd (y refl)
length-placed sysect b t y = refl
length-placed unknown b t y = absurd (true≢false (sym t))

pub count-placed : (k : Kind) (b : Bool) → after_n k b ≡ true → is_placed k ≡ true
unfolding after_n is_placed
count-placed parameter b t = refl
count-placed (symbol k) b t = absurd (true≢false (sym t))
count-placed syslist b t = refl
count-placed sysndx b t = absurd (true≢false (sym t))
count-placed sysect b t = refl
count-placed unknown b t = absurd (true≢false (sym t))

-- ---- by where it stands

module _ (k : Kind) (b : Bool) (r : Reference Cell ℤ) {w : Option ℤ} {stand : Stand} where
  pub by-term : stand ≡ Term → (as_term k b ≡ true → w ≡ as_number r) → table_of stand k b ≡ true → w ≡ meaning_of stand r
  unfolding meaning_of
  by-term e h t = h (ap (λ s. table_of s k b) (sym e) ∙ t) ∙ sym (ap (λ s. meaning_of s r) e)

  pub by_length : stand ≡ AfterK → (after_k k b ≡ true → w ≡ count_bytes r) → table_of stand k b ≡ true → w ≡ meaning_of stand r
  unfolding meaning_of
  by_length e h t = h (ap (λ s. table_of s k b) (sym e) ∙ t) ∙ sym (ap (λ s. meaning_of s r) e)

  pub by_count : stand ≡ AfterN → (after_n k b ≡ true → w ≡ count_entries r) → table_of stand k b ≡ true → w ≡ meaning_of stand r
  unfolding meaning_of
  by_count e h t = h (ap (λ s. table_of s k b) (sym e) ∙ t) ∙ sym (ap (λ s. meaning_of s r) e)

pub none-after_t : (r : Reference Cell ℤ) {stand : Stand} → stand ≡ AfterT → option_of None ≡ meaning_of stand r
unfolding meaning_of option_of
none-after_t r e = sym (ap (λ s. meaning_of s r) e)

pub none-text : (r : Reference Cell ℤ) {stand : Stand} → stand ≡ InText → option_of None ≡ meaning_of stand r
unfolding meaning_of option_of
none-text r e = sym (ap (λ s. meaning_of s r) e)

-- ---- a text taken further, where there is one

module _ {A : Type 0} (k : Bytes → Option A) {o : Maybe (Bor Bytes)} where
  pub found-then : {t : Bor Bytes} → o ≡ Some t → k t.now ≡ and_then (part_found o) k
  unfolding part_found and_then
  found-then e = sym (ap (λ o. and_then (part_found o) k) e)

  pub none-then : o ≡ None → none ≡ and_then (part_found o) k
  unfolding part_found and_then
  none-then e = sym (ap (λ o. and_then (part_found o) k) e)

pub shorter : (o : Maybe (Bor Bytes)) {n m : ℕ} → n < m → IfSome o (λ t. length t.now ≤ n) → IfSome o (λ t. length t.now < m)
shorter None h k = tt
shorter (Some t) h k = omega arith

pub some-small : {o : Maybe (Bor Bytes)} {t : Bor Bytes} {m : ℕ} → o ≡ Some t → IfSome o (λ t. length t.now < m) → length t.now < m
some-small {o} {t} {m} e h = MatchOption-at_some _ (λ t. length t.now < m) t e h

pub bare-empty : {s : Subscripts} → s ≡ Bare → is_empty (listed s) ≡ true
unfolding listed is_empty
bare-empty e = ap (λ s. is_empty (listed s)) e

pub string-placed : {k : Kind} → k ≡ symbol set_c → is_placed k ≡ true
unfolding is_placed
string-placed e = ap is_placed e

pub truth-no_term : {k : Kind} (b : Bool) → k ≡ symbol set_b → as_term k b ≡ true → ⊥
unfolding as_term
truth-no_term b e t = true≢false (sym (sym (ap (λ k. as_term k b) e) ∙ t))
