-- Types of references, and substrings, as the code finds them. Assumes nothing.
use Prim.Native.Nat.{ℕ, zero, suc, ◌-◌, ◌≤◌, ◌<◌}
use native.Mathlib.Omega.{arith}
use mathlib.Core.Path.{◌≡◌, refl, ap, sym, ◌∙◌}
use mathlib.Core.Bool.{Bool, true, false, true≢false}
use mathlib.Core.List.{List, [], ◌∷◌}
use mathlib.Core.Option.{Option, none, some}
use lib.ListN.{length, take, drop}
use lib.IntN.{ℤ, pos, negsuc, nat_abs}
use lib.Signed.{lt_z}
use borrow.Author.Tests.{ltb-true, lt-ltb, le-ltb}
use Rattle.text.specs.Bytes.{Bytes}
use Rattle.rules.specs.Choice.{choose}
use Rattle.rules.specs.Lexemes.{Lex, byte, mark, ref, lone}
use Rattle.rules.specs.Fields.{is_empty}
use Rattle.rules.specs.Values.{type_of, substring}
use Rattle.rules.specs.Grammar.{Kind, parameter, symbol, syslist, sysndx, sysect, unknown, Got, then, given, broken, reference, referred, after_t}
use Rattle.rules.specs.Evaluate.{Cell, Chars, chars, values, and_then, text_of, type_chars}
use Rattle.rules.proofs.Choices.{by, chosen, passed_over}
use Rattle.std.specs.Prelude.{Err, Some, None}
use Rattle.std.specs.Prelude.{Option as Maybe}
use Rattle.std.specs.Borrow.{Bor}
use Rattle.spans.specs.Spans.{part_of}
use Rattle.refusals.specs.declared.Fault.TheVariants.{IllFormed}
use Rattle.kinds.specs.declared.Kind.{Kind as Kept}
use Rattle.value_sums.specs.Answers.{tells_as, option_of}
use Rattle.value_sums.proofs.Answers.{map_to}
use Rattle.value_sublists.specs.Entries.{part_in, part_of as part_found}
use Rattle.value_references.specs.Referring.{ref_to, is_placed, kind_by}
use Rattle.value_strings.specs.Typing.{known_by, tells_type, typed_by}

-- ---- substrings

module _ (s : Bytes) where
  pub start-below : (start count : ℤ) → lt_z start (pos 1) ≡ true → part_in s None ≡ substring s start count
  unfolding part_in substring
  start-below (pos zero) count h = refl
  start-below (pos (suc n)) count h = let less = ltb-true (suc n) 1 h in absurd (omega arith)
  start-below (negsuc n) count h = refl

  pub count-below : (start count : ℤ) → lt_z count (pos 0) ≡ true → part_in s None ≡ substring s start count
  unfolding part_in substring
  count-below (pos zero) count h = refl
  count-below (pos (suc n)) (pos m) h = let less = ltb-true m 0 h in absurd (omega arith)
  count-below (pos (suc n)) (negsuc m) h = refl
  count-below (negsuc n) count h = refl

  pub start-past : (start count : ℤ) → lt_z start (pos 1) ≡ false → lt_z count (pos 0) ≡ false → length s ≤ nat_abs start - 1 → part_in s None ≡ substring s start count
  unfolding part_in substring
  start-past (pos zero) count h k l = refl
  start-past (pos (suc n)) (pos m) h k l = let z : suc n - 1 ≡ n = omega arith in let e : length s ≤ n = omega arith in sym (passed_over _ _ (le-ltb n (length s) e))
  start-past (pos (suc n)) (negsuc m) h k l = refl
  start-past (negsuc n) count h k l = refl

  pub part-taken : (start count : ℤ) → lt_z start (pos 1) ≡ false → lt_z count (pos 0) ≡ false → nat_abs start - 1 < length s → part_in s (Some (record { at = nat_abs start - 1; size = nat_abs count })) ≡ substring s start count
  unfolding part_in part_of substring
  part-taken (pos zero) count h k l = absurd (true≢false h)
  part-taken (pos (suc n)) (pos m) h k l = let z : suc n - 1 ≡ n = omega arith in let e : n < length s = omega arith in ap (λ i. some (take m (drop i s))) z ∙ sym (chosen _ _ (lt-ltb n (length s) e))
  part-taken (pos (suc n)) (negsuc m) h k l = absurd (true≢false k)
  part-taken (negsuc n) count h k l = absurd (true≢false h)

-- ---- types

module _ {o : Maybe (Bor Bytes)} where
  pub type-some : {t : Bor Bytes} {b : ℕ} → o ≡ Some t → b ∷ [] ≡ type_of t.now → known_by (Some b) ≡ and_then (part_found o) (λ t. some (type_of t))
  unfolding known_by part_found and_then
  type-some e h = ap some h ∙ sym (ap (λ o. and_then (part_found o) (λ t. some (type_of t))) e)

  pub type-none : o ≡ None → known_by None ≡ and_then (part_found o) (λ t. some (type_of t))
  unfolding known_by part_found and_then
  type-none e = sym (ap (λ o. and_then (part_found o) (λ t. some (type_of t))) e)

pub tells-ill : (from : ℕ → List (Lex Cell)) (n : ℕ) → tells_type from (Err (record { fault = IllFormed; at = n })) ≡ broken (from n)
unfolding tells_as broken
tells-ill from n = refl

-- a type that is known, as a string
abbrev pub in_type : ℕ → Chars
in_type b = chars (b ∷ [])

pub typed-text : (c : Cell) (l : List ℤ) (v : Maybe ℕ) → known_by v ≡ and_then (text_of (ref_to c l)) (λ t. some (type_of t)) → map_to in_type (option_of v) ≡ type_chars (ref_to c l)
unfolding type_chars known_by and_then option_of
typed-text c l v h = spelt v ∙ ap in_chars h ∙ both (text_of (ref_to c l))
  where
    in_chars : Option Bytes → Option Chars
    in_chars none = none
    in_chars (some t) = some (chars t)

    spelt : (v : Maybe ℕ) → map_to in_type (option_of v) ≡ in_chars (known_by v)
    spelt (Some b) = refl
    spelt None = refl

    both : (o : Option Bytes) → in_chars (and_then o (λ t. some (type_of t))) ≡ and_then o (λ t. some (chars (type_of t)))
    both none = refl
    both (some t) = refl

pub type-placed : (k : Kind) (b : Bool) → after_t k b ≡ true → is_placed k ≡ true
unfolding after_t is_placed
type-placed parameter b t = refl
type-placed (symbol k) b t = absurd (true≢false (sym t))
type-placed syslist b t = refl
type-placed sysndx b t = absurd (true≢false (sym t))
type-placed sysect b t = absurd (true≢false (sym t))
type-placed unknown b t = absurd (true≢false (sym t))

-- what T' makes of a reference that was read
pub judged-is : (c : Cell) (l : List ℤ) (here y : List (Lex Cell)) {w : Option Chars} → (after_t c.kind (is_empty l) ≡ true → w ≡ type_chars (ref_to c l))
    → choose (after_t c.kind (is_empty l)) (given w here y) (broken here) ≡ typed_by here (ref_to c l) y
unfolding typed_by
judged-is c l here y meant = by (after_t c.kind (is_empty l)) (λ t. chosen _ _ t ∙ ap (λ o. given o here y) (meant t) ∙ sym (chosen _ _ t)) (λ t. passed_over _ _ t ∙ sym (passed_over _ _ t))

none-not : {n : Kept} → None ≡ Some n → ⊥
none-not e = true≢false (sym (ap is_there e))
  where
    is_there : Maybe Kept → Bool
    is_there None = false
    is_there (Some n) = true

module _ (inner : List (Lex Cell) → Got ℤ Cell) (here : List (Lex Cell)) where
  pub types-is : (x : List (Lex Cell)) → then (reference values inner x) (typed_by here) ≡ referred values inner after_t type_chars here x
  unfolding referred typed_by values
  types-is x = refl

  pub types-none : (x : List (Lex Cell)) → None ≡ kind_by x → broken x ≡ referred values inner after_t type_chars here x
  unfolding referred reference then broken kind_by
  types-none [] e = refl
  types-none (byte c ∷ x) e = refl
  types-none (mark ∷ x) e = refl
  types-none (ref c ∷ x) e = absurd (none-not e)
  types-none (lone ∷ x) e = refl
