-- The total readers give what the coding reads, wherever it reads anything. Assumes nothing.
use Prim.Native.Nat.{ℕ, zero, suc, ◌+◌, ◌-◌, ◌≤◌, ◌<◌}
use mathlib.Core.Path.{◌≡◌, refl, sym, ap}
use mathlib.Core.Bool.{Bool, false}
use mathlib.Core.List.{List, [], ◌∷◌, map}
use mathlib.Core.Option.{Option, none, some}
use native.Mathlib.Omega.{arith}
use native.Mathlib.Numerals.{add-one}
use lib.Dec.{eqb, leb}
use lib.ListN.{length, get_or, drop, drop_of_length-le}
use lib.Seq.{drop-cons}
use borrow.Author.Tests.{leb-true, leb-false, eqb-true, ne_eqb}
use Rattle.text.specs.Bytes.{Bytes}
use Rattle.rules.specs.Choice.{choose, every}
use Rattle.rules.specs.Lexemes.{Lex}
use Rattle.rules.specs.Statement.{Set, Line, sets, doing, text, branches, branches_if, counts, models, passes, ends, exits}
use Rattle.rules.proofs.Choices.{by, either, chosen, passed_over}
use Rattle.deck.specs.Coding.{Read, after, Coder, get_byte, byte as a_byte, two, made, via, pair, get_all, list_of}
use Rattle.deck.specs.Slots.{Slot, DeckMacro}
use Rattle.deck.specs.Coders.{field, string, set_of, kind, flag_of, flag, line, get_line_by, get_text, get_models, get_branch_if, get_branch, get_counts, get_sets, sets_line, Parts, macro, macro_of, deck_from, contents}
use Rattle.deck_reading.specs.Reading.{two_at, run_at, run_end, is_there, run_found, field_at, flag_at, set_at, or_first, kinds_at, keyword_at, fields_line, line_by, line_at}
use Rattle.deck_reading.specs.Heads.{things_from, place_of, list_at, list_end, keyword_end, line_end_by, line_end, keywords_place, locals_place, body_place, macro_at, macro_end}
use Rattle.std.specs.Prelude.{Some, None}
use Rattle.deck_reading.proofs.Runs.{two-there, two-missing, OneByte, not_found, found-good, found-bad}
use Rattle.deck_reading.proofs.Readers.{lexeme-one, kind-one, byte_one, map_same}

-- what was read, if anything was, is this, with these bytes behind it
unfoldable pub Is : {A : Type 0} → A → Bytes → Read A → Type 0
Is a u none = u ≡ u
Is a u (some r) = r ≡ (a, u)

-- a reading whose things stand where two total functions say
abbrev pub Total : {A : Type 0} → (Bytes → Read A) → (Bytes → ℕ → A) → (Bytes → ℕ → ℕ) → Type 0
Total get value end = (s : Bytes) (at : ℕ) → Is (value s at) (drop (end s at) s) (get (drop at s))

-- ---- put together

module _ {A : Type 0} where
  pub total-some : (a : A) → Total (λ t. some (a, t)) (λ s at. a) (λ s at. at)
  unfolding Is
  total-some a s at = refl

  pub total-none : (value : Bytes → ℕ → A) (end : Bytes → ℕ → ℕ) → Total (λ t. none) value end
  unfolding Is
  total-none value end s at = refl

  -- one thing behind another, which may depend on it
  pub total-then : {B : Type 0} (get : Bytes → Read A) (value : Bytes → ℕ → A) (end : Bytes → ℕ → ℕ) (get' : A → Bytes → Read B) (value' : A → Bytes → ℕ → B) (end' : A → Bytes → ℕ → ℕ)
      → Total get value end → ((a : A) → Total (get' a) (value' a) (end' a))
      → Total (λ t. after (get t) get') (λ s at. value' (value s at) s (end s at)) (λ s at. end' (value s at) s (end s at))
  unfolding Is after
  total-then get value end get' value' end' f g s at = cases (get (drop at s)) (f s at)
    where
      cases : (r : Read A) → Is (value s at) (drop (end s at) s) r → Is (value' (value s at) s (end s at)) (drop (end' (value s at) s (end s at)) s) (after r get')
      cases none h = refl
      cases (some r) h = rw h (g (value s at) s (end s at))

-- ---- runs, numbers, flags

module _ {A : Type 0} {c : Coder A} {good : ℕ → Bool} {value : ℕ → A} (o : OneByte c good value) where
  total-run : Total (list_of c).get (λ s at. map value (run_at s at)) run_end
  unfolding Is run_found
  total-run s at = by (is_there s at)
      (λ h. let f = sym (chosen (Some (run_end s at)) None h) in by (every good (run_at s at))
      (λ g. rw (sym (found-good o s at f g)) refl)
      (λ g. rw (sym (found-bad o s at f g)) refl))
      (λ h. rw (sym (not_found o s at (sym (passed_over (Some (run_end s at)) None h)))) refl)

pub total-field : Total field.get field_at run_end
unfolding field field_at
total-field s at = total-run lexeme-one s at

pub total-kinds : Total (list_of kind).get kinds_at run_end
unfolding kinds_at
total-kinds s at = total-run kind-one s at

pub total-string : Total string.get run_at run_end
unfolding string
total-string s at = rw (sym (map_same (run_at s at))) (total-run byte_one s at)

pub total-two : Total two.get two_at (λ s at. at + 2)
unfolding Is
total-two s at = by (leb (at + 2) (length s))
    (λ h. let k = leb-true (at + 2) (length s) h in let l : at + 1 < length s = omega arith in rw (two-there s at l) refl)
    (λ h. let k = leb-false (at + 2) (length s) h in let l : length s - at < 2 = omega arith in rw (two-missing s at l) refl)

pub total-byte : Total get_byte (λ s at. get_or s at 0) (λ s at. at + 1)
unfolding Is get_byte
total-byte s at = by (leb (at + 1) (length s))
    (λ h. let k = leb-true (at + 1) (length s) h in let l : at < length s = omega arith in let e : at + 1 ≡ suc at = add-one at in rw (drop-cons s at 0 l, e) refl)
    (λ h. let k = leb-false (at + 1) (length s) h in let l : length s ≤ at = omega arith in rw (drop_of_length-le s l) refl)

-- one thing that stands for another
total_made : {A B : Type 0} (get : Bytes → Read A) (value : Bytes → ℕ → A) (end : Bytes → ℕ → ℕ) (to : A → Option B) (of : A → B) → ((a : A) (t : Bytes) → Is (of a) t (made (to a) t)) → Total get value end
    → Total (λ t. after (get t) λ a u. made (to a) u) (λ s at. of (value s at)) end
total_made get value end to of e f = total-then get value end (λ a u. made (to a) u) (λ a s at. of a) (λ a s at. at) f (λ a s at. e a (drop at s))

pub total-flag : Total flag.get flag_at (λ s at. at + 1)
unfolding flag via flag_at a_byte get_byte flag_of made choose Is
total-flag = total_made get_byte (λ s at. get_or s at 0) (λ s at. at + 1) flag_of (λ n. eqb n 1) is-one total-byte
  where
    is-one : (n : ℕ) (t : Bytes) → Is (eqb n 1) t (made (flag_of n) t)
    is-one n t = either (λ o. Is (eqb n 1) t (made o t)) (eqb n 0)
        (λ e. let f : false ≡ eqb n 1 = sym (ne_eqb n 1 (λ g. omega (arith, g, eqb-true n 0 e))) in ap (λ (b : Bool). (b, t)) f)
        (λ e. either (λ o. Is (eqb n 1) t (made o t)) (eqb n 1) (λ f. ap (λ (b : Bool). (b, t)) (sym f)) (λ f. refl))

-- ---- many

module _ {A : Type 0} (c : Coder A) (value : Bytes → ℕ → A) (end : Bytes → ℕ → ℕ) (f : Total c.get value end) where
  total-all : (n : ℕ) → Total (get_all c n) (λ s at. things_from value end s n at) (λ s at. place_of end s n at)
  unfolding get_all things_from place_of
  total-all zero = total-some []
  total-all (suc n) =
      total-then c.get value end (λ a t. after (get_all c n t) λ l u. some (a ∷ l, u)) (λ a s at. a ∷ things_from value end s n at) (λ a s at. place_of end s n at) f
      (λ a. total-then (get_all c n) (λ s at. things_from value end s n at) (λ s at. place_of end s n at) (λ l u. some (a ∷ l, u)) (λ l s at. a ∷ l) (λ l s at. at) (total-all n) (λ l. total-some (a ∷ l)))

  pub total-list : Total (list_of c).get (list_at value end) (list_end end)
  unfolding list_of list_at list_end
  total-list = total-then two.get two_at (λ s at. at + 2) (λ n t. get_all c n t) (λ n s at. things_from value end s n at) (λ n s at. place_of end s n at) total-two total-all

module _ {A B : Type 0} (c : Coder A) (v : Bytes → ℕ → A) (e : Bytes → ℕ → ℕ) (f : Total c.get v e) (d : Coder B) (w : Bytes → ℕ → B) (z : Bytes → ℕ → ℕ) (g : Total d.get w z) where
  pub total-pair : Total (pair c d).get (λ s at. (v s at, w s (e s at))) (λ s at. z s (e s at))
  unfolding pair
  total-pair =
      total-then c.get v e (λ a t. after (d.get t) λ b u. some ((a, b), u)) (λ a s at. (a, w s at)) (λ a s at. z s at) f
      (λ a. total-then d.get w z (λ b u. some ((a, b), u)) (λ b s at. (a, b)) (λ b s at. at) g (λ b. total-some (a, b)))

pub total-keyword : Total (pair string string).get keyword_at keyword_end
unfolding keyword_at keyword_end
total-keyword = total-pair string run_at run_end total-string string run_at run_end total-string

-- ---- lines

abbrev Fld : Type 0
Fld = List (Lex Slot)

total-text : Total get_text (λ s at. doing (text (run_at s at))) run_end
unfolding get_text
total-text = total-then string.get run_at run_end (λ l t. some (doing (text l), t)) (λ l s at. doing (text l)) (λ l s at. at) total-string (λ l. total-some (doing (text l)))

total-branch : Total get_branch (λ s at. doing (branches (two_at s at))) (λ s at. at + 2)
unfolding get_branch
total-branch = total-then two.get two_at (λ s at. at + 2) (λ n t. some (doing (branches n), t)) (λ n s at. doing (branches n)) (λ n s at. at) total-two (λ n. total-some (doing (branches n)))

-- a last field
total-last : (f : Fld → Line Slot ℕ) → Total (λ s. after (field.get s) λ a t. some (f a, t)) (λ s at. f (field_at s at)) run_end
total-last f = total-then field.get field_at run_end (λ a t. some (f a, t)) (λ a s at. f a) (λ a s at. at) total-field (λ a. total-some (f a))

total-counts : Total get_counts (λ s at. fields_line counts [] [] (field_at s at)) run_end
unfolding get_counts fields_line
total-counts = total-last (fields_line counts [] [])

total-branch-if : Total get_branch_if (λ s at. fields_line (branches_if (two_at s at)) [] [] (field_at s (at + 2))) (λ s at. run_end s (at + 2))
unfolding get_branch_if fields_line
total-branch-if =
    total-then two.get two_at (λ s at. at + 2) (λ n t. after (field.get t) λ a u. some (fields_line (branches_if n) [] [] a, u)) (λ n s at. fields_line (branches_if n) [] [] (field_at s at)) (λ n s at. run_end s at) total-two
    (λ n. total-last (fields_line (branches_if n) [] []))

total-sets : (k : Set) → Total (sets_line k) (λ s at. fields_line (sets k) (field_at s at) [] (field_at s (run_end s at))) (λ s at. run_end s (run_end s at))
unfolding sets_line fields_line
total-sets k =
    total-then field.get field_at run_end (λ n t. after (field.get t) λ a u. some (fields_line (sets k) n [] a, u)) (λ n s at. fields_line (sets k) n [] (field_at s at)) (λ n s at. run_end s at) total-field
    (λ n. total-last (fields_line (sets k) n []))

total-models : Total get_models (λ s at. fields_line models (field_at s at) (field_at s (run_end s at)) (field_at s (run_end s (run_end s at)))) (λ s at. run_end s (run_end s (run_end s at)))
unfolding get_models fields_line
total-models =
    total-then field.get field_at run_end (λ n t. after (field.get t) λ o u. after (field.get u) λ a v. some (fields_line models n o a, v))
    (λ n s at. fields_line models n (field_at s at) (field_at s (run_end s at))) (λ n s at. run_end s (run_end s at)) total-field
    (λ n. total-then field.get field_at run_end (λ o u. after (field.get u) λ a v. some (fields_line models n o a, v)) (λ o s at. fields_line models n o (field_at s at)) (λ o s at. run_end s at) total-field
    (λ o. total-last (fields_line models n o)))

total-set : (o : Option Set) → Total (get_sets o) (λ s at. fields_line (sets (or_first o)) (field_at s at) [] (field_at s (run_end s at))) (λ s at. run_end s (run_end s at))
unfolding get_sets or_first Is
total-set none s at = refl
total-set (some k) s at = total-sets k s at

total-by : (k : ℕ) → Total (get_line_by k) (line_by k) (line_end_by k)
unfolding get_line_by line_by line_end_by set_at choose
total-by k s at =
    by (eqb k 0) (λ e. rw e (total-some (doing passes) s at)) λ a. by (eqb k 1) (λ e. rw (a, e) (total-some (doing ends) s at)) λ b. by (eqb k 2) (λ e. rw (a, b, e) (total-some (doing exits) s at)) λ c.
    by (eqb k 3) (λ e. rw (a, b, c, e) (total-text s at)) λ d. by (eqb k 4) (λ e. rw (a, b, c, d, e) (total-models s at)) λ f. by (eqb k 5) (λ e. rw (a, b, c, d, f, e) (total-branch-if s at)) λ g.
    by (eqb k 6) (λ e. rw (a, b, c, d, f, g, e) (total-branch s at)) λ h. by (eqb k 7) (λ e. rw (a, b, c, d, f, g, h, e) (total-counts s at)) λ i. rw (a, b, c, d, f, g, h, i) (total-set (set_of (k - 8)) s at)

pub total-line : Total line.get line_at line_end
unfolding line line_at line_end
total-line = total-then get_byte (λ s at. get_or s at 0) (λ s at. at + 1) get_line_by line_by line_end_by total-byte total-by

-- ---- macros

-- a coder with its total readers
pub record Known {A : Type 0} (c : Coder A) : Type 0 where
  pub value : Bytes → ℕ → A
  pub end : Bytes → ℕ → ℕ
  pub total : Total c.get value end

abbrev known-pair : {A B : Type 0} {c : Coder A} {d : Coder B} → Known c → Known d → Known (pair c d)
known-pair {A} {B} {c} {d} k l = record {
  value = λ s at. (k.value s at, l.value s (k.end s at));
  end = λ s at. l.end s (k.end s at);
  total = total-pair c k.value k.end k.total d l.value l.end l.total;
}

abbrev macro-parts : Known (pair string (pair flag (pair two (pair (list_of (pair string string)) (pair (list_of kind) (list_of line))))))
macro-parts =
    known-pair (record { value = run_at; end = run_end; total = total-string })
    (known-pair (record { value = flag_at; end = λ s at. at + 1; total = total-flag })
    (known-pair (record { value = two_at; end = λ s at. at + 2; total = total-two })
    (known-pair (record { value = list_at keyword_at keyword_end; end = list_end keyword_end; total = total-list (pair string string) keyword_at keyword_end total-keyword })
    (known-pair (record { value = kinds_at; end = run_end; total = total-kinds })
    (record { value = list_at line_at line_end; end = list_end line_end; total = total-list line line_at line_end total-line })))))

abbrev macro_from : Parts → DeckMacro
macro_from p = record {
  title = p.0;
  named = p.1.0;
  positionals = p.1.1.0;
  keywords = p.1.1.1.0;
  locals = p.1.1.1.1.0;
  lines = p.1.1.1.1.1;
}

is_made : (p : Parts) (t : Bytes) → Is (macro_from p) t (made (macro_of p) t)
unfolding Is made macro_of
is_made p t = refl

pub total-macro : Total macro.get macro_at macro_end
unfolding macro via macro_at macro_end keywords_place locals_place body_place
total-macro = total_made (pair string (pair flag (pair two (pair (list_of (pair string string)) (pair (list_of kind) (list_of line)))))).get macro-parts.value macro-parts.end macro_of macro_from is_made macro-parts.total

-- ---- the deck

deck-made : (p : List Set × List DeckMacro) (t : Bytes) → Is (record { globals = p.0; macros = p.1 }) t (made (deck_from p) t)
unfolding Is made deck_from
deck-made p t = refl

pub total-contents : Total contents.get (λ s at. record { globals = kinds_at s at; macros = list_at macro_at macro_end s (run_end s at) }) (λ s at. list_end macro_end s (run_end s at))
unfolding contents via
total-contents = total_made (pair (list_of kind) (list_of macro)).get known.value known.end deck_from (λ p. record { globals = p.0; macros = p.1 }) deck-made known.total
  where
    known : Known (pair (list_of kind) (list_of macro))
    known = known-pair (record { value = kinds_at; end = run_end; total = total-kinds }) (record { value = list_at macro_at macro_end; end = list_end macro_end; total = total-list macro macro_at macro_end total-macro })
