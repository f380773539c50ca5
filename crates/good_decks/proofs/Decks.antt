-- The test of good form in one pass is the test of the deck that was read. Assumes nothing.
use Prim.Native.Nat.{ℕ, ◌+◌, ◌≤◌, ◌<◌}
use mathlib.Core.Path.{◌≡◌, refl, sym, ap, ◌∙◌}
use mathlib.Core.Bool.{Bool, true, false, ◌&&◌}
use mathlib.Core.List.{List, [], ◌∷◌, ◌++◌, map}
use mathlib.Core.Option.{none, some}
use native.Mathlib.Omega.{arith}
use lib.Dec.{eqb, leb}
use lib.ListN.{length}
use borrow.Author.Tests.{leb-true, leb-false, le-leb, lt-leb}
use Rattle.text.specs.Bytes.{Bytes}
use Rattle.rules.specs.Choice.{choose, every, any}
use Rattle.rules.specs.Limits.{library_limit, macro_limit, global_limit}
use Rattle.rules.specs.Statement.{Set}
use Rattle.rules.proofs.Choices.{by}
use Rattle.deck.specs.Slots.{DeckMacro, Deck}
use Rattle.deck.specs.Coding.{Read, after, get_byte, two, four, get_all, list_of, via, made}
use Rattle.deck.specs.Coders.{kind, macro, contents, deck_from, version_byte, whole_deck, versioned, counted, decoded}
use Rattle.deck.specs.Good.{are_distinct, is_macro, is_read_macro, total_lines, is_sound, is_good, if_good, good_deck}
use Rattle.good_decks.specs.Walk.{need, sift, hold_from, is_new, Gone, not_gone, gone_after, good_macro, is_nil, good_contents, the_deck, good_from}
use Rattle.good_decks.proofs.Passes.{after_same, after-after, pair-after, need-after, need-need, walk-all}
use Rattle.good_decks.proofs.Bodies.{hold-both, hold-plain}
use Rattle.good_decks.proofs.Names.{names-distinct}
use Rattle.good_decks.proofs.Together.{test, both, together}
use Rattle.good_decks.proofs.Macros.{Counted, read_count, is_macro_here, macro-pass}

-- ---- the tests of all macros

-- tests that look at one part of what has been seen
hold-of : {A S T : Type 0} (part : S → T) (P : T → A → Bool) (next : S → A → S) (step : T → A → T) → ((st : S) (a : A) → part (next st a) ≡ step (part st) a)
    → (st : S) (l : List A) → hold_from (λ st a. P (part st) a) next st l ≡ hold_from P step (part st) l
unfolding hold_from
hold-of part P next step e st [] = refl
hold-of part P next step e st (a ∷ l) = ap (λ (b : Bool). P (part st) a && b) (hold-of part P next step e (next st a) l ∙ ap (λ t. hold_from P step t l) (e st a))

-- the lines so far stay within the limit where all of them do
lines-within : (g : Gone) (ms : List DeckMacro) → g.total ≤ library_limit → hold_from (λ g m. leb (g.total + length m.lines) library_limit) gone_after g ms ≡ leb (g.total + total_lines ms) library_limit
unfolding hold_from total_lines gone_after
lines-within g [] h = let z : g.total + 0 ≤ library_limit = omega arith in sym (le-leb (g.total + 0) library_limit z)
lines-within g (m ∷ ms) h =
    let here = g.total + length m.lines in
    let z : g.total + (length m.lines + total_lines ms) ≡ here + total_lines ms = omega arith in
    by (leb here library_limit)
    (λ e. rw e (lines-within (gone_after g m) ms (leb-true here library_limit e) ∙ ap (λ (n : ℕ). leb n library_limit) (sym z)))
    (λ e. let far = leb-false here library_limit e in let more : library_limit < g.total + (length m.lines + total_lines ms) = omega arith in rw (e, lt-leb (g.total + (length m.lines + total_lines ms)) library_limit more))

macros-hold : (globals : List Set) (ms : List DeckMacro) → hold_from (is_macro_here globals) gone_after not_gone ms
    ≡ (every (is_macro globals) ms && (every is_read_macro ms && (are_distinct (map (λ m. m.title) ms) && leb (total_lines ms) library_limit)))
unfolding is_macro_here gone_after not_gone
macros-hold globals ms =
    let start = not_gone in
    hold-both gone_after (λ g m. is_macro globals m) (λ g m. is_read_macro m && (is_new g.titles m.title && leb (g.total + length m.lines) library_limit)) start ms
    ∙ (λ j. hold-plain gone_after (is_macro globals) start ms j && (hold-both gone_after (λ g m. is_read_macro m) (λ g m. is_new g.titles m.title && leb (g.total + length m.lines) library_limit) start ms
    ∙ (λ j. hold-plain gone_after is_read_macro start ms j && (hold-both gone_after (λ g m. is_new g.titles m.title) (λ g m. leb (g.total + length m.lines) library_limit) start ms
    ∙ (λ j. titles j && within j)) j)) j)
  where
    titles : hold_from (λ g m. is_new g.titles m.title) gone_after not_gone ms ≡ are_distinct (map (λ m. m.title) ms)
    titles = hold-of (λ g. g.titles) (λ names m. is_new names m.title) gone_after (λ names m. names ++ m.title ∷ []) (λ g m. refl) not_gone ms ∙ names-distinct (λ m. m.title) ms

    within : hold_from (λ g m. leb (g.total + length m.lines) library_limit) gone_after not_gone ms ≡ leb (total_lines ms) library_limit
    within = let z : 0 + total_lines ms ≡ total_lines ms = omega arith in lines-within not_gone ms (omega arith) ∙ ap (λ (n : ℕ). leb n library_limit) z

-- ---- the deck

-- what was read passes a test, and nothing is left over
unfoldable pub sift_last : {A : Type 0} → (A → Bool) → Read A → Read A
sift_last t none = none
sift_last t (some r) = need (t r.0 && is_nil r.1) (some r)

last-after : {A B : Type 0} (t : B → Bool) (r : Read A) (k : A → Bytes → Read B) → sift_last t (after r k) ≡ after r (λ a s. sift_last t (k a s))
unfolding sift_last after
last-after t none k = refl
last-after t (some r) k = refl

behind : {A B : Type 0} (t : B → Bool) (b : Bool) (r : Read A) (j k : A → Bytes → Read B) → ((a : A) (s : Bytes) → need b (j a s) ≡ sift_last t (k a s)) → need b (after r j) ≡ sift_last t (after r k)
behind t b r j k e = need-after b r j ∙ (after_same r e ∙ sym (last-after t r k))

counted-last : {A B : Type 0} (n : ℕ) (b : Bool) (q : List A → Bool) (made : List A → B) (t : B → Bool) → ((l : List A) → length l ≡ n → (b && q l) ≡ t (made l))
    → (r : Read (List A)) → Counted n r → need b (after (sift q r) λ l u. need (is_nil u) (some (made l, u))) ≡ sift_last t (after r λ l u. some (made l, u))
unfolding Counted need sift after choose sift_last
counted-last {A} {B} n b q made t e none h = nothing b
  where
    absent : Read B
    absent = none

    nothing : (b : Bool) → choose b absent none ≡ none
    nothing true = refl
    nothing false = refl
counted-last {A} {B} n b q made t e (some r) h = told b (q r.0) (t (made r.0)) (e r.0 h)
  where
    told : (x y z : Bool) → (x && y) ≡ z → choose x (after (choose y (some r) none) λ l u. choose (is_nil u) (some (made l, u)) none) none ≡ choose (z && is_nil r.1) (some (made r.0, r.1)) none
    told true true z f = ap (λ (b : Bool). choose (b && is_nil r.1) (some (made r.0, r.1)) none) f
    told true false z f = ap (λ (b : Bool). choose (b && is_nil r.1) (some (made r.0, r.1)) none) f
    told false y z f = ap (λ (b : Bool). choose (b && is_nil r.1) (some (made r.0, r.1)) none) f

module _ (globals : List Set) where
  abbrev deck_with : List DeckMacro → Deck
  deck_with ms = record { globals = globals; macros = ms }

  all_tested : (count : ℕ) (ms : List DeckMacro) → length ms ≡ count → ((leb (length globals) global_limit && leb count macro_limit) && hold_from (is_macro_here globals) gone_after not_gone ms) ≡ is_good (deck_with ms)
  unfolding is_good is_sound any
  all_tested count ms e =
      let few-globals = leb (length globals) global_limit in
      let few = leb (length ms) macro_limit in
      let sound = every (is_macro globals) ms in
      let as_read = every is_read_macro ms in
      let distinct = are_distinct (map (λ m. m.title) ms) in
      let short = leb (total_lines ms) library_limit in
      (λ j. (few-globals && leb (sym e j) macro_limit) && macros-hold globals ms j)
      ∙ together (few-globals ∷ few ∷ sound ∷ as_read ∷ distinct ∷ short ∷ [])
      (both (both (test 0) (test 1)) (both (test 2) (both (test 3) (both (test 4) (test 5)))))
      (both (both (test 0) (both (test 1) (both (test 5) (both (test 4) (test 2))))) (test 3)) refl refl

contents-flat : (s : Bytes) → contents.get s ≡ (after ((list_of kind).get s) λ globals t. after (two.get t) λ n u. after (get_all macro n u) λ ms v. some (deck_with globals ms, v))
unfolding contents via made deck_from list_of
contents-flat s = pair-after (list_of kind) (list_of macro) s _ ∙ after_same ((list_of kind).get s) (λ globals t. after-after (two.get t) _ _)

pub contents-pass : (s : Bytes) → good_contents s ≡ sift_last is_good (contents.get s)
unfolding good_contents
contents-pass s =
    after_same ((list_of kind).get s) (λ globals t. behind is_good _ (two.get t) _ _ (λ count u.
    need-need _ (leb count macro_limit) _
    ∙ (ap (λ r. need (leb (length globals) global_limit && leb count macro_limit) (after r λ ms v. need (is_nil v) (some (deck_with globals ms, v)))) (walk-all macro (is_macro_here globals) gone_after (good_macro globals) (macro-pass globals) count not_gone u)
    ∙ counted-last count _ (hold_from (is_macro_here globals) gone_after not_gone) (deck_with globals) is_good (all_tested globals count) (get_all macro count u) (read_count macro count u))))
    ∙ (sym (last-after is_good ((list_of kind).get s) _) ∙ ap (sift_last is_good) (sym (contents-flat s)))

-- all of the bytes, and a deck in good form
whole-read : (r : Read Deck) → the_deck (sift_last is_good r) ≡ if_good (whole_deck r)
unfolding the_deck sift_last if_good whole_deck need choose is_nil
whole-read none = refl
whole-read (some r) = rest r.0 r.1
  where
    told : (x y : Bool) (d : Deck) (s : Bytes) → x ≡ y → the_deck (choose x (some (d, s)) none) ≡ choose y (some d) none
    told true y d s e = ap (λ (b : Bool). choose b (some d) none) e
    told false y d s e = ap (λ (b : Bool). choose b (some d) none) e

    alone : (b : Bool) → (b && true) ≡ b
    alone true = refl
    alone false = refl

    never : (b : Bool) → (b && false) ≡ false
    never true = refl
    never false = refl

    rest : (d : Deck) (s : Bytes) → the_deck (choose (is_good d && is_nil s) (some (d, s)) none) ≡ if_good (elim s [ [] ↦ some d | b ∷ s ↦ none ])
    rest d [] = told (is_good d && true) (is_good d) d [] (alone (is_good d))
    rest d (b ∷ s) = told (is_good d && false) false d (b ∷ s) (never (is_good d))

version-read : (s : Bytes) → the_deck (after (get_byte s) λ v u. need (eqb v version_byte) (good_contents u)) ≡ if_good (versioned s)
unfolding the_deck after get_byte versioned need choose if_good
version-read [] = refl
version-read (v ∷ s) = told (eqb v version_byte) (ap the_deck (contents-pass s) ∙ whole-read (contents.get s))
  where
    told : (b : Bool) → the_deck (good_contents s) ≡ if_good (whole_deck (contents.get s)) → the_deck (choose b (good_contents s) none) ≡ if_good (choose b (whole_deck (contents.get s)) none)
    told true e = e
    told false e = refl

front_read : (r : Read ℕ) → the_deck (after r λ count t. need (eqb (length t) count) (after (get_byte t) λ v u. need (eqb v version_byte) (good_contents u))) ≡ if_good (counted r)
unfolding the_deck after counted need choose if_good
front_read none = refl
front_read (some r) = told (eqb (length r.1) r.0) (after (get_byte r.1) λ v u. need (eqb v version_byte) (good_contents u)) (version-read r.1)
  where
    told : (b : Bool) (x : Read Deck) → the_deck x ≡ if_good (versioned r.1) → the_deck (choose b x none) ≡ if_good (choose b (versioned r.1) none)
    told true x e = e
    told false x e = refl

-- THE TEST OF GOOD FORM IN ONE PASS: one reading of the bytes, with a test at each thing that is read, finds the deck that decoding all and testing then finds, or none where that finds none
pub good-in-one-pass : (s : Bytes) → good_from s ≡ good_deck s
unfolding good_from good_deck decoded
good-in-one-pass s = front_read (four.get s)
