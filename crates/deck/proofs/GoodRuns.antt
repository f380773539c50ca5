-- Every deck in good form, whether a translation made it or not, has runs that end, and gives only 01's refusals.
use Prim.Native.Nat.{ℕ, zero, suc, ◌≤◌, ◌<◌}
use native.Mathlib.Nat.{le_of_suc-le-suc, not-suc-le-zero}
use native.Mathlib.Omega.{arith}
use mathlib.Core.Path.{◌≡◌, refl, ap, sym, ◌∙◌, subst}
use mathlib.Core.Logic.{◌⊎◌, inl, inr, ⊎_elim}
use mathlib.Core.Bool.{Bool, true, false, true≢false, false≢true, ◌&&◌, ◌||◌, not}
use mathlib.Core.List.{List, [], ◌∷◌, map}
use mathlib.Core.Option.{Option, none, some}
use lib.Dec.{eqb, leb, ltb}
use lib.ListN.{length, get_or, length-map}
use borrow.Author.Tests.{leb-true, ne_eqb}
use Rattle.text.specs.Bytes.{Bytes, bytes}
use Rattle.rules.specs.Choice.{choose, every, any}
use Rattle.text.specs.Words.{words}
use Rattle.rules.specs.Limits.{bad_deck, short_workspace, parameter_limit, local_limit, global_limit, macro_limit, library_limit, nest_limit, workspace_size}
use Rattle.rules.specs.Fields.{is_ill_written, is_remark, is_copied_remark, is_dropped_remark, Fields, no_fields, statement_fields, fields_of, starts_with, is_empty}
use Rattle.rules.specs.Statement.{Set, Line, Does, passes, ends, exits, text, models, sets, branches_if, branches, counts, map_does, map_line, is_copied}
use Rattle.rules.specs.Form.{is_formed}
use Rattle.rules.specs.Evaluate.{Value, own_cell, shared_cell, system_cell}
use Rattle.rules.specs.Machine.{Level, is_language_word, Answer, at_once, begun, enough}
use Rattle.rules.specs.Places.{numbers_at, is_of01}
use Rattle.rules.proofs.Choices.{by, chosen, passed_over, and_left, and_right, either}
use Rattle.rules.proofs.Logic.{or_left, else-so, none-at}
use Rattle.rules.proofs.Formed.{formed-decides}
use Rattle.rules.proofs.Ends as Ends
use Rattle.rules.proofs.Ends.{Steady, Closed, Stops}
use Rattle.rules.proofs.Refusals.{Sound, refusals}
use Rattle.deck.specs.Slots.{Slot, own, shared, list, index, section, nowhere, DeckMacro, Deck, parameters, no_macro, no_line, slot_kind, held, deck_header, machine_of_deck}
use Rattle.rules.specs.Faults.{is_macro_name}
use Rattle.deck.specs.Good.{are_lexemes, are_distinct, are_distinct_keywords, is_keyword, total_lines, is_target, is_in_order, is_line, does_end, ends_once, does_count, may_precede, actr_end, counts_once, is_macro, is_sound, is_read_macro, is_good, is_text, is_statement_text, if_good, good_deck}
use Rattle.deck.specs.Coders.{decoded}
use Rattle.deck.specs.ByDeck.{deck_answer, deck_expansion, by_deck}
use Rattle.deck.proofs.Same.{map_line-map_line}

-- ---- along a list

every-at : {A : Type 0} (test : A → Bool) (l : List A) (d : A) (i : ℕ) → every test l ≡ true → i < length l → test (get_or l i d) ≡ true
unfolding every
every-at test [] d i e h = absurd (not-suc-le-zero h)
every-at test (a ∷ l) d zero e h = and_left (test a) (every test l) e
every-at test (a ∷ l) d (suc i) e h = every-at test l d i (and_right (test a) (every test l) e) (le_of_suc-le-suc h)

is-not : (b : Bool) → not b ≡ true → b ≡ false
is-not true h = sym h
is-not false h = refl

-- ---- what good form says of a macro and of its lines

-- the last of several tests that all hold
last-of-five : (a b c e f : Bool) → (a && (b && (c && (e && f)))) ≡ true → f ≡ true
last-of-five a b c e f h = and_right e f (and_right c (e && f) (and_right b (c && (e && f)) (and_right a (b && (c && (e && f))) h)))

good-macros : (d : Deck) → is_good d ≡ true → every (is_macro d.globals) d.macros ≡ true
unfolding is_good is_sound
good-macros d h =
    last-of-five (leb (length d.globals) global_limit) (leb (length d.macros) macro_limit) (leb (total_lines d.macros) library_limit)
    (are_distinct (map (λ m. m.title) d.macros)) (every (is_macro d.globals) d.macros) (and_left (is_sound d) (every is_read_macro d.macros) h)

record GoodMacro (globals : List Set) (m : DeckMacro) : Type 0 where
  ended : ends_once m.lines ≡ true
  counted : counts_once m.lines ≡ true
  lines : every (is_line globals m (actr_end m.lines)) m.lines ≡ true

good-macro : (globals : List Set) (m : DeckMacro) → is_macro globals m ≡ true → GoodMacro globals m
unfolding is_macro
good-macro globals m h =
    let e = ends_once m.lines in
    let c = counts_once m.lines in
    let l = every (is_line globals m (actr_end m.lines)) m.lines in
    let t : (e && (c && l)) ≡ true =
    and_right (are_distinct_keywords m.keywords) (e && (c && l)) (last-of-five (is_macro_name m.title) (leb (parameters m) parameter_limit) (leb (length m.locals) local_limit)
    (every is_keyword m.keywords) (are_distinct_keywords m.keywords && (e && (c && l))) h) in
    record { ended = and_left e (c && l) t; counted = and_left c l (and_right e (c && l) t); lines = and_right c l (and_right e (c && l) t) }

-- a macro of a good deck; behind the last one there is none, and it has no line
at-macro : (d : Deck) → is_good d ≡ true → (k : ℕ) → k < length d.macros → GoodMacro d.globals (get_or d.macros k no_macro)
at-macro d h k hk = good-macro d.globals _ (every-at (is_macro d.globals) d.macros no_macro k (good-macros d h) hk)

-- ---- a macro ends in MEND

ended_some : (ls : List (Line Slot ℕ)) → ends_once ls ≡ true → 0 < length ls
unfolding ends_once
ended_some [] h = absurd (false≢true h)
ended_some (l ∷ ls) h = omega arith

does-end : (x : Does ℕ) → does_end x ≡ true → x ≡ ends
unfolding does_end
does-end passes h = absurd (false≢true h)
does-end ends h = refl
does-end exits h = absurd (false≢true h)
does-end (text s) h = absurd (false≢true h)
does-end models h = absurd (false≢true h)
does-end (sets k) h = absurd (false≢true h)
does-end (branches_if t) h = absurd (false≢true h)
does-end (branches t) h = absurd (false≢true h)
does-end counts h = absurd (false≢true h)

ended-last : (ls : List (Line Slot ℕ)) (i : ℕ) → ends_once ls ≡ true → suc i ≡ length ls → (get_or ls i no_line).does ≡ ends
unfolding ends_once
ended-last [] i h e = absurd (false≢true h)
ended-last (l ∷ []) zero h e = does-end l.does h
ended-last (l ∷ []) (suc i) h e = absurd (omega (arith, e))
ended-last (l ∷ (k ∷ ls)) zero h e = absurd (omega (arith, e))
ended-last (l ∷ (k ∷ ls)) (suc i) h e = ended-last (k ∷ ls) i (and_right (not (does_end l.does)) (ends_once (k ∷ ls)) h) (omega (arith, e))

titles-length : (d : Deck) → length (machine_of_deck d).titles ≡ length d.macros
unfolding machine_of_deck
titles-length d = length-map d.macros (λ m. m.title)

pub good-closed : (d : Deck) → is_good d ≡ true → Closed (machine_of_deck d)
unfolding machine_of_deck deck_header map_line map_does
good-closed d h = record {
  some-line = λ k hk. ended_some _ (at-macro d h k (subst (k <◌) (titles-length d) hk)).ended;
  last = λ k i l vs hk e. ap (map_does (λ t. t)) (ended-last (get_or d.macros k no_macro).lines i (at-macro d h k (subst (k <◌) (titles-length d) hk)).ended e);
}

-- ---- ACTR stands once, and branches go behind it

no-count : (ls : List (Line Slot ℕ)) (i : ℕ) → any (λ k. does_count k.does) ls ≡ false → i < length ls → does_count (get_or ls i no_line).does ≡ true → ⊥
no-count ls i e hi t = true≢false (sym t ∙ none-at (λ k. does_count k.does) ls no_line i e hi)

actr-at : (ls : List (Line Slot ℕ)) (i : ℕ) → counts_once ls ≡ true → i < length ls → does_count (get_or ls i no_line).does ≡ true → actr_end ls ≡ suc i
unfolding counts_once actr_end
actr-at [] i h hi t = absurd (not-suc-le-zero hi)
actr-at (l ∷ ls) zero h hi t = chosen _ _ t
actr-at (l ∷ ls) (suc i) h hi t =
    by (does_count l.does) first (λ e. later e (actr-at ls i (and_left (counts_once ls) (may_precede l.does || not others) (rest e)) (le_of_suc-le-suc hi) t))
  where
    others : Bool
    others = any (λ k. does_count k.does) ls

    rest : does_count l.does ≡ false → (counts_once ls && (may_precede l.does || not others)) ≡ true
    rest e = sym (passed_over (not others) (counts_once ls && (may_precede l.does || not others)) e) ∙ h

    first : does_count l.does ≡ true → choose (does_count l.does) 1 (choose (eqb (actr_end ls) 0) 0 (suc (actr_end ls))) ≡ suc (suc i)
    first e = absurd (no-count ls i (is-not others (sym (chosen (not others) (counts_once ls && (may_precede l.does || not others)) e) ∙ h)) (le_of_suc-le-suc hi) t)

    later : does_count l.does ≡ false → actr_end ls ≡ suc i → choose (does_count l.does) 1 (choose (eqb (actr_end ls) 0) 0 (suc (actr_end ls))) ≡ suc (suc i)
    later e f = passed_over _ _ e ∙ (ap (λ n. choose (eqb n 0) 0 (suc n)) f ∙ passed_over {b = eqb (suc i) 0} 0 (suc (suc i)) (ne_eqb (suc i) 0 (λ z. omega (arith, z))))

-- what a line of a good deck does
in_order : (d : Deck) → is_good d ≡ true → (k i : ℕ) → k < length d.macros → i < length (get_or d.macros k no_macro).lines
    → is_line d.globals (get_or d.macros k no_macro) (actr_end (get_or d.macros k no_macro).lines) (get_or (get_or d.macros k no_macro).lines i no_line) ≡ true
in_order d h k i hk hi = every-at _ (get_or d.macros k no_macro).lines no_line i (at-macro d h k hk).lines hi

-- behind the last macro there is no line
has-macro : (ms : List DeckMacro) (k i : ℕ) → i < length (get_or ms k no_macro).lines → k < length ms
unfolding no_macro
has-macro [] k i h = absurd (not-suc-le-zero h)
has-macro (m ∷ ms) zero i h = omega arith
has-macro (m ∷ ms) (suc k) i h = omega (arith, has-macro ms k i h)

mapped : (x : Does ℕ) → map_does (λ t. t) x ≡ x
unfolding map_does
mapped passes = refl
mapped ends = refl
mapped exits = refl
mapped (text s) = refl
mapped models = refl
mapped (sets k) = refl
mapped (branches_if t) = refl
mapped (branches t) = refl
mapped counts = refl

is-target : (actr n t : ℕ) → is_target actr n t ≡ true → actr ≤ t
unfolding is_target
is-target actr n t h = leb-true actr t (and_right (ltb t n) (leb actr t) h)

target-of : (actr n t : ℕ) (x : Does ℕ) → is_in_order actr n x ≡ true → (x ≡ branches t) ⊎ (x ≡ branches_if t) → actr ≤ t
unfolding is_in_order
target-of actr n t x h w =
    ⊎_elim (λ (e : x ≡ branches t). is-target actr n t (subst (λ y. is_in_order actr n y ≡ true) e h))
    (λ (e : x ≡ branches_if t). is-target actr n t (subst (λ y. is_in_order actr n y ≡ true) e h)) w

line-in-order : (globals : List Set) (m : DeckMacro) (actr : ℕ) (l : Line Slot ℕ) → is_line globals m actr l ≡ true → is_in_order actr (length m.lines) l.does ≡ true
unfolding is_line
line-in-order globals m actr l h = and_left (is_in_order actr (length m.lines) l.does) _ h

pub good-steady : (d : Deck) → is_good d ≡ true → Steady (machine_of_deck d)
unfolding machine_of_deck deck_header map_line does_count
good-steady d h =
    let lines : ℕ → List (Line Slot ℕ) = λ k. (get_or d.macros k no_macro).lines in
    let does : (k i : ℕ) → Does ℕ = λ k i. (get_or (lines k) i no_line).does in
    let back : (k i : ℕ) (x : Does ℕ) → map_does (λ t. t) (does k i) ≡ x → does k i ≡ x = λ k i x e. sym (mapped (does k i)) ∙ e in
    let actr : (k i : ℕ) → i < length (lines k) → map_does (λ t. t) (does k i) ≡ counts → actr_end (lines k) ≡ suc i =
    λ k i hi e. actr-at (lines k) i (at-macro d h k (has-macro d.macros k i hi)).counted hi (ap does_count (back k i counts e)) in
    record {
      once = λ k i j l l' vs vs' hi hj e e'. omega (arith, actr k i hi e, actr k j hj e');
      behind = λ k i j t l l' vs vs' hi hj e w.
          let a : actr_end (lines k) ≡ suc i = actr k i hi e in
          let b : actr_end (lines k) ≤ t = target-of (actr_end (lines k)) (length (lines k)) t (does k j)
          (line-in-order d.globals (get_or d.macros k no_macro) (actr_end (lines k)) (get_or (lines k) j no_line) (in_order d h k j (has-macro d.macros k j hj) hj))
          (⊎_elim (λ (x : map_does (λ t. t) (does k j) ≡ branches t). inl (back k j (branches t) x)) (λ (x : map_does (λ t. t) (does k j) ≡ branches_if t). inr (back k j (branches_if t) x)) w) in
          omega (arith, a, b);
    }

-- ---- lines are never refused as ill-formed, and copied lines are good

-- the kind of what a slot holds
held-kind : (globals : List Set) (m : DeckMacro) (l : Level) (vs : List Value) (s : Slot) → (held globals m l vs s).kind ≡ slot_kind globals m s
unfolding held slot_kind own_cell shared_cell system_cell
held-kind globals m l vs (own p) = refl
held-kind globals m l vs (shared g) = refl
held-kind globals m l vs list = refl
held-kind globals m l vs index = refl
held-kind globals m l vs section = refl
held-kind globals m l vs nowhere = refl

formed-line : (globals : List Set) (m : DeckMacro) (actr : ℕ) (x : Line Slot ℕ) → is_line globals m actr x ≡ true → is_formed nest_limit (map_line (slot_kind globals m) (λ t. t) x) ≡ true
unfolding is_line
formed-line globals m actr x h =
    last-of-five (is_in_order actr (length m.lines) x.does) (are_lexemes x.name) (are_lexemes x.operation) (are_lexemes x.operand)
    (is_formed nest_limit (map_line (slot_kind globals m) (λ t. t) x)) h

no_word : is_language_word no_fields.operation ≡ false
unfolding is_language_word words no_fields
no_word = refl

statement-good : (f : Fields) → is_statement_text f ≡ true → is_language_word f.operation ≡ false
unfolding is_statement_text
statement-good f h =
    let others = is_copied f && not (starts_with (bytes ".") f.name) in
    is-not (is_language_word f.operation) (and_left (not (is_language_word f.operation)) others (and_right (not (is_empty f.operation)) (not (is_language_word f.operation) && others) h))

text-good : (s : Bytes) → is_text s ≡ true → (is_ill_written s ≡ false) × (is_language_word (statement_fields s).operation ≡ false)
unfolding is_text statement_fields is_remark
text-good s h =
    let c = is_copied_remark s in
    let n = is_dropped_remark s in
    let t = is_statement_text (fields_of s) in (
      is-not (is_ill_written s) (and_left (not (is_ill_written s)) (c || (not n && t)) h),
      by (c || n)
          (λ e. ap (λ (f : Fields). is_language_word f.operation) (chosen no_fields (fields_of s) e) ∙ no_word)
          (λ e. ap (λ (f : Fields). is_language_word f.operation) (passed_over no_fields (fields_of s) e)
          ∙ statement-good (fields_of s) (and_right (not n) t (else-so c (not n && t) (and_right (not (is_ill_written s)) (c || (not n && t)) h) (or_left c n e)))),
    )

text_in-order : (actr n : ℕ) (x : Does ℕ) (s : Bytes) → is_in_order actr n x ≡ true → x ≡ text s → is_text s ≡ true
unfolding is_in_order
text_in-order actr n x s h e = subst (λ y. is_in_order actr n y ≡ true) e h

pub good-sound : (d : Deck) → is_good d ≡ true → Sound (machine_of_deck d)
unfolding machine_of_deck deck_header map_line
good-sound d h =
    let m : ℕ → DeckMacro = λ k. get_or d.macros k no_macro in
    let x : (k i : ℕ) → Line Slot ℕ = λ k i. get_or (m k).lines i no_line in
    let good : (k i : ℕ) → i < length (m k).lines → is_line d.globals (m k) (actr_end (m k).lines) (x k i) ≡ true = λ k i hi. in_order d h k i (has-macro d.macros k i hi) hi in
    record {
      fine = λ k i l vs hk hi. formed-decides (map_line (held d.globals (m k) l vs) (λ t. t) (x k i))
          (ap (is_formed nest_limit) (map_line-map_line (held d.globals (m k) l vs) (λ c. c.kind) (λ t. t) (held-kind d.globals (m k) l vs) (x k i))
          ∙ formed-line d.globals (m k) (actr_end (m k).lines) (x k i) (good k i hi));
      texts = λ k i l vs s hk hi e. text-good s (text_in-order (actr_end (m k).lines) (length (m k).lines) (x k i).does s
          (line-in-order d.globals (m k) (actr_end (m k).lines) (x k i) (good k i hi)) (sym (mapped (x k i).does) ∙ e));
    }

-- ---- every deck in good form

-- its runs reach their answer within `enough` moves
pub decks-end : (d : Deck) → is_good d ≡ true → (program : List Bytes) (room : ℕ)
    → (a : Answer) × Stops (machine_of_deck d) (enough (machine_of_deck d) (length program)) (begun (machine_of_deck d) program room) a
decks-end d h program room = Ends.ends (good-steady d h) (good-closed d h) program room

-- every slice of bytes: the answer is a result, or a refusal of 01 for its place
at-once : (is_of01 (at_once short_workspace) ≡ true) × (is_of01 (at_once bad_deck) ≡ true)
unfolding is_of01 at_once numbers_at
at-once = (refl, refl)

answer-of-01 : (o : Option Deck) (program : Bytes) (room work : ℕ) → is_of01 (deck_answer (if_good o) program room work) ≡ true
unfolding if_good deck_answer
answer-of-01 none program room work = at-once.1
answer-of-01 (some d) program room work = by (is_good d) told broken
  where
    told : is_good d ≡ true → is_of01 (deck_answer (choose (is_good d) (some d) none) program room work) ≡ true
    told h = ap (λ o. is_of01 (deck_answer o program room work)) (chosen (some d) none h) ∙ refusals (good-steady d h) (good-closed d h) (good-sound d h) program room work

    broken : is_good d ≡ false → is_of01 (deck_answer (choose (is_good d) (some d) none) program room work) ≡ true
    broken h = ap (λ o. is_of01 (deck_answer o program room work)) (passed_over (some d) none h) ∙ at-once.1

pub deck-of-01 : (deck program out work : Bytes) → is_of01 (by_deck deck program out work).answer ≡ true
unfolding by_deck deck_expansion good_deck
deck-of-01 deck program out work =
    either (λ a. is_of01 a ≡ true) (ltb (length work) workspace_size) (λ e. at-once.0) (λ e. answer-of-01 (decoded deck) program (length out) (length work))
