-- The lines of an accepted library's macros: MEND at the end and only there, ACTR once at most and behind declarations, texts and targets in order.
use Prim.Native.Nat.{ℕ, zero, suc, ◌-◌, ◌≤◌, ◌<◌}
use native.Mathlib.Omega.{arith}
use mathlib.Core.Path.{◌≡◌, refl, ap, sym, ◌∙◌, subst}
use mathlib.Core.Logic.{⊎_elim}
use mathlib.Core.Bool.{Bool, true, false, true≢false, false≢true, ◌&&◌, ◌||◌, not}
use mathlib.Core.List.{List, [], ◌∷◌, map}
use lib.Dec.{eqb}
use lib.ListN.{length, get_or, drop, length-map}
use borrow.Author.Tests.{le-leb, lt-ltb, eqb-false, not-true}
use Rattle.text.specs.Bytes.{Bytes, bytes, same}
use Rattle.text.specs.Words.{words, word_number}
use Rattle.rules.specs.Choice.{choose, every, any}
use Rattle.rules.specs.Lexemes.{is_plain, lexed, is_sequence}
use Rattle.rules.specs.Fields.{is_remark, is_copied_remark, is_dropped_remark, starts_with, Fields, fields_of, statement_fields, is_empty}
use Rattle.rules.specs.Statement.{Set, Statement, macro, mend, mexit, local, global, set, aif, ago, anop, actr, model, statements, statement_of, Does, passes, ends, exits, text, models, sets, branches_if, branches, counts, Line, map_does, map_line, is_copied, doing, model_of, says, read}
use Rattle.rules.specs.Library.{Macro, operation_of, is_mend, line_named}
use Rattle.rules.specs.ByLines.{Reading, reading}
use Rattle.rules.specs.Faults.{at_statement, ends_declarations, is_misplaced, is_model_name, are_fields_good, accepted, verdict}
use Rattle.rules.proofs.Choices.{by, either, chosen, passed_over, and_right}
use Rattle.rules.proofs.Logic.{clash, then-not, else-so, any-first, any-behind, any-in-front}
use Rattle.rules.proofs.Said.{is_text as is_textual, text_in, is_count, count_kept, targets, is_model, model-is-no-word, statement_on, remark-says, statement-says, ends_there}
use Rattle.rules.proofs.Symbols.{same-sym, get_d-mapped}
use Rattle.rules.proofs.Closed.{mend-ends}
use Rattle.rules.proofs.Texts.{text-line}
use Rattle.rules.proofs.Accepted.{Stands, well-written, in_place, good-fields, Body, last, line, Known, line-stands}
use Rattle.rules.proofs.Counting.{count-line, actr-at-statement, actr-misplaced, target_found, goes-behind}
use Rattle.rules.proofs.Walked.{Proper, body_of}
use Rattle.deck.specs.Slots.{Slot, DeckMacro, resolved_line, deck_macro, no_line}
use Rattle.deck.specs.Good.{is_statement_text, is_text, is_target, is_in_order, does_end, ends_once, does_count, may_precede, actr_end, counts_once}
use Rattle.deck.proofs.Tests.{every-each, none-there}
use Rattle.deck.proofs.Macros.{Each, each-macro}

-- ---- MEND

abbrev is_mend_statement : Statement → Bool
is_mend_statement macro = false
is_mend_statement mend = true
is_mend_statement mexit = false
is_mend_statement (local k) = false
is_mend_statement (global k) = false
is_mend_statement (set k) = false
is_mend_statement aif = false
is_mend_statement ago = false
is_mend_statement anop = false
is_mend_statement actr = false
is_mend_statement model = false

-- an operation that is not MEND is another statement
no-mend : (o : Bytes) → same o (bytes "MEND") ≡ false → is_mend_statement (statement_of o) ≡ false
unfolding statement_of statements word_number words any
no-mend o h = go (same (bytes "MACRO") o) (same (bytes "MEND") o) _ (same-sym (bytes "MEND") o ∙ h)
  where
    go : (a b : Bool) (k : ℕ) → b ≡ false → is_mend_statement (get_or statements (elim a [ true ↦ 0 | false ↦ suc (elim b [ true ↦ 0 | false ↦ suc k ]) ]) model) ≡ false
    go true b k e = refl
    go false true k e = absurd (true≢false e)
    go false false k e = none-there is_mend_statement (drop 2 statements) model k refl refl

module _ (g : Bytes → ℕ) where
  mend-statement : (l : Bytes) (f : Fields) (s : Statement) → does_end (map_does g (says l f s).does) ≡ is_mend_statement s
  unfolding says doing model_of map_does does_end
  mend-statement l f macro = refl
  mend-statement l f mend = refl
  mend-statement l f mexit = refl
  mend-statement l f (local k) = refl
  mend-statement l f (global k) = refl
  mend-statement l f (set k) = refl
  mend-statement l f aif = refl
  mend-statement l f ago = refl
  mend-statement l f anop = refl
  mend-statement l f actr = refl
  mend-statement l f model = either (λ (x : Line Bytes Bytes). does_end (map_does g x.does) ≡ false) (is_copied f) (λ e. refl) (λ e. refl)

  mend-line : (l : Bytes) → is_mend l ≡ true → does_end (map_does g (read l).does) ≡ true
  unfolding map_does does_end
  mend-line l e = ap (λ (d : Does Bytes). does_end (map_does g d)) (mend-ends l e)

  other-line : (l : Bytes) → is_mend l ≡ false → does_end (map_does g (read l).does) ≡ false
  unfolding is_mend operation_of map_does does_end doing
  other-line l e =
      by (is_remark l)
      (λ r. ⊎_elim (λ q. ap (λ (x : Line Bytes Bytes). does_end (map_does g x.does)) q) (λ q. ap (λ (x : Line Bytes Bytes). does_end (map_does g x.does)) q) (remark-says l r))
      (λ r. ap (λ (x : Line Bytes Bytes). does_end (map_does g x.does)) (statement-says l r)
      ∙ (mend-statement l (statement_fields l) (statement_on l) ∙ no-mend (statement_fields l).operation e))

copied-says : (l : Bytes) → is_copied_remark l ≡ true → read l ≡ doing (text l)
unfolding read
copied-says l e = chosen _ _ e

dropped-says : (l : Bytes) → is_copied_remark l ≡ false → is_dropped_remark l ≡ true → read l ≡ doing passes
unfolding read
dropped-says l e f = passed_over _ _ e ∙ chosen _ _ f

or-true : (t : Bool) → (t || true) ≡ true
or-true true = refl
or-true false = refl

module _ (r : Reading) (globals : List (Bytes × Set)) where
  abbrev goes : Bytes → ℕ
  goes t = line_named t r.body

  abbrev made : Bytes → Line Slot ℕ
  made = resolved_line r globals

  made-does : (l : Bytes) → (made l).does ≡ map_does goes (read l).does
  unfolding resolved_line map_line
  made-does l = refl

  ends-once : {p : Bytes} {before rest : List Bytes} → Body p before rest → ends_once (map made rest) ≡ true
  unfolding ends_once
  ends-once (last {l = l} e s) = ap does_end (made-does l) ∙ mend-line goes l e
  ends-once (line {l = l} e s (last e₂ s₂)) = λ i. not ((ap does_end (made-does l) ∙ other-line goes l e) i) && ends-once (last e₂ s₂) i
  ends-once (line {l = l} e s (line e₂ s₂ b)) = λ i. not ((ap does_end (made-does l) ∙ other-line goes l e) i) && ends-once (line e₂ s₂ b) i

  -- ---- ACTR

  does-count : (d : Does ℕ) → does_count d ≡ is_count d
  unfolding does_count
  does-count passes = refl
  does-count ends = refl
  does-count exits = refl
  does-count (text s) = refl
  does-count models = refl
  does-count (sets k) = refl
  does-count (branches_if t) = refl
  does-count (branches t) = refl
  does-count counts = refl

  abbrev counting : Line Slot ℕ → Bool
  counting k = does_count k.does

  made-counts : (l : Bytes) → counting (made l) ≡ is_count (read l).does
  made-counts l = ap does_count (made-does l) ∙ (does-count _ ∙ count_kept goes (read l).does)

  actr-ends : (l : Bytes) → counting (made l) ≡ true → ends_declarations l ≡ true
  actr-ends l c = let q = count-line l (sym (made-counts l) ∙ c) in ends_there l q.0 (actr-at-statement (statement_on l) q.1)

  late-line : {p : Bytes} {before : List Bytes} {l : Bytes} {after : List Bytes} → Stands p before l after → any ends_declarations before ≡ true → counting (made l) ≡ false
  unfolding operation_of
  late-line {before = before} {l = l} x h =
      by (counting (made l))
      (λ c.
      let q = count-line l (sym (made-counts l) ∙ c) in
      clash h (sym (actr-misplaced before (operation_of l) (statement_on l) q.1) ∙ in_place x q.0))
      (λ c. c)

  none-late : {p : Bytes} {before rest : List Bytes} → Body p before rest → any ends_declarations before ≡ true → any counting (map made rest) ≡ false
  unfolding any
  none-late (last e s) h = λ i. late-line s h i || false
  none-late (line {before = before} {l = l} e s b) h = λ i. late-line s h i || none-late b (any-in-front ends_declarations before (l ∷ []) h) i

  -- a line that ends no declarations may stand before ACTR
  statement-precedes : (l : Bytes) (f : Fields) (s : Statement) → at_statement s ≡ false → may_precede (map_does goes (says l f s).does) ≡ true
  unfolding at_statement says doing map_does may_precede
  statement-precedes l f macro h = refl
  statement-precedes l f mend h = absurd (true≢false h)
  statement-precedes l f mexit h = absurd (true≢false h)
  statement-precedes l f (local k) h = refl
  statement-precedes l f (global k) h = refl
  statement-precedes l f (set k) h = absurd (true≢false h)
  statement-precedes l f aif h = absurd (true≢false h)
  statement-precedes l f ago h = absurd (true≢false h)
  statement-precedes l f anop h = absurd (true≢false h)
  statement-precedes l f actr h = absurd (true≢false h)
  statement-precedes l f model h = absurd (true≢false h)

  abbrev precedes : Line Bytes Bytes → Bool
  precedes x = may_precede (map_does goes x.does)

  line-precedes : (l : Bytes) → ends_declarations l ≡ false → may_precede (made l).does ≡ true
  unfolding ends_declarations operation_of is_remark doing map_does may_precede
  line-precedes l h =
      ap may_precede (made-does l)
      ∙ by (is_copied_remark l) (λ e. ap precedes (copied-says l e) ∙ e)
      (λ e. by (is_dropped_remark l) (λ f. ap precedes (dropped-says l e f))
      (λ f. let r : is_remark l ≡ false = λ i. e i || f i in
      ap precedes (statement-says l r) ∙ statement-precedes l (statement_fields l) (statement_on l) (then-not (not (is_remark l)) _ h (ap not r))))

  counts-once : {p : Bytes} {before rest : List Bytes} → Body p before rest → counts_once (map made rest) ≡ true
  unfolding counts_once any
  counts-once (last {l = l} e s) = one (counting (made l)) (may_precede (made l).does)
    where
      one : (b c : Bool) → choose b true (true && (c || true)) ≡ true
      one true c = chosen _ _ refl
      one false true = passed_over _ _ refl
      one false false = passed_over _ _ refl
  counts-once (line {before = before} {l = l} {ls = ls} e s b) =
      either (λ (t : Bool). t ≡ true) (counting (made l))
      (λ c. ap not (behind (actr-ends l c)))
      (λ c i. counts-once b i && go i)
    where
      behind : ends_declarations l ≡ true → any counting (map made ls) ≡ false
      behind h = none-late b (any-behind ends_declarations before (l ∷ []) (any-first ends_declarations l [] h))

      go : (may_precede (made l).does || not (any counting (map made ls))) ≡ true
      go = by (ends_declarations l) (λ h. ap (λ (t : Bool). may_precede (made l).does || not t) (behind h) ∙ or-true (may_precede (made l).does))
          (λ h. ap (λ (t : Bool). t || not (any counting (map made ls))) (line-precedes l h))

-- how many lines there are up to ACTR, where ACTR stands before a line
actr-end-within : (ls : List (Line Slot ℕ)) (t : ℕ) → ((i : ℕ) → i < length ls → does_count (get_or ls i no_line).does ≡ true → i < t) → actr_end ls ≤ t
unfolding actr_end
actr-end-within [] t h = omega arith
actr-end-within (l ∷ ls) t h =
    let r = actr-end-within ls (t - 1) (λ i lt c. omega (arith, h (suc i) (omega (arith, lt)) c)) in
    either (λ n. n ≤ t) (does_count l.does) (λ c. h 0 (omega arith) c)
    (λ c. either (λ n. n ≤ t) (eqb (actr_end ls) 0) (λ e. omega arith) (λ e. positive (actr_end ls) t r (eqb-false (actr_end ls) 0 e)))
  where
    positive : (a t : ℕ) → a ≤ t - 1 → (a ≡ 0 → ⊥) → suc a ≤ t
    positive zero t h e = absurd (e refl)
    positive (suc a) t h e = omega (arith, h)

-- ---- texts

-- a statement that is used as it stands is a model statement, as the rules ask
text-statement : (l : Bytes) (f : Fields) (before : List Bytes) (o : Bytes) (s : Statement) → is_textual (says l f s).does ≡ true → are_fields_good f s ≡ true → is_misplaced before o s ≡ false
    → (is_model s ≡ true) × (is_empty o ≡ false) × (is_copied f ≡ true) × (is_model_name f.name ≡ true)
unfolding says doing model_of are_fields_good is_misplaced
text-statement l f before o macro h g m = absurd (false≢true h)
text-statement l f before o mend h g m = absurd (false≢true h)
text-statement l f before o mexit h g m = absurd (false≢true h)
text-statement l f before o (local k) h g m = absurd (false≢true h)
text-statement l f before o (global k) h g m = absurd (false≢true h)
text-statement l f before o (set k) h g m = absurd (false≢true h)
text-statement l f before o aif h g m = absurd (false≢true h)
text-statement l f before o ago h g m = absurd (false≢true h)
text-statement l f before o anop h g m = absurd (false≢true h)
text-statement l f before o actr h g m = absurd (false≢true h)
text-statement l f before o model h g m = (
  refl,
  m,
  either (λ (x : Line Bytes Bytes). is_textual x.does ≡ true → is_copied f ≡ true) (is_copied f) {x = doing (text l)} {y = model_of f} (λ e q. e) (λ e q. absurd (false≢true q)) h,
  g,
)

copied-no-sequence : (f : Fields) → is_copied f ≡ true → is_sequence f.name ≡ false
unfolding is_copied
copied-no-sequence f h =
    not-true (is_sequence f.name)
    (and_right (every is_plain (lexed true f.operand)) _
    (and_right (every is_plain (lexed false f.operation)) _ (and_right (every is_plain (lexed false f.name)) _ h)))

pub no-period : (name : Bytes) → is_model_name name ≡ true → is_sequence name ≡ false → not (starts_with (bytes ".") name) ≡ true
unfolding is_model_name
no-period name h s =
    by (starts_with (bytes ".") name) (λ e. clash (else-so (not (starts_with (bytes ".") name)) (is_sequence name) h (ap not e)) s) (λ e. ap not e)

pub fields-are : (l : Bytes) → is_remark l ≡ false → statement_fields l ≡ fields_of l
unfolding statement_fields
fields-are l e = passed_over _ _ e

good-text : {p : Bytes} {before : List Bytes} {l : Bytes} {after : List Bytes} → Stands p before l after → is_textual (read l).does ≡ true → is_text l ≡ true
unfolding is_text is_statement_text operation_of is_remark doing
good-text {before = before} {l = l} x h =
    by (is_copied_remark l) (λ e i. not (well-written x i) && (e i || (not (is_dropped_remark l) && is_statement_text (fields_of l))))
    (λ e. by (is_dropped_remark l) (λ d. clash h (ap (λ (y : Line Bytes Bytes). is_textual y.does) (dropped-says l e d)))
    (λ d.
    let r : is_remark l ≡ false = λ i. e i || d i in
    let f = statement_fields l in
    let q = text-statement l f before (operation_of l) (statement_on l) (sym (ap (λ (y : Line Bytes Bytes). is_textual y.does) (statement-says l r)) ∙ h) (good-fields x r) (in_place x r) in
    let t : is_statement_text f ≡ true = λ i.
    not (q.1 i) && (not (model-is-no-word f.operation q.0 i) && (q.2 i && no-period f.name q.3 (copied-no-sequence f q.2) i)) in
    λ i. not (well-written x i) && (e i || (not (d i) && (ap is_statement_text (sym (fields-are l r)) ∙ t) i))))

-- ---- every line

in_order : (actr count : ℕ) (g : Bytes → ℕ) (d : Does Bytes) → ((s : Bytes) → d ≡ text s → is_text s ≡ true) → ((t : Bytes) → targets d ≡ t ∷ [] → is_target actr count (g t) ≡ true)
    → is_in_order actr count (map_does g d) ≡ true
unfolding is_in_order map_does
in_order a n g passes texts go = refl
in_order a n g ends texts go = refl
in_order a n g exits texts go = refl
in_order a n g (text s) texts go = texts s refl
in_order a n g models texts go = refl
in_order a n g (sets k) texts go = refl
in_order a n g (branches_if t) texts go = go t refl
in_order a n g (branches t) texts go = go t refl
in_order a n g counts texts go = refl

module _ (r : Reading) (globals : List (Bytes × Set)) (a : Known r) where
  abbrev mades : List (Line Slot ℕ)
  mades = map (made r globals) r.body

  made_at : (i : ℕ) → i < length r.body → get_or mades i no_line ≡ made r globals (get_or r.body i [])
  made_at i h = get_d-mapped (made r globals) r.body i [] no_line h

  counting-at : (i : ℕ) → i < length r.body → does_count (get_or mades i no_line).does ≡ true → is_count (read (get_or r.body i [])).does ≡ true
  counting-at i h c = sym (ap (λ (x : Line Slot ℕ). does_count x.does) (made_at i h) ∙ made-counts r globals (get_or r.body i [])) ∙ c

  target-good : (j : ℕ) (t : Bytes) → j < length r.body → targets (read (get_or r.body j [])).does ≡ t ∷ []
      → is_target (actr_end mades) (length mades) (line_named t r.body) ≡ true
  unfolding is_target
  target-good j t h e =
      let n = line_named t r.body in
      let q = (target_found a j t h e).0 in
      let m = length-map r.body (made r globals) in
      let w = actr-end-within mades n (λ i lt c. let k : i < length r.body = omega (arith, lt, m) in goes-behind a i j t k h (counting-at i k c) e) in
      λ i. lt-ltb n (length mades) (omega (arith, q, m)) i && le-leb (actr_end mades) n w i

  line-in-order : (j : ℕ) → j < length r.body → is_in_order (actr_end mades) (length mades) (made r globals (get_or r.body j [])).does ≡ true
  line-in-order j h =
      let l = get_or r.body j [] in
      ap (is_in_order (actr_end mades) (length mades)) (made-does r globals l)
      ∙ in_order (actr_end mades) (length mades) (goes r globals) (read l).does
      (λ s e.
      let y = ap is_textual e in
      subst (λ (u : Bytes). is_text u ≡ true) (sym (text-line l y).0 ∙ ap text_in e) (good-text (line-stands a j h) y))
      (λ t e. target-good j t h e)

  lines-in-order : every (λ l. is_in_order (actr_end mades) (length mades) l.does) mades ≡ true
  lines-in-order =
      every-each (λ l. is_in_order (actr_end mades) (length mades) l.does) mades no_line
      (λ j h. let k : j < length r.body = omega (arith, h, length-map r.body (made r globals)) in
      ap (λ (l : Line Slot ℕ). is_in_order (actr_end mades) (length mades) l.does) (made_at j k) ∙ line-in-order j k)

-- ---- the macros of the library

pub known_of : (x : Macro) → Proper x → Known (reading x)
unfolding reading
known_of x p = record { prototype = x.prototype; names-are = refl; is-sound = body_of p.body-faultless }

ends-of : (gs : List (Bytes × Set)) (x : Macro) → Proper x → ends_once (deck_macro gs (reading x)).lines ≡ true
unfolding deck_macro
ends-of gs x p = ends-once (reading x) gs (known_of x p).is-sound

pub end-once : (library : Bytes) → verdict library ≡ accepted → Each library (λ m. ends_once m.lines ≡ true)
end-once library e = each-macro library e (λ m. ends_once m.lines ≡ true) (ends-of _)

counts_of : (gs : List (Bytes × Set)) (x : Macro) → Proper x → counts_once (deck_macro gs (reading x)).lines ≡ true
unfolding deck_macro
counts_of gs x p = counts-once (reading x) gs (known_of x p).is-sound

pub count-once : (library : Bytes) → verdict library ≡ accepted → Each library (λ m. counts_once m.lines ≡ true)
count-once library e = each-macro library e (λ m. counts_once m.lines ≡ true) (counts_of _)

abbrev InOrder : DeckMacro → Type 0
InOrder m = every (λ l. is_in_order (actr_end m.lines) (length m.lines) l.does) m.lines ≡ true

order-of : (gs : List (Bytes × Set)) (x : Macro) → Proper x → InOrder (deck_macro gs (reading x))
unfolding deck_macro
order-of gs x p = lines-in-order (reading x) gs (known_of x p)

pub all-in-order : (library : Bytes) → verdict library ≡ accepted
    → Each library (λ m. every (λ l. is_in_order (actr_end m.lines) (length m.lines) l.does) m.lines ≡ true)
all-in-order library e = each-macro library e InOrder (order-of _)
