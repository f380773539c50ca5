-- The fields and defaults of an accepted library's deck are such as 01's reader gives them.
use Prim.Native.Nat.{ℕ, zero, suc, pred, ◌<◌}
use mathlib.Core.Path.{◌≡◌, refl, ap, sym, ◌∙◌, subst}
use mathlib.Core.Logic.{⊎_elim}
use mathlib.Core.Bool.{Bool, true, false, false≢true, ◌&&◌, ◌||◌, not}
use mathlib.Core.List.{List, [], ◌∷◌, ◌++◌, map, map-append}
use lib.Dec.{eqb}
use lib.ListN.{length, take, drop, take-append-drop, length-map}
use borrow.Author.Tests.{eqb-true, eq-eqb, not-true}
use Rattle.text.specs.Bytes.{Bytes, bytes, same}
use Rattle.text.specs.Characters.{letter, digit, letter_or_digit, in_set}
use Rattle.text.specs.Words.{place_among, word_number, words}
use Rattle.text.proofs.Same.{same-is}
use Rattle.rules.specs.Choice.{choose, passed, run, every, on_first}
use Rattle.rules.specs.Limits.{name_limit, macro_name_limit}
use Rattle.rules.specs.Lexemes.{space, ampersand, apostrophe, opening, closing, comma, period, equals, Lex, byte, mark, ref, lone, byte_of, is_plain, Before, field_start, follows, is_mark, after, marked, Mode, in_text, after_ampersand, in_symbol, symbols, lexed, unlexed, is_name, is_sequence, Inside, outside, enters, is_bare}
use Rattle.rules.specs.Fields.{is_remark, is_copied_remark, starts_with, is_space, is_no_space, Fields, fields_of, ends_operand, operand_end, holds_spaces, is_empty}
use Rattle.rules.specs.Statement.{Set, set_a, set_b, set_c, Statement, macro, mend, mexit, local, global, set, aif, ago, anop, actr, model, statements, statement_of, text, Line, map_lex, map_does, map_line, pairs_first, starts_open, condition_end, is_copied, doing, model_of, says, read}
use Rattle.rules.specs.Machine.{is_language_word}
use Rattle.rules.specs.Calls.{parts, divided, has_equals}
use Rattle.rules.specs.Library.{Macro, line_named, keyword_names, operand_parts, names_in, operation_of}
use Rattle.rules.specs.ByLines.{Reading, reading}
use Rattle.rules.specs.Faults.{is_misplaced, is_macro_name, is_good_part, is_default, are_good_parts, is_named_or_empty, is_model_name, target_behind, are_fields_good, accepted, verdict}
use Rattle.rules.proofs.Choices.{by, either, chosen, passed_over, and_left, and_right}
use Rattle.rules.proofs.Logic.{All, clash, or_left}
use Rattle.rules.proofs.Said.{is_model, model-is-no-word, remark-says, statement-says}
use Rattle.rules.proofs.Symbols.{get_d-mapped}
use Rattle.rules.proofs.NoLone.{is_no_lone, NoLone}
use Rattle.rules.proofs.ReadLines.{InSet, every-behind, Holds, fields-held, written_in}
use Rattle.rules.proofs.BodyLines.{Clean, line_clean}
use Rattle.rules.proofs.Accepted.{Stands, well-written, in_place, good-fields, Known, line-stands}
use Rattle.rules.proofs.Lossless.{lexed-back}
use Rattle.rules.proofs.Pieces.{byte-is, Piece, parts-stand}
use Rattle.rules.proofs.Defaults.{mark-same, after_same, default-again}
use Rattle.rules.proofs.Walked.{Proper}
use Rattle.rules.proofs.Prototypes.{title-is, title-named, parts-good}
use Rattle.deck.specs.Slots.{Slot, resolved, resolved_line, deck_macro, no_macro, no_line, resolved_library}
use Rattle.deck.specs.AsRead.{last_byte, is_read, is_field, is_word_field, is_end, is_operand, starts_plainly, is_model_operation, is_read_by, is_read_line, is_bare_comma, is_read_default}
use Rattle.deck.specs.Good.{is_read_macro}
use Rattle.deck.proofs.Keywords.{Keyworded, part-split, keyword-is, default-good, first-of-good, no-keyword}
use Rattle.deck.proofs.Tests.{every-each}
use Rattle.deck.proofs.Macros.{each-macro}
use Rattle.deck.proofs.Lines.{no-period, fields-are, known_of}
use Rattle.deck.proofs.InOrder.{both}

abbrev Lexes : Type 0
Lexes = List (Lex Bytes)

-- ---- a name or an operation has no space

front-no-space : (l : Bytes) → every is_no_space (take (run is_no_space l) l) ≡ true
unfolding every run
front-no-space [] = refl
front-no-space (c ∷ l) = either (λ (n : ℕ). every is_no_space (take n (c ∷ l)) ≡ true) (is_no_space c) (λ e. both e (front-no-space l)) (λ e. refl)

name-no-space : (l : Bytes) → every is_no_space (fields_of l).name ≡ true
unfolding fields_of
name-no-space l = front-no-space l

operation-no-space : (l : Bytes) → every is_no_space (fields_of l).operation ≡ true
unfolding fields_of
operation-no-space l = let l₁ = drop (run is_no_space l) l in front-no-space (drop (run is_space l₁) l₁)

no-space-in : (g : Bytes → Slot) (x : Lexes) → every is_no_space (unlexed x) ≡ true → every (λ y. not (eqb (byte_of y) space)) (map (map_lex g) x) ≡ true
unfolding every is_no_space unlexed map_lex byte_of
no-space-in g [] h = refl
no-space-in g (byte c ∷ x) h = both (and_left (is_no_space c) _ h) (no-space-in g x (and_right (is_no_space c) _ h))
no-space-in g (mark ∷ x) h = no-space-in g x h
no-space-in g (ref n ∷ x) h = no-space-in g x (every-behind is_no_space n (unlexed x) h)
no-space-in g (lone ∷ x) h = no-space-in g x h

-- the lexemes of a field without spaces have none
lexed-no-space : (g : Bytes → Slot) (quotes : Bool) (s : Bytes) → every is_no_space s ≡ true → every (λ y. not (eqb (byte_of y) space)) (map (map_lex g) (lexed quotes s)) ≡ true
lexed-no-space g quotes s h = no-space-in g (lexed quotes s) (ap (every is_no_space) (lexed-back quotes s) ∙ h)

-- ---- scans that stop nowhere

abbrev Free : {R : Type 0} → (Inside → Lex R → Bool) → Inside → List (Lex R) → Type 0
Free stop i [] = Unit {0}
Free stop i (x ∷ s) = (stop i x ≡ false) × Free stop (enters i x) s

free-passed : {R : Type 0} (stop : Inside → Lex R → Bool) (i : Inside) (x : List (Lex R)) → Free stop i x → passed stop enters i x ≡ length x
unfolding passed
free-passed stop i [] h = refl
free-passed stop i (x ∷ s) h = passed_over _ _ h.0 ∙ ap suc (free-passed stop (enters i x) s h.1)

free-front : {R : Type 0} (stop : Inside → Lex R → Bool) (n : ℕ) (i : Inside) (x : List (Lex R)) → Free stop i x → Free stop i (take n x)
free-front stop zero i x h = tt
free-front stop (suc n) i [] h = tt
free-front stop (suc n) i (x ∷ s) h = (h.0, free-front stop n (enters i x) s h.1)

free-mapped : (g : Bytes → Slot) (holds : Bool) (i : Inside) (x : Lexes) → Free (is_end holds) i x → Free (is_end holds) i (map (map_lex g) x)
unfolding is_end map_lex byte_of enters
free-mapped g holds i [] h = tt
free-mapped g holds i (byte c ∷ x) h = (h.0, free-mapped g holds (enters {R = Bytes} i (byte c)) x h.1)
free-mapped g holds i (mark ∷ x) h = (h.0, free-mapped g holds (enters {R = Bytes} i mark) x h.1)
free-mapped g holds i (ref n ∷ x) h = (h.0, free-mapped g holds (enters i (ref n)) x h.1)
free-mapped g holds i (lone ∷ x) h = (h.0, free-mapped g holds (enters {R = Bytes} i lone) x h.1)

-- ---- an operand ends at no place before its end

same_branch : {A : Type 0} (b : Bool) (x : A) → choose b x x ≡ x
unfolding choose
same_branch true x = refl
same_branch false x = refl

-- a lexeme behind which a scan stands as before it
still : (i : Inside) (x : Lex Bytes) → eqb (byte_of x) apostrophe ≡ false → eqb (byte_of x) opening ≡ false → eqb (byte_of x) closing ≡ false → enters i x ≡ i
unfolding enters
still i x a o c = λ k. record {
  quoted = passed_over (not i.quoted) i.quoted a k;
  depth = (ap (λ (n : ℕ). choose i.quoted i.depth n) (passed_over (suc i.depth) (choose (eqb (byte_of x) closing) (pred i.depth) i.depth) o ∙ passed_over (pred i.depth) i.depth c) ∙ same_branch i.quoted i.depth) k;
}

-- a byte that passes a test which another does not
unlike : (test : ℕ → Bool) (d c : ℕ) → test d ≡ false → test c ≡ true → eqb c d ≡ false
unlike test d c f t = by (eqb c d) (λ e. clash t (ap test (eqb-true c d e) ∙ f)) (λ e. e)

still-by : (test : ℕ → Bool) → test apostrophe ≡ false → test opening ≡ false → test closing ≡ false → (i : Inside) (x : Lex Bytes) → test (byte_of x) ≡ true → enters i x ≡ i
still-by test a o c i x t =
    still i x (unlike test apostrophe (byte_of x) a t) (unlike test opening (byte_of x) o t) (unlike test closing (byte_of x) c t)

still-at-ampersand : (i : Inside) (x : Lex Bytes) → eqb (byte_of x) ampersand ≡ true → enters i x ≡ i
still-at-ampersand i x e = still-by (λ c. eqb c ampersand) refl refl refl i x e

still-at-letter : (i : Inside) (x : Lex Bytes) → letter (byte_of x) ≡ true → enters i x ≡ i
unfolding letter
still-at-letter i x e = still-by letter refl refl refl i x e

still-at-letter_or_digit : (i : Inside) (x : Lex Bytes) → letter_or_digit (byte_of x) ≡ true → enters i x ≡ i
unfolding letter digit letter_or_digit
still-at-letter_or_digit i x e = still-by letter_or_digit refl refl refl i x e

module _ (holds : Bool) where
  abbrev Runs : Inside → Lexes → Type 0
  Runs i x = Free (is_end holds) i x

  -- a lexeme that is read and not yet handed on, and one that is handed on
  unread : (i : Inside) (x : Lex Bytes) (s : Lexes) → enters i x ≡ i → Runs (enters i x) s → Runs i s
  unread i x s e h = subst (λ (j : Inside). Runs j s) e h

  handed : (i : Inside) (x : Lex Bytes) (s : Lexes) → eqb (byte_of x) space ≡ false → enters i x ≡ i → Runs i s → Runs i (x ∷ s)
  unfolding is_end
  handed i x s n e h = (ap (λ (b : Bool). b && (not i.quoted && (not holds || eqb i.depth 0))) n, subst (λ (j : Inside). Runs j s) (sym e) h)

  handed-ampersand : (i : Inside) (s : Lexes) → Runs i s → Runs i (byte ampersand ∷ s)
  unfolding byte_of
  handed-ampersand i s h = handed i (byte ampersand) s refl (still i (byte ampersand) refl refl refl) h

  handed-lone : (i : Inside) (s : Lexes) → Runs i s → Runs i (lone ∷ s)
  unfolding byte_of
  handed-lone i s h = handed i lone s refl (still i lone refl refl refl) h

  handed-ref : (i : Inside) (n : Bytes) (s : Lexes) → Runs i s → Runs i (ref n ∷ s)
  unfolding byte_of
  handed-ref i n s h = handed i (ref n) s refl (still i (ref n) refl refl refl) h

  symbols-run : (m : Mode) (i : Inside) (x : Lexes) → Runs i x → Runs i (symbols m x)
  unfolding symbols
  symbols-run in_text i [] h = tt
  symbols-run after_ampersand i [] h = handed-lone i [] tt
  symbols-run (in_symbol n) i [] h = handed-ref i n [] tt
  symbols-run in_text i (x ∷ s) h =
      either (Runs i) (eqb (byte_of x) ampersand) (λ e. symbols-run after_ampersand i s (unread i x s (still-at-ampersand i x e) h.1))
      (λ e. (h.0, symbols-run in_text (enters i x) s h.1))
  symbols-run after_ampersand i (x ∷ s) h =
      either (Runs i) (eqb (byte_of x) ampersand)
      (λ e. handed-ampersand i (byte ampersand ∷ symbols in_text s) (handed-ampersand i (symbols in_text s) (symbols-run in_text i s (unread i x s (still-at-ampersand i x e) h.1))))
      (λ e. either (Runs i) (letter (byte_of x)) (λ f. symbols-run (in_symbol (byte_of x ∷ [])) i s (unread i x s (still-at-letter i x f) h.1))
      (λ f. handed-lone i (x ∷ symbols in_text s) (h.0, symbols-run in_text (enters i x) s h.1)))
  symbols-run (in_symbol n) i (x ∷ s) h =
      either (Runs i) (letter_or_digit (byte_of x))
      (λ e. symbols-run (in_symbol (n ++ (byte_of x ∷ []))) i s (unread i x s (still-at-letter_or_digit i x e) h.1))
      (λ e. either (Runs i) (eqb (byte_of x) ampersand)
      (λ f. handed-ref i n (symbols after_ampersand s) (symbols-run after_ampersand i s (unread i x s (still-at-ampersand i x f) h.1)))
      (λ f. handed-ref i n (x ∷ symbols in_text s) (h.0, symbols-run in_text (enters i x) s h.1)))

  -- neither a letter nor an ampersand is a space
  space-follows : (k : Bool) (c : ℕ) → eqb (byte_of {R = Bytes} (choose k mark (byte c))) space ≡ true → (letter c || eqb c ampersand) ≡ false
  unfolding choose byte_of letter
  space-follows true c e = absurd (false≢true e)
  space-follows false c e = ap (λ (d : ℕ). letter d || eqb d ampersand) (eqb-true c space e)

  -- up to a space, what follows an apostrophe is the same
  ends-follow : (i : Inside) (b : Before) (s : Bytes) → follows (take (passed (is_end holds) enters i (marked {R = Bytes} true b s)) s) ≡ follows s
  unfolding passed marked follows is_end
  ends-follow i b [] = refl
  ends-follow i b (c ∷ s) =
      let x : Lex Bytes = choose (is_mark b c s) mark (byte c) in
      either (λ (n : ℕ). follows (take n (c ∷ s)) ≡ follows (c ∷ s)) (is_end holds i x) (λ e. sym (space-follows (is_mark b c s) c (and_left (eqb (byte_of x) space) _ e))) (λ e. refl)

  marks-run : (i : Inside) (b : Before) (s : Bytes) → Runs i (marked true b (take (passed (is_end holds) enters i (marked {R = Bytes} true b s)) s))
  unfolding passed marked
  marks-run i b [] = tt
  marks-run i b (c ∷ s) =
      let x : Lex Bytes = choose (is_mark b c s) mark (byte c) in
      let t = take (passed (is_end holds) enters (enters i x) (marked {R = Bytes} true (after true b c s) s)) s in
      either (λ (n : ℕ). Runs i (marked true b (take n (c ∷ s)))) (is_end holds i x) (λ e. tt)
      (λ e.
      let q = mark-same b c s t (sym (ends-follow (enters i x) (after true b c s) s)) in
      subst (λ (y : Lexes). Runs i y) (λ k. choose (q k) mark (byte c) ∷ marked true (after_same b c s t q k) t) (e, marks-run (enters i x) (after true b c s) s))

operand-runs : (l : Bytes) → Free (is_end (holds_spaces (fields_of l).operation)) outside (lexed true (fields_of l).operand)
unfolding fields_of lexed operand_end ends_operand is_end
operand-runs l =
    let l₁ = drop (run is_no_space l) l in
    let l₂ = drop (run is_space l₁) l₁ in
    let o = run is_no_space l₂ in
    let l₃ = drop o l₂ in
    let l₄ = drop (run is_space l₃) l₃ in
    let holds = holds_spaces (take o l₂) in
    symbols-run holds in_text outside (marked true field_start (take (operand_end holds l₄) l₄)) (marks-run holds outside field_start l₄)

-- where parentheses hold no spaces there are none inside them either
held-run : (i : Inside) (x : Lexes) → Free (is_end false) i x → Free (is_end true) i x
unfolding is_end
held-run i [] h = tt
held-run i (x ∷ s) h = (go (eqb (byte_of x) space) (not i.quoted) (eqb i.depth 0) h.0, held-run (enters i x) s h.1)
  where
    go : (a b c : Bool) → (a && (b && true)) ≡ false → (a && (b && c)) ≡ false
    go false b c e = refl
    go true false c e = refl
    go true true c e = clash refl e

-- the statements whose operand's parentheses hold spaces
abbrev is_holding : Statement → Bool
is_holding macro = false
is_holding mend = false
is_holding mexit = false
is_holding (local k) = false
is_holding (global k) = false
is_holding (set set_a) = false
is_holding (set set_b) = true
is_holding (set set_c) = false
is_holding aif = true
is_holding ago = false
is_holding anop = false
is_holding actr = false
is_holding model = false

holds-none : (o : Bytes) → is_holding (statement_of o) ≡ false → holds_spaces o ≡ false
unfolding holds_spaces statement_of statements word_number words
holds-none o h =
    by (same o (bytes "AIF")) (λ e. clash (ap (λ (w : Bytes). is_holding (statement_of w)) (same-is o (bytes "AIF") e)) h)
    (λ e. by (same o (bytes "SETB")) (λ f. clash (ap (λ (w : Bytes). is_holding (statement_of w)) (same-is o (bytes "SETB") f)) h)
    (λ f i. e i || f i))

-- by the line's statement
statement-runs : (l : Bytes) → Free (is_end (is_holding (statement_of (fields_of l).operation))) outside (lexed true (fields_of l).operand)
statement-runs l =
    go (is_holding (statement_of (fields_of l).operation)) (holds-none (fields_of l).operation)
  where
    weaker : (b : Bool) → Free (is_end b) outside (lexed true (fields_of l).operand) → Free (is_end true) outside (lexed true (fields_of l).operand)
    weaker true h = h
    weaker false h = held-run outside (lexed true (fields_of l).operand) h

    go : (b : Bool) → (b ≡ false → holds_spaces (fields_of l).operation ≡ false) → Free (is_end b) outside (lexed true (fields_of l).operand)
    go true f = weaker (holds_spaces (fields_of l).operation) (operand-runs l)
    go false f = subst (λ (b : Bool). Free (is_end b) outside (lexed true (fields_of l).operand)) (f refl) (operand-runs l)

-- ---- a model's name and operation

module _ (g : Bytes → Slot) where
  starts-plainly : (x : Lexes) → starts_with (bytes ".") (unlexed x) ≡ false → starts_with (bytes "*") (unlexed x) ≡ false → starts_plainly (map (map_lex g) x) ≡ true
  unfolding starts_plainly starts_with unlexed map_lex byte_of
  starts-plainly [] p s = refl
  starts-plainly (byte c ∷ x) p s =
      by (eqb c period) (λ e. clash (ap (λ (d : ℕ). starts_with (bytes ".") (d ∷ unlexed x)) (eqb-true c period e)) p)
      (λ e. by (eqb c 42) (λ f. clash (ap (λ (d : ℕ). starts_with (bytes "*") (d ∷ unlexed x)) (eqb-true c 42 f)) s)
      (λ f i. not (e i || f i)))
  starts-plainly (mark ∷ x) p s = refl
  starts-plainly (ref n ∷ x) p s = refl
  starts-plainly (lone ∷ x) p s = refl

  empty-as-read : (x : Lexes) → is_empty (map (map_lex g) x) ≡ is_empty (unlexed x)
  unfolding is_empty unlexed map_lex
  empty-as-read [] = refl
  empty-as-read (byte c ∷ x) = refl
  empty-as-read (mark ∷ x) = refl
  empty-as-read (ref n ∷ x) = refl
  empty-as-read (lone ∷ x) = refl

  plain-bytes : (x : Lexes) → every is_plain (map (map_lex g) x) ≡ true → map last_byte (map (map_lex g) x) ≡ unlexed x
  unfolding every is_plain unlexed map_lex last_byte
  plain-bytes [] h = refl
  plain-bytes (byte c ∷ x) h = ap (λ (s : Bytes). c ∷ s) (plain-bytes x h)
  plain-bytes (mark ∷ x) h = ap (λ (s : Bytes). apostrophe ∷ s) (plain-bytes x h)
  plain-bytes (ref n ∷ x) h = absurd (false≢true h)
  plain-bytes (lone ∷ x) h = absurd (false≢true h)

  no-word-read : (o : Bytes) → is_language_word o ≡ false → let x = map (map_lex g) (lexed false o) in not (every is_plain x && is_language_word (map last_byte x)) ≡ true
  no-word-read o h =
      let x = map (map_lex g) (lexed false o) in
      by (every is_plain x)
      (λ e i. not (e i && (ap is_language_word (plain-bytes (lexed false o) e ∙ lexed-back false o) ∙ h) i))
      (λ e i. not (e i && is_language_word (map last_byte x)))

-- a line that is no remark has no name that starts with `*`
star-front : (n : ℕ) (l : Bytes) → starts_with (bytes "*") l ≡ false → starts_with (bytes "*") (take n l) ≡ false
unfolding starts_with
star-front zero l h = refl
star-front (suc n) [] h = refl
star-front (suc n) (c ∷ l) h = h

name-no-star : (l : Bytes) → is_remark l ≡ false → starts_with (bytes "*") (fields_of l).name ≡ false
unfolding is_remark is_copied_remark fields_of
name-no-star l h = star-front (run is_no_space l) l (or_left (starts_with (bytes "*") l) _ h)

-- ---- a default has no bare comma and no bare space

abbrev Whole : Lexes → Type 0
Whole p = Free is_bare_comma outside p

-- the first part, which goes on from what stands before, and the others
record Parts (i : Inside) (ps : List Lexes) : Type 0 where
  first : Lexes
  others : List Lexes
  are : ps ≡ first ∷ others
  first-whole : Free is_bare_comma i first
  follow : All Whole others

parts-from : (i : Inside) (ps : List Lexes) → i ≡ outside → Parts i ps → All Whole ps
parts-from i ps e r = subst (All Whole) (sym r.are) (subst (λ (j : Inside). Free is_bare_comma j r.first) e r.first-whole, r.follow)

-- a comma divides where no quote and no parenthesis is open
bare-outside : (i : Inside) (x : Lex Bytes) → is_bare comma i x ≡ true → i ≡ outside
unfolding is_bare outside
bare-outside i x h =
    let r = and_right (eqb (byte_of x) comma) _ h in
    let q = not-true i.quoted (and_left (not i.quoted) _ r) in
    let d = eqb-true i.depth 0 (and_right (not i.quoted) _ r) in
    λ k. record { quoted = q k; depth = d k }

bare-still : (i : Inside) (x : Lex Bytes) → is_bare comma i x ≡ true → enters i x ≡ i
unfolding is_bare
bare-still i x h = still-by (λ c. eqb c comma) refl refl refl i x (and_left (eqb (byte_of x) comma) _ h)

parts_whole : (i : Inside) (x : Lexes) → Free (is_end false) i x → Parts i (parts i x)
unfolding parts on_first is_bare_comma
parts_whole i [] h = record { first = []; others = []; are = refl; first-whole = tt; follow = tt }
parts_whole i (x ∷ s) h =
    either (Parts i) (is_bare comma i x)
    (λ e.
    let r = parts_whole i s (subst (λ (j : Inside). Free (is_end false) j s) (bare-still i x e) h.1) in
    record { first = []; others = parts i s; are = refl; first-whole = tt; follow = parts-from i (parts i s) (bare-outside i x e) r })
    (λ e.
    let r = parts_whole (enters i x) s h.1 in
    record {
      first = x ∷ r.first;
      others = r.others;
      are = ap (on_first x) r.are;
      first-whole = (λ k. e k || h.0 k, r.first-whole);
      follow = r.follow;
    })

divided-whole : (x : Lexes) → Free (is_end false) outside x → All Whole (divided x)
unfolding divided
divided-whole [] h = tt
divided-whole (x ∷ s) h = parts-from outside _ refl (parts_whole outside (x ∷ s) h)

-- behind a symbol and `=` a scan stands as at the start
behind-keyword : (n : Bytes) (d : Lexes) → Whole (ref n ∷ (byte equals ∷ d)) → Whole d
unfolding enters outside byte_of choose
behind-keyword n d h = h.1.1

default-read : (s : Bytes) (p : Lexes) (k : Keyworded p) → Piece false (lexed true s) p → Whole p → is_default k.default ≡ true → is_read_default (unlexed k.default) ≡ true
unfolding is_read_default is_default
default-read s p k r w good =
    let d = k.default in
    let q = subst (λ (x : Lexes). Piece false (lexed true s) x) k.are r in
    let again = default-again s k.name d q (and_left (every is_plain d) _ good) in
    ap (λ (x : Lexes). eqb (passed is_bare_comma enters outside x) (length x)) again
    ∙ eq-eqb _ _ (free-passed is_bare_comma outside d (behind-keyword k.name d (subst Whole k.are w)))

keywords-read : (s : Bytes) (b : Bool) (ps : List Lexes) → All (Piece false (lexed true s)) ps → All Whole ps → are_good_parts b ps ≡ true
    → every (λ k. is_read_default k.1) (keyword_names ps) ≡ true
unfolding are_good_parts every keyword_names
keywords-read s b [] st w g = refl
keywords-read s b (p ∷ ps) st w g =
    let gp = and_left (is_good_part p) _ g in
    let r = keywords-read s (b || has_equals p) ps st.1 w.1 (and_right (has_equals p || not b) _ (and_right (is_good_part p) _ g)) in
    let P : List (Bytes × Bytes) → Type 0 = λ x. every (λ k. is_read_default k.1) x ≡ true in
    by (has_equals p)
    (λ e.
    let k = part-split p (first-of-good p gp) e in
    subst P (sym (keyword-is p k ps e)) (both (default-read s p k st.0 w.0 (default-good p k gp e)) r))
    (λ e. subst P (sym (no-keyword p ps e)) r)

and_none : (b : Bool) → (b && false) ≡ false
and_none true = refl
and_none false = refl

-- a macro's name is none of the words whose operands hold spaces
title-holds-none : (o : Bytes) → is_macro_name o ≡ true → holds_spaces o ≡ false
unfolding holds_spaces is_macro_name words
title-holds-none o h =
    by (same o (bytes "AIF")) (λ e. clash h (ap is_macro_name (same-is o (bytes "AIF") e) ∙ no-title (bytes "AIF") refl))
    (λ e. by (same o (bytes "SETB")) (λ f. clash h (ap is_macro_name (same-is o (bytes "SETB") f) ∙ no-title (bytes "SETB") refl)) (λ f i. e i || f i))
  where
    no-title : (w : Bytes) → eqb (place_among words w) (length words) ≡ false → is_macro_name w ≡ false
    no-title w e = ap (λ (b : Bool). is_name macro_name_limit w && b) e ∙ and_none (is_name macro_name_limit w)

defaults-of : (gs : List (Bytes × Set)) (x : Macro) → Proper x → every (λ k. is_read_default k.1) (deck_macro gs (reading x)).keywords ≡ true
unfolding reading deck_macro names_in operand_parts
defaults-of gs x p =
    let f = fields_of x.prototype in
    let h = p.prototype-faultless in
    let n = title-holds-none f.operation (ap is_macro_name (sym (title-is h)) ∙ title-named h) in
    let w = subst (λ (b : Bool). Free (is_end b) outside (lexed true f.operand)) n (operand-runs x.prototype) in
    keywords-read f.operand false (operand_parts f) (parts-stand (lexed true f.operand)) (divided-whole (lexed true f.operand) w) (parts-good h)

-- ---- AIF's condition: the front of an operand whose rest is a sequence symbol

run-all : {A : Type 0} (test : A → Bool) (s : List A) → run test s ≡ length s → every test s ≡ true
unfolding run every
run-all test [] h = refl
run-all test (a ∷ s) h =
    by (test a) (λ e. both e (run-all test s (ap pred (sym (chosen (suc (run test s)) 0 e) ∙ h))))
    (λ e. let z : 0 ≡ suc (length s) = sym (passed_over (suc (run test s)) 0 e) ∙ h in cc)

every-so : {A : Type 0} (test other : A → Bool) → ((a : A) → test a ≡ true → other a ≡ true) → (s : List A) → every test s ≡ true → every other s ≡ true
unfolding every
every-so test other f [] h = refl
every-so test other f (a ∷ s) h = both (f a (and_left (test a) _ h)) (every-so test other f s (and_right (test a) _ h))

every-joined : {A : Type 0} (test : A → Bool) (s t : List A) → every test s ≡ true → every test t ≡ true → every test (s ++ t) ≡ true
unfolding every
every-joined test [] t h k = k
every-joined test (a ∷ s) t h k = both (and_left (test a) _ h) (every-joined test s t (and_right (test a) _ h) k)

abbrev is_no_ampersand : ℕ → Bool
is_no_ampersand c = not (eqb c ampersand)

name-no-ampersand : (limit : ℕ) (n : Bytes) → is_name limit n ≡ true → every is_no_ampersand n ≡ true
unfolding is_name every letter digit letter_or_digit
name-no-ampersand limit [] h = refl
name-no-ampersand limit (c ∷ s) h =
    let r = and_left (eqb (run letter_or_digit s) (length s)) _ (and_right (letter c) _ h) in
    both (ap not (unlike letter ampersand c refl (and_left (letter c) _ h)))
    (every-so letter_or_digit is_no_ampersand (λ d e. ap not (unlike letter_or_digit ampersand d refl e)) s (run-all letter_or_digit s (eqb-true (run letter_or_digit s) (length s) r)))

sequence-no-ampersand : (s : Bytes) → is_sequence s ≡ true → every is_no_ampersand s ≡ true
unfolding is_sequence every
sequence-no-ampersand [] h = refl
sequence-no-ampersand (p ∷ n) h =
    both (ap not (unlike (λ c. eqb c period) ampersand p refl (and_left (eqb p period) _ h))) (name-no-ampersand name_limit n (and_right (eqb p period) _ h))

no-lone-in : (x : Lexes) → every is_no_ampersand (unlexed x) ≡ true → NoLone x
unfolding every unlexed
no-lone-in [] h = refl
no-lone-in (byte c ∷ x) h = no-lone-in x (and_right (is_no_ampersand c) _ h)
no-lone-in (mark ∷ x) h = no-lone-in x h
no-lone-in (ref n ∷ x) h = absurd (false≢true h)
no-lone-in (lone ∷ x) h = absurd (false≢true h)

-- the first lexemes end with `)`
record Cut (x : Lexes) (n : ℕ) : Type 0 where
  front : Lexes
  back : Lexes
  whole : x ≡ front ++ (byte closing ∷ back)
  taken : take n x ≡ front ++ (byte closing ∷ [])

cut-there : (i : Inside) (x : Lexes) → is_empty (drop (suc (passed pairs_first enters i x)) x) ≡ false → Cut x (suc (passed pairs_first enters i x))
unfolding passed pairs_first is_empty
cut-there i [] h = clash refl h
cut-there i (x ∷ s) h =
    either (λ (n : ℕ). is_empty (drop (suc n) (x ∷ s)) ≡ false → Cut (x ∷ s) (suc n)) (pairs_first i x)
    (λ e g.
    let b = byte-is closing x refl (and_left (eqb (byte_of x) closing) _ e) in
    record { front = []; back = s; whole = ap (λ (y : Lex Bytes). y ∷ s) b; taken = ap (λ (y : Lex Bytes). y ∷ []) b })
    (λ e g.
    let r = cut-there (enters i x) s g in
    record { front = x ∷ r.front; back = r.back; whole = ap (λ (y : Lexes). x ∷ y) r.whole; taken = ap (λ (y : Lexes). x ∷ y) r.taken }) h

-- a sequence symbol is there
sequence-there : (x : Lexes) → is_sequence (unlexed x) ≡ true → is_empty x ≡ false
unfolding is_empty unlexed is_sequence
sequence-there [] h = absurd (false≢true h)
sequence-there (y ∷ x) h = refl

condition-cut : (x : Lexes) → eqb (condition_end x) 0 ≡ false → is_empty (drop (condition_end x) x) ≡ false → Cut x (condition_end x)
unfolding condition_end
condition-cut x z h =
    either (λ (n : ℕ). eqb n 0 ≡ false → is_empty (drop n x) ≡ false → Cut x n) (starts_open x) (λ e y g. cut-there outside x g) (λ e y g. clash refl y) z h

record Condition (x : Lexes) : Type 0 where
  cut : Cut x (condition_end x)
  clean : NoLone (drop (condition_end x) x)

condition-in : (x : Lexes) → is_sequence (target_behind x) ≡ true → Condition x
unfolding target_behind is_sequence
condition-in x h =
    either (λ (s : Bytes). is_sequence s ≡ true → Condition x) (eqb (condition_end x) 0) (λ e g. absurd (false≢true g))
    (λ e g. record {
      cut = condition-cut x e (sequence-there (drop (condition_end x) x) g);
      clean = no-lone-in (drop (condition_end x) x) (sequence-no-ampersand (unlexed (drop (condition_end x) x)) g);
    }) h

-- ---- every line, where the lexemes of a field are in the order that the reader gives

-- Two facts of fields are asked for: the lexemes of a field whose bytes are in the set are such as the reader gives them (outside the set this fails: a text byte
-- 0 looks like the end of a variable symbol), and so are the first of them up to a `)`.

module _ (lexed-read : (f : Bytes → Slot) (quotes : Bool) (s : Bytes) → every in_set s ≡ true → every is_no_lone (lexed quotes s) ≡ true → is_field quotes (map (map_lex f) (lexed quotes s)) ≡ true)
    (front_read : (quotes odd : Bool) (b : Before) (x y : List (Lex Slot)) → is_read quotes odd b (x ++ (byte closing ∷ y)) ≡ true → is_read quotes odd b (x ++ (byte closing ∷ [])) ≡ true) where
  module _ (g : Bytes → Slot) where
    word_read : (s : Bytes) → InSet s → every is_no_space s ≡ true → NoLone (lexed false s) → is_word_field (map (map_lex g) (lexed false s)) ≡ true
    unfolding is_word_field
    word_read s i w n = both (lexed-read g false s i n) (lexed-no-space g false s w)

    operand-free : (holds : Bool) (x : Lexes) → Free (is_end holds) outside x → is_field true (map (map_lex g) x) ≡ true → is_operand holds (map (map_lex g) x) ≡ true
    unfolding is_operand
    operand-free holds x w f = both f (eq-eqb _ _ (free-passed (is_end holds) outside (map (map_lex g) x) (free-mapped g holds outside x w)))

    operand_read : (holds : Bool) (s : Bytes) → InSet s → Free (is_end holds) outside (lexed true s) → NoLone (lexed true s) → is_operand holds (map (map_lex g) (lexed true s)) ≡ true
    operand_read holds s i w n = operand-free holds (lexed true s) w (lexed-read g true s i n)

    condition-read : (s : Bytes) → InSet s → let x = lexed true s in is_sequence (target_behind x) ≡ true → Free (is_end true) outside x → NoLone (take (condition_end x) x)
        → is_operand true (map (map_lex g) (take (condition_end x) x)) ≡ true
    unfolding is_field map_lex
    condition-read s i t w n =
        let x = lexed true s in
        let e = condition_end x in
        let c = condition-in x t in
        let k = c.cut in
        let clean : NoLone x = ap (every is_no_lone) (sym (take-append-drop e x)) ∙ every-joined is_no_lone (take e x) (drop e x) n c.clean in
        let m = map_lex g in
        let whole : map m x ≡ map m k.front ++ (byte closing ∷ map m k.back) = ap (map m) k.whole ∙ map-append m k.front (byte closing ∷ k.back) in
        let taken : map m (take e x) ≡ map m k.front ++ (byte closing ∷ []) = ap (map m) k.taken ∙ map-append m k.front (byte closing ∷ []) in
        let r = front_read true false field_start (map m k.front) (map m k.back) (ap (is_read true false field_start) (sym whole) ∙ lexed-read g true s i clean) in
        operand-free true (take e x) (free-front (is_end true) e outside x w) (ap (is_read true false field_start) taken ∙ r)

    module _ (t : Bytes → ℕ) (l : Bytes) (statement : is_remark l ≡ false) (h : Holds l (fields_of l)) where
      abbrev f : Fields
      f = fields_of l

      abbrev AsRead : Line Bytes Bytes → Type 0
      AsRead y = is_read_line (map_line g t y) ≡ true

      name-read : (x : Lexes) → x ≡ choose (is_sequence f.name) [] (lexed false f.name) → is_model_name f.name ≡ true → NoLone x
          → (is_word_field (map (map_lex g) x) ≡ true) × (starts_plainly (map (map_lex g) x) ≡ true)
      unfolding is_word_field is_field is_read starts_plainly every
      name-read x e named n =
          let Q : Lexes → Type 0 = λ y. NoLone y → (is_word_field (map (map_lex g) y) ≡ true) × (starts_plainly (map (map_lex g) y) ≡ true) in
          let s = f.name in
          subst Q (sym e)
          (either Q (is_sequence s) (λ q c. (refl, refl))
          (λ q c. (
            word_read s h.name-in (name-no-space l) c,
            starts-plainly g (lexed false s)
                (ap (starts_with (bytes ".")) (lexed-back false s) ∙ not-true (starts_with (bytes ".") s) (no-period s named q))
                (ap (starts_with (bytes "*")) (lexed-back false s) ∙ name-no-star l statement),
          ))) n

      operation-read : is_empty f.operation ≡ false → is_language_word f.operation ≡ false → NoLone (lexed false f.operation)
          → is_model_operation (map (map_lex g) (lexed false f.operation)) ≡ true
      unfolding is_model_operation
      operation-read e w n =
          let o = f.operation in
          both (ap not (empty-as-read g (lexed false o) ∙ (ap is_empty (lexed-back false o) ∙ e))) (both (word_read o h.operation-in (operation-no-space l) n) (no-word-read g o w))

      model-read : is_model_name f.name ≡ true → is_empty f.operation ≡ false → is_language_word f.operation ≡ false → Free (is_end false) outside (lexed true f.operand)
          → Clean (model_of f) → AsRead (model_of f)
      unfolding is_read_line is_read_by model_of map_line map_does
      model-read named e w r c =
          let n = name-read (model_of f).name refl named c.0 in
          both n.0 (both n.1 (both (operation-read e w c.1.0) (operand_read false f.operand h.operand_in r c.1.1)))

      says-read : (before : List Bytes) (s : Statement) → Free (is_end (is_holding s)) outside (lexed true f.operand) → (is_model s ≡ true → is_language_word f.operation ≡ false)
          → Clean (says l f s) → are_fields_good f s ≡ true → is_misplaced before f.operation s ≡ false → AsRead (says l f s)
      unfolding is_read_line is_read_by says doing map_line map_does are_fields_good is_misplaced
      says-read before macro r w c a m = refl
      says-read before mend r w c a m = refl
      says-read before mexit r w c a m = refl
      says-read before (local k) r w c a m = refl
      says-read before (global k) r w c a m = refl
      says-read before (set set_a) r w c a m = operand_read false f.operand h.operand_in r c.1.1
      says-read before (set set_b) r w c a m = operand_read true f.operand h.operand_in r c.1.1
      says-read before (set set_c) r w c a m = operand_read false f.operand h.operand_in r c.1.1
      says-read before aif r w c a m = condition-read f.operand h.operand_in (and_right (is_named_or_empty f.name) (is_sequence (target_behind (lexed true f.operand))) a) r c.1.1
      says-read before ago r w c a m = refl
      says-read before anop r w c a m = refl
      says-read before actr r w c a m = operand_read false f.operand h.operand_in r c.1.1
      says-read before model r w c a m =
          either (λ (y : Line Bytes Bytes). Clean y → AsRead y) (is_copied f) {x = doing (text l)} {y = model_of f} (λ e k. refl) (λ e k. model-read a m (w refl) r k) c

    line_read : (t : Bytes → ℕ) {p : Bytes} {before : List Bytes} {l : Bytes} {behind : List Bytes} → Stands p before l behind → Clean (read l) → is_read_line (map_line g t (read l)) ≡ true
    unfolding is_read_line is_read_by doing map_line map_does operation_of
    line_read t {before = before} {l = l} x c =
        let P : Line Bytes Bytes → Type 0 = λ y. is_read_line (map_line g t y) ≡ true in
        by (is_remark l) (λ e. ⊎_elim (λ q. subst P (sym q) refl) (λ q. subst P (sym q) refl) (remark-says l e))
        (λ e.
        let q = fields-are l e in
        let o = (fields_of l).operation in
        let w : read l ≡ says l (fields_of l) (statement_of o) = statement-says l e ∙ ap (λ (f : Fields). says l f (statement_of f.operation)) q in
        subst P (sym w)
        (says-read t l e (fields-held l (written_in l (well-written x)).1) before (statement_of o) (statement-runs l) (model-is-no-word o) (subst Clean w c)
        (ap (λ (f : Fields). are_fields_good f (statement_of f.operation)) (sym q) ∙ good-fields x e)
        (ap (λ (f : Fields). is_misplaced before f.operation (statement_of f.operation)) (sym q) ∙ in_place x e)))

  lines-read : (gs : List (Bytes × Set)) (r : Reading) → Known r → every is_read_line (map (resolved_line r gs) r.body) ≡ true
  unfolding resolved_line
  lines-read gs r a =
      every-each is_read_line (map (resolved_line r gs) r.body) no_line
      (λ j h.
      let k : j < length r.body = subst (λ (n : ℕ). j < n) (length-map r.body (resolved_line r gs)) h in
      ap is_read_line (get_d-mapped (resolved_line r gs) r.body j [] no_line k)
      ∙ line_read (resolved r.names gs) (λ t. line_named t r.body) (line-stands a j k) (line_clean a j k))

  macro-read : (gs : List (Bytes × Set)) (x : Macro) → Proper x → is_read_macro (deck_macro gs (reading x)) ≡ true
  unfolding is_read_macro deck_macro
  macro-read gs x p = both (lines-read gs (reading x) (known_of x p)) (defaults-of gs x p)

  pub decks-read : (library : Bytes) → verdict library ≡ accepted → every is_read_macro (resolved_library library).macros ≡ true
  decks-read library e =
      every-each is_read_macro (resolved_library library).macros no_macro (each-macro library e (λ m. is_read_macro m ≡ true) (macro-read _))
