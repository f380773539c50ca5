-- Demand 3: libraries that differ only by a renaming have the same deck, byte for byte.
use Prim.Native.Nat.{ℕ}
use mathlib.Core.Path.{◌≡◌, refl, ap, sym, ◌∙◌, subst}
use mathlib.Core.Bool.{true, false, not}
use mathlib.Core.List.{List, [], ◌∷◌, ◌++◌, map, append_assoc}
use lib.ListN.{length, length-map}
use Rattle.text.specs.Bytes.{Bytes, bytes, same}
use Rattle.text.specs.Characters.{letter, digit, letter_or_digit}
use Rattle.rules.specs.Choice.{choose, every, any}
use Rattle.rules.specs.Lexemes.{Lex, byte, mark, ref, lone, byte_of, is_plain, is_mark, after, field_start, follows, marked, symbols, lexed}
use Rattle.rules.specs.Fields.{lines_of, Fields, fields_of, is_empty}
use Rattle.rules.specs.Statement.{Set, Does, passes, ends, exits, text, models, sets, branches_if, branches, counts, Line, map_lex, map_does, map_line, read}
use Rattle.rules.specs.Library.{Macro, outer, in_body, macros_from, operation_of, is_macro, is_mend, Names, names_in, seconds, with_globals, globals_of, line_named}
use Rattle.rules.specs.ByLines.{Reading, reading}
use Rattle.rules.specs.Faults.{accepted, verdict}
use Rattle.rules.proofs.Choices.{chosen, passed_over}
use Rattle.rules.proofs.Logic.{All, or_left, or_right}
use Rattle.deck.specs.Slots.{resolved, resolved_line, deck_macro, deck_in, resolved_library}
use Rattle.deck.specs.Coders.{encoded}
use Rattle.deck.specs.Translation.{deck_of, translated_by, translated}
use Rattle.deck.proofs.Lists.{map-map}
use Rattle.deck.proofs.Same.{globals_in}
use Rattle.demands.specs.Renaming.{Renaming, Proper, RenamedLine, remark, statement, RenamedPrototype, RenamedBody, last, ◌then◌, RenamedLines, none, outside, definition, Renamed}
use Rattle.demands.proofs.NamedSets.{is_set_by_sequence, SetsNamed, accepted-sets-named}
use Rattle.demands.proofs.SameRead.{has_no_symbol, same_word, fields-of, read-renamed}
use Rattle.demands.proofs.SameNames.{name-renamed, positionals-renamed, same-keywords, same-local-kinds, same-declared-globals, same-slot, same_target}

-- ---- one mapping of a line after another

module _ {R S T L M N : Type 0} (f : R → S) (g : S → T) {h : R → T} (e : (n : R) → g (f n) ≡ h n) (u : L → M) (v : M → N) {w : L → N} (k : (t : L) → v (u t) ≡ w t) where
  lexeme-after : (x : Lex R) → map_lex g (map_lex f x) ≡ map_lex h x
  unfolding map_lex
  lexeme-after (byte c) = refl
  lexeme-after mark = refl
  lexeme-after (ref n) = ap ref (e n)
  lexeme-after lone = refl

  does-after : (d : Does L) → map_does v (map_does u d) ≡ map_does w d
  unfolding map_does
  does-after passes = refl
  does-after ends = refl
  does-after exits = refl
  does-after (text s) = refl
  does-after models = refl
  does-after (sets s) = refl
  does-after (branches_if t) = ap branches_if (k t)
  does-after (branches t) = ap branches (k t)
  does-after counts = refl

  line_after : (l : Line R L) → map_line g v (map_line f u l) ≡ map_line h w l
  unfolding map_line
  line_after l = λ i. record {
    does = does-after l.does i;
    name = map-map (map_lex f) (map_lex g) lexeme-after l.name i;
    operation = map-map (map_lex f) (map_lex g) lexeme-after l.operation i;
    operand = map-map (map_lex f) (map_lex g) lexeme-after l.operand i;
  }

-- ---- a macro

same-emptiness : (f : Bytes → Bytes) (ns : List Bytes) → is_empty (map f ns) ≡ is_empty ns
unfolding is_empty
same-emptiness f [] = refl
same-emptiness f (n ∷ ns) = refl

abbrev macro_of : Bytes → List Bytes → Macro
macro_of p b = record { prototype = p; body = b }

module _ (r : Renaming) {p q : Bytes} {b c : List Bytes} (proto : RenamedPrototype r p q) (body : RenamedBody r b c) (proper : Proper r (names_in p b))
    (gs : List (Bytes × Set)) where
  line_same : (l m : Bytes) → is_set_by_sequence l ≡ false → RenamedLine r l m
      → resolved_line (reading (macro_of q c)) gs m ≡ resolved_line (reading (macro_of p b)) gs l
  unfolding resolved_line reading
  line_same l m e h =
      ap (map_line (resolved (names_in q c) gs) (λ t. line_named t c)) (read-renamed r l m e h)
      ∙ line_after r.symbols (resolved (names_in q c) gs) (same-slot r proto body proper gs) r.sequences (λ t. line_named t c)
      (λ t. same_target r proper.sequences-one t body) (read l)

  lines_same : {ls ms : List Bytes} → RenamedBody r ls ms → any is_set_by_sequence ls ≡ false
      → map (resolved_line (reading (macro_of q c)) gs) ms ≡ map (resolved_line (reading (macro_of p b)) gs) ls
  unfolding any
  lines_same (last {l = l} {m = m} e h) k = ap (λ x. x ∷ []) (line_same l m (or_left (is_set_by_sequence l) false k) h)
  lines_same (◌then◌ {l = l} {m = m} {ls = ls} h t) k =
      λ i. line_same l m (or_left (is_set_by_sequence l) (any is_set_by_sequence ls) k) h.1 i ∷ lines_same t (or_right (is_set_by_sequence l) (any is_set_by_sequence ls) k) i

  title-same : operation_of q ≡ operation_of p
  unfolding operation_of
  title-same =
      ap (λ (f : Fields). f.operation) (fields-of q proto.no-remark₂) ∙ (proto.operation ∙ sym (ap (λ (f : Fields). f.operation) (fields-of p proto.no-remark)))

  macro-same : any is_set_by_sequence b ≡ false → deck_macro gs (reading (macro_of q c)) ≡ deck_macro gs (reading (macro_of p b))
  unfolding deck_macro reading
  macro-same k = λ i. record {
    title = title-same i;
    named = not ((ap is_empty (name-renamed r proto body proper) ∙ same-emptiness r.symbols (names_in p b).name) i);
    positionals = (ap length (positionals-renamed r proto body proper) ∙ length-map (names_in p b).positionals r.symbols) i;
    keywords = same-keywords r proto body proper i;
    locals = same-local-kinds r proto body proper i;
    lines = lines_same body k i;
  }

-- ---- the macros of a library

-- lines up to a MEND, the first
data Closed : List Bytes → Type 0 where
  ended : {l : Bytes} → is_mend l ≡ true → Closed (l ∷ [])
  longer : {l : Bytes} {ls : List Bytes} → is_mend l ≡ false → Closed ls → Closed (l ∷ ls)

body-read : (p : Bytes) (before : List Bytes) {b : List Bytes} (ls : List Bytes) → Closed b
    → macros_from (in_body p before) (b ++ ls) ≡ macro_of p (before ++ b) ∷ macros_from outer ls
unfolding macros_from
body-read p before ls (ended e) = chosen _ _ e
body-read p before ls (longer {l = l} {ls = b} e h) =
    passed_over _ _ e ∙ (body-read p (before ++ (l ∷ [])) ls h ∙ ap (λ (s : List Bytes). macro_of p s ∷ macros_from outer ls) (append_assoc before (l ∷ []) b))

plain-mend : has_no_symbol (bytes "MEND") ≡ true
unfolding every is_plain lexed symbols marked is_mark after field_start follows byte_of choose letter digit letter_or_digit
plain-mend = refl

module _ (r : Renaming) where
  mend-same : (l m : Bytes) → RenamedLine r l m → is_mend m ≡ is_mend l
  unfolding is_mend operation_of
  mend-same l m (remark e h) = ap (λ k. is_mend k) h
  mend-same l m (statement e k q) =
      ap (λ (f : Fields). same f.operation (bytes "MEND")) (fields-of m k)
      ∙ (same_word r (bytes "MEND") plain-mend (fields_of l).operation (fields_of m).operation q.operation
      ∙ sym (ap (λ (f : Fields). same f.operation (bytes "MEND")) (fields-of l e)))

  old-closed : {b c : List Bytes} → RenamedBody r b c → Closed b
  old-closed (last e h) = ended e
  old-closed (◌then◌ h t) = longer h.0 (old-closed t)

  new-closed : {b c : List Bytes} → RenamedBody r b c → Closed c
  new-closed (last {l = l} {m = m} e h) = ended (mend-same l m h ∙ e)
  new-closed (◌then◌ {l = l} {m = m} h t) = longer (mend-same l m h.1 ∙ h.0) (new-closed t)

found : (l p : Bytes) {b : List Bytes} (ls : List Bytes) → is_macro l ≡ true → Closed b → macros_from outer (l ∷ (p ∷ (b ++ ls))) ≡ macro_of p b ∷ macros_from outer ls
unfolding macros_from
found l p ls e h = chosen _ _ e ∙ body-read p [] ls h

not_found : (l : Bytes) (ls : List Bytes) → is_macro l ≡ false → macros_from outer (l ∷ ls) ≡ macros_from outer ls
unfolding macros_from
not_found l ls e = passed_over _ _ e

-- macros, each renamed by a renaming of its own
data RenamedMacros : List Macro → List Macro → Type 0 where
  no_more : RenamedMacros [] []
  one_more : {p q : Bytes} {b c : List Bytes} {ms ns : List Macro} (r : Renaming) → RenamedPrototype r p q → RenamedBody r b c → Proper r (names_in p b)
      → RenamedMacros ms ns → RenamedMacros (macro_of p b ∷ ms) (macro_of q c ∷ ns)

renamed-macros : {ls ms : List Bytes} → RenamedLines ls ms → RenamedMacros (macros_from outer ls) (macros_from outer ms)
unfolding macros_from
renamed-macros none = no_more
renamed-macros (outside {l = l} {ls = ls} {ms = ms} e h) =
    subst (λ k. RenamedMacros k (macros_from outer (l ∷ ms))) (sym (not_found l ls e))
    (subst (RenamedMacros (macros_from outer ls)) (sym (not_found l ms e)) (renamed-macros h))
renamed-macros (definition {l = l} {p = p} {q = q} {b = b} {c = c} {ls = ls} {ms = ms} r e proto body proper h) =
    subst (λ k. RenamedMacros k (macros_from outer (l ∷ (q ∷ (c ++ ms))))) (sym (found l p ls e (old-closed r body)))
    (subst (RenamedMacros (macro_of p b ∷ macros_from outer ls)) (sym (found l q ms e (new-closed r body)))
    (one_more r proto body proper (renamed-macros h)))

abbrev names_of : List Macro → List Names
names_of ms = map (λ (r : Reading). r.names) (map reading ms)

globals-same : {ms ns : List Macro} → RenamedMacros ms ns → (known : List (Bytes × Set)) → globals_of known (names_of ns) ≡ globals_of known (names_of ms)
unfolding globals_of reading
globals-same no_more known = refl
globals-same (one_more {p = p} {b = b} {ns = ns} r proto body proper h) known =
    ap (λ (g : List (Bytes × Set)). globals_of (with_globals known g) (names_of ns)) (same-declared-globals r proto body proper)
    ∙ globals-same h (with_globals known (names_in p b).globals)

macros-same : (gs : List (Bytes × Set)) {ms ns : List Macro} → RenamedMacros ms ns → All SetsNamed ms
    → map (deck_macro gs) (map reading ns) ≡ map (deck_macro gs) (map reading ms)
macros-same gs no_more k = refl
macros-same gs (one_more r proto body proper h) k = λ i. macro-same r proto body proper gs k.0 i ∷ macros-same gs h k.1 i

deck-same : {ms ns : List Macro} → RenamedMacros ms ns → All SetsNamed ms
    → deck_in (map reading ns) (globals_of [] (names_of ns)) ≡ deck_in (map reading ms) (globals_of [] (names_of ms))
unfolding deck_in
deck-same {ms} {ns} h k =
    let g = globals-same h [] in
    λ i. record {
      globals = seconds (g i);
      macros = (ap (λ (gs : List (Bytes × Set)). map (deck_macro gs) (map reading ns)) g ∙ macros-same (globals_of [] (names_of ms)) h k) i;
    }

-- the globals keep their names and their order
pub same-globals : (library library' : Bytes) → Renamed library library' → globals_in library' ≡ globals_in library
same-globals library library' h = globals-same (renamed-macros h) []

-- where no SET line is named by a sequence symbol, a renaming changes nothing in the deck
pub same-where-sets-named : (library library' : Bytes) → All SetsNamed (macros_from outer (lines_of library)) → Renamed library library'
    → resolved_library library' ≡ resolved_library library
unfolding resolved_library
same-where-sets-named library library' k h = deck-same (renamed-macros h) k

-- the deck of an accepted library is the deck of every library that it is renamed to
pub same-library-accepted : (library library' : Bytes) → verdict library ≡ accepted → Renamed library library' → resolved_library library' ≡ resolved_library library
same-library-accepted library library' e h = same-where-sets-named library library' (accepted-sets-named library e) h

pub same-deck-accepted : (library library' : Bytes) → verdict library ≡ accepted → Renamed library library' → deck_of library' ≡ deck_of library
unfolding deck_of
same-deck-accepted library library' e h = ap encoded (same-library-accepted library library' e h)

-- where both are accepted, translation answers the same in a deck buffer of any size
pub same-translation : (library library' : Bytes) → verdict library ≡ accepted → verdict library' ≡ accepted → Renamed library library'
    → (room : ℕ) → translated library' room ≡ translated library room
unfolding translated
same-translation library library' e e' h room = λ i. translated_by ((e' ∙ sym e) i) (same-deck-accepted library library' e h i) room
