-- The names of a renamed macro are its names renamed, at the same places: they have the same slots, and its lines the same numbers.
use Prim.Native.Nat.{suc, ◌<◌}
use native.Mathlib.Nat.{le_of_suc-le-suc, not-suc-le-zero}
use mathlib.Core.Path.{◌≡◌, refl, ap, sym, ◌∙◌, subst}
use mathlib.Core.Bool.{Bool, true, false, ◌&&◌}
use mathlib.Core.List.{List, [], ◌∷◌, ◌++◌, map}
use lib.Dec.{ltb}
use lib.ListN.{length, length-map, drop}
use borrow.Author.Tests.{ltb-true}
use Rattle.text.specs.Bytes.{Bytes, bytes, same}
use Rattle.text.specs.Words.{words, place_among, word_number}
use Rattle.text.proofs.Same.{same-is}
use Rattle.rules.specs.Choice.{choose, any}
use Rattle.rules.specs.Lexemes.{lexed, is_sequence}
use Rattle.rules.specs.Fields.{Fields, fields_of, statement_fields, no_fields, is_remark}
use Rattle.rules.specs.Statement.{Set, Statement, macro, mend, mexit, local, global, set, aif, ago, anop, actr, model, statements, statement_of, map_lex}
use Rattle.rules.specs.Calls.{divided}
use Rattle.rules.specs.Library.{start_symbol, start_symbols, operand_parts, positional_names, of_kind, locals_by, globals_by, locals_on, globals_on, declared_in, Names, names_in, firsts, seconds, parameter_names, is_named, line_named}
use Rattle.rules.specs.ByLines.{own_names}
use Rattle.rules.proofs.Choices.{by, chosen, passed_over}
use Rattle.rules.proofs.Logic.{clash, any-first, any-later, any-in-front, any-behind}
use Rattle.rules.proofs.Said.{remark-fields}
use Rattle.deck.specs.Slots.{own, shared, list, index, section, nowhere, system_slot, resolved}
use Rattle.demands.specs.Renaming.{Renaming, OneForOne, kept_names, Proper, RenamedText, RenamedName, sequence, plain, RenamedOperand, RenamedLine, remark, statement, RenamedPrototype, RenamedBody, last, ◌then◌}
use Rattle.demands.proofs.Relabelled.{map-append, map-divided, map-start, map-starts, map-positionals}
use Rattle.demands.proofs.Exchanged.{same-itself}
use Rattle.demands.proofs.SameRead.{same-statement, fields-of}

-- ---- names that are given one for one

module _ (f : Bytes → Bytes) (one : OneForOne f) where
  -- a renaming keeps names apart
  pub same-renamed : (m n : Bytes) → same (f m) (f n) ≡ same m n
  same-renamed m n =
      by (same m n) (λ e. ap (λ k. same (f k) (f n)) (same-is m n e) ∙ (same-itself (f n) ∙ sym e))
      (λ e. by (same (f m) (f n)) (λ t. clash (ap (λ k. same k n) (one m n (same-is (f m) (f n) t)) ∙ same-itself n) e) (λ t. t ∙ sym e))

  pub place-renamed : (ns : List Bytes) (n : Bytes) → place_among (map f ns) (f n) ≡ place_among ns n
  place-renamed [] n = refl
  place-renamed (m ∷ ms) n = λ i. elim (same-renamed m n i) [ true ↦ 0 | false ↦ suc (place-renamed ms n i) ]

-- names that stay, one and all
kept_map : (f : Bytes → Bytes) (ns : List Bytes) → ((n : Bytes) → any (same n) ns ≡ true → f n ≡ n) → map f ns ≡ ns
kept_map f [] h = refl
kept_map f (m ∷ ms) h = λ i. h m (any-first (same m) m ms (same-itself m)) i ∷ kept_map f ms (λ n k. h n (any-later (same n) m ms k)) i

-- a name that has a place is one of the names
among : (ns : List Bytes) (n : Bytes) → place_among ns n < length ns → any (same n) ns ≡ true
among [] n h = absurd (not-suc-le-zero h)
among (m ∷ ms) n h =
    by (same m n) (λ e. any-first (same n) m ms (ap (same n) (same-is m n e) ∙ same-itself n))
    (λ e. any-later (same n) m ms (among ms n (le_of_suc-le-suc (subst (λ (b : Bool). elim b [ true ↦ 0 | false ↦ suc (place_among ms n) ] < suc (length ms)) e h))))

-- ---- declared names

abbrev renamed_pair : (Bytes → Bytes) → Bytes × Set → Bytes × Set
renamed_pair f k = (f k.0, k.1)

module _ (f : Bytes → Bytes) where
  map-kind : (k : Set) (ns : List Bytes) → of_kind k (map f ns) ≡ map (renamed_pair f) (of_kind k ns)
  unfolding of_kind
  map-kind k [] = refl
  map-kind k (n ∷ ns) = ap ((f n, k) ∷◌) (map-kind k ns)

  map-firsts : (ks : List (Bytes × Set)) → firsts (map (renamed_pair f) ks) ≡ map f (firsts ks)
  unfolding firsts
  map-firsts [] = refl
  map-firsts (k ∷ ks) = ap (f k.0 ∷◌) (map-firsts ks)

  same-seconds : (ks : List (Bytes × Set)) → seconds (map (renamed_pair f) ks) ≡ seconds ks
  unfolding seconds
  same-seconds [] = refl
  same-seconds (k ∷ ks) = ap (k.1 ∷◌) (same-seconds ks)

  kept-pairs : (ks : List (Bytes × Set)) → ((n : Bytes) → any (same n) (firsts ks) ≡ true → f n ≡ n) → map (renamed_pair f) ks ≡ ks
  unfolding firsts
  kept-pairs [] h = refl
  kept-pairs (k ∷ ks) h =
      λ i. (h k.0 (any-first (same k.0) k.0 (firsts ks) (same-itself k.0)) i, k.1) ∷ kept-pairs ks (λ n e. h n (any-later (same n) k.0 (firsts ks) e)) i

length-firsts : {X : Type 0} (ks : List (Bytes × X)) → length (firsts ks) ≡ length ks
unfolding firsts
length-firsts [] = refl
length-firsts (k ∷ ks) = ap suc (length-firsts ks)

module _ (r : Renaming) where
  parts-renamed : (f g : Fields) → RenamedText r true f.operand g.operand → operand_parts g ≡ map (map (map_lex r.symbols)) (operand_parts f)
  unfolding operand_parts
  parts-renamed f g h = ap divided h ∙ map-divided r.symbols (lexed true f.operand)

  kinds-renamed : (f g : Fields) (k : Set) → RenamedText r true f.operand g.operand
      → of_kind k (start_symbols (operand_parts g)) ≡ map (renamed_pair r.symbols) (of_kind k (start_symbols (operand_parts f)))
  kinds-renamed f g k h =
      ap (λ ps. of_kind k (start_symbols ps)) (parts-renamed f g h)
      ∙ (ap (of_kind k) (map-starts r.symbols (operand_parts f)) ∙ map-kind r.symbols k (start_symbols (operand_parts f)))

  locals-by : (f g : Fields) (s : Statement) → RenamedOperand r s f.operand g.operand → locals_by g s ≡ map (renamed_pair r.symbols) (locals_by f s)
  unfolding locals_by
  locals-by f g macro h = refl
  locals-by f g mend h = refl
  locals-by f g mexit h = refl
  locals-by f g (local k) h = kinds-renamed f g k h
  locals-by f g (global k) h = refl
  locals-by f g (set k) h = refl
  locals-by f g aif h = refl
  locals-by f g ago h = refl
  locals-by f g anop h = refl
  locals-by f g actr h = refl
  locals-by f g model h = refl

  globals-by : (f g : Fields) (s : Statement) → RenamedOperand r s f.operand g.operand → globals_by g s ≡ map (renamed_pair r.symbols) (globals_by f s)
  unfolding globals_by
  globals-by f g macro h = refl
  globals-by f g mend h = refl
  globals-by f g mexit h = refl
  globals-by f g (local k) h = refl
  globals-by f g (global k) h = kinds-renamed f g k h
  globals-by f g (set k) h = refl
  globals-by f g aif h = refl
  globals-by f g ago h = refl
  globals-by f g anop h = refl
  globals-by f g actr h = refl
  globals-by f g model h = refl

  -- what a line declares, by a statement's fields
  module _ (declares : Fields → Statement → List (Bytes × Set)) (nothing : declares no_fields (statement_of []) ≡ [])
      (renamed : (f g : Fields) (s : Statement) → RenamedOperand r s f.operand g.operand → declares g s ≡ map (renamed_pair r.symbols) (declares f s)) where
    abbrev on : Bytes → List (Bytes × Set)
    on l = declares (statement_fields l) (statement_of (statement_fields l).operation)

    by-fields : (l : Bytes) → is_remark l ≡ false → on l ≡ declares (fields_of l) (statement_of (fields_of l).operation)
    by-fields l e = ap (λ (f : Fields). declares f (statement_of f.operation)) (fields-of l e)

    on-renamed : (l m : Bytes) → RenamedLine r l m → on m ≡ map (renamed_pair r.symbols) (on l)
    unfolding no_fields
    on-renamed l m (remark e h) =
        let n : on l ≡ [] = ap (λ (f : Fields). declares f (statement_of f.operation)) (remark-fields l e) ∙ nothing in
        ap on h ∙ (n ∙ sym (ap (map (renamed_pair r.symbols)) n))
    on-renamed l m (statement e k q) =
        by-fields m k
        ∙ (ap (declares (fields_of m)) (same-statement r (fields_of l).operation (fields_of m).operation q.operation)
        ∙ (renamed (fields_of l) (fields_of m) (statement_of (fields_of l).operation) q.operand ∙ sym (ap (map (renamed_pair r.symbols)) (by-fields l e))))

    declared-renamed : {b c : List Bytes} → RenamedBody r b c → declared_in on c ≡ map (renamed_pair r.symbols) (declared_in on b)
    unfolding declared_in
    declared-renamed (last {l = l} {m = m} e h) = ap (λ ks. ks ++ []) (on-renamed l m h) ∙ sym (map-append (renamed_pair r.symbols) (on l) [])
    declared-renamed (◌then◌ {l = l} {m = m} {ls = ls} h t) =
        (λ i. on-renamed l m h.1 i ++ declared-renamed t i) ∙ sym (map-append (renamed_pair r.symbols) (on l) (declared_in on ls))

  no-locals : locals_by no_fields (statement_of []) ≡ []
  unfolding locals_by statement_of statements word_number words
  no-locals = refl

  no-globals : globals_by no_fields (statement_of []) ≡ []
  unfolding globals_by statement_of statements word_number words
  no-globals = refl

  locals-renamed : {b c : List Bytes} → RenamedBody r b c → declared_in locals_on c ≡ map (renamed_pair r.symbols) (declared_in locals_on b)
  unfolding locals_on
  locals-renamed h = declared-renamed locals_by no-locals locals-by h

  globals-renamed : {b c : List Bytes} → RenamedBody r b c → declared_in globals_on c ≡ map (renamed_pair r.symbols) (declared_in globals_on b)
  unfolding globals_on
  globals-renamed h = declared-renamed globals_by no-globals globals-by h

-- ---- the names of a macro

module _ (r : Renaming) {p q : Bytes} {b c : List Bytes} (proto : RenamedPrototype r p q) (body : RenamedBody r b c) (proper : Proper r (names_in p b)) where
  abbrev old : Names
  old = names_in p b

  abbrev new : Names
  new = names_in q c

  pub name-renamed : new.name ≡ map r.symbols old.name
  unfolding names_in
  name-renamed = ap start_symbol proto.name ∙ map-start r.symbols (lexed false (fields_of p).name)

  pub positionals-renamed : new.positionals ≡ map r.symbols old.positionals
  unfolding names_in
  positionals-renamed =
      ap positional_names (parts-renamed r (fields_of p) (fields_of q) proto.operand) ∙ map-positionals r.symbols (operand_parts (fields_of p))

  pub same-keywords : new.keywords ≡ old.keywords
  unfolding names_in
  same-keywords = proto.keywords

  pub new-locals : new.locals ≡ map (renamed_pair r.symbols) old.locals
  unfolding names_in
  new-locals = locals-renamed r body

  pub same-local-kinds : seconds new.locals ≡ seconds old.locals
  same-local-kinds = ap seconds new-locals ∙ same-seconds r.symbols old.locals

  kept-keyword : (n : Bytes) → any (same n) (firsts old.keywords) ≡ true → r.symbols n ≡ n
  unfolding kept_names
  kept-keyword n e = proper.kept n (any-in-front (same n) (firsts old.keywords) _ e)

  kept-global : (n : Bytes) → any (same n) (firsts old.globals) ≡ true → r.symbols n ≡ n
  unfolding kept_names
  kept-global n e =
      proper.kept n (any-behind (same n) (firsts old.keywords) _ (any-in-front (same n) (firsts old.globals) _ e))

  kept-system : (n : Bytes) → any (same n) (bytes "SYSLIST" ∷ bytes "SYSNDX" ∷ bytes "SYSECT" ∷ []) ≡ true → r.symbols n ≡ n
  unfolding kept_names
  kept-system n e = proper.kept n (any-behind (same n) (firsts old.keywords) _ (any-behind (same n) (firsts old.globals) _ e))

  -- the globals that a macro declares keep their names
  pub same-declared-globals : new.globals ≡ old.globals
  unfolding names_in
  same-declared-globals = globals-renamed r body ∙ kept-pairs r.symbols (declared_in globals_on b) kept-global

  own-renamed : own_names new ≡ map r.symbols (own_names old)
  unfolding own_names parameter_names
  own-renamed =
      let f = r.symbols in
      (λ i. (name-renamed i ++ (positionals-renamed i ++ (ap firsts same-keywords ∙ sym (kept_map f (firsts old.keywords) kept-keyword)) i))
      ++ (ap firsts new-locals ∙ map-firsts f old.locals) i)
      ∙ sym (map-append f (old.name ++ (old.positionals ++ firsts old.keywords)) (firsts old.locals)
      ∙ ap (λ ns. ns ++ map f (firsts old.locals)) (map-append f old.name (old.positionals ++ firsts old.keywords)
      ∙ ap (λ ns. map f old.name ++ ns) (map-append f old.positionals (firsts old.keywords))))

  own-place : (n : Bytes) → place_among (own_names new) (r.symbols n) ≡ place_among (own_names old) n
  own-place n = ap (λ ns. place_among ns (r.symbols n)) own-renamed ∙ place-renamed r.symbols proper.symbols-one (own_names old) n

  own-length : length (own_names new) ≡ length (own_names old)
  own-length = ap length own-renamed ∙ length-map (own_names old) r.symbols

  global-place : (n : Bytes) → place_among (firsts new.globals) (r.symbols n) ≡ place_among (firsts old.globals) n
  global-place n =
      ap (λ ns. place_among ns (r.symbols n)) (ap firsts same-declared-globals ∙ sym (kept_map r.symbols (firsts old.globals) kept-global))
      ∙ place-renamed r.symbols proper.symbols-one (firsts old.globals) n

  -- a renamed symbol is a system symbol exactly when it was
  system-renamed : (w n : Bytes) → any (same w) (bytes "SYSLIST" ∷ bytes "SYSNDX" ∷ bytes "SYSECT" ∷ []) ≡ true → same (r.symbols n) w ≡ same n w
  system-renamed w n e = ap (same (r.symbols n)) (sym (kept-system w e)) ∙ same-renamed r.symbols proper.symbols-one n w

  same-system : (n : Bytes) → system_slot (r.symbols n) ≡ system_slot n
  unfolding system_slot any
  same-system n = λ i.
      choose (system-renamed (bytes "SYSLIST") n refl i) list
      (choose (system-renamed (bytes "SYSNDX") n refl i) index (choose (system-renamed (bytes "SYSECT") n refl i) section nowhere))

  same-shared : (gs : List (Bytes × Set)) (n : Bytes)
      → choose (ltb (place_among (firsts new.globals) (r.symbols n)) (length new.globals)) (shared (place_among (firsts gs) (r.symbols n))) (system_slot (r.symbols n))
      ≡ choose (ltb (place_among (firsts old.globals) n) (length old.globals)) (shared (place_among (firsts gs) n)) (system_slot n)
  same-shared gs n =
      let known = ltb (place_among (firsts old.globals) n) (length old.globals) in
      (λ i. choose (ltb (global-place n i) (length (same-declared-globals i))) (shared (place_among (firsts gs) (r.symbols n))) (same-system n i))
      ∙ by known
      (λ e. chosen _ _ e ∙ (ap (λ m. shared (place_among (firsts gs) m)) (kept-global n (among (firsts old.globals) n (place-below e))) ∙ sym (chosen _ _ e)))
      (λ e. passed_over _ _ e ∙ sym (passed_over _ _ e))
    where
      place-below : ltb (place_among (firsts old.globals) n) (length old.globals) ≡ true → place_among (firsts old.globals) n < length (firsts old.globals)
      place-below e = subst (λ k. place_among (firsts old.globals) n < k) (sym (length-firsts old.globals)) (ltb-true _ _ e)

  -- a renamed symbol has the slot that it had
  pub same-slot : (gs : List (Bytes × Set)) (n : Bytes) → resolved new gs (r.symbols n) ≡ resolved old gs n
  unfolding resolved
  same-slot gs n = λ i. choose (ltb (own-place n i) (own-length i)) (own (own-place n i)) (same-shared gs n i)

-- ---- the lines that sequence symbols name

module _ (r : Renaming) (one : OneForOne r.sequences) (t : Bytes) where
  name_of : (s u : Bytes) → RenamedName r s u → (is_sequence u && same (drop 1 u) (r.sequences t)) ≡ (is_sequence s && same (drop 1 s) t)
  name_of s u (sequence q) = λ i. (q.now ∙ sym q.was) i && (ap (λ k. same (drop 1 k) (r.sequences t)) q.renamed ∙ same-renamed r.sequences one (drop 1 s) t) i
  name_of s u (plain e k h) = ap (λ (x : Bool). x && same (drop 1 u) (r.sequences t)) k ∙ sym (ap (λ (x : Bool). x && same (drop 1 s) t) e)

  names-line : (l m : Bytes) → RenamedLine r l m → is_named (r.sequences t) m ≡ is_named t l
  unfolding is_named no_fields is_sequence
  names-line l m (remark e h) =
      ap (λ k. is_named (r.sequences t) k) h
      ∙ (ap (λ (f : Fields). is_sequence f.name && same (drop 1 f.name) (r.sequences t)) (remark-fields l e)
      ∙ sym (ap (λ (f : Fields). is_sequence f.name && same (drop 1 f.name) t) (remark-fields l e)))
  names-line l m (statement e k q) =
      ap (λ (f : Fields). is_sequence f.name && same (drop 1 f.name) (r.sequences t)) (fields-of m k)
      ∙ (name_of (fields_of l).name (fields_of m).name q.name
      ∙ sym (ap (λ (f : Fields). is_sequence f.name && same (drop 1 f.name) t) (fields-of l e)))

  -- a renamed sequence symbol names the line that it named
  pub same_target : {b c : List Bytes} → RenamedBody r b c → line_named (r.sequences t) c ≡ line_named t b
  unfolding line_named
  same_target (last {l = l} {m = m} e h) = λ i. choose (names-line l m h i) 0 1
  same_target (◌then◌ {l = l} {m = m} h k) = λ i. choose (names-line l m h.1 i) 0 (suc (same_target k i))
