-- What a coder writes of a thing that fits, it reads back, whatever follows; and what it writes are bytes. So a deck that fits is read back from its bytes.
use Prim.Native.Nat.{ℕ, suc, ◌+◌, ◌*◌, ◌-◌, ◌/◌, ◌%◌, ◌<◌}
use native.Mathlib.Nat.{div-add-mod'}
use native.Mathlib.Omega.{arith}
use mathlib.Core.Path.{◌≡◌, refl, ap, sym, ◌∙◌}
use mathlib.Core.Bool.{Bool, true, false}
use mathlib.Core.List.{List, [], ◌∷◌, ◌++◌, append_assoc, append-nil}
use mathlib.Core.Option.{Option, some}
use lib.ListN.{length}
use borrow.Author.Tests.{lt-ltb, le-ltb, eq-eqb, ne_eqb}
use Rattle.text.specs.Bytes.{Bytes}
use Rattle.rules.specs.Choice.{choose}
use Rattle.rules.specs.Lexemes.{Lex, byte as char, mark, ref, lone}
use Rattle.rules.specs.Statement.{Set, set_a, set_b, set_c, Line, Does, passes, ends, exits, text, models, sets, branches_if, branches, counts, doing}
use Rattle.rules.proofs.Choices.{chosen, passed_over}
use Rattle.deck.specs.Coding.{after, made, Coder, get_byte, byte, two, four, pair, via, put_all, get_all, list_of}
use Rattle.deck.specs.Slots.{Slot, own, shared, list, index, section, nowhere, DeckMacro, Deck}
use Rattle.deck.specs.Coders.{mark_code, own_code, shared_code, list_code, slot_code, lex_code, lex_of, lexeme, field, string, set_code, set_of, kind, flag_code, flag_of, flag, sets_code, put_line_by, sets_line, get_sets, get_models, get_text, get_branch_if, get_branch, get_counts, get_line_by, line, parts_of, macro_of, macro, deck_from, contents, encoded, whole_deck, versioned, counted, decoded}
use Rattle.rules.proofs.Logic.{All}
use Rattle.deck.proofs.Lists.{all_append}

abbrev pub IsByte : ℕ → Type 0
IsByte b = b < 256

-- a number that is written in two bytes
abbrev pub IsCount : ℕ → Type 0
IsCount n = n < 65536

-- a record, so that a coder and what fits it can be left out where this is used
pub record Faithful {A : Type 0} (c : Coder A) (Fits : A → Type 0) : Type 0 where
  pub back : (a : A) → Fits a → (s : Bytes) → c.get (c.put a ++ s) ≡ some (a, s)
  pub bytes : (a : A) → Fits a → All IsByte (c.put a)

pub byte-faithful : Faithful byte IsByte
unfolding byte get_byte
byte-faithful = record { back = λ n h s. refl; bytes = λ n h. (h, tt) }

pub two-faithful : Faithful two IsCount
unfolding two get_byte after
two-faithful = record {
  back = λ n h s. let e : n / 256 % 256 * 256 + n % 256 ≡ n = omega arith in ap (λ m. some (m, s)) e;
  bytes = λ n h. (omega arith, (omega arith, tt));
}

pub four-faithful : Faithful four (λ n. n < 4294967296)
unfolding four two get_byte after
four-faithful = record {
  back = λ n h s.
      let quarter : n / 16777216 ≡ n / 65536 / 256 = omega arith in
      let high : n / 65536 / 256 % 256 * 256 + n / 65536 % 256 ≡ n / 65536 = omega arith in
      let low : n / 256 % 256 * 256 + n % 256 ≡ n % 65536 = omega arith in
      rw (quarter, high, low, div-add-mod');
  bytes = λ n h. (omega arith, (omega arith, (omega arith, (omega arith, tt))));
}

pub pair-faithful : {A B : Type 0} {c : Coder A} {d : Coder B} {P : A → Type 0} {Q : B → Type 0} → Faithful c P → Faithful d Q
    → Faithful (pair c d) (λ p. P p.0 × Q p.1)
unfolding pair after
pair-faithful {c = c} {d = d} hc hd = record {
  back = λ p h s. rw (append_assoc, hc.back p.0 h.0, hd.back p.1 h.1);
  bytes = λ p h. all_append IsByte (c.put p.0) (d.put p.1) (hc.bytes p.0 h.0) (hd.bytes p.1 h.1);
}

pub via-faithful : {A B : Type 0} (from : A → B) (to : B → Option A) {c : Coder B} {P : B → Type 0} {Fits : A → Type 0}
    → ((a : A) → Fits a → P (from a)) → ((a : A) → Fits a → to (from a) ≡ some a) → Faithful c P → Faithful (via c from to) Fits
unfolding via after made
via-faithful from to fits same hc = record {
  back = λ a h s. rw (hc.back (from a) (fits a h), same a h);
  bytes = λ a h. hc.bytes (from a) (fits a h);
}

module _ {A : Type 0} {c : Coder A} {P : A → Type 0} (hc : Faithful c P) where
  all_back : (l : List A) → All P l → (s : Bytes) → get_all c (length l) (put_all c l ++ s) ≡ some (l, s)
  unfolding get_all put_all after
  all_back [] h s = refl
  all_back (a ∷ l) h s = rw (append_assoc, hc.back a h.0, all_back l h.1 s)

  all-bytes : (l : List A) → All P l → All IsByte (put_all c l)
  unfolding put_all
  all-bytes [] h = tt
  all-bytes (a ∷ l) h = all_append IsByte (c.put a) (put_all c l) (hc.bytes a h.0) (all-bytes l h.1)

  pub list-faithful : Faithful (list_of c) (λ l. IsCount (length l) × All P l)
  unfolding list_of after
  list-faithful = record {
    back = λ l h s. rw (append_assoc, two-faithful.back (length l) h.0) (all_back l h.1 s);
    bytes = λ l h. all_append IsByte (two.put (length l)) (put_all c l) (two-faithful.bytes (length l) h.0) (all-bytes l h.1);
  }

-- lexemes
abbrev pub FitsSlot : Slot → Type 0
FitsSlot (own p) = p < 64
FitsSlot (shared g) = g < 32
FitsSlot list = Unit {0}
FitsSlot index = Unit {0}
FitsSlot section = Unit {0}
FitsSlot nowhere = ⊥

abbrev pub FitsLex : Lex Slot → Type 0
FitsLex (char c) = c < 127
FitsLex mark = Unit {0}
FitsLex (ref s) = FitsSlot s
FitsLex lone = ⊥

lexeme-byte : (x : Lex Slot) → FitsLex x → IsByte (lex_code x)
unfolding lex_code slot_code
lexeme-byte (char c) h = omega arith
lexeme-byte mark h = omega arith
lexeme-byte (ref (own p)) h = omega arith
lexeme-byte (ref (shared g)) h = omega arith
lexeme-byte (ref list) h = omega arith
lexeme-byte (ref index) h = omega arith
lexeme-byte (ref section) h = omega arith
lexeme-byte (ref nowhere) h = absurd h
lexeme-byte lone h = absurd h

lexeme-same : (x : Lex Slot) → FitsLex x → lex_of (lex_code x) ≡ some x
unfolding lex_code slot_code lex_of choose
lexeme-same (char c) h = chosen _ _ (lt-ltb c mark_code h)
lexeme-same mark h = refl
lexeme-same (ref (own p)) h =
    let e : own_code + p - own_code ≡ p = omega arith in
    passed_over _ _ (le-ltb (own_code + p) mark_code (omega arith))
    ∙ passed_over _ _ (ne_eqb (own_code + p) mark_code (λ q. omega arith))
    ∙ chosen _ _ (lt-ltb (own_code + p) shared_code (omega arith))
    ∙ ap (λ q. some (ref (own q))) e
lexeme-same (ref (shared g)) h =
    let e : shared_code + g - shared_code ≡ g = omega arith in
    passed_over _ _ (le-ltb (shared_code + g) mark_code (omega arith))
    ∙ passed_over _ _ (ne_eqb (shared_code + g) mark_code (λ q. omega arith))
    ∙ passed_over _ _ (le-ltb (shared_code + g) shared_code (omega arith))
    ∙ chosen _ _ (lt-ltb (shared_code + g) list_code (omega arith))
    ∙ ap (λ q. some (ref (shared q))) e
lexeme-same (ref list) h = refl
lexeme-same (ref index) h = refl
lexeme-same (ref section) h = refl
lexeme-same (ref nowhere) h = absurd h
lexeme-same lone h = absurd h

pub lexeme-faithful : Faithful lexeme FitsLex
unfolding lexeme
lexeme-faithful = via-faithful lex_code lex_of lexeme-byte lexeme-same byte-faithful

abbrev pub FitsField : List (Lex Slot) → Type 0
FitsField x = IsCount (length x) × All FitsLex x

pub field-faithful : Faithful field FitsField
unfolding field
field-faithful = list-faithful lexeme-faithful

abbrev pub FitsString : Bytes → Type 0
FitsString s = IsCount (length s) × All IsByte s

pub string-faithful : Faithful string FitsString
unfolding string
string-faithful = list-faithful byte-faithful

-- kinds and flags: all of them fit
abbrev pub Any : {A : Type 0} → A → Type 0
Any a = Unit {0}

kind-byte : (k : Set) → Any k → IsByte (set_code k)
unfolding set_code
kind-byte set_a h = omega arith
kind-byte set_b h = omega arith
kind-byte set_c h = omega arith

kind-same : (k : Set) → Any k → set_of (set_code k) ≡ some k
unfolding set_code set_of choose
kind-same set_a h = refl
kind-same set_b h = refl
kind-same set_c h = refl

pub kind-faithful : Faithful kind Any
unfolding kind
kind-faithful = via-faithful set_code set_of kind-byte kind-same byte-faithful

flag-byte : (b : Bool) → Any b → IsByte (flag_code b)
unfolding flag_code choose
flag-byte true h = omega arith
flag-byte false h = omega arith

flag_same : (b : Bool) → Any b → flag_of (flag_code b) ≡ some b
unfolding flag_code flag_of choose
flag_same true h = refl
flag_same false h = refl

pub flag-faithful : Faithful flag Any
unfolding flag
flag-faithful = via-faithful flag_code flag_of flag-byte flag_same byte-faithful

-- lines: a line has the fields that its coding writes, and no other
abbrev pub HasNoFields : Line Slot ℕ → Type 0
HasNoFields l = (l.name ≡ []) × ((l.operation ≡ []) × (l.operand ≡ []))

abbrev pub HasOperandOnly : Line Slot ℕ → Type 0
HasOperandOnly l = (l.name ≡ []) × (l.operation ≡ [])

abbrev pub FitsDoing : Line Slot ℕ → Does ℕ → Type 0
FitsDoing l passes = HasNoFields l
FitsDoing l ends = HasNoFields l
FitsDoing l exits = HasNoFields l
FitsDoing l (text s) = FitsString s × HasNoFields l
FitsDoing l models = Unit {0}
FitsDoing l (sets k) = l.operation ≡ []
FitsDoing l (branches_if t) = IsCount t × HasOperandOnly l
FitsDoing l (branches t) = IsCount t × HasNoFields l
FitsDoing l counts = HasOperandOnly l

abbrev pub FitsLine : Line Slot ℕ → Type 0
FitsLine l = FitsField l.name × (FitsField l.operation × (FitsField l.operand × FitsDoing l l.does))

-- a line that sets is told by the byte that also names the kind
sets-byte : (k : Set) → IsByte (sets_code + set_code k)
unfolding set_code
sets-byte set_a = omega arith
sets-byte set_b = omega arith
sets-byte set_c = omega arith

sets-back : (k : Set) (s : Bytes) → get_line_by (sets_code + set_code k) s ≡ sets_line k s
unfolding get_line_by get_sets set_of set_code choose
sets-back set_a s = refl
sets-back set_b s = refl
sets-back set_c s = refl

module _ (l : Line Slot ℕ) where
  abbrev FieldsFit : Type 0
  FieldsFit = FitsField l.name × (FitsField l.operation × FitsField l.operand)

  -- a line that is rebuilt from what it does and its fields
  bare : {d : Does ℕ} → l.does ≡ d → HasNoFields l → doing d ≡ l
  unfolding doing
  bare e h = λ i. record { does = sym e i; name = sym h.0 i; operation = sym h.1.0 i; operand = sym h.1.1 i }

  operand-only : {d : Does ℕ} → l.does ≡ d → HasOperandOnly l → ◌≡◌ {A = Line Slot ℕ} (record { does = d; name = []; operation = []; operand = l.operand }) l
  operand-only e h = λ i. record { does = sym e i; name = sym h.0 i; operation = sym h.1 i; operand = l.operand }

  line-back : (d : Does ℕ) → l.does ≡ d → FieldsFit → FitsDoing l d → (s : Bytes) → after (get_byte (put_line_by l d ++ s)) get_line_by ≡ some (l, s)
  unfolding put_line_by get_line_by get_byte after choose get_text get_models get_branch_if get_branch get_counts sets_line
  line-back passes e f h s = ap (λ x. some (x, s)) (bare e h)
  line-back ends e f h s = ap (λ x. some (x, s)) (bare e h)
  line-back exits e f h s = ap (λ x. some (x, s)) (bare e h)
  line-back (text t) e f h s = rw (string-faithful.back t h.0) (ap (λ x. some (x, s)) (bare e h.1))
  line-back models e f h s =
      rw (append_assoc, field-faithful.back l.name f.0, append_assoc, field-faithful.back l.operation f.1.0, field-faithful.back l.operand f.1.1)
      (λ i. some (record { does = sym e i; name = l.name; operation = l.operation; operand = l.operand }, s))
  line-back (sets k) e f h s =
      rw (sets-back k, append_assoc, field-faithful.back l.name f.0, field-faithful.back l.operand f.1.1)
      (λ i. some (record { does = sym e i; name = l.name; operation = sym h i; operand = l.operand }, s))
  line-back (branches_if t) e f h s =
      rw (append_assoc, two-faithful.back t h.0, field-faithful.back l.operand f.1.1) (ap (λ x. some (x, s)) (operand-only e h.1))
  line-back (branches t) e f h s = rw (two-faithful.back t h.0) (ap (λ x. some (x, s)) (bare e h.1))
  line-back counts e f h s = rw (field-faithful.back l.operand f.1.1) (ap (λ x. some (x, s)) (operand-only e h))

  line-bytes : (d : Does ℕ) → FieldsFit → FitsDoing l d → All IsByte (put_line_by l d)
  unfolding put_line_by
  line-bytes passes f h = (omega arith, tt)
  line-bytes ends f h = (omega arith, tt)
  line-bytes exits f h = (omega arith, tt)
  line-bytes (text t) f h = (omega arith, string-faithful.bytes t h.0)
  line-bytes models f h = (
    omega arith,
    all_append IsByte (field.put l.name) (field.put l.operation ++ field.put l.operand) (field-faithful.bytes l.name f.0)
        (all_append IsByte (field.put l.operation) (field.put l.operand) (field-faithful.bytes l.operation f.1.0) (field-faithful.bytes l.operand f.1.1)),
  )
  line-bytes (sets k) f h =
      (sets-byte k, all_append IsByte (field.put l.name) (field.put l.operand) (field-faithful.bytes l.name f.0) (field-faithful.bytes l.operand f.1.1))
  line-bytes (branches_if t) f h =
      (omega arith, all_append IsByte (two.put t) (field.put l.operand) (two-faithful.bytes t h.0) (field-faithful.bytes l.operand f.1.1))
  line-bytes (branches t) f h = (omega arith, two-faithful.bytes t h.0)
  line-bytes counts f h = (omega arith, field-faithful.bytes l.operand f.1.1)

pub line-faithful : Faithful line FitsLine
unfolding line
line-faithful = record {
  back = λ l h s. line-back l l.does refl (h.0, (h.1.0, h.1.1.0)) h.1.1.1 s;
  bytes = λ l h. line-bytes l l.does (h.0, (h.1.0, h.1.1.0)) h.1.1.1;
}

-- macros and decks
abbrev pub FitsKeywords : List (Bytes × Bytes) → Type 0
FitsKeywords ks = IsCount (length ks) × All (λ k. FitsString k.0 × FitsString k.1) ks

abbrev pub FitsKinds : List Set → Type 0
FitsKinds ks = IsCount (length ks)

abbrev pub FitsMacro : DeckMacro → Type 0
FitsMacro m =
    FitsString m.title
    × (IsCount m.positionals × (FitsKeywords m.keywords × (FitsKinds m.locals × (IsCount (length m.lines) × All FitsLine m.lines))))

abbrev pub FitsDeck : Deck → Type 0
FitsDeck d = FitsKinds d.globals × (IsCount (length d.macros) × All FitsMacro d.macros)

-- every list of kinds is one of things that fit
all_any : {A : Type 0} (l : List A) → All Any l
all_any [] = tt
all_any (a ∷ l) = (tt, all_any l)

pub macro-faithful : Faithful macro FitsMacro
unfolding macro parts_of macro_of
macro-faithful = via-faithful parts_of macro_of
    (λ m h. (h.0, (tt, (h.1.0, (h.1.1.0, ((h.1.1.1.0, all_any m.locals), h.1.1.1.1))))))
    (λ m h. refl)
    (pair-faithful string-faithful (pair-faithful flag-faithful (pair-faithful two-faithful
    (pair-faithful (list-faithful (pair-faithful string-faithful string-faithful)) (pair-faithful (list-faithful kind-faithful) (list-faithful line-faithful))))))

pub contents-faithful : Faithful contents FitsDeck
unfolding contents deck_from
contents-faithful = via-faithful (λ d. (d.globals, d.macros)) deck_from
    (λ d h. ((h.0, all_any d.globals), h.1)) (λ d h. refl) (pair-faithful (list-faithful kind-faithful) (list-faithful macro-faithful))

-- the count before the deck has four bytes
pub deck-back : (d : Deck) → FitsDeck d → length (contents.put d) < 4294967295 → decoded (encoded d) ≡ some d
unfolding decoded encoded counted versioned whole_deck choose
deck-back d h small =
    let n = suc (length (contents.put d)) in
    rw (four-faithful.back n (omega arith), eq-eqb n n refl, ← append-nil (contents.put d), contents-faithful.back d h [])

pub deck-bytes : (d : Deck) → FitsDeck d → All (λ b. b < 256) (encoded d)
unfolding encoded four
deck-bytes d h = (omega arith, (omega arith, (omega arith, (omega arith, (omega arith, contents-faithful.bytes d h)))))
