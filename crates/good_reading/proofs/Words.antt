-- A field whose lexemes spell a language word has the word's bytes. Assumes nothing.
use Prim.Native.Nat.{ℕ, suc, ◌<◌}
use native.Mathlib.Omega.{arith}
use mathlib.Core.Path.{◌≡◌, refl, sym, ap, ◌∙◌}
use mathlib.Core.Bool.{Bool, true, false, ◌&&◌, ◌||◌, not, and-false}
use mathlib.Core.List.{List, [], ◌∷◌, map}
use lib.Dec.{eqb, ltb}
use lib.ListN.{length}
use borrow.Author.Tests.{ltb-true, ne_eqb, lt-ltb, le-ltb, ltb-false, not-true}
use Rattle.text.specs.Bytes.{Bytes, same}
use Rattle.text.specs.Words.{place_among, words, word_number}
use Rattle.std.specs.Prelude.{Option}
use Rattle.std.specs.Option.{is_some}
use Rattle.kinds.specs.declared.Word.{Word}
use Rattle.words.specs.Places.{place_of}
use Rattle.words.proofs.Laws.{no-word}
use Rattle.rules.specs.Choice.{every, any}
use Rattle.rules.specs.Lexemes.{Lex, is_plain}
use Rattle.rules.specs.Fields.{is_empty}
use Rattle.rules.specs.Machine.{is_language_word}
use Rattle.rules.proofs.Choices.{by, and_left, and_right}
use Rattle.deck.specs.Slots.{Slot}
use Rattle.deck.specs.AsRead.{last_byte, is_word_field, is_model_operation}
use Rattle.deck_reading.specs.Reading.{slot_lex}
use Rattle.good_reading.proofs.Lexes.{Stands, text, marks, refers, strays, stands}

-- ---- a byte of a word is text, and no apostrophe

is_word_byte : ℕ → Bool
is_word_byte d = ltb d 127 && not (eqb d 39)

byte-same : (d c : ℕ) → is_word_byte d ≡ true → (is_plain (slot_lex c) && eqb d (last_byte (slot_lex c))) ≡ eqb d c
unfolding is_word_byte is_plain last_byte
byte-same d c w = go (stands c)
  where
    small : d < 127
    small = ltb-true d 127 (and_left (ltb d 127) _ w)

    other : eqb d 39 ≡ false
    other = not-true _ (and_right (ltb d 127) _ w)

    go : {x : Lex Slot} → Stands c x → (is_plain x && eqb d (last_byte x)) ≡ eqb d c
    go (text k) = refl
    go (marks e) = let s = small in other ∙ sym (ne_eqb d c (λ z. omega (arith, z)))
    go (refers s l m) = let s = small in sym (ne_eqb d c (λ z. omega (arith, z)))
    go (strays k) = let s = small in sym (ne_eqb d c (λ z. omega (arith, z)))

four : (a p b s : Bool) → ((a && p) && (b && s)) ≡ ((a && b) && (p && s))
four true true true s = refl
four true true false s = refl
four true false true s = refl
four true false false s = refl
four false p b s = refl

word_same : (w code : Bytes) → every is_word_byte w ≡ true → (every is_plain (map slot_lex code) && same w (map last_byte (map slot_lex code))) ≡ same w code
unfolding every
word_same [] [] h = refl
word_same [] (c ∷ l) h = and-false (every is_plain (map slot_lex (c ∷ l)))
word_same (d ∷ w) [] h = refl
word_same (d ∷ w) (c ∷ l) h =
    four (is_plain (slot_lex c)) (every is_plain (map slot_lex l)) (eqb d (last_byte (slot_lex c))) (same w (map last_byte (map slot_lex l)))
    ∙ (λ i. byte-same d c (and_left (is_word_byte d) _ h) i && word_same w l (and_right (is_word_byte d) _ h) i)

-- ---- the words

among : (ws : List Bytes) (s : Bytes) → ltb (place_among ws s) (length ws) ≡ any (λ w. same w s) ws
unfolding any
among [] s = le-ltb 0 0 (omega arith)
among (w ∷ ws) s = go (among ws s) (same w s)
  where
    more : (n m : ℕ) → ltb (suc n) (suc m) ≡ ltb n m
    more n m = by (ltb n m) (λ e. let h = ltb-true n m e in lt-ltb (suc n) (suc m) (omega arith) ∙ sym e)
        (λ e. let h = ltb-false n m e in le-ltb (suc n) (suc m) (omega arith) ∙ sym e)

    go : ltb (place_among ws s) (length ws) ≡ any (λ w. same w s) ws → (b : Bool) → ltb (elim b [ true ↦ 0 | false ↦ suc (place_among ws s) ]) (suc (length ws)) ≡ (b || any (λ w. same w s) ws)
    go on true = lt-ltb 0 (suc (length ws)) (omega arith)
    go on false = more (place_among ws s) (length ws) ∙ on

spread : (p a b : Bool) → (p && (a || b)) ≡ ((p && a) || (p && b))
spread true a b = refl
spread false a b = refl

any_same : (ws : List Bytes) (code : Bytes) → every (every is_word_byte) ws ≡ true → (every is_plain (map slot_lex code) && any (λ w. same w (map last_byte (map slot_lex code))) ws) ≡ any (λ w. same w code) ws
unfolding any every
any_same [] code h = and-false (every is_plain (map slot_lex code))
any_same (w ∷ ws) code h =
    spread (every is_plain (map slot_lex code)) (same w (map last_byte (map slot_lex code))) (any (λ v. same v (map last_byte (map slot_lex code))) ws)
    ∙ (λ i. word_same w code (and_left (every is_word_byte w) _ h) i || any_same ws code (and_right (every is_word_byte w) _ h) i)

words_are : every (every is_word_byte) words ≡ true
unfolding every is_word_byte words
words_are = refl

language-word : (code : Bytes) → (every is_plain (map slot_lex code) && is_language_word (map last_byte (map slot_lex code))) ≡ ltb (word_number code) 16
unfolding is_language_word word_number words
language-word code =
    ap (λ (b : Bool). every is_plain (map slot_lex code) && b) (among words (map last_byte (map slot_lex code)))
    ∙ (any_same words code words_are ∙ sym (among words code))

there : (code : Bytes) → not (eqb (length code) 0) ≡ not (is_empty (map slot_lex code))
unfolding is_empty
there [] = refl
there (c ∷ l) = ap not (ne_eqb (suc (length l)) 0 (λ e. omega (arith, e)))

pub operation-is : (code : Bytes) (word : Option Word) (field none : Bool) → place_of word ≡ word_number code → field ≡ is_word_field (map slot_lex code) → is_some word ≡ not none
    → (not (eqb (length code) 0) && (field && none)) ≡ is_model_operation (map slot_lex code)
unfolding is_model_operation
operation-is code word field none e f g = λ i. there code i && (f i && ((no-word word none code e g).0 ∙ ap not (sym (language-word code))) i)
