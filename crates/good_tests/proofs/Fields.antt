-- Which lexemes may stand in a line, by their bytes. Assumes nothing.
use Prim.Native.Nat.{ℕ, suc, ◌≤◌, ◌<◌}
use native.Mathlib.Omega.{arith}
use mathlib.Core.Path.{◌≡◌, refl, sym, ap, ◌∙◌}
use mathlib.Core.Bool.{Bool, ◌&&◌}
use mathlib.Core.List.{[], ◌∷◌, map}
use lib.Dec.{leb, ltb}
use lib.ListN.{length}
use borrow.Author.Tests.{lt-ltb, le-ltb}
use Rattle.text.specs.Bytes.{Bytes}
use Rattle.text.specs.Characters.{in_set}
use Rattle.rules.specs.Choice.{every}
use Rattle.rules.specs.Lexemes.{Lex}
use Rattle.deck.specs.Slots.{Slot}
use Rattle.deck.specs.Good.{is_lexeme, are_lexemes}
use Rattle.deck_reading.specs.Reading.{slot_lex}
use Rattle.good_reading.proofs.Lexes.{Stands, text, marks, refers, strays, stands, is-text}

pub lexeme-text : (c : ℕ) → c < 127 → {b : Bool} → b ≡ in_set c → b ≡ is_lexeme (slot_lex c)
unfolding is_lexeme
lexeme-text c h e = e ∙ sym (ap is_lexeme (is-text c h))

pub lexeme-other : (c : ℕ) → 127 ≤ c → ltb c 227 ≡ is_lexeme (slot_lex c)
unfolding is_lexeme
lexeme-other c h = go (stands c)
  where
    go : {x : Lex Slot} → Stands c x → ltb c 227 ≡ is_lexeme x
    go (text k) = absurd (omega arith)
    go (marks e) = lt-ltb c 227 (omega arith)
    go (refers s l m) = lt-ltb c 227 m
    go (strays k) = le-ltb c 227 k

same_length : (code : Bytes) → length code ≡ length (map slot_lex code)
same_length [] = refl
same_length (c ∷ l) = ap suc (same_length l)

pub lexemes-are : (code : Bytes) {b : Bool} → b ≡ every is_lexeme (map slot_lex code) → (leb (length code) 71 && b) ≡ are_lexemes (map slot_lex code)
unfolding are_lexemes
lexemes-are code e = λ i. leb (same_length code i) 71 && e i
