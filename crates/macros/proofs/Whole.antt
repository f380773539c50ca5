-- A deck's bytes written: its front, its macros, and their count last, before them. Assumes nothing.
use Prim.Native.Nat.{ℕ, ◌+◌, ◌-◌, ◌^◌, ◌≤◌, ◌<◌}
use native.Mathlib.Omega.{arith}
use mathlib.Core.Path.{◌≡◌, refl, ap, sym, ◌∙◌}
use mathlib.Core.List.{List, [], ◌∷◌, ◌++◌, map, append_assoc}
use lib.ListN.{length, take, drop, set, length-append}
use Rattle.text.specs.Bytes.{Bytes}
use Rattle.rules.specs.Statement.{Set}
use Rattle.rules.specs.Grammar.{symbol}
use Rattle.rules.specs.Library.{seconds}
use Rattle.rules.specs.Faults.{accepted, verdict}
use Rattle.rules.proofs.OneKind.{Globals, few-globals}
use Rattle.rules.proofs.Within.{few-macros}
use Rattle.deck.specs.Coding.{two, four, list_of}
use Rattle.deck.specs.Coders.{kind}
use Rattle.deck.specs.Translation.{deck_of}
use Rattle.deck.proofs.Size.{deck-size}
use Rattle.grammar.specs.Kinds.{number_of}
use Rattle.lent.specs.Splice.{splice}
use Rattle.lent.proofs.Writes.{splice-cons, splice-drop, splice-whole, splice-length}
use Rattle.writing.proofs.Writes.{both-written, kept-length}
use Rattle.writing.proofs.Coded.{kinds-end}
use Rattle.decks.specs.Decks.{macros_at, macros_put, front_of, sized}
use Rattle.decks.proofs.Puts.{deck-parts}
use Rattle.macros.specs.Macros.{globals_of_library, Holds}

-- ---- the front

pub front-done : (s : Bytes) (ks : List Set) → s ≡ map (λ k. number_of (symbol k)) ks → (n : ℕ) (out o₁ o₂ : Bytes) → o₁ ≡ splice (set out 4 1) 5 ((list_of kind).put ks)
    → o₂ ≡ splice o₁ (length s + 7) (two.put n) → (length s + 7 + 2 ≡ 4 + length (front_of ks n)) × (o₂ ≡ splice out 4 (front_of ks n))
unfolding front_of two
front-done s ks is n out o₁ o₂ w v =
    let k = kinds-end s ks is 5 in (
      omega (arith, k, length-append ((list_of kind).put ks) (two.put n)),
      both-written (set out 4 1) 5 ((list_of kind).put ks) (two.put n) (length s + 7) (omega (arith, k)) o₁ o₂ w v ∙ splice-cons out 4 1 ((list_of kind).put ks ++ two.put n),
    )

-- ---- the whole

seconds-numbered : (gs : Globals) → map (λ g. number_of (symbol g.1)) gs ≡ map (λ k. number_of (symbol k)) (seconds gs)
unfolding seconds
seconds-numbered [] = refl
seconds-numbered (g ∷ gs) = ap (number_of (symbol g.1) ∷◌) (seconds-numbered gs)

-- a count written before what it counts
count-last : (out s : Bytes) (n : ℕ) → 4 + length s ≤ length out → splice (splice out 4 s) 0 (four.put n) ≡ splice out 0 (four.put n ++ s)
unfolding four
count-last out s n h =
    let f = four.put n in
    let o = splice out 4 s in
    splice-whole o f (omega (arith, h, splice-length out 4 s))
    ∙ (ap (f ++◌) (splice-drop out 4 s h)
    ∙ (sym (append_assoc f s (drop (4 + length s) out))
    ∙ sym (splice-whole out (f ++ s) (omega (arith, h)) ∙ ap (λ (k : ℕ). (f ++ s) ++ drop k out) (length-append f s))))

module _ (library : Bytes) (e : verdict library ≡ accepted) where
  abbrev all : Globals
  all = globals_of_library library

  abbrev front : Bytes
  front = front_of (seconds all) (length (macros_at library 0))

  abbrev macros : Bytes
  macros = macros_put all library 0

  whole_is : deck_of library ≡ four.put (length (front ++ macros)) ++ (front ++ macros)
  unfolding deck_of sized
  whole_is = deck-parts library

  whole_length : length (deck_of library) ≡ 4 + (length front + length macros)
  unfolding four
  whole_length = omega (arith, ap length whole_is, length-append front macros)

  pub whole-fits : 4 + (length (front_of (seconds (globals_of_library library)) (length (macros_at library 0))) + length (macros_put (globals_of_library library) library 0)) ≤ 65536
  whole-fits = omega (arith, whole_length, deck-size library e)

  pub count_fits : length (macros_at library 0) < 65536
  unfolding macros_at
  count_fits = omega (arith, few-macros library e)

  module _ {rows : ℕ} {shared kinds : Bytes} (h : Holds (globals_of_library library) rows shared kinds) where
    pub few-rows : rows ≤ 16
    few-rows = omega (arith, h.counted, few-globals library e)

    pub front-kinds : take (64 + rows - 64) (drop 64 kinds) ≡ map (λ k. number_of (symbol k)) (seconds (globals_of_library library))
    front-kinds =
        let z : 64 + rows - 64 ≡ rows = omega arith in
        ap (λ (k : ℕ). take k (drop 64 kinds)) z ∙ (h.numbered ∙ seconds-numbered all)

  -- ---- one part behind another

  abbrev FrontDone : Bytes → Bytes → ℕ → ℕ → Type 0
  FrontDone out o₁ a count = (a ≡ 4 + length (front_of (seconds all) count)) × (o₁ ≡ splice out 4 (front_of (seconds all) count))

  abbrev MacrosDone : Bytes → Bytes → ℕ → ℕ → Type 0
  MacrosDone o₁ o₂ a b = (b ≡ a + length macros) × (o₂ ≡ splice o₁ a macros)

  front-end : (out o₁ : Bytes) (a count : ℕ) → count ≡ length (macros_at library 0) → FrontDone out o₁ a count → a ≡ 4 + length front
  front-end out o₁ a count c p = p.0 ∙ ap (λ (k : ℕ). 4 + length (front_of (seconds all) k)) c

  pub front-room : (out o₁ : Bytes) (a count : ℕ) → count ≡ length (macros_at library 0) → 65536 ≤ length out → FrontDone out o₁ a count
      → a + length (macros_put (globals_of_library library) library 0) ≤ length o₁
  front-room out o₁ a count c room p =
      omega (arith, front-end out o₁ a count c p, whole-fits, room, kept-length out o₁ 4 _ p.1)

  pub four-room : (out o₁ o₂ : Bytes) (a b count : ℕ) → count ≡ length (macros_at library 0) → 65536 ≤ length out → FrontDone out o₁ a count → MacrosDone o₁ o₂ a b
      → (0 + 4 ≤ length o₂) × (b - 4 < 2 ^ 32)
  four-room out o₁ o₂ a b count c room p q =
      let l = kept-length out o₁ 4 _ p.1 in
      let k = kept-length o₁ o₂ a _ q.1 in
      (omega (arith, room, l, k), omega (arith, front-end out o₁ a count c p, q.0, whole-fits))

  pub deck-done : (out o₁ o₂ o₃ : Bytes) (a b count : ℕ) → count ≡ length (macros_at library 0) → 65536 ≤ length out → FrontDone out o₁ a count → MacrosDone o₁ o₂ a b
      → o₃ ≡ splice o₂ 0 (four.put (b - 4)) → (b ≡ length (deck_of library)) × (o₃ ≡ splice out 0 (deck_of library))
  deck-done out o₁ o₂ o₃ a b count c room p q w =
      let n = front-end out o₁ a count c p in
      let v : o₁ ≡ splice out 4 front = p.1 ∙ ap (λ (k : ℕ). splice out 4 (front_of (seconds all) k)) c in
      let l = length-append front macros in
      let k : b - 4 ≡ length (front ++ macros) = omega (arith, n, q.0, l) in (
        omega (arith, n, q.0, whole_length),
        w ∙ ((λ i. splice (both-written out 4 front macros a n o₁ o₂ v q.1 i) 0 (four.put (k i)))
            ∙ (count-last out (front ++ macros) (length (front ++ macros)) (omega (arith, l, whole-fits, room)) ∙ ap (splice out 0) (sym whole_is))),
      )
