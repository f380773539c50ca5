-- The lexemes that the grammar's check sees in a deck's bytes are the deck's own, with their kinds: so its functions serve the test of good form as they are.
use Prim.Native.Nat.{ℕ, ◌+◌, ◌-◌, ◌<◌}
use mathlib.Core.Path.{◌≡◌, refl, ap, ◌∙◌}
use mathlib.Core.Bool.{true}
use mathlib.Core.List.{List, [], ◌∷◌, map}
use native.Mathlib.Omega.{arith}
use lib.Dec.{eqb, ltb}
use lib.ListN.{get_or}
use borrow.Author.Tests.{ltb-true, ltb-false, lt-ltb, eqb-false}
use Rattle.text.specs.Bytes.{Bytes}
use Rattle.rules.specs.Choice.{choose}
use Rattle.rules.specs.Lexemes.{Lex, ref}
use Rattle.rules.specs.Statement.{Set, map_lex}
use Rattle.rules.specs.Grammar.{Kind}
use Rattle.rules.proofs.Choices.{by}
use Rattle.deck.specs.Slots.{DeckMacro, slot_kind}
use Rattle.deck.specs.Coders.{lex_of as slot_of}
use Rattle.grammar.specs.Tokens.{kind_of, lex_of, toks_at}
use Rattle.deck_reading.specs.Reading.{or_lone, slot_lex}
use Rattle.good_forms.specs.Kinded.{Kinded}

module _ (kinds : Bytes) (globals : List Set) (m : DeckMacro) (k : Kinded kinds globals m) where
  abbrev known : ℕ → Lex Kind
  known b = map_lex (slot_kind globals m) (slot_lex b)

  pub lex-known : (b : ℕ) → lex_of kinds b ≡ known b
  unfolding lex_of slot_lex slot_of or_lone map_lex slot_kind choose
  lex-known b = by (ltb b 127) (λ h. rw h)
      λ h. by (eqb b 127) (λ e. rw (h, e))
      λ e. by (ltb b 192)
      (λ l. let less = ltb-true b 192 l in let more = ltb-false b 127 h in let not = eqb-false b 127 e in
      let far : ltb b 224 ≡ true = lt-ltb b 224 (omega arith) in
      let p : b - 128 < 64 = omega arith in
      rw (h, e, l, far) (ap ref (k.own-kinds (b - 128) p)))
      λ l. by (ltb b 224)
      (λ f. let less = ltb-true b 224 f in let more = ltb-false b 192 l in
      let g : b - 192 < 32 = omega arith in
      let z : b - 128 ≡ 64 + (b - 192) = omega arith in
      rw (h, e, l, f) (ap (λ i. ref (kind_of (get_or kinds i 4))) z ∙ ap ref (k.shared-kinds (b - 192) g)))
      λ f. by (eqb b 224) (λ x. rw (h, e, l, f, x)) λ x. by (eqb b 225) (λ y. rw (h, e, l, f, x, y)) λ y. by (eqb b 226) (λ z. rw (h, e, l, f, x, y, z)) λ z. rw (h, e, l, f, x, y, z)

  -- THE REUSE
  pub field-known : (code : Bytes) → toks_at kinds code 0 ≡ map (map_lex (slot_kind globals m)) (map slot_lex code)
  unfolding toks_at
  field-known [] = refl
  field-known (b ∷ l) = λ j. lex-known b j ∷ field-known l j
