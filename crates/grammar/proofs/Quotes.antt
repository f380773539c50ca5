-- Quoted strings and string expressions. Assumes nothing.
use mathlib.Core.Path.{◌≡◌, refl, sym, ap, ◌∙◌, subst}
use mathlib.Core.Bool.{Bool, true, false, not, ◌||◌, true≢false}
use mathlib.Core.List.{List, [], ◌∷◌}
use mathlib.Core.Option.{some}
use Prim.Native.Nat.{ℕ, suc, ◌+◌, ◌<◌, ◌≤◌}
use native.Mathlib.Omega.{arith}
use native.Mathlib.Nat.{le_refl, le_trans}
use lib.Dec.{eqb, lit<}
use lib.ListN.{length, drop}
use borrow.Author.Tests.{ne_eqb, eqb-true}
use Rattle.text.specs.Bytes.{Bytes}
use Rattle.rules.specs.Choice.{choose}
use Rattle.rules.specs.Lexemes.{Lex, opening, comma, period, apostrophe}
use Rattle.rules.specs.Fields.{is_empty}
use Rattle.rules.specs.Grammar.{Kind, Got, got, refused, plain, rest, is_attribute, then, broken, given, closed, referred, piece, is_doubled, add_quoted, goes_on_quoted, quoted_text, substringed, string, characters, deeper, string_within}
use Rattle.rules.specs.Form.{Nothing, form}
use Rattle.rules.proofs.Choices.{by, either, chosen, passed_over, and_right}
use Rattle.std.specs.Prelude.{Option, Some, None, Ok}
use Rattle.grammar.specs.Tokens.{toks_at, tells}
use Rattle.kinds.specs.declared.Stand.TheVariants.{AfterT}
use Rattle.kinds.specs.Kinds.{table_of}
use Rattle.grammar.specs.Operands.{expected, quote_goes, quoted_run, strings_by}
use Rattle.grammar.proofs.Places.{toks-drop, toks-rest, text-inside}
use Rattle.grammar.proofs.Answers.{found, found-at, ended}
use Rattle.grammar.proofs.Chains.{left, left-then, Forward, drop-less, then_same, Chained, chained}
use Rattle.grammar.proofs.Rules.{Few, got-left, broken-left, left-closed, left-opened, up, forward-deeper}
use Rattle.grammar.proofs.Texts.{Scan, scanned, left-scanned, add-got, forward-piece}

module _ (inner : List (Lex Kind) → Got Nothing Kind) (x : List (Lex Kind)) {c : ℕ} (read : c ≡ plain x) where
  pub doubled-not : (c ≡ 39 → ⊥) → false ≡ is_doubled form inner x
  unfolding is_doubled
  doubled-not h = rw (← read, ne_eqb c 39 h)

  pub doubled-is : c ≡ 39 → {d : ℕ} → d ≡ plain (rest x) → eqb d 39 ≡ is_doubled form inner x
  unfolding is_doubled
  doubled-is h e = rw (← read, h, ← e)

  pub quote-is : {d e : Bool} → d ≡ is_doubled form inner x → e ≡ is_empty x → (d || not (e || eqb c 39)) ≡ quote_goes inner x
  unfolding quote_goes
  quote-is f g = rw (f, g, read)

-- a quoted string, step by step: the quote that opens it, its text, the quote that closes it, a start and a count
module _ (inner : List (Lex Kind) → Got Nothing Kind) (x : List (Lex Kind)) where
  abbrev pub closing_by : Nothing → List (Lex Kind) → Got Nothing Kind
  closing_by v y = then (expected apostrophe y) (substringed form inner x)

  abbrev pub text_by : Nothing → List (Lex Kind) → Got Nothing Kind
  text_by v y = then (quoted_run inner y) closing_by

  text-is : (y : List (Lex Kind)) → then (then (quoted_run inner y) (λ v z. expected apostrophe z)) (substringed form inner x) ≡ text_by tt y
  unfolding then
  text-is y = go (quoted_run inner y)
    where
      go : (r : Got Nothing Kind) → then (then r (λ v z. expected apostrophe z)) (substringed form inner x) ≡ then r closing_by
      go (got v z) = refl
      go (refused e n) = refl

  pub string-is : then (expected apostrophe x) text_by ≡ string form inner x
  unfolding string quoted_text quoted_run expected then broken form
  string-is = by (eqb (plain x) apostrophe)
      (λ e. ap (λ r. then r text_by) (chosen _ _ e) ∙ sym (text-is (rest x)) ∙ sym (chosen _ _ e))
      (λ e. ap (λ r. then r text_by) (passed_over _ _ e) ∙ sym (passed_over _ _ e))

module _ (kinds code : Bytes) (inner : List (Lex Kind) → Got Nothing Kind) where
  pub doubled-inside : (at : ℕ) → is_doubled form inner (toks_at kinds code at) ≡ true → at + 1 < length code
  unfolding is_doubled
  doubled-inside at h = text-inside kinds code (at + 1) 39 (sym (ap plain (sym (toks-rest kinds code at)) ∙ eqb-true _ 39 (and_right (eqb (plain (toks_at kinds code at)) 39) (eqb (plain (rest (toks_at kinds code at))) 39) h))) (lit< tt)

  module _ (at : ℕ) {b : Bool} (is : b ≡ is_doubled form inner (toks_at kinds code at)) where
    pub quoted-two : b ≡ true → tells (toks_at kinds code) (Ok (at + 2)) ≡ add_quoted form inner (got tt (toks_at kinds code at))
    unfolding tells add_quoted form
    quoted-two e = ap (got tt) (sym (toks-drop kinds code at 2)) ∙ sym (chosen _ _ (sym is ∙ e))

    pub quoted-one : b ≡ false → piece form inner (toks_at kinds code at) ≡ add_quoted form inner (got tt (toks_at kinds code at))
    unfolding add_quoted
    quoted-one e = add-got inner (toks_at kinds code at) ∙ sym (passed_over _ _ (sym is ∙ e))

-- ---- start and count

module _ (inner : List (Lex Kind) → Got Nothing Kind) where
  abbrev pub counted : Nothing → List (Lex Kind) → Got Nothing Kind
  counted v y = choose (eqb (plain y) comma) (then (inner (rest y)) λ n z. then (closed n z) λ m w. got tt w) (broken y)

  closes-same : (g : Got Nothing Kind) → then g closed ≡ then g (λ n z. then (closed n z) λ m w. got tt w)
  unfolding then
  closes-same (got v x) = sym (then_same (closed v x))
  closes-same (refused e l) = refl

  -- the comma, the count and the parenthesis that closes
  abbrev pub count_by : Nothing → List (Lex Kind) → Got Nothing Kind
  count_by v z = then (inner z) closed

  abbrev pub comma_by : Nothing → List (Lex Kind) → Got Nothing Kind
  comma_by v y = then (expected 44 y) count_by

  counted-is : (v : Nothing) (y : List (Lex Kind)) → comma_by v y ≡ counted v y
  unfolding expected then broken
  counted-is v y = by (eqb (plain y) comma)
      (λ e. ap (λ r. then r count_by) (chosen _ _ e) ∙ closes-same (inner (rest y)) ∙ sym (chosen _ _ e))
      (λ e. ap (λ r. then r count_by) (passed_over _ _ e) ∙ sym (passed_over _ _ e))

  count-same : (g : Got Nothing Kind) → then g comma_by ≡ then g counted
  unfolding then
  count-same (got v x) = counted-is v x
  count-same (refused e l) = refl

  module _ (kinds code : Bytes) (at : ℕ) {o : Option ℕ} (is : o ≡ choose (eqb (plain (toks_at kinds code at)) 40) (Some (at + 1)) None) (here : List (Lex Kind)) where
    pub part-none : o ≡ None → got tt (toks_at kinds code at) ≡ substringed form inner here tt (toks_at kinds code at)
    unfolding substringed
    part-none e = sym (passed_over _ _ (ended _ _ is e))

    pub part-opens : {n : ℕ} → o ≡ Some n → then (inner (toks_at kinds code n)) comma_by ≡ substringed form inner here tt (toks_at kinds code at)
    unfolding substringed given form
    part-opens e = ap (λ m. then (inner (toks_at kinds code m)) comma_by) (found-at _ _ is e) ∙ ap (λ x. then (inner x) comma_by) (sym (toks-rest kinds code at)) ∙ count-same (inner (rest (toks_at kinds code at))) ∙ sym (chosen _ _ (found _ _ is e))

  pub goes-quoted : (x : List (Lex Kind)) → quote_goes inner x ≡ goes_on_quoted form inner (got tt x)
  unfolding goes_on_quoted quote_goes
  goes-quoted x = refl

  -- ---- strings move forward

  module _ (forward : Forward inner) where
    quote-filled : (v : Nothing) (x : List (Lex Kind)) → goes_on_quoted form inner (got v x) ≡ true → 0 < length x
    unfolding goes_on_quoted is_doubled plain is_empty rest
    quote-filled v [] e = absurd (true≢false (sym e))
    quote-filled v (y ∷ x) e = omega arith

    quote-moves : (v : Nothing) (x : List (Lex Kind)) → 0 < length x → left (add_quoted form inner (got v x)) ≤ length x
    unfolding add_quoted form
    quote-moves v [] h = absurd (omega arith)
    quote-moves v (y ∷ x) h = either (Few _ (suc (length x))) (is_doubled form inner (y ∷ x)) (λ e. let less = drop-less 1 x in got-left tt (drop 1 x) (suc (length x)) (omega arith)) (λ e. rw (← add-got inner (y ∷ x)) (forward-piece inner forward (y ∷ x)))

    pub quotes : Scan (goes_on_quoted form inner) (add_quoted form inner)
    unfolding goes_on_quoted
    quotes = record { some_left = quote-filled; stops = λ e n. refl; moves = λ v x e. quote-moves v x (quote-filled v x e) }

    left-expected : (v : Nothing) (x : List (Lex Kind)) → left (expected apostrophe x) ≤ suc (length x)
    unfolding expected rest
    left-expected v x = either (Few _ (suc (length x))) (eqb (plain x) apostrophe) (λ e. let less = drop-less 1 x in got-left tt (drop 1 x) (suc (length x)) (omega arith)) (λ e. broken-left _ x _)

    abbrev closing-count : Nothing → List (Lex Kind) → Got Nothing Kind
    closing-count n z = then (closed n z) λ m w. got tt w

    left-count : (n : Nothing) (z : List (Lex Kind)) → left (closing-count n z) ≤ suc (length z)
    left-count n z = subst (λ (r : Got Nothing Kind). left r ≤ suc (length z)) (sym (then_same (closed n z))) (left-closed n z)

    left-counted : (v : Nothing) (y : List (Lex Kind)) → left (counted v y) ≤ suc (length y)
    left-counted v y = either (Few _ (suc (length y))) (eqb (plain y) comma) (λ e. le_trans (left-opened inner forward closing-count left-count y) (up (length y))) (λ e. broken-left _ y _)

    left-substringed : (here : List (Lex Kind)) (v : Nothing) (x : List (Lex Kind)) → left (substringed form inner here v x) ≤ suc (length x)
    unfolding substringed given form
    left-substringed here v x = either (Few _ (suc (length x))) (eqb (plain x) opening) (λ e. le_trans (left-opened inner forward counted left-counted x) (up (length x))) (λ e. got-left _ x _ (le_refl _))

    left-quoted : (x : List (Lex Kind)) → left (quoted_text form inner x) ≤ suc (length x)
    unfolding quoted_text quoted_run expected form
    left-quoted x = le_trans (left-then (quoted_run inner x) (λ v z. expected apostrophe z) left-expected) (left-scanned quotes x)

    forward-string : Forward (string form inner)
    unfolding string plain rest form
    forward-string [] = either (Few _ 0) (eqb (plain {R = Kind} []) apostrophe) (λ e. absurd (true≢false (sym e))) (λ e. broken-left _ [] _)
    forward-string (y ∷ x) = either (Few _ (suc (length x))) (eqb (plain (y ∷ x)) apostrophe)
        (λ e. le_trans (left-then (quoted_text form inner x) (substringed form inner (y ∷ x)) (left-substringed (y ∷ x))) (left-quoted x)) (λ e. broken-left _ (y ∷ x) _)

    pub parts : Chained (λ y. eqb (plain y) period) 1 (string form inner)
    unfolding plain
    parts = record { none = refl; some-skip = lit< tt; forward = forward-string }

    pub parts_are : (x : List (Lex Kind)) → chained parts x ≡ strings_by inner x
    unfolding strings_by rest
    parts_are x = refl

pub quotes-of : (nest : ℕ) → Scan (goes_on_quoted form (deeper form nest)) (add_quoted form (deeper form nest))
quotes-of nest = quotes (deeper form nest) (forward-deeper nest)

pub quoted-of : (nest : ℕ) (x : List (Lex Kind)) → scanned (quotes-of nest) x ≡ quoted_run (deeper form nest) x
unfolding quoted_run
quoted-of nest x = refl

pub parts-of : (nest : ℕ) → Chained (λ y. eqb (plain y) period) 1 (string form (deeper form nest))
parts-of nest = parts (deeper form nest) (forward-deeper nest)

pub strings-of : (nest : ℕ) (x : List (Lex Kind)) → chained (parts-of nest) x ≡ strings_by (deeper form nest) x
strings-of nest x = parts_are (deeper form nest) (forward-deeper nest) x

module _ (nest : ℕ) (x : List (Lex Kind)) where
  pub characters-type : is_attribute 84 x ≡ true → referred form (deeper form nest) (table_of AfterT) (λ r. some tt) x (drop 2 x) ≡ string_within form nest x
  unfolding string_within characters choose form
  characters-type e = sym (chosen _ _ e)

  pub characters-strings : is_attribute 84 x ≡ false → strings_by (deeper form nest) x ≡ string_within form nest x
  unfolding string_within characters strings_by form
  characters-strings e = sym (passed_over _ _ e ∙ then_same (strings_by (deeper form nest) x))
