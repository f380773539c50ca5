-- What good form says of a deck's sizes and titles. Assumes nothing.
use Prim.Native.Nat.{ℕ, zero, suc, ◌≤◌}
use mathlib.Core.Path.{◌≡◌, refl, sym, ap, ◌∙◌}
use mathlib.Core.Bool.{Bool, true, false, true≢false, ◌&&◌}
use mathlib.Core.List.{List, [], ◌∷◌, map}
use mathlib.Core.Option.{Option, none, some}
use native.Mathlib.Omega.{arith}
use lib.Dec.{leb}
use lib.ListN.{length, get_or}
use borrow.Author.Tests.{leb-true}
use Rattle.text.specs.Bytes.{Bytes}
use Rattle.rules.specs.Choice.{every}
use Rattle.rules.specs.Limits.{global_limit, macro_limit, library_limit, parameter_limit, local_limit}
use Rattle.rules.specs.Statement.{Set}
use Rattle.rules.specs.Faults.{is_macro_name}
use Rattle.rules.proofs.Choices.{by, and_left, and_right, chosen, passed_over}
use Rattle.deck.specs.Slots.{DeckMacro, Deck, no_macro, parameters}
use Rattle.deck.specs.Coders.{decoded}
use Rattle.deck.specs.Good.{total_lines, are_distinct, is_macro, is_sound, is_read_macro, is_good, if_good, good_deck}
use Rattle.tables.specs.Titles.{fits_row}
use Rattle.tables.proofs.Among.{macro-name-fits}
use Rattle.work_frames.specs.Indexed.{Indexed}
use Rattle.expand_steps.specs.Writing.{Ready}

is_some : Option Deck → Bool
is_some none = false
is_some (some d) = true

deck_in : Deck → Option Deck → Deck
deck_in d none = d
deck_in d (some e) = e

pub good-is : (deck : Bytes) (d : Deck) → good_deck deck ≡ some d → is_good d ≡ true
unfolding good_deck if_good is_some deck_in
good-is deck d e = go (decoded deck) e
  where
    go : (o : Option Deck) → if_good o ≡ some d → is_good d ≡ true
    go none e = absurd (true≢false (sym (ap is_some e)))
    go (some d') e =
        by (is_good d')
        (λ t. let q : some d' ≡ some d = sym (chosen (some d') none t) ∙ e in ap is_good (sym (ap (deck_in d) q)) ∙ t)
        (λ t. let q : none ≡ some d = sym (passed_over (some d') none t) ∙ e in absurd (true≢false (sym (ap is_some q))))

-- ---- macros

name_of : (gs : List Set) (m : DeckMacro) → is_macro gs m ≡ true → is_macro_name m.title ≡ true
unfolding is_macro
name_of gs m h = and_left (is_macro_name m.title) _ h

locals_of : (gs : List Set) (m : DeckMacro) → is_macro gs m ≡ true → length m.locals ≤ 16
unfolding is_macro
locals_of gs m h =
    leb-true (length m.locals) local_limit
    (and_left (leb (length m.locals) local_limit) _ (and_right (leb (parameters m) parameter_limit) _ (and_right (is_macro_name m.title) _ h)))

locals-few : (gs : List Set) (ms : List DeckMacro) → every (is_macro gs) ms ≡ true → (k : ℕ) → length (get_or ms k no_macro).locals ≤ 16
unfolding every no_macro
locals-few gs [] h k = omega arith
locals-few gs (m ∷ ms) h zero = locals_of gs m (and_left (is_macro gs m) (every (is_macro gs) ms) h)
locals-few gs (m ∷ ms) h (suc k) = locals-few gs ms (and_right (is_macro gs m) (every (is_macro gs) ms) h) k

and_both : {a b : Bool} → a ≡ true → b ≡ true → (a && b) ≡ true
and_both e f = λ i. e i && f i

words-fit : (gs : List Set) (ms : List DeckMacro) → every (is_macro gs) ms ≡ true → every fits_row (map (λ m. m.title) ms) ≡ true
unfolding every
words-fit gs [] h = refl
words-fit gs (m ∷ ms) h =
    and_both (macro-name-fits m.title (name_of gs m (and_left (is_macro gs m) (every (is_macro gs) ms) h))) (words-fit gs ms (and_right (is_macro gs m) (every (is_macro gs) ms) h))

-- ---- the deck

module _ (d : Deck) (h : is_good d ≡ true) where
  sound : is_sound d ≡ true
  unfolding is_good
  sound = and_left (is_sound d) (every is_read_macro d.macros) h

  pub few-globals : length d.globals ≤ 16
  unfolding is_sound
  few-globals = leb-true (length d.globals) global_limit (and_left (leb (length d.globals) global_limit) _ sound)

  -- behind the sizes of globals and macros
  rest : (leb (total_lines d.macros) library_limit && (are_distinct (map (λ m. m.title) d.macros) && every (is_macro d.globals) d.macros)) ≡ true
  unfolding is_sound
  rest = and_right (leb (length d.macros) macro_limit) _ (and_right (leb (length d.globals) global_limit) _ sound)

  pub few-lines : total_lines d.macros ≤ 512
  few-lines = leb-true (total_lines d.macros) library_limit (and_left (leb (total_lines d.macros) library_limit) _ rest)

  all-macros : every (is_macro d.globals) d.macros ≡ true
  all-macros = and_right (are_distinct (map (λ m. m.title) d.macros)) _ (and_right (leb (total_lines d.macros) library_limit) _ rest)

  pub good-ready : (deck index : Bytes) → Indexed d deck index → Ready d deck index
  good-ready deck index x = record {
    modest = record { globals = few-globals; locals = locals-few d.globals d.macros all-macros };
    indexed = x;
    words = words-fit d.globals d.macros all-macros;
  }
