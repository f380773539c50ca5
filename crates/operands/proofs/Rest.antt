-- What the first of an operand's parts says of all: the symbol that it starts with, and whether positionals stand before keywords. Assumes nothing.
use mathlib.Core.Path.{◌≡◌, refl, ap, sym, ◌∙◌}
use mathlib.Core.Bool.{Bool, true, false, false≢true, true≢false, ◌&&◌, ◌||◌, not}
use mathlib.Core.List.{List, [], ◌∷◌, ◌++◌}
use Rattle.text.specs.Bytes.{Bytes}
use Rattle.rules.specs.Lexemes.{Lex}
use Rattle.rules.specs.Calls.{has_equals}
use Rattle.rules.specs.Library.{start_symbol, start_symbols}
use Rattle.rules.specs.Faults.{is_good_part, are_good_parts}

abbrev pub Lexes : Type 0
Lexes = List (Lex Bytes)

-- positionals first
module _ (part : Lexes) (others : List Lexes) (keywords : Bool) {good : Bool} (g : good ≡ is_good_part part) where
  good-are : are_good_parts keywords (part ∷ others) ≡ (good && ((has_equals part || not keywords) && are_good_parts (keywords || has_equals part) others))
  unfolding are_good_parts
  good-are = ap (λ (k : Bool). k && ((has_equals part || not keywords) && are_good_parts (keywords || has_equals part) others)) (sym g)

  pub good-stop : good ≡ false → are_good_parts keywords (part ∷ others) ≡ false
  good-stop f = good-are ∙ ap (λ (k : Bool). k && ((has_equals part || not keywords) && are_good_parts (keywords || has_equals part) others)) f

  module _ (t : good ≡ true) {keyword : Bool} (q : keyword ≡ has_equals part) where
    good_left : are_good_parts keywords (part ∷ others) ≡ ((keyword || not keywords) && are_good_parts (keywords || keyword) others)
    good_left = good-are ∙ (λ i. t i && ((sym q i || not keywords) && are_good_parts (keywords || sym q i) others))

    pub order-stop : (keywords && not keyword) ≡ true → are_good_parts keywords (part ∷ others) ≡ false
    order-stop f = good_left ∙ go keywords keyword f
      where
        go : (k w : Bool) → (k && not w) ≡ true → ((w || not k) && are_good_parts (k || w) others) ≡ false
        go true true f = absurd (false≢true f)
        go true false f = refl
        go false w f = absurd (false≢true f)

    pub good-on : (keywords && not keyword) ≡ false → are_good_parts keywords (part ∷ others) ≡ are_good_parts keyword others
    good-on f = good_left ∙ go keywords keyword f
      where
        go : (k w : Bool) → (k && not w) ≡ false → ((w || not k) && are_good_parts (k || w) others) ≡ are_good_parts w others
        go true true f = refl
        go true false f = absurd (true≢false f)
        go false true f = refl
        go false false f = refl

-- the symbols that parts start with: the first of them, or those of the others
module _ (part : Lexes) (others : List Lexes) where
  pub starts-on : [] ≡ start_symbol part → start_symbols (part ∷ others) ≡ start_symbols others
  unfolding start_symbols
  starts-on e = ap (λ (ns : List Bytes). ns ++ start_symbols others) (sym e)

  pub starts-with : (n : Bytes) → n ∷ [] ≡ start_symbol part → start_symbols (part ∷ others) ≡ n ∷ start_symbols others
  unfolding start_symbols
  starts-with n e = ap (λ (ns : List Bytes). ns ++ start_symbols others) (sym e)
