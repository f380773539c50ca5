-- Lexemes whose variable symbols are given other names: what is read from them that is no name stays, and names are renamed.
use Prim.Native.Nat.{ℕ, zero, suc, pred}
use mathlib.Core.Path.{◌≡◌, refl, ap, sym, ◌∙◌}
use mathlib.Core.Bool.{Bool, true, false≢true, ◌&&◌, not}
use mathlib.Core.List.{List, [], ◌∷◌, ◌++◌, map}
use lib.Dec.{eqb, ltb}
use lib.ListN.{length, take, drop}
use Rattle.text.specs.Bytes.{Bytes}
use Rattle.rules.specs.Choice.{choose, passed, every, on_first}
use Rattle.rules.specs.Lexemes.{apostrophe, opening, closing, comma, equals, Lex, byte, mark, ref, lone, byte_of, is_plain, Inside, outside, enters, is_bare}
use Rattle.rules.specs.Statement.{map_lex, pairs_first, starts_open, condition_end}
use Rattle.rules.specs.Calls.{parts, divided, equals_at, has_equals}
use Rattle.rules.specs.Library.{start_symbol, start_symbols, positional_names}
use Rattle.rules.proofs.Choices.{into, and_left, and_right}

module _ {R S : Type 0} (f : R → S) where
  pub same_byte : (x : Lex R) → byte_of (map_lex f x) ≡ byte_of x
  unfolding byte_of map_lex
  same_byte (byte c) = refl
  same_byte mark = refl
  same_byte (ref r) = refl
  same_byte lone = refl

  pub same-enters : (i : Inside) (x : Lex R) → enters i (map_lex f x) ≡ enters i x
  unfolding enters
  same-enters i x = λ j. record {
    quoted = choose (eqb (same_byte x j) apostrophe) (not i.quoted) i.quoted;
    depth = choose i.quoted i.depth
        (choose (eqb (same_byte x j) opening) (suc i.depth) (choose (eqb (same_byte x j) closing) (pred i.depth) i.depth));
  }

  pub same-bare : (c : ℕ) (i : Inside) (x : Lex R) → is_bare c i (map_lex f x) ≡ is_bare c i x
  unfolding is_bare
  same-bare c i x = λ j. eqb (same_byte x j) c && (not i.quoted && eqb i.depth 0)

  pub same-pairs : (i : Inside) (x : Lex R) → pairs_first i (map_lex f x) ≡ pairs_first i x
  unfolding pairs_first
  same-pairs i x = λ j. eqb (same_byte x j) closing && (not i.quoted && eqb i.depth 1)

  -- a scan that looks at bytes alone
  pub same-scan : (stop : Inside → Lex S → Bool) (stop' : Inside → Lex R → Bool) → ((i : Inside) (x : Lex R) → stop i (map_lex f x) ≡ stop' i x)
      → (l : List (Lex R)) (i : Inside) → passed stop enters i (map (map_lex f) l) ≡ passed stop' enters i l
  unfolding passed
  same-scan stop stop' e [] i = refl
  same-scan stop stop' e (x ∷ l) i =
      λ j. choose (e i x j) 0 (suc ((ap (λ k. passed stop enters k (map (map_lex f) l)) (same-enters i x) ∙ same-scan stop stop' e l (enters i x)) j))

  pub same_length : (l : List (Lex R)) → length (map (map_lex f) l) ≡ length l
  same_length [] = refl
  same_length (x ∷ l) = ap suc (same_length l)

  pub map-drop : (n : ℕ) (l : List (Lex R)) → drop n (map (map_lex f) l) ≡ map (map_lex f) (drop n l)
  map-drop zero l = refl
  map-drop (suc n) [] = refl
  map-drop (suc n) (x ∷ l) = map-drop n l

  pub map-take : (n : ℕ) (l : List (Lex R)) → take n (map (map_lex f) l) ≡ map (map_lex f) (take n l)
  map-take zero l = refl
  map-take (suc n) [] = refl
  map-take (suc n) (x ∷ l) = ap (map_lex f x ∷◌) (map-take n l)

  pub same-equals : (l : List (Lex R)) → equals_at (map (map_lex f) l) ≡ equals_at l
  unfolding equals_at
  same-equals l = same-scan (is_bare equals) (is_bare equals) (same-bare equals) l outside

  pub same-has-equals : (l : List (Lex R)) → has_equals (map (map_lex f) l) ≡ has_equals l
  unfolding has_equals
  same-has-equals l = λ j. ltb (same-equals l j) (same_length l j)

  map_first : (x : Lex R) (ls : List (List (Lex R))) → on_first (map_lex f x) (map (map (map_lex f)) ls) ≡ map (map (map_lex f)) (on_first x ls)
  unfolding on_first
  map_first x [] = refl
  map_first x (l ∷ ls) = refl

  map-parts : (l : List (Lex R)) (i : Inside) → parts i (map (map_lex f) l) ≡ map (map (map_lex f)) (parts i l)
  unfolding parts
  map-parts [] i = refl
  map-parts (x ∷ l) i =
      (λ j. choose (same-bare comma i x j) ([] ∷ map-parts l i j)
      (on_first (map_lex f x) ((ap (λ k. parts k (map (map_lex f) l)) (same-enters i x) ∙ map-parts l (enters i x)) j)))
      ∙ (ap (choose (is_bare comma i x) ([] ∷ map (map (map_lex f)) (parts i l))) (map_first x (parts (enters i x) l))
      ∙ sym (into (map (map (map_lex f))) (is_bare comma i x) ([] ∷ parts i l) (on_first x (parts (enters i x) l))))

  pub map-divided : (l : List (Lex R)) → divided (map (map_lex f) l) ≡ map (map (map_lex f)) (divided l)
  unfolding divided
  map-divided [] = refl
  map-divided (x ∷ l) = map-parts (x ∷ l) outside

  same-open : (l : List (Lex R)) → starts_open (map (map_lex f) l) ≡ starts_open l
  unfolding starts_open
  same-open [] = refl
  same-open (x ∷ l) = ap (λ c. eqb c opening) (same_byte x)

  pub same-condition-end : (l : List (Lex R)) → condition_end (map (map_lex f) l) ≡ condition_end l
  unfolding condition_end
  same-condition-end l = λ j. choose (same-open l j) (suc (same-scan pairs_first pairs_first same-pairs l outside j)) 0

  same-plainness : (x : Lex R) → is_plain (map_lex f x) ≡ is_plain x
  unfolding is_plain map_lex
  same-plainness (byte c) = refl
  same-plainness mark = refl
  same-plainness (ref r) = refl
  same-plainness lone = refl

  pub same-all-plain : (l : List (Lex R)) → every is_plain (map (map_lex f) l) ≡ every is_plain l
  unfolding every
  same-all-plain [] = refl
  same-all-plain (x ∷ l) = λ j. same-plainness x j && same-all-plain l j

-- a text without variable symbols stays as it is
plain-stays : (f : Bytes → Bytes) (x : Lex Bytes) → is_plain x ≡ true → map_lex f x ≡ x
unfolding map_lex is_plain
plain-stays f (byte c) h = refl
plain-stays f mark h = refl
plain-stays f (ref r) h = absurd (false≢true h)
plain-stays f lone h = refl

pub all-plain-stay : (f : Bytes → Bytes) (l : List (Lex Bytes)) → every is_plain l ≡ true → map (map_lex f) l ≡ l
unfolding every
all-plain-stay f [] h = refl
all-plain-stay f (x ∷ l) h =
    λ j. plain-stays f x (and_left (is_plain x) (every is_plain l) h) j ∷ all-plain-stay f l (and_right (is_plain x) (every is_plain l) h) j

pub map-append : {A B : Type 0} (g : A → B) (s t : List A) → map g (s ++ t) ≡ map g s ++ map g t
map-append g [] t = refl
map-append g (a ∷ s) t = ap (g a ∷◌) (map-append g s t)

-- the symbols that parts start with are renamed
module _ (f : Bytes → Bytes) where
  pub map-start : (l : List (Lex Bytes)) → start_symbol (map (map_lex f) l) ≡ map f (start_symbol l)
  unfolding start_symbol map_lex
  map-start [] = refl
  map-start (byte c ∷ l) = refl
  map-start (mark ∷ l) = refl
  map-start (ref n ∷ l) = refl
  map-start (lone ∷ l) = refl

  pub map-starts : (ls : List (List (Lex Bytes))) → start_symbols (map (map (map_lex f)) ls) ≡ map f (start_symbols ls)
  unfolding start_symbols
  map-starts [] = refl
  map-starts (l ∷ ls) = (λ j. map-start l j ++ map-starts ls j) ∙ sym (map-append f (start_symbol l) (start_symbols ls))

  pub map-positionals : (ls : List (List (Lex Bytes))) → positional_names (map (map (map_lex f)) ls) ≡ map f (positional_names ls)
  unfolding positional_names
  map-positionals [] = refl
  map-positionals (l ∷ ls) =
      (λ j. choose (same-has-equals f l j) [] (map-start l j) ++ map-positionals ls j)
      ∙ (ap (λ n. n ++ map f (positional_names ls)) (sym (into (map f) (has_equals l) [] (start_symbol l)))
      ∙ sym (map-append f (choose (has_equals l) [] (start_symbol l)) (positional_names ls)))
