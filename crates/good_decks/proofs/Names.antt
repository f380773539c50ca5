-- Names that are each new among those before them are all different. Assumes nothing.
use mathlib.Core.Path.{◌≡◌, refl, ap, ◌∙◌}
use mathlib.Core.Bool.{Bool, true, false, ◌&&◌, ◌||◌, not}
use mathlib.Core.List.{List, [], ◌∷◌, ◌++◌, map}
use Rattle.text.specs.Bytes.{Bytes, same}
use Rattle.rules.specs.Choice.{every, any}
use Rattle.deck.specs.Good.{are_distinct, are_distinct_keywords}
use Rattle.good_decks.specs.Walk.{hold_from, is_new}

new-more : (names : List Bytes) (n m : Bytes) → is_new (names ++ n ∷ []) m ≡ (is_new names m && not (same n m))
unfolding is_new any
new-more [] n m = alone (same n m)
  where
    alone : (b : Bool) → not (b || false) ≡ not b
    alone true = refl
    alone false = refl
new-more (o ∷ names) n m = step (same o m) (any (λ o. same o m) (names ++ n ∷ [])) (any (λ o. same o m) names) (same n m) (new-more names n m)
  where
    step : (x y z w : Bool) → not y ≡ (not z && not w) → not (x || y) ≡ (not (x || z) && not w)
    step true y z w e = refl
    step false y z w e = e

module _ {A : Type 0} (name : A → Bytes) where
  abbrev more : List Bytes → A → List Bytes
  more names a = names ++ name a ∷ []

  new-both : (names : List Bytes) (n : Bytes) (l : List A) → every (λ a. is_new (names ++ n ∷ []) (name a)) l ≡ (every (λ a. is_new names (name a)) l && not (any (same n) (map name l)))
  unfolding every any
  new-both names n [] = refl
  new-both names n (a ∷ l) = (λ j. new-more names n (name a) j && new-both names n l j) ∙ around (is_new names (name a)) (same n (name a)) (every (λ a. is_new names (name a)) l) (any (same n) (map name l))
    where
      around : (p s e x : Bool) → ((p && not s) && (e && not x)) ≡ ((p && e) && not (s || x))
      around true true true x = refl
      around true true false x = refl
      around true false e x = refl
      around false s e x = refl

  pub names-walked : (names : List Bytes) (l : List A) → hold_from (λ names a. is_new names (name a)) more names l ≡ (every (λ a. is_new names (name a)) l && are_distinct (map name l))
  unfolding hold_from every are_distinct
  names-walked names [] = refl
  names-walked names (a ∷ l) =
      ap (λ (b : Bool). is_new names (name a) && b) (names-walked (more names a) l ∙ ap (λ (b : Bool). b && are_distinct (map name l)) (new-both names (name a) l))
      ∙ regroup (is_new names (name a)) (every (λ a. is_new names (name a)) l) (not (any (same (name a)) (map name l))) (are_distinct (map name l))
    where
      regroup : (a b c d : Bool) → (a && ((b && c) && d)) ≡ ((a && b) && (c && d))
      regroup true true c d = refl
      regroup true false c d = refl
      regroup false b c d = refl

  all_new : (l : List A) → every (λ a. is_new [] (name a)) l ≡ true
  unfolding every is_new any
  all_new [] = refl
  all_new (a ∷ l) = all_new l

  -- from the first on
  pub names-distinct : (l : List A) → hold_from (λ names a. is_new names (name a)) more [] l ≡ are_distinct (map name l)
  names-distinct l = names-walked [] l ∙ ap (λ (b : Bool). b && are_distinct (map name l)) (all_new l)

pub keywords-distinct : (ks : List (Bytes × Bytes)) → are_distinct_keywords ks ≡ are_distinct (map (λ k. k.0) ks)
unfolding are_distinct are_distinct_keywords any
keywords-distinct [] = refl
keywords-distinct (k ∷ ks) = λ j. not (found ks j) && keywords-distinct ks j
  where
    found : (l : List (Bytes × Bytes)) → any (λ j. same k.0 j.0) l ≡ any (same k.0) (map (λ k. k.0) l)
    found [] = refl
    found (a ∷ l) = ap (λ (b : Bool). same k.0 a.0 || b) (found l)
