-- Which lexemes are still. Assumes nothing.
use Prim.Native.Nat.{ℕ, zero, suc, pred, ◌≤◌}
use mathlib.Core.Path.{◌≡◌, refl, ap, sym, ◌∙◌}
use mathlib.Core.Bool.{Bool, true, false, ◌&&◌, ◌||◌, not, true≢false}
use mathlib.Core.List.{List, [], ◌∷◌, ◌++◌}
use lib.Dec.{eqb, ltb}
use lib.ListN.{length, drop, length-append}
use native.Mathlib.Omega.{arith}
use borrow.Author.Tests.{lt-ltb, ne_eqb}
use Rattle.rules.specs.Choice.{choose}
use Rattle.rules.specs.Lexemes.{apostrophe, opening, closing, comma, period, Lex, byte, ref, byte_of, Inside, enters, is_bare}
use Rattle.rules.proofs.Choices.{and_left, and_right, passed_over}
use Rattle.value_wholes.specs.Stillness.{is_deep, is_quiet, state_after, is_inside, Still, has_no_bare, Calm}

is-not : (b : Bool) → not b ≡ true → b ≡ false
is-not true h = sym h
is-not false h = refl

abbrev head_or : {A : Type 0} → A → List A → A
head_or a [] = a
head_or a (b ∷ l) = b

choose-same : (b : Bool) (n : ℕ) → choose b n n ≡ n
unfolding choose
choose-same true n = refl
choose-same false n = refl

abbrev state : Bool → ℕ → Inside
state q n = record { quoted = q; depth = n }

opened : (R : Type 0) (q : Bool) (n : ℕ) → is_deep (state q n) ≡ true → is_deep (enters {R = R} (state q n) (byte opening)) ≡ true
unfolding enters is_deep choose byte_of
opened R true n h = refl
opened R false n h = lt-ltb 0 (suc n) (omega arith)

always : (R : Type 0) (q : Bool) (n : ℕ) → is_deep (enters {R = R} (state q n) (byte opening)) ≡ true
unfolding enters is_deep choose byte_of
always R true n = refl
always R false n = lt-ltb 0 (suc n) (omega arith)

and-false : (b : Bool) → (b && false) ≡ false
and-false true = refl
and-false false = refl

shut : (R : Type 0) (q : Bool) (n : ℕ) → enters {R = R} (enters {R = R} (state q n) (byte opening)) (byte closing) ≡ state q n
unfolding enters choose byte_of
shut R true n = refl
shut R false n = refl

module _ {R : Type 0} where
  -- one lexeme that changes nothing
  quiet-enters : (a : Lex R) → is_quiet (byte_of a) ≡ true → (i : Inside) → enters i a ≡ i
  unfolding enters is_quiet
  quiet-enters a h i =
      let c = byte_of a in
      let others = not (eqb c opening) && not (eqb c closing) in
      let no-quote : eqb c apostrophe ≡ false = is-not (eqb c apostrophe) (and_left (not (eqb c apostrophe)) others h) in
      let rest = and_right (not (eqb c apostrophe)) others h in
      let no-opening : eqb c opening ≡ false = is-not (eqb c opening) (and_left (not (eqb c opening)) (not (eqb c closing)) rest) in
      let no-closing : eqb c closing ≡ false = is-not (eqb c closing) (and_right (not (eqb c opening)) (not (eqb c closing)) rest) in
      λ j. record {
        quoted = passed_over (not i.quoted) i.quoted no-quote j;
        depth = (ap (choose i.quoted i.depth) (passed_over (suc i.depth) _ no-opening ∙ passed_over (pred i.depth) i.depth no-closing) ∙ choose-same i.quoted i.depth) j;
      }

  pub still-none : Still {R = R} []
  unfolding state_after is_inside
  still-none = record { back = λ i h. refl; inside = λ i h. refl }

  pub still_one : (a : Lex R) → is_quiet (byte_of a) ≡ true → Still (a ∷ [])
  unfolding state_after is_inside
  still_one a q = record { back = λ i h. quiet-enters a q i; inside = λ i h. ap (λ (b : Bool). b && true) h }

  -- one behind the other
  pub after_both : (i : Inside) (c d : List (Lex R)) → state_after i (c ++ d) ≡ state_after (state_after i c) d
  unfolding state_after
  after_both i [] d = refl
  after_both i (a ∷ c) d = after_both (enters i a) c d

  inside_both : (i : Inside) (c d : List (Lex R)) → is_inside i c ≡ true → is_inside (state_after i c) d ≡ true → is_inside i (c ++ d) ≡ true
  unfolding state_after is_inside
  inside_both i [] d h k = k
  inside_both i (a ∷ c) d h k =
      let deep = and_left (is_deep i) (is_inside (enters i a) c) h in
      let more = inside_both (enters i a) c d (and_right (is_deep i) (is_inside (enters i a) c) h) k in
      (λ j. deep j && more j)

  pub still_both : {c d : List (Lex R)} → Still c → Still d → Still (c ++ d)
  still_both {c} {d} p q = record {
    back = λ i h. after_both i c d ∙ ap (λ s. state_after s d) (p.back i h) ∙ q.back i h;
    inside = λ i h. inside_both i c d (p.inside i h) (ap (λ s. is_inside s d) (p.back i h) ∙ q.inside i h);
  }

  -- inside one pair of parentheses more
  pub still-pair : {c : List (Lex R)} → Still c → Still (byte opening ∷ (c ++ (byte closing ∷ [])))
  unfolding state_after is_inside
  still-pair {c} p = record {
    back = λ i h. after_both (enters i (byte opening)) c (byte closing ∷ []) ∙ ap (λ s. enters {R = R} s (byte closing)) (p.back (enters i (byte opening)) (opened R i.quoted i.depth h)) ∙ shut R i.quoted i.depth;
    inside = λ i h.
        let deep = opened R i.quoted i.depth h in
        let more = inside_both (enters i (byte opening)) c (byte closing ∷ []) (p.inside (enters i (byte opening)) deep)
        (ap (λ s. is_deep s && true) (p.back (enters i (byte opening)) deep) ∙ ap (λ (b : Bool). b && true) deep) in
        (λ j. h j && more j);
  }

  -- inside, nothing is bare
  deep-not-bare : (s : ℕ) (i : Inside) (a : Lex R) → is_deep i ≡ true → is_bare s i a ≡ false
  unfolding is_bare is_deep
  deep-not-bare s i a h = go i.quoted i.depth h
    where
      go : (q : Bool) (n : ℕ) → (q || ltb 0 n) ≡ true → (eqb (byte_of a) s && (not q && eqb n 0)) ≡ false
      go true n h = and-false (eqb (byte_of a) s)
      go false zero h = absurd (true≢false (sym h))
      go false (suc n) h = ap (λ (b : Bool). eqb (byte_of a) s && (true && b)) (ne_eqb (suc n) 0 (λ e. omega arith)) ∙ and-false (eqb (byte_of a) s)

  inside-not-bare : (s : ℕ) (i : Inside) (c : List (Lex R)) → is_inside i c ≡ true → has_no_bare s i c ≡ true
  unfolding is_inside has_no_bare
  inside-not-bare s i [] h = refl
  inside-not-bare s i (a ∷ c) h =
      let one : is_bare s i a ≡ false = deep-not-bare s i a (and_left (is_deep i) (is_inside (enters i a) c) h) in
      let others = inside-not-bare s (enters i a) c (and_right (is_deep i) (is_inside (enters i a) c) h) in
      (λ j. not (one j) && others j)

  pub calm-none : Calm {R = R} []
  unfolding state_after has_no_bare
  calm-none = record { back = λ i. refl; bare = λ i. refl }

  -- a pair of parentheses is calm from everywhere
  pub calm-pair : {c : List (Lex R)} → Still c → Calm (byte opening ∷ (c ++ (byte closing ∷ [])))
  unfolding state_after is_inside has_no_bare is_bare byte_of
  calm-pair {c} p = record {
    back = λ i. after_both (enters i (byte opening)) c (byte closing ∷ []) ∙ ap (λ s. enters {R = R} s (byte closing)) (p.back (enters i (byte opening)) (always R i.quoted i.depth)) ∙ shut R i.quoted i.depth;
    bare = λ i.
        let deep = always R i.quoted i.depth in
        let more : is_inside (enters i (byte opening)) (c ++ (byte closing ∷ [])) ≡ true = inside_both (enters i (byte opening)) c (byte closing ∷ []) (p.inside (enters i (byte opening)) deep)
        (ap (λ s. is_deep s && true) (p.back (enters i (byte opening)) deep) ∙ ap (λ (b : Bool). b && true) deep) in
        let others = inside-not-bare comma (enters i (byte opening)) (c ++ (byte closing ∷ [])) more in
        others;
  }

  bare-both : (i : Inside) (c d : List (Lex R)) → has_no_bare comma i c ≡ true → has_no_bare comma (state_after i c) d ≡ true → has_no_bare comma i (c ++ d) ≡ true
  unfolding state_after has_no_bare
  bare-both i [] d h k = k
  bare-both i (a ∷ c) d h k =
      let one = and_left (not (is_bare comma i a)) (has_no_bare comma (enters i a) c) h in
      let more = bare-both (enters i a) c d (and_right (not (is_bare comma i a)) (has_no_bare comma (enters i a) c) h) k in
      (λ j. one j && more j)

  pub calm-both : {c d : List (Lex R)} → Calm c → Calm d → Calm (c ++ d)
  calm-both {c} {d} p q = record {
    back = λ i. after_both i c d ∙ ap (λ s. state_after s d) (p.back i) ∙ q.back i;
    bare = λ i. bare-both i c d (p.bare i) (ap (λ s. has_no_bare comma s d) (p.back i) ∙ q.bare i);
  }

  pub calm-period : Calm {R = R} (byte period ∷ [])
  unfolding state_after has_no_bare is_bare byte_of is_quiet
  calm-period = record { back = λ i. quiet-enters (byte period) refl i; bare = λ i. refl }

  pub state-symbol : (r : R) (i : Inside) → enters i (ref r) ≡ i
  unfolding is_quiet byte_of
  state-symbol r i = quiet-enters (ref r) refl i

  -- a bare comma is in no calm lexemes
  pub not-read : (i : Inside) (p c y q : List (Lex R)) → p ++ (byte comma ∷ q) ≡ c ++ y → length y ≤ length q → has_no_bare comma i c ≡ true → is_bare {R = R} comma (state_after i p) (byte comma) ≡ true → ⊥
  unfolding state_after has_no_bare
  not-read i [] [] y q e l h b = let n = ap length e in absurd (omega (arith, n, l))
  not-read i [] (a ∷ c) y q e l h b =
      let here : is_bare comma i a ≡ false = is-not (is_bare comma i a) (and_left (not (is_bare comma i a)) (has_no_bare comma (enters i a) c) h) in
      let first : byte comma ≡ a = ap (head_or (byte comma)) e in
      true≢false (sym b ∙ ap (is_bare comma i) first ∙ here)
  not-read i (a ∷ p) [] y q e l h b = let n = ap length e in let m = length-append p (byte comma ∷ q) in absurd (omega (arith, n, m, l))
  not-read i (a ∷ p) (d ∷ c) y q e l h b =
      let first : a ≡ d = ap (head_or a) e in
      let others : p ++ (byte comma ∷ q) ≡ c ++ y = ap (drop 1) e in
      not-read (enters i a) p c y q others l (ap (λ f. has_no_bare comma (enters i f) c) first ∙ and_right (not (is_bare comma i d)) (has_no_bare comma (enters i d) c) h) b
