-- Names that are told apart, each of them among others, are no more than those. Assumes nothing.
use Prim.Native.Nat.{◌≤◌, ◌<◌}
use native.Mathlib.Omega.{arith}
use mathlib.Core.Path.{◌≡◌, refl, ap, sym, ◌∙◌}
use mathlib.Core.Bool.{Bool, true, false, ◌&&◌, ◌||◌, not}
use mathlib.Core.List.{List, [], ◌∷◌, ◌++◌}
use lib.ListN.{length}
use borrow.Author.Tests.{eq-eqb, not-true}
use Rattle.text.specs.Bytes.{Bytes, same}
use Rattle.text.specs.Words.{place_among}
use Rattle.text.proofs.Same.{same-is}
use Rattle.rules.specs.Choice.{choose, any}
use Rattle.rules.proofs.Choices.{by, chosen, passed_over, and_left, and_right}
use Rattle.rules.proofs.Logic.{clash, or_left, or_right, else-so}
use Rattle.rules.proofs.Symbols.{same-sym, unknown-place}
use Rattle.deck.specs.Good.{are_distinct}

itself : (n : Bytes) → same n n ≡ true
itself [] = refl
itself (c ∷ n) = ap (λ (b : Bool). b && same n n) (eq-eqb c c refl) ∙ itself n

-- the others without a name
without : Bytes → List Bytes → List Bytes
without n [] = []
without n (m ∷ ms) = choose (same n m) (without n ms) (m ∷ without n ms)

fewer : (n : Bytes) (ms : List Bytes) → length (without n ms) ≤ length ms
unfolding without
fewer n [] = omega arith
fewer n (m ∷ ms) =
    by (same n m)
    (λ e. let k = ap length (chosen (without n ms) (m ∷ without n ms) e) in omega (arith, k, fewer n ms))
    (λ e. let k = ap length (passed_over (without n ms) (m ∷ without n ms) e) in omega (arith, k, fewer n ms))

one_fewer : (n : Bytes) (ms : List Bytes) → any (same n) ms ≡ true → length (without n ms) < length ms
unfolding without any
one_fewer n [] h = clash h refl
one_fewer n (m ∷ ms) h =
    by (same n m)
    (λ e. let k = ap length (chosen (without n ms) (m ∷ without n ms) e) in omega (arith, k, fewer n ms))
    (λ e. let k = ap length (passed_over (without n ms) (m ∷ without n ms) e) in omega (arith, k, one_fewer n ms (else-so (same n m) _ h e)))

-- another name is still among them
still : (n k : Bytes) (ms : List Bytes) → same k n ≡ false → any (same k) ms ≡ true → any (same k) (without n ms) ≡ true
unfolding without any
still n k [] d h = h
still n k (m ∷ ms) d h =
    by (same n m)
    (λ e. ap (any (same k)) (chosen (without n ms) (m ∷ without n ms) e)
    ∙ still n k ms d (else-so (same k m) _ h (ap (same k) (sym (same-is n m e)) ∙ d)))
    (λ e. ap (any (same k)) (passed_over (without n ms) (m ∷ without n ms) e)
    ∙ by (same k m) (λ f. ap (◌|| any (same k) (without n ms)) f) (λ f. ap (◌|| any (same k) (without n ms)) f ∙ still n k ms d (else-so (same k m) _ h f)))

pub no_more : (ns ms : List Bytes) → are_distinct ns ≡ true → ((n : Bytes) → any (same n) ns ≡ true → any (same n) ms ≡ true) → length ns ≤ length ms
unfolding are_distinct any
no_more [] ms d h = omega arith
no_more (n ∷ ns) ms d h =
    let new : any (same n) ns ≡ false = not-true _ (and_left (not (any (same n) ns)) _ d) in
    let here : any (same n) ms ≡ true = h n (ap (◌|| any (same n) ns) (itself n)) in
    let ih = no_more ns (without n ms) (and_right (not (any (same n) ns)) _ d)
    (λ k f. by (same k n) (λ e. clash f (ap (λ (x : Bytes). any (same x) ns) (same-is k n e) ∙ new))
    (λ e. still n k ms e (h k (ap (◌|| any (same k) ns) e ∙ f)))) in
    omega (arith, ih, one_fewer n ms here)

module _ (n : Bytes) (ns : List Bytes) where
  pub place-known : place_among ns n < length ns → any (same n) ns ≡ true
  place-known h = by (any (same n) ns) (λ e. e) (λ e. let k = unknown-place n ns e in absurd (omega (arith, h, k)))

-- names behind others: each list told apart, none of the second in the first
pub both-distinct : (ns ms : List Bytes) → are_distinct ns ≡ true → are_distinct ms ≡ true → any (λ m. any (same m) ns) ms ≡ false → are_distinct (ns ++ ms) ≡ true
unfolding are_distinct any
both-distinct [] ms d e h = e
both-distinct (n ∷ ns) ms d e h =
    let new : any (same n) (ns ++ ms) ≡ false = none-in-both ns ms (not-true _ (and_left (not (any (same n) ns)) _ d)) (apart ms h) in
    (λ i. not (new i) && both-distinct ns ms (and_right (not (any (same n) ns)) _ d) e (behind ms h) i)
  where
    none-in-both : (s t : List Bytes) → any (same n) s ≡ false → any (same n) t ≡ false → any (same n) (s ++ t) ≡ false
    none-in-both [] t a b = b
    none-in-both (k ∷ s) t a b = λ i. or_left (same n k) _ a i || none-in-both s t (or_right (same n k) _ a) b i

    apart : (t : List Bytes) → any (λ m. any (same m) (n ∷ ns)) t ≡ false → any (same n) t ≡ false
    apart [] a = refl
    apart (k ∷ t) a = λ i. (same-sym n k ∙ or_left (same k n) _ (or_left (any (same k) (n ∷ ns)) _ a)) i || apart t (or_right (any (same k) (n ∷ ns)) _ a) i

    behind : (t : List Bytes) → any (λ m. any (same m) (n ∷ ns)) t ≡ false → any (λ m. any (same m) ns) t ≡ false
    behind [] a = refl
    behind (k ∷ t) a = λ i. or_right (same k n) _ (or_left (any (same k) (n ∷ ns)) _ a) i || behind t (or_right (any (same k) (n ∷ ns)) _ a) i
