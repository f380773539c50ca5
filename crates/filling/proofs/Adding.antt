-- Tables of the library's globals with a name more, and with one name after another. Assumes nothing.
use Prim.Native.Nat.{ℕ, suc, ◌+◌, ◌*◌, ◌≤◌, ◌<◌}
use native.Mathlib.Nat.{not-suc-le-zero, le_of_suc-le-suc}
use native.Mathlib.Numerals.{add-one}
use native.Mathlib.Omega.{arith}
use mathlib.Core.Path.{◌≡◌, refl, ap, sym, ◌∙◌}
use mathlib.Core.Bool.{Bool, true, false, ◌||◌}
use mathlib.Core.List.{List, [], ◌∷◌, ◌++◌, map, map-append}
use lib.ListN.{length, take, drop, set, length-append, length-drop}
use lib.Seq.{take-suc-set, take-set-le, drop-set-add}
use Rattle.text.specs.Bytes.{Bytes, same}
use Rattle.text.specs.Words.{place_among}
use Rattle.rules.specs.Choice.{choose}
use Rattle.rules.specs.Statement.{Set, set_a, set_b, set_c}
use Rattle.rules.specs.Grammar.{symbol}
use Rattle.rules.specs.Calls.{is_among}
use Rattle.rules.specs.Library.{of_kind, firsts, with_globals}
use Rattle.rules.proofs.Choices.{chosen, passed_over}
use Rattle.rules.proofs.Symbols.{firsts-append}
use Rattle.rules.proofs.OneKind.{Globals}
use Rattle.deck.specs.Coders.{set_code}
use Rattle.lent.specs.Splice.{splice}
use Rattle.names.specs.Names.{names_in}
use Rattle.grammar.specs.Kinds.{number_of}
use Rattle.tables.proofs.Grown.{declared-names}
use Rattle.filling.specs.Added.{number, Added, Adds}

-- ---- a name among globals, by its place

pub is-among : (gs : Globals) (n : Bytes) → place_among (firsts gs) n < length gs → is_among n gs ≡ true
unfolding firsts is_among
is-among [] n h = absurd (not-suc-le-zero h)
is-among (g ∷ gs) n h = go (same g.0 n) h (is-among gs n)
  where
    go : (b : Bool) → elim b [ true ↦ 0 | false ↦ suc (place_among (firsts gs) n) ] < suc (length gs) → (place_among (firsts gs) n < length gs → is_among n gs ≡ true)
        → (b || is_among n gs) ≡ true
    go true h ih = refl
    go false h ih = ih (le_of_suc-le-suc h)

pub not-among : (gs : Globals) (n : Bytes) → length gs ≤ place_among (firsts gs) n → is_among n gs ≡ false
unfolding firsts is_among
not-among [] n h = refl
not-among (g ∷ gs) n h = go (same g.0 n) h (not-among gs n)
  where
    go : (b : Bool) → suc (length gs) ≤ elim b [ true ↦ 0 | false ↦ suc (place_among (firsts gs) n) ] → (length gs ≤ place_among (firsts gs) n → is_among n gs ≡ false)
        → (b || is_among n gs) ≡ false
    go true h ih = absurd (not-suc-le-zero h)
    go false h ih = ih (le_of_suc-le-suc h)

-- ---- a list of names after another

pub kind-append : (k : Set) (s t : List Bytes) → of_kind k (s ++ t) ≡ of_kind k s ++ of_kind k t
unfolding of_kind
kind-append k [] t = refl
kind-append k (n ∷ s) t = ap ((n, k) ∷◌) (kind-append k s t)

pub added-in-turn : (gs s t : Globals) → with_globals gs (s ++ t) ≡ with_globals (with_globals gs s) t
unfolding with_globals
added-in-turn gs [] t = refl
added-in-turn gs (g ∷ s) t = added-in-turn (choose (is_among g.0 gs) gs (gs ++ (g ∷ []))) s t

-- ---- a name that is there, and one that is not

module _ (k : Set) (gs : Globals) (n : Bytes) where
  with-known : is_among n gs ≡ true → with_globals gs (of_kind k (n ∷ [])) ≡ gs
  unfolding with_globals of_kind
  with-known e = chosen gs (gs ++ ((n, k) ∷ [])) e

  with-new : is_among n gs ≡ false → with_globals gs (of_kind k (n ∷ [])) ≡ gs ++ ((n, k) ∷ [])
  unfolding with_globals of_kind
  with-new e = passed_over gs (gs ++ ((n, k) ∷ [])) e

pub kind-number : (k : Set) (c : ℕ) → c ≡ set_code k → c + 1 ≡ number_of (symbol k)
unfolding set_code number_of
kind-number set_a c e = omega (arith, e)
kind-number set_b c e = omega (arith, e)
kind-number set_c c e = omega (arith, e)

module _ (code : ℕ) (shared kinds : Bytes) (rows : ℕ) where
  -- the tables stay
  abbrev Stays : List Bytes → Type 0
  Stays ns = Adds code shared kinds rows ns shared kinds rows

  stays : (gs gs' : Globals) → gs' ≡ gs → names_in (take (rows * 8) shared) ≡ firsts gs → take (length gs) (drop 64 kinds) ≡ map number gs → length gs ≡ rows
      → Added gs' kinds shared kinds rows
  stays gs gs' e a b c = record {
    counted = sym c ∙ ap length (sym e);
    listed = a ∙ ap firsts (sym e);
    numbered = ap (λ (m : ℕ). take m (drop 64 kinds)) (sym c) ∙ (b ∙ ap (map number) (sym e));
    kept = refl;
  }

  pub adds-nothing : {ns : List Bytes} → ns ≡ [] → Stays ns
  unfolding with_globals of_kind
  adds-nothing e k gs _ a b c = stays gs _ (ap (λ (s : List Bytes). with_globals gs (of_kind k s)) e) a b c

  module _ {ns : List Bytes} (n : Bytes) (e : ns ≡ n ∷ []) (place : ℕ) (p : place ≡ place_among (names_in (take (rows * 8) shared)) n) where
    place_is : (gs : Globals) → names_in (take (rows * 8) shared) ≡ firsts gs → place ≡ place_among (firsts gs) n
    place_is gs a = p ∙ ap (λ (ws : List Bytes). place_among ws n) a

    pub adds-known : place < rows → Stays ns
    adds-known h k gs _ a b c =
        let q = place_is gs a in
        stays gs _ (ap (λ (s : List Bytes). with_globals gs (of_kind k s)) e ∙ with-known k gs n (is-among gs n (omega (arith, h, q, c)))) a b c

    pub adds-new : rows ≤ place → (shared' kinds' : Bytes) → shared' ≡ splice shared (rows * 8) (length n ∷ n) → kinds' ≡ set kinds (64 + rows) (code + 1)
        → rows * 8 + 8 ≤ length shared → length n ≤ 7 → 64 + rows < length kinds → Adds code shared kinds rows ns shared' kinds' (rows + 1)
    unfolding firsts
    adds-new h shared' kinds' s f room fits space k gs o a b c =
        let q = place_is gs a in
        let more : Globals = gs ++ ((n, k) ∷ []) in
        let w : with_globals gs (of_kind k ns) ≡ more =
        ap (λ (s : List Bytes). with_globals gs (of_kind k s)) e ∙ with-new k gs n (not-among gs n (omega (arith, h, q, c))) in
        let here : rows < length (drop 64 kinds) = omega (arith, space, length-drop 64 kinds) in
        let v = kind-number k code o in
        record {
          counted = omega (arith, c, length-append gs ((n, k) ∷ []), ap length w);
          listed =
              ap (λ (t : Bytes). names_in (take ((rows + 1) * 8) t)) s
              ∙ (declared-names shared rows n room fits ∙ (ap (◌++ (n ∷ [])) a ∙ (sym (first_more gs) ∙ ap firsts (sym w))));
          numbered =
              ap (λ (t : Bytes). take (rows + 1) (drop 64 t)) f
              ∙ (ap (take (rows + 1)) (drop-set-add 64 kinds rows (code + 1))
              ∙ (ap (λ (m : ℕ). take m (set (drop 64 kinds) rows (code + 1))) (add-one rows)
              ∙ (take-suc-set (drop 64 kinds) rows (code + 1) here
              ∙ ((λ i. front gs b c i ++ (v i ∷ [])) ∙ (sym (map-append number gs ((n, k) ∷ [])) ∙ ap (map number) (sym w))))));
          kept = ap (take 64) f ∙ take-set-le 64 kinds (64 + rows) (code + 1) (omega arith);
        }
      where
        first_more : (gs : Globals) → firsts (gs ++ ((n, k) ∷ [])) ≡ firsts gs ++ (n ∷ [])
        first_more gs = firsts-append gs ((n, k) ∷ [])

        front : (gs : Globals) → take (length gs) (drop 64 kinds) ≡ map number gs → length gs ≡ rows → take rows (drop 64 kinds) ≡ map number gs
        front gs b c = ap (λ (m : ℕ). take m (drop 64 kinds)) (sym c) ∙ b

-- ---- one after another

module _ (code : ℕ) (shared kinds : Bytes) (rows : ℕ) (shared₁ kinds₁ : Bytes) (rows₁ : ℕ) (shared₂ kinds₂ : Bytes) (rows₂ : ℕ) where
  pub adds_then : {ss : List Bytes} (s t : List Bytes) → ss ≡ s ++ t → Adds code shared kinds rows s shared₁ kinds₁ rows₁ → Adds code shared₁ kinds₁ rows₁ t shared₂ kinds₂ rows₂
      → Adds code shared kinds rows ss shared₂ kinds₂ rows₂
  adds_then s t e f g k gs o a b c =
      let x = f k gs o a b c in
      let gs₁ = with_globals gs (of_kind k s) in
      let y = g k gs₁ o x.listed (ap (λ (m : ℕ). take m (drop 64 kinds₁)) (sym x.counted) ∙ x.numbered) (sym x.counted) in
      let w = ap (λ (z : List Bytes). with_globals gs (of_kind k z)) e ∙ (ap (with_globals gs) (kind-append k s t) ∙ added-in-turn gs (of_kind k s) (of_kind k t)) in
      record {
        counted = y.counted ∙ ap length (sym w);
        listed = y.listed ∙ ap firsts (sym w);
        numbered = y.numbered ∙ ap (map number) (sym w);
        kept = y.kept ∙ x.kept;
      }
