-- The kind of a symbol at translation is the kind of its cell when the line is carried out.
use Prim.Native.Nat.{ℕ, zero, suc, ◌+◌, ◌≤◌, ◌<◌}
use native.Mathlib.Nat.{le_of_suc-le-suc, not-suc-le-zero}
use native.Mathlib.Omega.{arith}
use mathlib.Core.Path.{◌≡◌, refl, ap, sym, ◌∙◌}
use mathlib.Core.Bool.{Bool, true, false, false≢true, true≢false, ◌&&◌, ◌||◌}
use mathlib.Core.List.{List, [], ◌∷◌, ◌++◌, map}
use lib.Dec.{eqb, ltb}
use lib.IntN.{pos}
use lib.Seq.{get_or-append-add}
use lib.ListN.{length, get_or, length-append, length-map, get_or-append}
use borrow.Author.Tests.{eqb-true, eqb-false, eq-eqb, ne_eqb, ltb-true, ltb-false, lt-ltb, le-ltb}
use Rattle.text.specs.Bytes.{Bytes, bytes, same}
use Rattle.text.specs.Words.{place_among}
use Rattle.rules.specs.Choice.{choose, any}
use Rattle.rules.specs.Statement.{Set, set_a}
use Rattle.rules.specs.Grammar.{Kind, parameter, symbol, syslist, sysndx, sysect, unknown}
use Rattle.rules.specs.Evaluate.{Value, number, string, Store, Cell, own_cell, shared_cell, system_cell}
use Rattle.rules.specs.Machine.{Level}
use Rattle.rules.specs.Library.{Names, firsts, seconds, parameter_names}
use Rattle.rules.specs.ByLines.{own_names, own_kinds, system_named, cell_named}
use Rattle.rules.specs.Faults.{system_kind, set_names, kind_named}
use Rattle.rules.proofs.Choices.{by, either, chosen, passed_over}

-- ---- the same bytes

eqb-sym : (a b : ℕ) → eqb a b ≡ eqb b a
eqb-sym a b = by (eqb a b) (λ e. e ∙ sym (eq-eqb b a (sym (eqb-true a b e)))) (λ e. e ∙ sym (ne_eqb b a (λ q. eqb-false a b e (sym q))))

pub same-sym : (s t : Bytes) → same s t ≡ same t s
same-sym [] [] = refl
same-sym [] (d ∷ t) = refl
same-sym (c ∷ s) [] = refl
same-sym (c ∷ s) (d ∷ t) = λ i. eqb-sym c d i && same-sym s t i

-- ---- places among names

pub known-place : (n : Bytes) (ws : List Bytes) → any (same n) ws ≡ true → place_among ws n < length ws
unfolding any
known-place n [] h = absurd (false≢true h)
known-place n (w ∷ ws) h = go (same w n) (ap (λ (b : Bool). b || any (same n) ws) (same-sym w n) ∙ h) (known-place n ws)
  where
    go : (b : Bool) → (b || any (same n) ws) ≡ true → (any (same n) ws ≡ true → place_among ws n < length ws) → elim b [ true ↦ 0 | false ↦ suc (place_among ws n) ] < suc (length ws)
    go true h ih = omega arith
    go false h ih = omega (arith, ih h)

pub unknown-place : (n : Bytes) (ws : List Bytes) → any (same n) ws ≡ false → length ws ≤ place_among ws n
unfolding any
unknown-place n [] h = omega arith
unknown-place n (w ∷ ws) h = go (same w n) (ap (λ (b : Bool). b || any (same n) ws) (same-sym w n) ∙ h) (unknown-place n ws)
  where
    go : (b : Bool) → (b || any (same n) ws) ≡ false → (any (same n) ws ≡ false → length ws ≤ place_among ws n) → suc (length ws) ≤ elim b [ true ↦ 0 | false ↦ suc (place_among ws n) ]
    go true h ih = absurd (true≢false h)
    go false h ih = omega (arith, ih h)

pub place-in-front : (n : Bytes) (s t : List Bytes) → place_among s n < length s → place_among (s ++ t) n ≡ place_among s n
place-in-front n [] t h = absurd (not-suc-le-zero h)
place-in-front n (w ∷ s) t h = go (same w n) h (place-in-front n s t)
  where
    go : (b : Bool) → elim b [ true ↦ 0 | false ↦ suc (place_among s n) ] < suc (length s) → (place_among s n < length s → place_among (s ++ t) n ≡ place_among s n)
        → ◌≡◌ {A = ℕ} (elim b [ true ↦ 0 | false ↦ suc (place_among (s ++ t) n) ]) (elim b [ true ↦ 0 | false ↦ suc (place_among s n) ])
    go true h ih = refl
    go false h ih = ap suc (ih (le_of_suc-le-suc h))

pub place-behind : (n : Bytes) (s t : List Bytes) → length s ≤ place_among s n → place_among (s ++ t) n ≡ length s + place_among t n
place-behind n [] t h = omega arith
place-behind n (w ∷ s) t h = go (same w n) h (place-behind n s t)
  where
    go : (b : Bool) → suc (length s) ≤ elim b [ true ↦ 0 | false ↦ suc (place_among s n) ] → (length s ≤ place_among s n → place_among (s ++ t) n ≡ length s + place_among t n)
        → ◌≡◌ {A = ℕ} (elim b [ true ↦ 0 | false ↦ suc (place_among (s ++ t) n) ]) (suc (length s) + place_among t n)
    go true h ih = absurd (not-suc-le-zero h)
    go false h ih = omega (arith, ih (le_of_suc-le-suc h))

-- ---- names with their kinds

module _ {X : Type 0} where
  pub firsts-append : (s t : List (Bytes × X)) → firsts (s ++ t) ≡ firsts s ++ firsts t
  unfolding firsts
  firsts-append [] t = refl
  firsts-append (a ∷ s) t = ap (λ (l : List Bytes). a.0 ∷ l) (firsts-append s t)

  pub seconds-append : (s t : List (Bytes × X)) → seconds (s ++ t) ≡ seconds s ++ seconds t
  unfolding seconds
  seconds-append [] t = refl
  seconds-append (a ∷ s) t = ap (λ (l : List X). a.1 ∷ l) (seconds-append s t)

  pub length-firsts : (s : List (Bytes × X)) → length (firsts s) ≡ length s
  unfolding firsts
  length-firsts [] = refl
  length-firsts (a ∷ s) = ap suc (length-firsts s)

  pub length-seconds : (s : List (Bytes × X)) → length (seconds s) ≡ length s
  unfolding seconds
  length-seconds [] = refl
  length-seconds (a ∷ s) = ap suc (length-seconds s)

pub get_d-mapped : {A B : Type 0} (f : A → B) (l : List A) (i : ℕ) (d : A) (e : B) → i < length l → get_or (map f l) i e ≡ f (get_or l i d)
get_d-mapped f [] i d e h = absurd (not-suc-le-zero h)
get_d-mapped f (a ∷ l) zero d e h = refl
get_d-mapped f (a ∷ l) (suc i) d e h = get_d-mapped f l i d e (le_of_suc-le-suc h)

-- ---- the four cases

pub system-kind : (l : Level) (st : Store) (n : Bytes) → (system_named l st n).kind ≡ system_kind n
unfolding system_named system_kind system_cell choose
system-kind l st n = go (same n (bytes "SYSLIST")) (same n (bytes "SYSNDX")) (same n (bytes "SYSECT"))
  where
    go : (a b c : Bool)
        → (choose a (system_cell syslist st (string []) l.list)
        (choose b (system_cell sysndx st (number (pos l.number)) []) (choose c (system_cell sysect st (string l.sect) []) (system_cell unknown st (string []) [])))).kind
        ≡ choose a syslist (choose b sysndx (choose c sysect unknown))
    go true b c = refl
    go false true c = refl
    go false false true = refl
    go false false false = refl

module _ (names : Names) (globals : List (Bytes × Set)) (l : Level) (vs : List Value) (n : Bytes) where
  abbrev ps : List Bytes
  ps = parameter_names names

  abbrev store : Store
  store = record { own = l.own; shared = vs }

  -- the cell of a name of the level's own, and of another
  own-cell : place_among (own_names names) n < length (own_names names)
      → (cell_named names globals l vs n).kind ≡ get_or (own_kinds names) (place_among (own_names names) n) unknown
  unfolding cell_named own_cell
  own-cell h = ap (λ (c : Cell). c.kind) (chosen _ _ (lt-ltb _ _ h))

  pub other-cell : length (own_names names) ≤ place_among (own_names names) n
      → (cell_named names globals l vs n).kind
      ≡ choose (ltb (place_among (firsts names.globals) n) (length names.globals)) (symbol (get_or (seconds names.globals) (place_among (firsts names.globals) n) set_a)) (system_kind n)
  unfolding cell_named shared_cell
  other-cell h =
      let g = place_among (firsts names.globals) n in
      ap (λ (c : Cell). c.kind) (passed_over _ _ (le-ltb _ _ h))
      ∙ either (λ (c : Cell). c.kind ≡ choose (ltb g (length names.globals)) (symbol (get_or (seconds names.globals) g set_a)) (system_kind n)) (ltb g (length names.globals))
      (λ e. sym (chosen _ _ e))
      (λ e. system-kind l store n ∙ sym (passed_over _ _ e))

  -- the kind of a parameter, of a SET symbol, and of another name
  parameter-kind : any (same n) ps ≡ true → kind_named names n ≡ parameter
  unfolding kind_named
  parameter-kind h = chosen _ _ h

  set-kind : any (same n) ps ≡ false → (p : ℕ) → place_among (firsts (set_names names)) n ≡ p → p < length (set_names names)
      → kind_named names n ≡ symbol (get_or (seconds (set_names names)) p set_a)
  unfolding kind_named
  set-kind h p e lt =
      passed_over _ _ h
      ∙ (ap (λ (p : ℕ). choose (ltb p (length (set_names names))) (symbol (get_or (seconds (set_names names)) p set_a)) (system_kind n)) e
      ∙ chosen _ _ (lt-ltb p _ lt))

  other-kind : any (same n) ps ≡ false → length (set_names names) ≤ place_among (firsts (set_names names)) n → kind_named names n ≡ system_kind n
  unfolding kind_named
  other-kind h ge = passed_over _ _ h ∙ passed_over _ _ (le-ltb _ _ ge)

  abbrev as_parameters : List Kind
  as_parameters = map (λ p. parameter) ps

  abbrev as_symbols : List Kind
  as_symbols = map symbol (seconds names.locals)

  case-parameter : any (same n) ps ≡ true → (cell_named names globals l vs n).kind ≡ kind_named names n
  unfolding own_names own_kinds
  case-parameter h =
      let lt = known-place n ps h in
      let e = place-in-front n ps (firsts names.locals) lt in
      own-cell (omega (arith, lt, e, length-append ps (firsts names.locals)))
      ∙ (ap (λ (p : ℕ). get_or (as_parameters ++ as_symbols) p unknown) e
      ∙ (get_or-append as_parameters as_symbols unknown (place_among ps n) (omega (arith, lt, length-map {B = Kind} ps (λ p. parameter)))
      ∙ (get_d-mapped (λ p. parameter) ps (place_among ps n) [] unknown lt ∙ sym (parameter-kind h))))

  -- where a name that is no parameter stands among the level's own
  own-place : any (same n) ps ≡ false → place_among (own_names names) n ≡ length ps + place_among (firsts names.locals) n
  unfolding own_names
  own-place h = place-behind n ps (firsts names.locals) (unknown-place n ps h)

  own-length : length (own_names names) ≡ length ps + length names.locals
  unfolding own_names
  own-length = length-append ps (firsts names.locals) ∙ ap (λ (k : ℕ). length ps + k) (length-firsts names.locals)

  case-local : any (same n) ps ≡ false → place_among (firsts names.locals) n < length names.locals → (cell_named names globals l vs n).kind ≡ kind_named names n
  unfolding own_kinds set_names
  case-local h lt =
      let ls = names.locals in
      let gs = names.globals in
      let j = place_among (firsts ls) n in
      let e = own-place h in
      own-cell (omega (arith, lt, e, own-length))
      ∙ (ap (λ (p : ℕ). get_or (as_parameters ++ as_symbols) p unknown) (e ∙ ap (λ (k : ℕ). k + j) (sym (length-map {B = Kind} ps (λ p. parameter))))
      ∙ (get_or-append-add as_parameters as_symbols j unknown
      ∙ (get_d-mapped symbol (seconds ls) j set_a unknown (omega (arith, lt, length-seconds ls))
      ∙ sym
      (set-kind h j
      (ap (λ (ws : List Bytes). place_among ws n) (firsts-append ls gs) ∙ place-in-front n (firsts ls) (firsts gs) (omega (arith, lt, length-firsts ls)))
      (omega (arith, lt, length-append ls gs))
      ∙ ap symbol
      (ap (λ (s : List Set). get_or s j set_a) (seconds-append ls gs) ∙ get_or-append (seconds ls) (seconds gs) set_a j (omega (arith, lt, length-seconds ls)))))))

  case-other : any (same n) ps ≡ false → length names.locals ≤ place_among (firsts names.locals) n → (cell_named names globals l vs n).kind ≡ kind_named names n
  unfolding set_names
  case-other h ge =
      let ls = names.locals in
      let gs = names.globals in
      let g = place_among (firsts gs) n in
      let e : place_among (firsts (ls ++ gs)) n ≡ length (firsts ls) + g =
      ap (λ (ws : List Bytes). place_among ws n) (firsts-append ls gs) ∙ place-behind n (firsts ls) (firsts gs) (omega (arith, ge, length-firsts ls)) in
      other-cell (omega (arith, ge, own-place h, own-length))
      ∙ either (λ (k : Kind). k ≡ kind_named names n) (ltb g (length gs))
      (λ t. sym
      (set-kind h (length (seconds ls) + g) (e ∙ ap (λ (k : ℕ). k + g) (length-firsts ls ∙ sym (length-seconds ls)))
      (omega (arith, ltb-true g (length gs) t, length-append ls gs, length-seconds ls))
      ∙ ap symbol (ap (λ (s : List Set). get_or s (length (seconds ls) + g) set_a) (seconds-append ls gs) ∙ get_or-append-add (seconds ls) (seconds gs) g set_a)))
      (λ f. sym (other-kind h (omega (arith, e, ltb-false g (length gs) f, length-firsts ls, length-append ls gs))))

  -- for every name, known or not
  pub cell-kind : (cell_named names globals l vs n).kind ≡ kind_named names n
  cell-kind =
      by (any (same n) ps) case-parameter
      (λ h. by (ltb (place_among (firsts names.locals) n) (length names.locals)) (λ e. case-local h (ltb-true _ _ e)) (λ e. case-other h (ltb-false _ _ e)))
