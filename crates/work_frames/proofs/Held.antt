-- What a deck's slots stand for at the level that runs is what the workspace holds. Assumes nothing.
use Prim.Native.Nat.{ℕ, zero, suc, ◌+◌, ◌*◌, ◌-◌, ◌≤◌, ◌<◌}
use mathlib.Core.Path.{◌≡◌, refl, sym, ap, ◌∙◌}
use mathlib.Core.Bool.{Bool, true, false, true≢false}
use mathlib.Core.List.{List, [], ◌∷◌, ◌++◌, map}
use native.Mathlib.Omega.{arith}
use lib.Dec.{ltb}
use lib.ListN.{length, get_or, replicate, length-replicate, get_or-append}
use lib.Seq.{get_or-append-add}
use lib.IntN.{pos}
use borrow.Author.Tests.{ltb-true, ltb-false, lt-ltb, le-ltb}
use Rattle.rules.proofs.Choices.{by, chosen, passed_over}
use Rattle.text.specs.Bytes.{Bytes}
use Rattle.rules.specs.Choice.{choose}
use Rattle.rules.specs.Statement.{Set, set_a, set_b, set_c}
use Rattle.rules.specs.Grammar.{Kind, parameter, symbol, syslist, sysndx, sysect, unknown}
use Rattle.rules.specs.Evaluate.{number, string, Cell, own_cell, shared_cell, system_cell}
use Rattle.deck.specs.Slots.{own, shared, DeckMacro, Deck, parameters, own_kinds_of, slot_kind, held}
use Rattle.grammar.specs.Tokens.{kind_of}
use Rattle.grammar.specs.Kinds.{number_of}
use Rattle.deck_reading.specs.Reading.{kinds_at}
use Rattle.deck_reading.specs.Heads.{globals_place}
use Rattle.work_cells.specs.Cells.{cell_of, value_in, values_from}
use Rattle.expand_levels.specs.Stands.{level_of}
use Rattle.expand_levels.specs.declared.Level.{Level}
use Rattle.work_frames.specs.Layout.{local_cell, global_cell, parameters_in}
use Rattle.work_frames.specs.Frames.{parameter_at, parameters_from, level_in, texts_in, macro_of, running_in, shared_in, cell_in}
use Rattle.work_frames.specs.Holding.{set_kind, kind_in, slot_at, Holding}
use Rattle.work_frames.specs.declared.Frame.{Frame}

-- the slots of bytes
own-slot : (p : ℕ) → p < 64 → slot_at (128 + p) ≡ own p
unfolding slot_at choose
own-slot p h = let l : 128 + p < 192 = omega arith in let e : 128 + p - 128 ≡ p = omega arith in rw (lt-ltb (128 + p) 192 l, e)

shared-slot : (g : ℕ) → g < 32 → slot_at (192 + g) ≡ shared g
unfolding slot_at choose
shared-slot g h =
    let l : 192 ≤ 192 + g = omega arith in
    let k : 192 + g < 224 = omega arith in
    let e : 192 + g - 192 ≡ g = omega arith in
    rw (le-ltb (192 + g) 192 l, lt-ltb (192 + g) 224 k, e)

-- values one behind the other
value-at : (w : Bytes) (k q : ℕ) (ks : List Set) (s : Set) → get_or (map symbol ks) q unknown ≡ symbol s → get_or (values_from w k ks) q (string []) ≡ value_in s (cell_of w (k + q))
unfolding values_from
value-at w k q [] s e = absurd (other e)
  where
    told : Kind → Bool
    told (symbol s) = true
    told parameter = false
    told syslist = false
    told sysndx = false
    told sysect = false
    told unknown = false

    other : unknown ≡ symbol s → ⊥
    other e = true≢false (sym (ap told e))
value-at w k zero (t ∷ ks) s e =
    let z : k + 0 ≡ k = omega arith in
    λ j. value_in (same j) (cell_of w (sym z j))
  where
    kind_of' : Kind → Set
    kind_of' (symbol s) = s
    kind_of' parameter = set_a
    kind_of' syslist = set_a
    kind_of' sysndx = set_a
    kind_of' sysect = set_a
    kind_of' unknown = set_a

    same : t ≡ s
    same = ap kind_of' e
value-at w k (suc q) (t ∷ ks) s e =
    let z : suc k + q ≡ k + suc q = omega arith in
    value-at w (suc k) q ks s e ∙ ap (λ i. value_in s (cell_of w i)) z

parameters-long : (w deck : Bytes) (at n : ℕ) → length (parameters_from w deck at n) ≡ n
unfolding parameters_from
parameters-long w deck at zero = refl
parameters-long w deck at (suc n) = ap suc (parameters-long w deck (at + 4) n)

parameter-at : (w deck : Bytes) (at n p : ℕ) → p < n → get_or (parameters_from w deck at n) p (string []) ≡ string (parameter_at w deck (at + 4 * p))
unfolding parameters_from
parameter-at w deck at zero p h = absurd (omega arith)
parameter-at w deck at (suc n) zero h = let z : at + 4 * 0 ≡ at = omega arith in ap (λ i. string (parameter_at w deck i)) (sym z)
parameter-at w deck at (suc n) (suc p) h =
    let z : at + 4 + 4 * p ≡ at + 4 * suc p = omega arith in
    parameter-at w deck (at + 4) n p (omega arith) ∙ ap (λ i. string (parameter_at w deck i)) z

-- no SET symbol is a parameter
no-parameter : (ks : List Set) (q : ℕ) → get_or (map symbol ks) q unknown ≡ parameter → ⊥
no-parameter ks q e = true≢false (sym (ap is_one e) ∙ never ks q)
  where
    is_one : Kind → Bool
    is_one parameter = true
    is_one (symbol s) = false
    is_one syslist = false
    is_one sysndx = false
    is_one sysect = false
    is_one unknown = false

    never : (ks : List Set) (q : ℕ) → is_one (get_or (map symbol ks) q unknown) ≡ false
    never [] q = refl
    never (k ∷ ks) zero = refl
    never (k ∷ ks) (suc q) = never ks q

-- parameters come first, then locals
own-after : (m : DeckMacro) (q : ℕ) → get_or (own_kinds_of m) (parameters m + q) unknown ≡ get_or (map symbol m.locals) q unknown
unfolding own_kinds_of
own-after m q =
    let n : length (replicate (parameters m) parameter) ≡ parameters m = length-replicate (parameters m) parameter in
    ap (λ i. get_or (replicate (parameters m) parameter ++ map symbol m.locals) (i + q) unknown) (sym n) ∙ get_or-append-add (replicate (parameters m) parameter) (map symbol m.locals) q unknown

replicated : (n p : ℕ) → p < n → get_or (replicate n parameter) p unknown ≡ parameter
replicated zero p h = absurd (omega arith)
replicated (suc n) zero h = refl
replicated (suc n) (suc p) h = replicated n p (omega arith)

own_first : (m : DeckMacro) (p : ℕ) → p < parameters m → get_or (own_kinds_of m) p unknown ≡ parameter
unfolding own_kinds_of
own_first m p h =
    let short : p < length (replicate (parameters m) parameter) = rw (length-replicate (parameters m) parameter) h in
    get_or-append (replicate (parameters m) parameter) (map symbol m.locals) unknown p short ∙ replicated (parameters m) p h

module _ (w deck : Bytes) (d : Deck) (depth : ℕ) (l : Level) where
  abbrev cells : ℕ → Cell
  cells b = cell_in w deck d depth l (slot_at b)

  abbrev m : DeckMacro
  m = macro_of d l

  own_is : (p : ℕ) → p < 64 → cells (128 + p) ≡ cell_in w deck d depth l (own p)
  own_is p h = ap (cell_in w deck d depth l) (own-slot p h)

  shared-is : (g : ℕ) → g < 32 → cells (192 + g) ≡ cell_in w deck d depth l (shared g)
  shared-is g h = ap (cell_in w deck d depth l) (shared-slot g h)

  own_value : (p : ℕ) → (cell_in w deck d depth l (own p)).value ≡ get_or (parameters_from (level_in w depth) deck parameters_in (parameters m) ++ values_from w (local_cell depth) m.locals) p (string [])
  unfolding cell_in held own_cell running_in level_of texts_in
  own_value p = refl

  own-kind : (p : ℕ) → (cell_in w deck d depth l (own p)).kind ≡ get_or (own_kinds_of m) p unknown
  unfolding cell_in held own_cell slot_kind
  own-kind p = refl

  shared_value : (g : ℕ) → (cell_in w deck d depth l (shared g)).value ≡ get_or (values_from w global_cell d.globals) g (string [])
  unfolding cell_in held shared_cell shared_in
  shared_value g = refl

  shared-kind : (g : ℕ) → (cell_in w deck d depth l (shared g)).kind ≡ get_or (map symbol d.globals) g unknown
  unfolding cell_in held shared_cell slot_kind
  shared-kind g = refl

  local-value : (q : ℕ) (k : Set) → get_or (own_kinds_of m) (parameters m + q) unknown ≡ symbol k
      → (cell_in w deck d depth l (own (parameters m + q))).value ≡ value_in k (cell_of w (local_cell depth + q))
  local-value q k e =
      let ps = parameters_from (level_in w depth) deck parameters_in (parameters m) in
      let n : length ps ≡ parameters m = parameters-long (level_in w depth) deck parameters_in (parameters m) in
      own_value (parameters m + q)
      ∙ ap (λ i. get_or (ps ++ values_from w (local_cell depth) m.locals) (i + q) (string [])) (sym n)
      ∙ get_or-append-add ps (values_from w (local_cell depth) m.locals) q (string [])
      ∙ value-at w (local_cell depth) q m.locals k (sym (own-after m q) ∙ e)

  parameter-value : (p : ℕ) → p < parameters m → (cell_in w deck d depth l (own p)).value ≡ string (parameter_at (level_in w depth) deck (parameters_in + 4 * p))
  parameter-value p h =
      let ps = parameters_from (level_in w depth) deck parameters_in (parameters m) in
      let n : length ps ≡ parameters m = parameters-long (level_in w depth) deck parameters_in (parameters m) in
      let less : p < length ps = rw n h in
      own_value p ∙ get_or-append ps (values_from w (local_cell depth) m.locals) (string []) p less ∙ parameter-at (level_in w depth) deck parameters_in (parameters m) p h

  -- parameters come first, then locals
  parameter-low : (p : ℕ) → get_or (own_kinds_of m) p unknown ≡ parameter → p < parameters m
  parameter-low p e = by (ltb p (parameters m)) (ltb-true p (parameters m)) λ t.
      let high = ltb-false p (parameters m) t in
      let z : parameters m + (p - parameters m) ≡ p = omega arith in
      absurd (no-parameter m.locals (p - parameters m) (sym (own-after m (p - parameters m)) ∙ ap (λ i. get_or (own_kinds_of m) i unknown) z ∙ e))

  local-high : (p : ℕ) (k : Set) → get_or (own_kinds_of m) p unknown ≡ symbol k → parameters m ≤ p
  local-high p k e = by (ltb p (parameters m)) (λ t. absurd (other (sym (own_first m p (ltb-true p (parameters m) t)) ∙ e))) (ltb-false p (parameters m))
    where
      told : Kind → Bool
      told (symbol s) = true
      told parameter = false
      told syslist = false
      told sysndx = false
      told sysect = false
      told unknown = false

      other : parameter ≡ symbol k → ⊥
      other e = true≢false (sym (ap told e))

-- ---- kinds, where they stand in the deck

kind-back : (s : Set) → kind_of (number_of (symbol s)) ≡ symbol s
unfolding kind_of number_of choose
kind-back set_a = refl
kind-back set_b = refl
kind-back set_c = refl

kinds-back : (ks : List Set) (q : ℕ) → kind_of (get_or (map (λ k. number_of (symbol k)) ks) q 4) ≡ get_or (map symbol ks) q unknown
unfolding kind_of choose
kinds-back [] q = refl
kinds-back (k ∷ ks) zero = kind-back k
kinds-back (k ∷ ks) (suc q) = kinds-back ks q

first_kind : kind_of 0 ≡ parameter
unfolding kind_of choose
first_kind = refl

module _ (deck : Bytes) (d : Deck) (m : DeckMacro) (f : Frame) (has : f.params ≡ parameters m) (locals : kinds_at deck f.locals ≡ m.locals) (globals : kinds_at deck globals_place ≡ d.globals) where
  set-kind : (at q : ℕ) (ks : List Set) → kinds_at deck at ≡ ks → kind_of (set_kind deck at q) ≡ get_or (map symbol ks) q unknown
  unfolding set_kind
  set-kind at q ks e = ap (λ l. kind_of (get_or (map (λ k. number_of (symbol k)) l) q 4)) e ∙ kinds-back ks q

  own_read : (p : ℕ) → p < 64 → kind_of (kind_in deck f (128 + p)) ≡ get_or (own_kinds_of m) p unknown
  unfolding kind_in
  own_read p h =
      let less : 128 + p < 192 = omega arith in
      let z : 128 + p - 128 ≡ p = omega arith in
      ap kind_of (chosen _ _ (lt-ltb (128 + p) 192 less) ∙ ap (λ i. choose (ltb i f.params) 0 (set_kind deck f.locals (i - f.params))) z)
      ∙ by (ltb p f.params)
      (λ t. let low = ltb-true p f.params t in let low' : p < parameters m = omega (arith, low, has) in
      ap kind_of (chosen 0 (set_kind deck f.locals (p - f.params)) t) ∙ first_kind ∙ sym (own_first m p low'))
      (λ t. let high = ltb-false p f.params t in let q : parameters m + (p - f.params) ≡ p = omega (arith, high, has) in
      ap kind_of (passed_over 0 (set_kind deck f.locals (p - f.params)) t) ∙ set-kind f.locals (p - f.params) m.locals locals
      ∙ sym (own-after m (p - f.params)) ∙ ap (λ i. get_or (own_kinds_of m) i unknown) q)

  shared-read : (g : ℕ) → g < 32 → kind_of (kind_in deck f (192 + g)) ≡ get_or (map symbol d.globals) g unknown
  unfolding kind_in
  shared-read g h =
      let more : 192 ≤ 192 + g = omega arith in
      let z : 192 + g - 192 ≡ g = omega arith in
      ap kind_of (passed_over _ _ (le-ltb (192 + g) 192 more) ∙ ap (set_kind deck globals_place) z) ∙ set-kind globals_place g d.globals globals

-- THE LINK: evaluation over the deck's cells may read the workspace
pub held-holding : (w deck : Bytes) (d : Deck) (l : Level) (f : Frame) → f.params ≡ parameters (macro_of d l) → f.number ≡ l.number → kinds_at deck f.locals ≡ (macro_of d l).locals
    → kinds_at deck globals_place ≡ d.globals → Holding deck w f (λ b. cell_in w deck d f.depth l (slot_at b))
unfolding cell_in held system_cell running_in level_of texts_in slot_at choose slot_kind
held-holding w deck d l f has numbered locals globals =
    let depth = f.depth in
    let m = macro_of d l in
    record {
      kinds = λ b low high. by (ltb b 192)
          (λ h. let less = ltb-true b 192 h in let p : b - 128 < 64 = omega arith in
          let e : 128 + (b - 128) ≡ b = omega arith in
          ap (λ i. (cells w deck d depth l i).kind) (sym e) ∙ ap (λ (c : Cell). c.kind) (own_is w deck d depth l (b - 128) p) ∙ own-kind w deck d depth l (b - 128)
          ∙ sym (own_read deck d m f has locals globals (b - 128) p) ∙ ap (λ i. kind_of (kind_in deck f i)) e)
          (λ h. let more = ltb-false b 192 h in let g : b - 192 < 32 = omega arith in
          let e : 192 + (b - 192) ≡ b = omega arith in
          ap (λ i. (cells w deck d depth l i).kind) (sym e) ∙ ap (λ (c : Cell). c.kind) (shared-is w deck d depth l (b - 192) g) ∙ shared-kind w deck d depth l (b - 192)
          ∙ sym (shared-read deck d m f has locals globals (b - 192) g) ∙ ap (λ i. kind_of (kind_in deck f i)) e);
      parameters = λ p h e. by (ltb p 64)
          (λ t. let p64 = ltb-true p 64 t in
          ap (λ (c : Cell). c.value) (own_is w deck d depth l p p64)
          ∙ parameter-value w deck d depth l p (parameter-low w deck d depth l p (sym (own-kind w deck d depth l p) ∙ sym (ap (λ (c : Cell). c.kind) (own_is w deck d depth l p p64)) ∙ e)))
          (λ t. let high = ltb-false p 64 t in let g : p - 64 < 32 = omega arith in let z : 192 + (p - 64) ≡ 128 + p = omega arith in
          absurd (no-parameter d.globals (p - 64) (sym (shared-kind w deck d depth l (p - 64)) ∙ sym (ap (λ (c : Cell). c.kind) (shared-is w deck d depth l (p - 64) g))
          ∙ ap (λ i. (cells w deck d depth l i).kind) z ∙ e)));
      locals = λ p k h e. let cell = own_is w deck d depth l p h in
          let kind : get_or (own_kinds_of m) p unknown ≡ symbol k = sym (own-kind w deck d depth l p) ∙ sym (ap (λ (c : Cell). c.kind) cell) ∙ e in
          let low : parameters m ≤ p = local-high w deck d depth l p k kind in
          let low' : f.params ≤ p = rw has low in
          let z : parameters m + (p - f.params) ≡ p = rw has (omega arith) in (
            low',
            ap (λ (c : Cell). c.value) cell ∙ ap (λ i. (cell_in w deck d depth l (own i)).value) (sym z)
                ∙ local-value w deck d depth l (p - f.params) k (ap (λ i. get_or (own_kinds_of m) i unknown) z ∙ kind),
          );
      globals = λ g k h e. ap (λ (c : Cell). c.value) (shared-is w deck d depth l g h) ∙ shared_value w deck d depth l g
          ∙ value-at w global_cell g d.globals k (sym (shared-kind w deck d depth l g) ∙ sym (ap (λ (c : Cell). c.kind) (shared-is w deck d depth l g h)) ∙ e)
          ∙ (let z : global_cell + g ≡ g = omega arith in ap (λ i. value_in k (cell_of w i)) z);
      list-kind = refl;
      list-is = refl;
      number-kind = refl;
      number_is = ap (λ n. number (pos n)) (sym numbered);
      section-kind = refl;
      section-is = refl;
    }
