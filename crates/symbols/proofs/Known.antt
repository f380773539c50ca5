-- One name by tables that hold a macro's names: its byte is that of a symbol that is not known where the rules find it too long or unknown, and else it stands for
-- a slot with the name's kind. Assumes nothing.
use Prim.Native.Nat.{ℕ, zero, suc, ◌+◌, ◌-◌, ◌/◌, ◌≤◌, ◌<◌, min}
use native.Mathlib.Nat.{not-suc-le-zero}
use native.Mathlib.Omega.{arith}
use mathlib.Core.Path.{◌≡◌, refl, ap, sym, ◌∙◌, subst}
use mathlib.Core.Bool.{Bool, true, false, ◌||◌, or-true}
use mathlib.Core.List.{List, [], ◌∷◌, map}
use lib.Dec.{eqb, ltb}
use lib.ListN.{length, get_or, drop, length-append, length-map, length-take}
use lib.Seq.{get_or-take, get_or-drop}
use borrow.Author.Tests.{ltb-true, lt-ltb, le-ltb, ne_eqb}
use Rattle.text.specs.Bytes.{Bytes, bytes, same}
use Rattle.text.specs.Words.{place_among}
use Rattle.text.proofs.Same.{same-is}
use Rattle.rules.specs.Choice.{choose}
use Rattle.rules.specs.Limits.{name_limit}
use Rattle.rules.specs.Lexemes.{byte, ref, is_long}
use Rattle.rules.specs.Statement.{Set, set_a, set_b, set_c}
use Rattle.rules.specs.Grammar.{Kind, parameter, symbol, syslist, sysndx, sysect, unknown}
use Rattle.rules.specs.Evaluate.{Cell, own_cell, shared_cell}
use Rattle.rules.specs.Machine.{Level}
use Rattle.rules.specs.Library.{Names, firsts, seconds, parameter_names}
use Rattle.rules.specs.ByLines.{own_names, own_kinds, cell_named}
use Rattle.rules.specs.Faults.{system_kind, kind_named, is_unknown_kind}
use Rattle.rules.proofs.Choices.{by, chosen, passed_over}
use Rattle.rules.proofs.Logic.{All, all-at}
use Rattle.rules.proofs.Symbols.{length-firsts, length-seconds, get_d-mapped, system-kind, cell-kind}
use Rattle.deck.specs.Slots.{Slot, own as own_slot, shared as shared_slot, list, index, section, nowhere, system_slot, resolved}
use Rattle.deck.specs.Coders.{own_code, shared_code, unknown_code, slot_code}
use Rattle.deck.proofs.Lists.{all_append}
use Rattle.names.specs.Names.{rows_by, name_in, names_in, slot_byte}
use Rattle.names.proofs.Slots.{byte-resolved}
use Rattle.grammar.specs.Kinds.{number_of}
use Rattle.grammar.specs.Tokens.{kind_of, lex_of}
use Rattle.symbols.specs.Held.{Held}

-- ---- names in tables are short

abbrev Short : Bytes → Type 0
Short n = length n ≤ name_limit

rows_short : (k : ℕ) (t : Bytes) → All Short (rows_by name_in k t)
unfolding rows_by name_in
rows_short zero t = tt
rows_short (suc k) t = (omega (arith, length-take (min (get_or t 0 0) 7) (drop 1 t)), rows_short k (drop 8 t))

among-short : (ws : List Bytes) (n : Bytes) → All Short ws → place_among ws n < length ws → Short n
among-short [] n a h = absurd (not-suc-le-zero h)
among-short (w ∷ ws) n a h = step (same w n) refl h (among-short ws n a.1)
  where
    step : (b : Bool) → same w n ≡ b → elim b [ true ↦ 0 | false ↦ suc (place_among ws n) ] < suc (length ws) → (place_among ws n < length ws → Short n) → Short n
    step true e l ih = subst Short (same-is w n e) a.0
    step false e l ih = ih (omega arith)

-- a name that a table has is not too long
in_table : (t n : Bytes) (ws : List Bytes) → names_in t ≡ ws → place_among ws n < length ws → is_long n ≡ false
unfolding names_in is_long
in_table t n ws e h = le-ltb name_limit (length n) (among-short ws n (subst (All Short) e (rows_short (length t / 8) t)) h)

-- ---- kinds as numbers

-- a kind that its number gives back, and that is known
abbrev Told : Kind → Type 0
Told k = (kind_of (number_of k) ≡ k) × (is_unknown_kind k ≡ false)

symbol-told : (s : Set) → Told (symbol s)
unfolding kind_of number_of is_unknown_kind choose
symbol-told set_a = (refl, refl)
symbol-told set_b = (refl, refl)
symbol-told set_c = (refl, refl)

symbols-told : (ks : List Set) → All Told (map symbol ks)
symbols-told [] = tt
symbols-told (k ∷ ks) = (symbol-told k, symbols-told ks)

parameters-told : (ws : List Bytes) → All Told (map (λ p. parameter) ws)
unfolding kind_of number_of is_unknown_kind choose
parameters-told [] = tt
parameters-told (w ∷ ws) = ((refl, refl), parameters-told ws)

kinds-told : (names : Names) → All Told (own_kinds names)
unfolding own_kinds
kinds-told names =
    all_append Told (map (λ p. parameter) (parameter_names names)) (map symbol (seconds names.locals)) (parameters-told (parameter_names names)) (symbols-told (seconds names.locals))

pub kinds-length : (names : Names) → length (own_kinds names) ≡ length (own_names names)
unfolding own_kinds own_names
kinds-length names =
    omega (
      arith,
      length-append (map {B = Kind} (λ p. parameter) (parameter_names names)) (map symbol (seconds names.locals)),
      length-append (parameter_names names) (firsts names.locals),
      length-map {B = Kind} (parameter_names names) (λ p. parameter),
      length-map (seconds names.locals) symbol,
      length-seconds names.locals,
      length-firsts names.locals,
    )

-- ---- the lexeme of a byte

module _ (kinds : Bytes) where
  pub lex-text : (b : ℕ) → b < 127 → lex_of kinds b ≡ byte b
  unfolding lex_of
  lex-text b h = chosen _ _ (lt-ltb b 127 h)

  lex-slot : (b : ℕ) → 128 ≤ b → b < 224 → lex_of kinds b ≡ ref (kind_of (get_or kinds (b - 128) 4))
  unfolding lex_of
  lex-slot b h l = passed_over _ _ (le-ltb b 127 (omega arith)) ∙ (passed_over _ _ (ne_eqb b 127 (λ e. omega arith)) ∙ chosen _ _ (lt-ltb b 224 l))

  -- what a name is: known, with a byte that has its kind, or not
  pub data Reads (n : Bytes) (b : ℕ) (k : Kind) : Type 0 where
    known : eqb b unknown_code ≡ false → (is_long n || is_unknown_kind k) ≡ false → lex_of kinds b ≡ ref k → Reads n b k
    none : b ≡ unknown_code → k ≡ unknown → Reads n b k

-- any level: a symbol's kind is the same on each
level : Level
level = record { macro = 0; line = 0; counter = 0; number = 0; sect = []; list = []; own = [] }

module _ (names : Names) (globals : List (Bytes × Set)) (own global shared kinds : Bytes) (h : Held names globals own global shared kinds) (n : Bytes) where
  abbrev p : ℕ
  p = place_among (own_names names) n

  abbrev g : ℕ
  g = place_among (firsts names.globals) n

  abbrev there : ℕ
  there = place_among (firsts globals) n

  abbrev Is : Slot → Kind → Type 0
  Is s k = (resolved names globals n ≡ s) × (kind_named names n ≡ k)

  -- by the deck's slot and the rules' kind
  from : (s : Slot) (k : Kind) → Is s k → Reads kinds n (slot_code s) k → Reads kinds n (slot_byte own global shared n) (kind_named names n)
  from s k e r =
      let b : slot_byte own global shared n ≡ slot_code s =
      byte-resolved names globals n own global shared h.mine h.theirs h.ours h.few h.fewer ∙ ap slot_code e.0 in
      subst (λ (c : ℕ). Reads kinds n c (kind_named names n)) (sym b) (subst (Reads kinds n (slot_code s)) (sym e.1) r)

  -- ---- a name of the macro's own

  own_is : ltb p (length (own_names names)) ≡ true → Is (own_slot p) (get_or (own_kinds names) p unknown)
  unfolding resolved cell_named own_cell
  own_is e = (chosen _ _ e, sym (cell-kind names globals level [] n) ∙ ap (λ (c : Cell). c.kind) (chosen _ _ e))

  own-reads : p < length (own_names names) → Reads kinds n (own_code + p) (get_or (own_kinds names) p unknown)
  own-reads l =
      let k = get_or (own_kinds names) p unknown in
      let few = h.few in
      let lk : p < length (own_kinds names) = omega (arith, l, kinds-length names) in
      let told : Told k = all-at Told (own_kinds names) unknown p (kinds-told names) lk in
      let place : own_code + p - 128 ≡ p = omega arith in
      let number : get_or kinds (own_code + p - 128) 4 ≡ number_of k =
      ap (λ (i : ℕ). get_or kinds i 4) place
      ∙ (sym (get_or-take (length (own_names names)) kinds p 4 l)
      ∙ (ap (λ (s : Bytes). get_or s p 4) h.my-kinds ∙ get_d-mapped number_of (own_kinds names) p unknown 4 lk)) in
      known (ne_eqb (own_code + p) unknown_code (λ e. omega arith)) (λ i. in_table own n (own_names names) h.mine l i || told.1 i)
      (lex-slot kinds (own_code + p) (omega arith) (omega arith) ∙ ap ref (ap kind_of number ∙ told.0))

  -- ---- a global

  global-is : ltb p (length (own_names names)) ≡ false → ltb g (length names.globals) ≡ true → Is (shared_slot there) (symbol (get_or (seconds names.globals) g set_a))
  unfolding resolved cell_named shared_cell
  global-is e f =
      (passed_over _ _ e ∙ chosen _ _ f, sym (cell-kind names globals level [] n) ∙ ap (λ (c : Cell). c.kind) (passed_over _ _ e ∙ chosen _ _ f))

  global_reads : g < length names.globals → Reads kinds n (shared_code + there) (symbol (get_or (seconds names.globals) g set_a))
  unfolding seconds
  global_reads l =
      let fewer = h.fewer in
      let a = h.agree n l in
      let s = get_or (seconds globals) there set_a in
      let k = get_or (seconds names.globals) g set_a in
      let ls : there < length (seconds globals) = omega (arith, a.0, length-seconds globals) in
      let lg : g < length (firsts names.globals) = omega (arith, l, length-firsts names.globals) in
      let place : shared_code + there - 128 ≡ 64 + there = omega arith in
      let number : get_or kinds (shared_code + there - 128) 4 ≡ number_of (symbol s) =
      ap (λ (i : ℕ). get_or kinds i 4) place
      ∙ (sym (get_or-drop 64 kinds there 4)
      ∙ (sym (get_or-take (length globals) (drop 64 kinds) there 4 a.0)
      ∙ (ap (λ (t : Bytes). get_or t there 4) h.our-kinds ∙ kinds-of globals there a.0))) in
      known (ne_eqb (shared_code + there) unknown_code (λ e. omega arith)) (λ i. in_table global n (firsts names.globals) h.theirs lg i || (symbol-told k).1 i)
      (lex-slot kinds (shared_code + there) (omega arith) (omega arith) ∙ ap ref (ap kind_of number ∙ ((symbol-told s).0 ∙ ap symbol a.1)))
    where
      kinds-of : (gs : List (Bytes × Set)) (i : ℕ) → i < length gs → get_or (map (λ g. number_of (symbol g.1)) gs) i 4 ≡ number_of (symbol (get_or (seconds gs) i set_a))
      kinds-of [] i l = absurd (not-suc-le-zero l)
      kinds-of (s ∷ gs) zero l = refl
      kinds-of (s ∷ gs) (suc i) l = kinds-of gs i (omega arith)

  -- ---- a system symbol, or none

  other-is : ltb p (length (own_names names)) ≡ false → ltb g (length names.globals) ≡ false → Is (system_slot n) (system_kind n)
  unfolding resolved cell_named
  other-is e f = (
    passed_over _ _ e ∙ passed_over _ _ f,
    sym (cell-kind names globals level [] n) ∙ (ap (λ (c : Cell). c.kind) (passed_over _ _ e ∙ passed_over _ _ f) ∙ system-kind level _ n),
  )

  other-reads : Reads kinds n (slot_code (system_slot n)) (system_kind n)
  unfolding system_slot system_kind slot_code lex_of choose is_unknown_kind is_long
  other-reads = go (same n (bytes "SYSLIST")) (same n (bytes "SYSNDX")) (same n (bytes "SYSECT")) (same-is n (bytes "SYSLIST")) (same-is n (bytes "SYSNDX")) (same-is n (bytes "SYSECT"))
    where
      short : (w : Bytes) → is_long w ≡ false → n ≡ w → (is_long n || false) ≡ false
      short w e q = ap (λ (m : Bytes). is_long m || false) q ∙ ap (◌|| false) e

      go : (a b d : Bool) → (a ≡ true → n ≡ bytes "SYSLIST") → (b ≡ true → n ≡ bytes "SYSNDX") → (d ≡ true → n ≡ bytes "SYSECT")
          → Reads kinds n (slot_code (choose a list (choose b index (choose d section nowhere)))) (choose a syslist (choose b sysndx (choose d sysect unknown)))
      go true b d e f q = known refl (short (bytes "SYSLIST") refl (e refl)) refl
      go false true d e f q = known refl (short (bytes "SYSNDX") refl (f refl)) refl
      go false false true e f q = known refl (short (bytes "SYSECT") refl (q refl)) refl
      go false false false e f q = none refl refl

  pub reads : Reads kinds n (slot_byte own global shared n) (kind_named names n)
  unfolding slot_code
  reads =
      by (ltb p (length (own_names names))) (λ e. from _ _ (own_is e) (own-reads (ltb-true _ _ e)))
      (λ e. by (ltb g (length names.globals)) (λ f. from _ _ (global-is e f) (global_reads (ltb-true _ _ f))) (λ f. from _ _ (other-is e f) other-reads))

  pub unknown-byte : (is_long n || is_unknown_kind (kind_named names n)) ≡ eqb (slot_byte own global shared n) unknown_code
  unfolding is_unknown_kind
  unknown-byte = tell (slot_byte own global shared n) (kind_named names n) reads
    where
      tell : (b : ℕ) (k : Kind) → Reads kinds n b k → (is_long n || is_unknown_kind k) ≡ eqb b unknown_code
      tell b k (known e f l) = f ∙ sym e
      tell b k (none e f) = ap (λ (j : Kind). is_long n || is_unknown_kind j) f ∙ (or-true (is_long n) ∙ ap (λ (c : ℕ). eqb c unknown_code) (sym e))
