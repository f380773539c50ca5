-- The number of a line's fault, by the tests that the code makes where the walk stands. Assumes nothing.
use Prim.Native.Nat.{ℕ, ◌+◌, ◌-◌, ◌*◌, ◌≤◌, ◌<◌}
use native.Mathlib.Nat.{sub-zero}
use native.Mathlib.Omega.{arith}
use mathlib.Core.Path.{◌≡◌, ap, sym, ◌∙◌, subst}
use mathlib.Core.Bool.{true}
use mathlib.Core.List.{List, ◌∷◌, map}
use lib.ListN.{length, take, drop, length-drop}
use lib.Seq.{take_all}
use Rattle.text.specs.Bytes.{Bytes}
use Rattle.rules.specs.Choice.{every, any}
use Rattle.rules.specs.Limits.{library_limit, over_limit}
use Rattle.rules.specs.Fields.{lines_of, is_ill_written, fields_of}
use Rattle.rules.specs.Library.{Place, outer, at_prototype, in_body, names_in as names_of}
use Rattle.rules.specs.Faults.{Around, ends_declarations, is_out_of_place, has_bad_prototype_name, has_bad_name, is_ill_formed, is_past}
use Rattle.lines.specs.Ends.{in_line, line_end}
use Rattle.statements.proofs.Symbols.{run-within}
use Rattle.labels.proofs.Turns.{turn}
use Rattle.names.specs.Names.{titles_in, padded}
use Rattle.tables.specs.Titles.{fits_row}
use Rattle.symbols.specs.Held.{Held}
use Rattle.prototypes.specs.Lowest.{lowest}
use Rattle.walking.specs.declared.Body.{Body as Kept}
use Rattle.walking.specs.declared.Place.TheVariants.{Outer, Inner, Prototype as Before}
use Rattle.walking.specs.declared.Walk.{Walk as Stand}
use Rattle.walking.specs.Verdicts.{fault_number, own_number}
use Rattle.walking.specs.Walks.{part, Inside, Placed, Follows, AtLine}
use Rattle.walking.proofs.Answers.{over-limit, other-fault, within-limit}
use Rattle.walking.proofs.Turns as turns
use Rattle.walking.proofs.Passing.{is-outer, is-prototype, is-inside}

-- ---- the tests, by the place

module _ (a : Around) (l : Bytes) (ls : List Bytes) where
  abbrev tests : Place → ℕ
  tests pl = lowest (is_ill_written l) (is_out_of_place pl l) (has_bad_name a l ls pl) (is_ill_formed l pl) (is_past a l pl)

  number_at : (r : ℕ) (pl : Place) → a.place ≡ pl → r ≡ lowest (is_ill_written l) (is_out_of_place pl l) (has_bad_name a l ls pl) (is_ill_formed l pl) (is_past a l pl) → r ≡ own_number a l ls
  unfolding own_number
  number_at r pl e h = h ∙ ap tests (sym e)

module _ (library : Bytes) (w : Stand) (end : ℕ) (titles own global shared kinds : Bytes) (a : Around) (f : Follows library w titles own global shared kinds a) where
  abbrev l : Bytes
  l = take (end - w.at) (drop w.at library)

  abbrev ls : List Bytes
  ls = lines_of (drop (end + 1) library)

  pub outer_told : (r : ℕ) → w.place ≡ Outer
      → ((b : Around) → b.macros ≡ w.macros → (ms : List Bytes) → r ≡ lowest (is_ill_written l) (is_out_of_place outer l) (has_bad_name b l ms outer) (is_ill_formed l outer) (is_past b l outer))
      → r ≡ own_number a (take (end - w.at) (drop w.at library)) (lines_of (drop (end + 1) library))
  outer_told r z h = number_at a l ls r outer (is-outer library w own global shared kinds a.globals a.place f.placed z) (h a f.macros-are ls)

  pub prototype-told : (r : ℕ) → w.place ≡ Before
      → ((ts : List Bytes) (b : Around) → titles_in (take (w.titles * 8 - 0) titles) ≡ map padded ts → every fits_row ts ≡ true
      → r ≡ lowest (is_ill_written l) (is_out_of_place at_prototype l) (has_bad_prototype_name ts (fields_of l)) (is_ill_formed l at_prototype) (is_past b l at_prototype))
      → r ≡ own_number a (take (end - w.at) (drop w.at library)) (lines_of (drop (end + 1) library))
  unfolding has_bad_name
  prototype-told r z h =
      number_at a l ls r at_prototype (is-prototype library w own global shared kinds a.globals a.place f.placed z)
      (h a.titles a (ap (λ (n : ℕ). titles_in (take n titles)) (sub-zero (w.titles * 8)) ∙ f.titled.listed) f.titled.fitting)

  module _ (k : Kept) (y : w.place ≡ Inner k) where
    abbrev before : Bytes
    before = part library k.start w.at

    -- the prototype of the body in which the walk is
    record Body : Type 0 where
      p : Bytes
      is : a.place ≡ in_body p (lines_of (part library k.start w.at))
      stands : Inside library w k own global shared kinds a.globals p (lines_of (part library k.start w.at))

    here : Body
    here = is-inside library w own global shared kinds a.globals k a.place f.placed y
        (λ p b e h. record {
          p = p;
          is = e ∙ ap (in_body p) (sym h.before-are);
          stands = subst (Inside library w k own global shared kinds a.globals p) (sym h.before-are) h;
        })

    pub body-bounds : (k.start ≤ w.at) × ((k.parameters ≤ w.rows.own) × (w.rows.own ≤ 32))
    body-bounds =
        let b = here in
        let s = b.stands in
        let o = turns.own-are library w own global shared kinds a.globals b.p (lines_of before) s in
        (s.starts, (omega (arith, o), omega (arith, o, s.few-parameters, s.few-locals)))

    pub few-global : w.rows.global ≤ 16
    few-global =
        let b = here in
        omega (arith, turns.few-global library w own global shared kinds a.globals b.p (lines_of before) b.stands (omega (arith, f.globals-in.counted, f.few-globals)))

    pub body-told : (r : ℕ) → w.at < length library → end ≡ line_end library w.at
        → ((b : Around) (p : Bytes) (ms : List Bytes)
        → Held (names_of p (lines_of before)) b.globals (take (w.rows.own * 8 - 0) own) (take (w.rows.global * 8 - 0) global) (take (w.rows.shared * 8 - 0) shared) kinds
        → lines_of (take (length library - w.at) (drop w.at library)) ≡ l ∷ ms → k.ended ≡ any ends_declarations (lines_of before) → w.rows.own - k.parameters ≡ length (names_of p (lines_of before)).locals
        → r ≡ lowest (is_ill_written l) (is_out_of_place (in_body p (lines_of before)) l) (has_bad_name b l ms (in_body p (lines_of before))) (is_ill_formed l (in_body p (lines_of before))) (is_past b l (in_body p (lines_of before))))
        → r ≡ own_number a (take (end - w.at) (drop w.at library)) (lines_of (drop (end + 1) library))
    body-told r inf e h =
        let b = here in
        let s = b.stands in
        let o = turns.own-are library w own global shared kinds a.globals b.p (lines_of before) s in
        let n = length-drop w.at library in
        let cut : (n : ℕ) (t : Bytes) → take n t ≡ take (n - 0) t = λ n t. ap (λ (m : ℕ). take m t) (sym (sub-zero n)) in
        let names = names_of b.p (lines_of before) in
        let held = subst (λ (t : Bytes). Held names a.globals (take (w.rows.own * 8 - 0) own) (take (w.rows.global * 8 - 0) global) t kinds) (cut (w.rows.shared * 8) shared)
        (subst (λ (t : Bytes). Held names a.globals (take (w.rows.own * 8 - 0) own) t (take (w.rows.shared * 8) shared) kinds) (cut (w.rows.global * 8) global)
        (subst (λ (t : Bytes). Held names a.globals t (take (w.rows.global * 8) global) (take (w.rows.shared * 8) shared) kinds) (cut (w.rows.own * 8) own) s.held)) in
        number_at a l ls r (in_body b.p (lines_of before)) b.is
        (h a b.p ls held (ap lines_of (take_all (length library - w.at) (drop w.at library) (omega (arith, n))) ∙ turn library w.at end inf e) s.has_ended (omega (arith, o)))

-- ---- what is required

module _ (library : Bytes) (w : Stand) (end : ℕ) (titles own global shared kinds : Bytes) (x : AtLine library w end titles own global shared kinds) where
  abbrev f : Follows library w titles own global shared kinds x.walked.around
  f = x.walked.follows

  pub line-there : (w.at ≤ end) × (end ≤ length library)
  unfolding line_end
  line-there =
      let h = run-within in_line (drop w.at library) in
      let n = length-drop w.at library in
      (omega (arith, x.end_is), omega (arith, x.end_is, h, n, x.in-file))

  pub title-rows : w.titles ≤ 32
  title-rows = go x.walked.around.place f.placed
    where
      go : (pl : Place) → Placed library w own global shared kinds x.walked.around.globals pl → w.titles ≤ 32
      go outer h = omega (arith, h.1, f.few-macros)
      go at_prototype h = omega (arith, h.1, f.few-macros)
      go (in_body p b) h = omega (arith, h.1.few-titles, f.few-macros)

  pub body-rows : (k : Kept) → w.place ≡ Inner k → (k.start ≤ w.at) × ((k.parameters ≤ w.rows.own) × ((w.rows.own ≤ 32) × ((w.rows.global ≤ 16) × (w.rows.shared ≤ 16))))
  body-rows k y =
      let b = body-bounds library w end titles own global shared kinds x.walked.around f k y in
      let g = few-global library w end titles own global shared kinds x.walked.around f k y in
      (b.0, (b.1.0, (b.1.1, (g, f.few-globals))))

-- ---- the limit of lines

module _ (library : Bytes) (w : Stand) (titles own global shared kinds : Bytes) (a : Around) (f : Follows library w titles own global shared kinds a) (l : Bytes) (ls : List Bytes) (r : ℕ) (e : r ≡ own_number a l ls) where
  pub limit-other : (r ≡ 0 → ⊥) → r ≡ fault_number a l ls
  limit-other h = e ∙ sym (other-fault a l ls (λ z. h (e ∙ z)))

  pub limit-passed : r ≡ 0 → library_limit ≤ w.lines → over_limit ≡ fault_number a l ls
  limit-passed z h = sym (over-limit a l ls (sym e ∙ z) (omega (arith, h, f.lines_are)))

  pub limit-kept : r ≡ 0 → w.lines < library_limit → 0 ≡ fault_number a l ls
  limit-kept z h = sym z ∙ (e ∙ sym (within-limit a l ls (omega (arith, h, f.lines_are))))
