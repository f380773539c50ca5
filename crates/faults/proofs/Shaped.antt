-- A statement's shape stands inside its codes, and is what its line says. Assumes nothing.
use Prim.Native.Nat.{ℕ, ◌+◌, ◌-◌, ◌≤◌, min}
use native.Mathlib.Omega.{arith}
use mathlib.Core.Path.{◌≡◌, ap, sym, ◌∙◌}
use mathlib.Core.Bool.{Bool, true, false, ◌&&◌, ◌||◌, not}
use mathlib.Core.List.{List}
use lib.Dec.{eqb}
use lib.ListN.{take, drop}
use Rattle.text.specs.Bytes.{Bytes}
use Rattle.rules.specs.Choice.{choose}
use Rattle.rules.specs.Limits.{nest_limit}
use Rattle.rules.specs.Lexemes.{is_sequence}
use Rattle.rules.specs.Fields.{Fields, fields_of}
use Rattle.rules.specs.Statement.{Statement, macro, mend, mexit, local, global, set, aif, ago, anop, actr, model, statement_of, says}
use Rattle.std.specs.Prelude.{Option}
use Rattle.kinds.specs.declared.Word.{Word}
use Rattle.kinds.specs.declared.Does.{Does}
use Rattle.kinds.specs.declared.Does.TheVariants.{Passes, Ends, Exits, Text, Counts}
use Rattle.kinds.specs.Kinds.{statement_by, does_for}
use Rattle.rules.specs.Faults.{is_long_sequence, is_used_twice}
use Rattle.rules.proofs.Choices.{either}
use Rattle.rules.proofs.ReadLines.{fields-held}
use Rattle.coding.specs.Coded.{field_code}
use Rattle.names.specs.Names.{slot_byte}
use Rattle.targets.proofs.Coded.{start-coded, sequence-coded, slot-byte-high, slot-byte-ends, slot-byte-other}
use Rattle.symbols.specs.Held.{unknown_in}
use Rattle.shapes.specs.declared.Codes.{Codes}
use Rattle.shapes.specs.declared.Shape.{Shape}
use Rattle.shapes.specs.Shapes.{part, ends_of, is_plain_code, keeps_none, keeps_operand, branching, branching_if, modelling, shape_of, target_text, Spelt}
use Rattle.shapes.proofs.Parts.{first_part, second-part, third-part}
use Rattle.shapes.proofs.Spelt.{spelt}
use Rattle.checking.specs.Body.{first_of, Tables, bad_symbols, good_fields, formed_code, nesting_of, too_many, name_code, operation_code, operand_code, code_of, shape_in, target_code, has_bad_name_in, does_on, is_ill_formed_in, is_past_in}
use Rattle.faults.specs.Coded.{any_of, Coded, Ordered, Inside}

-- ---- a shape stands inside

module _ (e : Codes) (n : ℕ) (o : Ordered e n) where
  none_inside : (does : Does) → Inside (keeps_none does e) n
  none_inside does = record {
    name-in = omega arith;
    operation-in = omega arith;
    gap-in = omega (arith, o.first, o.second, o.third);
    operand_in = omega arith;
    rest-in = omega arith;
    end-in = omega (arith, o.second, o.third);
  }

  operand-inside : (does : Does) (name : ℕ) → name ≤ n → Inside (keeps_operand does name e) n
  operand-inside does name h = record {
    name-in = h;
    operation-in = omega arith;
    gap-in = omega (arith, o.first, o.second, o.third);
    operand_in = o.second;
    rest-in = omega arith;
    end-in = o.third;
  }

  branch-inside : Inside (branching e) n
  branch-inside = record {
    name-in = omega arith;
    operation-in = omega arith;
    gap-in = omega (arith, o.first, o.second, o.third);
    operand_in = omega arith;
    rest-in = o.second;
    end-in = o.third;
  }

  if-inside : (k : ℕ) → Inside (branching_if k e) n
  if-inside k =
      let rest : ℕ = e.operation + min k (e.operand - e.operation) in
      let h : rest ≤ e.operand = omega (arith, o.second) in
      record {
        name-in = omega arith;
        operation-in = omega arith;
        gap-in = omega (arith, o.first, o.second, o.third);
        operand_in = omega arith;
        rest-in = either (λ (m : ℕ). rest ≤ m) (eqb k 0) (λ q. omega arith) (λ q. h);
        end-in = either (λ (m : ℕ). m ≤ n) (eqb k 0) (λ q. omega (arith, h, o.third)) (λ q. o.third);
      }

  model-inside : (label : Bool) → Inside (modelling label e) n
  model-inside label = record {
    name-in = either (λ (m : ℕ). m ≤ n) label (λ q. omega arith) (λ q. omega (arith, o.first, o.second, o.third));
    operation-in = o.first;
    gap-in = omega (arith, o.second, o.third);
    operand_in = o.second;
    rest-in = omega arith;
    end-in = o.third;
  }

  pub shape-inside : (st : Statement) (label : Bool) (s : Bytes) → Inside (shape_of st label e s) n
  unfolding shape_of
  shape-inside macro label s = none_inside Passes
  shape-inside mend label s = none_inside Ends
  shape-inside mexit label s = none_inside Exits
  shape-inside (local k) label s = none_inside Passes
  shape-inside (global k) label s = none_inside Passes
  shape-inside (set k) label s = operand-inside _ e.name (omega (arith, o.first, o.second, o.third))
  shape-inside aif label s = if-inside _
  shape-inside ago label s = branch-inside
  shape-inside anop label s = none_inside Passes
  shape-inside actr label s = operand-inside Counts 0 (omega arith)
  shape-inside model label s = either (λ k. Inside k n) (is_plain_code s && not label) (λ q. none_inside Text) (λ q. model-inside label)

-- ---- what a shape says of its line

-- a line that has this word, name, operand, codes and shape
module _ (t : Tables) (l : Bytes) (word : Option Word) (name operand : Bytes) (codes : Codes) (code : Bytes) (c : Coded t l word name operand codes code)
    (k : Shape) (shaped : k ≡ shape_of (statement_by word) (is_sequence name) codes code) where
  abbrev f : Fields
  f = fields_of l

  abbrev st : Statement
  st = statement_of f.operation

  statement-is : statement_by word ≡ st
  statement-is = c.word-is

  shape_is : k ≡ shape_in t f
  unfolding shape_in
  shape_is = shaped ∙ (λ i. shape_of (statement-is i) (is_sequence (c.name-is i)) (c.codes-are i) (c.code_is i))

  abbrev g : Bytes → ℕ
  g = slot_byte t.own t.global t.shared

  line-spelt : Spelt g (says l f st) (target_text f st) (code_of t f) (shape_in t f)
  unfolding code_of shape_in name_code operation_code operand_code field_code
  line-spelt =
      let h = fields-held l c.in-set in
      spelt g (λ n. slot-byte-high t.own t.global t.shared n) l f h.name-in h.operation-in h.operand_in
      (λ x. start-coded g (slot-byte-ends t.own t.global t.shared) (slot-byte-other t.own t.global t.shared) x)
      (λ x. sequence-coded g (slot-byte-ends t.own t.global t.shared) (slot-byte-other t.own t.global t.shared) x) st

  pub does-is : k.does ≡ does_for (does_on l)
  unfolding does_on
  does-is = ap (λ (s : Shape). s.does) shape_is ∙ line-spelt.does

  target_is : take (k.end - k.rest) (drop k.rest code) ≡ target_code t f
  unfolding target_code part
  target_is = λ i. take ((shape_is i).end - (shape_is i).rest) (drop (shape_is i).rest (c.code_is i))

  codes-cut : (take codes.name code ≡ name_code t f) × ((part code codes.name codes.operation ≡ operation_code t f) × (part code codes.operation codes.operand ≡ operand_code t f))
  unfolding code_of ends_of
  codes-cut = (
    (λ i. take (c.codes-are i).name (c.code_is i)) ∙ first_part (name_code t f) (operation_code t f) (operand_code t f),
    (
      (λ i. part (c.code_is i) (c.codes-are i).name (c.codes-are i).operation) ∙ second-part (name_code t f) (operation_code t f) (operand_code t f),
      (λ i. part (c.code_is i) (c.codes-are i).operation (c.codes-are i).operand) ∙ third-part (name_code t f) (operation_code t f) (operand_code t f),
    ),
  )

  module _ (before from : List Bytes) where
    abbrev pub tested : Bool
    tested = any_of (is_long_sequence name) (unknown_in (take codes.name code)) (is_used_twice before name)
        (bad_symbols t before from operand (part code codes.name codes.operation) (part code codes.operation codes.operand) (part code k.rest k.end) (statement_by word))

    pub bad-is : tested ≡ has_bad_name_in t before from f
    unfolding has_bad_name_in any_of part
    bad-is =
        λ i. is_long_sequence (c.name-is i) || (unknown_in (codes-cut.0 i) || (is_used_twice before (c.name-is i)
        || bad_symbols t before from (c.operand-is i) (codes-cut.1.0 i) (codes-cut.1.1 i) (target_is i) (statement-is i)))

  abbrev pub around : Bool
  around = good_fields name operand (take (k.end - k.rest) (drop k.rest code)) (statement_by word)

  abbrev pub formed : ℕ → Bool
  formed nest = formed_code nest t.kinds code k (does_on l)

  pub ill-is : not (around && formed (nesting_of k)) ≡ is_ill_formed_in t l
  unfolding is_ill_formed_in
  ill-is = λ i. not (good_fields (c.name-is i) (c.operand-is i) (target_is i) (statement-is i) && formed_code (nesting_of (shape_is i)) t.kinds (c.code_is i) (shape_is i) (does_on l))

  pub past_is : (locals : ℕ) → (not (formed nest_limit) || too_many t locals operand (statement_by word)) ≡ is_past_in t locals l
  unfolding is_past_in
  past_is locals = λ i. not (formed_code nest_limit t.kinds (c.code_is i) (shape_is i) (does_on l)) || too_many t locals (c.operand-is i) (statement-is i)

-- ---- the lowest number, by the tests that code makes

module _ (bad ill past a : Bool) (is-bad : a ≡ bad) where
  pub is-three : a ≡ true → 3 ≡ first_of false bad ill past
  unfolding first_of choose
  is-three h = λ i. choose (sym (sym is-bad ∙ h) i) 3 (choose ill 4 (choose past 5 0))

  module _ (fine : a ≡ false) (b d : Bool) (is-ill : not (b && d) ≡ ill) where
    pub is-four : b ≡ false → 4 ≡ first_of false bad ill past
    unfolding first_of choose
    is-four h = λ i. choose (sym (sym is-bad ∙ fine) i) 3 (choose (sym (sym is-ill ∙ ap (λ (x : Bool). not (x && d)) h) i) 4 (choose past 5 0))

    pub also-four : b ≡ true → d ≡ false → 4 ≡ first_of false bad ill past
    unfolding first_of choose
    also-four h g = λ i. choose (sym (sym is-bad ∙ fine) i) 3 (choose (sym (sym is-ill ∙ (λ j. not (h j && g j))) i) 4 (choose past 5 0))

    module _ (good : b ≡ true) (well : d ≡ true) (e m : Bool) (is-past : (not e || m) ≡ past) where
      pub is-five : e ≡ false → 5 ≡ first_of false bad ill past
      unfolding first_of choose
      is-five h = λ i. choose (sym (sym is-bad ∙ fine) i) 3 (choose (sym (sym is-ill ∙ (λ j. not (good j && well j))) i) 4 (choose (sym (sym is-past ∙ ap (λ (x : Bool). not x || m) h) i) 5 0))

      pub also-five : e ≡ true → m ≡ true → 5 ≡ first_of false bad ill past
      unfolding first_of choose
      also-five h g = λ i. choose (sym (sym is-bad ∙ fine) i) 3 (choose (sym (sym is-ill ∙ (λ j. not (good j && well j))) i) 4 (choose (sym (sym is-past ∙ (λ j. not (h j) || g j)) i) 5 0))

      pub is_none : e ≡ true → m ≡ false → 0 ≡ first_of false bad ill past
      unfolding first_of choose
      is_none h g = λ i. choose (sym (sym is-bad ∙ fine) i) 3 (choose (sym (sym is-ill ∙ (λ j. not (good j && well j))) i) 4 (choose (sym (sym is-past ∙ (λ j. not (h j) || g j)) i) 5 0))
