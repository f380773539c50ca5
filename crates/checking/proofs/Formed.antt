-- Numbers 4 and 5 of a statement in a body: over codes and tables that hold the macro's names they are the tests of `rules`. Assumes nothing.
use Prim.Native.Nat.{ℕ, ◌-◌, ◌≤◌, min}
use native.Mathlib.Omega.{arith}
use mathlib.Core.Path.{◌≡◌, refl, ap, sym, ◌∙◌}
use mathlib.Core.Bool.{Bool, ◌&&◌}
use mathlib.Core.List.{List, map}
use lib.ListN.{length, take, drop, length-map, length-take, length-drop}
use Rattle.text.specs.Bytes.{Bytes}
use Rattle.rules.specs.Lexemes.{Lex, unlexed, is_sequence}
use Rattle.rules.specs.Fields.{Fields}
use Rattle.rules.specs.Statement.{Set, Statement, macro, mend, mexit, local, global, set, aif, ago, anop, actr, model, Line, Does, passes, ends, exits, text, models, sets, branches_if, branches, counts, map_lex, map_does, map_line}
use Rattle.rules.specs.Form.{is_formed_by, is_formed, any_nesting}
use Rattle.rules.specs.Library.{Names, operand_parts}
use Rattle.rules.specs.Faults.{kind_named, are_fields_good, is_declaration, is_named_or_empty}
use Rattle.rules.proofs.ReadLines.{InSet, Reads}
use Rattle.rules.proofs.BodyLines.{KnownIn, AllKnown}
use Rattle.names.specs.Names.{slot_byte}
use Rattle.coding.specs.Coded.{code_by}
use Rattle.grammar.specs.Tokens.{lex_of, toks_at}
use Rattle.symbols.specs.Held.{Held}
use Rattle.symbols.proofs.Fields.{unknown-lexemes, kinded-lexemes}
use Rattle.shapes.specs.declared.Shape.{Shape}
use Rattle.shapes.specs.Shapes.{part, target_text, Spelt}
use Rattle.checking.specs.Body.{Tables, good_fields, kept_line, nesting_of, formed_code}

-- ---- the fields around what the grammar reads

pub good-fields : (f : Fields) (target : Bytes) (st : Statement) → is_sequence target ≡ is_sequence (target_text f st) → good_fields f.name f.operand target st ≡ are_fields_good f st
unfolding good_fields are_fields_good target_text is_declaration operand_parts
good-fields f target macro e = refl
good-fields f target mend e = refl
good-fields f target mexit e = refl
good-fields f target (local k) e = refl
good-fields f target (global k) e = refl
good-fields f target (set k) e = refl
good-fields f target aif e = ap (λ (r : Bool). is_named_or_empty f.name && r) e
good-fields f target ago e = ap (λ (r : Bool). is_named_or_empty f.name && r) e
good-fields f target anop e = refl
good-fields f target actr e = refl
good-fields f target model e = refl

-- ---- what the grammar reads

does-kept : (d : Does Bytes) → map_does (λ t. t) d ≡ d
unfolding map_does
does-kept passes = refl
does-kept ends = refl
does-kept exits = refl
does-kept (text s) = refl
does-kept models = refl
does-kept (sets k) = refl
does-kept (branches_if t) = refl
does-kept (branches t) = refl
does-kept counts = refl

module _ {names : Names} {globals : List (Bytes × Set)} (t : Tables) (h : Held names globals t.own t.global t.shared t.kinds)
    (l : Bytes) (x : Line Bytes Bytes) (r : Reads l x) (known : AllKnown names x) (target s : Bytes) (k : Shape)
    (spelt : Spelt (slot_byte t.own t.global t.shared) x target s k) where
  abbrev g : Bytes → ℕ
  g = slot_byte t.own t.global t.shared

  field-kinded : (c : Bytes) (y : List (Lex Bytes)) → InSet (unlexed y) → KnownIn names y → c ≡ map (code_by g) y → toks_at t.kinds c 0 ≡ map (map_lex (kind_named names)) y
  unfolding toks_at
  field-kinded c y i u e =
      ap (λ (b : Bytes). map (lex_of t.kinds) b) e
      ∙ kinded-lexemes names globals t.own t.global t.shared t.kinds h y i (sym (unknown-lexemes names globals t.own t.global t.shared t.kinds h y i) ∙ u)

  line-kinded : kept_line t.kinds s k x.does ≡ map_line (kind_named names) (λ t. t) x
  unfolding kept_line map_line
  line-kinded = λ i. record {
    does = sym (does-kept x.does) i;
    name = field-kinded (take k.name s) x.name r.name-in known.0 spelt.name i;
    operation = field-kinded (part s k.operation k.gap) x.operation r.operation-in known.1.0 spelt.operation i;
    operand = field-kinded (part s k.operand k.rest) x.operand r.operand_in known.1.1 spelt.operand i;
  }

  pub formed-coded : (nest : ℕ) → formed_code nest t.kinds s k x.does ≡ is_formed nest (map_line (kind_named names) (λ t. t) x)
  unfolding formed_code is_formed map_line
  formed-coded nest = (λ i. is_formed_by nest (line-kinded i) (sym (does-kept x.does) i))

  part_length : (from to : ℕ) → from ≤ to → to ≤ length s → length (part s from to) ≡ to - from
  unfolding part
  part_length from to a b = length-take (to - from) (drop from s) ∙ (let e : min (to - from) (length (drop from s)) ≡ to - from = omega (arith, length-drop from s) in e)

  kept-length : (c : Bytes) (y : List (Lex Bytes)) → c ≡ map (code_by g) y → length c ≡ length (map (map_lex (kind_named names)) y)
  kept-length c y e = ap length e ∙ (length-map y (code_by g) ∙ sym (length-map y (map_lex (kind_named names))))

  pub nesting-coded : nesting_of k ≡ any_nesting (map_line (kind_named names) (λ t. t) x)
  unfolding nesting_of any_nesting map_line
  nesting-coded =
      let a : length (take k.name s) ≡ k.name = length-take k.name s ∙ (let e : min k.name (length s) ≡ k.name = omega (arith, spelt.name-in) in e) in
      omega (
        arith,
        a,
        kept-length (take k.name s) x.name spelt.name,
        part_length k.operation k.gap spelt.operation-in.0 spelt.operation-in.1,
        kept-length (part s k.operation k.gap) x.operation spelt.operation,
        part_length k.operand k.rest spelt.operand_in.0 (omega (arith, spelt.operand_in.1.0, spelt.operand_in.1.1)),
        kept-length (part s k.operand k.rest) x.operand spelt.operand,
      )
