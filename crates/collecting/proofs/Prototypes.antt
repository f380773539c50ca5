-- A prototype's parameters by its places: they fit into the tables, and these hold the names with which its macro starts. Assumes nothing.
use Prim.Native.Nat.{ℕ, ◌+◌, ◌*◌, ◌-◌, ◌≤◌}
use native.Mathlib.Nat.{sub-zero}
use native.Mathlib.Omega.{arith}
use mathlib.Core.Path.{◌≡◌, refl, ap, sym, ◌∙◌}
use mathlib.Core.Bool.{false}
use mathlib.Core.List.{List, [], ◌∷◌, ◌++◌, map, append-nil}
use lib.ListN.{length, take, drop, replicate, length-append, length-replicate, length-take}
use Rattle.text.specs.Bytes.{Bytes}
use Rattle.rules.specs.Choice.{any}
use Rattle.rules.specs.Lexemes.{Lex, byte, mark, ref, lone, lexed, is_long}
use Rattle.rules.specs.Fields.{Fields, fields_of}
use Rattle.rules.specs.Statement.{Set}
use Rattle.rules.specs.Library.{start_symbol, start_symbols, operand_parts, declared_in, names_in as names_of, firsts, parameter_names}
use Rattle.rules.specs.ByLines.{own_names}
use Rattle.lent.specs.Splice.{splice}
use Rattle.lent.proofs.Writes.{splice-drop-behind, splice-read}
use Rattle.names.specs.Names.{names_in}
use Rattle.fields.specs.declared.Cuts.{Cuts as Marks}
use Rattle.fields.specs.Cuts.{cuts_of, fields_by}
use Rattle.fields.proofs.Cut.{fields-cut}
use Rattle.declaring.specs.Declared.{symbols_in}
use Rattle.filling.specs.Added.{number}
use Rattle.filling.proofs.Lines.{start-held}
use Rattle.filling.proofs.Prototypes.{parameters-listed, start-short, not-long}
use Rattle.collecting.specs.Collected.{Declared, Prototype, Starts}
use Rattle.collecting.proofs.Places.{ordered}

-- a part starts with one symbol at most
one_each : (p : List (Lex Bytes)) → length (start_symbol p) ≤ 1
unfolding start_symbol
one_each [] = omega arith
one_each (byte c ∷ x) = omega arith
one_each (mark ∷ x) = omega arith
one_each (ref n ∷ x) = omega arith
one_each (lone ∷ x) = omega arith

starts-few : (ps : List (List (Lex Bytes))) → length (start_symbols ps) ≤ length ps
unfolding start_symbols
starts-few [] = omega arith
starts-few (p ∷ ps) = omega (arith, length-append (start_symbol p) (start_symbols ps), one_each p, starts-few ps)

-- a macro has no names but its parameters where it starts
starts-own : (l : Bytes) → own_names (names_of l []) ≡ parameter_names (names_of l [])
unfolding own_names names_of declared_in firsts
starts-own l = append-nil (parameter_names (names_of l []))

module _ (l own kinds : Bytes) (h : Prototype l own kinds) (c : Marks) (e : c ≡ cuts_of l) where
  abbrev name : Bytes
  name = take (c.gap - 0) (drop 0 l)

  abbrev operand : Bytes
  operand = take (c.remarks - c.operand) (drop c.operand l)

  fields-are : fields_of l ≡ fields_by l c
  fields-are = fields-cut l ∙ ap (fields_by l) (sym e)

  name-is : (fields_of l).name ≡ name
  unfolding fields_by
  name-is = ap (λ (f : Fields). f.name) fields-are ∙ ap (λ (n : ℕ). take n l) (sym (sub-zero c.gap))

  symbols-are : start_symbols (operand_parts (fields_of l)) ≡ symbols_in operand
  unfolding fields_by operand_parts symbols_in
  symbols-are = ap (λ (f : Fields). start_symbols (operand_parts f)) fields-are

  first-are : start_symbol (lexed false (fields_of l).name) ≡ start_symbol (lexed false name)
  first-are = ap (λ (s : Bytes). start_symbol (lexed false s)) name-is

  pub parameters-fit : ((1 + length (take (c.remarks - c.operand) (drop c.operand l))) * 8 ≤ length own)
      × ((any is_long (start_symbol (lexed false (take (c.gap - 0) (drop 0 l)))) ≡ false) × (any is_long (symbols_in (take (c.remarks - c.operand) (drop c.operand l))) ≡ false))
  parameters-fit =
      let o = ordered l c e in (
        omega (arith, length-take (c.remarks - c.operand) (drop c.operand l), o.remarks-inside, h.line-length, h.own-size),
        (
          ap (any is_long) (sym first-are) ∙ start-short (lexed false (fields_of l).name) h.short-name,
          ap (any is_long) (sym symbols-are) ∙ not-long (fields_of l) h.short-parts h.good-parts,
        ),
      )

  parameters : start_symbol (lexed false name) ++ symbols_in operand ≡ parameter_names (names_of l [])
  parameters = (λ i. sym first-are i ++ sym symbols-are i) ∙ sym (parameters-listed l h.good-parts)

  module _ (r : ℕ) (f : r ≡ length (start_symbol (lexed false (take (c.gap - 0) (drop 0 l))) ++ symbols_in (take (c.remarks - c.operand) (drop c.operand l)))) where
    pub counted : r ≡ length (own_names (names_of l []))
    counted = f ∙ ap length (parameters ∙ sym (starts-own l))

    pub few-rows : r ≤ 16
    few-rows = omega (
      arith,
      f,
      length-append (start_symbol (lexed false name)) (symbols_in operand),
      ap length first-are,
      ap length symbols-are,
      starts-few (operand_parts (fields_of l)),
      h.few,
    )

    module _ (kinds₁ : Bytes) (g : kinds₁ ≡ splice kinds 0 (replicate r 0)) where
      pub kinds-stay : drop 64 kinds₁ ≡ drop 64 kinds
      kinds-stay = ap (drop 64) g ∙ splice-drop-behind kinds 0 (replicate r 0) 64 (omega (arith, length-replicate {A = ℕ} r 0, few-rows))

      pub starts : (own₁ : Bytes) → names_in (take (r * 8) own₁) ≡ start_symbol (lexed false (take (c.gap - 0) (drop 0 l))) ++ symbols_in (take (c.remarks - c.operand) (drop c.operand l))
          → Starts l kinds r own₁ kinds₁
      starts own₁ n globals shared a b few =
          let m : length (parameter_names (names_of l [])) ≡ r = ap length (sym parameters) ∙ sym f in
          let k = length-replicate {A = ℕ} r 0 in
          start-held l globals (take (r * 8) own₁) shared kinds₁ (n ∙ parameters)
          ((λ i. take ((m ∙ sym k) i) (g i)) ∙ (splice-read kinds 0 (replicate r 0) (omega (arith, k, few-rows, h.kinds-size)) ∙ ap (λ (j : ℕ). replicate j 0) (sym m)))
          a (ap (take (length globals)) kinds-stay ∙ b) (omega (arith, m, few-rows)) few

-- the tables with which a macro's body is begun: its parameters, no globals of its own, and those of the library so far
pub starts-declared : (l kinds₀ own₁ kinds₁ : Bytes) (r : ℕ) → Starts l kinds₀ r own₁ kinds₁ → r ≡ length (own_names (names_of l []))
    → (globals : List (Bytes × Set)) (k : ℕ) (global₁ shared₁ : Bytes) → names_in (take (k * 8) shared₁) ≡ firsts globals
    → take (length globals) (drop 64 kinds₀) ≡ map number globals → length globals ≤ 32 → length globals ≡ k
    → Declared (names_of l []) globals (record { own = r; global = 0; shared = k }) own₁ global₁ shared₁ kinds₁
unfolding names_of declared_in
starts-declared l kinds₀ own₁ kinds₁ r s e globals k global₁ shared₁ a b few c =
    record { held = s globals (take (k * 8) shared₁) a b few; own = sym e; global = refl; shared = c }
