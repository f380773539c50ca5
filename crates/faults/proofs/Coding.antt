-- A statement's codes as its fields' codes were written: in order, and its line's. Assumes nothing.
use Prim.Native.Nat.{ℕ, ◌+◌, ◌-◌, ◌≤◌}
use native.Mathlib.Omega.{arith}
use mathlib.Core.Path.{◌≡◌, ap, sym, ◌∙◌}
use mathlib.Core.Bool.{Bool, true, false}
use mathlib.Core.List.{List, ◌++◌}
use lib.Dec.{eqb}
use lib.ListN.{length, take, drop, length-append}
use lib.Seq.{take_at}
use Rattle.text.specs.Bytes.{Bytes}
use Rattle.rules.specs.Choice.{choose}
use Rattle.rules.specs.Fields.{Fields, fields_of, is_empty, statement_fields}
use Rattle.rules.specs.Statement.{statement_of}
use Rattle.std.specs.Prelude.{Option}
use Rattle.kinds.specs.declared.Word.{Word}
use Rattle.kinds.specs.Kinds.{statement_by}
use Rattle.rules.specs.Library.{operation_of}
use Rattle.rules.proofs.Choices.{passed_over}
use Rattle.rules.proofs.ReadLines.{fields-held}
use Rattle.lent.specs.Splice.{splice}
use Rattle.lent.proofs.Writes.{splice-whole, splice-length}
use Rattle.coding.specs.Coded.{field_code}
use Rattle.symbols.proofs.Fields.{coded-length}
use Rattle.shapes.specs.declared.Codes.{Codes}
use Rattle.shapes.specs.Shapes.{ends_of}
use Rattle.checking.proofs.Around.{empty-is}
use Rattle.checking.specs.Body.{first_of, misplaced, has_bad_name_in, is_ill_formed_in, is_past_in, statement_fault, Tables, name_code, operation_code, operand_code, code_of}
use Rattle.faults.specs.Coded.{Statement, Coded, Ordered}
use Rattle.faults.proofs.Tests.{front_cut}

module _ (a b c : Bytes) (codes : Codes) (e : codes ≡ ends_of a b c) where
  ends-are : (codes.name ≡ length a) × ((codes.operation ≡ length a + length b) × (codes.operand ≡ length a + length b + length c))
  unfolding ends_of
  ends-are = (ap (λ (k : Codes). k.name) e, (ap (λ (k : Codes). k.operation) e, ap (λ (k : Codes). k.operand) e))

  pub end_is : codes.operand ≡ length (a ++ (b ++ c))
  end_is = omega (arith, ends-are.1.1, length-append a (b ++ c), length-append b c)

  module _ (out new : Bytes) (wrote : new ≡ splice out 0 (a ++ (b ++ c))) (room : length (a ++ (b ++ c)) ≤ length out) where
    pub cut_out : take (codes.operand - 0) (drop 0 new) ≡ a ++ (b ++ c)
    cut_out = front_cut codes.operand new ∙ (ap (take codes.operand) (wrote ∙ splice-whole out (a ++ (b ++ c)) room) ∙ take_at (a ++ (b ++ c)) (drop (length (a ++ (b ++ c))) out) codes.operand (sym end_is))

    pub in_order : Ordered codes (length (take (codes.operand - 0) (drop 0 new)))
    in_order =
        let h = ends-are in
        record {
          first = omega (arith, h.0, h.1.0);
          second = omega (arith, h.1.0, h.1.1);
          third = omega (arith, end_is, ap length cut_out);
        }

-- the fields of a statement are no longer than it, and their codes no longer than they
module _ (l : Bytes) (s : Statement l) where
  operation-there : operation_of l ≡ (fields_of l).operation
  unfolding operation_of statement_fields
  operation-there = ap (λ (f : Fields). f.operation) (passed_over _ _ s.no-remark)

  pub fields_fit : length (fields_of l).name + (length (fields_of l).operation + length (fields_of l).operand) ≤ 71
  fields_fit = omega (arith, (fields-held l s.in-set).total, s.short)

  module _ (t : Tables) where
    pub code_fits : length (code_of t (fields_of l)) ≤ 71
    unfolding code_of name_code operation_code operand_code
    code_fits =
        let f = fields_of l in
        omega (
          arith,
          fields_fit,
          length-append (name_code t f) (operation_code t f ++ operand_code t f),
          length-append (operation_code t f) (operand_code t f),
          coded-length false t.own t.global t.shared f.name,
          coded-length false t.own t.global t.shared f.operation,
          coded-length true t.own t.global t.shared f.operand,
        )

  -- the codes that were written are the line's
  module _ (t : Tables) (name operation operand out new : Bytes) (word : Option Word) (codes : Codes)
      (n : name ≡ (fields_of l).name) (o : operation ≡ operation_of l) (a : operand ≡ (fields_of l).operand) (w : statement_by word ≡ statement_of operation)
      (c : codes ≡ ends_of (field_code false t.own t.global t.shared name) (field_code false t.own t.global t.shared operation) (field_code true t.own t.global t.shared operand))
      (wrote : new ≡ splice out 0 (field_code false t.own t.global t.shared name ++ (field_code false t.own t.global t.shared operation ++ field_code true t.own t.global t.shared operand)))
      (room : 71 ≤ length out) where
    p : operation ≡ (fields_of l).operation
    p = o ∙ operation-there

    all-is : (field_code false t.own t.global t.shared name ++ (field_code false t.own t.global t.shared operation ++ field_code true t.own t.global t.shared operand)) ≡ code_of t (fields_of l)
    unfolding code_of name_code operation_code operand_code
    all-is =
        λ i. field_code false t.own t.global t.shared (n i) ++ (field_code false t.own t.global t.shared (p i) ++ field_code true t.own t.global t.shared (a i))

    fits : length (field_code false t.own t.global t.shared name ++ (field_code false t.own t.global t.shared operation ++ field_code true t.own t.global t.shared operand)) ≤ length out
    fits = omega (arith, ap length all-is, code_fits t, room)

    abbrev cut : Bytes
    cut = take (codes.operand - 0) (drop 0 new)

    cut-is : cut ≡ code_of t (fields_of l)
    cut-is = cut_out _ _ _ codes c out new wrote fits ∙ all-is

    pub coded-here : Coded t l word name operand codes cut
    unfolding name_code operation_code operand_code
    coded-here = record {
      in-set = s.in-set;
      word-is = w ∙ ap statement_of p;
      name-is = n;
      operand-is = a;
      codes-are = c ∙ (λ i. ends_of (field_code false t.own t.global t.shared (n i)) (field_code false t.own t.global t.shared (p i)) (field_code true t.own t.global t.shared (a i)));
      code_is = cut-is;
    }

    pub ordered-here : Ordered codes (length cut)
    ordered-here = in_order _ _ _ codes c out new wrote fits

    pub short-here : (length operand ≤ 71) × (length cut ≤ 71)
    short-here = (omega (arith, ap length a, fields_fit), omega (arith, ap length cut-is, code_fits t))

    pub end-here : codes.operand ≤ length new
    end-here = omega (arith, end_is _ _ _ codes c, ap length wrote ∙ splice-length _ _ _, fits)

  pub fields-there : (name operation operand : Bytes) (k : ℕ) → name ≡ (fields_of l).name → operation ≡ operation_of l → operand ≡ (fields_of l).operand → 71 ≤ k → length name + (length operation + length operand) ≤ k
  fields-there name operation operand k n o a h = omega (arith, ap length n, ap length (o ∙ operation-there), ap length a, fields_fit, h)

  -- the word and the emptiness of the operation, as code has them
  misplaced-here : (operation : Bytes) (word : Option Word) (ended : Bool) → operation ≡ operation_of l → statement_by word ≡ statement_of operation
      → misplaced (statement_by word) (eqb (length operation) 0) ended ≡ misplaced (statement_of (fields_of l).operation) (is_empty (fields_of l).operation) ended
  misplaced-here operation word ended o w =
      let p = o ∙ operation-there in
      λ i. misplaced ((w ∙ ap statement_of p) i) ((empty-is operation ∙ ap is_empty p) i) ended

  module _ (t : Tables) (before from : List Bytes) (ended : Bool) (locals : ℕ) (operation : Bytes) (word : Option Word) (r : Bool)
      (o : operation ≡ operation_of l) (w : statement_by word ≡ statement_of operation) (m : r ≡ misplaced (statement_by word) (eqb (length operation) 0) ended) where
    pub is-two : r ≡ true → 2 ≡ statement_fault t before from ended locals l
    unfolding statement_fault first_of choose
    is-two h = λ i. choose (sym (sym (m ∙ misplaced-here operation word ended o w) ∙ h) i) 2
        (choose (has_bad_name_in t before from (fields_of l)) 3 (choose (is_ill_formed_in t l) 4 (choose (is_past_in t locals l) 5 0)))

    pub is_later : r ≡ false → first_of false (has_bad_name_in t before from (fields_of l)) (is_ill_formed_in t l) (is_past_in t locals l) ≡ statement_fault t before from ended locals l
    unfolding statement_fault
    is_later h = ap (λ (b : Bool). first_of b (has_bad_name_in t before from (fields_of l)) (is_ill_formed_in t l) (is_past_in t locals l)) (sym (sym (m ∙ misplaced-here operation word ended o w) ∙ h))
