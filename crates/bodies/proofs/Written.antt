-- What the code of a body line needs: remarks and targets by their bytes, the codes of a line's fields, and the shape over them. Assumes nothing.
use Prim.Native.Nat.{ℕ, suc, ◌+◌, ◌-◌, ◌≤◌, ◌<◌}
use native.Mathlib.Nat.{sub-zero}
use native.Mathlib.Omega.{arith}
use mathlib.Core.Path.{◌≡◌, refl, ap, sym, ◌∙◌, subst}
use mathlib.Core.Bool.{Bool, true, false, ◌&&◌, and-true}
use mathlib.Core.List.{List, [], ◌∷◌, ◌++◌}
use lib.Dec.{eqb}
use lib.ListN.{length, take, drop, get_or, length-append, length-drop}
use lib.Seq.{take-append_seam}
use borrow.Author.Tests.{eq-eqb, ne_eqb, eqb-true, eqb-false}
use Rattle.text.specs.Bytes.{Bytes}
use Rattle.rules.specs.Choice.{passed}
use Rattle.rules.specs.Lexemes.{Before, marked, after, is_sequence, enters, outside, field_start}
use Rattle.rules.specs.Fields.{Fields, fields_of, lines_of, is_copied_remark, is_dropped_remark, starts_with, operand_end, ends_operand, holds_spaces}
use Rattle.rules.specs.Statement.{statement_of, says}
use Rattle.std.specs.Prelude.{Option}
use Rattle.kinds.specs.declared.Word.{Word}
use Rattle.kinds.specs.declared.Does.{Does}
use Rattle.kinds.specs.declared.Does.TheVariants.{Passes, Ends, Exits, Text, Models, BranchesIf, Branches, Counts, Sets}
use Rattle.kinds.specs.Kinds.{statement_by}
use Rattle.rules.specs.Library.{is_named, line_named}
use Rattle.rules.proofs.Choices.{chosen, passed_over, by, either}
use Rattle.rules.proofs.ReadLines.{InSet, fields-held}
use Rattle.lent.specs.Splice.{splice}
use Rattle.lent.proofs.Writes.{splice-whole, splice-length}
use Rattle.fields.specs.declared.Cuts.{Cuts as Places}
use Rattle.fields.specs.Cuts.{in_run, run_end, operand_end_at, cuts_of, fields_by}
use Rattle.fields.proofs.Cut.{fields-cut}
use Rattle.statements.proofs.Symbols.{run-within}
use Rattle.names.specs.Names.{slot_byte}
use Rattle.coding.specs.Coded.{field_code}
use Rattle.targets.proofs.Coded.{start-coded, sequence-coded, slot-byte-high, slot-byte-ends, slot-byte-other}
use Rattle.shapes.specs.declared.Codes.{Codes}
use Rattle.shapes.specs.declared.Shape.{Shape}
use Rattle.shapes.specs.Shapes.{part, ends_of, shape_of, target_text, Spelt}
use Rattle.shapes.proofs.Written.{code-short}
use Rattle.shapes.proofs.Spelt.{spelt}
use Rattle.writing.specs.Bytes.{shape_bytes, Writable}
use Rattle.bodies.specs.Lines.{target_by, kept_bytes, remark_bytes, codes_of, code_ends, kept_of, fields_in, statement_in, line_in}
use Rattle.bodies.specs.Room.{Kept, Held, Ready}

-- ---- remarks

swapped : (a b : ℕ) → eqb a b ≡ eqb b a
swapped a b = by (eqb b a) (λ e. eq-eqb a b (sym (eqb-true b a e)) ∙ sym e) (λ e. ne_eqb a b (λ q. eqb-false b a e (sym q)) ∙ sym e)

one_byte : (a k : ℕ) → eqb a k ≡ (eqb k a && true)
one_byte a k = swapped a k ∙ sym (and-true (eqb k a))

pub dropped-is : (l : Bytes) → (eqb (get_or l 0 0) 46 && eqb (get_or l 1 0) 42) ≡ is_dropped_remark l
unfolding is_dropped_remark starts_with
dropped-is [] = refl
dropped-is (a ∷ []) = λ i. swapped a 46 i && false
dropped-is (a ∷ (b ∷ l)) = λ i. swapped a 46 i && one_byte b 42 i

pub remark-writable : (does : Does) (l out : Bytes) (at : ℕ) → length l < 65536 → at + length (remark_bytes does l) ≤ length out
    → Writable l (record { does = does; name = 0; operation = 0; gap = 0; operand = 0; rest = 0; end = 0 }) (take (0 - 0) (drop 0 l)) 0 out at
unfolding remark_bytes part
remark-writable does l out at h room = record {
  name-in = omega arith;
  operation-in = (omega arith, omega arith);
  operand_in = (omega arith, omega arith);
  codes-count = omega arith;
  line-counts = h;
  target-counts = omega arith;
  room = room;
}

-- ---- targets

pub no_target : (t : Bytes) → length t ≡ 0 → t ≡ drop 1 t
no_target [] h = refl
no_target (a ∷ t) h = absurd (omega (arith, h))

named-within : (s : Bytes) (ls : List Bytes) → line_named s ls ≤ length ls
unfolding line_named
named-within s [] = omega arith
named-within s (l ∷ ls) =
    let h = named-within s ls in either (λ (n : ℕ). n ≤ suc (length ls)) (is_named s l) (λ e. omega arith) (λ e. omega arith)

pub target-counts : (body : Bytes) (does : Does) (t : Bytes) → length (lines_of body) < 65536 → target_by body does t < 65536
unfolding target_by
target-counts body Passes t h = omega arith
target-counts body Ends t h = omega arith
target-counts body Exits t h = omega arith
target-counts body Text t h = omega arith
target-counts body Models t h = omega arith
target-counts body BranchesIf t h = omega (arith, h, named-within (drop 1 t) (lines_of body))
target-counts body Branches t h = omega (arith, h, named-within (drop 1 t) (lines_of body))
target-counts body Counts t h = omega arith
target-counts body (Sets k) t h = omega arith

module _ (l body : Bytes) (k : Shape) (s out : Bytes) (at : ℕ) (h : Kept l body k s out at) (target : ℕ) (is : target ≡ target_by body k.does (part s k.rest k.end)) where
  pub kept-writable : Writable l k s target out at
  unfolding kept_bytes
  kept-writable =
      subst (λ (t : ℕ). Writable l k s t out at) (sym is) (record {
        name-in = h.name-in;
        operation-in = h.operation-in;
        operand_in = (h.operand_in.0, omega (arith, h.operand_in.1.0, h.operand_in.1.1));
        codes-count = h.codes-count;
        line-counts = h.line-counts;
        target-counts = target-counts body k.does (part s k.rest k.end) h.lines-count;
        room = h.room;
      })

  pub kept-bytes : shape_bytes l k s target ≡ kept_bytes body l k s
  unfolding kept_bytes
  kept-bytes = ap (λ (t : ℕ). shape_bytes l k s t) is

-- ---- the codes of three fields

module _ (own global shared : Bytes) where
  pub fields-spelt : (l : Bytes) (f : Fields) → InSet f.name → InSet f.operation → InSet f.operand
      → Spelt (slot_byte own global shared) (says l f (statement_of f.operation)) (target_text f (statement_of f.operation)) (codes_of own global shared f.name f.operation f.operand)
      (kept_of own global shared f.name f.operation f.operand)
  unfolding codes_of kept_of code_ends field_code
  fields-spelt l f a b c =
      spelt (slot_byte own global shared) (slot-byte-high own global shared) l f a b c
      (start-coded (slot_byte own global shared) (slot-byte-ends own global shared) (slot-byte-other own global shared))
      (sequence-coded (slot_byte own global shared) (slot-byte-ends own global shared) (slot-byte-other own global shared)) (statement_of f.operation)

  module _ (l body name operation operand code : Bytes) (h : Held l body name operation operand code) where
    abbrev s : Bytes
    s = codes_of own global shared name operation operand

    pub codes-short : length s ≤ length l
    unfolding codes_of
    codes-short =
        let a = field_code false own global shared name in
        let b = field_code false own global shared operation in
        let c = field_code true own global shared operand in
        omega (
          arith,
          length-append a (b ++ c),
          length-append b c,
          code-short false own global shared name,
          code-short false own global shared operation,
          code-short true own global shared operand,
          h.total,
        )

    ends-length : (code_ends own global shared name operation operand).operand ≡ length s
    unfolding code_ends codes_of ends_of
    ends-length =
        let a = field_code false own global shared name in
        let b = field_code false own global shared operation in
        let c = field_code true own global shared operand in
        omega (arith, length-append a (b ++ c), length-append b c)

    ends-ordered : (code_ends own global shared name operation operand).operation ≤ (code_ends own global shared name operation operand).operand
    unfolding code_ends ends_of
    ends-ordered = omega arith

    pub kept_there : (out : Bytes) (at : ℕ) → at + length (fields_in own global shared body l name operation operand) ≤ length out
        → Kept l body (kept_of own global shared name operation operand) s out at
    unfolding fields_in
    kept_there out at room =
        let f : Fields = record { name = name; gap = []; operation = operation; gap₂ = []; operand = operand; remarks = [] } in
        let k = fields-spelt l f h.name-in h.operation-in h.operand_in in
        record {
          name-in = k.name-in;
          operation-in = k.operation-in;
          operand_in = k.operand_in;
          codes-count = omega (arith, codes-short, h.short);
          line-counts = omega (arith, h.short);
          lines-count = h.lines-count;
          room = room;
        }

    -- the codes stand at the buffer's start, up to their last end
    module _ (new : Bytes) (e : Codes) (written : new ≡ splice code 0 s) (is : e ≡ code_ends own global shared name operation operand) where
      pub last_end : e.operand ≡ length s
      last_end = ap (λ (q : Codes). q.operand) is ∙ ends-length

      pub end-within : e.operand ≤ length new
      end-within = omega (arith, last_end, codes-short, h.short, h.fits, ap length written ∙ splice-length code 0 s)

      pub all_codes : take e.operand new ≡ s
      all_codes =
          let n : length s ≤ length code = omega (arith, codes-short, h.short, h.fits) in
          (λ i. take (last_end i) ((written ∙ splice-whole code s n) i)) ∙ take-append_seam s (drop (length s) code)

      pub ends-in : (e.operation ≤ e.operand) × (e.operand ≤ length (take e.operand new))
      ends-in =
          let q : (code_ends own global shared name operation operand).operation ≡ e.operation = sym (ap (λ (q : Codes). q.operation) is) in
          (omega (arith, ends-ordered, q, ends-length, last_end), omega (arith, ap length all_codes, last_end))

      module _ (word : Option Word) (label : Bool) (k : Shape) (w : statement_by word ≡ statement_of operation) (b : label ≡ is_sequence name)
          (shape : k ≡ shape_of (statement_by word) label e (take e.operand new)) where
        pub kept-is : k ≡ kept_of own global shared name operation operand
        unfolding kept_of
        kept-is = shape ∙ (λ i. shape_of (w i) (b i) (is i) (all_codes i))

        pub kept-now : (out : Bytes) (at : ℕ) → at + length (fields_in own global shared body l name operation operand) ≤ length out → Kept l body k (take e.operand new) out at
        kept-now out at room =
            subst (λ (q : Shape). Kept l body q (take e.operand new) out at) (sym kept-is)
            (subst (λ (t : Bytes). Kept l body (kept_of own global shared name operation operand) t out at) (sym all_codes) (kept_there out at room))

        pub fields-bytes : kept_bytes body l k (take e.operand new) ≡ fields_in own global shared body l name operation operand
        unfolding fields_in
        fields-bytes = λ i. kept_bytes body l (kept-is i) (all_codes i)

-- ---- a line cut into its fields

passed-within : {A S : Type 0} (stop : S → A → Bool) (next : S → A → S) (l : List A) (st : S) → passed stop next st l ≤ length l
unfolding passed
passed-within stop next [] st = omega arith
passed-within stop next (a ∷ l) st =
    let h = passed-within stop next l (next st a) in either (λ (n : ℕ). n ≤ suc (length l)) (stop st a) (λ e. omega arith) (λ e. omega arith)

marked-length : (s : Bytes) (q : Bool) (b : Before) → length (marked {R = Bytes} q b s) ≡ length s
unfolding marked
marked-length [] q b = refl
marked-length (c ∷ s) q b = ap suc (marked-length s q (after q b c s))

operand-within : (holds : Bool) (s : Bytes) → operand_end holds s ≤ length s
unfolding operand_end
operand-within holds s = omega (arith, passed-within (ends_operand holds) enters (marked true field_start s) outside, marked-length s true field_start)

run_inside : (b : Bool) (l : Bytes) (at : ℕ) → at ≤ length l → (at ≤ run_end b l at) × (run_end b l at ≤ length l)
unfolding run_end
run_inside b l at h = (omega arith, omega (arith, run-within (in_run b) (drop at l), length-drop at l))

operand-inside : (b : Bool) (l : Bytes) (at : ℕ) → at ≤ length l → (at ≤ operand_end_at b l at) × (operand_end_at b l at ≤ length l)
unfolding operand_end_at
operand-inside b l at h = (omega arith, omega (arith, operand-within b (drop at l), length-drop at l))

abbrev Ordered : Bytes → Places → Type 0
Ordered l c = (c.gap ≤ length l) × ((c.operation ≤ c.space) × ((c.space ≤ length l) × ((c.operand ≤ c.remarks) × (c.remarks ≤ length l))))

ordered : (l : Bytes) → Ordered l (cuts_of l)
unfolding cuts_of
ordered l =
    let g = run_inside false l 0 (omega arith) in
    let o = run_inside true l _ g.1 in
    let s = run_inside false l _ o.1 in
    let a = run_inside true l _ s.1 in
    let r = operand-inside (holds_spaces (take (run_end false l (run_end true l (run_end false l 0)) - run_end true l (run_end false l 0)) (drop (run_end true l (run_end false l 0)) l))) l _ a.1 in
    (g.1, (s.0, (s.1, (r.0, r.1))))

module _ (l : Bytes) (c : Places) (is : c ≡ cuts_of l) where
  pub cuts-ordered : Ordered l c
  cuts-ordered = subst (Ordered l) (sym is) (ordered l)

  abbrev name : Bytes
  name = take (c.gap - 0) (drop 0 l)

  abbrev operation : Bytes
  operation = take (c.space - c.operation) (drop c.operation l)

  abbrev operand : Bytes
  operand = take (c.remarks - c.operand) (drop c.operand l)

  cut-fields : fields_of l ≡ fields_by l c
  cut-fields = fields-cut l ∙ ap (fields_by l) (sym is)

  cut-name : (fields_of l).name ≡ name
  unfolding fields_by
  cut-name = ap (λ (f : Fields). f.name) cut-fields ∙ ap (λ (n : ℕ). take n l) (sym (sub-zero c.gap))

  cut-operation : (fields_of l).operation ≡ operation
  unfolding fields_by
  cut-operation = ap (λ (f : Fields). f.operation) cut-fields

  cut-operand : (fields_of l).operand ≡ operand
  unfolding fields_by
  cut-operand = ap (λ (f : Fields). f.operand) cut-fields

  pub cut-held : (body code : Bytes) → Ready l body code → Held l body name operation operand code
  cut-held body code h =
      let w = fields-held l h.in-set in
      record {
        name-in = subst InSet cut-name w.name-in;
        operation-in = subst InSet cut-operation w.operation-in;
        operand_in = subst InSet cut-operand w.operand_in;
        total = omega (arith, w.total, ap length cut-name, ap length cut-operation, ap length cut-operand);
        short = h.short;
        fits = h.fits;
        lines-count = h.lines-count;
      }

  pub cut-bytes : (own global shared body : Bytes) → statement_in own global shared body l ≡ fields_in own global shared body l name operation operand
  unfolding statement_in
  cut-bytes own global shared body = λ i. fields_in own global shared body l (cut-name i) (cut-operation i) (cut-operand i)

-- ---- the bytes of a line by what it is

module _ (own global shared body l : Bytes) where
  pub copied-bytes : is_copied_remark l ≡ true → line_in own global shared body l ≡ remark_bytes Text l
  unfolding line_in
  copied-bytes e = chosen _ _ e

  pub dropped-bytes : is_copied_remark l ≡ false → is_dropped_remark l ≡ true → line_in own global shared body l ≡ remark_bytes Passes l
  unfolding line_in
  dropped-bytes e f = passed_over _ _ e ∙ chosen _ _ f

  pub statement-bytes : is_copied_remark l ≡ false → is_dropped_remark l ≡ false → line_in own global shared body l ≡ statement_in own global shared body l
  unfolding line_in
  statement-bytes e f = passed_over _ _ e ∙ passed_over _ _ f
