-- A body line's bytes by tables and by the body's bytes are the deck's coding of the line, and all of them are the coding of a macro's lines. Assumes nothing.
use Prim.Native.Nat.{ℕ, ◌≤◌}
use mathlib.Core.Path.{◌≡◌, refl, ap, sym, ◌∙◌, subst}
use mathlib.Core.Bool.{Bool, true, false, ◌&&◌, ◌||◌, false≢true}
use mathlib.Core.List.{List, [], ◌∷◌, ◌++◌, map}
use lib.Dec.{eqb}
use lib.ListN.{length, take, drop, length-map}
use lib.Seq.{take-length}
use borrow.Author.Tests.{eqb-true}
use Rattle.text.specs.Bytes.{Bytes}
use Rattle.text.specs.Characters.{letter, letter_or_digit}
use Rattle.rules.specs.Choice.{choose, run, any}
use Rattle.rules.specs.Lexemes.{period, lexed, is_name, sequence_start, is_sequence}
use Rattle.rules.specs.Fields.{Fields, fields_of, lines_of, is_copied_remark, is_dropped_remark, is_remark, no_fields, statement_fields, is_ill_written}
use Rattle.rules.specs.Statement.{Set, Statement, macro, mend, mexit, local, global, set, aif, ago, anop, actr, model, statement_of, condition_end, target_in, Does, passes, ends, exits, text, models, sets, branches_if, branches, counts, map_does, map_line, is_copied, Line, doing, model_of, says, read}
use Rattle.rules.specs.Library.{firsts, line_named}
use Rattle.rules.specs.Faults.{target_behind, is_named_or_empty, are_fields_good}
use Rattle.rules.specs.ByLines.{own_names, Reading}
use Rattle.rules.proofs.Choices.{chosen, passed_over, by, either, and_left, and_right}
use Rattle.rules.proofs.Logic.{All}
use Rattle.rules.proofs.Lossless.{lexed-back}
use Rattle.rules.proofs.ReadLines.{InSet, fields-held, written_in}
use Rattle.rules.proofs.Accepted.{Stands, well-written, good-fields, Body, last, line as more}
use Rattle.deck.specs.Coding.{two, put_all, list_of}
use Rattle.deck.specs.Coders.{text_code, put_line_by, line}
use Rattle.deck.specs.Slots.{resolved, resolved_line}
use Rattle.names.specs.Names.{names_in, slot_byte}
use Rattle.kinds.specs.Kinds.{does_for}
use Rattle.kinds.specs.declared.Does.{Does as Word}
use Rattle.kinds.specs.declared.Does.TheVariants.{Passes, Text, BranchesIf, Branches}
use Rattle.shapes.specs.declared.Shape.{Shape}
use Rattle.shapes.specs.Shapes.{part, target_text, Spelt}
use Rattle.writing.specs.Bytes.{does_code, behind_first, line_bytes, target_of}
use Rattle.writing.proofs.Coded.{string-counted}
use Rattle.writing.proofs.Lines.{line-written}
use Rattle.bodies.specs.Lines.{target_by, kept_bytes, remark_bytes, codes_of, kept_of, fields_in, statement_in, line_in, lines_in, body_in}
use Rattle.bodies.proofs.Written.{fields-spelt, copied-bytes, dropped-bytes, statement-bytes}

-- ---- a target that is exactly a sequence symbol

symbol-name : (t : Bytes) → is_sequence t ≡ true → sequence_start t ≡ drop 1 t
unfolding is_sequence is_name sequence_start
symbol-name [] h = absurd (false≢true h)
symbol-name (p ∷ []) h = refl
symbol-name (p ∷ (c ∷ s)) h =
    let a = and_left (eqb p period) _ h in
    let h₁ = and_right (eqb p period) _ h in
    let b = and_left (letter c) _ h₁ in
    let h₂ = and_right (letter c) _ h₁ in
    let e = eqb-true (run letter_or_digit s) (length s) (and_left _ _ h₂) in
    chosen _ _ (ap (λ (x : Bool). x && letter c) a ∙ b) ∙ ap (λ (r : Bytes). c ∷ r) (ap (λ (n : ℕ). take n s) e ∙ take-length s)

same_name : (t u : Bytes) → is_sequence u ≡ true → sequence_start t ≡ sequence_start u → is_sequence t ≡ is_sequence u → drop 1 t ≡ drop 1 u
same_name t u h start is = sym (symbol-name t (is ∙ h)) ∙ (start ∙ symbol-name u h)

behind-condition : (b : Bool) (u : Bytes) → is_sequence (choose b [] u) ≡ true → drop 1 (choose b [] u) ≡ drop 1 u
unfolding choose is_sequence
behind-condition true u h = absurd (false≢true h)
behind-condition false u h = refl

-- the name behind the first byte of a text is the target of a branch
abbrev Aims : Does Bytes → Bytes → Type 0
Aims passes t = Unit {0}
Aims ends t = Unit {0}
Aims exits t = Unit {0}
Aims (text s) t = Unit {0}
Aims models t = Unit {0}
Aims (sets k) t = Unit {0}
Aims (branches_if u) t = drop 1 t ≡ u
Aims (branches u) t = drop 1 t ≡ u
Aims counts t = Unit {0}

aims : (l : Bytes) (f : Fields) (st : Statement) → are_fields_good f st ≡ true → (t : Bytes) → sequence_start t ≡ sequence_start (target_text f st) → is_sequence t ≡ is_sequence (target_text f st)
    → Aims (says l f st).does t
unfolding says doing model_of are_fields_good target_text target_behind target_in
aims l f macro h t start is = tt
aims l f mend h t start is = tt
aims l f mexit h t start is = tt
aims l f (local k) h t start is = tt
aims l f (global k) h t start is = tt
aims l f (set k) h t start is = tt
aims l f aif h t start is =
    let g = and_right (is_named_or_empty f.name) (is_sequence (target_behind (lexed true f.operand))) h in
    same_name t (target_behind (lexed true f.operand)) g start is ∙ behind-condition (eqb (condition_end (lexed true f.operand)) 0) _ g
aims l f ago h t start is =
    same_name t f.operand (and_right (is_named_or_empty f.name) (is_sequence f.operand) h) start is ∙ ap (drop 1) (sym (lexed-back true f.operand))
aims l f anop h t start is = tt
aims l f actr h t start is = tt
aims l f model h t start is = either (λ (x : Line Bytes Bytes). Aims x.does t) (is_copied f) (λ e. tt) (λ e. tt)

-- the number of a target matters only where the line is a branch
module _ (body : Bytes) (ls : List Bytes) (b : ls ≡ lines_of body) (l name operation operand t : Bytes) where
  abbrev bytes : Word → ℕ → Bytes
  bytes does target = line_bytes does l target name operation operand

  target-same : (d : Does Bytes) → Aims d t → bytes (does_for d) (target_by body (does_for d) t) ≡ bytes (does_for d) (target_of (map_does (λ u. line_named u ls) d))
  unfolding target_by target_of map_does
  target-same passes h = refl
  target-same ends h = refl
  target-same exits h = refl
  target-same (text s) h = refl
  target-same models h = refl
  target-same (sets k) h = refl
  target-same (branches_if u) h = λ i. bytes BranchesIf (line_named (h i) (sym b i))
  target-same (branches u) h = λ i. bytes Branches (line_named (h i) (sym b i))
  target-same counts h = refl

-- a line as acceptance leaves it: bytes of the set, and good fields where it is no remark
abbrev pub Good : Bytes → Type 0
Good l = InSet l × (is_remark l ≡ false → are_fields_good (statement_fields l) (statement_of (statement_fields l).operation) ≡ true)

fields-good : (l : Bytes) → is_copied_remark l ≡ false → is_dropped_remark l ≡ false → (is_remark l ≡ false → are_fields_good (statement_fields l) (statement_of (statement_fields l).operation) ≡ true)
    → are_fields_good (fields_of l) (statement_of (fields_of l).operation) ≡ true
unfolding is_remark statement_fields
fields-good l e f h =
    let n : is_remark l ≡ false = ap (λ (c : Bool). c || is_dropped_remark l) e ∙ f in
    subst (λ (x : Fields). are_fields_good x (statement_of x.operation) ≡ true) (passed_over no_fields (fields_of l) n) (h n)

module _ (r : Reading) (globals : List (Bytes × Set)) (own global shared : Bytes)
    (o : names_in own ≡ own_names r.names) (g : names_in global ≡ firsts r.names.globals) (s : names_in shared ≡ firsts globals)
    (few : length (own_names r.names) ≤ 64) (fewer : length globals ≤ 32) (body : Bytes) (b : r.body ≡ lines_of body) where
  module _ (l : Bytes) where
    abbrev number : Bytes → ℕ
    number t = line_named t r.body

    abbrev whole : Line Bytes Bytes → Bytes
    whole x = line.put (map_line (resolved r.names globals) number x)

    resolved-as : (x : Line Bytes Bytes) → read l ≡ x → whole x ≡ line.put (resolved_line r globals l)
    unfolding resolved_line
    resolved-as x q = ap whole (sym q)

    text-whole : remark_bytes Text l ≡ whole (doing (text l))
    unfolding remark_bytes line_bytes does_code behind_first line put_line_by map_line map_does doing
    text-whole = ap (λ (x : Bytes). text_code ∷ x) (sym (string-counted l))

    passes-whole : remark_bytes Passes l ≡ whole (doing passes)
    unfolding remark_bytes line_bytes does_code behind_first line put_line_by map_line map_does doing
    passes-whole = refl

    copied-in : is_copied_remark l ≡ true → remark_bytes Text l ≡ line.put (resolved_line r globals l)
    unfolding read
    copied-in e = text-whole ∙ resolved-as (doing (text l)) (chosen _ _ e)

    dropped-in : is_copied_remark l ≡ false → is_dropped_remark l ≡ true → remark_bytes Passes l ≡ line.put (resolved_line r globals l)
    unfolding read
    dropped-in e f = passes-whole ∙ resolved-as (doing passes) (passed_over _ _ e ∙ chosen _ _ f)

    module _ (in-set : InSet l) (e : is_copied_remark l ≡ false) (e₂ : is_dropped_remark l ≡ false) (good : are_fields_good (fields_of l) (statement_of (fields_of l).operation) ≡ true) where
      abbrev f : Fields
      f = fields_of l

      abbrev st : Statement
      st = statement_of f.operation

      abbrev k : Shape
      k = kept_of own global shared f.name f.operation f.operand

      abbrev codes : Bytes
      codes = codes_of own global shared f.name f.operation f.operand

      abbrev bytes_of : Word → ℕ → Bytes
      bytes_of does target = line_bytes does l target (take k.name codes) (part codes k.operation k.gap) (part codes k.operand k.rest)

      reads : read l ≡ says l f st
      unfolding read
      reads = passed_over _ _ e ∙ passed_over _ _ e₂

      says-spelt : Spelt (slot_byte own global shared) (says l f st) (target_text f st) codes k
      says-spelt = let w = fields-held l in-set in fields-spelt own global shared l f w.name-in w.operation-in w.operand_in

      read-spelt : Spelt (slot_byte own global shared) (read l) (target_text f st) codes k
      read-spelt = subst (λ (x : Line Bytes Bytes). Spelt (slot_byte own global shared) x (target_text f st) codes k) (sym reads) says-spelt

      target_is : bytes_of k.does (target_by body k.does (part codes k.rest k.end)) ≡ bytes_of k.does (target_of (map_does number (says l f st).does))
      target_is =
          let d = says-spelt.does in
          let t = part codes k.rest k.end in
          (λ i. bytes_of (d i) (target_by body (d i) t))
          ∙ (target-same body r.body b l (take k.name codes) (part codes k.operation k.gap) (part codes k.operand k.rest) t (says l f st).does (aims l f st good t says-spelt.start says-spelt.is-sequence)
          ∙ (λ i. bytes_of (sym d i) (target_of (map_does number (says l f st).does))))

      does-is : map_does number (says l f st).does ≡ (resolved_line r globals l).does
      unfolding resolved_line map_line
      does-is = ap (λ (x : Line Bytes Bytes). map_does number x.does) (sym reads)

      opened : statement_in own global shared body l ≡ bytes_of k.does (target_by body k.does (part codes k.rest k.end))
      unfolding statement_in fields_in kept_bytes
      opened = refl

      number_is : bytes_of k.does (target_of (map_does number (says l f st).does)) ≡ bytes_of k.does (target_of (resolved_line r globals l).does)
      number_is = ap (λ (d : Does ℕ). bytes_of k.does (target_of d)) does-is

      put_is : bytes_of k.does (target_of (resolved_line r globals l).does) ≡ line.put (resolved_line r globals l)
      put_is = line-written r globals own global shared o g s few fewer l (target_text f st) codes k read-spelt

      statement-in : statement_in own global shared body l ≡ line.put (resolved_line r globals l)
      statement-in = opened ∙ (target_is ∙ (number_is ∙ put_is))

    pub line-in : Good l → line_in own global shared body l ≡ line.put (resolved_line r globals l)
    line-in h =
        by (is_copied_remark l) (λ e. copied-bytes own global shared body l e ∙ copied-in e)
        (λ e. by (is_dropped_remark l) (λ f. dropped-bytes own global shared body l e f ∙ dropped-in e f)
        (λ f. statement-bytes own global shared body l e f ∙ statement-in h.0 e f (fields-good l e f h.1)))

  lines-in : (ls : List Bytes) → All Good ls → lines_in own global shared body ls ≡ put_all line (map (resolved_line r globals) ls)
  unfolding lines_in put_all
  lines-in [] h = refl
  lines-in (l ∷ ls) h = λ i. line-in l h.0 i ++ lines-in ls h.1 i

  pub body-in : All Good r.body → body_in own global shared body ≡ (list_of line).put (map (resolved_line r globals) r.body)
  unfolding body_in list_of
  body-in h =
      (λ i. two.put (length (sym b i)) ++ lines_in own global shared body (sym b i))
      ∙ (λ i. two.put (sym (length-map r.body (resolved_line r globals)) i) ++ lines-in r.body h i)

-- ---- the lines of an accepted body

pub stands_good : {p : Bytes} {before : List Bytes} {l : Bytes} {after : List Bytes} → Stands p before l after → Good l
stands_good {l = l} x = ((written_in l (well-written x)).1, good-fields x)

pub body-good : {p : Bytes} {before ls : List Bytes} → Body p before ls → All Good ls
body-good (last e x) = (stands_good x, tt)
body-good (more e x b) = (stands_good x, body-good b)

pub body-well-written : {p : Bytes} {before ls : List Bytes} → Body p before ls → any is_ill_written ls ≡ false
unfolding any
body-well-written (last e x) = ap (λ (c : Bool). c || false) (well-written x)
body-well-written (more {ls = ls} e x b) = ap (λ (c : Bool). c || any is_ill_written ls) (well-written x) ∙ body-well-written b
