-- What a line says: its fields are no longer than the line, their bytes are the line's, and a statement has the fields that it is carried out with, no other.
use Prim.Native.Nat.{ℕ, ◌+◌, ◌≤◌}
use native.Mathlib.Omega.{arith}
use mathlib.Core.Path.{◌≡◌, refl, ap, sym, ◌∙◌, subst}
use mathlib.Core.Logic.{⊎_elim}
use mathlib.Core.Bool.{Bool, true, false, ◌&&◌}
use mathlib.Core.List.{List, [], ◌∷◌, ◌++◌, append_assoc}
use lib.Dec.{ltb}
use lib.ListN.{length, take, drop, length-append, take-append-drop}
use borrow.Author.Tests.{not-false, ltb-false}
use Rattle.text.specs.Bytes.{Bytes}
use Rattle.text.specs.Characters.{in_set}
use Rattle.rules.specs.Choice.{choose, every}
use Rattle.rules.specs.Limits.{line_limit}
use Rattle.rules.specs.Lexemes.{ampersand, apostrophe, Lex, byte, mark, ref, lone, lexed, unlexed, is_sequence}
use Rattle.rules.specs.Fields.{is_ill_written, is_remark, Fields, fields_of, no_fields, statement_fields}
use Rattle.rules.specs.Statement.{Statement, macro, mend, mexit, local, global, set, aif, ago, anop, actr, model, Does, passes, ends, exits, text, models, sets, branches_if, branches, counts, Line, condition_end, is_copied, doing, model_of, says, read}
use Rattle.rules.proofs.Choices.{by, either, and_left, and_right}
use Rattle.rules.proofs.Logic.{or_left, or_right}
use Rattle.rules.proofs.Lossless.{lexed-back, fields_back}
use Rattle.rules.proofs.Said.{statement_on, remark-says, statement-says}

-- all bytes are in 01's set
abbrev pub InSet : Bytes → Type 0
InSet s = every in_set s ≡ true

module _ {A : Type 0} (test : A → Bool) where
  pub every_front : (s t : List A) → every test (s ++ t) ≡ true → every test s ≡ true
  unfolding every
  every_front [] t h = refl
  every_front (a ∷ s) t h = ap (λ (b : Bool). b && every test s) (and_left (test a) _ h) ∙ every_front s t (and_right (test a) _ h)

  pub every-behind : (s t : List A) → every test (s ++ t) ≡ true → every test t ≡ true
  unfolding every
  every-behind [] t h = h
  every-behind (a ∷ s) t h = every-behind s t (and_right (test a) _ h)

-- ---- lexemes

pub lexemes-short : (x : List (Lex Bytes)) → length x ≤ length (unlexed x)
unfolding unlexed
lexemes-short [] = omega arith
lexemes-short (byte c ∷ x) = omega (arith, lexemes-short x)
lexemes-short (mark ∷ x) = omega (arith, lexemes-short x)
lexemes-short (ref n ∷ x) = omega (arith, lexemes-short x, length-append n (unlexed x))
lexemes-short (lone ∷ x) = omega (arith, lexemes-short x)

pub unlexed-append : (x y : List (Lex Bytes)) → unlexed (x ++ y) ≡ unlexed x ++ unlexed y
unfolding unlexed
unlexed-append [] y = refl
unlexed-append (byte c ∷ x) y = ap (λ (s : Bytes). c ∷ s) (unlexed-append x y)
unlexed-append (mark ∷ x) y = ap (λ (s : Bytes). apostrophe ∷ s) (unlexed-append x y)
unlexed-append (ref n ∷ x) y = ap (λ (s : Bytes). ampersand ∷ (n ++ s)) (unlexed-append x y) ∙ ap (λ (s : Bytes). ampersand ∷ s) (sym (append_assoc n (unlexed x) (unlexed y)))
unlexed-append (lone ∷ x) y = ap (λ (s : Bytes). ampersand ∷ s) (unlexed-append x y)

-- the first lexemes, and those behind them
pub unlexed-split : (n : ℕ) (x : List (Lex Bytes)) → unlexed (take n x) ++ unlexed (drop n x) ≡ unlexed x
unlexed-split n x = sym (unlexed-append (take n x) (drop n x)) ∙ ap unlexed (take-append-drop n x)

-- ---- fields

pub record Holds (l : Bytes) (f : Fields) : Type 0 where
  pub name-in : InSet f.name
  pub operation-in : InSet f.operation
  pub operand_in : InSet f.operand
  pub total : length f.name + (length f.operation + length f.operand) ≤ length l

pub fields-held : (l : Bytes) → InSet l → Holds l (fields_of l)
fields-held l h =
    let f = fields_of l in
    let t₅ = f.operand ++ f.remarks in
    let t₄ = f.gap₂ ++ t₅ in
    let t₃ = f.operation ++ t₄ in
    let t₂ = f.gap ++ t₃ in
    let h₁ : InSet (f.name ++ t₂) = subst InSet (sym (fields_back l)) h in
    let h₃ = every-behind in_set f.gap t₃ (every-behind in_set f.name t₂ h₁) in
    let h₅ = every-behind in_set f.gap₂ t₅ (every-behind in_set f.operation t₄ h₃) in
    record {
      name-in = every_front in_set f.name t₂ h₁;
      operation-in = every_front in_set f.operation t₄ h₃;
      operand_in = every_front in_set f.operand f.remarks h₅;
      total = omega (
        arith,
        ap length (fields_back l),
        length-append f.name t₂,
        length-append f.gap t₃,
        length-append f.operation t₄,
        length-append f.gap₂ t₅,
        length-append f.operand f.remarks,
      );
    }

pub statement-held : (l : Bytes) → InSet l → Holds l (statement_fields l)
unfolding statement_fields no_fields every
statement-held l h =
    either (Holds l) (is_remark l) (λ e. record { name-in = refl; operation-in = refl; operand_in = refl; total = omega arith }) (λ e. fields-held l h)

-- ---- what a line says

abbrev pub NoFields : Line Bytes Bytes → Type 0
NoFields r = (r.name ≡ []) × ((r.operation ≡ []) × (r.operand ≡ []))

abbrev pub OperandOnly : Line Bytes Bytes → Type 0
OperandOnly r = (r.name ≡ []) × (r.operation ≡ [])

-- the fields that a line does not have, by what it does; a text is the whole line
abbrev pub Shape : Bytes → Line Bytes Bytes → Does Bytes → Type 0
Shape l r passes = NoFields r
Shape l r ends = NoFields r
Shape l r exits = NoFields r
Shape l r (text s) = (s ≡ l) × NoFields r
Shape l r models = Unit {0}
Shape l r (sets k) = r.operation ≡ []
Shape l r (branches_if t) = OperandOnly r
Shape l r (branches t) = NoFields r
Shape l r counts = OperandOnly r

pub record Reads (l : Bytes) (r : Line Bytes Bytes) : Type 0 where
  pub name-in : InSet (unlexed r.name)
  pub operation-in : InSet (unlexed r.operation)
  pub operand_in : InSet (unlexed r.operand)
  pub total : length (unlexed r.name) + (length (unlexed r.operation) + length (unlexed r.operand)) ≤ length l
  pub shape : Shape l r r.does

module _ (l : Bytes) where
  reads-bare : (d : Does Bytes) → Shape l (doing d) d → Reads l (doing d)
  unfolding doing unlexed every
  reads-bare d h = record { name-in = refl; operation-in = refl; operand_in = refl; total = omega arith; shape = h }

  module _ {f : Fields} (h : Holds l f) where
    lexed-in : (quotes : Bool) (s : Bytes) → InSet s → InSet (unlexed (lexed quotes s))
    lexed-in quotes s e = subst InSet (sym (lexed-back quotes s)) e

    -- an operand, or the first of its lexemes
    reads-operand : (d : Does Bytes) (n : ℕ) → let x = take n (lexed true f.operand) in
        Shape l (record { does = d; name = []; operation = []; operand = x }) d → Reads l (record { does = d; name = []; operation = []; operand = x })
    unfolding unlexed every
    reads-operand d n s =
        let x = lexed true f.operand in
        let e = unlexed-split n x in
        record {
          name-in = refl;
          operation-in = refl;
          operand_in = every_front in_set (unlexed (take n x)) (unlexed (drop n x)) (subst InSet (sym e) (lexed-in true f.operand h.operand_in));
          total = omega (arith, h.total, ap length e, length-append (unlexed (take n x)) (unlexed (drop n x)), ap length (lexed-back true f.operand));
          shape = s;
        }

    name-short : length (unlexed (choose (is_sequence f.name) [] (lexed false f.name))) ≤ length f.name
    unfolding unlexed
    name-short = either (λ (x : List (Lex Bytes)). length (unlexed x) ≤ length f.name) (is_sequence f.name) (λ e. omega arith)
        (λ e. omega (arith, ap length (lexed-back false f.name)))

    reads-model : Reads l (model_of f)
    unfolding model_of unlexed every
    reads-model = record {
      name-in = either (λ (x : List (Lex Bytes)). InSet (unlexed x)) (is_sequence f.name) (λ e. refl) (λ e. lexed-in false f.name h.name-in);
      operation-in = lexed-in false f.operation h.operation-in;
      operand_in = lexed-in true f.operand h.operand_in;
      total = omega (arith, h.total, name-short, ap length (lexed-back false f.operation), ap length (lexed-back true f.operand));
      shape = tt;
    }

    reads-says : (s : Statement) → Reads l (says l f s)
    unfolding says doing unlexed every
    reads-says macro = reads-bare passes (refl, (refl, refl))
    reads-says mend = reads-bare ends (refl, (refl, refl))
    reads-says mexit = reads-bare exits (refl, (refl, refl))
    reads-says (local k) = reads-bare passes (refl, (refl, refl))
    reads-says (global k) = reads-bare passes (refl, (refl, refl))
    reads-says (set k) = record {
      name-in = lexed-in false f.name h.name-in;
      operation-in = refl;
      operand_in = lexed-in true f.operand h.operand_in;
      total = omega (arith, h.total, ap length (lexed-back false f.name), ap length (lexed-back true f.operand));
      shape = refl;
    }
    reads-says aif = reads-operand _ (condition_end (lexed true f.operand)) (refl, refl)
    reads-says ago = reads-bare _ (refl, (refl, refl))
    reads-says anop = reads-bare passes (refl, (refl, refl))
    reads-says actr = record {
      name-in = refl;
      operation-in = refl;
      operand_in = lexed-in true f.operand h.operand_in;
      total = omega (arith, h.total, ap length (lexed-back true f.operand));
      shape = (refl, refl);
    }
    reads-says model = either (Reads l) (is_copied f) (λ e. reads-bare (text l) (refl, (refl, (refl, refl)))) (λ e. reads-model)

pub line_reads : (l : Bytes) → InSet l → Reads l (read l)
unfolding doing
line_reads l h =
    by (is_remark l)
    (λ e. ⊎_elim (λ q. subst (Reads l) (sym q) (reads-bare l (text l) (refl, (refl, (refl, refl))))) (λ q. subst (Reads l) (sym q) (reads-bare l passes (refl, (refl, refl))))
    (remark-says l e))
    (λ e. subst (Reads l) (sym (statement-says l e)) (reads-says l (statement-held l h) (statement_on l)))

-- a line that is well written
pub written_in : (l : Bytes) → is_ill_written l ≡ false → (length l ≤ line_limit) × InSet l
unfolding is_ill_written
written_in l h = (ltb-false line_limit (length l) (or_left (ltb line_limit (length l)) _ h), not-false _ (or_right (ltb line_limit (length l)) _ h))
