-- A statement's shape over the codes of its fields says what the statement says. Assumes nothing.
use Prim.Native.Nat.{ℕ, zero, suc, ◌+◌, ◌-◌, ◌≤◌, min}
use native.Mathlib.Omega.{arith}
use mathlib.Core.Path.{◌≡◌, refl, ap, sym, ◌∙◌, subst}
use mathlib.Core.Bool.{Bool, true, false, ◌&&◌, not, and_assoc}
use mathlib.Core.List.{List, [], ◌∷◌, ◌++◌, map}
use lib.Dec.{eqb}
use lib.ListN.{length, take, drop, length-append}
use Rattle.text.specs.Bytes.{Bytes}
use Rattle.rules.specs.Choice.{choose, every}
use Rattle.rules.specs.Lexemes.{Lex, is_plain, lexed, unlexed, sequence_start, is_sequence}
use Rattle.rules.specs.Fields.{Fields}
use Rattle.rules.specs.Statement.{Set, Statement, macro, mend, mexit, local, global, set, aif, ago, anop, actr, model, condition_end, Does, passes, ends, exits, text, models, sets, branches_if, branches, counts, is_copied, doing, model_of, says}
use Rattle.rules.specs.Faults.{target_behind}
use Rattle.rules.proofs.Choices.{chosen, passed_over, by, either, into}
use Rattle.rules.proofs.ReadLines.{InSet}
use Rattle.rules.proofs.Lossless.{lexed-back}
use Rattle.kinds.specs.Kinds.{does_for}
use Rattle.kinds.specs.declared.Does.TheVariants.{BranchesIf, Text}
use Rattle.coding.specs.Coded.{code_by}
use Rattle.grammar.specs.Tokens.{toks_at}
use Rattle.shapes.specs.declared.Codes.{Codes as Ends}
use Rattle.shapes.specs.Shapes.{part, ends_of, is_plain_code, keeps_none, keeps_operand, branching, branching_if, modelling, shape_of, target_text, Spelt}
use Rattle.shapes.proofs.Parts.{part_none, first_part, second-part, third-part, third-front, third-rest}
use Rattle.shapes.proofs.Texts.{High, condition-coded, plain-codes}

map-take : {A B : Type 0} (f : A → B) (k : ℕ) (l : List A) → take k (map f l) ≡ map f (take k l)
map-take f zero [] = refl
map-take f zero (a ∷ l) = refl
map-take f (suc k) [] = refl
map-take f (suc k) (a ∷ l) = ap (f a ∷◌) (map-take f k l)

map-drop : {A B : Type 0} (f : A → B) (k : ℕ) (l : List A) → drop k (map f l) ≡ map f (drop k l)
map-drop f zero [] = refl
map-drop f zero (a ∷ l) = refl
map-drop f (suc k) [] = refl
map-drop f (suc k) (a ∷ l) = map-drop f k l

module _ (g : Bytes → ℕ) (high : High g) (l : Bytes) (f : Fields) (in-name : InSet f.name) (in-operation : InSet f.operation) (in-operand : InSet f.operand)
    (start-coded : (x : List (Lex Bytes)) → sequence_start (map (code_by g) x) ≡ sequence_start (unlexed x))
    (sequence-coded : (x : List (Lex Bytes)) → is_sequence (map (code_by g) x) ≡ is_sequence (unlexed x)) where
  abbrev x₁ : List (Lex Bytes)
  x₁ = lexed false f.name

  abbrev x₂ : List (Lex Bytes)
  x₂ = lexed false f.operation

  abbrev x₃ : List (Lex Bytes)
  x₃ = lexed true f.operand

  abbrev a : Bytes
  a = map (code_by g) x₁

  abbrev b : Bytes
  b = map (code_by g) x₂

  abbrev c : Bytes
  c = map (code_by g) x₃

  abbrev s : Bytes
  s = a ++ (b ++ c)

  abbrev e : Ends
  e = ends_of a b c

  whole : length s ≡ length a + length b + length c
  whole = omega (arith, length-append a (b ++ c), length-append b c)

  none-spelt : (d : Does Bytes) → Spelt g (doing d) [] s (keeps_none (does_for d) e)
  unfolding doing ends_of
  none-spelt d = record {
    does = refl;
    name = refl;
    operation = part_none s (length a);
    operand = part_none s (length a + length b);
    start = ap sequence_start (part_none s (length a + length b));
    is-sequence = ap is_sequence (part_none s (length a + length b));
    name-in = omega arith;
    operation-in = (omega arith, omega (arith, whole));
    operand_in = (omega arith, (omega arith, omega (arith, whole)));
  }

  set-spelt : (k : Set) → Spelt g (record { does = sets k; name = x₁; operation = []; operand = x₃ }) [] s (keeps_operand (does_for {L = Bytes} (sets k)) (length a) e)
  unfolding ends_of
  set-spelt k = record {
    does = refl;
    name = first_part a b c;
    operation = part_none s (length a);
    operand = third-part a b c;
    start = ap sequence_start (part_none s (length a + length b + length c));
    is-sequence = ap is_sequence (part_none s (length a + length b + length c));
    name-in = omega (arith, whole);
    operation-in = (omega arith, omega (arith, whole));
    operand_in = (omega arith, (omega arith, omega (arith, whole)));
  }

  count-spelt : Spelt g (record { does = counts; name = []; operation = []; operand = x₃ }) [] s (keeps_operand (does_for {L = Bytes} counts) 0 e)
  unfolding ends_of
  count-spelt = record {
    does = refl;
    name = refl;
    operation = part_none s (length a);
    operand = third-part a b c;
    start = ap sequence_start (part_none s (length a + length b + length c));
    is-sequence = ap is_sequence (part_none s (length a + length b + length c));
    name-in = omega arith;
    operation-in = (omega arith, omega (arith, whole));
    operand_in = (omega arith, (omega arith, omega (arith, whole)));
  }

  branch-spelt : (t : Bytes) → Spelt g (doing (branches t)) f.operand s (branching e)
  unfolding doing ends_of
  branch-spelt t = record {
    does = refl;
    name = refl;
    operation = part_none s (length a);
    operand = part_none s (length a + length b);
    start = ap sequence_start (third-part a b c) ∙ (start-coded x₃ ∙ ap sequence_start (lexed-back true f.operand));
    is-sequence = ap is_sequence (third-part a b c) ∙ (sequence-coded x₃ ∙ ap is_sequence (lexed-back true f.operand));
    name-in = omega arith;
    operation-in = (omega arith, omega (arith, whole));
    operand_in = (omega arith, (omega arith, omega (arith, whole)));
  }

  -- what stands behind the condition, in codes and as it was written
  abbrev Target : ℕ → ℕ → Type 0
  Target k to = (map (code_by g) (choose (eqb k 0) [] (drop k x₃)) ≡ part s (length a + length b + min k (length c)) to) × ((length a + length b + min k (length c) ≤ to) × (to ≤ length s))

  behind : (k : ℕ) → Target k (choose (eqb k 0) (length a + length b + min k (length c)) (length a + length b + length c))
  behind k =
      by (eqb k 0)
      (λ h. subst (Target k) (sym (chosen _ _ h)) (ap (map (code_by g)) (chosen _ _ h) ∙ sym (part_none s (length a + length b + min k (length c))), (omega arith, omega (arith, whole))))
      (λ h. subst (Target k) (sym (passed_over _ _ h)) (ap (map (code_by g)) (passed_over _ _ h) ∙ (sym (map-drop (code_by g) k x₃) ∙ sym (third-rest a b c k)), (omega arith, omega (arith, whole))))

  written : (k : ℕ) → unlexed (choose (eqb k 0) [] (drop k x₃)) ≡ choose (eqb k 0) [] (unlexed (drop k x₃))
  unfolding unlexed
  written k = into unlexed (eqb k 0) [] (drop k x₃)

  if-spelt : (t : Bytes) (k : ℕ) → Spelt g (record { does = branches_if t; name = []; operation = []; operand = take k x₃ }) (choose (eqb k 0) [] (unlexed (drop k x₃))) s (branching_if k e)
  unfolding ends_of
  if-spelt t k =
      let n : length a + length b + length c - (length a + length b) ≡ length c = omega arith in
      let r = behind k in
      subst (λ (m : ℕ). Spelt g (record { does = branches_if t; name = []; operation = []; operand = take k x₃ }) (choose (eqb k 0) [] (unlexed (drop k x₃))) s
      (record {
        does = BranchesIf;
        name = 0;
        operation = length a;
        gap = length a;
        operand = length a + length b;
        rest = length a + length b + min k m;
        end = choose (eqb k 0) (length a + length b + min k m) (length a + length b + length c);
      })) (sym n)
      (record {
        does = refl;
        name = refl;
        operation = part_none s (length a);
        operand = third-front a b c k ∙ map-take (code_by g) k x₃;
        start = ap sequence_start (sym r.0) ∙ (start-coded _ ∙ ap sequence_start (written k));
        is-sequence = ap is_sequence (sym r.0) ∙ (sequence-coded _ ∙ ap is_sequence (written k));
        name-in = omega arith;
        operation-in = (omega arith, omega (arith, whole));
        operand_in = (omega arith, (r.1.0, r.1.1));
      })

  model-spelt : (label : Bool) → Spelt g (record { does = models; name = choose label [] x₁; operation = x₂; operand = x₃ }) [] s (modelling label e)
  unfolding ends_of choose
  model-spelt label = record {
    does = refl;
    name = kept label;
    operation = second-part a b c;
    operand = third-part a b c;
    start = ap sequence_start (part_none s (length a + length b + length c));
    is-sequence = ap is_sequence (part_none s (length a + length b + length c));
    name-in = either (λ (n : ℕ). n ≤ length s) label (λ h. omega arith) (λ h. omega (arith, whole));
    operation-in = (omega arith, omega (arith, whole));
    operand_in = (omega arith, (omega arith, omega (arith, whole)));
  }
    where
      kept : (label : Bool) → take (choose label 0 (length a)) s ≡ map (code_by g) (choose label [] x₁)
      kept true = refl
      kept false = first_part a b c

  copied : (is_plain_code s && not (is_sequence f.name)) ≡ is_copied f
  unfolding is_copied
  copied =
      let set-in : (q : Bool) (t : Bytes) → InSet t → InSet (unlexed (lexed q t)) = λ q t h. subst InSet (sym (lexed-back q t)) h in
      ap (λ (r : Bool). r && not (is_sequence f.name)) (plain-codes g high x₁ x₂ x₃ (set-in false _ in-name) (set-in false _ in-operation) (set-in true _ in-operand))
      ∙ (and_assoc (every is_plain x₁) _ _ ∙ ap (λ (r : Bool). every is_plain x₁ && r) (and_assoc (every is_plain x₂) _ _))

  pub spelt : (st : Statement) → Spelt g (says l f st) (target_text f st) s (shape_of st (is_sequence f.name) e s)
  unfolding says target_text shape_of target_behind model_of ends_of
  spelt macro = none-spelt passes
  spelt mend = none-spelt ends
  spelt mexit = none-spelt exits
  spelt (local k) = none-spelt passes
  spelt (global k) = none-spelt passes
  spelt (set k) = set-spelt k
  spelt aif =
      let n = ap (λ (t : Bytes). condition_end (toks_at [] t 0)) (third-part a b c) ∙ condition-coded [] g high x₃ (subst InSet (sym (lexed-back true f.operand)) in-operand) in
      subst (λ (k : ℕ). Spelt g (says l f aif) (target_text f aif) s (branching_if k e)) (sym n) (if-spelt _ (condition_end x₃))
  spelt ago = branch-spelt _
  spelt anop = none-spelt passes
  spelt actr = count-spelt
  spelt model =
      subst (λ (r : Bool). Spelt g (says l f model) [] s (choose r (keeps_none Text e) (modelling (is_sequence f.name) e))) (sym copied)
      (by (is_copied f)
      (λ h. subst (λ k. Spelt g (says l f model) [] s k) (sym (chosen _ _ h)) (subst (λ x. Spelt g x [] s (keeps_none Text e)) (sym (chosen _ _ h)) (none-spelt (text l))))
      (λ h. subst (λ k. Spelt g (says l f model) [] s k) (sym (passed_over _ _ h)) (subst (λ x. Spelt g x [] s (modelling (is_sequence f.name) e)) (sym (passed_over _ _ h)) (model-spelt (is_sequence f.name)))))
