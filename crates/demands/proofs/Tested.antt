-- The relation as a test, for renamings that are given: where the test holds, so does the relation.
use mathlib.Core.Path.{◌≡◌, refl, ap, sym, ◌∙◌}
use mathlib.Core.Bool.{Bool, true, false, false≢true, ◌&&◌, not}
use mathlib.Core.List.{List, [], ◌∷◌, map}
use lib.Dec.{eqb}
use lib.ListN.{take, drop}
use borrow.Author.Tests.{eqb-true, not-true}
use Rattle.text.specs.Bytes.{Bytes, same}
use Rattle.text.proofs.Same.{same-is}
use Rattle.rules.specs.Choice.{choose, every, any}
use Rattle.rules.specs.Lexemes.{period, Lex, byte, mark, ref, lone, lexed, unlexed, is_sequence}
use Rattle.rules.specs.Fields.{is_remark, Fields, fields_of}
use Rattle.rules.specs.Statement.{Statement, macro, mend, mexit, local, global, set, aif, ago, anop, actr, model, statement_of, map_lex, condition_end}
use Rattle.rules.specs.Library.{is_mend, Names, operand_parts, keyword_names}
use Rattle.rules.proofs.Choices.{by, chosen, passed_over, and_left, and_right}
use Rattle.rules.proofs.Logic.{else-so}
use Rattle.demands.specs.Renaming.{Renaming, OneForOne, kept_names, Proper, RenamedText, RenamedSequence, RenamedName, sequence, plain, RenamedOperand, RenamedFields, RenamedLine, remark, statement, RenamedPrototype, RenamedBody, last, ◌then◌}

-- ---- equality as a test

unfoldable pub same_lexeme : Lex Bytes → Lex Bytes → Bool
same_lexeme (byte c) (byte d) = eqb c d
same_lexeme (byte c) mark = false
same_lexeme (byte c) (ref n) = false
same_lexeme (byte c) lone = false
same_lexeme mark (byte d) = false
same_lexeme mark mark = true
same_lexeme mark (ref n) = false
same_lexeme mark lone = false
same_lexeme (ref m) (byte d) = false
same_lexeme (ref m) mark = false
same_lexeme (ref m) (ref n) = same m n
same_lexeme (ref m) lone = false
same_lexeme lone (byte d) = false
same_lexeme lone mark = false
same_lexeme lone (ref n) = false
same_lexeme lone lone = true

lexeme-is : (x y : Lex Bytes) → same_lexeme x y ≡ true → x ≡ y
unfolding same_lexeme
lexeme-is (byte c) (byte d) e = ap byte (eqb-true c d e)
lexeme-is (byte c) mark e = absurd (false≢true e)
lexeme-is (byte c) (ref n) e = absurd (false≢true e)
lexeme-is (byte c) lone e = absurd (false≢true e)
lexeme-is mark (byte d) e = absurd (false≢true e)
lexeme-is mark mark e = refl
lexeme-is mark (ref n) e = absurd (false≢true e)
lexeme-is mark lone e = absurd (false≢true e)
lexeme-is (ref m) (byte d) e = absurd (false≢true e)
lexeme-is (ref m) mark e = absurd (false≢true e)
lexeme-is (ref m) (ref n) e = ap ref (same-is m n e)
lexeme-is (ref m) lone e = absurd (false≢true e)
lexeme-is lone (byte d) e = absurd (false≢true e)
lexeme-is lone mark e = absurd (false≢true e)
lexeme-is lone (ref n) e = absurd (false≢true e)
lexeme-is lone lone e = refl

-- two lists, element by element
unfoldable pub same_all : {A : Type 0} → (A → A → Bool) → List A → List A → Bool
same_all test [] [] = true
same_all test [] (b ∷ t) = false
same_all test (a ∷ s) [] = false
same_all test (a ∷ s) (b ∷ t) = test a b && same_all test s t

all_are : {A : Type 0} (test : A → A → Bool) → ((a b : A) → test a b ≡ true → a ≡ b) → (s t : List A) → same_all test s t ≡ true → s ≡ t
unfolding same_all
all_are test h [] [] e = refl
all_are test h [] (b ∷ t) e = absurd (false≢true e)
all_are test h (a ∷ s) [] e = absurd (false≢true e)
all_are test h (a ∷ s) (b ∷ t) e = λ i. h a b (and_left (test a b) (same_all test s t) e) i ∷ all_are test h s t (and_right (test a b) (same_all test s t) e) i

unfoldable pub same_pair : Bytes × Bytes → Bytes × Bytes → Bool
same_pair a b = same a.0 b.0 && same a.1 b.1

pair_is : (a b : Bytes × Bytes) → same_pair a b ≡ true → a ≡ b
unfolding same_pair
pair_is a b e = λ i. (same-is a.0 b.0 (and_left _ _ e) i, same-is a.1 b.1 (and_right (same a.0 b.0) _ e) i)

-- names that are found unchanged, one by one, are kept
all-kept : (f : Bytes → Bytes) (ns : List Bytes) → every (λ n. same (f n) n) ns ≡ true → (n : Bytes) → any (same n) ns ≡ true → f n ≡ n
unfolding every any
all-kept f [] h n e = absurd (false≢true e)
all-kept f (m ∷ ms) h n e =
    by (same n m)
    (λ t. let p = same-is n m t in ap f p ∙ (same-is (f m) m (and_left (same (f m) m) (every (λ k. same (f k) k) ms) h) ∙ sym p))
    (λ t. all-kept f ms (and_right (same (f m) m) (every (λ k. same (f k) k) ms) h) n (else-so (same n m) (any (same n) ms) e t))

pub proper-kept : {r : Renaming} {names : Names} → OneForOne r.symbols → OneForOne r.sequences
    → every (λ n. same (r.symbols n) n) (kept_names names) ≡ true → Proper r names
proper-kept {r} {names} one one' h = record { symbols-one = one; sequences-one = one'; kept = all-kept r.symbols (kept_names names) h }

-- ---- the tests of the relation

module _ (r : Renaming) where
  unfoldable pub is_renamed_text : Bool → Bytes → Bytes → Bool
  is_renamed_text quotes s t = same_all same_lexeme (lexed quotes t) (map (map_lex r.symbols) (lexed quotes s))

  unfoldable pub is_renamed_sequence : Bytes → Bytes → Bool
  is_renamed_sequence s t = is_sequence s && (is_sequence t && same t (period ∷ r.sequences (drop 1 s)))

  unfoldable pub is_renamed_name : Bytes → Bytes → Bool
  is_renamed_name s t = choose (is_sequence s) (is_renamed_sequence s t) (not (is_sequence t) && is_renamed_text false s t)

  unfoldable pub is_renamed_branch : List (Lex Bytes) → List (Lex Bytes) → Bool
  is_renamed_branch x y =
      same_all same_lexeme (take (condition_end y) y) (map (map_lex r.symbols) (take (condition_end x) x))
      && is_renamed_sequence (unlexed (drop (condition_end x) x)) (unlexed (drop (condition_end y) y))

  unfoldable pub is_renamed_operand : Statement → Bytes → Bytes → Bool
  is_renamed_operand macro s t = same t s
  is_renamed_operand mend s t = same t s
  is_renamed_operand mexit s t = same t s
  is_renamed_operand (local k) s t = is_renamed_text true s t
  is_renamed_operand (global k) s t = is_renamed_text true s t
  is_renamed_operand (set k) s t = is_renamed_text true s t
  is_renamed_operand aif s t = is_renamed_branch (lexed true s) (lexed true t)
  is_renamed_operand ago s t = is_renamed_sequence s t
  is_renamed_operand anop s t = same t s
  is_renamed_operand actr s t = is_renamed_text true s t
  is_renamed_operand model s t = is_renamed_text true s t

  unfoldable pub are_renamed_fields : Fields → Fields → Bool
  are_renamed_fields f g =
      is_renamed_name f.name g.name && (same g.gap f.gap && (is_renamed_text false f.operation g.operation && (same g.gap₂ f.gap₂
      && (is_renamed_operand (statement_of f.operation) f.operand g.operand && same g.remarks f.remarks))))

  unfoldable pub is_renamed_line : Bytes → Bytes → Bool
  is_renamed_line l m = choose (is_remark l) (same m l) (not (is_remark m) && are_renamed_fields (fields_of l) (fields_of m))

  unfoldable pub is_renamed_prototype : Bytes → Bytes → Bool
  is_renamed_prototype p q =
      let f = fields_of p in
      let g = fields_of q in
      not (is_remark p) && (not (is_remark q) && (is_renamed_text false f.name g.name && (same g.gap f.gap && (same g.operation f.operation
      && (same g.gap₂ f.gap₂ && (is_renamed_text true f.operand g.operand
      && (same_all same_pair (keyword_names (operand_parts g)) (keyword_names (operand_parts f)) && same g.remarks f.remarks)))))))

  unfoldable pub is_renamed_body : List Bytes → List Bytes → Bool
  is_renamed_body [] c = false
  is_renamed_body (l ∷ ls) [] = false
  is_renamed_body (l ∷ []) (m ∷ []) = is_mend l && is_renamed_line l m
  is_renamed_body (l ∷ []) (m ∷ (n ∷ ms)) = false
  is_renamed_body (l ∷ (k ∷ ls)) (m ∷ ms) = not (is_mend l) && (is_renamed_line l m && is_renamed_body (k ∷ ls) ms)

  -- ---- what holds where they do

  text-tested : (quotes : Bool) (s t : Bytes) → is_renamed_text quotes s t ≡ true → RenamedText r quotes s t
  unfolding is_renamed_text
  text-tested quotes s t e = all_are same_lexeme lexeme-is _ _ e

  sequence-tested : (s t : Bytes) → is_renamed_sequence s t ≡ true → RenamedSequence r s t
  unfolding is_renamed_sequence
  sequence-tested s t e =
      let e₂ = and_right (is_sequence s) (is_sequence t && same t (period ∷ r.sequences (drop 1 s))) e in
      record { was = and_left (is_sequence s) _ e; now = and_left (is_sequence t) _ e₂; renamed = same-is t _ (and_right (is_sequence t) _ e₂) }

  name-tested : (s t : Bytes) → is_renamed_name s t ≡ true → RenamedName r s t
  unfolding is_renamed_name
  name-tested s t e =
      by (is_sequence s) (λ h. sequence (sequence-tested s t (sym (chosen _ _ h) ∙ e)))
      (λ h. let k : (not (is_sequence t) && is_renamed_text false s t) ≡ true = sym (passed_over _ _ h) ∙ e in
      plain h (not-true (is_sequence t) (and_left (not (is_sequence t)) _ k)) (text-tested false s t (and_right (not (is_sequence t)) _ k)))

  operand-tested : (k : Statement) (s t : Bytes) → is_renamed_operand k s t ≡ true → RenamedOperand r k s t
  unfolding is_renamed_operand is_renamed_branch
  operand-tested macro s t e = same-is t s e
  operand-tested mend s t e = same-is t s e
  operand-tested mexit s t e = same-is t s e
  operand-tested (local k) s t e = text-tested true s t e
  operand-tested (global k) s t e = text-tested true s t e
  operand-tested (set k) s t e = text-tested true s t e
  operand-tested aif s t e =
      let x = lexed true s in
      let y = lexed true t in
      let same-condition = same_all same_lexeme (take (condition_end y) y) (map (map_lex r.symbols) (take (condition_end x) x)) in
      record { condition = all_are same_lexeme lexeme-is _ _ (and_left same-condition _ e); target = sequence-tested _ _ (and_right same-condition _ e) }
  operand-tested ago s t e = sequence-tested s t e
  operand-tested anop s t e = same-is t s e
  operand-tested actr s t e = text-tested true s t e
  operand-tested model s t e = text-tested true s t e

  fields-tested : (f g : Fields) → are_renamed_fields f g ≡ true → RenamedFields r f g
  unfolding are_renamed_fields
  fields-tested f g e =
      let e₂ = and_right (is_renamed_name f.name g.name) _ e in
      let e₃ = and_right (same g.gap f.gap) _ e₂ in
      let e₄ = and_right (is_renamed_text false f.operation g.operation) _ e₃ in
      let e₅ = and_right (same g.gap₂ f.gap₂) _ e₄ in
      let e₆ = and_right (is_renamed_operand (statement_of f.operation) f.operand g.operand) _ e₅ in
      record {
        name = name-tested f.name g.name (and_left _ _ e);
        gap = same-is g.gap f.gap (and_left _ _ e₂);
        operation = text-tested false f.operation g.operation (and_left _ _ e₃);
        gap₂ = same-is g.gap₂ f.gap₂ (and_left _ _ e₄);
        operand = operand-tested (statement_of f.operation) f.operand g.operand (and_left _ _ e₅);
        remarks = same-is g.remarks f.remarks e₆;
      }

  line-tested : (l m : Bytes) → is_renamed_line l m ≡ true → RenamedLine r l m
  unfolding is_renamed_line
  line-tested l m e =
      by (is_remark l) (λ h. remark h (same-is m l (sym (chosen _ _ h) ∙ e)))
      (λ h. let k : (not (is_remark m) && are_renamed_fields (fields_of l) (fields_of m)) ≡ true = sym (passed_over _ _ h) ∙ e in
      statement h (not-true (is_remark m) (and_left (not (is_remark m)) _ k)) (fields-tested (fields_of l) (fields_of m) (and_right (not (is_remark m)) _ k)))

  pub body-tested : (b c : List Bytes) → is_renamed_body b c ≡ true → RenamedBody r b c
  unfolding is_renamed_body
  body-tested [] c e = absurd (false≢true e)
  body-tested (l ∷ ls) [] e = absurd (false≢true e)
  body-tested (l ∷ []) (m ∷ []) e = last (and_left (is_mend l) _ e) (line-tested l m (and_right (is_mend l) _ e))
  body-tested (l ∷ []) (m ∷ (n ∷ ms)) e = absurd (false≢true e)
  body-tested (l ∷ (k ∷ ls)) (m ∷ ms) e =
      let e₂ = and_right (not (is_mend l)) (is_renamed_line l m && is_renamed_body (k ∷ ls) ms) e in
      ◌then◌ (not-true (is_mend l) (and_left (not (is_mend l)) _ e), line-tested l m (and_left (is_renamed_line l m) _ e₂))
      (body-tested (k ∷ ls) ms (and_right (is_renamed_line l m) _ e₂))

  pub prototype-tested : (p q : Bytes) → is_renamed_prototype p q ≡ true → RenamedPrototype r p q
  unfolding is_renamed_prototype
  prototype-tested p q e =
      let f = fields_of p in
      let g = fields_of q in
      let e₂ = and_right (not (is_remark p)) _ e in
      let e₃ = and_right (not (is_remark q)) _ e₂ in
      let e₄ = and_right (is_renamed_text false f.name g.name) _ e₃ in
      let e₅ = and_right (same g.gap f.gap) _ e₄ in
      let e₆ = and_right (same g.operation f.operation) _ e₅ in
      let e₇ = and_right (same g.gap₂ f.gap₂) _ e₆ in
      let e₈ = and_right (is_renamed_text true f.operand g.operand) _ e₇ in
      let e₉ = and_right (same_all same_pair (keyword_names (operand_parts g)) (keyword_names (operand_parts f))) _ e₈ in
      record {
        no-remark = not-true (is_remark p) (and_left _ _ e);
        no-remark₂ = not-true (is_remark q) (and_left _ _ e₂);
        name = text-tested false f.name g.name (and_left _ _ e₃);
        gap = same-is g.gap f.gap (and_left _ _ e₄);
        operation = same-is g.operation f.operation (and_left _ _ e₅);
        gap₂ = same-is g.gap₂ f.gap₂ (and_left _ _ e₆);
        operand = text-tested true f.operand g.operand (and_left _ _ e₇);
        keywords = all_are same_pair pair_is _ _ (and_left _ _ e₈);
        remarks = same-is g.remarks f.remarks e₉;
      }
