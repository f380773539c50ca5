-- A renamed line says the same, by its new names.
use Prim.Native.Nat.{suc}
use mathlib.Core.Path.{◌≡◌, refl, ap, sym, ◌∙◌}
use mathlib.Core.Logic.{◌⊎◌, inl, inr}
use mathlib.Core.Bool.{Bool, true, false, ◌&&◌, not}
use mathlib.Core.List.{List, [], ◌∷◌, ◌++◌, map}
use lib.ListN.{length, drop, get_or}
use Rattle.text.specs.Bytes.{Bytes, same}
use Rattle.text.specs.Characters.{letter, digit, letter_or_digit}
use Rattle.text.specs.Words.{words, place_among, word_number}
use Rattle.text.proofs.Same.{same-is}
use Rattle.rules.specs.Choice.{choose, every}
use Rattle.rules.specs.Lexemes.{byte_of, is_plain, is_mark, after, field_start, follows, marked, symbols, lexed, unlexed, is_sequence}
use Rattle.rules.specs.Fields.{Fields, fields_of, statement_fields, no_fields, is_remark}
use Rattle.rules.specs.Statement.{Statement, macro, mend, mexit, local, global, set, aif, ago, anop, actr, model, statements, statement_of, passes, text, models, sets, branches_if, branches, counts, Line, map_lex, map_does, map_line, target_in, is_copied, doing, model_of, says, read}
use Rattle.rules.proofs.Choices.{by, chosen, passed_over, and_left, and_right}
use Rattle.rules.proofs.Logic.{clash}
use Rattle.rules.proofs.Lossless.{lexed-back, fields_back}
use Rattle.rules.proofs.Said.{remark-says, statement-says}
use Rattle.demands.specs.Renaming.{Renaming, RenamedText, RenamedSequence, RenamedName, sequence, plain, RenamedOperand, RenamedFields, RenamedLine, remark, statement}
use Rattle.demands.proofs.Relabelled.{same-all-plain, all-plain-stay}
use Rattle.demands.proofs.NamedSets.{is_set, is_set_by_sequence}

-- no variable symbol, and no ampersand left over, in a name or operation field
abbrev pub has_no_symbol : Bytes → Bool
has_no_symbol o = every is_plain (lexed false o)

-- a text with a variable symbol is none of the words that have none
no_place : (ws : List Bytes) → every has_no_symbol ws ≡ true → (o : Bytes) → has_no_symbol o ≡ false → place_among ws o ≡ length ws
unfolding every
no_place [] h o e = refl
no_place (w ∷ ws) h o e =
    let differs : same w o ≡ false = by (same w o) (λ t. clash (ap has_no_symbol (sym (same-is w o t)) ∙ and_left (has_no_symbol w) (every has_no_symbol ws) h) e) (λ f. f) in
    λ i. elim (differs i) [ true ↦ 0 | false ↦ suc (no_place ws (and_right (has_no_symbol w) (every has_no_symbol ws) h) o e i) ]

plain-words : every has_no_symbol words ≡ true
unfolding every words is_plain lexed symbols marked is_mark after field_start follows byte_of choose letter digit letter_or_digit
plain-words = refl

-- an operation with a variable symbol is no language word
no_word : (o : Bytes) → has_no_symbol o ≡ false → statement_of o ≡ model
unfolding statement_of statements word_number words
no_word o e = ap (λ n. get_or statements n model) (no_place words plain-words o e)

module _ (r : Renaming) where
  -- a text without variable symbols is the same bytes
  pub plain-text : (quotes : Bool) (s t : Bytes) → RenamedText r quotes s t → every is_plain (lexed quotes s) ≡ true → t ≡ s
  plain-text quotes s t e h =
      sym (lexed-back quotes t) ∙ (ap unlexed (e ∙ all-plain-stay r.symbols (lexed quotes s) h) ∙ lexed-back quotes s)

  plainness : (quotes : Bool) (s t : Bytes) → RenamedText r quotes s t → every is_plain (lexed quotes t) ≡ every is_plain (lexed quotes s)
  plainness quotes s t e = ap (every is_plain) e ∙ same-all-plain r.symbols (lexed quotes s)

  pub same-statement : (o p : Bytes) → RenamedText r false o p → statement_of p ≡ statement_of o
  same-statement o p h =
      by (has_no_symbol o) (λ e. ap statement_of (plain-text false o p h e)) (λ e. no_word p (plainness false o p h ∙ e) ∙ sym (no_word o e))

  -- a renamed operation is a word without variable symbols exactly when it was that word
  pub same_word : (w : Bytes) → has_no_symbol w ≡ true → (o p : Bytes) → RenamedText r false o p → same p w ≡ same o w
  same_word w k o p h =
      by (has_no_symbol o) (λ e. ap (λ s. same s w) (plain-text false o p h e))
      (λ e. other p (plainness false o p h ∙ e) ∙ sym (other o e))
    where
      other : (s : Bytes) → has_no_symbol s ≡ false → same s w ≡ false
      other s e = by (same s w) (λ t. clash (ap has_no_symbol (same-is s w t) ∙ k) e) (λ f. f)

-- ---- a line that is copied

and-never : (a b c : Bool) → (a && (b && (c && false))) ≡ false
and-never true true true = refl
and-never true true false = refl
and-never true false c = refl
and-never false b c = refl

never-copied : (f : Fields) → is_sequence f.name ≡ true → is_copied f ≡ false
unfolding is_copied
never-copied f e =
    ap (λ (s : Bool). has_no_symbol f.name && (has_no_symbol f.operation && (every is_plain (lexed true f.operand) && not s))) e
    ∙ and-never (has_no_symbol f.name) (has_no_symbol f.operation) (every is_plain (lexed true f.operand))

module _ (r : Renaming) (f g : Fields) where
  same-copied : RenamedName r f.name g.name → RenamedText r false f.operation g.operation → RenamedText r true f.operand g.operand
      → is_copied g ≡ is_copied f
  unfolding is_copied
  same-copied (sequence q) o a = never-copied g q.now ∙ sym (never-copied f q.was)
  same-copied (plain s t e) o a =
      λ i. plainness r false f.name g.name e i
      && (plainness r false f.operation g.operation o i && (plainness r true f.operand g.operand a i && not ((t ∙ sym s) i)))

  copied-name : is_copied f ≡ true → RenamedName r f.name g.name → g.name ≡ f.name
  unfolding is_copied
  copied-name e (sequence q) = clash e (never-copied f q.was)
  copied-name e (plain s t h) = plain-text r false f.name g.name h (and_left (has_no_symbol f.name) _ e)

  copied-operation : is_copied f ≡ true → RenamedText r false f.operation g.operation → g.operation ≡ f.operation
  unfolding is_copied
  copied-operation e h = plain-text r false f.operation g.operation h (and_left (has_no_symbol f.operation) _ (and_right (has_no_symbol f.name) _ e))

  copied-operand : is_copied f ≡ true → RenamedText r true f.operand g.operand → g.operand ≡ f.operand
  unfolding is_copied
  copied-operand e h =
      plain-text r true f.operand g.operand h
      (and_left (every is_plain (lexed true f.operand)) _ (and_right (has_no_symbol f.operation) _ (and_right (has_no_symbol f.name) _ e)))

  -- the name that a model statement keeps
  model-name : RenamedName r f.name g.name
      → choose (is_sequence g.name) [] (lexed false g.name) ≡ map (map_lex r.symbols) (choose (is_sequence f.name) [] (lexed false f.name))
  model-name (sequence q) = chosen _ _ q.now ∙ sym (ap (map (map_lex r.symbols)) (chosen _ _ q.was))
  model-name (plain s t e) = passed_over _ _ t ∙ (e ∙ sym (ap (map (map_lex r.symbols)) (passed_over _ _ s)))

  set-name : is_sequence f.name ≡ false → RenamedName r f.name g.name → lexed false g.name ≡ map (map_lex r.symbols) (lexed false f.name)
  set-name e (sequence q) = clash q.was e
  set-name e (plain s t h) = h

-- the branch target that a sequence symbol is
target-renamed : (r : Renaming) (s t : Bytes) → RenamedSequence r s t → drop 1 t ≡ r.sequences (drop 1 s)
target-renamed r s t q = ap (drop 1) q.renamed

module _ (r : Renaming) (l m : Bytes) where
  abbrev mapped : Line Bytes Bytes → Line Bytes Bytes
  mapped = map_line r.symbols r.sequences

  same_line : RenamedFields r (fields_of l) (fields_of m) → RenamedText r true (fields_of l).operand (fields_of m).operand → is_copied (fields_of l) ≡ true → m ≡ l
  same_line h a e =
      let f = fields_of l in
      let g = fields_of m in
      sym (fields_back m)
      ∙ ((λ i. copied-name r f g e h.name i ++ (h.gap i ++ (copied-operation r f g e h.operation i ++ (h.gap₂ i ++ (copied-operand r f g e a i ++ h.remarks i)))))
      ∙ fields_back l)

  says-renamed : RenamedFields r (fields_of l) (fields_of m) → (s : Statement) → RenamedOperand r s (fields_of l).operand (fields_of m).operand
      → (is_set s && is_sequence (fields_of l).name) ≡ false → says m (fields_of m) s ≡ mapped (says l (fields_of l) s)
  unfolding says doing map_line map_does target_in model_of
  says-renamed h macro a e = refl
  says-renamed h mend a e = refl
  says-renamed h mexit a e = refl
  says-renamed h (local k) a e = refl
  says-renamed h (global k) a e = refl
  says-renamed h (set k) a e = λ i. record { does = sets k; name = set-name r (fields_of l) (fields_of m) e h.name i; operation = []; operand = a i }
  says-renamed h aif a e = λ i. record { does = branches_if (target-renamed r _ _ a.target i); name = []; operation = []; operand = a.condition i }
  says-renamed h ago a e =
      ap (λ t. doing (branches t))
      (ap (drop 1) (lexed-back true (fields_of m).operand)
      ∙ (target-renamed r _ _ a ∙ sym (ap (λ t. r.sequences (drop 1 t)) (lexed-back true (fields_of l).operand))))
  says-renamed h anop a e = refl
  says-renamed h actr a e = λ i. record { does = counts; name = []; operation = []; operand = a i }
  says-renamed h model a e =
      let f = fields_of l in
      let g = fields_of m in
      let c : is_copied g ≡ is_copied f = same-copied r f g h.name h.operation a in
      by (is_copied f)
      (λ t. chosen _ _ (c ∙ t) ∙ (ap (λ s. doing (text s)) (same_line h a t) ∙ sym (ap mapped (chosen _ _ t))))
      (λ t. passed_over _ _ (c ∙ t)
      ∙ ((λ i. record { does = models; name = model-name r f g h.name i; operation = h.operation i; operand = a i }) ∙ sym (ap mapped (passed_over _ _ t))))

  -- a remark has no symbol
  remark-stays : is_remark l ≡ true → read l ≡ mapped (read l)
  unfolding doing map_line map_does
  remark-stays e = go (remark-says l e)
    where
      go : (read l ≡ doing (text l)) ⊎ (read l ≡ doing passes) → read l ≡ mapped (read l)
      go (inl h) = h ∙ sym (ap mapped h)
      go (inr h) = h ∙ sym (ap mapped h)

-- the fields of a line that is no remark
pub fields-of : (l : Bytes) → is_remark l ≡ false → statement_fields l ≡ fields_of l
unfolding statement_fields
fields-of l e = passed_over no_fields (fields_of l) e

line-says : (l : Bytes) → is_remark l ≡ false → read l ≡ says l (fields_of l) (statement_of (fields_of l).operation)
line-says l e = statement-says l e ∙ ap (λ (f : Fields). says l f (statement_of f.operation)) (fields-of l e)

pub read-renamed : (r : Renaming) (l m : Bytes) → is_set_by_sequence l ≡ false → RenamedLine r l m → read m ≡ map_line r.symbols r.sequences (read l)
read-renamed r l m e (remark h k) = ap read k ∙ remark-stays r l m h
read-renamed r l m e (statement h k q) =
    line-says m k
    ∙ (ap (says m (fields_of m)) (same-statement r (fields_of l).operation (fields_of m).operation q.operation)
    ∙ (says-renamed r l m q (statement_of (fields_of l).operation) q.operand
    (sym (ap (λ (f : Fields). is_set (statement_of f.operation) && is_sequence f.name) (fields-of l h)) ∙ e)
    ∙ sym (ap (map_line r.symbols r.sequences) (line-says l h))))
