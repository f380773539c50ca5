-- What a line says, by what it is: a remark, or a statement with its fields. Assumes nothing.
use mathlib.Core.Path.{◌≡◌, refl, ap, sym, ◌∙◌}
use mathlib.Core.Logic.{◌⊎◌, inl, inr}
use mathlib.Core.Bool.{Bool, true, false, false≢true, ◌&&◌, ◌||◌, not}
use mathlib.Core.List.{List, [], ◌∷◌, map}
use lib.ListN.{length}
use borrow.Author.Tests.{le-ltb}
use Rattle.text.specs.Bytes.{Bytes}
use Rattle.text.specs.Words.{place_among, words, word_number}
use Rattle.rules.specs.Choice.{choose, every}
use Rattle.rules.specs.Fields.{is_copied_remark, is_dropped_remark, is_remark, Fields, fields_of, no_fields, statement_fields}
use Rattle.rules.specs.Statement.{Statement, macro, mend, mexit, local, global, set, aif, ago, anop, actr, model, statements, statement_of, Does, passes, ends, exits, text, models, sets, branches_if, branches, counts, map_does, is_copied, doing, model_of, says, read}
use Rattle.rules.specs.Machine.{is_language_word}
use Rattle.rules.specs.Library.{operation_of}
use Rattle.rules.specs.Faults.{at_statement, ends_declarations}
use Rattle.rules.proofs.Choices.{by, chosen, passed_over}
use Rattle.rules.proofs.Logic.{clash, or_left, or_right, behind-all}

-- the statement on a line
abbrev pub statement_on : Bytes → Statement
statement_on l = statement_of (statement_fields l).operation

pub remark-says : (l : Bytes) → is_remark l ≡ true → (read l ≡ doing (text l)) ⊎ (read l ≡ doing passes)
unfolding read is_remark
remark-says l e =
    by (is_copied_remark l) (λ t. inl (chosen _ _ t))
    (λ f. by (is_dropped_remark l) (λ t. inr (passed_over _ _ f ∙ chosen _ _ t))
    (λ g. clash e (ap (λ (b : Bool). b || is_dropped_remark l) f ∙ g)))

pub remark-fields : (l : Bytes) → is_remark l ≡ true → statement_fields l ≡ no_fields
unfolding statement_fields
remark-fields l e = chosen _ _ e

pub statement-says : (l : Bytes) → is_remark l ≡ false → read l ≡ says l (statement_fields l) (statement_on l)
unfolding read is_remark statement_fields
statement-says l e =
    passed_over _ _ (or_left (is_copied_remark l) (is_dropped_remark l) e)
    ∙ (passed_over _ _ (or_right (is_copied_remark l) (is_dropped_remark l) e)
    ∙ ap (λ (f : Fields). says l f (statement_of f.operation)) (sym (passed_over no_fields (fields_of l) e)))

-- a statement that is no declaration ends the declarations
pub ends_there : (l : Bytes) → is_remark l ≡ false → at_statement (statement_on l) ≡ true → ends_declarations l ≡ true
unfolding ends_declarations operation_of
ends_there l e h = ap (λ (b : Bool). not b && at_statement (statement_on l)) e ∙ h

-- ---- what a line does

abbrev pub is_text : {L : Type 0} → Does L → Bool
is_text passes = false
is_text ends = false
is_text exits = false
is_text (text s) = true
is_text models = false
is_text (sets k) = false
is_text (branches_if t) = false
is_text (branches t) = false
is_text counts = false

abbrev pub text_in : {L : Type 0} → Does L → Bytes
text_in passes = []
text_in ends = []
text_in exits = []
text_in (text s) = s
text_in models = []
text_in (sets k) = []
text_in (branches_if t) = []
text_in (branches t) = []
text_in counts = []

abbrev pub is_count : {L : Type 0} → Does L → Bool
is_count passes = false
is_count ends = false
is_count exits = false
is_count (text s) = false
is_count models = false
is_count (sets k) = false
is_count (branches_if t) = false
is_count (branches t) = false
is_count counts = true

abbrev pub targets : {L : Type 0} → Does L → List L
targets passes = []
targets ends = []
targets exits = []
targets (text s) = []
targets models = []
targets (sets k) = []
targets (branches_if t) = t ∷ []
targets (branches t) = t ∷ []
targets counts = []

-- a line does the same for whatever its targets stand for
module _ {L M : Type 0} (g : L → M) where
  pub text-kept : (d : Does L) → is_text (map_does g d) ≡ is_text d
  unfolding map_does
  text-kept passes = refl
  text-kept ends = refl
  text-kept exits = refl
  text-kept (text s) = refl
  text-kept models = refl
  text-kept (sets k) = refl
  text-kept (branches_if t) = refl
  text-kept (branches t) = refl
  text-kept counts = refl

  pub bytes-kept : (d : Does L) → text_in (map_does g d) ≡ text_in d
  unfolding map_does
  bytes-kept passes = refl
  bytes-kept ends = refl
  bytes-kept exits = refl
  bytes-kept (text s) = refl
  bytes-kept models = refl
  bytes-kept (sets k) = refl
  bytes-kept (branches_if t) = refl
  bytes-kept (branches t) = refl
  bytes-kept counts = refl

  pub count_kept : (d : Does L) → is_count (map_does g d) ≡ is_count d
  unfolding map_does
  count_kept passes = refl
  count_kept ends = refl
  count_kept exits = refl
  count_kept (text s) = refl
  count_kept models = refl
  count_kept (sets k) = refl
  count_kept (branches_if t) = refl
  count_kept (branches t) = refl
  count_kept counts = refl

  pub targets-mapped : (d : Does L) → targets (map_does g d) ≡ map g (targets d)
  unfolding map_does
  targets-mapped passes = refl
  targets-mapped ends = refl
  targets-mapped exits = refl
  targets-mapped (text s) = refl
  targets-mapped models = refl
  targets-mapped (sets k) = refl
  targets-mapped (branches_if t) = refl
  targets-mapped (branches t) = refl
  targets-mapped counts = refl

-- ---- the statements that say so

abbrev pub is_model : Statement → Bool
is_model macro = false
is_model mend = false
is_model mexit = false
is_model (local k) = false
is_model (global k) = false
is_model (set k) = false
is_model aif = false
is_model ago = false
is_model anop = false
is_model actr = false
is_model model = true

-- a model statement's operation is no language word
pub model-is-no-word : (o : Bytes) → is_model (statement_of o) ≡ true → is_language_word o ≡ false
unfolding is_language_word statement_of statements word_number every words
model-is-no-word o e =
    le-ltb (place_among words o) (length words) (behind-all (λ s. not (is_model s)) statements model (place_among words o) refl (ap not e))

-- a line that is used as it stands is a remark or a model statement, and its text is the whole line
pub text-is-model : (l : Bytes) (f : Fields) (s : Statement) → is_text (says l f s).does ≡ true → (is_model s ≡ true) × (text_in (says l f s).does ≡ l)
unfolding says doing model_of choose
text-is-model l f macro h = absurd (false≢true h)
text-is-model l f mend h = absurd (false≢true h)
text-is-model l f mexit h = absurd (false≢true h)
text-is-model l f (local k) h = absurd (false≢true h)
text-is-model l f (global k) h = absurd (false≢true h)
text-is-model l f (set k) h = absurd (false≢true h)
text-is-model l f aif h = absurd (false≢true h)
text-is-model l f ago h = absurd (false≢true h)
text-is-model l f anop h = absurd (false≢true h)
text-is-model l f actr h = absurd (false≢true h)
text-is-model l f model h = (refl, go (is_copied f) h)
  where
    go : (b : Bool) → is_text (choose b (doing (text l)) (model_of f)).does ≡ true → text_in (choose b (doing (text l)) (model_of f)).does ≡ l
    go true h = refl
    go false h = absurd (false≢true h)
