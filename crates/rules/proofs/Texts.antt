-- In an accepted library, a body line that is used as it stands is well written, and its operation is no language word.
use Prim.Native.Nat.{ℕ, ◌<◌}
use mathlib.Core.Path.{◌≡◌, ap, sym, ◌∙◌, subst}
use mathlib.Core.Logic.{⊎_elim}
use mathlib.Core.Bool.{true, false, false≢true}
use mathlib.Core.List.{List, []}
use lib.ListN.{length, get_or}
use Rattle.text.specs.Bytes.{Bytes}
use Rattle.text.specs.Words.{words}
use Rattle.rules.specs.Fields.{is_ill_written, is_remark, no_fields, statement_fields}
use Rattle.rules.specs.Statement.{text, map_line, doing, read}
use Rattle.rules.specs.Evaluate.{Value}
use Rattle.rules.specs.Machine.{Level, is_language_word}
use Rattle.rules.specs.Library.{line_named}
use Rattle.rules.specs.ByLines.{no_reading, header_of, line_in, machine_of, machine_of_lines}
use Rattle.rules.specs.Faults.{accepted, verdict}
use Rattle.rules.proofs.Choices.{by}
use Rattle.rules.proofs.Said.{is_text, text_in, text-kept, bytes-kept, statement_on, remark-says, remark-fields, statement-says, text-is-model, model-is-no-word}
use Rattle.rules.proofs.Accepted.{well-written, line-stands, readings, known_at}

remark-is-no-word : (l : Bytes) → is_remark l ≡ true → is_language_word (statement_fields l).operation ≡ false
unfolding is_language_word no_fields words
remark-is-no-word l e = ap (λ f. is_language_word f.operation) (remark-fields l e)

-- a line that is used as it stands
pub text-line : (l : Bytes) → is_text (read l).does ≡ true → (text_in (read l).does ≡ l) × (is_language_word (statement_fields l).operation ≡ false)
unfolding doing
text-line l h = by (is_remark l)
    (λ e. (
      ⊎_elim (λ q. ap (λ x. text_in x.does) q) (λ q. absurd (false≢true (sym (ap (λ x. is_text x.does) q) ∙ h))) (remark-says l e),
      remark-is-no-word l e,
    ))
    (λ e.
    let q = statement-says l e in
    let r = text-is-model l (statement_fields l) (statement_on l) (sym (ap (λ x. is_text x.does) q) ∙ h) in
    (ap (λ x. text_in x.does) q ∙ r.1, model-is-no-word (statement_fields l).operation r.0))

pub good-texts : (library : Bytes) → verdict library ≡ accepted → (k i : ℕ) (l : Level) (vs : List Value) (s : Bytes)
    → k < length (machine_of_lines library).titles → i < ((machine_of_lines library).header k).lines → ((machine_of_lines library).line k i l vs).does ≡ text s
    → (is_ill_written s ≡ false) × (is_language_word (statement_fields s).operation ≡ false)
unfolding machine_of_lines machine_of header_of line_in map_line
good-texts library e k i l vs s hk hi h =
    let r = get_or (readings library) k no_reading in
    let x = get_or r.body i [] in
    let g : Bytes → ℕ = λ t. line_named t r.body in
    let a = text-line x (sym (text-kept g (read x).does) ∙ ap is_text h) in
    let q : x ≡ s = sym a.0 ∙ (sym (bytes-kept g (read x).does) ∙ ap text_in h) in
    subst (λ t. (is_ill_written t ≡ false) × (is_language_word (statement_fields t).operation ≡ false)) q
    (well-written (line-stands (known_at library e k i hi) i hi), a.1)
