-- In an accepted library every body line is well formed when it is carried out: with the kinds of its symbols' cells.
use Prim.Native.Nat.{ℕ, suc, ◌<◌}
use mathlib.Core.Path.{◌≡◌, refl, ap, sym, ◌∙◌}
use mathlib.Core.Logic.{◌⊎◌, inl, inr, ⊎_elim}
use mathlib.Core.Bool.{true, false, false≢true, ◌&&◌, not}
use mathlib.Core.List.{List, [], ◌∷◌, ◌++◌, map}
use lib.Seq.{split_at}
use lib.ListN.{length, get_or, take, drop}
use Rattle.text.specs.Bytes.{Bytes}
use Rattle.text.specs.Words.{words, word_number}
use Rattle.rules.specs.Choice.{any}
use Rattle.rules.specs.Limits.{nest_limit}
use Rattle.rules.specs.Lexemes.{Lex, byte, mark, ref, lone}
use Rattle.rules.specs.Fields.{is_remark, Fields, no_fields, statement_fields}
use Rattle.rules.specs.Statement.{Set, Statement, macro, mend, mexit, local, global, set, aif, ago, anop, actr, model, statements, statement_of, Does, passes, ends, exits, text, models, sets, branches_if, branches, counts, Line, map_lex, map_does, map_line, doing, says, read}
use Rattle.rules.specs.Grammar.{Kind, whole, arithmetic, text_within, condition}
use Rattle.rules.specs.Evaluate.{Value, Cell}
use Rattle.rules.specs.Form.{form, is_got, is_named_by, is_operand_of, is_formed_by, is_formed}
use Rattle.rules.specs.Machine.{Level}
use Rattle.rules.specs.Library.{operation_of, locals_by, globals_by, locals_on, globals_on, declared_in, Names, names_in, globals_of, line_named}
use Rattle.rules.specs.ByLines.{Reading, no_reading, header_of, line_in, cell_named, machine_of, machine_of_lines}
use Rattle.rules.specs.Faults.{at_statement, ends_declarations, is_misplaced, kind_named, kinds_of, accepted, verdict}
use Rattle.rules.proofs.Choices.{by, and_right}
use Rattle.rules.proofs.Logic.{clash, any-first, any-in-front, any-behind}
use Rattle.rules.proofs.Said.{statement_on, remark-says, remark-fields, statement-says, ends_there}
use Rattle.rules.proofs.Symbols.{cell-kind}
use Rattle.rules.proofs.Accepted.{Stands, in_place, formed-in-limits, Body, last, line, Known, from-line, line-stands, readings, known_at}

-- ---- the form of a line depends on its symbols' kinds alone

module _ {R : Type 0} (kind : R → Kind) (cell : Bytes → R) {kind' : Bytes → Kind} (same_kind : (n : Bytes) → kind (cell n) ≡ kind' n) where
  lexemes-alike : (x : List (Lex Bytes)) → map (map_lex kind) (map (map_lex cell) x) ≡ map (map_lex kind') x
  unfolding map_lex
  lexemes-alike [] = refl
  lexemes-alike (byte c ∷ x) = ap (λ (y : List (Lex Kind)). byte c ∷ y) (lexemes-alike x)
  lexemes-alike (mark ∷ x) = ap (λ (y : List (Lex Kind)). mark ∷ y) (lexemes-alike x)
  lexemes-alike (ref n ∷ x) = λ i. ref (same_kind n i) ∷ lexemes-alike x i
  lexemes-alike (lone ∷ x) = ap (λ (y : List (Lex Kind)). lone ∷ y) (lexemes-alike x)

  pub form-alike : (n : ℕ) {L : Type 0} (g : Bytes → L) (x : Line Bytes Bytes)
      → is_formed n (map_line kind (λ t. t) (map_line cell g x)) ≡ is_formed n (map_line kind' (λ t. t) x)
  unfolding is_formed is_formed_by map_line map_does
  form-alike n {L} g x = go x.does
    where
      left : Line Kind L
      left = map_line kind (λ t. t) (map_line cell g x)

      right : Line Kind Bytes
      right = map_line kind' (λ t. t) x

      go : (d : Does Bytes) → is_formed_by n left (map_does (λ t. t) (map_does g d)) ≡ is_formed_by n right (map_does (λ t. t) d)
      go passes = refl
      go ends = refl
      go exits = refl
      go (text s) = refl
      go models = λ i.
          is_got (text_within form n (lexemes-alike x.name i))
          && (is_got (text_within form n (lexemes-alike x.operation i)) && is_got (text_within form n (lexemes-alike x.operand i)))
      go (sets k) = λ i. is_named_by k (lexemes-alike x.name i) && is_operand_of n k (lexemes-alike x.operand i)
      go (branches_if t) = λ i. is_got (whole (condition form n (lexemes-alike x.operand i)))
      go (branches t) = refl
      go counts = λ i. is_got (whole (arithmetic form n (lexemes-alike x.operand i)))

-- ---- a line with symbols ends the declarations

statement-speaks : (l : Bytes) (f : Fields) (s : Statement) → ((d : Does Bytes) × (says l f s ≡ doing d)) ⊎ (at_statement s ≡ true)
unfolding says at_statement
statement-speaks l f macro = inl (passes, refl)
statement-speaks l f mend = inr refl
statement-speaks l f mexit = inr refl
statement-speaks l f (local k) = inl (passes, refl)
statement-speaks l f (global k) = inl (passes, refl)
statement-speaks l f (set k) = inr refl
statement-speaks l f aif = inr refl
statement-speaks l f ago = inr refl
statement-speaks l f anop = inr refl
statement-speaks l f actr = inr refl
statement-speaks l f model = inr refl

pub line-speaks : (l : Bytes) → ((d : Does Bytes) × (read l ≡ doing d)) ⊎ (ends_declarations l ≡ true)
line-speaks l =
    by (is_remark l) (λ e. ⊎_elim (λ q. inl (text l, q)) (λ q. inl (passes, q)) (remark-says l e))
    (λ e. ⊎_elim (λ q. inl (q.0, statement-says l e ∙ q.1)) (λ q. inr (ends_there l e q)) (statement-speaks l (statement_fields l) (statement_on l)))

-- ---- behind such a line nothing is declared

abbrev Silent : Bytes → Type 0
Silent l = (locals_on l ≡ []) × (globals_on l ≡ [])

remark-silent : (l : Bytes) → is_remark l ≡ true → Silent l
unfolding locals_on globals_on no_fields locals_by globals_by statement_of statements word_number words
remark-silent l e =
    let q = remark-fields l e in (ap (λ (f : Fields). locals_by f (statement_of f.operation)) q, ap (λ (f : Fields). globals_by f (statement_of f.operation)) q)

statement-silent : (f : Fields) (s : Statement) → at_statement s ≡ true → (locals_by f s ≡ []) × (globals_by f s ≡ [])
unfolding locals_by globals_by at_statement
statement-silent f macro h = (refl, refl)
statement-silent f mend h = (refl, refl)
statement-silent f mexit h = (refl, refl)
statement-silent f (local k) h = absurd (false≢true h)
statement-silent f (global k) h = absurd (false≢true h)
statement-silent f (set k) h = (refl, refl)
statement-silent f aif h = (refl, refl)
statement-silent f ago h = (refl, refl)
statement-silent f anop h = (refl, refl)
statement-silent f actr h = (refl, refl)
statement-silent f model h = (refl, refl)

ending-silent : (l : Bytes) → ends_declarations l ≡ true → Silent l
unfolding locals_on globals_on ends_declarations operation_of
ending-silent l h = statement-silent (statement_fields l) (statement_on l) (and_right (not (is_remark l)) _ h)

late-silent : (before : List Bytes) (o : Bytes) (f : Fields) (s : Statement) → any ends_declarations before ≡ true → is_misplaced before o s ≡ false
    → (locals_by f s ≡ []) × (globals_by f s ≡ [])
unfolding locals_by globals_by is_misplaced
late-silent before o f macro h m = (refl, refl)
late-silent before o f mend h m = (refl, refl)
late-silent before o f mexit h m = (refl, refl)
late-silent before o f (local k) h m = clash h m
late-silent before o f (global k) h m = clash h m
late-silent before o f (set k) h m = (refl, refl)
late-silent before o f aif h m = (refl, refl)
late-silent before o f ago h m = (refl, refl)
late-silent before o f anop h m = (refl, refl)
late-silent before o f actr h m = (refl, refl)
late-silent before o f model h m = (refl, refl)

line-silent : {p : Bytes} {before : List Bytes} {l : Bytes} {after : List Bytes} → Stands p before l after → any ends_declarations before ≡ true → Silent l
unfolding locals_on globals_on operation_of
line-silent {before = before} {l = l} x h =
    by (is_remark l) (remark-silent l) (λ e. late-silent before (operation_of l) (statement_fields l) (statement_on l) h (in_place x e))

abbrev Undeclared : List Bytes → Type 0
Undeclared ls = (declared_in locals_on ls ≡ []) × (declared_in globals_on ls ≡ [])

one-silent : (l : Bytes) (ls : List Bytes) → Silent l → Undeclared ls → Undeclared (l ∷ ls)
unfolding declared_in
one-silent l ls s u = (λ i. s.0 i ++ u.0 i, λ i. s.1 i ++ u.1 i)

none-silent : Undeclared []
unfolding declared_in
none-silent = (refl, refl)

rest-silent : {p : Bytes} {before rest : List Bytes} → Body p before rest → any ends_declarations before ≡ true → Undeclared rest
rest-silent (last {l = l} e x) h = one-silent l [] (line-silent x h) none-silent
rest-silent (line {before = before} {l = l} {ls = ls} e x b) h =
    one-silent l ls (line-silent x h) (rest-silent b (any-in-front ends_declarations before (l ∷ []) h))

pub from-silent : {p : Bytes} {before rest : List Bytes} {l : Bytes} → Body p before (l ∷ rest) → ends_declarations l ≡ true → Undeclared (l ∷ rest)
from-silent (last {l = l} e x) h = one-silent l [] (ending-silent l h) none-silent
from-silent (line {before = before} {l = l} {ls = ls} e x b) h =
    one-silent l ls (ending-silent l h) (rest-silent b (any-behind ends_declarations before (l ∷ []) (any-first ends_declarations l [] h)))

declared-append : (on : Bytes → List (Bytes × Set)) (s t : List Bytes) → declared_in on t ≡ [] → declared_in on (s ++ t) ≡ declared_in on s
unfolding declared_in
declared-append on [] t h = h
declared-append on (l ∷ s) t h = ap (λ (r : List (Bytes × Set)). on l ++ r) (declared-append on s t h)

-- so the names before it are all of the macro's names
pub names-settled : (p : Bytes) (s t : List Bytes) → Undeclared t → names_in p (s ++ t) ≡ names_in p s
unfolding names_in
names-settled p s t u = λ i. record {
  name = (names_in p s).name;
  positionals = (names_in p s).positionals;
  keywords = (names_in p s).keywords;
  locals = declared-append locals_on s t u.0 i;
  globals = declared-append globals_on s t u.1 i;
}

-- ---- a body line

module _ {r : Reading} (a : Known r) (i : ℕ) (h : i < length r.body) where
  abbrev l : Bytes
  l = get_or r.body i []

  abbrev before : List Bytes
  before = take i r.body

  -- the line's form with all of the macro's names is its form with those before it
  pub same-form : is_formed nest_limit (kinds_of r.names l) ≡ is_formed nest_limit (kinds_of (names_in a.prototype before) l)
  unfolding kinds_of map_line doing
  same-form =
      ⊎_elim
      (λ q.
      ap (λ (x : Line Bytes Bytes). is_formed nest_limit (map_line (kind_named r.names) (λ t. t) x)) q.1
      ∙ sym (ap (λ (x : Line Bytes Bytes). is_formed nest_limit (map_line (kind_named (names_in a.prototype before)) (λ t. t) x)) q.1))
      (λ q.
      ap (λ (names : Names). is_formed nest_limit (kinds_of names l))
      (a.names-are
      ∙ (ap (λ (b : List Bytes). names_in a.prototype b) (split_at r.body i [] h)
      ∙ names-settled a.prototype before (l ∷ drop (suc i) r.body) (from-silent (from-line a i h) q))))
      (line-speaks l)

pub formed-lines : (library : Bytes) → verdict library ≡ accepted → (k i : ℕ) (l : Level) (vs : List Value)
    → k < length (machine_of_lines library).titles → i < ((machine_of_lines library).header k).lines
    → is_formed nest_limit (map_line (λ c. c.kind) (λ t. t) ((machine_of_lines library).line k i l vs)) ≡ true
unfolding machine_of_lines machine_of header_of line_in kinds_of
formed-lines library e k i l vs hk hi =
    let r = get_or (readings library) k no_reading in
    let a = known_at library e k i hi in
    let globals = globals_of [] (map (λ r. r.names) (readings library)) in
    form-alike (λ (c : Cell). c.kind) (cell_named r.names globals l vs) (cell-kind r.names globals l vs) nest_limit (λ t. line_named t r.body) (read (get_or r.body i []))
    ∙ (same-form a i hi ∙ formed-in-limits (line-stands a i hi))
