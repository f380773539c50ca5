-- In an accepted library, of each body line: it is well written, its fields have no ampersand left over, and all its symbols are known.
use Prim.Native.Nat.{ℕ, zero, suc, ◌≤◌, ◌<◌}
use mathlib.Core.Path.{◌≡◌, refl, ap, sym, ◌∙◌, subst}
use mathlib.Core.Logic.{⊎_elim}
use mathlib.Core.Bool.{Bool, true, false, ◌||◌}
use mathlib.Core.List.{List, [], ◌∷◌, ◌++◌, map}
use lib.Seq.{split_at}
use lib.ListN.{length, get_or, take, drop}
use Rattle.text.specs.Bytes.{Bytes}
use Rattle.rules.specs.Choice.{any, every}
use Rattle.rules.specs.Limits.{line_limit, nest_limit}
use Rattle.rules.specs.Lexemes.{Lex, byte, mark, ref, lone, lexed, refs_in, is_long, is_sequence}
use Rattle.rules.specs.Fields.{is_remark, Fields, statement_fields}
use Rattle.rules.specs.Statement.{Set, Statement, macro, mend, mexit, local, global, set, aif, ago, anop, actr, model, Does, passes, ends, exits, text, models, sets, branches_if, branches, counts, Line, map_lex, map_does, map_line, condition_end, is_copied, doing, model_of, says, read}
use Rattle.rules.specs.Grammar.{Kind}
use Rattle.rules.specs.Library.{Names, names_in}
use Rattle.rules.specs.ByLines.{Reading}
use Rattle.rules.specs.Faults.{kind_named, kinds_of, is_unknown_kind, has_unknown, is_long_sequence, has_bad_body_name, has_bad_name}
use Rattle.rules.proofs.Choices.{by, either}
use Rattle.rules.proofs.Logic.{or_left, or_right}
use Rattle.rules.proofs.Said.{statement_on, remark-says, statement-says}
use Rattle.rules.proofs.NoLone.{is_no_lone, NoLone, NoLoneBy, formed-no-lone}
use Rattle.rules.proofs.ReadLines.{InSet, Shape, Reads, line_reads, written_in}
use Rattle.rules.proofs.Accepted.{Stands, well-written, good-names, formed-in-limits, Known, from-line, line-stands}
use Rattle.rules.proofs.FormedLines.{line-speaks, from-silent, names-settled}

-- ---- no ampersand left over

map-no-lone : {R S : Type 0} (f : R → S) (x : List (Lex R)) → every is_no_lone (map (map_lex f) x) ≡ every is_no_lone x
unfolding every map_lex
map-no-lone f [] = refl
map-no-lone f (byte c ∷ x) = map-no-lone f x
map-no-lone f (mark ∷ x) = map-no-lone f x
map-no-lone f (ref r ∷ x) = map-no-lone f x
map-no-lone f (lone ∷ x) = refl

abbrev pub Clean : Line Bytes Bytes → Type 0
Clean r = NoLone r.name × (NoLone r.operation × NoLone r.operand)

module _ (l : Bytes) (r : Line Bytes Bytes) (kind : Bytes → Kind) where
  empty-clean : {x : List (Lex Bytes)} → x ≡ [] → NoLone x
  unfolding every
  empty-clean e = ap (every is_no_lone) e

  from-kinds : (x : List (Lex Bytes)) → NoLone (map (map_lex kind) x) → NoLone x
  from-kinds x h = sym (map-no-lone kind x) ∙ h

  -- a field is empty, or the test of form has seen it
  all-clean : (d : Does Bytes) → Shape l r d → NoLoneBy (map_line kind (λ t. t) r) (map_does (λ t. t) d) → Clean r
  unfolding map_line map_does
  all-clean passes s h = (empty-clean s.0, (empty-clean s.1.0, empty-clean s.1.1))
  all-clean ends s h = (empty-clean s.0, (empty-clean s.1.0, empty-clean s.1.1))
  all-clean exits s h = (empty-clean s.0, (empty-clean s.1.0, empty-clean s.1.1))
  all-clean (text t) s h = (empty-clean s.1.0, (empty-clean s.1.1.0, empty-clean s.1.1.1))
  all-clean models s h = (from-kinds r.name h.0, (from-kinds r.operation h.1.0, from-kinds r.operand h.1.1))
  all-clean (sets k) s h = (from-kinds r.name h.0, (empty-clean s, from-kinds r.operand h.1))
  all-clean (branches_if t) s h = (empty-clean s.0, (empty-clean s.1, from-kinds r.operand h))
  all-clean (branches t) s h = (empty-clean s.0, (empty-clean s.1.0, empty-clean s.1.1))
  all-clean counts s h = (empty-clean s.0, (empty-clean s.1, from-kinds r.operand h))

-- ---- known symbols

abbrev pub KnownIn : Names → List (Lex Bytes) → Type 0
KnownIn names x = has_unknown names x ≡ false

abbrev pub AllKnown : Names → Line Bytes Bytes → Type 0
AllKnown names r = KnownIn names r.name × (KnownIn names r.operation × KnownIn names r.operand)

none-known : (names : Names) → KnownIn names []
unfolding has_unknown refs_in any
none-known names = refl

bare-known : (names : Names) (d : Does Bytes) → AllKnown names (doing d)
unfolding doing
bare-known names d = (none-known names, (none-known names, none-known names))

-- the first lexemes have no symbol that all of them do not have
first-known : (names : Names) (n : ℕ) (x : List (Lex Bytes)) → KnownIn names x → KnownIn names (take n x)
unfolding has_unknown refs_in any
first-known names zero x h = refl
first-known names (suc n) [] h = refl
first-known names (suc n) (byte c ∷ x) h = first-known names n x h
first-known names (suc n) (mark ∷ x) h = first-known names n x h
first-known names (suc n) (ref r ∷ x) h = go (is_long r || is_unknown_kind (kind_named names r)) h (first-known names n x)
  where
    go : (b : Bool) → (b || has_unknown names x) ≡ false → (KnownIn names x → KnownIn names (take n x)) → (b || has_unknown names (take n x)) ≡ false
    go true h ih = h
    go false h ih = ih h
first-known names (suc n) (lone ∷ x) h = first-known names n x h

module _ (l : Bytes) (f : Fields) (names : Names) (globals : List (Bytes × Set)) (before from : List Bytes) (name-known : KnownIn names (lexed false f.name)) where
  model-known : KnownIn names (lexed false f.operation) → KnownIn names (lexed true f.operand) → AllKnown names (model_of f)
  unfolding model_of
  model-known o a = (either (KnownIn names) (is_sequence f.name) (λ e. none-known names) (λ e. name-known), (o, a))

  pub statement-known : (s : Statement) → has_bad_body_name globals names before from f s ≡ false → AllKnown names (says l f s)
  unfolding says has_bad_body_name
  statement-known macro h = bare-known names passes
  statement-known mend h = bare-known names ends
  statement-known mexit h = bare-known names exits
  statement-known (local k) h = bare-known names passes
  statement-known (global k) h = bare-known names passes
  statement-known (set k) h = (name-known, (none-known names, h))
  statement-known aif h =
      let x = lexed true f.operand in
      (none-known names, (none-known names, first-known names (condition_end x) x (or_left (has_unknown names x) _ h)))
  statement-known ago h = bare-known names _
  statement-known anop h = bare-known names passes
  statement-known actr h = (none-known names, (none-known names, h))
  statement-known model h =
      either (AllKnown names) (is_copied f) (λ e. bare-known names (text l))
      (λ e. model-known (or_left (has_unknown names (lexed false f.operation)) _ h) (or_right (has_unknown names (lexed false f.operation)) _ h))

stands-known : {p : Bytes} {before : List Bytes} {l : Bytes} {after : List Bytes} → Stands p before l after → AllKnown (names_in p before) (read l)
unfolding has_bad_name
stands-known {p} {before} {l} {after} x =
    let names = names_in p before in
    let f = statement_fields l in
    by (is_remark l)
    (λ e. ⊎_elim (λ q. subst (AllKnown names) (sym q) (bare-known names (text l))) (λ q. subst (AllKnown names) (sym q) (bare-known names passes)) (remark-says l e))
    (λ e. subst (AllKnown names) (sym (statement-says l e))
    (statement-known l f names x.globals before (l ∷ (after ++ x.more))
    (or_left (has_unknown names (lexed false f.name)) _ (or_right (is_long_sequence f.name) _ x.is-faultless.named))
    (statement_on l) (good-names x)))

-- ---- a body line

module _ {r : Reading} (a : Known r) (i : ℕ) (h : i < length r.body) where
  abbrev l : Bytes
  l = get_or r.body i []

  abbrev before : List Bytes
  before = take i r.body

  pub line-written : (length l ≤ line_limit) × InSet l
  line-written = written_in l (well-written (line-stands a i h))

  pub line-says : Reads l (read l)
  line-says = line_reads l line-written.1

  pub line_clean : Clean (read l)
  unfolding kinds_of map_line
  line_clean =
      let kind = kind_named (names_in a.prototype before) in
      all-clean l (read l) kind (read l).does line-says.shape (formed-no-lone nest_limit (kinds_of (names_in a.prototype before) l) (formed-in-limits (line-stands a i h)))

  -- with all of the macro's names
  pub line_known : AllKnown r.names (read l)
  line_known =
      ⊎_elim (λ q. subst (AllKnown r.names) (sym q.1) (bare-known r.names q.0))
      (λ q.
      subst (λ (names : Names). AllKnown names (read l))
      (sym
      (a.names-are
      ∙ (ap (λ (b : List Bytes). names_in a.prototype b) (split_at r.body i [] h)
      ∙ names-settled a.prototype before (l ∷ drop (suc i) r.body) (from-silent (from-line a i h) q))))
      (stands-known (line-stands a i h)))
      (line-speaks l)
