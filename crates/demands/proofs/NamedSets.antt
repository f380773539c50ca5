-- In an accepted library no SET line is named by a sequence symbol.
use Prim.Native.Nat.{ℕ}
use mathlib.Core.Path.{◌≡◌, refl, ap, sym, ◌∙◌}
use mathlib.Core.Bool.{Bool, true, false, false≢true, ◌&&◌, ◌||◌}
use mathlib.Core.List.{List, [], ◌∷◌, map}
use lib.Dec.{eqb}
use borrow.Author.Tests.{eqb-true}
use Rattle.text.specs.Bytes.{Bytes}
use Rattle.text.specs.Words.{words, word_number}
use Rattle.rules.specs.Choice.{choose, any}
use Rattle.rules.specs.Limits.{nest_limit}
use Rattle.rules.specs.Lexemes.{period, byte_of, is_mark, field_start, marked, symbols, lexed, is_sequence}
use Rattle.rules.specs.Fields.{lines_of, is_remark, Fields, no_fields, statement_fields}
use Rattle.rules.specs.Statement.{Set, Statement, macro, mend, mexit, local, global, set, aif, ago, anop, actr, model, statements, statement_of, Line, map_lex, map_does, map_line, says}
use Rattle.rules.specs.Grammar.{Kind}
use Rattle.rules.specs.Form.{is_named_by, is_formed_by, is_formed}
use Rattle.rules.specs.Library.{Macro, outer, macros_from, names_in}
use Rattle.rules.specs.Faults.{kind_named, kinds_of, accepted, verdict}
use Rattle.rules.proofs.Choices.{by, and_left}
use Rattle.rules.proofs.Logic.{clash, All}
use Rattle.rules.proofs.Said.{statement_on, remark-fields, statement-says}
use Rattle.rules.proofs.Accepted.{Stands, formed-in-limits, Body, last, line, Sound, all_sound}

-- a SET statement; one that a sequence symbol names
abbrev pub is_set : Statement → Bool
is_set macro = false
is_set mend = false
is_set mexit = false
is_set (local k) = false
is_set (global k) = false
is_set (set k) = true
is_set aif = false
is_set ago = false
is_set anop = false
is_set actr = false
is_set model = false

abbrev pub is_set_by_sequence : Bytes → Bool
is_set_by_sequence l = is_set (statement_on l) && is_sequence (statement_fields l).name

-- no SET line of the macro's body is named by a sequence symbol
abbrev pub SetsNamed : Macro → Type 0
SetsNamed m = any is_set_by_sequence m.body ≡ false

-- a name field that is a sequence symbol is no SET symbol
sequence-names-none : (s : Bytes) → is_sequence s ≡ true → (k : Set) (kind : Bytes → Kind) → is_named_by k (map (map_lex kind) (lexed false s)) ≡ false
unfolding is_sequence is_named_by map_lex lexed symbols marked is_mark field_start byte_of choose
sequence-names-none [] e k kind = absurd (false≢true e)
sequence-names-none (c ∷ s) e k kind = rw (eqb-true c period (and_left (eqb c period) _ e)) refl

module _ (l : Bytes) (n : ℕ) (kind : Bytes → Kind) where
  formed-set : (f : Fields) (s : Statement) → is_formed n (map_line kind (λ t. t) (says l f s)) ≡ true → (is_set s && is_sequence f.name) ≡ false
  unfolding is_formed is_formed_by map_line map_does says
  formed-set f macro h = refl
  formed-set f mend h = refl
  formed-set f mexit h = refl
  formed-set f (local k) h = refl
  formed-set f (global k) h = refl
  formed-set f (set k) h =
      by (is_sequence f.name) (λ e. clash (and_left (is_named_by k (map (map_lex kind) (lexed false f.name))) _ h) (sequence-names-none f.name e k kind)) (λ e. e)
  formed-set f aif h = refl
  formed-set f ago h = refl
  formed-set f anop h = refl
  formed-set f actr h = refl
  formed-set f model h = refl

no-set : is_set (statement_of []) ≡ false
unfolding statement_of statements word_number words
no-set = refl

stands-named : {p : Bytes} {before : List Bytes} {l : Bytes} {after : List Bytes} → Stands p before l after → is_set_by_sequence l ≡ false
unfolding kinds_of no_fields
stands-named {p} {before} {l} s =
    by (is_remark l)
    (λ e. ap (λ (f : Fields). is_set (statement_of f.operation) && is_sequence f.name) (remark-fields l e) ∙ ap (λ (b : Bool). b && is_sequence []) no-set)
    (λ e. formed-set l nest_limit (kind_named (names_in p before)) (statement_fields l) (statement_on l)
    (sym (ap (λ (x : Line Bytes Bytes). is_formed nest_limit (map_line (kind_named (names_in p before)) (λ t. t) x)) (statement-says l e)) ∙ formed-in-limits s))

body-named : {p : Bytes} {before b : List Bytes} → Body p before b → any is_set_by_sequence b ≡ false
unfolding any
body-named (last e s) = ap (λ (t : Bool). t || false) (stands-named s)
body-named (line e s h) = λ i. stands-named s i || body-named h i

all_named : (ms : List Macro) → All Sound ms → All SetsNamed ms
all_named [] h = tt
all_named (m ∷ ms) h = (body-named h.0, all_named ms h.1)

pub accepted-sets-named : (library : Bytes) → verdict library ≡ accepted → All SetsNamed (macros_from outer (lines_of library))
accepted-sets-named library e = all_named (macros_from outer (lines_of library)) (all_sound library e)
