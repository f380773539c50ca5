-- What the tests of a line's text, order and whole tell where they return. Assumes nothing.
use Prim.Native.Nat.{ℕ}
use mathlib.Core.Path.{◌≡◌, refl, sym, ap, ◌∙◌}
use mathlib.Core.Bool.{Bool, true, false, ◌&&◌}
use mathlib.Core.List.{List, map}
use lib.ListN.{length}
use Rattle.text.specs.Bytes.{Bytes}
use Rattle.rules.specs.Statement.{Set, map_line, Does}
use Rattle.rules.specs.Form.{is_formed}
use Rattle.deck.specs.Slots.{DeckMacro, slot_kind}
use Rattle.deck.specs.Good.{are_lexemes, is_in_order, is_line}
use Rattle.deck_reading.specs.Reading.{slot_lex, two_at, run_at, field_at, fields_line, does_in, line_in, line_at}
use Rattle.deck_reading.specs.declared.Fields.{Fields as Places}
use Rattle.kinds.specs.Kinds.{does_for}
use Rattle.kinds.specs.declared.Does.{Does as Kept}
use Rattle.kinds.specs.declared.Does.TheVariants.{Passes, Ends, Exits, Text, Models, BranchesIf, Branches, Counts, Sets}
use Rattle.good_tests.specs.Carried.{Carries}
use Rattle.good_forms.specs.Kinded.{are_tested}
use Rattle.good_forms.proofs.Forms.{does-kept}

-- ---- lexemes of three fields

pub three-tested : (deck : Bytes) (f : Places) (n o a : Bytes) (x y z : Bool) → n ≡ run_at deck f.name → o ≡ run_at deck f.operation → a ≡ run_at deck f.operand
    → x ≡ are_lexemes (map slot_lex n) → y ≡ are_lexemes (map slot_lex o) → z ≡ are_lexemes (map slot_lex a) → (x && (y && z)) ≡ are_tested (line_in deck f)
unfolding are_tested line_in fields_line field_at
three-tested deck f n o a x y z en eo ea ex ey ez = λ j. field en ex j && (field eo ey j && field ea ez j)
  where
    field : {s t : Bytes} {b : Bool} → s ≡ t → b ≡ are_lexemes (map slot_lex s) → b ≡ are_lexemes (map slot_lex t)
    field e f = f ∙ ap (λ (s : Bytes). are_lexemes (map slot_lex s)) e

-- ---- order

module _ (deck : Bytes) {s : Bytes} {t : ℕ} (at : ℕ) (es : s ≡ run_at deck at) (et : t ≡ two_at deck at) where
  -- a line carries the text or the target that stands behind its first byte
  pub carried : (k : Kept) → Carries s t (does_in k deck at)
  unfolding does_in
  carried Passes = _
  carried Ends = _
  carried Exits = _
  carried Text = sym es
  carried Models = _
  carried BranchesIf = sym et
  carried Branches = sym et
  carried Counts = _
  carried (Sets k) = _

module _ (deck : Bytes) (f : Places) {s : Bytes} {t : ℕ} (es : s ≡ run_at deck f.first) (et : t ≡ two_at deck f.first) (actr count : ℕ) where
  pub ordered : {r : Bool} → ((d : Does ℕ) → f.does ≡ does_for d → Carries s t d → r ≡ is_in_order actr count d) → r ≡ is_in_order actr count (line_in deck f).does
  unfolding line_in fields_line
  ordered e = e (does_in f.does deck f.first) (does-kept f.does deck f.first) (carried deck f.first es et f.does)

-- ---- the whole line

pub good-line : (deck : Bytes) (at : ℕ) (f : Places) → line_in deck f ≡ line_at deck at → (globals : List Set) (m : DeckMacro) (actr count : ℕ) → length m.lines ≡ count → (x y z : Bool)
    → x ≡ is_in_order actr count (line_in deck f).does → y ≡ are_tested (line_in deck f) → z ≡ is_formed 8 (map_line (slot_kind globals m) (λ (t : ℕ). t) (line_in deck f)) → (x && (y && z)) ≡ is_line globals m actr (line_at deck at)
unfolding are_tested is_line
good-line deck at f e globals m actr count c x y z ex ey ez =
    let l = line_in deck f in
    (λ j. ex j && (ey j && ez j))
    ∙ (ap (λ (b : Bool). is_in_order actr count l.does && b) (regroup (are_lexemes l.name) (are_lexemes l.operation) (are_lexemes l.operand) _)
    ∙ ((λ j. is_in_order actr (sym c j) l.does && (are_lexemes l.name && (are_lexemes l.operation && (are_lexemes l.operand && is_formed 8 (map_line (slot_kind globals m) (λ (t : ℕ). t) l)))))
    ∙ ap (is_line globals m actr) e))
  where
    regroup : (a b c d : Bool) → ((a && (b && c)) && d) ≡ (a && (b && (c && d)))
    regroup true true c d = refl
    regroup true false c d = refl
    regroup false b c d = refl
