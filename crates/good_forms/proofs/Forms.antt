-- What the tests of a line tell where they return. Assumes nothing.
use Prim.Native.Nat.{ℕ}
use mathlib.Core.Path.{◌≡◌, refl, ap, ◌∙◌}
use mathlib.Core.Bool.{Bool}
use mathlib.Core.List.{List, [], map}
use Rattle.text.specs.Bytes.{Bytes}
use Rattle.rules.specs.Lexemes.{Lex}
use Rattle.rules.specs.Statement.{Set, map_line, map_lex, Does, map_does, passes, ends, exits, text, models, sets, branches_if, branches, counts}
use Rattle.rules.specs.Grammar.{Kind}
use Rattle.rules.specs.Form.{is_formed, is_formed_by}
use Rattle.deck.specs.Slots.{DeckMacro, slot_kind}
use Rattle.grammar.specs.Tokens.{toks_at}
use Rattle.kinds.specs.Kinds.{set_for, set_of as meant, does_for}
use Rattle.kinds.specs.declared.Set.{Set as Marked}
use Rattle.kinds.specs.declared.Set.TheVariants.{A, B, C}
use Rattle.kinds.specs.declared.Does.{Does as Kept}
use Rattle.kinds.specs.declared.Does.TheVariants.{Passes, Ends, Exits, Text, Models, BranchesIf, Branches, Counts, Sets}
use Rattle.deck_reading.specs.Reading.{slot_lex, run_at, field_at, fields_line, does_in, line_in}
use Rattle.deck_reading.specs.declared.Fields.{Fields}
use Rattle.good_forms.specs.Kinded.{Kinded}
use Rattle.good_forms.proofs.Reused.{field-known}

-- ---- form

abbrev no_name : Bytes
no_name = []

-- form does not look at a target
any_target : (nest : ℕ) (d : Does ℕ) (n o a : List (Lex Kind))
    → is_formed_by nest (record { does = map_does (λ (t : ℕ). no_name) d; name = n; operation = o; operand = a }) (map_does (λ (t : ℕ). no_name) d) ≡ is_formed_by nest (record { does = map_does (λ (t : ℕ). t) d; name = n; operation = o; operand = a }) (map_does (λ (t : ℕ). t) d)
unfolding is_formed_by map_does
any_target nest passes n o a = refl
any_target nest ends n o a = refl
any_target nest exits n o a = refl
any_target nest (text s) n o a = refl
any_target nest models n o a = refl
any_target nest (sets k) n o a = refl
any_target nest (branches_if t) n o a = refl
any_target nest (branches t) n o a = refl
any_target nest counts n o a = refl

-- what the code's word for it says of what a line does
kept : (k : Marked) → k ≡ set_for (meant k)
kept A = refl
kept B = refl
kept C = refl

pub does-kept : (k : Kept) (s : Bytes) (at : ℕ) → k ≡ does_for (does_in k s at)
unfolding does_in
does-kept Passes s at = refl
does-kept Ends s at = refl
does-kept Exits s at = refl
does-kept Text s at = refl
does-kept Models s at = refl
does-kept BranchesIf s at = refl
does-kept Branches s at = refl
does-kept Counts s at = refl
does-kept (Sets k) s at = ap Sets (kept k)

aimless : (d : Does ℕ) → does_for d ≡ does_for (map_does (λ (t : ℕ). no_name) d)
unfolding map_does
aimless passes = refl
aimless ends = refl
aimless exits = refl
aimless (text s) = refl
aimless models = refl
aimless (sets k) = refl
aimless (branches_if t) = refl
aimless (branches t) = refl
aimless counts = refl

module _ (deck kinds : Bytes) (f : Fields) (r : Bool) where
  -- the grammar's check of a line's bytes is the form of the line
  pub line-formed : (n o a : Bytes) → n ≡ run_at deck f.name → o ≡ run_at deck f.operation → a ≡ run_at deck f.operand
      → ((d : Does Bytes) → f.does ≡ does_for d → r ≡ is_formed_by 8 (record { does = d; name = toks_at kinds n 0; operation = toks_at kinds o 0; operand = toks_at kinds a 0 }) d)
      → (globals : List Set) (m : DeckMacro) → Kinded kinds globals m → r ≡ is_formed 8 (map_line (slot_kind globals m) (λ (t : ℕ). t) (line_in deck f))
  unfolding is_formed map_line line_in fields_line field_at
  line-formed n o a en eo ea h globals m known =
      let does = does_in f.does deck f.first in
      let line : (d : Does ℕ) → (x y z : List (Lex Kind)) → Bool = λ d x y z. is_formed_by 8 (record { does = d; name = x; operation = y; operand = z }) d in
      h (map_does (λ (t : ℕ). no_name) does) (does-kept f.does deck f.first ∙ aimless does)
      ∙ (any_target 8 does (toks_at kinds n 0) (toks_at kinds o 0) (toks_at kinds a 0)
      ∙ λ j. line (map_does (λ (t : ℕ). t) does) (field globals m known en j) (field globals m known eo j) (field globals m known ea j))
    where
      field : (globals : List Set) (m : DeckMacro) → Kinded kinds globals m → {x y : Bytes} → x ≡ y → toks_at kinds x 0 ≡ map (map_lex (slot_kind globals m)) (map slot_lex y)
      field globals m known {x} {y} e = ap (λ (b : Bytes). toks_at kinds b 0) e ∙ field-known kinds globals m known y
