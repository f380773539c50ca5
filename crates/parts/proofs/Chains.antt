-- What a chain over an operand's parts finds is what 01's words say of the parts of its lexemes. Assumes nothing.
use mathlib.Core.Path.{◌≡◌, ap, sym, ◌∙◌}
use mathlib.Core.Bool.{Bool, true}
use mathlib.Core.List.{List}
use lib.ListN.{length, length-map}
use Rattle.std.specs.List.{list_any, list_all}
use Rattle.std.proofs.lemmas.Iterator.{YieldsList}
use Rattle.std.proofs.lemmas.Iterator.Consumers.{YieldsList-from_first}
use Rattle.std.specs.Iterator.{YieldsFirstRef}
use Rattle.text.specs.Bytes.{Bytes}
use Rattle.rules.specs.Choice.{every, any}
pub use Rattle.rules.proofs.Listed.{any-listed, every-listed, count-listed, any-mapped, every-mapped}
use Rattle.rules.specs.Lexemes.{Lex, lexed}
use Rattle.rules.specs.Calls.{divided}
use Rattle.parts.specs.declared.Parts.{Parts}
use Rattle.parts.specs.Parts.{parts_of, parts_left}
use Rattle.parts.proofs.Divided.{divided-cut}

-- ---- the parts of an operand

pub yields_parts : {parts : Parts} (ps : List Bytes) → parts_left parts ≡ ps → YieldsList (YieldsFirstRef parts_left) (λ p. p.now) parts ps
yields_parts ps e = YieldsList-from_first (λ p. p.now) parts_left ps e

module _ (operand : Bytes) where
  module _ (test : List (Lex Bytes) → Bool) where
    pub any_part : list_any (λ p. test (lexed true p)) (parts_of operand) ≡ any test (divided (lexed true operand))
    any_part = any-mapped test (lexed true) (parts_of operand) ∙ ap (any test) (sym (divided-cut operand))

    pub every_part : list_all (λ p. test (lexed true p)) (parts_of operand) ≡ every test (divided (lexed true operand))
    every_part = every-mapped test (lexed true) (parts_of operand) ∙ ap (every test) (sym (divided-cut operand))

  pub part_count : length (parts_of operand) ≡ length (divided (lexed true operand))
  part_count = sym (ap length (divided-cut operand) ∙ length-map (parts_of operand) (lexed true))
