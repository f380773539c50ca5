-- Whether a line ends the declarations. Assumes nothing.
use mathlib.Core.Path.{◌≡◌, ap, ◌∙◌}
use mathlib.Core.Bool.{Bool, ◌&&◌, not}
use Rattle.std.specs.Prelude.{Option}
use Rattle.text.specs.Bytes.{Bytes}
use Rattle.rules.specs.Fields.{is_remark}
use Rattle.rules.specs.Statement.{statement_of}
use Rattle.rules.specs.Library.{operation_of}
use Rattle.rules.specs.Faults.{at_statement, ends_declarations}
use Rattle.kinds.specs.declared.Word.{Word}
use Rattle.kinds.specs.Kinds.{statement_by}

pub ends-told : (l o : Bytes) (remark over : Bool) (word : Option Word) → remark ≡ is_remark l → o ≡ operation_of l → statement_by word ≡ statement_of o → over ≡ at_statement (statement_by word)
    → (not remark && over) ≡ ends_declarations l
unfolding ends_declarations
ends-told l o remark over word r e w h = λ i. not (r i) && (h ∙ ap at_statement (w ∙ ap statement_of e)) i
