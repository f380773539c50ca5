-- A refusal is found by its number. Assumes nothing.
use Prim.Native.Nat.{ℕ}
use mathlib.Core.Path.{◌≡◌, refl}
use Rattle.std.specs.Prelude.{Some}
use Rattle.rules.specs.Choice.{choose}
use Rattle.rules.specs.Limits.{steps_spent}
use Rattle.refusals.specs.declared.Fault.{Fault}
use Rattle.refusals.specs.declared.Fault.TheVariants.{BadByte, OutOfPlace, BadName, IllFormed, OverLimit, BadCall, TooLong, BadValue, CounterSpent, LevelSix, CallsSpent, BadDeck, ShortWorkspace, NoRoom, LanguageWord}
use Rattle.refusals.specs.Numbers.{number_of}
use Rattle.expand_steps.specs.declared.Halt.TheVariants.{Refused, StepsSpent}
use Rattle.expand_steps.specs.Runs.{halt_found}

pub found-refused : (f : Fault) (at : ℕ) → halt_found (number_of f) at ≡ Some (Refused f at)
unfolding halt_found choose
found-refused BadByte at = refl
found-refused OutOfPlace at = refl
found-refused BadName at = refl
found-refused IllFormed at = refl
found-refused OverLimit at = refl
found-refused BadCall at = refl
found-refused TooLong at = refl
found-refused BadValue at = refl
found-refused CounterSpent at = refl
found-refused LevelSix at = refl
found-refused CallsSpent at = refl
found-refused BadDeck at = refl
found-refused ShortWorkspace at = refl
found-refused NoRoom at = refl
found-refused LanguageWord at = refl

pub found-spent : (at : ℕ) → halt_found steps_spent at ≡ Some StepsSpent
unfolding halt_found choose
found-spent at = refl
