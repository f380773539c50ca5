-- No two refusals have one number. Assumes nothing.
use Prim.Native.Nat.{ℕ, ◌-◌}
use native.Mathlib.Omega.{arith}
use mathlib.Core.Path.{◌≡◌, refl, sym, ap, ◌∙◌}
use mathlib.Core.List.{List, [], ◌∷◌}
use lib.ListN.{get_or}
use Rattle.refusals.specs.declared.Fault.{Fault}
use Rattle.refusals.specs.declared.Fault.TheVariants.{BadByte, OutOfPlace, BadName, IllFormed, OverLimit, BadCall, TooLong, BadValue, CounterSpent, LevelSix, CallsSpent, BadDeck, ShortWorkspace, NoRoom, LanguageWord}
use Rattle.refusals.specs.Numbers.{number_of}

-- the refusals in the order of their numbers
faults : List Fault
faults =
    BadByte ∷ OutOfPlace ∷ BadName ∷ IllFormed ∷ OverLimit ∷ BadCall ∷ TooLong ∷ BadValue
    ∷ CounterSpent ∷ LevelSix ∷ CallsSpent ∷ BadDeck ∷ ShortWorkspace ∷ NoRoom ∷ LanguageWord ∷ []

numbered : ℕ → Fault
numbered n = get_or faults (n - 1) BadByte

back : (f : Fault) → numbered (number_of f) ≡ f
unfolding faults numbered
back BadByte = refl
back OutOfPlace = refl
back BadName = refl
back IllFormed = refl
back OverLimit = refl
back BadCall = refl
back TooLong = refl
back BadValue = refl
back CounterSpent = refl
back LevelSix = refl
back CallsSpent = refl
back BadDeck = refl
back ShortWorkspace = refl
back NoRoom = refl
back LanguageWord = refl

pub numbers_apart : (f g : Fault) → number_of f ≡ number_of g → f ≡ g
numbers_apart f g e = sym (back f) ∙ ap numbered e ∙ back g

-- none has the number that says that there is none
pub numbered-from-1 : (f : Fault) → number_of f ≡ 0 → ⊥
numbered-from-1 BadByte h = absurd (omega (arith, h))
numbered-from-1 OutOfPlace h = absurd (omega (arith, h))
numbered-from-1 BadName h = absurd (omega (arith, h))
numbered-from-1 IllFormed h = absurd (omega (arith, h))
numbered-from-1 OverLimit h = absurd (omega (arith, h))
numbered-from-1 BadCall h = absurd (omega (arith, h))
numbered-from-1 TooLong h = absurd (omega (arith, h))
numbered-from-1 BadValue h = absurd (omega (arith, h))
numbered-from-1 CounterSpent h = absurd (omega (arith, h))
numbered-from-1 LevelSix h = absurd (omega (arith, h))
numbered-from-1 CallsSpent h = absurd (omega (arith, h))
numbered-from-1 BadDeck h = absurd (omega (arith, h))
numbered-from-1 ShortWorkspace h = absurd (omega (arith, h))
numbered-from-1 NoRoom h = absurd (omega (arith, h))
numbered-from-1 LanguageWord h = absurd (omega (arith, h))
