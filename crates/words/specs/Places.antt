-- The place of each language word in `text`'s `words`, counted from 0. Assumes nothing.
use Rattle.std.specs.Prelude.{ℕ, Option, Some, None}
use Rattle.kinds.specs.declared.Set.TheVariants.{A, B, C}
use Rattle.kinds.specs.declared.Word.{Word}
use Rattle.kinds.specs.declared.Word.TheVariants.{Macro, Mend, Mexit, Lcl, Gbl, Set, Aif, Ago, Anop, Actr}

-- 16 where it is none
abbrev pub place_of : Option Word → ℕ
place_of (Some Macro) = 0
place_of (Some Mend) = 1
place_of (Some Mexit) = 2
place_of (Some (Lcl A)) = 3
place_of (Some (Lcl B)) = 4
place_of (Some (Lcl C)) = 5
place_of (Some (Gbl A)) = 6
place_of (Some (Gbl B)) = 7
place_of (Some (Gbl C)) = 8
place_of (Some (Set A)) = 9
place_of (Some (Set B)) = 10
place_of (Some (Set C)) = 11
place_of (Some Aif) = 12
place_of (Some Ago) = 13
place_of (Some Anop) = 14
place_of (Some Actr) = 15
place_of None = 16
