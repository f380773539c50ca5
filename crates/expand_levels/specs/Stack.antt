-- The levels that run, as the code has them: an array and how many of it run. Assumes nothing.
use Rattle.std.specs.Prelude.{◌+◌, ◌-◌, ◌≤◌, ◌≡◌, List, length, get_or, set, take, replicate}
use Rattle.expand_levels.specs.declared.Level.{Level}
use Rattle.expand_levels.specs.declared.Running.{Running}

-- there are five at most
pub record Sized (r : Running) : Type 0 where
  pub places : length r.levels ≡ 5
  pub deep : r.depth ≤ 5

-- those that run, the outermost first
unfoldable pub levels_of : Running → List Level
levels_of r = take r.depth r.levels

unfoldable pub no_level : Level
no_level = record { body = 0; line = 0; counter = 0; number = 0 }

unfoldable pub none_run : Running
none_run = record { levels = replicate 5 no_level; depth = 0 }

unfoldable pub top_of : Running → Level
top_of r = get_or r.levels (r.depth - 1) no_level

unfoldable pub pushed : Level → Running → Running
pushed l r = record { levels = set r.levels r.depth l; depth = r.depth + 1 }

unfoldable pub popped : Running → Running
popped r = record { levels = r.levels; depth = r.depth - 1 }

unfoldable pub topped : Level → Running → Running
topped l r = record { levels = set r.levels (r.depth - 1) l; depth = r.depth }
