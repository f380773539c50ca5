-- What a level's numbers stand for: the rules' level, whose texts are elsewhere.
use Rattle.std.specs.Prelude.{ℕ, suc, List, Option, Some, None, ltb}
use Rattle.text.specs.Bytes.{Bytes}
use Rattle.rules.specs.Choice.{choose}
use Rattle.rules.specs.Limits.{counter_limit, call_limit}
use Rattle.rules.specs.Evaluate.{Value}
use Rattle.rules.specs.Machine.{Level as Running}
use Rattle.expand_levels.specs.declared.Level.{Level}
use Rattle.expand_levels.specs.declared.CallNumber.{CallNumber}

-- the texts of a level: &SYSECT, &SYSLIST, and the values of its own symbols
pub record Texts : Type 0 where
  pub sect : Bytes
  pub list : List Bytes
  pub own : List Value

unfoldable pub level_of : Level → Texts → Running
level_of l t = record { macro = l.body; line = l.line; counter = l.counter; number = l.number; sect = t.sect; list = t.list; own = t.own }

unfoldable pub fresh_of : ℕ → ℕ → Texts → Running
fresh_of k n t = record { macro = k; line = 0; counter = counter_limit; number = n; sect = t.sect; list = t.list; own = t.own }

-- the number of a call behind n others: those given out are 1 to 9999
unfoldable pub numbered_of : ℕ → Option CallNumber
numbered_of n = choose (ltb n call_limit) (Some (record { given = suc n })) None
