-- The code's state with some of its numbers changed, and what a number says of a run. Assumes nothing.
use Rattle.std.specs.Prelude.{ℕ, Option, Some, None, suc, ◌+◌, eqb, ltb}
use Rattle.rules.specs.Choice.{choose}
use Rattle.rules.specs.Limits.{bad_byte, out_of_place, bad_name, ill_formed, over_limit, bad_call, too_long, bad_value, counter_spent, level_six, calls_spent, bad_deck, short_workspace, no_room, language_word, steps_spent}
use Rattle.refusals.specs.declared.Fault.TheVariants.{BadByte, OutOfPlace, BadName, IllFormed, OverLimit, BadCall, TooLong, BadValue, CounterSpent, LevelSix, CallsSpent, BadDeck, ShortWorkspace, NoRoom, LanguageWord}
use Rattle.expand_levels.specs.declared.Running.{Running}
use Rattle.expand_steps.specs.declared.Run.{Run}
use Rattle.expand_steps.specs.declared.Stepped.{Stepped}
use Rattle.expand_steps.specs.declared.Halt.{Halt}
use Rattle.expand_steps.specs.declared.Numbered.{Numbered}
use Rattle.expand_steps.specs.declared.Halt.TheVariants.{GoesOn, Done, Unready, Refused, StepsSpent}

-- one step more
unfoldable pub ticked : Run → Run
ticked r = record { at = r.at; line = r.line; steps = r.steps + 1; pos = r.pos; lines = r.lines; calls = r.calls; running = r.running }

-- behind the newline at a place, or there where the file ends
unfoldable pub past_of : ℕ → ℕ → ℕ
past_of end size = choose (ltb end size) (suc end) end

-- an open line more, and the program read to a place
unfoldable pub opened_at : ℕ → Run → Run
opened_at at r = record { at = at; line = r.line + 1; steps = r.steps + 1; pos = r.pos; lines = r.lines; calls = r.calls; running = r.running }

unfoldable pub with_running : Running → Run → Run
with_running q r = record { at = r.at; line = r.line; steps = r.steps; pos = r.pos; lines = r.lines; calls = r.calls; running = q }

-- a line put out up to a place, and the levels that go on
unfoldable pub put_to : ℕ → Running → Run → Run
put_to pos q r = record { at = r.at; line = r.line; steps = r.steps; pos = pos; lines = r.lines + 1; calls = r.calls; running = q }

unfoldable pub goes_on : Run → Stepped
goes_on r = record { run = r; halt = GoesOn }

unfoldable pub stops_by : Halt → Run → Stepped
stops_by h r = record { run = r; halt = h }

-- by a number and a place
unfoldable pub stops_at : ℕ → ℕ → Run → Numbered
stops_at number at r = record { run = r; halt = number; at = at }

-- what a number says of a run, `at` being where in the field a refusal arose; a number that is none of these says nothing
unfoldable pub halt_found : ℕ → ℕ → Option Halt
halt_found n at =
    choose (eqb n 0) (Some GoesOn)
    (choose (eqb n bad_byte) (Some (Refused BadByte at))
    (choose (eqb n out_of_place) (Some (Refused OutOfPlace at))
    (choose (eqb n bad_name) (Some (Refused BadName at))
    (choose (eqb n ill_formed) (Some (Refused IllFormed at))
    (choose (eqb n over_limit) (Some (Refused OverLimit at))
    (choose (eqb n bad_call) (Some (Refused BadCall at))
    (choose (eqb n too_long) (Some (Refused TooLong at))
    (choose (eqb n bad_value) (Some (Refused BadValue at))
    (choose (eqb n counter_spent) (Some (Refused CounterSpent at))
    (choose (eqb n level_six) (Some (Refused LevelSix at))
    (choose (eqb n calls_spent) (Some (Refused CallsSpent at))
    (choose (eqb n bad_deck) (Some (Refused BadDeck at))
    (choose (eqb n short_workspace) (Some (Refused ShortWorkspace at))
    (choose (eqb n no_room) (Some (Refused NoRoom at))
    (choose (eqb n language_word) (Some (Refused LanguageWord at))
    (choose (eqb n steps_spent) (Some StepsSpent) (choose (eqb n 254) (Some Unready) (choose (eqb n 255) (Some Done) None))))))))))))))))))
