-- The meaning of every deck: refused where it is not in good form, else the machine over what it stands for.
use Rattle.std.specs.Prelude.{ℕ, ltb, length}
use Rattle.std.proofs.Math.Option.{Option, none, some}
use Rattle.text.specs.Bytes.{Bytes}
use Rattle.rules.specs.Choice.{choose}
use Rattle.rules.specs.Limits.{workspace_size, bad_deck, short_workspace}
use Rattle.rules.specs.Machine.{Answer, at_once, expansion, Outcome, output_after, workspace_after}
use Rattle.deck.specs.Slots.{Deck, machine_of_deck}
use Rattle.deck.specs.Good.{good_deck}

unfoldable pub deck_answer : Option Deck → Bytes → ℕ → ℕ → Answer
deck_answer none program room work = at_once bad_deck
deck_answer (some d) program room work = expansion (machine_of_deck d) program room work

-- 01: "Expansion: 13, 12, 5 (all line 0), then as run."
unfoldable pub deck_expansion : Bytes → Bytes → ℕ → ℕ → Answer
deck_expansion deck program room work = choose (ltb work workspace_size) (at_once short_workspace) (deck_answer (good_deck deck) program room work)

unfoldable pub by_deck : Bytes → Bytes → Bytes → Bytes → Outcome
by_deck deck program out work =
    let a = deck_expansion deck program (length out) (length work) in
    record { answer = a; output = output_after a out; workspace = workspace_after work }
