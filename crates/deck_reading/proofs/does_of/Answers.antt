use borrow.Author.Rules.{rules}
use Prim.Native.Nat.{◌≤◌}
use mathlib.Core.Path.{refl}
use Rattle.rules.specs.Choice.{choose}
use Rattle.deck.specs.Coders.{set_of}
use Rattle.deck_reading.specs.Reading.{sets_found, does_found}
use Rattle.deck_reading.proofs.Readers.{no-does}
use Rattle.deck_reading.proofs.does_of.Goals as goal

pub returns-in-0 : goal.returns-in-0
unfolding does_found sets_found set_of choose
returns-in-0 c = rw c.in-0.is refl

pub returns-in-1 : goal.returns-in-1
unfolding does_found sets_found set_of choose
returns-in-1 c = rw c.in-1.is refl

pub returns-in-2 : goal.returns-in-2
unfolding does_found sets_found set_of choose
returns-in-2 c = rw c.in-2.is refl

pub returns-in-3 : goal.returns-in-3
unfolding does_found sets_found set_of choose
returns-in-3 c = rw c.in-3.is refl

pub returns-in-4 : goal.returns-in-4
unfolding does_found sets_found set_of choose
returns-in-4 c = rw c.in-4.is refl

pub returns-in-5 : goal.returns-in-5
unfolding does_found sets_found set_of choose
returns-in-5 c = rw c.in-5.is refl

pub returns-in-6 : goal.returns-in-6
unfolding does_found sets_found set_of choose
returns-in-6 c = rw c.in-6.is refl

pub returns-in-7 : goal.returns-in-7
unfolding does_found sets_found set_of choose
returns-in-7 c = rw c.in-7.is refl

pub returns-in-8 : goal.returns-in-8
unfolding does_found sets_found set_of choose
returns-in-8 c = rw c.in-8.is refl

pub returns-in-9 : goal.returns-in-9
unfolding does_found sets_found set_of choose
returns-in-9 c = rw c.in-9.is refl

pub returns-in-10 : goal.returns-in-10
unfolding does_found sets_found set_of choose
returns-in-10 c = rw c.in-10.is refl

pub returns-in_default : goal.returns-in_default
returns-in_default c = let h : 11 ≤ c.args.code = search rules in no-does c.args.code h
