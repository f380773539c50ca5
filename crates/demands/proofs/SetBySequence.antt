-- A SET line that a sequence symbol names is refused by translation, but `resolved_library` has it, with its name as it is written. So there are two libraries,
-- both refused, that differ only by a renaming and have different decks.
use mathlib.Core.Path.{◌≡◌, refl, ap}
use mathlib.Core.Bool.{false≢true}
use mathlib.Core.List.{[], ◌∷◌}
use Rattle.text.specs.Bytes.{Bytes, bytes, same}
use Rattle.rules.specs.Faults.{faulty}
use Rattle.rules.proofs.Computing.{answers, judged}
use Rattle.deck.specs.Translation.{deck_of}
use Rattle.demands.specs.Renaming.{Renaming, sequence, plain, statement, last, ◌then◌, none, definition, Renamed}
use Rattle.demands.proofs.Computed.{deck_computed}
use Rattle.demands.proofs.Exchanged.{exchanged, exchanged-one}

abbrev before : Bytes
before = bytes " MACRO\n M\n.A SETA 1\n MEND\n"

abbrev after : Bytes
after = bytes " MACRO\n M\n.B SETA 1\n MEND\n"

abbrev naming : Renaming
naming = record { symbols = λ n. n; sequences = exchanged (bytes "A") (bytes "B") }

it-is-renamed : Renamed before after
unfolding answers exchanged
it-is-renamed =
    definition {b = bytes ".A SETA 1" ∷ bytes " MEND" ∷ []} {c = bytes ".B SETA 1" ∷ bytes " MEND" ∷ []} {ls = []} {ms = []} naming refl
    (record { no-remark = refl; no-remark₂ = refl; name = refl; gap = refl; operation = refl; gap₂ = refl; operand = refl; keywords = refl; remarks = refl })
    (◌then◌ (
      refl,
      statement refl refl (record {
        name = sequence (record { was = refl; now = refl; renamed = refl });
        gap = refl;
        operation = refl;
        gap₂ = refl;
        operand = refl;
        remarks = refl;
      }),
    )
    (last refl (statement refl refl (record { name = plain refl refl refl; gap = refl; operation = refl; gap₂ = refl; operand = refl; remarks = refl }))))
    (record { symbols-one = λ a b e. e; sequences-one = exchanged-one (bytes "A") (bytes "B"); kept = λ n k. refl })
    none

decks-differ : deck_of after ≡ deck_of before → ⊥
unfolding deck_computed
decks-differ e = false≢true (ap (same (deck_of before)) e)

-- so acceptance, or that no SET line is named so, is needed
pub not-of-all-libraries : ((library library' : Bytes) → Renamed library library' → deck_of library' ≡ deck_of library) → ⊥
not-of-all-libraries h = decks-differ (h before after it-is-renamed)

pub both-refused : (judged before ≡ faulty 4 3) × (judged after ≡ faulty 4 3)
unfolding judged
both-refused = (refl, refl)
