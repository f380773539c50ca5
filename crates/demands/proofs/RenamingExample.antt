-- A renaming, computed: two macros, each by a renaming of its own. And changes that are no renaming.
use mathlib.Core.Path.{◌≡◌, refl, ap, sym, ◌∙◌}
use mathlib.Core.Bool.{false, false≢true}
use mathlib.Core.List.{List, [], ◌∷◌, ◌++◌}
use Rattle.text.specs.Bytes.{Bytes, bytes, same}
use Rattle.rules.specs.Calls.{is_among}
use Rattle.rules.specs.Faults.{accepted}
use Rattle.rules.proofs.Lossless.{with_newlines}
use Rattle.rules.proofs.Computing.{answers, judged}
use Rattle.deck.specs.Translation.{deck_of}
use Rattle.demands.specs.Renaming.{Renaming, kept_names, none, outside, definition, Renamed}
use Rattle.demands.proofs.Computed.{deck_computed}
use Rattle.demands.proofs.Exchanged.{same-itself, exchanged, exchanged-one, after_one}
use Rattle.demands.proofs.SameDeck.{same-globals, same-deck-accepted}
use Rattle.demands.proofs.Tested.{same_lexeme, same_all, same_pair, proper-kept, is_renamed_text, is_renamed_sequence, is_renamed_name, is_renamed_branch, is_renamed_operand, are_renamed_fields, is_renamed_line, is_renamed_prototype, is_renamed_body, body-tested, prototype-tested}

-- The first macro. &A and &B are exchanged; &I is &COUNTER, &UNUSED, which no line uses, is &U, and the name parameter &N is &NAME; .T is .AGAIN77, and .X is .T.
-- The keyword &KEY and the global &G stay, and so do the names in remarks.
abbrev prototype₁ : Bytes
prototype₁ = bytes "&N M1 &A,&B,&KEY=3"

abbrev body₁ : List Bytes
body₁ =
    bytes " GBLA &G" ∷ bytes " LCLA &I,&UNUSED" ∷ bytes " LCLC &S" ∷ bytes "* &A AND .T IN A REMARK" ∷ bytes "&I SETA K'&A+&B(1) &A AND .T AS REMARKS"
    ∷ bytes "&S SETC '&A.Z'" ∷ bytes ".T AIF (&I GE &KEY).X" ∷ bytes "&I SETA &I+1" ∷ bytes "&G SETA &I" ∷ bytes "&N DC &A,&B(&I),&S,&SYSNDX"
    ∷ bytes " AGO .T" ∷ bytes ".X MEND" ∷ []

abbrev new_prototype₁ : Bytes
new_prototype₁ = bytes "&NAME M1 &B,&A,&KEY=3"

abbrev new_body₁ : List Bytes
new_body₁ =
    bytes " GBLA &G" ∷ bytes " LCLA &COUNTER,&U" ∷ bytes " LCLC &S" ∷ bytes "* &A AND .T IN A REMARK"
    ∷ bytes "&COUNTER SETA K'&B+&A(1) &A AND .T AS REMARKS" ∷ bytes "&S SETC '&B.Z'" ∷ bytes ".AGAIN77 AIF (&COUNTER GE &KEY).T"
    ∷ bytes "&COUNTER SETA &COUNTER+1" ∷ bytes "&G SETA &COUNTER" ∷ bytes "&NAME DC &B,&A(&COUNTER),&S,&SYSNDX" ∷ bytes " AGO .AGAIN77"
    ∷ bytes ".T MEND" ∷ []

abbrev naming₁ : Renaming
naming₁ = record {
  symbols = λ n. exchanged (bytes "N") (bytes "NAME") (exchanged (bytes "UNUSED") (bytes "U") (exchanged (bytes "I") (bytes "COUNTER") (exchanged (bytes "A") (bytes "B") n)));
  sequences = λ n. exchanged (bytes "X") (bytes "T") (exchanged (bytes "T") (bytes "AGAIN77") n);
}

-- The second. &A is &Q; &G, here a local with the name of the other macro's global, is &LOCAL77; .T is .Z. `&&` is text.
abbrev prototype₂ : Bytes
prototype₂ = bytes " M2 &A"

abbrev body₂ : List Bytes
body₂ =
    bytes " LCLC &G" ∷ bytes "&G SETC '&A(2)'" ∷ bytes ".T ANOP" ∷ bytes " AIF ('&G' EQ 'T').T" ∷ bytes " DC &A.&&&G" ∷ bytes " MEND" ∷ []

abbrev new_prototype₂ : Bytes
new_prototype₂ = bytes " M2 &Q"

abbrev new_body₂ : List Bytes
new_body₂ =
    bytes " LCLC &LOCAL77" ∷ bytes "&LOCAL77 SETC '&Q(2)'" ∷ bytes ".Z ANOP" ∷ bytes " AIF ('&LOCAL77' EQ 'T').Z" ∷ bytes " DC &Q.&&&LOCAL77"
    ∷ bytes " MEND" ∷ []

abbrev naming₂ : Renaming
naming₂ = record { symbols = λ n. exchanged (bytes "G") (bytes "LOCAL77") (exchanged (bytes "A") (bytes "Q") n); sequences = exchanged (bytes "T") (bytes "Z") }

-- a remark outside definitions, and the two macros
abbrev library_of : Bytes → List Bytes → Bytes → List Bytes → Bytes
library_of p b q c = with_newlines (bytes "* &A OF M1" ∷ (bytes " MACRO" ∷ (p ∷ (b ++ (bytes " MACRO" ∷ (q ∷ (c ++ [])))))))

abbrev before : Bytes
before = library_of prototype₁ body₁ prototype₂ body₂

abbrev after : Bytes
after = library_of new_prototype₁ new_body₁ new_prototype₂ new_body₂

pub it-is-renamed : Renamed before after
unfolding answers exchanged kept_names same_lexeme same_all same_pair is_renamed_text is_renamed_sequence is_renamed_name is_renamed_branch is_renamed_operand are_renamed_fields is_renamed_line is_renamed_prototype is_renamed_body
it-is-renamed =
    outside refl
    (definition {b = body₁} {c = new_body₁} {ls = bytes " MACRO" ∷ (prototype₂ ∷ (body₂ ++ []))} {ms = bytes " MACRO" ∷ (new_prototype₂ ∷ (new_body₂ ++ []))}
    naming₁ refl (prototype-tested naming₁ prototype₁ new_prototype₁ refl) (body-tested naming₁ body₁ new_body₁ refl)
    (proper-kept
    (after_one
    (after_one
    (after_one (exchanged-one (bytes "A") (bytes "B")) (exchanged-one (bytes "I") (bytes "COUNTER"))) (exchanged-one (bytes "UNUSED") (bytes "U")))
    (exchanged-one (bytes "N") (bytes "NAME")))
    (after_one (exchanged-one (bytes "T") (bytes "AGAIN77")) (exchanged-one (bytes "X") (bytes "T"))) refl)
    (definition {b = body₂} {c = new_body₂} {ls = []} {ms = []}
    naming₂ refl (prototype-tested naming₂ prototype₂ new_prototype₂ refl) (body-tested naming₂ body₂ new_body₂ refl)
    (proper-kept (after_one (exchanged-one (bytes "A") (bytes "Q")) (exchanged-one (bytes "G") (bytes "LOCAL77"))) (exchanged-one (bytes "T") (bytes "Z")) refl)
    none))

pub both-accepted : (judged before ≡ accepted) × (judged after ≡ accepted)
unfolding judged
both-accepted = (refl, refl)

pub same-decks : deck_of after ≡ deck_of before
unfolding judged
same-decks = same-deck-accepted before after both-accepted.0 it-is-renamed

-- ---- changes that are no renaming: the relation holds of none of them

abbrev one_macro : List Bytes → Bytes
one_macro ls = with_newlines (bytes " MACRO" ∷ (ls ++ (bytes " MEND" ∷ [])))

-- where the one library is accepted and the decks differ
no-renaming : (library library' : Bytes) → judged library ≡ accepted → same (deck_of library) (deck_of library') ≡ false → Renamed library library' → ⊥
unfolding judged
no-renaming library library' a d h = false≢true (sym d ∙ (ap (same (deck_of library)) (same-deck-accepted library library' a h) ∙ same-itself (deck_of library)))

-- one of two places where the name stands keeps it
abbrev used : Bytes → Bytes → Bytes
used p a = one_macro (p ∷ a ∷ [])

pub one-place-only : Renamed (used (bytes " M &A") (bytes " DC &A,&A")) (used (bytes " M &B") (bytes " DC &B,&A")) → ⊥
unfolding deck_computed judged
one-place-only = no-renaming (used (bytes " M &A") (bytes " DC &A,&A")) (used (bytes " M &B") (bytes " DC &B,&A")) refl refl

-- two names become one
pub two-into-one : Renamed (used (bytes " M &A,&B") (bytes " DC &A,&B")) (used (bytes " M &A,&A") (bytes " DC &A,&A")) → ⊥
unfolding deck_computed judged
two-into-one = no-renaming (used (bytes " M &A,&B") (bytes " DC &A,&B")) (used (bytes " M &A,&A") (bytes " DC &A,&A")) refl refl

-- a keyword gets another name
pub keyword-renamed : Renamed (used (bytes " M &K=1") (bytes " DC &K")) (used (bytes " M &J=1") (bytes " DC &J")) → ⊥
unfolding deck_computed judged
keyword-renamed = no-renaming (used (bytes " M &K=1") (bytes " DC &K")) (used (bytes " M &J=1") (bytes " DC &J")) refl refl

-- a name in a remark is changed
pub remark-changed : Renamed (used (bytes " M &A") (bytes "* &A")) (used (bytes " M &B") (bytes "* &B")) → ⊥
unfolding deck_computed judged
remark-changed = no-renaming (used (bytes " M &A") (bytes "* &A")) (used (bytes " M &B") (bytes "* &B")) refl refl

-- a global gets another name: the deck of this one macro would be the same, but a macro elsewhere may declare it
abbrev sharing : Bytes → Bytes → Bytes
sharing d s = one_macro (bytes " M" ∷ d ∷ s ∷ [])

pub global-renamed : Renamed (sharing (bytes " GBLA &G") (bytes "&G SETA 1")) (sharing (bytes " GBLA &H") (bytes "&H SETA 1")) → ⊥
unfolding answers
global-renamed h = false≢true (ap (is_among (bytes "G")) (same-globals (sharing (bytes " GBLA &G") (bytes "&G SETA 1")) (sharing (bytes " GBLA &H") (bytes "&H SETA 1")) h))
