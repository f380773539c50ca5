-- A small deck, byte by byte (docs/DECK.md), and what becomes of it when it is damaged, computed.
use Prim.Native.Nat.{ℕ, zero, suc}
use mathlib.Core.Path.{◌≡◌, refl}
use mathlib.Core.Bool.{true, false}
use mathlib.Core.List.{List, [], ◌∷◌, ◌++◌, map}
use lib.ListN.{take, set}
use Rattle.text.specs.Bytes.{Bytes, bytes}
use Rattle.rules.specs.Choice.{choose}
use Rattle.rules.specs.Machine.{done}
use Rattle.deck.proofs.Computing.{deck_bytes, is_in_good_form, through_deck}

abbrev library : Bytes
library = bytes "         MACRO\n&N       ADD1  &P,&K=2\n         LCLA  &I\n&I       SETA  &K+1\n.X       DC    &P,&I\n         MEND\n"

abbrev small : Bytes
small =
    -- 50 bytes follow; version 1; no globals; one macro
    (0 ∷ 0 ∷ 0 ∷ 50 ∷ 1 ∷ 0 ∷ 0 ∷ 0 ∷ 1 ∷ [])
    -- ADD1, a name parameter, one positional, one keyword K=2, one local, a SETA symbol
    ++ ((0 ∷ 4 ∷ 65 ∷ 68 ∷ 68 ∷ 49 ∷ 1 ∷ 0 ∷ 1 ∷ 0 ∷ 1 ∷ 0 ∷ 1 ∷ 75 ∷ 0 ∷ 1 ∷ 50 ∷ 0 ∷ 1 ∷ 0 ∷ [])
    -- four lines: the declaration; SETA, named by own slot 3, with slot 2 and `+1`; a model statement, `DC`, slot 1, a comma, slot 3; MEND
    ++ (0 ∷ 4 ∷ 0 ∷ 8 ∷ 0 ∷ 1 ∷ 131 ∷ 0 ∷ 3 ∷ 130 ∷ 43 ∷ 49 ∷ 4 ∷ 0 ∷ 0 ∷ 0 ∷ 2 ∷ 68 ∷ 67 ∷ 0 ∷ 3 ∷ 129 ∷ 44 ∷ 131 ∷ 1 ∷ []))

pub small-deck : deck_bytes library ≡ small
unfolding deck_bytes
small-deck = refl

pub small-is-good : is_in_good_form small ≡ true
unfolding is_in_good_form
small-is-good = refl

pub small-expands : through_deck small (bytes "A ADD1 R1,K=7\n") 80 ≡ done 1 5 (bytes "         DC    R1,8\n")
unfolding through_deck
small-expands = refl

-- every slice that is cut off or goes on is refused
abbrev fronts : ℕ → List Bytes
fronts zero = []
fronts (suc n) = take n small ∷ fronts n

pub cut_off : map is_in_good_form (fronts 54) ≡ map (λ s. false) (fronts 54)
unfolding is_in_good_form
cut_off = refl

pub gone-on : map (λ b. is_in_good_form (small ++ (b ∷ []))) (0 ∷ 1 ∷ 49 ∷ 128 ∷ 255 ∷ []) ≡ false ∷ false ∷ false ∷ false ∷ false ∷ []
unfolding is_in_good_form
gone-on = refl

-- ---- changed bytes

-- the places, below n, at which a deck's byte can be `b` with the deck in good form
unfoldable pub places_for : Bytes → ℕ → ℕ → List ℕ
unfolding is_in_good_form choose
places_for deck b zero = []
places_for deck b (suc n) = places_for deck b n ++ choose (is_in_good_form (set deck n b)) (n ∷ []) []

-- 01's example
abbrev mulw : Bytes
mulw =
    0 ∷ 0 ∷ 0 ∷ 84 ∷ 1 ∷ 0 ∷ 0 ∷ 0 ∷ 1 ∷ 0 ∷ 4 ∷ 77 ∷ 85 ∷ 76 ∷ 87 ∷ 1 ∷ 0 ∷ 1 ∷ 0 ∷ 1 ∷ 0 ∷ 1
    ∷ 76 ∷ 0 ∷ 1 ∷ 51 ∷ 0 ∷ 1 ∷ 0 ∷ 0 ∷ 8 ∷ 0 ∷ 8 ∷ 0 ∷ 1 ∷ 131 ∷ 0 ∷ 1 ∷ 49 ∷ 4 ∷ 0 ∷ 1 ∷ 128 ∷ 0
    ∷ 3 ∷ 77 ∷ 85 ∷ 76 ∷ 0 ∷ 1 ∷ 129 ∷ 5 ∷ 0 ∷ 7 ∷ 0 ∷ 8 ∷ 40 ∷ 131 ∷ 32 ∷ 71 ∷ 69 ∷ 32 ∷ 130 ∷ 41 ∷ 4 ∷ 0
    ∷ 0 ∷ 0 ∷ 3 ∷ 78 ∷ 79 ∷ 80 ∷ 0 ∷ 1 ∷ 225 ∷ 8 ∷ 0 ∷ 1 ∷ 131 ∷ 0 ∷ 3 ∷ 131 ∷ 43 ∷ 49 ∷ 6 ∷ 0 ∷ 3 ∷ 1 ∷ []

pub mulw-deck : deck_bytes (bytes "         MACRO\n&N       MULW  &D,&L=3\n         LCLA  &I\n&I       SETA  1\n&N       MUL   &D\n.T       AIF   (&I GE &L).X\n         NOP   &SYSNDX\n&I       SETA  &I+1\n         AGO   .T\n.X       MEND\n") ≡ mulw
unfolding deck_bytes
mulw-deck = refl

abbrev values : List ℕ
values = 0 ∷ 1 ∷ 2 ∷ 38 ∷ 39 ∷ 44 ∷ 49 ∷ 65 ∷ 127 ∷ 128 ∷ 130 ∷ 131 ∷ 132 ∷ 192 ∷ 224 ∷ 226 ∷ 255 ∷ []

-- Wherever else a byte is changed to one of these values the deck is refused. At these places the change gives another deck in good form: another name, default, text or
-- slot, or another statement without operand (or the byte has the value already).
pub small-changed : map (λ b. places_for small b 54) values
    ≡ (0 ∷ 1 ∷ 2 ∷ 5 ∷ 6 ∷ 7 ∷ 9 ∷ 16 ∷ 18 ∷ 20 ∷ 23 ∷ 26 ∷ 28 ∷ 29 ∷ 31 ∷ 33 ∷ 36 ∷ 42 ∷ 43 ∷ 44 ∷ 48 ∷ []) ∷ (4 ∷ 8 ∷ 15 ∷ 17 ∷ 19 ∷ 21 ∷ 24 ∷ 27 ∷ 34 ∷ 53 ∷ []) ∷ (31 ∷ 45 ∷ []) ∷ ([]) ∷ (46 ∷ 47 ∷ 50 ∷ 51 ∷ 52 ∷ []) ∷ (46 ∷ 47 ∷ 50 ∷ 51 ∷ 52 ∷ []) ∷ (12 ∷ 13 ∷ 14 ∷ 25 ∷ 38 ∷ 40 ∷ 46 ∷ 47 ∷ 50 ∷ 52 ∷ []) ∷ (11 ∷ 12 ∷ 13 ∷ 14 ∷ 22 ∷ 25 ∷ 46 ∷ 47 ∷ 50 ∷ 52 ∷ []) ∷ ([]) ∷ (38 ∷ 40 ∷ 47 ∷ 50 ∷ 51 ∷ 52 ∷ []) ∷ (38 ∷ 40 ∷ 47 ∷ 50 ∷ 51 ∷ 52 ∷ []) ∷ (35 ∷ 38 ∷ 40 ∷ 47 ∷ 50 ∷ 51 ∷ 52 ∷ []) ∷ ([]) ∷ ([]) ∷ ([]) ∷ (47 ∷ 50 ∷ 51 ∷ 52 ∷ []) ∷ ([]) ∷ []
unfolding places_for
small-changed = refl

pub mulw-changed : map (λ b. places_for mulw b 88) values
    ≡ (0 ∷ 1 ∷ 2 ∷ 5 ∷ 6 ∷ 7 ∷ 9 ∷ 16 ∷ 18 ∷ 20 ∷ 23 ∷ 26 ∷ 28 ∷ 29 ∷ 31 ∷ 33 ∷ 36 ∷ 40 ∷ 43 ∷ 48 ∷ 52 ∷ 53 ∷ 54 ∷ 65 ∷ 66 ∷ 67 ∷ 72 ∷ 76 ∷ 79 ∷ 85 ∷ 86 ∷ []) ∷ (4 ∷ 8 ∷ 15 ∷ 17 ∷ 19 ∷ 21 ∷ 24 ∷ 27 ∷ 34 ∷ 37 ∷ 41 ∷ 49 ∷ 53 ∷ 73 ∷ 77 ∷ 86 ∷ 87 ∷ []) ∷ (31 ∷ 53 ∷ 86 ∷ []) ∷ ([]) ∷ (42 ∷ 45 ∷ 46 ∷ 47 ∷ 50 ∷ 69 ∷ 71 ∷ 74 ∷ []) ∷ (42 ∷ 45 ∷ 46 ∷ 47 ∷ 50 ∷ 69 ∷ 70 ∷ 71 ∷ 74 ∷ []) ∷ (12 ∷ 13 ∷ 14 ∷ 25 ∷ 38 ∷ 42 ∷ 45 ∷ 46 ∷ 47 ∷ 50 ∷ 57 ∷ 62 ∷ 69 ∷ 70 ∷ 71 ∷ 74 ∷ 81 ∷ 83 ∷ []) ∷ (11 ∷ 12 ∷ 13 ∷ 14 ∷ 22 ∷ 25 ∷ 42 ∷ 45 ∷ 46 ∷ 47 ∷ 50 ∷ 69 ∷ 70 ∷ 71 ∷ 74 ∷ []) ∷ (70 ∷ []) ∷ (38 ∷ 42 ∷ 47 ∷ 50 ∷ 57 ∷ 62 ∷ 71 ∷ 74 ∷ 81 ∷ 83 ∷ []) ∷ (38 ∷ 42 ∷ 47 ∷ 50 ∷ 57 ∷ 62 ∷ 71 ∷ 74 ∷ 81 ∷ 83 ∷ []) ∷ (35 ∷ 38 ∷ 42 ∷ 47 ∷ 50 ∷ 57 ∷ 62 ∷ 71 ∷ 74 ∷ 78 ∷ 81 ∷ 83 ∷ []) ∷ ([]) ∷ ([]) ∷ ([]) ∷ (42 ∷ 47 ∷ 50 ∷ 71 ∷ 74 ∷ []) ∷ ([]) ∷ []
unfolding places_for
mulw-changed = refl
