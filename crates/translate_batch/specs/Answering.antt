-- docs/BATCH.md: what the program writes. Assumes nothing.
use Rattle.std.specs.Prelude.{◌≡◌, ℕ, ◌+◌, ◌-◌, ◌<◌, ◌≤◌, Bool, [], ◌∷◌, ◌++◌, length, take, drop, Option, None, Some}
use Rattle.std.specs.Io.KnownBytes.{prepend_known, Keeps, Appends}
use Rattle.text.specs.Bytes.{Bytes, bytes}
use Rattle.rules.specs.Choice.{choose}
use Rattle.rules.specs.Fields.{newline}
use Rattle.deck.specs.Translation.{Translated, deck, refused, translated}
use Rattle.answers.specs.Answers.{refused_answer, deck_answer}
use Rattle.batch.specs.declared.Case.{Case}
use Rattle.batch.specs.declared.Case.TheVariants.{Found, End, Broken}
use Rattle.batch.specs.Format.{case_at}
use Rattle.translate_batch.specs.declared.Place.{Place}

-- ---- answers

-- " DECK <bytes>\n<the deck's bytes>\n"
unfoldable pub deck_told : Bytes → Bytes
deck_told d = (deck_answer (length d) ++ d) ++ (newline ∷ [])

-- what an answer says behind its id
unfoldable pub told : Translated → Bytes
told (deck d) = deck_told d
told (refused e n) = refused_answer e n

-- "ANSWER <id> ..": the answer to a case with this id and this library, where a deck has this room
unfoldable pub answer_to : Bytes → Bytes → ℕ → Bytes
answer_to id library room = (bytes "ANSWER " ++ id) ++ told (translated library room)

-- the bytes of an input from one place to another
abbrev pub part : Bytes → ℕ → ℕ → Bytes
part input from to = take (to - from) (drop from input)

-- the cases of an input that stand one behind another from its start on: up to which place they are answered, and by which bytes
pub data Answered (input : Bytes) (room : ℕ) : ℕ → Bytes → Type 0 where
  at_start : Answered input room 0 []
  one_more : {at id blank library program stop next output workspace : ℕ} {written : Bytes}
      → Answered input room at written
      → case_at input at ≡ Found id blank library program stop next output workspace
      → Answered input room next (written ++ answer_to (part input id blank) (part input library program) room)

unfoldable pub message : Bytes
message = bytes "translate_batch: a case starts: CASE id library program output workspace\n"

-- what is said where no case stands, by the bytes that stand there
unfoldable pub complaint : Bytes → Bytes
complaint [] = []
complaint (b ∷ s) = message

abbrev pub IsNoCase : Case → Type 0
IsNoCase (Found id blank library program stop next output workspace) = ⊥
IsNoCase End = Unit {0}
IsNoCase Broken = Unit {0}

-- What a run over an input does to the bytes that standard output and standard error hold: all cases are answered up to a place where none stands that fits
-- into the window.
pub record Answers (input : Bytes) (window room : ℕ) (output output' errors errors' : Option Bytes) : Type 0 where
  pub written : Bytes
  pub place : ℕ
  pub answered : Answered input room place written
  pub stops : IsNoCase (case_at (take window (drop place input)) 0)
  pub on_output : Appends output output' written
  pub on_errors : Appends errors errors' (complaint (take window (drop place input)))

-- ---- the window

-- the input that is not answered yet: what the window shows of it, and what is not read
abbrev pub input_left : Bytes → ℕ → ℕ → Option Bytes → Option Bytes
input_left window at used unread = prepend_known (drop at (take used window)) unread

-- the window stands at this place of the input
pub record Stands (input : Bytes) (place : ℕ) (window : Bytes) (at used : ℕ) (unread : Option Bytes) : Type 0 where
  pub in_order : at ≤ used
  pub in_window : used ≤ length window
  pub left : input_left window at used unread ≡ Some (drop place input)

abbrev pub known_length : Option Bytes → ℕ
known_length None = 0
known_length (Some s) = length s

-- reading on from a place: the window shows more of the input; or all of it is shown that the window holds, and it is said whether that is wrong
abbrev pub ReadsOn : Bytes → ℕ → Bytes → Bool → Option Bytes → Option Bytes → Bytes → Option Bytes → Option Bytes → Option Place → Type 0
ReadsOn input place shown ended unread errors window' unread' errors' (Some p) =
    Stands input place window' p.at p.used unread' × (known_length unread' < known_length unread) × Keeps errors errors'
ReadsOn input place shown ended unread errors window' unread' errors' None =
    (take (length window') (drop place input) ≡ shown) × Appends errors errors' (choose ended [] message)

-- a step from one place to another: none, or over a case, which is answered
pub data Moves (input : Bytes) (room : ℕ) (output output' : Option Bytes) : ℕ → ℕ → Type 0 where
  stays : {place : ℕ} → Appends output output' [] → Moves input room output output' place place
  answers : {place id blank library program stop next room' workspace : ℕ}
      → case_at input place ≡ Found id blank library program stop next room' workspace
      → Appends output output' (answer_to (part input id blank) (part input library program) room)
      → Moves input room output output' place next

-- a step leaves less of the input unanswered or unread; or it is the last, where no case stands that fits into the window
abbrev pub Steps : Bytes → ℕ → ℕ → Option Bytes → Option Bytes → Option Bytes → Bytes → Option Bytes → Option Bytes → Option Bytes → Option Place → Type 0
Steps input place room unread output errors window' unread' output' errors' (Some p) =
    (next : ℕ) × (Stands input next window' p.at p.used unread' × (length (drop next input) + known_length unread' < length (drop place input) + known_length unread)
    × Moves input room output output' place next × Keeps errors errors')
Steps input place room unread output errors window' unread' output' errors' None =
    IsNoCase (case_at (take (length window') (drop place input)) 0) × Appends errors errors' (complaint (take (length window') (drop place input)))
    × Appends output output' []
