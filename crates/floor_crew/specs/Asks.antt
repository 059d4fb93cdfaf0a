-- The lines that the clients at the doors say. This project's own.
use Rattle.std.specs.Prelude.{ℕ, List, [], ◌∷◌, ◌++◌, Option, Some, None, drop, length, option_map, option_to_list, if◌then◌else◌}
use Rattle.floor_text.specs.Lines.{lines_of_bytes}
use Rattle.plan_files.specs.Words.{WordTerms}
use Rattle.links.specs.Telling.{DoorTelling, Telling}
use Rattle.session_lines.specs.declared.hello.Speaker.{Speaker}
use Rattle.session_lines.specs.Meanings.{meaning_of}
use Rattle.session_desk.specs.Standings.{is_quit, speaker_after}
use Rattle.floor_crew.specs.DoorRuns.{DoorRun}

-- A line that somebody says: who says it, and the line, none where it is too long.
pub record LineSaid : Type 0 where
  pub who : Speaker
  pub line : Option (List ℕ)

-- a line as what this one says, where somebody speaks
abbrev pub said_by : Option Speaker → Option (List ℕ) → List LineSaid
said_by speaker line =
    option_to_list (option_map (λ (who : Speaker). record { who = who; line = line }) speaker)

-- What is said by lines where this one speaks, or nobody before a right hello: each line behind the hello is the
-- speaker's, up to the one that ends the session.
abbrev pub asks_from : WordTerms → Option Speaker → List (Option (List ℕ)) → List LineSaid
asks_from words speaker [] = []
asks_from words speaker (line ∷ lines) =
    if is_quit (Some (meaning_of words speaker line)) then []
    else said_by speaker line
    ++ asks_from words (speaker_after (Some (meaning_of words speaker line)) speaker) lines

-- What is said by the bytes of a link, which are cut into lines: each line behind the first right hello and before
-- `quit`, with who said that hello.
unfoldable pub asks : WordTerms → List ℕ → List LineSaid
asks words bytes = asks_from words None (lines_of_bytes bytes)

-- the bytes that a link gave between two tellings
abbrev pub bytes_between : Telling → Telling → List ℕ
bytes_between before after = drop (length before.given) after.given

-- one list behind the other, where both are there
abbrev pub both : {A : Type 0} → Option (List A) → Option (List A) → Option (List A)
both (Some one) (Some other) = Some (one ++ other)
both one other = None

-- what was said on a link, by what it told as it came and as it was left: none where it does not tell
abbrev pub asks_on_link : WordTerms → Option Telling → Option Telling → Option (List LineSaid)
asks_on_link words (Some before) (Some after) = Some (asks words (bytes_between before after))
asks_on_link words before after = None

module _ {L : Type 0} (link_told : L → Option Telling) (words : WordTerms) where
  -- what was said on links, as they came and as they were left, one after another
  abbrev pub asks_on : List L → List L → Option (List LineSaid)
  asks_on (came ∷ others) (left ∷ more) =
      both (asks_on_link words (link_told came) (link_told left)) (asks_on others more)
  asks_on came left = Some []

  -- what was said on the links that a door gave between two tellings, where it tells
  abbrev pub asks_told : Option (DoorTelling L) → Option (DoorTelling L) → Option (List LineSaid)
  asks_told (Some before) (Some after) =
      asks_on (drop (length before.given) after.given) (drop (length before.back) after.back)
  asks_told before after = None

-- What was said on the links that doors gave; none where one of the doors or of the links does not tell.
abbrev pub asks_at : {D L : Type 0} → (D → Option (DoorTelling L)) → (L → Option Telling) → WordTerms
    → List (DoorRun D) → Option (List LineSaid)
asks_at door_told link_told words [] = Some []
asks_at door_told link_told words (door ∷ doors) =
    both (asks_told link_told words (door_told door.given) (door_told door.back))
    (asks_at door_told link_told words doors)
