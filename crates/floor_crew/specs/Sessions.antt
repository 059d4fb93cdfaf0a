-- The sessions that were held at the doors while a tournament was served. This project's own.
use Rattle.std.specs.Prelude.{◌≡◌, ℕ, List, All, Option, Some, IfSome}
use mathlib.Core.List.{IsPrefix}
use Rattle.plan_files.specs.Words.{WordTerms}
use Rattle.links.specs.Telling.{DoorTelling, Telling}
use Rattle.session_desk.specs.Desks.{AreLater, Numbers, Sights}
use Rattle.session_desk.specs.Talks.{Served, WasServed, floor_in}
use Rattle.session_desk.specs.Works.{AreBack}
use Rattle.floor_crew.specs.DoorRuns.{DoorRun}

module _ {D L : Type 0} (door_told : D → Option (DoorTelling L)) (link_told : L → Option Telling)
    (link_faults : L → ℕ) (words : WordTerms) (count : ℕ) (end : Sights) where
  -- A session of a tournament that came to this journal and to these histories of its tables. It was served at some
  -- desk, up to an end that has its cause; what had been seen there is the beginning of what the tournament came to;
  -- and the floor's lines that were told in it are those of the first entries of the journal, and none is skipped.
  pub record IsSessionOf (one : Served L) : Type 0 where
    pub numbers : Numbers
    pub first : Sights
    pub seen : Sights
    pub was : WasServed link_told link_faults words count numbers first seen one
    pub earlier : AreLater seen end
    pub floor : IsPrefix (floor_in one.log) end.journal

  -- The clients of a door were served, one after another, each in a session of the tournament. Where the door tells, it
  -- was knocked, and each link that it gave is back as its session left it.
  pub record WasAttended (door : DoorRun D) : Type 0 where
    pub sessions : List (Served L)
    pub each : All IsSessionOf sessions
    pub links : IfSome (door_told door.given)
        (λ t. (u : DoorTelling L) × (door_told door.back ≡ Some u) × AreBack sessions t u)
