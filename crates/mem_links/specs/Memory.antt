-- A link, a door and a hall in memory. This project's own.
use Rattle.std.specs.Prelude.{ℕ, ◌+◌, ◌≤◌, ◌<◌, ◌≡◌, List, [], length, if◌then◌else◌}
use Rattle.links.specs.declared.link.Taken.TheVariants.{End}
use Rattle.mem_links.specs.declared.script.Script.{Script}
use Rattle.mem_links.specs.Scripts.{Place, Step, play, IsSearchedBy}
use Rattle.links.specs.Telling.{Telling, DoorTelling, HallTelling}

-- a link: what it tells, where its script is, how many bytes it has room for, the numbers of its calls that fail, and
-- how many calls were made and failed
pub record MemoryLink : Type 0 where
  pub told : Telling
  pub place : Place
  pub room : ℕ
  pub failing : List ℕ
  pub calls : ℕ
  pub faults : ℕ

-- what was put is within the room, the vector has that room, and as much of it was searched as is kept
pub record IsMemoryLink (script : Script) (put : List ℕ) (capacity room : ℕ) : Type 0 where
  pub within : length put ≤ room
  pub fits : room ≤ capacity
  pub searched : IsSearchedBy script put

-- a take of at most so many bytes: a link that has ended answers End, and another one plays its script
abbrev pub step_of_link : ℕ → MemoryLink → Step
step_of_link room link =
    if link.told.ended then record { taken = End; bytes = []; place = link.place }
    else play room link.told.put link.place

-- a door: what it tells, the links that it has still to give, the numbers of its knocks that fail, and how many failed
pub record MemoryDoor : Type 0 where
  pub told : DoorTelling MemoryLink
  pub waiting : List MemoryLink
  pub failing : List ℕ
  pub faults : ℕ

-- no more links are back than were given, and there is room for those that are given and for those that come back
pub record IsMemoryDoor (waiting given back given_room back_room : ℕ) : Type 0 where
  pub fewer : back ≤ given
  pub room_for_given : given + waiting ≤ given_room
  pub room_for_back : given + waiting ≤ back_room

-- a hall: what it tells, the doors that it has still to give, the numbers of its calls that fail, and how many calls
-- were made and failed
pub record MemoryHall : Type 0 where
  pub told : HallTelling MemoryDoor
  pub doors : List MemoryDoor
  pub failing : List ℕ
  pub calls : ℕ
  pub faults : ℕ

-- the doors are given once, and there is room for those that come back
pub record IsMemoryHall (doors given back room : ℕ) : Type 0 where
  pub once : 0 < doors → given ≡ 0
  pub fewer : back ≤ given
  pub fits : given ≤ room
