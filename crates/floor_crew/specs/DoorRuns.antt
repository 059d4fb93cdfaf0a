-- The doors at which a tournament is held, as they were given and as they came back. This project's own.
use Rattle.std.specs.Prelude.{◌≡◌, ◌<◌, ℕ, Bool, true, List, map}
use Rattle.floor_text.specs.Outside.{Rose}

-- A door: as the hall gave it, as it came back, and whether it is told to have failed.
pub record DoorRun (D : Type 0) : Type 0 where
  pub given : D
  pub back : D
  pub failed : Bool

module _ {D : Type 0} where
  -- Doors as they were given and as they came back, with whether each is told to have failed, in one order.
  pub record AreRuns (doors : List (DoorRun D)) (given back : List D) (failed : List Bool) : Type 0 where
    pub given_are : map (λ (door : DoorRun D). door.given) doors ≡ given
    pub back_are : map (λ (door : DoorRun D). door.back) doors ≡ back
    pub failed_are : map (λ (door : DoorRun D). door.failed) doors ≡ failed

  -- A door is told to have failed only where its count of faults rose, and wherever that is greater.
  pub record IsFailure (faults : D → ℕ) (door : DoorRun D) : Type 0 where
    pub rose : door.failed ≡ true → Rose (faults door.given) (faults door.back)
    pub each : faults door.given < faults door.back → door.failed ≡ true
