-- What a desk does at a door. This project's own.
use Rattle.std.specs.Prelude.{◌≡◌, ◌++◌, ℕ, List, [], ◌∷◌, All, map, Option, Some, IfSome}
use Rattle.std.specs.List.{flat_map}
use Rattle.floor_text.specs.Outside.{Rose}
use Rattle.plan_files.specs.Words.{WordTerms}
use Rattle.links.specs.Telling.{DoorTelling, Telling}
use Rattle.session_desk.specs.declared.desk.Desk.{Desk}
use Rattle.session_desk.specs.Desks.{AreLater, HasDeskMoved, Sights, numbers_of, sights}
use Rattle.session_desk.specs.Talks.{Served, WasServed, brought_in, sights_through}

-- A door was knocked, and all links that it gave meanwhile are back, as their sessions left them.
pub record AreBack {L : Type 0} (sessions : List (Served L)) (before after : DoorTelling L) : Type 0 where
  pub knocked : Rose before.knocks after.knocks
  pub given : after.given ≡ before.given ++ map (λ (one : Served L). one.came) sessions
  pub back : after.back ≡ before.back ++ map (λ (one : Served L). one.left) sessions

-- Sessions were served in turn: as each began no less had been seen than behind the one before it.
abbrev pub AreInTurn : {L : Type 0} → Sights → List (Served L) → Type 0
AreInTurn seen [] = Unit {0}
AreInTurn seen (one ∷ sessions) =
    AreLater seen one.began × AreInTurn (sights_through one.began one.log) sessions

-- A desk served some sessions, one after another, and its passes brought just what their lines brought.
pub record HasWorked {D L : Type 0} (told : D → Option (DoorTelling L)) (told_by : L → Option Telling)
    (faults : L → ℕ) (words : WordTerms) (count : ℕ) (first last : D) (start now : Desk) : Type 0 where
  pub sessions : List (Served L)
  pub each : All (WasServed told_by faults words count (numbers_of start) (sights start) (sights now)) sessions
  pub turns : AreInTurn (sights start) sessions
  pub moved : HasDeskMoved 0 (λ table. 0) (brought_in (flat_map (λ (one : Served L). one.log) sessions)) start now
  pub door : IfSome (told first) (λ t. (u : DoorTelling L) × (told last ≡ Some u) × AreBack sessions t u)
