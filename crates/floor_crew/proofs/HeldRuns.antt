-- What a tournament is that was held at doors.
use Rattle.std.proofs.Common.{◌≡◌, refl, ap, subst, ℕ, ◌<◌, Bool, true, false, List, [], ◌∷◌, Option, map, arith}
use Rattle.std.specs.Prelude.{All, length, vec_len}
use Rattle.std.specs.List.{AllZip}
use Rattle.std.proofs.lemmas.List.Elements.{All-cons, All-head, All-nil, All-tail, All-weaker}
use Rattle.history_lock.proofs.Prefixes.{prefix_trans}
use Rattle.plan_files.specs.Words.{WordTerms}
use Rattle.links.specs.Telling.{DoorTelling, Telling}
use Rattle.session_desk.specs.Desks.{AreLater, Sights, numbers_of, sights}
use Rattle.session_desk.specs.Talks.{Served, WasServed, floor_in, sights_through}
use Rattle.session_desk.proofs.InOrder.{floor-in-order}
use Rattle.floor_crew.specs.declared.floor.Floor.{Floor}
use Rattle.floor_crew.specs.declared.jobs.Attended.{Attended}
use Rattle.floor_crew.specs.DoorRuns.{AreRuns, DoorRun, IsFailure}
use Rattle.floor_crew.specs.Sessions.{IsSessionOf, WasAttended}
use Rattle.floor_crew.specs.Working.{HasAttended}

-- doors as they were given, with what came back from their desks
abbrev pub runs_of : {D : Type 0} → List D → List (Attended D) → List (DoorRun D)
runs_of [] attended = []
runs_of (door ∷ doors) [] = []
runs_of (door ∷ doors) (one ∷ attended) =
    record { given = door; back = one.door; failed = one.failed } ∷ runs_of doors attended

module _ {D L : Type 0} (door_told : D → Option (DoorTelling L)) (door_faults : D → ℕ)
    (link_told : L → Option Telling) (link_faults : L → ℕ) (words : WordTerms) where
  -- a door is told to have failed just where its count of faults rose
  failure-of : (floor : Floor) (door : D) (one : Attended D) (failed : Bool) → one.failed ≡ failed
      → HasAttended floor door_told door_faults link_told link_faults words door one
      → door_faults door < door_faults one.door → one.failed ≡ true
  failure-of floor door one true is attended more = is
  failure-of floor door one false is attended more = let same = attended.steady is in absurd (omega (arith, same, more))

  module _ (end : Sights) (count : ℕ) where
    -- a session that was served at a desk is one of the tournament
    session-of : (floor : Floor) (door : D) (one : Attended D)
        → (attended : HasAttended floor door_told door_faults link_told link_faults words door one)
        → AreLater (sights one.desk) end → (session : Served L)
        → WasServed link_told link_faults words count (numbers_of attended.start) (sights attended.start)
        (sights one.desk) session → IsSessionOf door_told link_told link_faults words count end session
    session-of floor door one attended later session was = record {
      numbers = numbers_of attended.start;
      first = sights attended.start;
      seen = sights one.desk;
      was = was;
      earlier = later;
      floor = prefix_trans (floor_in session.log) (sights one.desk).journal end.journal
          (prefix_trans (floor_in session.log) (sights_through session.began session.log).journal
          (sights one.desk).journal
          (floor-in-order words count (numbers_of attended.start) session.began session.log was.moments)
          was.earlier.journal) later.journal;
    }

    -- the clients of each door were served in it
    pub runs-held : (floor : Floor) → vec_len floor.docks ≡ count → (doors : List D) (attended : List (Attended D))
        → AllZip (HasAttended floor door_told door_faults link_told link_faults words) doors attended
        → All (λ (one : Attended D). AreLater (sights one.desk) end) attended
        → All (WasAttended door_told link_told link_faults words count end) (runs_of doors attended)
        × All (IsFailure door_faults) (runs_of doors attended)
    runs-held floor same [] attended each later =
        (All-nil (WasAttended door_told link_told link_faults words count end), All-nil (IsFailure door_faults))
    runs-held floor same (door ∷ doors) [] each later = absurd each
    runs-held floor same (door ∷ doors) (one ∷ attended) each later =
        let P : Attended D → Type 0 = λ a. AreLater (sights a.desk) end in
        let rest = runs-held floor same doors attended each.1 (All-tail P one attended later) in
        let here = All-head P one attended later in
        let its = each.0 in
        let run : DoorRun D = record { given = door; back = one.door; failed = one.failed } in
        let served = subst (λ n. All (WasServed link_told link_faults words n (numbers_of its.start) (sights its.start)
        (sights one.desk)) its.worked.sessions) same its.worked.each in (
          All-cons (WasAttended door_told link_told link_faults words count end) run (runs_of doors attended)
              (record {
                sessions = its.worked.sessions;
                each = All-weaker (WasServed link_told link_faults words count (numbers_of its.start) (sights its.start)
                    (sights one.desk)) (IsSessionOf door_told link_told link_faults words count end)
                    (session-of floor door one its here) its.worked.sessions served;
                links = its.worked.door;
              }) rest.0,
          All-cons (IsFailure door_faults) run (runs_of doors attended)
              (record { rose = its.rose; each = failure-of floor door one one.failed refl its }) rest.1,
        )

-- the doors as they were given, as they came back, and which failed
pub are-runs : {D : Type 0} (doors : List D) (attended : List (Attended D)) → length attended ≡ length doors
    → AreRuns (runs_of doors attended) doors (map (λ (one : Attended D). one.door) attended)
    (map (λ (one : Attended D). one.failed) attended)
are-runs [] [] as_many = record { given_are = refl; back_are = refl; failed_are = refl }
are-runs [] (one ∷ attended) as_many = absurd (omega (arith, as_many))
are-runs (door ∷ doors) [] as_many = absurd (omega (arith, as_many))
are-runs {D = D} (door ∷ doors) (one ∷ attended) as_many =
    let rest = are-runs doors attended (omega (arith, as_many)) in
    record {
      given_are = ap (λ (l : List D). door ∷ l) rest.given_are;
      back_are = ap (λ (l : List D). one.door ∷ l) rest.back_are;
      failed_are = ap (λ (l : List Bool). one.failed ∷ l) rest.failed_are;
    }
