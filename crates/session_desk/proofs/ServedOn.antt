-- A session that was served, by what was seen before it and behind it.
use Rattle.std.proofs.Common.{subst, ℕ, List, Option}
use Rattle.std.specs.Prelude.{slice_index_or}
use Rattle.std.specs.List.{All}
use Rattle.plan_files.specs.Words.{WordTerms}
use Rattle.links.specs.Telling.{Telling}
use Rattle.session_desk.specs.declared.desk.Desk.{Desk}
use Rattle.session_desk.specs.Desks.{AreLater, Brought, HasDeskMoved, Numbers, Sights, numbers_of, sights}
use Rattle.session_desk.specs.Talks.{Served, WasServed, sights_through}
use Rattle.session_desk.proofs.DeskMoves.{later-sights, later-trans, numbers-kept}

module _ {L : Type 0} (told_by : L → Option Telling) (faults : L → ℕ) (words : WordTerms) (count : ℕ) where
  -- it was served, whatever is seen behind what was seen then
  served-later : (numbers : Numbers) (first seen more : Sights) (one : Served L) → AreLater seen more
      → WasServed told_by faults words count numbers first seen one
      → WasServed told_by faults words count numbers first more one
  served-later numbers first seen more one longer served = record {
    later = served.later;
    moments = served.moments;
    earlier = later-trans (sights_through one.began one.log) seen more served.earlier longer;
    ends_by = served.ends_by;
    spoken = served.spoken;
    untouched = served.untouched;
    cause = served.cause;
  }

  -- and whatever had been seen before that
  served-since : (numbers : Numbers) (before first seen : Sights) (one : Served L) → AreLater before first
      → WasServed told_by faults words count numbers first seen one
      → WasServed told_by faults words count numbers before seen one
  served-since numbers before first seen one longer served = record {
    later = later-trans before first one.began longer served.later;
    moments = served.moments;
    earlier = served.earlier;
    ends_by = served.ends_by;
    spoken = served.spoken;
    untouched = served.untouched;
    cause = served.cause;
  }

  module _ (looks : ℕ) (table_looks : ℕ → ℕ) (brought : Brought) where
    -- Sessions that were served at a desk were served as well once it has moved on.
    pub all-later : (start before after : Desk) (sessions : List (Served L))
        → HasDeskMoved looks table_looks brought before after
        → All (WasServed told_by faults words count (numbers_of start) (sights start) (sights before)) sessions
        → All (WasServed told_by faults words count (numbers_of start) (sights start) (sights after)) sessions
    all-later start before after sessions moved all = λ k one within.
        served-later (numbers_of start) (sights start) (sights before) (sights after) (slice_index_or sessions k one)
        (later-sights looks table_looks brought before after moved) (all k one within)

    -- And they were served at it as it stood before it moved on.
    pub all-since : (before start now : Desk) (sessions : List (Served L))
        → HasDeskMoved looks table_looks brought before start
        → All (WasServed told_by faults words count (numbers_of start) (sights start) (sights now)) sessions
        → All (WasServed told_by faults words count (numbers_of before) (sights before) (sights now)) sessions
    all-since before start now sessions moved all = λ k one within.
        served-since (numbers_of before) (sights before) (sights start) (sights now) (slice_index_or sessions k one)
        (later-sights looks table_looks brought before start moved)
        (subst (λ (n : Numbers). WasServed told_by faults words count n (sights start) (sights now)
        (slice_index_or sessions k one)) (numbers-kept looks table_looks brought before start moved) (all k one within))
