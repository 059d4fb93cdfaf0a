-- Chips that go into a hand seat by seat.
use Rattle.std.proofs.Common.{◌≡◌, ◌∙◌, sym, ap, ℕ, ◌+◌, Bool, true, false, List, cond, refl}
use Rattle.std.specs.Prelude.{not, ◌&&◌, is_some, Option, Some, None}
use Rattle.button_blinds.specs.SeatSets.{has_seat}
use Rattle.seat_book.specs.declared.seated.Seated.{Seated}
use Rattle.seat_book.specs.Players.{player_at, with_stack}
use Rattle.seat_book.specs.Seatings.{Seating, IsSeating}
use Rattle.tournament_rules.specs.Players.{dealt_in}
use Rattle.tournament_rules.proofs.DealtBelow.{dealt_below, seat_of, dealt-seat, dealt-waiting, dealt-empty, dealt-all, dealt-none}

-- the seats with these players
abbrev pub seated_as : Seating → List Seated → Seating
seated_as seats players = record seats { players = players }

-- the seats once those who are dealt in and sit in the first so many seats have nothing at rest
pub record IsDealtSoFar (before now : Seating) (table : ℕ) (waiting : List Bool) (below : ℕ) : Type 0 where
  pub dealt : now ≡ seated_as before (dealt_below table waiting below before.players)
  pub lawful : IsSeating before

-- Before any seat nobody is dealt in.
pub dealt_first : (before : Seating) (table : ℕ) (waiting : List Bool) → IsSeating before
    → IsDealtSoFar before before table waiting 0
dealt_first before table waiting lawful = record {
  dealt = ap (seated_as before) (sym
      (dealt-none before.table_count before.seat_count table waiting before.players lawful.within));
  lawful = lawful;
}

-- One seat more.
pub dealt_next : (before now next : Seating) (table : ℕ) (waiting : List Bool) (below : ℕ)
    → IsDealtSoFar before now table waiting below
    → next ≡ cond (is_some (player_at now.players (seat_of table (below + 1))) && not (has_seat waiting (below + 1)))
    (seated_as now (with_stack (seat_of table (below + 1)) 0 now.players)) now
    → IsDealtSoFar before next table waiting (below + 1)
dealt_next before now next table waiting below so_far is = record {
  dealt = (rw so_far.dealt at is) ∙ by_cases (player_at (dealt_below table waiting below before.players)
      (seat_of table (below + 1))) refl (has_seat waiting (below + 1)) refl;
  lawful = so_far.lawful;
}
  where
    by_cases : (o : Option Seated) → player_at (dealt_below table waiting below before.players)
        (seat_of table (below + 1)) ≡ o → (h : Bool) → has_seat waiting (below + 1) ≡ h
        → cond (is_some (player_at (dealt_below table waiting below before.players) (seat_of table (below + 1)))
        && not (has_seat waiting (below + 1)))
        (seated_as before (with_stack (seat_of table (below + 1)) 0
        (dealt_below table waiting below before.players)))
        (seated_as before (dealt_below table waiting below before.players))
        ≡ seated_as before (dealt_below table waiting (below + 1) before.players)
    by_cases None nobody h here =
        rw nobody (ap (seated_as before) (dealt-empty table waiting below before.players nobody))
    by_cases (Some player) somebody true waits =
        rw (somebody, waits) (ap (seated_as before) (dealt-waiting table waiting below before.players waits))
    by_cases (Some player) somebody false plays =
        rw (somebody, plays) (ap (seated_as before) (dealt-seat table waiting below before.players plays))

-- Once all seats are passed, all who do not wait are dealt in.
pub dealt_last : (before now : Seating) (table : ℕ) (waiting : List Bool) (below : ℕ)
    → IsDealtSoFar before now table waiting below → below ≡ before.seat_count → now
    ≡ seated_as before (dealt_in table waiting before.players)
dealt_last before now table waiting below so_far all =
    so_far.dealt ∙ ap (seated_as before) (ap (λ (below : ℕ). dealt_below table waiting below before.players) all ∙
    dealt-all before.table_count before.seat_count table waiting before.players so_far.lawful.within)
