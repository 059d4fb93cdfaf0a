-- Who enters a simulated tournament, and where. This project's own.
use Rattle.std.specs.Prelude.{ℕ, ◌+◌, ◌*◌, ◌∷◌, List, length, unwrap_or}
use Rattle.std.specs.Fmt.{decimal}
use Rattle.level_plan.specs.Plans.{PlanTerms}
use Rattle.seat_book.specs.Counts.{count_at, table_numbers}
use Rattle.seat_book.specs.Seatings.{Seating}
use Rattle.balance_rule.specs.EmptySeats.{is_empty_seat, lowest_seat}
use Rattle.balance_rule.specs.Filling.{lowest_table}
use Rattle.tournament_events.specs.declared.event.Event.{Event}
use Rattle.tournament_events.specs.declared.event.Event.TheVariants.{Enter}
use Rattle.tournament_rules.specs.Books.{BookState}

-- As many players enter as the plan has seats.
abbrev pub entrants : PlanTerms → ℕ
entrants plan = plan.tables * plan.seats

-- The name of the player who enters after so many others: p1, p2, and so on.
abbrev pub entrant_name : ℕ → List ℕ
entrant_name before = 112 ∷ decimal (before + 1)

-- The table that is entered next: the one with the lowest count, and of more such tables the one with the lowest
-- number.
unfoldable pub table_to_enter : Seating → ℕ
table_to_enter seating =
    unwrap_or (lowest_table (count_at seating.players) (table_numbers seating.table_count)) 1

-- The seat that is taken there: the lowest empty one.
unfoldable pub seat_to_take : Seating → ℕ → ℕ
seat_to_take seating table = unwrap_or (lowest_seat seating.seat_count (is_empty_seat seating.players table)) 1

-- The entry that comes next.
abbrev pub next_entry : BookState → Event
next_entry book =
    let table = table_to_enter book.seating in
    Enter (entrant_name (length book.entries)) table (seat_to_take book.seating table)
