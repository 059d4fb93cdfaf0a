-- How many steps a simulated tournament may still take. This project's own.
use Rattle.std.specs.Prelude.{ℕ, ◌+◌, ◌-◌, ◌*◌, ◌||◌, if◌then◌else◌, length, count_by, Option, Some, None}
use Rattle.std.specs.Option.{option_map_or}
use Rattle.rulebook.specs.Limits.{most_entries}
use Rattle.level_plan.specs.Limits.{greatest_amount, most_levels}
use Rattle.seat_book.specs.Counts.{is_open, table_numbers}
use Rattle.seat_book.specs.Seatings.{Seating}
use Rattle.table_engine.specs.Hands.{HandTerms}
use Rattle.table_engine.specs.Starts.{chips_of}
use Rattle.floor_director.specs.Spread.{spread}
use Rattle.tournament_rules.specs.Books.{BookState}
use Rattle.tournament_rules.specs.Checks.{is_playing}
use Rattle.tournament_rules.specs.States.{State, PlayState, hand_at}
use Rattle.tournament_rules.specs.Units.{is_due, most_of_level}
use Rattle.simulation_rules.specs.declared.place.SimPlace.{SimPlace}
use Rattle.simulation_rules.specs.Entrants.{entrants}
use Rattle.simulation_rules.specs.Limits.{most_hands}

-- The most chips that there may be: those of all entries, and those that all races give.
unfoldable pub most_chips : ℕ
most_chips = most_entries * greatest_amount + most_of_level * most_levels

-- The most acts of a hand.
unfoldable pub most_acts : ℕ
most_acts = most_chips + 50

-- How many tables are open.
abbrev pub open_tables : Seating → ℕ
open_tables seating = count_by (is_open seating.players) (table_numbers seating.table_count)

-- Orders: a break closes a table, and a balance lowers the spread of the counts, which is at most 6,400.
unfoldable pub effort_of_orders : Seating → ℕ
effort_of_orders seating = 6401 * open_tables seating + spread seating

-- Entries: each may open a table and raises the spread.
abbrev pub effort_of_entries : BookState → ℕ
effort_of_entries book = 13000 * (entrants book.plan - length book.entries)

-- Levels and races: a level announces races at up to 64 tables.
unfoldable pub effort_of_levels : BookState → ℕ
effort_of_levels book =
    65 * (length book.plan.blinds - book.level) + count_by is_due book.seating.tables

-- A hand that is played: as many acts as it may have, and its settle.
abbrev pub effort_of_hand : Option HandTerms → ℕ
effort_of_hand None = 0
effort_of_hand (Some hand) = chips_of hand.start.seats + 51 - length hand.acts

-- Hands that may still begin: each with its begin, its acts and its settle, and with a round of its own.
unfoldable pub effort_of_hands : BookState → ℕ
effort_of_hands book = (most_hands - book.begun) * (most_acts + book.plan.tables + 3)

-- Places: the tables of this round that are left, and those of another round, where a hand was or is played.
abbrev pub effort_of_places : BookState → SimPlace → ℕ
effort_of_places book place =
    (book.plan.tables + 1 - place.table)
    + (if place.any_played || is_playing book place.table then book.plan.tables + 1 else 0)

-- What a tournament that is not stopped may still take.
unfoldable pub effort_in_play : PlayState → SimPlace → ℕ
effort_in_play play place =
    1 + effort_of_entries play.book + effort_of_orders play.book.seating + effort_of_levels play.book
    + effort_of_hands play.book + effort_of_hand (hand_at play place.table) + effort_of_places play.book place

-- How many steps a simulated tournament may still take: none once it is stopped.
abbrev pub effort : State → SimPlace → ℕ
effort state place =
    option_map_or (λ play. if play.book.stopped then 0 else effort_in_play play place) state.play 0
