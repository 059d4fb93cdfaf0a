-- A seating: the tables, and who sits there. This project's own.
use Rattle.std.specs.Prelude.{◌≡◌, ◌≤◌, ℕ, Bool, true, false, ◌&&◌, nat_lt, List, [], length, replicate}
use Rattle.std.specs.List.{list_all, list_any}
use Rattle.std.specs.Option.{is_some}
use Rattle.rulebook.specs.Limits.{most_entries}
use Rattle.seat_book.specs.declared.seated.Seated.{Seated}
use Rattle.seat_book.specs.declared.table_status.TableStatus.{TableStatus}
use Rattle.seat_book.specs.Places.{is_place_of}
use Rattle.seat_book.specs.Players.{are_in_order, are_apart}
use Rattle.seat_book.specs.Counts.{is_open, table_numbers}
use Rattle.seat_book.specs.Tables.{fresh_status, status_at, IsStatusOf}

pub record Seating : Type 0 where
  -- the number of tables
  pub table_count : ℕ
  -- the number of seats of each table
  pub seat_count : ℕ
  -- the players who sit, by table and then by seat
  pub players : List Seated
  -- how each table stands, by number
  pub tables : List TableStatus
  -- whether hand-for-hand is on
  pub hands : Bool

-- So many tables of so many seats, where nobody sits and no hand was played.
abbrev pub empty_seating : ℕ → ℕ → Seating
empty_seating tables seats = record {
  table_count = tables;
  seat_count = seats;
  players = [];
  tables = replicate tables fresh_status;
  hands = false;
}

-- A player sits at one of so many tables, in one of so many seats.
abbrev pub sits_within : ℕ → ℕ → Seated → Bool
sits_within tables seats seated = is_place_of tables seats seated.place

-- A player's number is one of those of 640 entries, from 0.
abbrev pub is_entry : Seated → Bool
is_entry seated = nat_lt seated.player most_entries

-- What holds of a seating at every moment.
pub record IsSeating (seating : Seating) : Type 0 where
  -- there are 1 to 64 tables
  pub some_tables : 1 ≤ seating.table_count
  pub most_tables : seating.table_count ≤ 64
  -- of 2 to 10 seats
  pub some_seats : 2 ≤ seating.seat_count
  pub most_seats : seating.seat_count ≤ 10
  -- each table stands somehow
  pub tables : length seating.tables ≡ seating.table_count
  pub statuses : (table : ℕ) → IsStatusOf seating.seat_count (status_at seating.tables table)
  -- everyone sits in a place that the tables have
  pub within : list_all (sits_within seating.table_count seating.seat_count) seating.players ≡ true
  -- the players are listed in order, and no two sit in one place
  pub ordered : are_in_order seating.players ≡ true
  -- the players' numbers are those of entries
  pub entries : list_all is_entry seating.players ≡ true
  -- and no two players have one number
  pub apart : are_apart seating.players ≡ true

-- A chip race is pending at some table.
abbrev pub is_race_pending : Seating → Bool
is_race_pending seating = list_any (λ status. is_some status.race) seating.tables

-- Some table plays a hand.
abbrev pub is_any_playing : Seating → Bool
is_any_playing seating = list_any (λ status. status.playing) seating.tables

-- Some table has begun a hand in the round of hand-for-hand.
abbrev pub is_any_begun : Seating → Bool
is_any_begun seating = list_any (λ status. status.begun) seating.tables

-- Hand-for-hand is on, and some table has begun in this round.
abbrev pub is_round_open : Seating → Bool
is_round_open seating = seating.hands && is_any_begun seating

-- An open table has a higher number than this one.
abbrev pub is_not_last : Seating → ℕ → Bool
is_not_last seating table =
    list_any (λ other. is_open seating.players other && nat_lt table other) (table_numbers seating.table_count)
