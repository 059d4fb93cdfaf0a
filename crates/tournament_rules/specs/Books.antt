-- The book of a tournament: all of it but the acts of the hands that are played. This project's own.
use Rattle.std.specs.Prelude.{ℕ, ◌+◌, ◌-◌, Bool, List, [], replicate, slice_index_or, slice_get, unwrap_or, Option, None}
use Rattle.std.specs.Option.{option_map_or}
use Rattle.level_plan.specs.declared.plan.Blind.{Blind}
use Rattle.level_plan.specs.Items.{is_between}
use Rattle.level_plan.specs.Plans.{PlanTerms, no_level}
use Rattle.entry_list.specs.Entries.{number_of}
use Rattle.place_list.specs.declared.bust.Bust.{Bust}
use Rattle.seat_book.specs.Seatings.{Seating}
use Rattle.table_engine.specs.declared.start.HandStart.{HandStart}
use Rattle.table_engine.specs.declared.start.StartSeat.{StartSeat}

pub record BookState : Type 0 where
  -- the plan
  pub plan : PlanTerms
  -- the names of those who entered, in order: a player's number is the index of his name, from 0
  pub entries : List (List ℕ)
  -- how often a player who was out entered again
  pub reentries : ℕ
  -- who sits where, and how the tables stand
  pub seating : Seating
  -- by table number, the start of the hand that is played; there is no table 0, and no hand
  pub started : List (Option HandStart)
  -- the players who are out, in the order in which they went out
  pub busts : List Bust
  -- the number of the group of those who go out next, from 0
  pub group : ℕ
  -- the current level, from 1
  pub level : ℕ
  -- the chips that races took away, and those that they gave
  pub removed : ℕ
  pub added : ℕ
  -- how many hands have begun
  pub begun : ℕ
  -- how many events the book has accepted
  pub accepted : ℕ
  -- whether `stop` is accepted
  pub stopped : Bool

-- the number of the player who entered under a name
abbrev pub number_in : BookState → List ℕ → ℕ
number_in book name = unwrap_or (number_of book.entries name) 0

-- whether the plan has a table of this number
abbrev pub has_table : BookState → ℕ → Bool
has_table book table = is_between 1 book.plan.tables table

-- whether the plan's tables have a seat of this number
abbrev pub has_seat_number : BookState → ℕ → Bool
has_seat_number book seat = is_between 1 book.plan.seats seat

-- the start of the hand that is played at a table, if one is
abbrev pub start_at : List (Option HandStart) → ℕ → Option HandStart
start_at started table = slice_index_or started table None

-- the players with whom a hand started, where one did
abbrev pub starters_of : Option HandStart → List StartSeat
starters_of start = option_map_or (λ start. start.seats) start []

-- the blinds and the unit of the current level
abbrev pub blind_now : BookState → Blind
blind_now book = unwrap_or (slice_get book.plan.blinds (book.level - 1)) no_level

-- no hand is played, at any of so many tables
abbrev pub no_hands : {A : Type 0} → ℕ → List (Option A)
no_hands tables = replicate (tables + 1) None
