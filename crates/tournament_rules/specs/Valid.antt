-- What holds of a book and of a state at every moment, in parts, each over its own fields. This project's own.
use Rattle.std.specs.Prelude.{◌≡◌, ◌≤◌, ℕ, ◌+◌, Bool, true, ◌==◌, ◌&&◌, nat_lt, nat_le, List, length, map, filter, count_by, slice_get, Option, Some, None, is_some, if◌then◌else◌}
use Rattle.std.specs.List.{list_all, All}
use Rattle.std.specs.Option.{ForSome}
use Rattle.std.specs.Str.{bytes_eq}
use Rattle.rulebook.specs.Pairs.{is_pairwise, are_distinct}
use Rattle.level_plan.specs.Plans.{PlanTerms, is_right}
use Rattle.level_plan.specs.Drafts.{IsLawful}
use Rattle.rulebook.specs.Limits.{most_entries}
use Rattle.place_list.specs.declared.bust.Bust.{Bust}
pub use Rattle.place_list.specs.Places.{is_bust_of}
use Rattle.seat_book.specs.declared.seated.Seated.{Seated}
use Rattle.seat_book.specs.declared.table_status.TableStatus.{TableStatus}
use Rattle.seat_book.specs.Players.{sits_at, is_numbered}
use Rattle.seat_book.specs.Counts.{count_at}
use Rattle.seat_book.specs.Tables.{status_at}
use Rattle.seat_book.specs.Seatings.{Seating, IsSeating}
use Rattle.table_engine.specs.declared.start.HandStart.{HandStart}
use Rattle.table_engine.specs.declared.start.StartSeat.{StartSeat}
use Rattle.table_engine.specs.Starts.{IsLawfulStart}
use Rattle.table_engine.specs.Plays.{IsLawfulPlay}
use Rattle.tournament_rules.specs.Books.{BookState, start_at, starters_of}
use Rattle.tournament_rules.specs.Players.{start_seat}
use Rattle.tournament_rules.specs.Chips.{sold_by, rest_in, play_of}
use Rattle.tournament_rules.specs.States.{State, PlayState, hand_at}
use Rattle.tournament_rules.specs.Units.{AreUnits}

-- The plan is right, and the level is one of its levels.
pub record IsPlanned (plan : PlanTerms) (level : ℕ) : Type 0 where
  pub right : is_right plan ≡ true
  pub first : 1 ≤ level
  pub last : level ≤ length plan.blinds

-- how many seats and rows of those who are out the player of a number has: one where he entered, and else none
abbrev pub rows_owed : List (List ℕ) → ℕ → ℕ
rows_owed entries number = if nat_lt number (length entries) then 1 else 0

-- Each entered player has exactly one seat or exactly one row of those who are out, and nobody else has any.
abbrev pub AreOnce : List (List ℕ) → List Seated → List Bust → Type 0
AreOnce entries players busts = (number : ℕ)
    → count_by (is_numbered number) players + count_by (is_bust_of number) busts ≡ rows_owed entries number

-- The entries, the players who sit and those who are out agree.
pub record AreEntered (entries : List (List ℕ)) (reentries : ℕ) (players : List Seated) (busts : List Bust)
    : Type 0 where
  -- there are not too many entries and re-entries
  pub few : length entries + reentries ≤ most_entries
  -- no two entered under one name
  pub names : are_distinct bytes_eq entries ≡ true
  -- everyone who entered is in or out, once
  pub once : AreOnce entries players busts
  -- everyone sits under the name with which they entered
  pub named : All (λ player. slice_get entries player.player ≡ Some player.name) players

-- The seating is that of the plan's tables, and a table is playing just where the book has a start.
pub record IsFitting (plan : PlanTerms) (seating : Seating) (started : List (Option HandStart)) : Type 0 where
  pub lawful : IsSeating seating
  pub tables : seating.table_count ≡ plan.tables
  pub seats : seating.seat_count ≡ plan.seats
  -- there is room for a start at each table, and none at 0
  pub room : length started ≡ plan.tables + 1
  pub nobody : start_at started 0 ≡ None
  pub playing : (table : ℕ) → (status_at seating.tables table).playing ≡ is_some (start_at started table)

-- whether a player sits at a table with nothing at rest: his chips are in the hand there
abbrev pub is_lent : ℕ → Seated → Bool
is_lent table player = sits_at table player && player.stack == 0

-- a player of a start without his chips
abbrev pub without_stack : StartSeat → StartSeat
without_stack player = record player { stack = 0 }

-- What is so of the start of a hand at a table: it is that table's, lawful, and of the plan's seats and the table's
-- unit.
pub record IsStartAt (plan : PlanTerms) (tables : List TableStatus) (table : ℕ) (start : HandStart) : Type 0 where
  pub here : start.table ≡ table
  pub lawful : IsLawfulStart start
  pub seats : start.seat_count ≡ plan.seats
  pub unit : start.blind.unit ≡ (status_at tables table).unit

-- The starts of the hands that are played are lawful, and their players sit at their tables.
pub record AreStarted (plan : PlanTerms) (tables : List TableStatus) (players : List Seated)
    (started : List (Option HandStart))
    : Type 0 where
  pub starts : (table : ℕ) → ForSome (start_at started table) (IsStartAt plan tables table)
  -- those who have nothing at rest are, in number, name and seat, the players of the hand that is played at their table
  pub lent : (table : ℕ) → map start_seat (filter (is_lent table) players)
      ≡ map without_stack (starters_of (start_at started table))

-- Who went out later is in the same group or in a later one, and nobody is in a later group than those who go out next.
pub record AreGrouped (busts : List Bust) (group : ℕ) : Type 0 where
  pub groups : is_pairwise (λ earlier later. nat_le earlier.group later.group) busts ≡ true
  pub past : list_all (λ bust. nat_le bust.group group) busts ≡ true

-- A table has marks only where somebody sits.
abbrev pub AreMarked : List TableStatus → List Seated → Type 0
AreMarked tables players = (table : ℕ) → ForSome (status_at tables table).marks (λ marks. 1 ≤ count_at players table)

-- What holds of a book at every moment.
pub record IsValid (book : BookState) : Type 0 where
  pub plan : IsPlanned book.plan book.level
  pub entries : AreEntered book.entries book.reentries book.seating.players book.busts
  pub tables : IsFitting book.plan book.seating book.started
  pub hands : AreStarted book.plan book.seating.tables book.seating.players book.started
  pub busts : AreGrouped book.busts book.group
  -- the chips at rest, those in play and those that races took away are those sold and those that races gave
  pub chips : rest_in book + play_of book + book.removed ≡ sold_by book + book.added
  pub units : AreUnits book.plan book.level book.added book.seating.tables book.seating.players
  pub marked : AreMarked book.seating.tables book.seating.players
  -- a hand that began was an event, and so was what raised the group
  pub counted : book.begun ≤ book.accepted
  pub raised : book.group ≤ book.accepted

-- What holds of a tournament whose plan is whole at every moment: each hand that is played is a lawful play of its
-- start.
pub record IsValidPlay (play : PlayState) : Type 0 where
  pub book : IsValid play.book
  pub room : length play.acts ≡ play.book.plan.tables + 1
  pub plays : (table : ℕ) → ForSome (hand_at play table) IsLawfulPlay

-- What holds of a state at every moment.
pub record IsValidState (state : State) : Type 0 where
  pub draft : IsLawful state.draft
  pub play : ForSome state.play IsValidPlay
  -- what the book accepted is accepted
  pub counted : ForSome state.play (λ play. play.book.accepted ≤ state.accepted)
