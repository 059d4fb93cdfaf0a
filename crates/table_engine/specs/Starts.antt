-- What is lawful of the start of a hand. Robert's Rules of Poker and the Poker TDA Rules.
use Rattle.std.specs.Prelude.{◌≡◌, ◌≢◌, ◌≤◌, ◌<◌, ◌^◌, ◌%◌, ℕ, Bool, true, ◌==◌, ◌&&◌, nat_lt, List, length, map, sum_by}
use Rattle.std.specs.List.{list_any, list_all}
use Rattle.std.specs.Str.{bytes_eq}
use Rattle.rulebook.specs.Pairs.{are_rising, are_distinct}
use Rattle.rulebook.specs.Limits.{most_entries}
use Rattle.level_plan.specs.Items.{is_between, is_blind}
use Rattle.button_blinds.specs.Marks.{AreMarksOf}
use Rattle.card_set.specs.Decks.{IsDeck}
use Rattle.table_engine.specs.declared.start.HandStart.{HandStart}
use Rattle.table_engine.specs.declared.start.StartSeat.{StartSeat}

-- A player can be dealt in with a stack above 0 that is a multiple of the unit (this project's own).
abbrev pub is_playable_stack : ℕ → ℕ → Bool
is_playable_stack unit stack = nat_lt 0 stack && stack % unit == 0

-- Each player has such a stack.
abbrev pub have_playable_stacks : ℕ → List StartSeat → Bool
have_playable_stacks unit players = list_all (λ player. is_playable_stack unit player.stack) players

-- The chips of players.
abbrev pub chips_of : List StartSeat → ℕ
chips_of players = sum_by (λ player. player.stack) players

-- A hand starts lawfully.
pub record IsLawfulStart (start : HandStart) : Type 0 where
  -- two or more players are dealt in
  pub two : 2 ≤ length start.seats
  -- the table has 2 to 10 seats
  pub some_seats : 2 ≤ start.seat_count
  pub most_seats : start.seat_count ≤ 10
  -- the players are listed in rising seat, each in a seat of the table
  pub rising : are_rising (map (λ player. player.seat) start.seats) ≡ true
  pub within : list_all (λ player. is_between 1 start.seat_count player.seat) start.seats ≡ true
  -- no two have one number, and each number is that of one of at most 640 entries
  pub numbers : are_distinct (λ one other. one == other) (map (λ player. player.player) start.seats) ≡ true
  pub entries : list_all (λ player. nat_lt player.player most_entries) start.seats ≡ true
  -- no two have one name
  pub names : are_distinct bytes_eq (map (λ player. player.name) start.seats) ≡ true
  -- each has a stack above 0 that is a multiple of the unit, and all are far from the end of their type
  pub stacks : have_playable_stacks start.blind.unit start.seats ≡ true
  pub chips : chips_of start.seats < 2 ^ 53
  -- the button and the blinds are at seats of the table, a player sits in the big mark's seat, and the small mark is
  -- another seat
  pub marks : AreMarksOf start.seat_count start.marks
  pub big : list_any (λ player. player.seat == start.marks.big) start.seats ≡ true
  pub small : start.marks.small ≢ start.marks.big
  -- the blinds, the ante and the unit are lawful
  pub blinds : is_blind start.blind ≡ true
  -- no card of the deck comes twice
  pub deck : IsDeck start.deck
