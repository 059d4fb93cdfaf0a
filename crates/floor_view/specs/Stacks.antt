-- The stacks of players by their numbers. This project's own.
use Rattle.std.specs.Prelude.{ℕ, List}
use Rattle.std.specs.Option.{option_map_or}
use Rattle.seat_book.specs.declared.seated.Seated.{Seated}
use Rattle.seat_book.specs.Players.{player_of}
use Rattle.table_engine.specs.declared.start.StartSeat.{StartSeat}
use Rattle.view_rules.specs.declared.entries.StackLine.{StackLine}

-- the stack that the player of a number has at rest, and 0 where he does not sit
abbrev pub rest_of : List Seated → ℕ → ℕ
rest_of players number = option_map_or (λ player. player.stack) (player_of players number) 0

-- a player of a hand at a table, with the stack that he has at rest
abbrev pub stack_now : List Seated → ℕ → StartSeat → StackLine
stack_now players table player = record {
  place = record { table = table; seat = player.seat };
  name = player.name;
  stack = rest_of players player.player;
}
