-- Seats that a set of seats knows, and who of those who sit there is dealt in. This project's own.
use Rattle.std.specs.Prelude.{Bool, not, List, map, filter}
use Rattle.button_blinds.specs.SeatSets.{has_seat}
use Rattle.table_engine.specs.declared.start.StartSeat.{StartSeat}
use Rattle.tournament_rules.specs.Players.{start_seat}
use Rattle.level_plan.specs.Items.{is_between}
use Rattle.seat_book.specs.declared.seated.Seated.{Seated}

-- whether a player sits in a seat from 1 to 10
abbrev pub has_lawful_seat : Seated → Bool
has_lawful_seat player = is_between 1 10 player.place.seat

-- those who do not wait, as they start a hand
abbrev pub dealt_of : List Bool → List Seated → List StartSeat
dealt_of waiting players = map start_seat (filter (λ player. not (has_seat waiting player.place.seat)) players)
