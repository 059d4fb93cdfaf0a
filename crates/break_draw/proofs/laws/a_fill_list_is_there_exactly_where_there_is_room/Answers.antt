use Rattle.std.proofs.lemmas.Bool.{ltb-true, lt-ltb}
use Rattle.seat_book.specs.Counts.{count_at}
use Rattle.balance_rule.specs.Filling.{empty_elsewhere}
use Rattle.break_draw.proofs.FillRoom.{none-without_room, without_room-none}
use Rattle.break_draw.proofs.laws.a_fill_list_is_there_exactly_where_there_is_room.Goals as goal

pub returns-clause-test : goal.returns-clause-test
returns-clause-test c = λ seating table lawful. (
  λ none. lt-ltb (empty_elsewhere seating table) (count_at seating.players table)
      (none-without_room seating lawful table none),
  λ lacks. without_room-none seating lawful table
      (ltb-true (empty_elsewhere seating table) (count_at seating.players table) lacks),
)

pub returns-clause-fewer : goal.returns-clause-fewer
returns-clause-fewer c = λ seating table lawful.
    (none-without_room seating lawful table, without_room-none seating lawful table)
