use Rattle.seat_book.specs.Counts.{count_at}
use Rattle.break_draw.proofs.Room.{filled-length}
use Rattle.break_draw.proofs.Chosen.{chosen-places}
use Rattle.break_draw.proofs.FillLaws.{chosen-elsewhere, chosen-empty, chosen-apart}
use Rattle.break_draw.proofs.laws.a_fill_list_has_empty_seats_elsewhere.Goals as goal

pub returns-clause-many : goal.returns-clause-many
returns-clause-many c = λ seating table fill is. filled-length seating table (count_at seating.players table) fill is

pub returns-clause-places : goal.returns-clause-places
returns-clause-places c = λ seating table fill is. chosen-places seating table (count_at seating.players table) fill is

pub returns-clause-elsewhere : goal.returns-clause-elsewhere
returns-clause-elsewhere c =
    λ seating table fill is. chosen-elsewhere seating table (count_at seating.players table) fill is

pub returns-clause-empty : goal.returns-clause-empty
returns-clause-empty c = λ seating table fill is. chosen-empty seating table (count_at seating.players table) fill is

pub returns-clause-distinct : goal.returns-clause-distinct
returns-clause-distinct c = λ seating table fill is. chosen-apart seating table (count_at seating.players table) fill is
