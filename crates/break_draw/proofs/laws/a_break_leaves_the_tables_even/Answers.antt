use Rattle.seat_book.specs.Counts.{count_at}
use Rattle.break_draw.proofs.FillLaws.{chosen-level-open}
use Rattle.break_draw.proofs.laws.a_break_leaves_the_tables_even.Goals as goal

pub returns : goal.returns
returns c = λ seating table one other fill is. chosen-level-open seating table
    (count_at seating.players table) one other
    fill is
