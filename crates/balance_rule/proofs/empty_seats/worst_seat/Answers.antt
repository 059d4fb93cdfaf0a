use Rattle.std.proofs.Common.{◌≡◌, ◌∙◌, sym, ap, not, arith}
use Rattle.std.specs.Prelude.{◌==◌, ◌&&◌}
use Rattle.button_blinds.specs.SeatSets.{has_seat, with_seat, seat_count}
use Rattle.seat_book.specs.Players.{taken_seats}
use Rattle.seat_book.specs.Tables.{status_at}
use Rattle.seat_book.proofs.TakenPlaces.{seat_count-one_more}
use Rattle.balance_rule.specs.EmptySeats.{is_empty_seat, worst_of}
use Rattle.balance_rule.proofs.FreeSeats.{first-alike, empty-untaken, empty-apart, worst-empty, empty-nobody}
use Rattle.balance_rule.proofs.empty_seats.worst_seat.Goals as goal

pub empty_seat_after-requires-in-Some-clause-room :
    goal.empty_seat_after-requires-in-Some-clause-room
empty_seat_after-requires-in-Some-clause-room c =
    let more = seat_count-one_more c.occupied-taken.result c.in-Some.marks.big in
    let same : seat_count c.with.result ≡ seat_count (with_seat c.occupied-taken.result c.in-Some.marks.big) =
    ap seat_count
    c.with.ensures.same in
    omega (arith, more, same)

pub returns-in-None-clause-worst : goal.returns-in-None-clause-worst
returns-in-None-clause-worst c =
    let seats = c.seat_count-seats.ensures.lawful in
    let marks = ap (λ status. status.marks) c.status.ensures.status in
    let alike = first-alike c.args.book.now.seat_count
    (λ at. not (has_seat (taken_seats c.args.book.now.players c.args.table) at))
    (is_empty_seat c.args.book.now.players c.args.table) c.args.book.now.seat_count (omega (arith, seats.some_seats))
    (λ at first last. empty-untaken c.args.book.now.players c.args.table c.args.book.now.seat_count at seats.most_seats
    first last) in
    let found = rw (c.seat_count-seats.ensures.seats, c.occupied-taken.ensures.taken) at
    c.empty_seat_after.ensures.next in
    ap (worst_of c.args.book.now.seat_count (is_empty_seat c.args.book.now.players c.args.table))
    (sym marks ∙ c.in-None.is) ∙ (sym alike ∙ found)

pub returns-in-None-clause-empty : goal.returns-in-None-clause-empty
returns-in-None-clause-empty c =
    empty-nobody c.args.book.now.players c.args.table c.empty_seat_after.result
    (worst-empty c.args.book.now.seat_count (is_empty_seat c.args.book.now.players c.args.table)
    (status_at c.args.book.now.tables c.args.table).marks c.empty_seat_after.result (returns-in-None-clause-worst c))

pub returns-in-Some-clause-worst : goal.returns-in-Some-clause-worst
returns-in-Some-clause-worst c =
    let seats = c.seat_count-seats.ensures.lawful in
    let marks = ap (λ status. status.marks) c.status.ensures.status in
    let big = c.in-Some.marks.big in
    let alike = first-alike c.args.book.now.seat_count
    (λ at. not (has_seat (with_seat (taken_seats c.args.book.now.players c.args.table) big) at))
    (λ at. is_empty_seat c.args.book.now.players c.args.table at && not (at == big)) big
    (omega (arith, seats.some_seats))
    (λ at first last. empty-apart c.args.book.now.players c.args.table c.args.book.now.seat_count big at
    seats.most_seats first last) in
    let found = rw (c.seat_count-seats.ensures.seats, c.with.ensures.same, c.occupied-taken.ensures.taken)
    at c.empty_seat_after-in-Some.ensures.next in
    ap (worst_of c.args.book.now.seat_count (is_empty_seat c.args.book.now.players c.args.table))
    (sym marks ∙ c.in-Some.is) ∙ (sym alike ∙ found)

pub returns-in-Some-clause-empty : goal.returns-in-Some-clause-empty
returns-in-Some-clause-empty c =
    empty-nobody c.args.book.now.players c.args.table c.empty_seat_after-in-Some.result
    (worst-empty c.args.book.now.seat_count (is_empty_seat c.args.book.now.players c.args.table)
    (status_at c.args.book.now.tables c.args.table).marks c.empty_seat_after-in-Some.result
    (returns-in-Some-clause-worst c))
