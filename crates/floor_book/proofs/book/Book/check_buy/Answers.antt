use Rattle.std.specs.Prelude.{None}
use Rattle.tournament_rules.specs.Checks.{seat_checks, entry_checks, room_checks, buy_checks}
use Rattle.floor_book.proofs.Joins.{checked_on}
use Rattle.floor_book.proofs.MoveChecks.{found_first, found_second, found_third}
use Rattle.std.specs.Prelude.{Some}
use Rattle.floor_book.proofs.book.Book.check_buy.Goals as goal

pub returns-in_err-place-clause-checked : goal.returns-in_err-place-clause-checked
returns-in_err-place-clause-checked c =
    let book = c.args.self.now in
    checked_on (buy_checks book c.args.table c.args.seat) c.in_err-place.field-0.0 c.from_residual.result
    (found_first (seat_checks book c.args.table c.args.seat) (entry_checks book) (room_checks book)
    c.in_err-place.field-0.0 c.in_err-place.ensures.checked)
    c.from_residual.ensures.0 c.from_residual.ensures.1

pub returns-in_err-check_entries-clause-checked : goal.returns-in_err-check_entries-clause-checked
returns-in_err-check_entries-clause-checked c =
    let book = c.args.self.now in
    checked_on (buy_checks book c.args.table c.args.seat) c.in_err-check_entries.field-0.0
    c.from_residual-in_err-check_entries.result
    (found_second (seat_checks book c.args.table c.args.seat) (entry_checks book) (room_checks book)
    c.in_err-check_entries.field-0.0 c.in_ok-place.ensures.checked c.in_err-check_entries.ensures)
    c.from_residual-in_err-check_entries.ensures.0 c.from_residual-in_err-check_entries.ensures.1

pub returns-in_err-check_room-clause-checked : goal.returns-in_err-check_room-clause-checked
returns-in_err-check_room-clause-checked c =
    let book = c.args.self.now in
    checked_on (buy_checks book c.args.table c.args.seat) c.in_err-check_room.field-0.0
    c.from_residual-in_err-check_room.result
    (found_third (seat_checks book c.args.table c.args.seat) (entry_checks book) (room_checks book)
    (Some c.in_err-check_room.field-0.0) c.in_ok-place.ensures.checked c.in_ok-check_entries.ensures
    c.in_err-check_room.ensures)
    c.from_residual-in_err-check_room.ensures.0 c.from_residual-in_err-check_room.ensures.1

pub returns-clause-checked : goal.returns-clause-checked
returns-clause-checked c =
    let book = c.args.self.now in
    found_third (seat_checks book c.args.table c.args.seat) (entry_checks book) (room_checks book) None
    c.in_ok-place.ensures.checked c.in_ok-check_entries.ensures c.in_ok-check_room.ensures
