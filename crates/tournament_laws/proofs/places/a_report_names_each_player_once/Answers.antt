use Rattle.std.proofs.Common.{◌≡◌, ◌+◌, ◌==◌}
use Rattle.std.specs.Prelude.{count_by, slice_get}
use Rattle.std.specs.Option.{option_to_list}
use Rattle.std.specs.Str.{bytes_eq}
use Rattle.seat_book.specs.Players.{is_numbered}
use Rattle.tournament_rules.specs.Report.{winner, book_report}
use Rattle.tournament_rules.specs.Valid.{is_bust_of}
use Rattle.tournament_rules.proofs.Steps.{valid_events}
use Rattle.tournament_laws.proofs.NamedOnce.{if_some, seats_named, outs_named, named_once, seats_known, outs_known}
use Rattle.tournament_laws.proofs.places.a_report_names_each_player_once.Goals as goal

pub returns-clause-seat : goal.returns-clause-seat
returns-clause-seat c = λ events number play is.
    let valid = ((valid_events events).play play is).book in
    if_some (λ name. count_by (λ line. bytes_eq line.name name) (book_report play.book).seats
    ≡ count_by (is_numbered number) play.book.seating.players) (slice_get play.book.entries number)
    (λ name named. seats_named play.book number name valid named)

pub returns-clause-out : goal.returns-clause-out
returns-clause-out c = λ events number play is.
    let valid = ((valid_events events).play play is).book in
    if_some (λ name. count_by (λ line. bytes_eq line.name name) (book_report play.book).outs
    ≡ count_by (is_bust_of number) play.book.busts
    + count_by (λ last. last == number) (option_to_list (winner play.book))) (slice_get play.book.entries number)
    (λ name named. outs_named play.book number name valid named)

pub returns-clause-once : goal.returns-clause-once
returns-clause-once c = λ events number play is.
    let valid = ((valid_events events).play play is).book in
    if_some (λ name. count_by (λ line. bytes_eq line.name name) (book_report play.book).seats
    + count_by (λ line. bytes_eq line.name name) (book_report play.book).outs
    ≡ 1 + count_by (λ last. last == number) (option_to_list (winner play.book))) (slice_get play.book.entries number)
    (λ name named. named_once play.book number name valid named)

pub returns-clause-known_seats : goal.returns-clause-known_seats
returns-clause-known_seats c = λ events play is. seats_known play.book ((valid_events events).play play is).book

pub returns-clause-known_outs : goal.returns-clause-known_outs
returns-clause-known_outs c = λ events play is. outs_known play.book ((valid_events events).play play is).book
