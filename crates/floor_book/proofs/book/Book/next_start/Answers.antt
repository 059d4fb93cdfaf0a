use Rattle.std.proofs.Common.{◌≡◌, ◌∙◌, ap}
use Rattle.tournament_rules.specs.Books.{BookState}
use Rattle.tournament_rules.specs.Players.{dealt_seats}
use Rattle.floor_book.specs.Seats.{dealt_of}
use Rattle.floor_book.proofs.Begun.{lawful_seats, dealt_at, start_state}
use Rattle.floor_book.proofs.book.Book.next_start.Goals as goal

pub dealt_seats-requires : goal.dealt_seats-requires
dealt_seats-requires c =
    rw c.table_slots.ensures.players (lawful_seats c.self.inside.seats c.args.table c.table_slots.ensures.lawful)

pub returns : goal.returns
returns c =
    let waiting = c.args.next.now.waiting in
    let players : c.self.inside.seats.players ≡ c.args.self.now.seating.players =
    ap (λ (book : BookState). book.seating.players) c.self.view_is in
    let seats = c.in_ok-seats.ensures ∙ (ap (dealt_of waiting) c.table_slots.ensures.players ∙
    (dealt_at c.args.table waiting c.self.inside.seats.players ∙ ap (dealt_seats c.args.table waiting) players)) in
    let count = c.seat_count.ensures.seats ∙ (c.self.invariant.tables.seats ∙ ap
    (λ (book : BookState). book.plan.seats) c.self.view_is) in
    let begun = ap (λ (book : BookState). book.begun) c.self.view_is in
    start_state c.args.self.now c.args.table c.args.deck c.args.next.now c.in_ok-seats.seats c.seat_count.result
    c.self.inside.begun c.blind_now.result c.cap.result c.game.result c.requires.next seats count begun
    c.blind_now.ensures c.cap.ensures c.game.ensures
