use Rattle.std.proofs.Common.{◌∙◌, ap, List}
use Rattle.seat_book.specs.declared.seated.Seated.{Seated}
use Rattle.seat_book.specs.Seatings.{Seating}
use Rattle.tournament_rules.specs.Books.{BookState}
use Rattle.dock_rules.specs.Points.{place_named}
use Rattle.book_dock.proofs.Booked.{book-is}
use Rattle.book_dock.proofs.hold.BookHold.place_of.Goals as goal

pub returns : goal.returns
returns c =
    let hold = c.args.self.now in
    c.place_in.ensures
    ∙ ap (λ (players : List Seated). place_named players c.args.name)
    (c.slots.ensures.players ∙ ap (λ (seating : Seating). seating.players) c.seats.ensures.seats
    ∙ ap (λ (book : BookState). book.seating.players) (book-is hold.journal.items hold.seed hold.book hold.kept))
