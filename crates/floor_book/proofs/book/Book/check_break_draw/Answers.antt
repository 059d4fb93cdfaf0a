use Rattle.std.proofs.Common.{◌∙◌, sym, ap, List}
use Rattle.seat_book.specs.declared.place.Place.{Place}
use Rattle.seat_book.specs.Seatings.{is_not_last}
use Rattle.balance_rule.specs.Filling.{fill_seats, lacks_room}
use Rattle.break_draw.specs.Draws.{is_draw}
use Rattle.tournament_rules.specs.Books.{BookState}
use Rattle.floor_book.proofs.CheckSteps.{break_not_last, break_no_room, break_by_draw, filled_room}
use Rattle.floor_book.proofs.book.Book.check_break_draw.Goals as goal

pub returns-then-is_not_last : goal.returns-then-is_not_last
returns-then-is_not_last c =
    let last = sym (ap (λ (book : BookState). is_not_last book.seating c.args.table) c.self.view_is)
    ∙ (sym c.is_not_last.ensures ∙ c.if-is_not_last.true) in
    break_not_last c.args.self.now c.args.table c.args.places.now c.args.names.now last

pub returns-in_default : goal.returns-in_default
returns-in_default c =
    let last = sym (ap (λ (book : BookState). is_not_last book.seating c.args.table) c.self.view_is)
    ∙ (sym c.is_not_last.ensures ∙ c.if-is_not_last.false) in
    let room = sym (ap (λ (book : BookState). lacks_room book.seating c.args.table) c.self.view_is)
    ∙ c.fill_seats.ensures.no_room.0 c.in_default.is in
    break_no_room c.args.self.now c.args.table c.args.places.now c.args.names.now last room

pub returns-then-not-check_draw : goal.returns-then-not-check_draw
returns-then-not-check_draw c =
    let places = c.args.places.now in
    let names = c.args.names.now in
    let last = sym (ap (λ (book : BookState). is_not_last book.seating c.args.table) c.self.view_is)
    ∙ (sym c.is_not_last.ensures ∙ c.if-is_not_last.false) in
    let room = sym (ap (λ (book : BookState). lacks_room book.seating c.args.table) c.self.view_is)
    ∙ filled_room c.fill_seats.result c.in-Some.fill (lacks_room c.self.inside.seats c.args.table)
    c.fill_seats.ensures.no_room c.in-Some.is in
    let filled = sym (ap (λ (book : BookState). fill_seats book.seating c.args.table) c.self.view_is)
    ∙ c.in-Some.ensures.fill in
    let drawn = sym (ap (λ (book : BookState). is_draw book.seating c.args.table c.in-Some.fill places names)
    c.self.view_is)
    ∙ (sym (ap (λ (fill : List Place). is_draw c.self.inside.seats c.args.table fill places names) c.places.ensures)
    ∙ (sym c.check_draw.ensures.same ∙ c.if-not-check_draw.true)) in
    break_by_draw c.args.self.now c.args.table places names c.in-Some.fill _ last room filled drawn

pub returns : goal.returns
returns c =
    let places = c.args.places.now in
    let names = c.args.names.now in
    let last = sym (ap (λ (book : BookState). is_not_last book.seating c.args.table) c.self.view_is)
    ∙ (sym c.is_not_last.ensures ∙ c.if-is_not_last.false) in
    let room = sym (ap (λ (book : BookState). lacks_room book.seating c.args.table) c.self.view_is)
    ∙ filled_room c.fill_seats.result c.in-Some.fill (lacks_room c.self.inside.seats c.args.table)
    c.fill_seats.ensures.no_room c.in-Some.is in
    let filled = sym (ap (λ (book : BookState). fill_seats book.seating c.args.table) c.self.view_is)
    ∙ c.in-Some.ensures.fill in
    let drawn = sym (ap (λ (book : BookState). is_draw book.seating c.args.table c.in-Some.fill places names)
    c.self.view_is)
    ∙ (sym (ap (λ (fill : List Place). is_draw c.self.inside.seats c.args.table fill places names) c.places.ensures)
    ∙ (sym c.check_draw.ensures.same ∙ c.if-not-check_draw.false)) in
    break_by_draw c.args.self.now c.args.table places names c.in-Some.fill _ last room filled drawn
