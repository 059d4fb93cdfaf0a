use Rattle.std.proofs.Common.{◌≡◌, ◌∙◌, sym, ap, subst, ℕ}
use Rattle.std.specs.Prelude.{None}
use Rattle.seat_book.specs.Seatings.{Seating}
use Rattle.tournament_events.specs.declared.event.Event.TheVariants.{Break}
use Rattle.tournament_rules.specs.Books.{BookState}
use Rattle.tournament_rules.specs.Checks.{book_refusal}
use Rattle.tournament_rules.specs.Effects.{with_table, forgotten}
use Rattle.tournament_rules.specs.Valid.{IsValid}
use Rattle.tournament_rules.proofs.Breaks.{valid_broken}
use Rattle.floor_book.specs.Fields.{book_of}
use Rattle.floor_book.specs.Moves.{AreFree}
use Rattle.floor_book.proofs.Rearranged.{break_refusal, broken_state, break-free}
use Rattle.floor_book.proofs.book.Book.break_table.Goals as goal

pub take_places-requires-clause-free : goal.take_places-requires-clause-free
take_places-requires-clause-free c =
    let table = c.args.table in
    let places = c.args.places.now in
    let names = c.args.names.now in
    let passed : book_refusal (book_of c.self.inside) (Break table places names) ≡ None =
    ap (λ (book : BookState). book_refusal book (Break table places names)) c.self.view_is
    ∙ (break_refusal c.args.self.now table places names ∙ c.in_ok-table.ensures.checked) in
    let bare : c.forget_marks.new.seats ≡ with_table (book_of c.self.inside).seating table forgotten =
    c.forget_marks.ensures.forgotten
    ∙ ap (λ (n : ℕ). with_table (book_of c.self.inside).seating n forgotten) c.in_ok-table.ensures.same in
    subst (λ (seats : Seating). AreFree seats places) (sym bare)
    (break-free (book_of c.self.inside) table places names c.self.invariant passed)

pub invariant_of-self : goal.invariant_of-self
invariant_of-self c =
    let book = book_of c.self.inside in
    let table = c.args.table in
    let places = c.args.places.now in
    let names = c.args.names.now in
    let state = broken_state book table c.in_ok-table.table places names c.forget_marks.new.seats
    c.take_places.new.seats c.in_ok-table.ensures.same c.forget_marks.ensures.forgotten c.take_places.ensures.taken in
    let passed : book_refusal (book_of c.self.inside) (Break table places names) ≡ None =
    ap (λ (book : BookState). book_refusal book (Break table places names)) c.self.view_is
    ∙ (break_refusal c.args.self.now table places names ∙ c.in_ok-table.ensures.checked) in
    subst IsValid (sym state) (valid_broken book table places names c.self.invariant passed)
