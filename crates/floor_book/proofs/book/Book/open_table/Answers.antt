use Rattle.std.proofs.Common.{◌∙◌, sym, ap, arith}
use Rattle.std.specs.Prelude.{is_some}
use Rattle.seat_book.specs.Counts.{count_at}
use Rattle.tournament_rules.specs.Books.{BookState}
use Rattle.floor_book.proofs.CheckSteps.{lacking_closed, empty_closed, taken_open}
use Rattle.floor_book.proofs.book.Book.open_table.Goals as goal

pub returns-in_err-number-clause-there : goal.returns-in_err-number-clause-there
returns-in_err-number-clause-there c = ap is_some c.from_residual.ensures
    ∙ sym (lacking_closed c.args.self.now c.args.table (sym c.in_err-number.ensures.there))

pub returns-then-count-eq0-clause-there : goal.returns-then-count-eq0-clause-there
returns-then-count-eq0-clause-there c =
    let seen = ap (λ (book : BookState). count_at book.seating.players c.args.table) c.self.view_is in
    let counted = c.count.ensures.count ∙ ap (count_at c.self.inside.seats.players) c.in_ok-number.ensures.same in
    sym (empty_closed c.args.self.now c.args.table (sym c.in_ok-number.ensures.there)
    (sym (counted ∙ seen) ∙ c.if-count-eq0.true))

pub returns-clause-there : goal.returns-clause-there
returns-clause-there c =
    let seen = ap (λ (book : BookState). count_at book.seating.players c.args.table) c.self.view_is in
    let counted = c.count.ensures.count ∙ ap (count_at c.self.inside.seats.players) c.in_ok-number.ensures.same in
    sym (taken_open c.args.self.now c.args.table (sym c.in_ok-number.ensures.there)
    (λ none. c.if-count-eq0.false (counted ∙ (seen ∙ none))))

pub returns-clause-opened : goal.returns-clause-opened
returns-clause-opened c =
    let counted = c.count.ensures.count ∙ ap (λ (book : BookState). count_at book.seating.players c.in_ok-number.number)
    c.self.view_is in
    omega (arith, counted, c.if-count-eq0.false)
