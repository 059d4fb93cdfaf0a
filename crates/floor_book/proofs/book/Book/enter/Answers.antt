use Rattle.std.proofs.Common.{◌≡◌, ◌∙◌, sym, ap, subst, arith}
use Rattle.std.specs.Prelude.{None}
use Rattle.tournament_events.specs.declared.event.Event.TheVariants.{Enter}
use Rattle.tournament_rules.specs.Books.{BookState}
use Rattle.tournament_rules.specs.Checks.{book_refusal}
use Rattle.tournament_rules.specs.Effects.{entered}
use Rattle.tournament_rules.specs.Valid.{IsValid}
use Rattle.tournament_rules.proofs.Entries.{valid_entered}
use Rattle.tournament_rules.proofs.Passed.{entry_passed}
use Rattle.floor_book.specs.Fields.{book_of}
use Rattle.floor_book.proofs.Joins.{answered_no, entry_refusal}
use Rattle.floor_book.proofs.Entered.{entered_state, next_stands}
use Rattle.floor_book.proofs.book.Book.enter.Goals as goal

pub returns-in_err-place-clause-answer : goal.returns-in_err-place-clause-answer
returns-in_err-place-clause-answer c =
    let book = c.args.self.now in
    let found = entry_refusal book c.args.name c.args.table c.args.seat ∙ c.in_err-place.ensures.checked in
    answered_no (book_refusal book (Enter c.args.name c.args.table c.args.seat)) c.in_err-place.field-0.0
    c.from_residual.result found c.from_residual.ensures.0 c.from_residual.ensures.1

pub enlist-requires-clause-room : goal.enlist-requires-clause-room
enlist-requires-clause-room c =
    let book = book_of c.self.inside in
    let now : book_refusal c.args.self.now (Enter c.args.name c.args.table c.args.seat) ≡ None =
    entry_refusal c.args.self.now c.args.name c.args.table c.args.seat ∙ c.in_ok-place.ensures.checked in
    let passed : book_refusal book (Enter c.args.name c.args.table c.args.seat)
    ≡ None = ap (λ (book : BookState). book_refusal book (Enter c.args.name c.args.table c.args.seat))
    c.self.view_is ∙ now in
    let room = (entry_passed book c.args.name c.args.table c.args.seat passed).buys.room in
    omega (arith, room)

pub seat-requires-clause-stands : goal.seat-requires-clause-stands
seat-requires-clause-stands c = rw c.in_ok-player.ensures.number
    (next_stands (book_of c.self.inside).entries (book_of c.self.inside).reentries
    (book_of c.self.inside).seating.players (book_of c.self.inside).busts c.self.invariant.entries)

pub invariant_of-self-2 : goal.invariant_of-self-2
invariant_of-self-2 c =
    let book = book_of c.self.inside in
    let stack = c.starting_stack-stack.ensures ∙ sym (ap (λ (book : BookState). book.plan.stack) c.self.view_is) in
    let state = entered_state book c.args.name c.args.table c.args.seat c.in_ok-player.player
    c.starting_stack-stack.result c.in_ok-place.place c.enlist.new.entries c.seat.new.self
    c.in_ok-player.ensures.state c.in_ok-player.ensures.number c.in_ok-place.ensures.same stack c.seat.ensures.same in
    let now : book_refusal c.args.self.now (Enter c.args.name c.args.table c.args.seat) ≡ None =
    entry_refusal c.args.self.now c.args.name c.args.table c.args.seat ∙ c.in_ok-place.ensures.checked in
    let passed : book_refusal book (Enter c.args.name c.args.table c.args.seat)
    ≡ None = ap (λ (book : BookState). book_refusal book (Enter c.args.name c.args.table c.args.seat))
    c.self.view_is ∙ now in
    subst IsValid (sym state) (valid_entered book c.args.name c.args.table c.args.seat c.self.invariant passed)

pub returns-clause-state : goal.returns-clause-state
returns-clause-state c =
    let book = book_of c.self.inside in
    let stack = c.starting_stack-stack.ensures ∙ sym (ap (λ (book : BookState). book.plan.stack) c.self.view_is) in
    let state = entered_state book c.args.name c.args.table c.args.seat c.in_ok-player.player
    c.starting_stack-stack.result c.in_ok-place.place c.enlist.new.entries c.seat.new.self
    c.in_ok-player.ensures.state c.in_ok-player.ensures.number c.in_ok-place.ensures.same stack c.seat.ensures.same in
    state ∙ ap (λ (book : BookState). entered book c.args.name c.args.table c.args.seat) c.self.view_is
