use Rattle.std.proofs.Common.{◌≡◌, ◌∙◌, sym, ap, subst, ℕ, arith}
use Rattle.std.specs.Prelude.{None}
use Rattle.std.specs.List.{list_any}
use Rattle.tournament_events.specs.declared.event.Event.TheVariants.{Reenter}
use Rattle.place_list.specs.Places.{is_bust_of}
use Rattle.tournament_rules.specs.Books.{BookState, number_in}
use Rattle.tournament_rules.specs.Checks.{book_refusal}
use Rattle.tournament_rules.specs.Effects.{reentered}
use Rattle.tournament_rules.specs.Valid.{IsValid}
use Rattle.tournament_rules.proofs.Entries.{one_out, valid_reentered}
use Rattle.tournament_rules.proofs.Passed.{reentry_passed}
use Rattle.floor_book.specs.Fields.{book_of}
use Rattle.floor_book.proofs.Joins.{answered_no, reentry_refusal}
use Rattle.floor_book.proofs.Entered.{counted_any, reentered_state}
use Rattle.floor_book.proofs.book.Book.reenter.Goals as goal

pub returns-in_err-returner-clause-answer : goal.returns-in_err-returner-clause-answer
returns-in_err-returner-clause-answer c =
    let book = c.args.self.now in
    let found = reentry_refusal book c.args.name c.args.table c.args.seat ∙ c.in_err-returner.ensures.checked in
    answered_no (book_refusal book (Reenter c.args.name c.args.table c.args.seat)) c.in_err-returner.field-0.0
    c.from_residual.result found c.from_residual.ensures.0 c.from_residual.ensures.1

pub take_back-requires : goal.take_back-requires
take_back-requires c =
    let book = book_of c.self.inside in
    let now : book_refusal c.args.self.now (Reenter c.args.name c.args.table c.args.seat) ≡ None =
    reentry_refusal c.args.self.now c.args.name c.args.table c.args.seat ∙ c.in_ok-returner.ensures.checked in
    let passed : book_refusal book (Reenter c.args.name c.args.table c.args.seat)
    ≡ None = ap (λ (book : BookState). book_refusal book (Reenter c.args.name c.args.table c.args.seat))
    c.self.view_is ∙ now in
    let one = one_out book c.args.name c.args.table c.args.seat c.self.invariant passed in
    let out = counted_any (is_bust_of (number_in book c.args.name)) book.busts (omega (arith, one)) in
    let number : c.in_ok-returner.returner.player ≡ number_in book c.args.name =
    c.in_ok-returner.ensures.number
    ∙ sym (ap (λ (book : BookState). number_in book c.args.name) c.self.view_is) in
    record { out = ap (λ (n : ℕ). list_any (is_bust_of n) book.busts) number ∙ out }

pub seat-requires-clause-stands : goal.seat-requires-clause-stands
seat-requires-clause-stands c =
    let book = book_of c.self.inside in
    let now : book_refusal c.args.self.now (Reenter c.args.name c.args.table c.args.seat) ≡ None =
    reentry_refusal c.args.self.now c.args.name c.args.table c.args.seat ∙ c.in_ok-returner.ensures.checked in
    let passed : book_refusal book (Reenter c.args.name c.args.table c.args.seat)
    ≡ None = ap (λ (book : BookState). book_refusal book (Reenter c.args.name c.args.table c.args.seat))
    c.self.view_is ∙ now in
    let number : c.in_ok-returner.returner.player ≡ number_in book c.args.name =
    c.in_ok-returner.ensures.number
    ∙ sym (ap (λ (book : BookState). number_in book c.args.name) c.self.view_is) in
    rw number (reentry_passed book c.args.name c.args.table c.args.seat passed).out

pub invariant_of-self : goal.invariant_of-self
invariant_of-self c =
    let book = book_of c.self.inside in
    let now : book_refusal c.args.self.now (Reenter c.args.name c.args.table c.args.seat) ≡ None =
    reentry_refusal c.args.self.now c.args.name c.args.table c.args.seat ∙ c.in_ok-returner.ensures.checked in
    let passed : book_refusal book (Reenter c.args.name c.args.table c.args.seat)
    ≡ None = ap (λ (book : BookState). book_refusal book (Reenter c.args.name c.args.table c.args.seat))
    c.self.view_is ∙ now in
    let number : c.in_ok-returner.returner.player ≡ number_in book c.args.name =
    c.in_ok-returner.ensures.number
    ∙ sym (ap (λ (book : BookState). number_in book c.args.name) c.self.view_is) in
    let stack = c.starting_stack-stack.ensures ∙ sym (ap (λ (book : BookState). book.plan.stack) c.self.view_is) in
    let state = reentered_state book c.args.name c.args.table c.args.seat c.in_ok-returner.returner.player
    c.starting_stack-stack.result c.in_ok-returner.returner.place c.take_back.new.self c.seat.new.self number
    c.in_ok-returner.ensures.same stack c.take_back.ensures c.seat.ensures.same in
    subst IsValid (sym state) (valid_reentered book c.args.name c.args.table c.args.seat c.self.invariant passed)

pub returns-clause-state : goal.returns-clause-state
returns-clause-state c =
    let book = book_of c.self.inside in
    let number : c.in_ok-returner.returner.player ≡ number_in book c.args.name =
    c.in_ok-returner.ensures.number
    ∙ sym (ap (λ (book : BookState). number_in book c.args.name) c.self.view_is) in
    let stack = c.starting_stack-stack.ensures ∙ sym (ap (λ (book : BookState). book.plan.stack) c.self.view_is) in
    let state = reentered_state book c.args.name c.args.table c.args.seat c.in_ok-returner.returner.player
    c.starting_stack-stack.result c.in_ok-returner.returner.place c.take_back.new.self c.seat.new.self number
    c.in_ok-returner.ensures.same stack c.take_back.ensures c.seat.ensures.same in
    state ∙ ap (λ (book : BookState). reentered book c.args.name c.args.table c.args.seat) c.self.view_is
