use Rattle.std.proofs.Common.{◌∙◌, sym, ap, subst, ℕ, []}
use Rattle.table_engine.specs.declared.start.HandStart.{HandStart}
use Rattle.table_engine.specs.Starts.{IsLawfulStart}
use Rattle.table_engine.specs.Hands.{HandTerms}
use Rattle.tournament_events.specs.declared.event.Event.TheVariants.{Begin}
use Rattle.tournament_rules.specs.Checks.{book_refusal}
use Rattle.tournament_rules.specs.Dealing.{next_start}
use Rattle.tournament_rules.specs.Valid.{IsValid}
use Rattle.tournament_rules.proofs.Begins.{start_is_lawful, valid_begun}
use Rattle.floor_book.proofs.Joins.{answered_no, answered_memory}
use Rattle.floor_book.proofs.Begun.{begin_refusal, start_of_itself, begun_of_start}
use Rattle.floor_book.proofs.book.Book.begin.Goals as goal

pub returns-in_err-table-clause-answer : goal.returns-in_err-table-clause-answer
returns-in_err-table-clause-answer c =
    let book = c.args.self.now in
    answered_no (book_refusal book (Begin c.args.table c.args.row.now)) c.in_err-table.field-0.0
    c.from_residual.result (begin_refusal book c.args.table c.args.row.now ∙ c.in_err-table.ensures.checked)
    c.from_residual.ensures.0 c.from_residual.ensures.1

pub returns-in_err-start-clause-answer : goal.returns-in_err-start-clause-answer
returns-in_err-start-clause-answer c =
    let book = c.args.self.now in
    answered_memory (book_refusal book (Begin c.args.table c.args.row.now)) c.from_residual-in_err-start.result
    (begin_refusal book c.args.table c.args.row.now ∙ c.in_ok-table.ensures.checked)
    c.from_residual-in_err-start.ensures.0 c.from_residual-in_err-start.ensures.1

pub returns-in_err-own-clause-answer : goal.returns-in_err-own-clause-answer
returns-in_err-own-clause-answer c =
    let book = c.args.self.now in
    answered_memory (book_refusal book (Begin c.args.table c.args.row.now)) c.from_residual-in_err-own.result
    (begin_refusal book c.args.table c.args.row.now ∙ c.in_ok-table.ensures.checked)
    c.from_residual-in_err-own.ensures.0 c.from_residual-in_err-own.ensures.1

pub new-requires : goal.new-requires
new-requires c =
    let now = c.args.self.now in
    let start = c.in_ok-start.ensures ∙ (ap (λ (table : ℕ). next_start now table c.in_ok-table.field-0.deck)
    c.in_ok-table.ensures.same ∙ ap (next_start now c.args.table) c.in_ok-table.ensures.deck) in
    let free = begin_refusal now c.args.table c.args.row.now ∙ c.in_ok-table.ensures.checked in
    let valid : IsValid now = subst IsValid c.self.view_is c.self.invariant in
    subst IsLawfulStart (sym (c.in_ok-own.ensures ∙ start)) (start_is_lawful now c.args.table c.args.row.now valid free)

pub returns-in_default-clause-answer : goal.returns-in_default-clause-answer
returns-in_default-clause-answer c = begin_refusal c.args.self.now c.args.table c.args.row.now
    ∙ c.in_ok-table.ensures.checked

pub put_out-requires-clause-start : goal.put_out-requires-clause-start
put_out-requires-clause-start c =
    start_of_itself c.args.self.now c.in_ok-table.field-0.table c.in_ok-table.field-0.deck c.in_ok-start.start
    c.in_ok-start.ensures

pub put_out-requires-clause-valid : goal.put_out-requires-clause-valid
put_out-requires-clause-valid c =
    let now = c.args.self.now in
    let start = c.in_ok-start.ensures ∙ (ap (λ (table : ℕ). next_start now table c.in_ok-table.field-0.deck)
    c.in_ok-table.ensures.same ∙ ap (next_start now c.args.table) c.in_ok-table.ensures.deck) in
    let free = begin_refusal now c.args.table c.args.row.now ∙ c.in_ok-table.ensures.checked in
    let valid : IsValid now = subst IsValid c.self.view_is c.self.invariant in
    subst IsValid (sym (begun_of_start now c.args.table c.args.row.now.cards c.in_ok-start.start start))
    (valid_begun now c.args.table c.args.row.now valid free)

pub returns-clause-answer : goal.returns-clause-answer
returns-clause-answer c = begin_refusal c.args.self.now c.args.table c.args.row.now ∙ c.in_ok-table.ensures.checked

pub returns-clause-hand : goal.returns-clause-hand
returns-clause-hand c =
    let now = c.args.self.now in
    let start = c.in_ok-start.ensures ∙ (ap (λ (table : ℕ). next_start now table c.in_ok-table.field-0.deck)
    c.in_ok-table.ensures.same ∙ ap (next_start now c.args.table) c.in_ok-table.ensures.deck) in
    c.in-Ok.ensures.hand ∙ ap (λ (start : HandStart). let hand : HandTerms = record { start = start; acts = [] }
    in hand) (c.in_ok-own.ensures ∙ start)

pub returns-clause-state : goal.returns-clause-state
returns-clause-state c =
    let now = c.args.self.now in
    let start = c.in_ok-start.ensures ∙ (ap (λ (table : ℕ). next_start now table c.in_ok-table.field-0.deck)
    c.in_ok-table.ensures.same ∙ ap (next_start now c.args.table) c.in_ok-table.ensures.deck) in
    c.put_out.ensures ∙ begun_of_start now c.args.table c.args.row.now.cards c.in_ok-start.start start
