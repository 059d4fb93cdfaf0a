use Rattle.std.proofs.Common.{◌≡◌, ◌∙◌, sym, ap, subst, arith}
use Rattle.std.specs.Prelude.{None, is_some}
use Rattle.tournament_events.specs.declared.event.Event.TheVariants.{Race}
use Rattle.tournament_rules.specs.Books.{BookState}
use Rattle.tournament_rules.specs.Checks.{is_table_open, is_playing, is_race_due, book_refusal}
use Rattle.tournament_rules.specs.Effects.{raced}
use Rattle.tournament_rules.specs.Racing.{race_at}
use Rattle.tournament_rules.specs.Valid.{IsValid}
use Rattle.tournament_rules.proofs.Begins.{few_chips}
use Rattle.tournament_rules.proofs.Races.{race_passed, valid_raced}
use Rattle.floor_book.specs.Fields.{book_of}
use Rattle.floor_book.proofs.Joins.{answered_no}
use Rattle.floor_book.proofs.Raced.{race_refusal, raced_state}
use Rattle.floor_book.proofs.book.Book.race.Goals as goal

pub returns-in_err-table-clause-answer : goal.returns-in_err-table-clause-answer
returns-in_err-table-clause-answer c =
    let book = c.args.self.now in
    answered_no (book_refusal book (Race c.args.table c.args.row.now)) c.in_err-table.field-0.0
    c.from_residual.result (race_refusal book c.args.table c.args.row.now ∙ c.in_err-table.ensures.checked)
    c.from_residual.ensures.0 c.from_residual.ensures.1

pub race_at-removed-requires-clause-opened : goal.race_at-removed-requires-clause-opened
race_at-removed-requires-clause-opened c =
    let book = c.args.self.now in
    let may = race_passed book c.args.table c.args.row.now
    (race_refusal book c.args.table c.args.row.now ∙ c.in_ok-table.ensures.checked) in
    ap (is_table_open book) c.in_ok-table.ensures.same ∙ may.opened

pub race_at-removed-requires-clause-rests : goal.race_at-removed-requires-clause-rests
race_at-removed-requires-clause-rests c =
    let book = c.args.self.now in
    let may = race_passed book c.args.table c.args.row.now
    (race_refusal book c.args.table c.args.row.now ∙ c.in_ok-table.ensures.checked) in
    ap (is_playing book) c.in_ok-table.ensures.same ∙ may.rests

pub race_at-removed-requires-clause-due : goal.race_at-removed-requires-clause-due
race_at-removed-requires-clause-due c =
    let book = c.args.self.now in
    let may = race_passed book c.args.table c.args.row.now
    (race_refusal book c.args.table c.args.row.now ∙ c.in_ok-table.ensures.checked) in
    ap (is_race_due book) c.in_ok-table.ensures.same ∙ ap is_some may.due

pub overflow_add-self : goal.overflow_add-self
overflow_add-self c =
    let book = book_of c.self.inside in
    let table = c.args.table in
    let row = c.args.row.now in
    let state = raced_state book table c.in_ok-table.field-0.table row.cards c.in_ok-table.field-0.deck
    c.race_at-removed.result c.restack.new.seats c.end_race.new.seats c.in_ok-table.ensures.same
    c.in_ok-table.ensures.deck
    (c.race_at-removed.ensures ∙ sym (ap (λ (book : BookState).
    race_at book.seating c.in_ok-table.field-0.table c.in_ok-table.field-0.deck) c.self.view_is))
    c.restack.ensures c.end_race.ensures in
    let free : book_refusal book (Race table row) ≡ None =
    ap (λ (book : BookState). book_refusal book (Race table row)) c.self.view_is
    ∙ (race_refusal c.args.self.now table row ∙ c.in_ok-table.ensures.checked) in
    let valid = valid_raced book table row c.self.invariant free in
    let kept = valid.chips in
    let few = few_chips (raced book table row.cards) valid in
    let same = ap (λ (book : BookState). book.removed) state in
    omega (arith, kept, few, same)

pub overflow_add-self-2 : goal.overflow_add-self-2
overflow_add-self-2 c =
    let book = book_of c.self.inside in
    let table = c.args.table in
    let row = c.args.row.now in
    let state = raced_state book table c.in_ok-table.field-0.table row.cards c.in_ok-table.field-0.deck
    c.race_at-removed.result c.restack.new.seats c.end_race.new.seats c.in_ok-table.ensures.same
    c.in_ok-table.ensures.deck
    (c.race_at-removed.ensures ∙ sym (ap (λ (book : BookState).
    race_at book.seating c.in_ok-table.field-0.table c.in_ok-table.field-0.deck) c.self.view_is))
    c.restack.ensures c.end_race.ensures in
    let free : book_refusal book (Race table row) ≡ None =
    ap (λ (book : BookState). book_refusal book (Race table row)) c.self.view_is
    ∙ (race_refusal c.args.self.now table row ∙ c.in_ok-table.ensures.checked) in
    let valid = valid_raced book table row c.self.invariant free in
    let kept = valid.chips in
    let few = few_chips (raced book table row.cards) valid in
    let same = ap (λ (book : BookState). book.added) state in
    omega (arith, few, same)

pub invariant_of-self : goal.invariant_of-self
invariant_of-self c =
    let book = book_of c.self.inside in
    let table = c.args.table in
    let row = c.args.row.now in
    let state = raced_state book table c.in_ok-table.field-0.table row.cards c.in_ok-table.field-0.deck
    c.race_at-removed.result c.restack.new.seats c.end_race.new.seats c.in_ok-table.ensures.same
    c.in_ok-table.ensures.deck
    (c.race_at-removed.ensures ∙ sym (ap (λ (book : BookState).
    race_at book.seating c.in_ok-table.field-0.table c.in_ok-table.field-0.deck) c.self.view_is))
    c.restack.ensures c.end_race.ensures in
    let free : book_refusal book (Race table row) ≡ None =
    ap (λ (book : BookState). book_refusal book (Race table row)) c.self.view_is
    ∙ (race_refusal c.args.self.now table row ∙ c.in_ok-table.ensures.checked) in
    subst IsValid (sym state) (valid_raced book table row c.self.invariant free)

pub returns-clause-answer : goal.returns-clause-answer
returns-clause-answer c = race_refusal c.args.self.now c.args.table c.args.row.now ∙ c.in_ok-table.ensures.checked

pub returns-clause-state : goal.returns-clause-state
returns-clause-state c =
    let book = book_of c.self.inside in
    let table = c.args.table in
    let row = c.args.row.now in
    let state = raced_state book table c.in_ok-table.field-0.table row.cards c.in_ok-table.field-0.deck
    c.race_at-removed.result c.restack.new.seats c.end_race.new.seats c.in_ok-table.ensures.same
    c.in_ok-table.ensures.deck
    (c.race_at-removed.ensures ∙ sym (ap (λ (book : BookState).
    race_at book.seating c.in_ok-table.field-0.table c.in_ok-table.field-0.deck) c.self.view_is))
    c.restack.ensures c.end_race.ensures in
    state ∙ ap (λ (book : BookState). raced book table row.cards) c.self.view_is
