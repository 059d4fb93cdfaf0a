use Rattle.std.proofs.Common.{arith, ◌∙◌, ap}
use Rattle.std.proofs.lemmas.Grind.{common_steps}
use Rattle.tournament_rules.specs.Books.{BookState}
use Rattle.tournament_rules.specs.Checks.{is_table_open, is_playing, is_race_due}
use Rattle.tournament_rules.specs.Racing.{race_at}
use Rattle.floor_book.specs.Fields.{book_of}
use Rattle.floor_book.proofs.CheckSteps.{race_read}
use Rattle.floor_book.proofs.Raced.{may_race}
use Rattle.floor_book.proofs.book.Book.race_at.Goals as goal

pub race-requires-clause-multiple : goal.race-requires-clause-multiple
race-requires-clause-multiple c =
    let book = book_of c.self.inside in
    let table = c.args.table in
    (may_race book table c.unit_after.result c.args.deck.now c.status-status.result c.stacks_at-stacks.result
    c.self.invariant
    (ap (λ (book : BookState). is_table_open book table) c.self.view_is ∙ c.requires.opened)
    (ap (λ (book : BookState). is_playing book table) c.self.view_is ∙ c.requires.rests)
    (ap (λ (book : BookState). is_race_due book table) c.self.view_is ∙ c.requires.due) c.requires.deck
    c.status-status.ensures.status c.unit_after.ensures c.stacks_at-stacks.ensures).multiple

pub race-requires-clause-least : goal.race-requires-clause-least
race-requires-clause-least c =
    let book = book_of c.self.inside in
    let table = c.args.table in
    (may_race book table c.unit_after.result c.args.deck.now c.status-status.result c.stacks_at-stacks.result
    c.self.invariant
    (ap (λ (book : BookState). is_table_open book table) c.self.view_is ∙ c.requires.opened)
    (ap (λ (book : BookState). is_playing book table) c.self.view_is ∙ c.requires.rests)
    (ap (λ (book : BookState). is_race_due book table) c.self.view_is ∙ c.requires.due) c.requires.deck
    c.status-status.ensures.status c.unit_after.ensures c.stacks_at-stacks.ensures).least

pub race-requires-clause-most : goal.race-requires-clause-most
race-requires-clause-most c =
    let book = book_of c.self.inside in
    let table = c.args.table in
    (may_race book table c.unit_after.result c.args.deck.now c.status-status.result c.stacks_at-stacks.result
    c.self.invariant
    (ap (λ (book : BookState). is_table_open book table) c.self.view_is ∙ c.requires.opened)
    (ap (λ (book : BookState). is_playing book table) c.self.view_is ∙ c.requires.rests)
    (ap (λ (book : BookState). is_race_due book table) c.self.view_is ∙ c.requires.due) c.requires.deck
    c.status-status.ensures.status c.unit_after.ensures c.stacks_at-stacks.ensures).most

pub race-requires-clause-whole : goal.race-requires-clause-whole
race-requires-clause-whole c =
    let book = book_of c.self.inside in
    let table = c.args.table in
    (may_race book table c.unit_after.result c.args.deck.now c.status-status.result c.stacks_at-stacks.result
    c.self.invariant
    (ap (λ (book : BookState). is_table_open book table) c.self.view_is ∙ c.requires.opened)
    (ap (λ (book : BookState). is_playing book table) c.self.view_is ∙ c.requires.rests)
    (ap (λ (book : BookState). is_race_due book table) c.self.view_is ∙ c.requires.due) c.requires.deck
    c.status-status.ensures.status c.unit_after.ensures c.stacks_at-stacks.ensures).whole

pub race-requires-clause-fits : goal.race-requires-clause-fits
race-requires-clause-fits c =
    let book = book_of c.self.inside in
    let table = c.args.table in
    (may_race book table c.unit_after.result c.args.deck.now c.status-status.result c.stacks_at-stacks.result
    c.self.invariant
    (ap (λ (book : BookState). is_table_open book table) c.self.view_is ∙ c.requires.opened)
    (ap (λ (book : BookState). is_playing book table) c.self.view_is ∙ c.requires.rests)
    (ap (λ (book : BookState). is_race_due book table) c.self.view_is ∙ c.requires.due) c.requires.deck
    c.status-status.ensures.status c.unit_after.ensures c.stacks_at-stacks.ensures).fits

pub race-requires-clause-unit : goal.race-requires-clause-unit
race-requires-clause-unit c =
    let book = book_of c.self.inside in
    let table = c.args.table in
    (may_race book table c.unit_after.result c.args.deck.now c.status-status.result c.stacks_at-stacks.result
    c.self.invariant
    (ap (λ (book : BookState). is_table_open book table) c.self.view_is ∙ c.requires.opened)
    (ap (λ (book : BookState). is_playing book table) c.self.view_is ∙ c.requires.rests)
    (ap (λ (book : BookState). is_race_due book table) c.self.view_is ∙ c.requires.due) c.requires.deck
    c.status-status.ensures.status c.unit_after.ensures c.stacks_at-stacks.ensures).unit

pub returns : goal.returns
returns c = c.race.ensures
    ∙ (race_read c.self.inside.seats c.args.table c.args.deck.now c.stacks_at-stacks.result c.status-status.result
    c.unit_after.result c.stacks_at-stacks.ensures c.status-status.ensures.status c.unit_after.ensures
    ∙ ap (λ (book : BookState). race_at book.seating c.args.table c.args.deck.now) c.self.view_is)

pub stacks_at-stacks-requires : goal.stacks_at-stacks-requires
stacks_at-stacks-requires c = grind (arith, common_steps)

pub status-status-requires : goal.status-status-requires
status-status-requires c = grind (arith, common_steps)
