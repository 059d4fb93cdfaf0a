use Rattle.std.proofs.Common.{◌∙◌, sym, ap, length, find, Ok, Err, Result, IfOk}
use Rattle.std.specs.Prelude.{nat_lt}
use Rattle.std.proofs.lemmas.Bool.{ltb-true}
use Rattle.seat_book.specs.Counts.{table_numbers}
use Rattle.tournament_events.specs.declared.event.Event.{Event}
use Rattle.tournament_rules.specs.Books.{BookState}
use Rattle.tournament_rules.specs.Checks.{is_race_due}
use Rattle.simulation_rules.specs.declared.step.SimStep.TheVariants.{Take}
use Rattle.simulation_rules.specs.Entrants.{entrants, next_entry}
use Rattle.simulation_rules.specs.Steps.{racing}
use Rattle.simulation_rules.proofs.EntryRoom.{table_has_room}
use Rattle.floor_simulation.proofs.NextSteps.{next-enters, next-races, next-turns, same_book}
use Rattle.floor_simulation.proofs.simulation.Simulation.next_under_way.Goals as goal

-- What holds of each value holds of it too by what follows.
each_ok : {A E : Type 0} (result : Result A E) (P Q : A → Type 0) → ((x : A) → P x → Q x) → IfOk result P
    → IfOk result Q
each_ok (Ok x) P Q follows is = follows x is
each_ok (Err fault) P Q follows is = tt

pub next_entry-requires-clause-room : goal.next_entry-requires-clause-room
next_entry-requires-clause-room c =
    let book = c.args.book.now in
    table_has_room book c.seats-seats.ensures.lawful
    (ltb-true (length book.entries) (entrants book.plan) (sym c.is_entering.ensures ∙ c.if-is_entering.true))

pub returns-then-is_entering : goal.returns-then-is_entering
returns-then-is_entering c = λ play is.
    let place = c.args.self.now.place in
    let same = same_book c.args.self.now.tournament.play play c.args.book.now c.requires.book is in
    let enters = ap (λ (book : BookState). nat_lt (length book.entries) (entrants book.plan)) same
    ∙ (sym c.is_entering.ensures ∙ c.if-is_entering.true) in
    ap (λ (event : Event). Take event place) (c.in_ok-next_entry.ensures ∙ ap next_entry (sym same))
    ∙ sym (next-enters c.args.self.now.seed c.args.self.now.tournament.accepted play place
    (ap (λ (book : BookState). book.stopped) same ∙ c.requires.going) enters)

pub returns-then-self : goal.returns-then-self
returns-then-self c = λ play is.
    let place = c.args.self.now.place in
    let seed = c.args.self.now.seed in
    let number = c.args.self.now.tournament.accepted in
    let same = same_book c.args.self.now.tournament.play play c.args.book.now c.requires.book is in
    let all = ap (λ (book : BookState). nat_lt (length book.entries) (entrants book.plan)) same
    ∙ (sym c.is_entering.ensures ∙ c.if-is_entering.false) in
    let races = rw c.accepted-number.ensures at c.racing.ensures in
    races ∙ ap (λ (book : BookState). racing seed number place (find (is_race_due book)
    (table_numbers book.plan.tables))) (sym same)
    ∙ sym (next-races seed number play place (ap (λ (book : BookState). book.stopped) same ∙ c.requires.going) all
    c.if-self.true)

pub returns : goal.returns
returns c =
    let place = c.args.self.now.place in
    let seed = c.args.self.now.seed in
    let number = c.args.self.now.tournament.accepted in
    each_ok c.at_table.result _ _ (λ step turns play is.
    let same = same_book c.args.self.now.tournament.play play c.args.book.now c.requires.book is in
    let all = ap (λ (book : BookState). nat_lt (length book.entries) (entrants book.plan)) same
    ∙ (sym c.is_entering.ensures ∙ c.if-is_entering.false) in
    turns play is
    ∙ sym (next-turns seed number play place (ap (λ (book : BookState). book.stopped) same ∙ c.requires.going) all
    c.if-self.false)) c.at_table.ensures
