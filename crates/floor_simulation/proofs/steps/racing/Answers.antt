use Rattle.std.proofs.Common.{◌≡◌, ◌∙◌, sym, ap, Some}
use Rattle.std.specs.Prelude.{find}
use Rattle.seat_book.specs.Counts.{table_numbers}
use Rattle.tournament_events.specs.declared.event.Event.TheVariants.{Race}
use Rattle.tournament_rules.specs.Checks.{is_race_due}
use Rattle.simulation_rules.specs.declared.step.SimStep.TheVariants.{Take}
use Rattle.simulation_rules.specs.Steps.{racing}
use Rattle.floor_simulation.proofs.DrawnRows.{row-is_drawn}
use Rattle.floor_simulation.proofs.steps.racing.Goals as goal

pub returns-in-Some : goal.returns-in-Some
returns-in-Some c =
    let found : find (is_race_due c.args.book.now) (table_numbers c.args.book.now.plan.tables) ≡ Some c.in-Some.table =
    sym c.table_to_race.ensures ∙ c.in-Some.is in
    let row = row-is_drawn c.deck_of.result c.args.seed c.args.number c.deck_of.ensures.drawn in
    (λ i. Take (Race (c.from.ensures i) (row i)) c.args.place)
    ∙ sym (ap (racing c.args.seed c.args.number c.args.place) found)
