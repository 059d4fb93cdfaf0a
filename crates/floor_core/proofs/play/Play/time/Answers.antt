use Rattle.std.proofs.Common.{◌∙◌, sym, ap}
use Rattle.tournament_events.specs.declared.event.Event.TheVariants.{Time}
use Rattle.tournament_rules.specs.States.{PlayState, refusal_of}
use Rattle.floor_book.proofs.Joins.{answered_no}
use Rattle.floor_core.proofs.Parts.{by_book, time_refusal}
use Rattle.floor_core.proofs.play.Play.time.Goals as goal

pub returns-in_err-table-clause-answer : goal.returns-in_err-table-clause-answer
returns-in_err-table-clause-answer c =
    let book = c.self.inside.book in
    let event = Time c.args.table in
    let found = c.in_err-table.field-0.0 in
    let refused = by_book book c.self.inside.hands.items event found c.self.invariant
    (time_refusal book c.args.table ∙ c.in_err-table.ensures.checked) in
    answered_no (refusal_of c.args.self.now event) found c.from_residual.result
    (sym (ap (λ (play : PlayState). refusal_of play event) c.self.view_is) ∙ refused) c.from_residual.ensures.0
    c.from_residual.ensures.1
