use Rattle.std.proofs.Common.{◌∙◌, sym, ap}
use Rattle.tournament_rules.specs.Checks.{book_refusal}
use Rattle.tournament_rules.specs.States.{PlayState, refusal_of}
use Rattle.floor_core.proofs.Parts.{by_order, answer_of_same}
use Rattle.floor_core.proofs.play.Play.order.Goals as goal

pub returns-clause-answer : goal.returns-clause-answer
returns-clause-answer c =
    let book = c.self.inside.book in
    let event = c.args.event.now in
    let alone = by_order book c.self.inside.hands.items event c.self.invariant c.requires.order in
    let same = sym (ap (λ (play : PlayState). refusal_of play event) c.self.view_is) ∙ alone in
    answer_of_same (book_refusal book event) (refusal_of c.args.self.now event) c.carry_out.result same
    c.carry_out.ensures.answer
