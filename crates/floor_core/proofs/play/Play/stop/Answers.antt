use Rattle.std.proofs.Common.{◌∙◌, refl, sym, ap, map}
use Rattle.tournament_events.specs.declared.event.Event.TheVariants.{Stop}
use Rattle.tournament_rules.specs.Books.{BookState}
use Rattle.tournament_rules.specs.Checks.{book_refusal}
use Rattle.tournament_rules.specs.States.{PlayState, refusal_of}
use Rattle.tournament_rules.specs.Apart.{start_of}
use Rattle.floor_core.proofs.Stopped.{stopped_hands}
use Rattle.floor_book.proofs.Joins.{answered_on}
use Rattle.floor_core.proofs.Parts.{by_book_alone, answer_of_same}
use Rattle.floor_core.proofs.play.Play.stop.Goals as goal

pub returns-in_err-carry_out-clause-answer : goal.returns-in_err-carry_out-clause-answer
returns-in_err-carry_out-clause-answer c =
    let book = c.self.inside.book in
    let alone = by_book_alone book c.self.inside.hands.items Stop c.self.invariant refl in
    let same = sym (ap (λ (play : PlayState). refusal_of play Stop) c.self.view_is) ∙ alone in
    answer_of_same (book_refusal book Stop) (refusal_of c.args.self.now Stop) c.from_residual.result same
    (answered_on Unit (book_refusal book Stop) c.in_err-carry_out.field-0.0 c.from_residual.result
    c.in_err-carry_out.ensures.answer c.from_residual.ensures.0 c.from_residual.ensures.1)

pub invariant_of-self-2 : goal.invariant_of-self-2
invariant_of-self-2 c =
    let none = stopped_hands c.self.inside.book c.self.inside.hands.items c.seats.ensures.lawful c.self.invariant in
    ap (map start_of) c.clear_slots.ensures ∙ (none ∙ sym
    (ap (λ (book : BookState). book.started) c.in_ok-carry_out.ensures.state))

pub returns-clause-answer : goal.returns-clause-answer
returns-clause-answer c =
    let book = c.self.inside.book in
    let alone = by_book_alone book c.self.inside.hands.items Stop c.self.invariant refl in
    sym (ap (λ (play : PlayState). refusal_of play Stop) c.self.view_is) ∙ (alone ∙ c.in_ok-carry_out.ensures.answer)
