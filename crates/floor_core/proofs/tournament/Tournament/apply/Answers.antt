use Rattle.std.proofs.Common.{◌≡◌, ◌∙◌, sym, ap, ℕ, Ok, Err, Result, IfOk}
use Rattle.std.specs.Option.{ForSome}
use Rattle.std.specs.declared.alloc.AllocError.{AllocError}
use Rattle.card_set.specs.declared.card.CardRow.{CardRow}
use Rattle.table_engine.specs.Starts.{IsLawfulStart}
use Rattle.tournament_events.specs.declared.event.Event.{Event}
use Rattle.tournament_events.specs.declared.event.Event.TheVariants.{Begin}
use Rattle.tournament_events.specs.declared.answer.Answer.{Answer}
use Rattle.tournament_events.specs.declared.answer.Answer.TheVariants as answers
use Rattle.tournament_rules.specs.Dealing.{next_start}
use Rattle.tournament_rules.specs.States.{State, answer_to, answered, is_accepted, refusal_of}
use Rattle.tournament_rules.specs.Valid.{IsValid}
use Rattle.tournament_rules.proofs.Begins.{start_is_lawful}
use Rattle.tournament_rules.proofs.Passed.{passed-parts}
use Rattle.tournament_rules.proofs.Steps.{accepted_none}
use Rattle.floor_core.proofs.tournament.Tournament.apply.Goals as goal

-- A begin that is accepted starts its hand lawfully, since the book is lawful.
starts_lawfully : (state : State) (event : Event) (table : ℕ) (row : CardRow) (result : Result Answer AllocError)
    → event ≡ Begin table row → ForSome state.play (λ play. IsValid play.book)
    → IfOk result (λ answer. answer ≡ answer_to state event)
    → IfOk result (λ answer. answer ≡ answers.Ok → ForSome state.play
    (λ play. IsLawfulStart (next_start play.book table row.cards)))
starts_lawfully state event table row (Err error) same valid is = tt
starts_lawfully state event table row (Ok answer) same valid is = λ accepted play playing.
    let given : answer_to state (Begin table row) ≡ answers.Ok = sym (is ∙ ap (answer_to state) same) ∙ accepted in
    let none : answered (refusal_of play (Begin table row)) ≡ answers.Ok = rw playing at given in
    start_is_lawful play.book table row (valid play playing)
    (passed-parts play (Begin table row) (accepted_none (refusal_of play (Begin table row)) (ap is_accepted none))).0

pub returns-then-is_some-clause-start : goal.returns-then-is_some-clause-start
returns-then-is_some-clause-start c = λ table row is. starts_lawfully c.args.self.now c.args.event.now table row
    c.play.result is c.play.ensures.valid c.play.ensures.answer
