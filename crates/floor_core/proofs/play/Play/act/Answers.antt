use Rattle.std.proofs.Common.{◌≡◌, ◌∙◌, subst}
use Rattle.std.specs.Prelude.{Some, None}
use Rattle.rulebook.specs.Checks.{first_that_holds}
use Rattle.tournament_events.specs.declared.event.Event.TheVariants.{Act as Acts}
use Rattle.tournament_rules.specs.Checks.{going_checks, known_checks}
use Rattle.tournament_rules.specs.States.{PlayState, refusal_of}
use Rattle.floor_book.proofs.Joins.{answered_no}
use Rattle.floor_core.proofs.KnownNames.{act_accepted, act_refused, act_stopped, act_unknown}
use Rattle.floor_core.proofs.play.Play.act.Goals.{in-Ok, in-Err-No+in_ok-check_known-in-Err-No, in-Err-NoMemory}
use Rattle.tournament_rules.specs.Valid.{IsValid}
use Rattle.floor_core.proofs.play.Play.act.Goals as goal

pub returns-in_err-check_going-clause-answer : goal.returns-in_err-check_going-clause-answer
returns-in_err-check_going-clause-answer c =
    let play = c.args.self.now in
    let found = c.in_err-check_going.field-0.0 in
    let stopped = subst (λ (play : PlayState). first_that_holds (going_checks play.book) ≡ Some found) c.self.view_is
    c.in_err-check_going.ensures in
    answered_no (refusal_of play (Acts c.args.table c.args.name c.args.act)) found c.from_residual.result
    (act_stopped play c.args.table c.args.name c.args.act found stopped)
    c.from_residual.ensures.0 c.from_residual.ensures.1

pub returns-in_err-check_known-in-Err-No-clause-answer : goal.returns-in_err-check_known-in-Err-No-clause-answer
returns-in_err-check_known-in-Err-No-clause-answer c =
    let play = c.args.self.now in
    let found = c.in_err-check_known-in-Err-No.field-0.0 in
    let going = subst (λ (play : PlayState). first_that_holds (going_checks play.book) ≡ None) c.self.view_is
    c.in_ok-check_going.ensures in
    let unknown = subst (λ (play : PlayState). first_that_holds (known_checks play.book c.args.name) ≡ Some found)
    (c.self-2.view_is ∙ (rw c.in-Err-No.is at c.act_in_hand.ensures.err))
    c.in_err-check_known-in-Err-No.ensures in
    answered_no (refusal_of play (Acts c.args.table c.args.name c.args.act)) found
    c.from_residual-in_err-check_known-in-Err-No.result
    (act_unknown play c.args.table c.args.name c.args.act found going unknown)
    c.from_residual-in_err-check_known-in-Err-No.ensures.0 c.from_residual-in_err-check_known-in-Err-No.ensures.1

pub returns-clause-answer : goal.returns-clause-answer
returns-clause-answer c =
    let play = c.args.self.now in
    let going = subst (λ (play : PlayState). first_that_holds (going_checks play.book) ≡ None) c.self.view_is
    c.in_ok-check_going.ensures in
    let lawful = subst (λ (play : PlayState). IsValid play.book) c.self.view_is c.seats.ensures.lawful in
    elim c.match-act_in_hand.branch [
      | in-Ok w ↦
          rw w.result-is
          (act_accepted play c.args.table c.args.name c.args.act lawful going
          (rw w.in-Ok.is at c.act_in_hand.ensures.answer))
      | in-Err-No+in_ok-check_known-in-Err-No w ↦
          let known = subst (λ (play : PlayState). first_that_holds (known_checks play.book c.args.name) ≡ None)
          (c.self-2.view_is ∙ (rw w.in-Err-No.is at c.act_in_hand.ensures.err))
          w.in_ok-check_known-in-Err-No.ensures in
          rw w.result-is
          (act_refused play c.args.table c.args.name c.args.act going known
          ∙ (rw (w.in-Err-No.is, w.in-Err-No.field-0-is) at c.act_in_hand.ensures.answer))
      | in-Err-NoMemory w ↦
          rw w.result-is
          (act_accepted play c.args.table c.args.name c.args.act lawful going
          (rw (w.in-Err-NoMemory.is, w.in-Err-NoMemory.field-0-is) at c.act_in_hand.ensures.answer))
    ]
