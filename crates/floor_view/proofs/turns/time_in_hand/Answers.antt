use Rattle.std.proofs.Common.{◌≡◌, ◌∙◌, sym}
use Rattle.betting_round.specs.declared.act.Done.{Done}
use Rattle.table_engine.specs.Acts.{done_of_time}
use Rattle.floor_view.proofs.Acted.{given-so, turn-time}
use Rattle.floor_view.proofs.turns.time_in_hand.Goals as goal

pub returns : goal.returns
returns c = λ free.
    let hand = c.args.hand.now in
    turn-time hand c.in_ok-name.name c.in_ok-done.done c.streets_left.result (sym c.in_ok-name.ensures.name)
    (given-so (λ (done : Done). done ≡ done_of_time hand) c.check_time.result c.in_ok-done.done
    (sym c.ok.ensures.value ∙ c.in_ok-done.was) c.check_time.ensures.done)
    c.streets_left.ensures
