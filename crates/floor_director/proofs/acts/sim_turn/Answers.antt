use Rattle.std.proofs.Common.{◌≡◌, refl, sym, Some}
use Rattle.rulebook.proofs.Found.{none-by_test}
use Rattle.rulebook.proofs.Tests.{find-passes}
use Rattle.table_engine.specs.Hands.{due_in_hand, due_name, street_of}
use Rattle.table_engine.specs.Acts.{refusal_of_act}
use Rattle.floor_director.specs.SimulatedActs.{is_lawful_act, listed_acts, simulated_act}
use Rattle.floor_director.proofs.SimulatedActs.{due-goes_on, facing-street}
use Rattle.floor_director.proofs.acts.sim_turn.Goals as goal

pub first_listed-requires-clause-due : goal.first_listed-requires-clause-due
first_listed-requires-clause-due c =
    due-goes_on c.args.hand.now c.in_ok-name.name c.in_ok-facing.facing c.start-start.ensures.lawful
    (sym c.in_ok-name.ensures.name) (sym c.in_ok-facing.ensures.facing)

pub returns-clause-act : goal.returns-clause-act
unfolding simulated_act
returns-clause-act c =
    let hand = c.args.hand.now in
    let called : due_name hand ≡ Some c.in_ok-name.name = sym c.in_ok-name.ensures.name in
    let faces = facing-street (street_of hand) (due_in_hand hand) c.in_ok-facing.facing
    (sym c.in_ok-facing.ensures.facing) in
    rw (called, ← c.act_number.ensures.number, ← faces.0, ← faces.1, c.first_listed.ensures) refl

pub returns-clause-lawful : goal.returns-clause-lawful
returns-clause-lawful c =
    let hand = c.args.hand.now in
    let name = c.in_ok-name.name in
    let facing = c.in_ok-facing.facing in
    none-by_test (refusal_of_act hand name c.first_listed.result)
    (find-passes (is_lawful_act hand name) (listed_acts c.act_number.result facing.level facing.full)
    c.first_listed.result c.first_listed.ensures)
